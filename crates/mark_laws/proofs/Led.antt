-- Where nothing waits, words of which none has a white target lead to black cells alone.
use Rattle.std.proofs.Common.{ℕ, ◌≡◌, ◌≢◌, List, All}
use Rattle.std.proofs.lemmas.List.Elements.{All-contains}
use Rattle.mark_laws.specs.Types.{World}
use Rattle.mark_world.specs.Steps.{black, white}
use Rattle.mark_world.specs.AfterEvents.{IsMarked}
use Rattle.mark_world.specs.Coverage.{IsCovered, colour_of}
use Rattle.mark_world.specs.Soundness.{Sound}
use Rattle.mark_world.specs.BetweenCommands.{IsDrained, Settled}
use Rattle.mark_laws.specs.Leads.{HasColouredTarget, LedTo}
use Rattle.mark_laws.proofs.Drained.{covered_reached, next_reached, reached_black}
use Rattle.mark_laws.proofs.Joins.{all_from, of_target}

-- each cell that such words lead to is published and not white
led_reached : (world : World) (words : List ℕ) → Sound world → Settled world → IsDrained world
    → All (HasColouredTarget world) words → (at : ℕ) → LedTo world words at → IsMarked world at
led_reached world words sound settled drained each _ (LedTo.root from at there refers) =
    let coloured = of_target world.old from at (λ (to : ℕ). colour_of world to ≢ white) refers
    (All-contains (HasColouredTarget world) words from each there) in
    record { start = sound.lists.coloured at coloured; coloured = coloured }
led_reached world words sound settled drained each _ (LedTo.next from at offset cell before reads there refers) =
    next_reached world sound settled drained from at offset cell
    (led_reached world words sound settled drained each from before) reads there refers

-- so it is black
pub led_is_black : (world : World) (words : List ℕ) → Sound world → Settled world → IsDrained world
    → All (HasColouredTarget world) words → (at : ℕ) → LedTo world words at → colour_of world at ≡ black
led_is_black world words sound settled drained each at led =
    reached_black world sound drained at (led_reached world words sound settled drained each at led)

-- what the mutator is sure of is black
pub sure_is_black : (world : World) → Sound world → Settled world → IsDrained world
    → All (λ at. colour_of world at ≡ black) world.main.sure
sure_is_black world sound settled drained =
    all_from (λ (at : ℕ). colour_of world at ≡ black) world.main.sure (λ at sure.
    reached_black world sound drained at (covered_reached world sound.lists drained settled.owed at
    (All-contains (IsCovered world) world.main.sure at sound.sure.covered sure)))
