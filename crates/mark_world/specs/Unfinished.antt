-- What holds between the steps of a command, while the mutator is making or changing cells.
use Rattle.std.specs.Prelude.{◌≡◌, ◌≢◌, ℕ, ◌+◌, ◌⊎◌, false, List, [], ◌∷◌, All, Contains, IsSome, map}
use Rattle.mark_world.specs.declared.event.Event.{Event}
use Rattle.mark_world.specs.declared.event.Event.TheVariants as event
use Rattle.mark_world.specs.declared.world.World.{World}
use Rattle.mark_world.specs.Pages.{OfTarget, is_head_of}
use Rattle.mark_world.specs.Conditions.{AreSureAfter}
use Rattle.mark_world.specs.AfterEvents.{after, Possible}
use Rattle.mark_world.specs.Coverage.{EachSlot, cell_of}
use Rattle.mark_world.specs.BetweenCommands.{HasSureTarget}

-- the mutator is sure of a cell, or owes it
abbrev pub IsSureOrOwed : World → ℕ → Type 0
IsSureOrOwed world to = Contains world.main.sure to ⊎ Contains world.main.owed to

-- a word has no target, or one that the mutator is sure of or owes
abbrev pub HasSureOrOwed : World → ℕ → Type 0
HasSureOrOwed world word = OfTarget world.old word (IsSureOrOwed world)

-- a cell is read at the address, and this holds of the word of each of its tagged slots
pub record ReadsSlots (world : World) (P : ℕ → Type 0) (at : ℕ) : Type 0 where
  pub reads : IsSome (cell_of world at)
  pub slots : EachSlot world at (λ offset. P)

-- The mutator's part is done but for the cells of a list, which it is making or changing: it owes nothing, and each
-- other cell that it made black is read, and has tagged slots of whose targets it is sure.
pub record SettledBut (world : World) (made : List ℕ) : Type 0 where
  pub owed : world.main.owed ≡ []
  pub sure : All (λ at. Contains made at ⊎ ReadsSlots world (HasSureTarget world) at) world.main.mine

-- the same while the mutator still owes: it is sure of each such target, or owes it
abbrev pub SettlingBut : World → List ℕ → Type 0
SettlingBut world made = All (λ at. Contains made at ⊎ ReadsSlots world (HasSureOrOwed world) at) world.main.mine

-- each cell that the mutator made black is read
abbrev pub MineAreRead : World → Type 0
MineAreRead world = All (λ at. IsSome (cell_of world at)) world.main.mine

-- a word is no head of a cell that the mutator made black and is done with
abbrev pub IsNoHead : World → List ℕ → ℕ → Type 0
IsNoHead world made at = All (λ a. Contains made a ⊎ (is_head_of a (cell_of world a) at ≡ false)) world.main.mine

-- nor a tagged slot of one
abbrev pub IsNoSlot : World → List ℕ → ℕ → Type 0
IsNoSlot world made at = All (λ a. Contains made a ⊎ EachSlot world a (λ offset word. a + offset ≢ at)) world.main.mine

-- A word that goes where no helper visits spares the cells that the mutator is done with: it goes into no head of one,
-- and into no tagged slot, or its target is sure or owed.
pub record SparesOwned (world : World) (made : List ℕ) (at word : ℕ) : Type 0 where
  pub no_head : IsNoHead world made at
  pub slot : IsNoSlot world made at ⊎ HasSureOrOwed world word

-- A header that changes spares them: it is that of one of them, whose new tagged slots have sure targets, or it goes
-- into no head of one.
abbrev pub SparesHeader : World → List ℕ → ℕ → ℕ → Type 0
SparesHeader world made at word =
    All (λ a. Contains made a ⊎ (((a ≡ at) × AreSureAfter world.old world.words world.layouts world.main at word)
    ⊎ (is_head_of a (cell_of world a) at ≡ false))) world.main.mine

-- an event spares the cells that the mutator made black and is done with
abbrev pub Spares : World → List ℕ → Event → Type 0
Spares world made (event.StoreSlot at word) = IsNoHead world made at
Spares world made (event.StoreOwned at word) = SparesOwned world made at word
Spares world made (event.StoreHeader at word) = SparesHeader world made at word
Spares world made _ = Unit {0}

-- the cells that the mutator is making or changing after an event: a new black one joins them
abbrev pub made_after : List ℕ → Event → List ℕ
made_after made (event.NewBlack at) = at ∷ made
made_after made _ = made

-- a target, or the cells that a helper was to visit, may come to be owed by the event
abbrev pub MayOwe : Event → Type 0
MayOwe (event.StoreSlot at word) = Unit {0}
MayOwe (event.Blacken at) = Unit {0}
MayOwe (event.Return number) = Unit {0}
MayOwe _ = ⊥

-- the events that shade these cells, one after another
abbrev pub shades : List ℕ → List Event
shades list = map (λ at. event.ShadeMain at) list

-- the cells that the mutator is making or changing after a list of events
abbrev pub made_after_all : List ℕ → List Event → List ℕ
made_after_all made [] = made
made_after_all made (of ∷ rest) = made_after_all (made_after made of) rest

-- each event of a list is possible at its moment, and spares the cells that the mutator is done with then
abbrev pub EachSpares : World → List ℕ → List Event → Type 0
EachSpares world made [] = Unit {0}
EachSpares world made (of ∷ rest) =
    Possible world of × Spares world made of × EachSpares (after world of) (made_after made of) rest
