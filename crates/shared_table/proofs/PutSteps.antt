-- Words that are put while helpers may not mark.
use Rattle.std.proofs.Common.{◌≡◌, ◌≤◌, ℕ, List, [], All, sym, refl, ap, ◌∙◌}
use Rattle.std.proofs.lemmas.List.Elements.{All-set}
use mathlib.Core.Option.{none}
use Rattle.atomic_table.specs.Table.{Me, Step, keeps, step, Allows}
use Rattle.mark_laws.specs.Types.{Spot}
use Rattle.mark_world.specs.Steps.{black}
use Rattle.shared_table.specs.declared.overview.Counts.{Counts}
use Rattle.shared_table.specs.declared.overview.Overview.{Overview}
use Rattle.shared_table.specs.declared.overview.View.{View}
use Rattle.shared_table.specs.declared.overview.View.TheVariants.{Main}
use Rattle.shared_table.specs.declared.phase.Phase.TheVariants.{Mark}
use Rattle.shared_table.specs.Keeping.{KeepsRule}
use Rattle.shared_table.specs.Spots.{place_of, HasSpot, colours_with, with_spot}
use Rattle.shared_table.specs.Told.{tells_put}
use Rattle.shared_table.proofs.KeptRule.{main_rule, allows_less, spot_rule}

-- where a word is put at a spot, colours stay one of three: it is no colour, or one of these
abbrev pub KeepsThree : Spot → ℕ → Type 0
KeepsThree spot x = (colours : List ℕ) → All (λ colour. colour ≤ black) colours
    → All (λ colour. colour ≤ black) (colours_with spot x colours)

-- a colour that is one of three keeps them so
pub colour_keeps_three : (at x : ℕ) → x ≤ black → KeepsThree (Spot.Colour at) x
colour_keeps_three at x one colours three = All-set (λ (colour : ℕ). colour ≤ black) colours at x one three

-- a put is allowed
put_allowed : {S : Type 0} (counts : Counts) (slots x : ℕ) (main : Overview) (spot : Spot) → HasSpot counts spot
    → (main.phase ≡ Mark → ⊥) → KeepsThree spot x
    → Allows (KeepsRule {S = S} counts) slots 0 (Main main, []) (place_of counts spot) (λ _. x)
    (λ _ now. now ≡ (Main (with_spot main spot x), []))
put_allowed counts slots x main spot inside idle three s kept deep at bound =
    let k = main_rule counts s main kept at in (
      Main (with_spot main spot x),
      keeps,
      tt,
      (
        with_spot main spot x,
        spot_rule counts s main spot x main.view k inside (three k.colours k.sizes.three)
            (λ e. absurd (idle e)) (λ e. absurd (idle e)),
      ),
      refl,
    )

-- and tells what the main seat knows then
pub put_may : {S : Type 0} (key counts : Counts) (id slots place x : ℕ) (me : Me S View) (main : Overview) (spot : Spot)
    (by : Overview → Step S → Spot) → key ≡ counts → id ≡ 0 → me ≡ (Main main, []) → place ≡ place_of counts spot
    → HasSpot counts spot → (main.phase ≡ Mark → ⊥) → KeepsThree spot x
    → by main (step slots (place_of counts spot) x 0 none) ≡ spot
    → Allows (KeepsRule {S = S} key) slots id me place (λ _. x) (λ _. tells_put by (step slots place x 0 none) me x)
put_may {S} key counts id slots place x me main spot by is_key is_id is_me is_place inside idle three is_spot =
    rw (is_key, is_id, is_me, is_place)
    (allows_less (KeepsRule {S = S} counts) slots 0 (place_of counts spot) (Main main, []) (λ _. x)
    (λ _ now. now ≡ (Main (with_spot main spot x), []))
    (λ _. tells_put by (step slots (place_of counts spot) x 0 none) (Main main, []) x)
    (put_allowed {S = S} counts slots x main spot inside idle three)
    (λ n now t. t ∙ ap (λ (one : Spot). (Main (with_spot main one x), [])) (sym is_spot)))
