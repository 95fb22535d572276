-- Steps on colours and on the board, each an event.
use Rattle.std.proofs.Common.{◌≡◌, ℕ, ◌+◌, ◌-◌, ◌^◌, ◌<◌, ◌==◌, [], length, Option, sym, refl, ap, ◌∙◌, arith}
use mathlib.Core.Option.{none}
use prog.Atomic.{either}
use Rattle.atomic_table.specs.Table.{Me, step, Allows}
use Rattle.tagged_word.specs.declared.word.Class.TheVariants.{Ref}
use Rattle.tagged_word.specs.Readings.{reference_in}
use Rattle.tagged_word.specs.Words.{bits_of}
use Rattle.tagged_word.proofs.Readings.{reference_to}
use Rattle.page_space.specs.Extents.{board_words}
use Rattle.mark_laws.specs.Types.{Spot}
use Rattle.mark_world.specs.declared.event.Event.TheVariants as event
use Rattle.shared_table.specs.declared.overview.Counts.{Counts}
use Rattle.shared_table.specs.declared.overview.Overview.{Overview}
use Rattle.shared_table.specs.declared.overview.View.{View}
use Rattle.shared_table.specs.declared.overview.View.TheVariants.{Main}
use Rattle.shared_table.specs.declared.phase.Phase.TheVariants.{Mark}
use Rattle.shared_table.specs.Keeping.{KeepsRule}
use Rattle.shared_table.specs.Changes.{MayDo, told_at}
use Rattle.shared_table.specs.Told.{tells_event, tells_found, tells_left}
use Rattle.shared_table.specs.Told.{shade_event, blacken_event, new_event, give_event, take_event, cell_referred}
use Rattle.shared_table.proofs.KeptRule.{either_if}
use Rattle.shared_table.proofs.EventSteps.{store_may, found_may, left_may}

module _ {S : Type 0} (key counts : Counts) (id slots a place : ℕ) (me : Me S View) (main : Overview)
    (is_key : key ≡ counts) (is_id : id ≡ 0) (is_me : me ≡ (Main main, [])) (marks : main.phase ≡ Mark)
    (old : main.old ≡ counts.old) (layouts : length main.layouts ≡ counts.shapes) where
  -- the cell of a colour's place
  cell_is : (counts.old + (counts.shapes + a)) - (main.old + length main.layouts) ≡ a
  cell_is = omega (arith, old, layouts)

  -- and the place of a word of the board
  place_is : (counts.old + (counts.shapes + (counts.old + a))) - (main.old + (length main.layouts + main.old)) ≡ a
  place_is = omega (arith, old, layouts)

  -- a white cell turns grey
  pub shade_may : place ≡ counts.old + (counts.shapes + a) → a < counts.old → MayDo main (event.ShadeMain a)
      → Allows (KeepsRule {S = S} key) slots id me place (λ m. either (m == 0) 1 m)
      (tells_found shade_event (step slots place 0 1 none) me)
  shade_may is_place inside may =
      found_may {S = S} key counts id slots place me main (Spot.Colour a) (event.ShadeMain a) is_key is_id is_me
      is_place
      inside marks (λ others colours board. may) (λ others colours board. refl) shade_event (λ m. either (m == 0) 1 m)
      0 1
      (λ m. either_if (m == 0) 1 m) (ap (λ (i : ℕ). event.ShadeMain i) cell_is) refl

  -- a cell that is not white stays as it is
  pub shade_left_may : place ≡ counts.old + (counts.shapes + a) → a < counts.old → MayDo main (event.ShadeMain a)
      → Allows (KeepsRule {S = S} key) slots id me place (λ m. m) (tells_left shade_event (step slots place 0 0 none)
      me)
  shade_left_may is_place inside may =
      left_may {S = S} key counts id slots place me main (Spot.Colour a) (event.ShadeMain a) is_key is_id is_me
      is_place inside marks (λ others colours board. may) (λ others colours board. refl) shade_event
      (ap (λ (i : ℕ). event.ShadeMain i) cell_is) refl

  -- a black cell stays as it is
  pub blacken_left_may : place ≡ counts.old + (counts.shapes + a) → a < counts.old → MayDo main (event.Blacken a)
      → Allows (KeepsRule {S = S} key) slots id me place (λ m. m) (tells_left blacken_event (step slots place 0 0 none)
      me)
  blacken_left_may is_place inside may =
      left_may {S = S} key counts id slots place me main (Spot.Colour a) (event.Blacken a) is_key is_id is_me
      is_place inside marks (λ others colours board. may) (λ others colours board. refl) blacken_event
      (ap (λ (i : ℕ). event.Blacken i) cell_is) refl

  -- a cell turns black
  pub blacken_may : place ≡ counts.old + (counts.shapes + a) → a < counts.old → MayDo main (event.Blacken a)
      → Allows (KeepsRule {S = S} key) slots id me place (λ _. 2) (tells_found blacken_event (step slots place 2 0 none)
      me)
  blacken_may is_place inside may =
      found_may {S = S} key counts id slots place me main (Spot.Colour a) (event.Blacken a) is_key is_id is_me is_place
      inside marks (λ others colours board. may) (λ others colours board. refl) blacken_event (λ _. 2) 2 0 (λ m. refl)
      (ap (λ (i : ℕ). event.Blacken i) cell_is) refl

  -- a new cell is black
  pub new_may : place ≡ counts.old + (counts.shapes + a) → a < counts.old → MayDo main (event.NewBlack a)
      → Allows (KeepsRule {S = S} key) slots id me place (λ _. 2)
      (λ _. tells_event new_event (step slots place 2 0 none) me 2)
  new_may is_place inside may =
      store_may {S = S} key counts id slots place me main (Spot.Colour a) (event.NewBlack a) is_key is_id is_me is_place
      inside marks (λ others colours board. may) (λ others colours board. refl) new_event 2 (λ m. refl)
      (λ n. ap (λ (i : ℕ). told_at main (Spot.Colour i) (event.NewBlack i) n) (sym cell_is))

  -- a cell is given to the board
  pub give_may : (at word : ℕ) → place ≡ counts.old + (counts.shapes + (counts.old + a)) → at < 2 ^ 32
      → word ≡ bits_of (Ref at) → MayDo main (event.GiveMain a at)
      → Allows (KeepsRule {S = S} key) slots id me place (λ m. either (m == 0) word m)
      (tells_found give_event (step slots place 0 word none) me)
  give_may at word is_place fits is_word may =
      rw is_word
      (found_may {S = S} key counts id slots place me main (Spot.Board a) (event.GiveMain a at) is_key is_id is_me
      is_place
      may.on_board marks (λ others colours board. may) (λ others colours board. refl) give_event
      (λ m. either (m == 0) (bits_of (Ref at)) m) 0 (bits_of (Ref at)) (λ m. either_if (m == 0) (bits_of (Ref at)) m)
      (ap (λ (i : ℕ). event.GiveMain i (cell_referred (reference_in (bits_of (Ref at))))) place_is
      ∙ ap (λ (o : Option ℕ). event.GiveMain a (cell_referred o)) (reference_to (bits_of (Ref at)) at fits refl)) refl)

  -- a cell is taken from the board
  pub take_may : place ≡ counts.old + (counts.shapes + (counts.old + a)) → a < board_words
      → MayDo main (event.TakeMain a)
      → Allows (KeepsRule {S = S} key) slots id me place (λ _. 0) (tells_found take_event (step slots place 0 0 none)
      me)
  take_may is_place inside may =
      found_may {S = S} key counts id slots place me main (Spot.Board a) (event.TakeMain a) is_key is_id is_me is_place
      inside marks (λ others colours board. may) (λ others colours board. refl) take_event (λ _. 0) 0 0 (λ m. refl)
      (ap (λ (i : ℕ). event.TakeMain i) place_is) refl
