-- The words that slots come to hold for values that can be reached may be held where a cycle of marking is open.
use Rattle.std.proofs.Common.{◌≡◌, ℕ, ◌<◌, Bool, IsTrue, Contains, inl, inr, arith}
use Rattle.page_space.specs.Extents.{eden_start}
use Rattle.page_space.specs.Sizes.{AreWithin}
use Rattle.heap_model.specs.Types.{Word, Value, Rep}
use Rattle.object_graph.specs.Graphs.{Graph}
use Rattle.object_graph.specs.Reach.{is_marked, reach}
use Rattle.heap_model.specs.Slots.{IsPlace, reference_word}
use Rattle.heap_table.specs.Phases.{Mark}
use Rattle.cycle_laws.proofs.Kept.{kept_cases}
use Rattle.cycle_laws.proofs.ReachedKept.{reached_is_kept}
use Rattle.write_barrier.specs.MutatorState.{Mutator, heap_of, MainShows}
use Rattle.write_barrier.specs.Storing.{MayHold}
use Rattle.object_cells.specs.HeldValues.{IsReachedValue}
use Rattle.object_cells.specs.declared.content.SlotContent.TheVariants as content
use Rattle.object_cells.proofs.CellsRead.{fits_address, place_before_marks}
use Rattle.object_cells.proofs.HeldContents.{HoldsValue}
use Rattle.object_cells.proofs.HoldableWords.{small_may_hold, undefined_may_hold, reference_may_hold}

-- the cell of a page at which an object stands that can be reached is born
pub reached_born : {main : Mutator} {graph : Graph} (number at : ℕ) → MainShows main graph
    → IsTrue (is_marked (reach graph) number) → IsPlace (heap_of main) number at → main.seat.phase ≡ Mark
    → at < eden_start main.seat.space → Contains main.cycle.born at
reached_born {main} {graph} number at shows reached place mark below =
    elim (kept_cases (heap_of main) main.cycle.born at (reached_is_kept (heap_of main) graph main.cycle number at
    shows.shows (shows.calm mark).rests.keeps reached place)) [
      | inl young ↦ absurd (omega (arith, young, below))
      | inr counts ↦ counts
    ]

-- a reference to it may be held
pub reached_may_hold : {main : Mutator} {graph : Graph} (number at : ℕ) → MainShows main graph
    → AreWithin main.seat.space.sizes main.seat.space.variables → IsTrue (is_marked (reach graph) number)
    → IsPlace (heap_of main) number at → MayHold main (reference_word at)
reached_may_hold number at shows within reached place =
    let fits = fits_address (place_before_marks shows.shows.whole.sized place) within in
    reference_may_hold at (omega (arith, fits)) (reached_born number at shows reached place)

-- and so may the tagged word that a slot comes to hold for a value that can be reached
pub content_may_hold : {main : Mutator} {graph : Graph} {own : Bool} {was one : Rep} {what : Value} (word : Word)
    → MainShows main graph → AreWithin main.seat.space.sizes main.seat.space.variables → IsReachedValue graph what
    → HoldsValue (heap_of main) own was one what (content.Tagged word) → MayHold main word.0
content_may_hold word shows within reached (HoldsValue.small_integer one v is apart) = small_may_hold v is
content_may_hold word shows within reached HoldsValue.undefined = undefined_may_hold
content_may_hold word shows within reached (HoldsValue.object at number place) =
    reached_may_hold number at shows within reached place
