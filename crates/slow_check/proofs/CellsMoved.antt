-- A cell that stands in another heap, moved: whether the cell there is alike and its words are moved.
use Rattle.std.proofs.Common.{◌≡◌, ℕ, ◌<◌, ◌↔◌, inl, inr, Bool, List, length, Option, Some, Contains, IsTrue}
use Rattle.std.proofs.Common.{sym, ◌∙◌, ap, subst, arith}
use Rattle.std.proofs.lemmas.Bool.{cases_lt}
use Rattle.std.proofs.lemmas.Option.{same_Some, slice_get_within, slice_get_past}
use Rattle.tagged_word.specs.Cells.{scavenge_offsets}
use Rattle.heap_model.specs.Types.{Cell}
use Rattle.heap_model.specs.Heaps.{Heap, HasCell, words_of_cell}
use Rattle.heap_model.specs.Kinds.{HasWord}
use Rattle.heap_model.proofs.CellsApart.{one_at, one_words}
use Rattle.heap_moves.specs.Moved.{IsMovedWord, AreMoved, moved_to, StandsMoved}
use Rattle.image_walk.specs.Spans.{StandsIn}
use Rattle.slow_check.specs.MovedCells.{IsMovedAt, IsAlike, ComesTo, IsMovedCell}
use Rattle.slow_check.proofs.WordsMoved.{known_word_moved}

-- the word of a slot is moved where the words at its offset are
pub slot_moved : (to : ℕ → Option ℕ) (cell : Cell) (words others : List ℕ) (offset word now : ℕ) (moved : Bool)
    → Contains (scavenge_offsets cell.layout cell.length) offset → HasWord words offset word → HasWord others offset now
    → IsTrue moved ↔ IsMovedWord to word now → IsTrue moved ↔ IsMovedAt to cell words others offset
slot_moved to cell words others offset word now moved slot has has_now tells =
    let there = known_word_moved to words others offset word now moved has has_now tells in (
      λ yes. record { slot = λ visited. there.0 yes; raw = λ none. absurd (none slot) },
      λ is. there.1 (is.slot slot),
    )

-- the words are moved where that of each offset is
pub moved_by_each : (to : ℕ → Option ℕ) (cell : Cell) (words others : List ℕ) → length others ≡ length words
    → ((offset : ℕ) → offset < length words → IsMovedAt to cell words others offset) → AreMoved to cell words others
moved_by_each to cell words others long each = record {
  long = long;
  slots = λ offset word now visited has has_now.
      (each offset (slice_get_within words offset word has)).slot visited word now has has_now;
  raw = λ offset none. elim (cases_lt offset (length words)) [
    | inl within ↦ (each offset within).raw none
    | inr past ↦
        slice_get_past others offset (omega (arith, past, long)) ∙ sym (slice_get_past words offset past)
  ];
}

-- and the other way round
pub each_is_moved : {to : ℕ → Option ℕ} {cell : Cell} {words others : List ℕ} (offset : ℕ)
    → AreMoved to cell words others → IsMovedAt to cell words others offset
each_is_moved offset are = record {
  slot = λ visited word now. are.slots offset word now visited;
  raw = are.raw offset;
}

-- a cell that is alike, with these words moved, is the cell moved there
pub stands_there : (new : Heap) (to : ℕ → Option ℕ) (cell other : Cell) (words : List ℕ) (now : ℕ) → other.at ≡ now
    → StandsIn new other → IsAlike cell other → AreMoved to cell words (words_of_cell new other)
    → StandsMoved new to cell words now
stands_there new to cell other words now at stands alike are =
    let Has : Cell → Type 0 = λ one. HasCell new one (words_of_cell new other) in
    record {
      others = words_of_cell new other;
      has = subst Has (alike ∙ ap (moved_to cell) at) stands;
      are = are;
    }

-- the cell there is the one that stands at the address
there_is : {new : Heap} {to : ℕ → Option ℕ} {cell : Cell} {words : List ℕ} {now : ℕ} (other : Cell) → other.at ≡ now
    → StandsIn new other → StandsMoved new to cell words now → other ≡ moved_to cell now
there_is other at stands moved = one_at stands moved.has at

-- so it is alike
pub there_is_alike : (new : Heap) (to : ℕ → Option ℕ) (cell other : Cell) (words : List ℕ) (now : ℕ) → other.at ≡ now
    → StandsIn new other → StandsMoved new to cell words now → IsAlike cell other
there_is_alike new to cell other words now at stands moved =
    there_is other at stands moved ∙ ap (moved_to cell) (sym at)

-- and its words are the cell's, moved
pub there_are_moved : (new : Heap) (to : ℕ → Option ℕ) (cell other : Cell) (words : List ℕ) (now : ℕ) → other.at ≡ now
    → StandsIn new other → StandsMoved new to cell words now → AreMoved to cell words (words_of_cell new other)
there_are_moved new to cell other words now at stands moved =
    let Has : Cell → Type 0 = λ one. HasCell new one moved.others in
    let has : HasCell new other moved.others = subst Has (sym (there_is other at stands moved)) moved.has in
    subst (AreMoved to cell words) (one_words has stands) moved.are

-- where it is known to which address a cell comes, what is asked of it is asked there
pub moved_where_it_comes : (old new : Heap) (to : ℕ → Option ℕ) (cell : Cell) (now : ℕ) → to cell.at ≡ Some now
    → ComesTo old new to cell now ↔ IsMovedCell old new to cell
moved_where_it_comes old new to cell now stays = (
  λ comes other stays_too. subst (ComesTo old new to cell) (same_Some now other (sym stays ∙ stays_too)) comes,
  λ moved. moved now stays,
)
