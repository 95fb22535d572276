-- A run of words in which a cell was made for an object: a store or a table, and a box behind it.
use Rattle.std.specs.Prelude.{◌≡◌, ◌≢◌, ℤ, ℕ, ◌+◌, ◌<◌, ◌≤◌, List, length, Some, slice_get}
use Rattle.tagged_word.specs.Headers.{header_bits}
use Rattle.tagged_word.specs.Cells.{store_slot, length_offset}
use Rattle.heap_model.specs.Types.{Cell}
use Rattle.heap_model.specs.Slots.{reference_word, raw_word}
use Rattle.object_cells.specs.declared.content.SlotContent.{SlotContent}
use Rattle.object_cells.specs.declared.content.SlotContent.TheVariants as content
use Rattle.object_cells.specs.Formats.{box_header}
use Rattle.object_cells.specs.Made.{content_need}

-- how many words the run has
abbrev pub run_words : Cell → SlotContent → ℕ
run_words first holds = first.size + content_need holds

-- the words of the box of an integer stand at the address
pub record HasBoxWords (words : List ℕ) (box : ℕ) (v : ℤ) : Type 0 where
  pub header : slice_get words box ≡ Some (header_bits box_header)
  pub raw : slice_get words (box + 1) ≡ Some (raw_word v)

-- Words become others. The run has the first two words of a cell, its header and its length, and behind the cell the
-- box that a slot comes to hold, if it needs one. The object at the address refers to the cell; `own` is the address of
-- the one other word that was put outside of the run.
pub record FillsRun (before after : List ℕ) (object own : ℕ) (first : Cell) (holds : SlotContent) : Type 0 where
  pub long : length after ≡ length before
  pub header : slice_get after first.at ≡ Some (header_bits first.header)
  pub counted : slice_get after (first.at + length_offset) ≡ Some first.length
  pub box : (v : ℤ) → holds ≡ content.Boxed v → HasBoxWords after (first.at + first.size) v
  pub named : slice_get after (object + store_slot) ≡ Some (reference_word first.at)
  pub stay : (a : ℕ) → a ≢ object + store_slot → a ≢ own
      → (first.at ≤ a → a < first.at + run_words first holds → ⊥) → slice_get after a ≡ slice_get before a
