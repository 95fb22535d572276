-- A cell that is to be made: what it is made of.
use Rattle.std.proofs.Common.{◌≡◌, ℕ, ◌-◌, ◌<◌, ◌≤◌, false, List, length, Some, slice_get, sym, ◌∙◌, ap, subst, arith}
use Rattle.std.specs.List.{range_with_len}
use Rattle.std.specs.Prelude.{Contains}
use Rattle.std.proofs.lemmas.Option.{same_Some}
use Rattle.heap_model.specs.Types.{Header, LayoutWord, Object, Cell}
use Rattle.tagged_word.specs.Headers.{IsHeader, header_bits}
use Rattle.tagged_word.specs.Layouts.{IsLayout}
use Rattle.tagged_word.specs.Cells.{cell_size, has_length, scavenge_offsets, store_slot}
use Rattle.tagged_word.proofs.Members.{range_bounds}
use Rattle.object_graph.specs.declared.object.Object.TheVariants.{Plain, Weak, List as ListOf}
use Rattle.heap_model.specs.Heaps.{Heap, words_of_cell}
use Rattle.heap_model.specs.Slots.{undefined_word}
use Rattle.heap_model.specs.Kinds.{HasWord, count_offset}
use Rattle.heap_model.specs.Laws.{RefersToNothing}
use Rattle.heap_model.proofs.WordClasses.{undefined_refers_not}

-- its header, its layout, and its words, which are so many; the first, so many, are its header and its slots
pub record NewCell : Type 0 where
  pub header : Header
  pub layout : LayoutWord
  pub head : ℕ
  pub size : ℕ
  pub words : List ℕ

-- the cell at an address
abbrev pub cell_of : ℕ → NewCell → Cell
cell_of at one = record { at = at; header = one.header; layout = one.layout; length = 0; size = one.size }

-- It is one of an object without a store: its slots, of which the first is that for the store, stand behind its header,
-- and each is `undefined`.
pub record RefersNowhere (one : NewCell) : Type 0 where
  pub long : length one.words ≡ one.size
  pub is_header : IsHeader one.header
  pub first : HasWord one.words 0 (header_bits one.header)
  pub is_layout : IsLayout one.layout
  pub no_length : has_length one.layout.kind ≡ false
  pub sized : cell_size one.layout 0 ≡ Some one.size
  pub some : store_slot < one.head
  pub within : one.head ≤ one.size
  pub offsets : scavenge_offsets one.layout 0 ≡ range_with_len store_slot (one.head - store_slot)
  pub slots : (offset : ℕ) → store_slot ≤ offset → offset < one.head → HasWord one.words offset undefined_word

-- the offset of each slot is one of these
pub slot_in_head : {one : NewCell} (offset : ℕ) → RefersNowhere one → Contains (scavenge_offsets one.layout 0) offset
    → (store_slot ≤ offset) × (offset < one.head)
slot_in_head {one} offset fresh there =
    let bounds = range_bounds store_slot (one.head - store_slot) offset
    (subst (λ offsets. Contains offsets offset) fresh.offsets there) in
    (bounds.0, omega (arith, bounds.1, fresh.some))

-- so it refers to nothing
pub fresh_refers_not : (heap : Heap) (at : ℕ) {one : NewCell} → RefersNowhere one
    → words_of_cell heap (cell_of at one) ≡ one.words
    → RefersToNothing (cell_of at one) (words_of_cell heap (cell_of at one))
fresh_refers_not heap at fresh are offset word to there stands refers =
    let bounds = slot_in_head offset fresh there in
    let word_is : undefined_word ≡ word =
    same_Some undefined_word word
    (sym (fresh.slots offset bounds.0 bounds.1) ∙ ap (λ words. slice_get words offset) (sym are) ∙ stands) in
    undefined_refers_not to (word_is ∙ refers)

-- of a weak map: the words of its own cell say that none of its pairs is filled
abbrev pub CountsNone : List ℕ → Object → Type 0
CountsNone words (Plain cap proto fields) = Unit {0}
CountsNone words (ListOf elements) = Unit {0}
CountsNone words (Weak entries) = HasWord words count_offset 0
