-- The boxes that words of slots refer to, and how many words of a new one that takes.
use Rattle.std.proofs.Common.{◌≡◌, ℕ, Bool, true, false, List, Option, Some, None, unwrap_or}
use Rattle.std.proofs.Common.{refl, sym, ◌∙◌, ap, subst, not}
use Rattle.std.specs.Prelude.{ℤ, option_map, if◌then◌else◌}
use Rattle.std.specs.Option.{option_and_then}
use Rattle.std.proofs.lemmas.Bool.{false≢true, eqb-true}
use Rattle.std.proofs.lemmas.Option.{none-some}
use Rattle.heap_model.specs.Types.{Header, Cell}
use Rattle.tagged_word.specs.declared.layout.Kind.TheVariants as kind
use Rattle.tagged_word.specs.Headers.{header_bits}
use Rattle.tagged_word.specs.Readings.{reference_in, header_in}
use Rattle.tagged_word.specs.Shapes.{box_shape}
use Rattle.tagged_word.proofs.Readings.{header_to, reference_from}
use Rattle.nursery.specs.Young.{HasRoom}
use Rattle.heap_model.specs.Heaps.{Heap, HasCell}
use Rattle.heap_model.specs.Slots.{reference_word, IsSlotWord, RefersTo}
use Rattle.heap_model.specs.Needs.{box_need, is_box_at, is_box_word, shape_at}
use Rattle.heap_model.specs.Wholeness.{HasSizes}
use Rattle.heap_model.proofs.CellsApart.{has_is_cell}
use Rattle.write_barrier.specs.MutatorState.{Mutator}
use Rattle.write_barrier.specs.declared.room.NoRoom.{NoRoom}
use Rattle.object_cells.specs.declared.content.SlotContent.TheVariants as content
use Rattle.object_cells.specs.declared.content.SlotWrite.{SlotWrite}
use Rattle.object_cells.specs.declared.content.SlotWrite.TheVariants as filling
use Rattle.object_cells.specs.Contents.{box_in, filling_of, filling_need, LacksRoom}
use Rattle.object_cells.proofs.CellsRead.{shape_is_box}
use Rattle.object_cells.proofs.WordsTold.{slot_target}

-- the shape that is read where a cell stands is its own
pub shape_read : {heap : Heap} {cell : Cell} {words : List ℕ} → HasCell heap cell words
    → shape_at heap cell.at ≡ cell.header.shape
shape_read {heap} {cell} has =
    let reads = (has_is_cell has).reads in
    let shape : Option Header → ℕ = λ found. unwrap_or (option_map (λ (header : Header). header.shape) found) 0 in
    ap (λ found. shape (option_and_then header_in found)) reads.first
    ∙ ap shape (header_to (header_bits cell.header) cell.header reads.is_header refl)

-- an integer that goes into a box takes the words of one where the slot refers to none
need_by_box : (refers : Option ℕ) (test : Bool) (at : ℕ) (v : ℤ) → (refers ≡ None → test ≡ false)
    → filling_need (filling_of (if test then refers else None) at (content.Boxed v)) ≡ box_need (not test)
need_by_box None true at v none = absurd (false≢true (sym (none refl)))
need_by_box None false at v none = refl
need_by_box (Some box) true at v none = refl
need_by_box (Some box) false at v none = refl

-- so it is with the word of a slot
pub boxed_need : (heap : Heap) (word at : ℕ) (v : ℤ)
    → filling_need (filling_of (box_in heap word) at (content.Boxed v)) ≡ box_need (not (is_box_word heap word))
boxed_need heap word at v =
    need_by_box (reference_in word) (is_box_word heap word) at v (λ none. ap (is_box_at heap) none)

-- the box to which a word refers
pub record IsBoxOf (heap : Heap) (word at : ℕ) : Type 0 where
  pub cell : Cell
  pub words : List ℕ
  pub refers : RefersTo heap word cell words
  pub box : cell.layout.kind ≡ kind.Boxed
  pub stands : cell.at ≡ at

-- what is chosen by a test is there where the test holds
chosen : (test : Bool) (found : Option ℕ) (at : ℕ) → (if test then found else None) ≡ Some at
    → (test ≡ true) × (found ≡ Some at)
chosen true found at is = (refl, is)
chosen false found at is = absurd (none-some at is)

-- the box that is told of a slot's word is that
pub box_of_word : {heap : Heap} (word at : ℕ) → HasSizes heap → IsSlotWord heap word → box_in heap word ≡ Some at
    → IsBoxOf heap word at
box_of_word {heap} word at sized slot is =
    let parts = chosen (is_box_word heap word) (reference_in word) at is in
    let refers = (reference_from word at parts.1).1 in
    let there = slot_target word at slot refers in
    let told : is_box_at heap (Some at) ≡ true = ap (is_box_at heap) (sym parts.1) ∙ parts.0 in
    let shape : there.cell.header.shape ≡ box_shape =
    sym (shape_read there.has) ∙ ap (shape_at heap) there.stands ∙ eqb-true (shape_at heap at) box_shape told in
    record {
      cell = there.cell;
      words = there.words;
      refers = record { refers = refers ∙ ap reference_word (sym there.stands); has = there.has };
      box = shape_is_box sized there.has shape;
      stands = there.stands;
    }

-- where there is no room, so many words were needed
pub lacks_need : (main : Mutator) (filling : SlotWrite) (full : NoRoom) → LacksRoom main filling full
    → (full.need ≡ filling_need filling) × (HasRoom main.young full.need → ⊥)
lacks_need main (filling.Tagged word) full lacks = absurd lacks
lacks_need main (filling.Raw word) full lacks = absurd lacks
lacks_need main (filling.NewBox at v) full lacks = (lacks.0, λ room. lacks.1 (subst (HasRoom main.young) lacks.0 room))
lacks_need main (filling.OldBox at v) full lacks = absurd lacks
