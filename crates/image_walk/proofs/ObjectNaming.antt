-- The slots of an object that refer to an address: its own, and those of the cell to which its slot 1 refers.
use Rattle.std.proofs.Common.{◌≡◌, ℕ, ◌+◌, ◌^◌, ◌<◌, ◌⊎◌, inl, inr, List, Contains, Some}
use Rattle.std.proofs.Common.{slice_get, IsTrue, refl, sym, ◌∙◌, ap, subst, arith, ◌≤◌}
use Rattle.std.proofs.lemmas.Option.{same_Some}
use Rattle.tagged_word.specs.Cells.{store_slot, scavenge_offsets, is_object_kind}
use Rattle.tagged_word.specs.Readings.{reference_in}
use Rattle.tagged_word.proofs.Readings.{reference_from, reference_to}
use Rattle.page_space.specs.Extents.{words_count}
use Rattle.page_space.proofs.Starts.{board_start_is, words_count_is}
use Rattle.heap_model.specs.Types.{Cell}
use Rattle.cell_layout.specs.Cells.{IsCell}
use Rattle.cell_layout.proofs.OneCell.{one_cell, slots_lie_within}
use Rattle.heap_model.specs.Heaps.{Heap, HasCell, words_of_cell}
use Rattle.heap_model.specs.Slots.{reference_word}
use Rattle.heap_model.specs.Kinds.{HasWord}
use Rattle.heap_model.specs.Wholeness.{HasSlotAt}
use Rattle.heap_model.proofs.CellsApart.{has_is_cell}
use Rattle.heap_model.proofs.ObjectSlots.{store_slot_in}
use Rattle.image_walk.specs.Words.{HasWords}
use Rattle.image_walk.specs.Spans.{StandsIn}
use Rattle.image_walk.specs.Naming.{IsSlotIn, IsNextTo, IsSlotNextTo, IsSlotOf}
use Rattle.image_walk.proofs.SpanWords.{slice_get-words_of_cell, address_few}

-- an object has a slot 1
pub slot_within : (heap : Heap) (object : Cell) → StandsIn heap object → IsTrue (is_object_kind object.layout.kind)
    → store_slot < object.size
slot_within heap object stands is =
    (slots_lie_within heap.space heap.words object store_slot (has_is_cell stands)
    (store_slot_in object.layout.kind object.layout object.length is)).within

-- the address of the cell to which slot 1 refers is that of its word
pub next_to_at : (heap : Heap) (object other : Cell) (word : ℕ) → HasWords heap → words_count heap.space < 2 ^ 32
    → HasWord (words_of_cell heap object) store_slot word → IsNextTo heap object other
    → reference_in word ≡ Some other.at
next_to_at heap object other word sized few there is =
    reference_to word other.at (address_few heap other _ sized is.stands few) (same_Some _ _ (sym there ∙ is.slot))

-- a cell that words at that address read as is the one, where one stands there
pub is_next_to : (heap : Heap) (object cell other : Cell) (word at : ℕ)
    → HasWord (words_of_cell heap object) store_slot word → reference_in word ≡ Some at
    → IsCell heap.space heap.words cell → cell.at ≡ at → StandsIn heap other → other.at ≡ at
    → IsNextTo heap object cell
is_next_to heap object cell other word at there refers is_cell place stands place_too =
    let same : other ≡ cell =
    one_cell heap.space heap.words other cell (has_is_cell stands) is_cell (place_too ∙ sym place) in
    record {
      slot = there ∙ ap (λ w. Some w) ((reference_from word at refers).1 ∙ ap reference_word (sym place));
      stands = subst (StandsIn heap) same stands;
    }

-- a slot of a cell is before the end of the words
pub slot_before : (heap : Heap) (cell : Cell) (offset : ℕ) → HasWords heap → IsCell heap.space heap.words cell
    → Contains (scavenge_offsets cell.layout cell.length) offset → cell.at + offset + 1 ≤ words_count heap.space
slot_before heap cell offset sized is_cell among =
    omega (
      arith,
      (slots_lie_within heap.space heap.words cell offset is_cell among).within,
      is_cell.reads.there,
      sized,
      board_start_is heap.space,
      words_count_is heap.space,
    )

-- the word of a slot stands at its address
slot_word : {heap : Heap} {cell : Cell} {words : List ℕ} (offset word : ℕ) → HasCell heap cell words
    → Contains (scavenge_offsets cell.layout cell.length) offset → HasWord words offset word
    → slice_get heap.words (cell.at + offset) ≡ Some word
slot_word {heap} {cell} {words} offset word has among there =
    let within = (slots_lie_within heap.space heap.words cell offset (has_is_cell has) among).within in
    sym (slice_get-words_of_cell heap cell offset within) ∙ ap (λ all. slice_get all offset) has.words_are ∙ there

-- and the other way round
word_of_slot : (heap : Heap) (cell : Cell) (named slot : ℕ) → StandsIn heap cell → (is : IsSlotIn heap cell named slot)
    → HasWord (words_of_cell heap cell) is.offset (reference_word named)
word_of_slot heap cell named slot stands is =
    let within = (slots_lie_within heap.space heap.words cell is.offset (has_is_cell stands) is.among).within in
    slice_get-words_of_cell heap cell is.offset within ∙ ap (slice_get heap.words) is.place ∙ is.refers

-- an own slot is one of the object's
pub own_slot : (heap : Heap) (object : Cell) (named slot : ℕ) → StandsIn heap object → IsSlotIn heap object named slot
    → IsSlotOf heap object named slot
own_slot heap object named slot stands is =
    subst (IsSlotOf heap object named) is.place
    (HasSlotAt.own is.offset (reference_word named) is.among (word_of_slot heap object named slot stands is))

-- and so is one of the cell to which slot 1 refers
pub slot_beside_is : (heap : Heap) (object : Cell) (named slot : ℕ) → IsSlotNextTo heap object named slot
    → IsSlotOf heap object named slot
slot_beside_is heap object named slot is =
    let other = is.other in
    let stands = is.next_to.stands in
    subst (IsSlotOf heap object named) is.is.place
    (HasSlotAt.beside (reference_word other.at) other (words_of_cell heap other) is.is.offset (reference_word named)
    is.next_to.slot (record { refers = refl; has = stands }) is.is.among
    (word_of_slot heap other named slot stands is.is))

-- there are no others, whatever the words of the object
slot_cases : {heap : Heap} {object : Cell} {words : List ℕ} {slot word : ℕ} (named : ℕ) → StandsIn heap object
    → words_of_cell heap object ≡ words → word ≡ reference_word named → HasSlotAt heap object words slot word
    → IsSlotIn heap object named slot ⊎ IsSlotNextTo heap object named slot
slot_cases {heap} {object} {words} named stands same refers (HasSlotAt.own offset word among there) =
    let own : HasWord (words_of_cell heap object) offset word = ap (λ all. slice_get all offset) same ∙ there in
    inl record {
      offset = offset;
      among = among;
      place = refl;
      refers = slot_word offset word stands among own ∙ ap (λ w. Some w) refers;
    }
slot_cases {heap} {object} {words} named stands same refers
    (HasSlotAt.beside store other others offset word slot target among there) =
    inr record {
      other = other;
      next_to = record {
        slot = ap (λ all. slice_get all store_slot) same ∙ slot ∙ ap (λ w. Some w) target.refers;
        stands = subst (λ all. HasCell heap other all) (sym target.has.words_are) target.has;
      };
      is = record {
        offset = offset;
        among = among;
        place = refl;
        refers = slot_word offset word target.has among there ∙ ap (λ w. Some w) refers;
      };
    }

-- a slot of an object that refers to an address is one of its own or one of the cell to which its slot 1 refers
pub slot_is : (heap : Heap) (object : Cell) (named slot : ℕ) → StandsIn heap object → IsSlotOf heap object named slot
    → IsSlotIn heap object named slot ⊎ IsSlotNextTo heap object named slot
slot_is heap object named slot stands is = slot_cases named stands refl refl is
