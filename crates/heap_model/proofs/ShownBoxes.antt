-- A slot refers to a box exactly where the graph has a wide value there.
use Rattle.std.proofs.Common.{◌≡◌, ℕ, ◌+◌, ◌<◌, ◌^◌, Bool, true, false, not, Option, Some, None, List, ℤ}
use Rattle.std.proofs.Common.{refl, sym, ◌∙◌, ap, subst, arith}
use Rattle.tagged_word.specs.Readings.{reference_in}
use Rattle.tagged_word.proofs.Readings.{reference_from, reference_to}
use Rattle.page_space.specs.Extents.{marks_start}
use Rattle.page_space.specs.RegionLaws.{IsSpace}
use Rattle.page_space.proofs.Starts.{layouts_start_is, marks_start_is, board_start_is, words_count_is}
use Rattle.page_space.proofs.Limits.{words_count_most}
use Rattle.page_space.proofs.CellEnds.{end_before_roots, before_end}
use Rattle.heap_model.specs.Types.{Value, Rep, Cell}
use Rattle.object_graph.specs.declared.value.Rep.TheVariants as rep
use Rattle.heap_model.specs.Heaps.{Heap, HasCell}
use Rattle.heap_model.specs.Slots.{reference_word, RefersToPlace, RefersToBox}
use Rattle.heap_model.specs.Wholeness.{HasSizes}
use Rattle.heap_model.specs.Showing.{ShowsValue, ShowsField}
use Rattle.heap_model.specs.Needs.{is_box_at, is_box_word}
use Rattle.heap_model.specs.Rooms.{is_wide, is_boxed}
use Rattle.heap_model.proofs.CellsApart.{has_is_cell}
use Rattle.heap_model.proofs.WordClasses.{undefined_refers_not, small_refers_not}
use Rattle.heap_model.proofs.BoxShapes.{told_box, told_object}

-- the words of a cell's address and of the one behind it are before the marks, and the address has 32 bits
pub cell_before : {heap : Heap} {cell : Cell} {words : List ℕ} → HasCell heap cell words
    → cell.at + 1 < marks_start heap.space
cell_before {heap} {cell} has =
    let is_cell = has_is_cell has in
    omega (
      arith,
      before_end heap.space cell.at is_cell.end is_cell.stands,
      end_before_roots heap.space cell.at is_cell.end is_cell.stands,
      layouts_start_is heap.space,
      marks_start_is heap.space,
    )

-- the address of a cell has 32 bits
pub address_fits : {heap : Heap} {cell : Cell} {words : List ℕ} → IsSpace heap.space → HasCell heap cell words
    → cell.at < 2 ^ 32
address_fits {heap} space has =
    omega (
      arith,
      cell_before has,
      words_count_most heap.space space,
      board_start_is heap.space,
      words_count_is heap.space,
    )

-- a word that is no reference refers to no box
no_box : (heap : Heap) (word : ℕ) (found : Option ℕ) → ((at : ℕ) → word ≡ reference_word at → ⊥)
    → reference_in word ≡ found → is_box_at heap found ≡ false
no_box heap word None apart read = refl
no_box heap word (Some at) apart read = absurd (apart at (reference_from word at read).1)

-- a word that refers to a box is told to do so
pub box_told : {heap : Heap} {word : ℕ} {v : ℤ} → IsSpace heap.space → HasSizes heap → (box : RefersToBox heap word v)
    → (reference_in word ≡ Some box.cell.at) × (is_box_word heap word ≡ true)
box_told {heap} {word} space sized box =
    let refers = reference_to word box.cell.at (address_fits space box.target.has) box.target.refers in
    (refers, ap (is_box_at heap) refers ∙ told_box sized box.target.has box.box)

-- and one that refers to an object is not
object_told : {heap : Heap} {word number : ℕ} → IsSpace heap.space → HasSizes heap → RefersToPlace heap word number
    → is_box_word heap word ≡ false
object_told {heap} {word} space sized refers =
    let place = refers.place in
    let fits : refers.at < 2 ^ 32 = subst (λ (at : ℕ). at < 2 ^ 32) place.stands (address_fits space place.has) in
    ap (is_box_at heap) (reference_to word refers.at fits refers.refers)
    ∙ ap (λ (at : ℕ). is_box_at heap (Some at)) (sym place.stands) ∙ told_object sized place.has place.object

-- a slot that shows a value refers to a box where the value is wide
pub value_boxed : {heap : Heap} (word : ℕ) (value : Value) → IsSpace heap.space → HasSizes heap
    → ShowsValue heap word value → is_box_word heap word ≡ is_wide value
value_boxed {heap} word value space sized (ShowsValue.small_integer v is same) =
    no_box heap word (reference_in word) (λ at refers. small_refers_not v at (sym same ∙ refers)) refl
    ∙ ap not (sym is)
value_boxed word value space sized (ShowsValue.boxed v wide box) = (box_told space sized box).1 ∙ ap not (sym wide)
value_boxed {heap} word value space sized (ShowsValue.undefined same) =
    no_box heap word (reference_in word) (λ at refers. undefined_refers_not at (sym same ∙ refers)) refl
value_boxed word value space sized (ShowsValue.object number refers) = object_told space sized refers

-- and one that shows a field where that stands in a box, if it is not raw
pub field_boxed : {heap : Heap} (own : Bool) (word : ℕ) (one : Rep) (value : Value) → IsSpace heap.space
    → HasSizes heap → (own ≡ true → one ≡ rep.Wide → ⊥) → ShowsField heap own word one value
    → is_box_word heap word ≡ is_boxed own one value
field_boxed {heap} own word one value space sized apart (ShowsField.small_integer v is same) =
    no_box heap word (reference_in word) (λ at refers. small_refers_not v at (sym same ∙ refers)) refl
field_boxed true word one value space sized apart (ShowsField.wide v shows) = absurd (apart refl refl)
field_boxed false word one value space sized apart (ShowsField.wide v shows) = (box_told space sized shows).1
field_boxed own word one value space sized apart (ShowsField.tagged inner shows) =
    value_boxed word inner space sized shows
