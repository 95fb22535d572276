-- What the words of slots refer to has two words before the layout words.
use Rattle.std.proofs.Common.{◌≡◌, ℕ, ◌+◌, ◌≤◌, List, sym, ◌∙◌, arith, IsTrue, refl}
use Rattle.std.proofs.lemmas.Bool.{false≢true}
use Rattle.heap_model.specs.Types.{Kind, Cell}
use Rattle.tagged_word.specs.declared.layout.Kind.TheVariants as kind
use Rattle.tagged_word.specs.Cells.{words_of, is_object_kind}
use Rattle.page_space.specs.Extents.{layouts_start}
use Rattle.heap_model.specs.Heaps.{Heap, HasCell}
use Rattle.heap_model.specs.Slots.{reference_word, IsSlotWord}
use Rattle.heap_model.specs.Needs.{box_words}
use Rattle.heap_model.specs.Wholeness.{Whole}
use Rattle.heap_model.proofs.CellWords.{words_by_kind, words_are_size}
use Rattle.heap_model.proofs.WordClasses.{same_reference, undefined_refers_not, hole_refers_not, small_refers_not}
use Rattle.object_cells.proofs.CellsRead.{cell_before_layouts}

-- an object's cell has two words and more
pub object_words : (k : Kind) (cap long : ℕ) → IsTrue (is_object_kind k) → 2 ≤ words_of k cap long
object_words kind.Plain cap long object = omega arith
object_words kind.List cap long object = omega arith
object_words kind.Weak cap long object = omega arith
object_words _ cap long object = absurd (false≢true object)

-- a cell of two words ends before the layout words
two_before_layouts : {heap : Heap} {cell : Cell} {words : List ℕ} (k : Kind) (at : ℕ) → Whole heap
    → HasCell heap cell words
    → cell.layout.kind ≡ k → 2 ≤ words_of k cell.layout.cap cell.length → cell.at ≡ at
    → at + box_words ≤ layouts_start heap.space
two_before_layouts k at whole has of_kind two stands =
    omega (arith, words_by_kind k has of_kind, words_are_size has, cell_before_layouts whole has, stands, two)

-- what the word of a slot refers to has two words before the layout words
pub target_before_layouts : {heap : Heap} (word at : ℕ) → Whole heap → IsSlotWord heap word → word ≡ reference_word at
    → at + box_words ≤ layouts_start heap.space
target_before_layouts word at whole (IsSlotWord.small_integer v is) refers = absurd (small_refers_not v at refers)
target_before_layouts word at whole IsSlotWord.undefined refers = absurd (undefined_refers_not at refers)
target_before_layouts word at whole IsSlotWord.hole refers = absurd (hole_refers_not at refers)
target_before_layouts word at whole (IsSlotWord.object to object) refers =
    let place = object.1.place in
    let same : object.1.at ≡ at = same_reference object.1.at at (sym object.1.refers ∙ refers) in
    two_before_layouts place.cell.layout.kind at whole place.has refl
    (object_words place.cell.layout.kind place.cell.layout.cap place.cell.length place.object) (place.stands ∙ same)
target_before_layouts word at whole (IsSlotWord.boxed to v box) refers =
    let same : box.cell.at ≡ at = same_reference box.cell.at at (sym box.target.refers ∙ refers) in
    two_before_layouts kind.Boxed at whole box.target.has box.box (omega arith) same
