-- What a word stands for is of one sort.
use Rattle.std.proofs.Common.{◌≡◌, ℕ, slice_get, ℤ, refl, sym, ◌∙◌, ap, arith, IsTrue}
use Rattle.std.proofs.lemmas.Bool.{false≢true}
use Rattle.std.proofs.lemmas.Option.{same_Some}
use Rattle.std.proofs.lemmas.Int.{to_z-of_z}
use Rattle.std.specs.Prelude.{FitsSigned, pos, negsuc}
use Rattle.std.specs.Int.{w64, cast_signed}
use Rattle.heap_model.specs.Types.{Kind, Cell}
use Rattle.tagged_word.specs.declared.layout.Kind.TheVariants as kind
use Rattle.tagged_word.specs.Words.{small}
use Rattle.heap_model.specs.Heaps.{Heap, words_of_cell}
use Rattle.tagged_word.specs.Cells.{is_object_kind}
use Rattle.heap_model.specs.Slots.{small_word, undefined_word, hole_word, reference_word, raw_word}
use Rattle.heap_model.specs.Slots.{RefersTo, RefersToPlace, RefersToBox}
use Rattle.heap_model.proofs.WordClasses.{small_refers_not, undefined_refers_not, hole_refers_not}
use Rattle.heap_model.proofs.SlotWords.{same_target}
use Rattle.heap_model.proofs.NewKeys.{one_number}
use Rattle.image_walk.specs.declared.slots.Referent.{Referent}
use Rattle.image_walk.specs.declared.slots.Referent.TheVariants as sort
use Rattle.image_walk.specs.Sorts.{IsSort, RefersToOther, is_box_kind}

-- a small integer is not `undefined`
small_not_undefined : (v : ℤ) → small_word v ≡ undefined_word → ⊥
small_not_undefined (pos n) same = omega arith
small_not_undefined (negsuc n) same = omega arith

-- and no hole
small_not_hole : (v : ℤ) → small_word v ≡ hole_word → ⊥
small_not_hole (pos n) same = omega arith
small_not_hole (negsuc n) same = omega arith

-- one raw word is that of one integer
same_raw : (v other : ℤ) → FitsSigned w64 v → FitsSigned w64 other → raw_word v ≡ raw_word other → v ≡ other
same_raw v other fits fits_too same =
    sym (to_z-of_z w64 v fits) ∙ ap (cast_signed w64) same ∙ to_z-of_z w64 other fits_too

-- a reference to an object's place refers to the cell there
pub place_target : {heap : Heap} {word number : ℕ} (to : RefersToPlace heap word number)
    → RefersTo heap word to.place.cell to.place.words
place_target to = record { refers = to.refers ∙ ap reference_word (sym to.place.stands); has = to.place.has }

-- and so are the integers of two boxes
same_integer : {heap : Heap} {word : ℕ} {v other : ℤ} → RefersToBox heap word v → RefersToBox heap word other
    → v ≡ other
same_integer {heap} {v = v} {other} to to_other =
    let same = same_target to.target to_other.target in
    let words : to.words ≡ to_other.words =
    sym to.target.has.words_are ∙ ap (words_of_cell heap) same ∙ to_other.target.has.words_are in
    same_raw v other to.fits to_other.fits
    (same_Some _ _ (sym to.holds ∙ ap (λ all. slice_get all 1) words ∙ to_other.holds))

-- no object's cell is a box, by its kind
object_no_box : (k : Kind) → k ≡ kind.Boxed → IsTrue (is_object_kind k) → ⊥
object_no_box k boxed object = false≢true (sym (ap is_object_kind boxed) ∙ object)

-- so what refers to an object refers to no box
place_no_box : {heap : Heap} {word number : ℕ} {v : ℤ} → RefersToPlace heap word number → RefersToBox heap word v → ⊥
place_no_box to box =
    let same = same_target (place_target to) box.target in
    object_no_box to.place.cell.layout.kind (ap (λ (one : Cell). one.layout.kind) same ∙ box.box) to.place.object

-- nor to another cell
place_no_other : {heap : Heap} {word number : ℕ} {cell : Cell} → RefersToPlace heap word number
    → RefersToOther heap word cell → ⊥
place_no_other to other =
    let same = same_target (place_target to) other.refers in
    false≢true (sym other.no_object ∙ ap (λ (one : Cell). is_object_kind one.layout.kind) (sym same) ∙ to.place.object)

-- and what refers to a box refers to no other cell
box_no_other : {heap : Heap} {word : ℕ} {v : ℤ} {cell : Cell} → RefersToBox heap word v
    → RefersToOther heap word cell → ⊥
box_no_other box other =
    let same = same_target box.target other.refers in
    false≢true
    (sym other.no_box ∙ ap (λ (one : Cell). is_box_kind one.layout.kind) (sym same) ∙ ap is_box_kind box.box)

-- a small integer is of its own sort
pub small_sort : (heap : Heap) (v : ℤ) (of : Referent) → IsTrue (small v) → IsSort heap (small_word v) of
    → of ≡ sort.Small
small_sort heap v sort.Small is has = refl
small_sort heap v sort.Undefined is has = absurd (small_not_undefined v has)
small_sort heap v sort.Hole is has = absurd (small_not_hole v has)
small_sort heap v (sort.Object number) is has = absurd (small_refers_not v has.at has.refers)
small_sort heap v (sort.Boxed other) is has = absurd (small_refers_not v has.cell.at has.target.refers)
small_sort heap v (sort.Other cell) is has = absurd (small_refers_not v cell.at has.refers.refers)
small_sort heap v sort.Nothing is has = absurd (has.not_small (v, is, refl))

-- so is `undefined`
pub undefined_sort : (heap : Heap) (of : Referent) → IsSort heap undefined_word of → of ≡ sort.Undefined
undefined_sort heap sort.Small has = absurd (small_not_undefined has.0 (sym has.2))
undefined_sort heap sort.Undefined has = refl
undefined_sort heap sort.Hole has = absurd (omega (arith, has))
undefined_sort heap (sort.Object number) has = absurd (undefined_refers_not has.at has.refers)
undefined_sort heap (sort.Boxed v) has = absurd (undefined_refers_not has.cell.at has.target.refers)
undefined_sort heap (sort.Other cell) has = absurd (undefined_refers_not cell.at has.refers.refers)
undefined_sort heap sort.Nothing has = absurd (has.not_undefined refl)

-- and a hole
pub hole_sort : (heap : Heap) (of : Referent) → IsSort heap hole_word of → of ≡ sort.Hole
hole_sort heap sort.Small has = absurd (small_not_hole has.0 (sym has.2))
hole_sort heap sort.Undefined has = absurd (omega (arith, has))
hole_sort heap sort.Hole has = refl
hole_sort heap (sort.Object number) has = absurd (hole_refers_not has.at has.refers)
hole_sort heap (sort.Boxed v) has = absurd (hole_refers_not has.cell.at has.target.refers)
hole_sort heap (sort.Other cell) has = absurd (hole_refers_not cell.at has.refers.refers)
hole_sort heap sort.Nothing has = absurd (has.not_hole refl)

-- and a reference to an object
pub object_sort : (heap : Heap) (word number : ℕ) (of : Referent) → RefersToPlace heap word number → IsSort heap word of
    → of ≡ sort.Object number
object_sort heap word number sort.Small to has = absurd (small_refers_not has.0 to.at (sym has.2 ∙ to.refers))
object_sort heap word number sort.Undefined to has = absurd (undefined_refers_not to.at (sym has ∙ to.refers))
object_sort heap word number sort.Hole to has = absurd (hole_refers_not to.at (sym has ∙ to.refers))
object_sort heap word number (sort.Object other) to has =
    ap (λ n. sort.Object n) (one_number heap word other number has to)
object_sort heap word number (sort.Boxed v) to has = absurd (place_no_box to has)
object_sort heap word number (sort.Other cell) to has = absurd (place_no_other to has)
object_sort heap word number sort.Nothing to has =
    absurd (has.refers_not to.place.cell to.place.words (place_target to))

-- and to a box
pub box_sort : (heap : Heap) (word : ℕ) (v : ℤ) (of : Referent) → RefersToBox heap word v → IsSort heap word of
    → of ≡ sort.Boxed v
box_sort heap word v sort.Small to has = absurd (small_refers_not has.0 to.cell.at (sym has.2 ∙ to.target.refers))
box_sort heap word v sort.Undefined to has = absurd (undefined_refers_not to.cell.at (sym has ∙ to.target.refers))
box_sort heap word v sort.Hole to has = absurd (hole_refers_not to.cell.at (sym has ∙ to.target.refers))
box_sort heap word v (sort.Object number) to has = absurd (place_no_box has to)
box_sort heap word v (sort.Boxed other) to has = ap (λ n. sort.Boxed n) (same_integer has to)
box_sort heap word v (sort.Other cell) to has = absurd (box_no_other to has)
box_sort heap word v sort.Nothing to has = absurd (has.refers_not to.cell to.words to.target)

-- and to any other cell
pub other_sort : (heap : Heap) (word : ℕ) (cell : Cell) (of : Referent) → RefersToOther heap word cell
    → IsSort heap word of
    → of ≡ sort.Other cell
other_sort heap word cell sort.Small to has = absurd (small_refers_not has.0 cell.at (sym has.2 ∙ to.refers.refers))
other_sort heap word cell sort.Undefined to has = absurd (undefined_refers_not cell.at (sym has ∙ to.refers.refers))
other_sort heap word cell sort.Hole to has = absurd (hole_refers_not cell.at (sym has ∙ to.refers.refers))
other_sort heap word cell (sort.Object number) to has = absurd (place_no_other has to)
other_sort heap word cell (sort.Boxed v) to has = absurd (box_no_other has to)
other_sort heap word cell (sort.Other one) to has = ap (λ c. sort.Other c) (same_target has.refers to.refers)
other_sort heap word cell sort.Nothing to has = absurd (has.refers_not cell (words_of_cell heap cell) to.refers)
