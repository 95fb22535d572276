-- Which slots may hold a word, by the sort of what it stands for.
use Rattle.std.proofs.Common.{◌≡◌, ℕ, Bool, true, false, Some, ℤ, refl, sym, ◌∙◌, ap, subst, IsTrue}
use Rattle.std.proofs.lemmas.Bool.{false≢true, not-true, not_from_false}
use Rattle.std.proofs.lemmas.Option.{same_Some, none-some}
use Rattle.tagged_word.specs.Words.{small}
use Rattle.heap_model.specs.Types.{Rep}
use Rattle.object_graph.specs.declared.value.Rep.TheVariants as rep
use Rattle.heap_model.specs.Heaps.{Heap}
use Rattle.heap_model.specs.Slots.{RefersToPlace, RefersToBox, IsSlotWord, IsValueWord, IsWideWord, IsFieldWord}
use Rattle.image_walk.specs.declared.slots.Referent.{Referent}
use Rattle.image_walk.specs.declared.slots.Referent.TheVariants as sort
use Rattle.image_walk.specs.Sorts.{IsSort, is_slot_sort, is_value_sort, is_small_sort, is_box_sort, is_wide_sort}
use Rattle.image_walk.specs.Sorts.{is_field_sort, object_number}
use Rattle.image_walk.proofs.WordSorts.{small_sort, undefined_sort, hole_sort, object_sort, box_sort}

-- a word of these sorts may stand in a slot of a store or table
pub slot_from : (heap : Heap) (word : ℕ) (of : Referent) → IsSort heap word of → IsTrue (is_slot_sort of)
    → IsSlotWord heap word
slot_from heap word sort.Small has is =
    subst (IsSlotWord heap) (sym has.2) (IsSlotWord.small_integer has.0 has.1)
slot_from heap word sort.Undefined has is = subst (IsSlotWord heap) (sym has) IsSlotWord.undefined
slot_from heap word sort.Hole has is = subst (IsSlotWord heap) (sym has) IsSlotWord.hole
slot_from heap word (sort.Object number) has is = IsSlotWord.object word (number, has)
slot_from heap word (sort.Boxed v) has is = IsSlotWord.boxed word v has
slot_from heap word (sort.Other cell) has is = absurd (false≢true is)
slot_from heap word sort.Nothing has is = absurd (false≢true is)

-- and no other may
pub slot_to : (heap : Heap) (word : ℕ) (of : Referent) → IsSort heap word of → IsSlotWord heap word
    → IsTrue (is_slot_sort of)
slot_to heap word of has (IsSlotWord.small_integer v is) = ap is_slot_sort (small_sort heap v of is has)
slot_to heap word of has IsSlotWord.undefined = ap is_slot_sort (undefined_sort heap of has)
slot_to heap word of has IsSlotWord.hole = ap is_slot_sort (hole_sort heap of has)
slot_to heap word of has (IsSlotWord.object to refers) =
    ap is_slot_sort (object_sort heap word refers.0 of refers.1 has)
slot_to heap word of has (IsSlotWord.boxed to v refers) = ap is_slot_sort (box_sort heap word v of refers has)

-- a word of these sorts is that of a value
pub value_from : (heap : Heap) (word : ℕ) (of : Referent) → IsSort heap word of → IsTrue (is_value_sort of)
    → IsValueWord heap word
value_from heap word sort.Small has is =
    subst (IsValueWord heap) (sym has.2) (IsValueWord.small_integer has.0 has.1)
value_from heap word sort.Undefined has is = subst (IsValueWord heap) (sym has) IsValueWord.undefined
value_from heap word sort.Hole has is = absurd (false≢true is)
value_from heap word (sort.Object number) has is = IsValueWord.object word (number, has)
value_from heap word (sort.Boxed v) has is = IsValueWord.boxed word v has (not-true (small v) is)
value_from heap word (sort.Other cell) has is = absurd (false≢true is)
value_from heap word sort.Nothing has is = absurd (false≢true is)

-- and no other is
pub value_to : (heap : Heap) (word : ℕ) (of : Referent) → IsSort heap word of → IsValueWord heap word
    → IsTrue (is_value_sort of)
value_to heap word of has (IsValueWord.small_integer v is) = ap is_value_sort (small_sort heap v of is has)
value_to heap word of has IsValueWord.undefined = ap is_value_sort (undefined_sort heap of has)
value_to heap word of has (IsValueWord.object to refers) =
    ap is_value_sort (object_sort heap word refers.0 of refers.1 has)
value_to heap word of has (IsValueWord.boxed to v refers wide) =
    ap is_value_sort (box_sort heap word v of refers has) ∙ not_from_false (small v) wide

-- a word of this sort refers to a box
box_from : (heap : Heap) (word : ℕ) (of : Referent) → IsSort heap word of → IsTrue (is_box_sort of)
    → (v : ℤ) × RefersToBox heap word v
box_from heap word (sort.Boxed v) has is = (v, has)
box_from heap word _ has is = absurd (false≢true is)

-- a word of these sorts is that of a wide field
wide_from : (heap : Heap) (own : Bool) (word : ℕ) (of : Referent) → IsSort heap word of → IsTrue (is_wide_sort own of)
    → IsWideWord heap own word
wide_from heap true word of has is = IsWideWord.raw word
wide_from heap false word of has is =
    let box = box_from heap word of has is in IsWideWord.boxed word box.0 box.1

-- and no other is
wide_to : (heap : Heap) (own : Bool) (word : ℕ) (of : Referent) → IsSort heap word of → IsWideWord heap own word
    → IsTrue (is_wide_sort own of)
wide_to heap own word of has (IsWideWord.raw to) = refl
wide_to heap own word of has (IsWideWord.boxed to v refers) = ap is_box_sort (box_sort heap word v of refers has)

-- a word of this sort is that of a small field
small_from : (heap : Heap) (own : Bool) (word : ℕ) (of : Referent) → IsSort heap word of → IsTrue (is_small_sort of)
    → IsFieldWord heap own rep.Small word
small_from heap own word sort.Small has is =
    subst (IsFieldWord heap own rep.Small) (sym has.2) (IsFieldWord.small_integer has.0 has.1)
small_from heap own word _ has is = absurd (false≢true is)

-- a word of these sorts is that of a field of the representation
pub field_from : (heap : Heap) (own : Bool) (one : Rep) (word : ℕ) (of : Referent) → IsSort heap word of
    → IsTrue (is_field_sort own one of) → IsFieldWord heap own one word
field_from heap own rep.Small word of has is = small_from heap own word of has is
field_from heap own rep.Wide word of has is = IsFieldWord.wide word (wide_from heap own word of has is)
field_from heap own rep.Tagged word of has is = IsFieldWord.tagged word (value_from heap word of has is)

-- and no other is
pub field_to : (heap : Heap) (own : Bool) (one : Rep) (word : ℕ) (of : Referent) → IsSort heap word of
    → IsFieldWord heap own one word → IsTrue (is_field_sort own one of)
field_to heap own one word of has (IsFieldWord.small_integer v is) = ap is_small_sort (small_sort heap v of is has)
field_to heap own one word of has (IsFieldWord.wide to is) = wide_to heap own word of has is
field_to heap own one word of has (IsFieldWord.tagged to is) = value_to heap word of has is

-- a word of this sort refers to the place of the object
pub number_from : (heap : Heap) (word number : ℕ) (of : Referent) → IsSort heap word of → object_number of ≡ Some number
    → RefersToPlace heap word number
number_from heap word number (sort.Object other) has is =
    subst (RefersToPlace heap word) (same_Some other number is) has
number_from heap word number _ has is = absurd (none-some number is)

-- and no other does
pub number_to : (heap : Heap) (word number : ℕ) (of : Referent) → IsSort heap word of → RefersToPlace heap word number
    → object_number of ≡ Some number
number_to heap word number of has to = ap object_number (object_sort heap word number of to has)
