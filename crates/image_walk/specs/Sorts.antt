-- What the word of a slot stands for in a heap: one of a few sorts of things.
use Rattle.std.specs.Prelude.{◌≡◌, ◌≢◌, ℕ, Bool, true, false, not, List, Option, Some, None}
use Rattle.std.specs.Prelude.{ℤ, IsTrue}
use Rattle.heap_model.specs.Types.{Kind, Rep, Cell}
use Rattle.tagged_word.specs.declared.layout.Kind.TheVariants as kind
use Rattle.tagged_word.specs.Words.{small}
use Rattle.object_graph.specs.declared.value.Rep.TheVariants as rep
use Rattle.heap_model.specs.Heaps.{Heap, words_of_cell}
use Rattle.tagged_word.specs.Cells.{is_object_kind}
use Rattle.heap_model.specs.Slots.{small_word, undefined_word, hole_word, RefersTo, RefersToPlace}
use Rattle.heap_model.specs.Slots.{RefersToBox}
use Rattle.image_walk.specs.declared.slots.Referent.{Referent}
use Rattle.image_walk.specs.declared.slots.Referent.TheVariants as sort

-- whether a cell of the kind is a box
abbrev pub is_box_kind : Kind → Bool
is_box_kind kind.Boxed = true
is_box_kind _ = false

-- the word is that of a small integer
abbrev pub IsSmallWord : ℕ → Type 0
IsSmallWord word = (v : ℤ) × IsTrue (small v) × (word ≡ small_word v)

-- the word refers to the cell, which is no object's and no box
pub record RefersToOther (heap : Heap) (word : ℕ) (cell : Cell) : Type 0 where
  pub refers : RefersTo heap word cell (words_of_cell heap cell)
  pub no_object : is_object_kind cell.layout.kind ≡ false
  pub no_box : is_box_kind cell.layout.kind ≡ false

-- the word stands for nothing: it is no small integer, not undefined and no hole, and refers to no cell
pub record IsNothing (heap : Heap) (word : ℕ) : Type 0 where
  pub not_small : IsSmallWord word → ⊥
  pub not_undefined : word ≢ undefined_word
  pub not_hole : word ≢ hole_word
  pub refers_not : (cell : Cell) (words : List ℕ) → RefersTo heap word cell words → ⊥

-- what the word stands for is of this sort
abbrev pub IsSort : Heap → ℕ → Referent → Type 0
IsSort heap word sort.Small = IsSmallWord word
IsSort heap word sort.Undefined = word ≡ undefined_word
IsSort heap word sort.Hole = word ≡ hole_word
IsSort heap word (sort.Object number) = RefersToPlace heap word number
IsSort heap word (sort.Boxed v) = RefersToBox heap word v
IsSort heap word (sort.Other cell) = RefersToOther heap word cell
IsSort heap word sort.Nothing = IsNothing heap word

-- whether a slot of a store or table may hold it
abbrev pub is_slot_sort : Referent → Bool
is_slot_sort (sort.Other cell) = false
is_slot_sort sort.Nothing = false
is_slot_sort _ = true

-- whether it is a value in a tagged slot: no integer in a box that is small
abbrev pub is_value_sort : Referent → Bool
is_value_sort sort.Small = true
is_value_sort sort.Undefined = true
is_value_sort (sort.Object number) = true
is_value_sort (sort.Boxed v) = not (small v)
is_value_sort _ = false

-- whether it is a small integer
abbrev pub is_small_sort : Referent → Bool
is_small_sort sort.Small = true
is_small_sort _ = false

-- whether it is a box
abbrev pub is_box_sort : Referent → Bool
is_box_sort (sort.Boxed v) = true
is_box_sort _ = false

-- whether a wide field may hold it: anything in the object itself, and a box in the property store
abbrev pub is_wide_sort : Bool → Referent → Bool
is_wide_sort true of = true
is_wide_sort false of = is_box_sort of

-- whether a field of the representation may hold it
abbrev pub is_field_sort : Bool → Rep → Referent → Bool
is_field_sort own rep.Small of = is_small_sort of
is_field_sort own rep.Wide of = is_wide_sort own of
is_field_sort own rep.Tagged of = is_value_sort of

-- the number of the object that it is
abbrev pub object_number : Referent → Option ℕ
object_number (sort.Object number) = Some number
object_number _ = None
