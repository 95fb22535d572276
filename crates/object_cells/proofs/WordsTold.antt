-- What the words of slots and fields tell.
use Rattle.std.proofs.Common.{◌≡◌, ℕ, ◌+◌, ◌<◌, Bool, true, false, List, Some, refl, sym}
use Rattle.std.proofs.Common.{◌∙◌, ap, subst, arith}
use Rattle.std.specs.Prelude.{ℤ}
use Rattle.std.specs.Int.{w64, cast_signed}
use Rattle.std.proofs.lemmas.Int.{to_z-of_z}
use Rattle.heap_model.specs.Types.{Class, Value, Rep, Cell, Held}
use Rattle.tagged_word.specs.Words.{IsClass, bits_of}
use Rattle.tagged_word.specs.Readings.{reference_in}
use Rattle.tagged_word.proofs.Readings.{reference_from}
use Rattle.page_space.specs.Extents.{marks_start}
use Rattle.page_space.specs.RegionLaws.{IsSpace}
use Rattle.page_space.specs.Sizes.{AreWithin}
use Rattle.object_graph.specs.declared.value.Value.TheVariants as value
use Rattle.object_graph.specs.declared.value.Rep.TheVariants as rep
use Rattle.handle_roots.specs.declared.held.Held.TheVariants as held
use Rattle.heap_model.specs.Heaps.{Heap, HasCell}
use Rattle.heap_model.specs.Slots.{reference_word, IsSlotWord}
use Rattle.heap_model.specs.Showing.{ShowsValue, ShowsWide, ShowsField, ShowsHeld}
use Rattle.heap_model.specs.Wholeness.{HasSizes}
use Rattle.heap_model.proofs.WordClasses.{same_reference, undefined_refers_not, hole_refers_not, small_refers_not}
use Rattle.write_barrier.specs.Values.{held_of_class}
use Rattle.write_barrier.specs.ValueLaws.{ShowsByClass}
use Rattle.heap_model.proofs.ShownBoxes.{cell_before}
use Rattle.write_barrier.proofs.ShownHeld.{box_by_class, shown_values_are_held}
use Rattle.object_cells.specs.CellsAt.{HasCellAt}
use Rattle.object_cells.proofs.CellsRead.{cell_at_before_marks, fits_address}

-- a cell of a heap within the limits stands at an address of 32 bits
pub cell_fits : {heap : Heap} {cell : Cell} {words : List ℕ} → HasSizes heap
    → AreWithin heap.space.sizes heap.space.variables → HasCell heap cell words → cell.at < 4294967296
cell_fits sized within has = let fits = fits_address (cell_at_before_marks sized has) within in omega arith

-- where a slot's word is a reference, a cell stands there
pub slot_target : {heap : Heap} (word at : ℕ) → IsSlotWord heap word → word ≡ reference_word at → HasCellAt heap at
slot_target word at (IsSlotWord.small_integer v is) refers = absurd (small_refers_not v at refers)
slot_target word at IsSlotWord.undefined refers = absurd (undefined_refers_not at refers)
slot_target word at IsSlotWord.hole refers = absurd (hole_refers_not at refers)
slot_target word at (IsSlotWord.object to object) refers =
    let place = object.1.place in
    let same : object.1.at ≡ at = same_reference object.1.at at (sym object.1.refers ∙ refers) in
    record { cell = place.cell; words = place.words; has = place.has; stands = place.stands ∙ same }
slot_target word at (IsSlotWord.boxed to v box) refers =
    let same : box.cell.at ≡ at = same_reference box.cell.at at (sym box.target.refers ∙ refers) in
    record { cell = box.cell; words = box.words; has = box.target.has; stands = same }

-- both words at the address of a reference in a slot are before the marks
pub slot_within : {heap : Heap} (word at : ℕ) → IsSlotWord heap word → reference_in word ≡ Some at
    → at + 1 < marks_start heap.space
slot_within word at slot refers =
    let there = slot_target word at slot (reference_from word at refers).1 in
    omega (arith, cell_before there.has, there.stands)

-- this is what the word of a slot stands for, by its class
abbrev pub IsReadAs : Heap → ℕ → Held → Type 0
IsReadAs heap word result =
    (class : Class) → IsClass class → word ≡ bits_of class → result ≡ held_of_class heap class

-- what is read of a word that shows a value by its class shows the value
class_told : {heap : Heap} {word : ℕ} {result : Held} {what : Value} → IsReadAs heap word result
    → ShowsByClass heap word what → ShowsHeld heap result (Some what)
class_told {heap} {what = what} reads by =
    subst (λ one. ShowsHeld heap one (Some what)) (sym (reads by.class by.is_class by.bits)) by.shows

-- what is an integer shows it
int_shown : {heap : Heap} (result : Held) (v : ℤ) → result ≡ held.Int v → ShowsHeld heap result (Some (value.Int v))
int_shown {heap} result v is = subst (λ h. ShowsHeld heap h (Some (value.Int v))) (sym is) (ShowsHeld.integer v)

-- a wide field's word tells it, where it is not raw
wide_told : {heap : Heap} {word : ℕ} {result : Held} (own : Bool) (v : ℤ) → IsSpace heap.space → HasSizes heap
    → (own ≡ true → ⊥) → IsReadAs heap word result → ShowsWide heap own word v
    → ShowsHeld heap result (Some (value.Int v))
wide_told true v space sized tagged reads shows = absurd (tagged refl)
wide_told {heap} {word} false v space sized tagged reads shows =
    class_told reads (box_by_class heap word v space sized shows)

-- the word of a field tells its value, where it is not raw
pub field_told : {heap : Heap} {own : Bool} {word : ℕ} {result : Held} {one : Rep} {what : Value} → IsSpace heap.space
    → HasSizes heap → (own ≡ true → one ≡ rep.Wide → ⊥) → IsReadAs heap word result
    → ShowsField heap own word one what → ShowsHeld heap result (Some what)
field_told {heap} {word = word} space sized tagged reads (ShowsField.small_integer v is same) =
    class_told reads (shown_values_are_held heap word (value.Int v) space sized (ShowsValue.small_integer v is same))
field_told {own = own} space sized tagged reads (ShowsField.wide v shows) =
    wide_told own v space sized (λ raw. tagged raw refl) reads shows
field_told {heap} {word = word} space sized tagged reads (ShowsField.tagged of shows) =
    class_told reads (shown_values_are_held heap word of space sized shows)

-- a raw word tells its integer
raw_told : {heap : Heap} (own : Bool) (word : ℕ) (result : Held) (v : ℤ) → own ≡ true
    → result ≡ held.Int (cast_signed w64 word) → ShowsWide heap own word v → ShowsHeld heap result (Some (value.Int v))
raw_told true word result v is tells shows =
    int_shown result v (tells ∙ ap (λ n. held.Int (cast_signed w64 n)) shows.0
    ∙ ap (λ n. held.Int n) (to_z-of_z w64 v shows.1))
raw_told false word result v is tells shows = cc

-- the raw word of a wide field in the object tells its value
pub raw_field_told : {heap : Heap} {own : Bool} (word : ℕ) (result : Held) (one : Rep) (what : Value) → own ≡ true
    → one ≡ rep.Wide → result ≡ held.Int (cast_signed w64 word) → ShowsField heap own word one what
    → ShowsHeld heap result (Some what)
raw_field_told word result one what is wide tells (ShowsField.small_integer v small same) = cc
raw_field_told {own = own} word result one what is wide tells (ShowsField.wide v shows) =
    raw_told own word result v is tells shows
raw_field_told word result one what is wide tells (ShowsField.tagged of shows) = cc
