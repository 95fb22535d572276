-- What the words of slots show, value by value.
use Rattle.std.proofs.Common.{◌≡◌, ℕ, Bool, false, ℤ, sym, ◌∙◌, IsTrue}
use Rattle.std.proofs.lemmas.Bool.{false≢true}
use Rattle.tagged_word.specs.Words.{small}
use Rattle.object_graph.specs.declared.value.Value.TheVariants.{Int, Undefined, Ref}
use Rattle.object_graph.specs.declared.value.Rep.TheVariants as rep
use Rattle.heap_model.specs.Heaps.{Heap}
use Rattle.heap_model.specs.Slots.{undefined_word, RefersToPlace, RefersToBox}
use Rattle.heap_model.specs.Showing.{ShowsValue, ShowsField, ShowsWide}
use Rattle.heap_model.specs.Types.{Value}
use Rattle.slow_check.specs.ShownSlots.{IsSmallWordOf}

-- a small integer is shown by its word
pub small_shown : {heap : Heap} {word : ℕ} (v : ℤ) → IsTrue (small v) → ShowsValue heap word (Int v)
    → IsSmallWordOf word v
small_shown v is (ShowsValue.small_integer w small_too same) = (small_too, same)
small_shown v is (ShowsValue.boxed w wide refers) = absurd (false≢true (sym wide ∙ is))

-- and any other by a box
pub boxed_shown : {heap : Heap} {word : ℕ} (v : ℤ) → small v ≡ false → ShowsValue heap word (Int v)
    → RefersToBox heap word v
boxed_shown v wide (ShowsValue.small_integer w is same) = absurd (false≢true (sym wide ∙ is))
boxed_shown v wide (ShowsValue.boxed w wide_too refers) = refers

-- `undefined` is shown by its word
pub undefined_shown : {heap : Heap} {word : ℕ} → ShowsValue heap word Undefined → word ≡ undefined_word
undefined_shown (ShowsValue.undefined same) = same

-- and an object by a reference
pub object_shown : {heap : Heap} {word : ℕ} (number : ℕ) → ShowsValue heap word (Ref number)
    → RefersToPlace heap word number
object_shown number (ShowsValue.object n refers) = refers

-- a small field shows a small integer by its word
pub small_field_shown : {heap : Heap} {own : Bool} {word : ℕ} (v : ℤ) → ShowsField heap own word rep.Small (Int v)
    → IsSmallWordOf word v
small_field_shown v (ShowsField.small_integer w is same) = (is, same)

-- a wide field an integer
pub wide_field_shown : {heap : Heap} {own : Bool} {word : ℕ} (v : ℤ) → ShowsField heap own word rep.Wide (Int v)
    → ShowsWide heap own word v
wide_field_shown v (ShowsField.wide w is) = is

-- and a tagged field any value
pub tagged_field_shown : {heap : Heap} {own : Bool} {word : ℕ} (value : Value)
    → ShowsField heap own word rep.Tagged value → ShowsValue heap word value
tagged_field_shown value (ShowsField.tagged one is) = is
