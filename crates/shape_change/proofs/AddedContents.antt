-- What the slot of a new field comes to hold shows the value, and names nothing but a box that was made.
use Rattle.std.proofs.Common.{◌≡◌, ℕ, Bool, true, refl, sym, subst}
use Rattle.std.specs.Prelude.{ℤ}
use Rattle.tagged_word.specs.Words.{small}
use Rattle.heap_model.specs.Types.{Value, Rep}
use Rattle.object_graph.specs.declared.value.Value.TheVariants as value
use Rattle.object_graph.specs.declared.value.Rep.TheVariants as rep
use Rattle.object_graph.specs.Invariants.{IsValue}
use Rattle.heap_model.specs.Heaps.{Heap}
use Rattle.heap_model.specs.Slots.{raw_word, reference_word, IsPlace, RefersToBox, RefersToPlace}
use Rattle.heap_model.specs.Showing.{ShowsValue, ShowsWide, ShowsField}
use Rattle.heap_model.proofs.WordsStay.{PlacesStay}
use Rattle.object_cells.specs.declared.content.SlotContent.{SlotContent}
use Rattle.object_cells.specs.declared.content.SlotContent.TheVariants as content
use Rattle.object_cells.specs.Made.{content_word}
use Rattle.object_cells.proofs.HeldContents.{HoldsValue}
use Rattle.shape_change.proofs.ContentsShown.{small_shows}

-- the reference to an object's place, where places stay
new_place : {old new : Heap} (at number : ℕ) → PlacesStay old new → IsPlace old number at
    → RefersToPlace new (reference_word at) number
new_place at number places place = record { at = at; refers = refl; place = places number at place }

-- the word of the slot shows the value
pub content_shows : {old new : Heap} {own : Bool} {one : Rep} {what : Value} {holds : SlotContent} (count box : ℕ)
    → HoldsValue old own rep.Small one what holds → PlacesStay old new → IsValue count what
    → ((v : ℤ) → holds ≡ content.Boxed v → RefersToBox new (reference_word box) v)
    → ShowsField new own (content_word holds box) one what
content_shows count box (HoldsValue.small_integer one v is apart) places fits boxed = small_shows one v is apart
content_shows {new = new} count box (HoldsValue.raw v own apart) places fits boxed =
    ShowsField.wide v (subst (λ o. ShowsWide new o (raw_word v) v) (sym own) (refl, fits))
content_shows {new = new} count box (HoldsValue.wide_box v beside apart small) places fits boxed =
    ShowsField.wide v (subst (λ o. ShowsWide new o (reference_word box) v) (sym beside) (boxed v refl))
content_shows count box (HoldsValue.tagged_box v wide was) places fits boxed =
    ShowsField.tagged (value.Int v) (ShowsValue.boxed v wide (boxed v refl))
content_shows count box HoldsValue.undefined places fits boxed = ShowsField.tagged value.Undefined
    (ShowsValue.undefined refl)
content_shows count box (HoldsValue.object at number place) places fits boxed =
    ShowsField.tagged (value.Ref number) (ShowsValue.object number (new_place at number places place))

-- in the object there is no box
pub own_holds_no_box : {heap : Heap} {one : Rep} {what : Value} {holds : SlotContent} (v : ℤ)
    → HoldsValue heap true rep.Small one what holds → holds ≡ content.Boxed v → ⊥
own_holds_no_box v (HoldsValue.small_integer one w is apart) boxed = cc
own_holds_no_box v (HoldsValue.raw w own apart) boxed = cc
own_holds_no_box v (HoldsValue.wide_box w beside apart small) boxed = cc
own_holds_no_box v (HoldsValue.tagged_box w wide was) boxed = cc
own_holds_no_box v HoldsValue.undefined boxed = cc
own_holds_no_box v (HoldsValue.object at number place) boxed = cc
