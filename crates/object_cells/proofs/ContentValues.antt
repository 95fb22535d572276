-- What a slot that is no raw one comes to hold for a value shows the value, and names nothing but a box that was made.
use Rattle.std.proofs.Common.{◌≡◌, ℕ, Bool, true, false, List, Contains, refl, sym, ap, subst}
use Rattle.std.specs.Prelude.{ℤ}
use Rattle.std.proofs.lemmas.Bool.{false≢true}
use Rattle.tagged_word.specs.declared.layout.Kind.TheVariants as kind
use Rattle.tagged_word.specs.Words.{small}
use Rattle.heap_model.specs.Types.{Value, Rep, Cell}
use Rattle.object_graph.specs.declared.value.Rep.TheVariants as rep
use Rattle.heap_model.specs.Heaps.{Heap}
use Rattle.heap_model.specs.Slots.{reference_word, RefersToBox}
use Rattle.heap_model.specs.Showing.{ShowsValue}
use Rattle.heap_model.proofs.WordsStay.{PlacesStay}
use Rattle.object_cells.specs.OwnSlots.{ComesFrom}
use Rattle.object_cells.specs.declared.content.SlotContent.{SlotContent}
use Rattle.object_cells.specs.declared.content.SlotContent.TheVariants as content
use Rattle.object_cells.specs.Made.{content_word}
use Rattle.object_cells.proofs.HeldContents.{HoldsValue}
use Rattle.object_cells.proofs.NewBoxes.{box_cell}
use Rattle.object_cells.proofs.WrittenPlaces.{small_names_none, undefined_names_none, object_names_none}

-- an integer that makes a slot wide is not small
not_small : (is_small : Bool) → (is_small ≡ true → rep.Small ≡ rep.Wide) → is_small ≡ false
not_small true wide =
    let same = wide refl in
    cc
not_small false wide = refl

-- the word of the slot shows the value
pub content_shows : {old new : Heap} {one : Rep} {what : Value} {holds : SlotContent} (box : ℕ)
    → HoldsValue old false rep.Small one what holds → PlacesStay old new
    → ((v : ℤ) → holds ≡ content.Boxed v → RefersToBox new (reference_word box) v)
    → ShowsValue new (content_word holds box) what
content_shows box (HoldsValue.small_integer one v is apart) places boxed = ShowsValue.small_integer v is refl
content_shows box (HoldsValue.raw v own apart) places boxed = absurd (false≢true own)
content_shows box (HoldsValue.wide_box v beside apart small_stays) places boxed =
    ShowsValue.boxed v (not_small (small v) small_stays) (boxed v refl)
content_shows box (HoldsValue.tagged_box v wide was) places boxed = ShowsValue.boxed v wide (boxed v refl)
content_shows box HoldsValue.undefined places boxed = ShowsValue.undefined refl
content_shows box (HoldsValue.object at number place) places boxed =
    ShowsValue.object number (record { at = at; refers = refl; place = places number at place })

-- so does a word that refers to a box with the integer
pub box_shows : {old new : Heap} {one : Rep} {what : Value} {holds : SlotContent} (word : ℕ) (v : ℤ)
    → HoldsValue old false rep.Small one what holds → holds ≡ content.Boxed v → RefersToBox new word v
    → ShowsValue new word what
box_shows word v (HoldsValue.small_integer one w is apart) boxed refers = cc
box_shows word v (HoldsValue.raw w own apart) boxed refers = cc
box_shows {new = new} word v (HoldsValue.wide_box w beside apart small_stays) boxed refers =
    let same : v ≡ w = cc in
    ShowsValue.boxed w (not_small (small w) small_stays) (subst (RefersToBox new word) same refers)
box_shows {new = new} word v (HoldsValue.tagged_box w wide was) boxed refers =
    let same : v ≡ w = cc in
    ShowsValue.boxed w wide (subst (RefersToBox new word) same refers)
box_shows word v HoldsValue.undefined boxed refers = cc
box_shows word v (HoldsValue.object at number place) boxed refers = cc

-- a box that was made stands at the address
pub record IsMadeBox (made : List Cell) (box : ℕ) : Type 0 where
  pub cell : Cell
  pub among : Contains made cell
  pub of_kind : cell.layout.kind ≡ kind.Boxed
  pub stands : cell.at ≡ box

-- as a box that is made at an address does
pub is_made_box : {made : List Cell} (box : ℕ) → Contains made (box_cell box) → IsMadeBox made box
is_made_box box among = record { cell = box_cell box; among = among; of_kind = refl; stands = refl }

-- where the slot is not raw, its word names nothing, or the box that was made for it
pub content_comes : {old new : Heap} {own : Bool} {one : Rep} {what : Value} {holds : SlotContent}
    (was : ℕ → ℕ → Type 0) (made : List Cell) (origin slot box : ℕ) → HoldsValue old own rep.Small one what holds
    → PlacesStay old new → (own ≡ true → one ≡ rep.Wide → ⊥)
    → ((v : ℤ) → holds ≡ content.Boxed v → IsMadeBox made box)
    → ComesFrom new was made origin slot slot (content_word holds box)
content_comes was made origin slot box (HoldsValue.small_integer one v is apart) places tagged boxed =
    ComesFrom.none (small_names_none v)
content_comes was made origin slot box (HoldsValue.raw v own apart) places tagged boxed = absurd (tagged own refl)
content_comes was made origin slot box (HoldsValue.wide_box v beside apart small) places tagged boxed =
    let one = boxed v refl in
    ComesFrom.of_made one.cell one.among one.of_kind (ap reference_word (sym one.stands)) refl
content_comes was made origin slot box (HoldsValue.tagged_box v wide was_wide) places tagged boxed =
    let one = boxed v refl in
    ComesFrom.of_made one.cell one.among one.of_kind (ap reference_word (sym one.stands)) refl
content_comes was made origin slot box HoldsValue.undefined places tagged boxed = ComesFrom.none undefined_names_none
content_comes was made origin slot box (HoldsValue.object at number place) places tagged boxed =
    ComesFrom.none (object_names_none (record { at = at; refers = refl; place = places number at place }))
