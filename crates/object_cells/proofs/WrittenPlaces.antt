-- Which kinds of cells stand beside an object, and which words name no store, table or box.
use Rattle.std.proofs.Common.{◌≡◌, ◌≢◌, false, IsTrue, ◌⊎◌, inl, inr, ℤ, ℕ}
use Rattle.std.proofs.Common.{refl, sym, ◌∙◌, ap, subst}
use Rattle.heap_model.specs.Types.{Kind, Cell}
use Rattle.tagged_word.specs.declared.layout.Kind.TheVariants as kind
use Rattle.heap_model.specs.Heaps.{Heap}
use Rattle.tagged_word.specs.Cells.{is_object_kind}
use Rattle.heap_model.specs.Slots.{small_word, undefined_word, hole_word, RefersToPlace}
use Rattle.heap_model.proofs.WordClasses.{same_reference, small_refers_not, undefined_refers_not, hole_refers_not}
use Rattle.heap_model.specs.Wholeness.{IsOwnedKind}
use Rattle.heap_model.proofs.CellOutcomes.{owned_is_no_filler, box_is_no_filler}
use Rattle.heap_model.proofs.CellsApart.{one_at}
use Rattle.heap_model.proofs.OneOwner.{object_is_not_owned}
use Rattle.object_cells.specs.OwnSlots.{NamesNone}

-- a kind of cell that stands beside an object
abbrev pub IsStoreOrBox : Kind → Type 0
IsStoreOrBox k = (k ≡ kind.Store) ⊎ (k ≡ kind.Boxed)

-- a box, or a cell of a kind that no object has, is no object
pub box_is_no_object : {owned : Kind} (k : Kind) → (k ≡ owned) ⊎ (k ≡ kind.Boxed) → is_object_kind owned ≡ false
    → is_object_kind k ≡ false
box_is_no_object k (inl is) none = ap is_object_kind is ∙ none
box_is_no_object k (inr is) none = ap is_object_kind is

-- so a store or a box is none
pub beside_is_no_object : (k : Kind) → IsStoreOrBox k → is_object_kind k ≡ false
beside_is_no_object k is = box_is_no_object k is refl

-- nor a filler
pub beside_is_no_filler : (k : Kind) → IsStoreOrBox k → k ≢ kind.Filler
beside_is_no_filler k (inl is) filler = owned_is_no_filler k (subst IsOwnedKind (sym is) tt) filler
beside_is_no_filler k (inr is) filler = box_is_no_filler k is filler

-- a small integer names nothing
pub small_names_none : {heap : Heap} (v : ℤ) → NamesNone heap (small_word v)
small_names_none v cell words refers owned = small_refers_not v cell.at refers.refers

-- nor does `undefined`
pub undefined_names_none : {heap : Heap} → NamesNone heap undefined_word
undefined_names_none cell words refers owned = undefined_refers_not cell.at refers.refers

-- nor a hole
pub hole_names_none : {heap : Heap} → NamesNone heap hole_word
hole_names_none cell words refers owned = hole_refers_not cell.at refers.refers

-- nor does what refers to an object name a store, table or box
pub object_names_none : {heap : Heap} {word number : ℕ} → RefersToPlace heap word number → NamesNone heap word
object_names_none object cell words refers owned =
    let place = object.place in
    let at : object.at ≡ cell.at = same_reference object.at cell.at (sym object.refers ∙ refers.refers) in
    let same : place.cell ≡ cell = one_at place.has refers.has (place.stands ∙ at) in
    let is = subst (λ (one : Cell). IsTrue (is_object_kind one.layout.kind)) same place.object in
    object_is_not_owned cell.layout.kind is owned
