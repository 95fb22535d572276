-- What a slot that marking visits refers to is a table only if the slot is a weak map's.
use Rattle.std.proofs.Common.{◌≡◌, ℕ, List, IsTrue, inr, refl, sym, ◌∙◌, ap, subst}
use Rattle.std.proofs.lemmas.Bool.{false≢true}
use Rattle.std.proofs.lemmas.Option.{same_Some}
use Rattle.tagged_word.specs.declared.layout.Kind.TheVariants as kind
use Rattle.tagged_word.specs.Cells.{store_slot, is_object_kind}
use Rattle.heap_model.specs.Types.{Kind, Cell}
use Rattle.heap_model.specs.Heaps.{Heap, HasCell}
use Rattle.heap_model.specs.Slots.{reference_word, RefersTo}
use Rattle.heap_model.specs.Kinds.{HasWord, IsSoundOf}
use Rattle.heap_model.specs.Wholeness.{Whole}
use Rattle.live_cells.specs.Live.{HasSlotTo}
use Rattle.live_cells.proofs.Slots.{holds_kind}
use Rattle.live_cells.proofs.StoreSlots.{slot_of_store}

-- an object whose store is a table is a weak map, kind by kind
weak_by_kind : {heap : Heap} {other : Cell} {others : List ℕ} (owner : Cell) (words : List ℕ) (k : Kind) (store : ℕ)
    → IsTrue (is_object_kind k) → IsSoundOf k heap owner words → HasWord words store_slot store
    → RefersTo heap store other others → other.layout.kind ≡ kind.Table → k ≡ kind.Weak
weak_by_kind {heap} {other} {others} owner words kind.Plain store object sound slot target of_table =
    let same = same_Some _ _ (sym slot ∙ sound.has.slot) in
    let of_store = holds_kind sound.has.stands (subst (λ n. RefersTo heap n other others) same target) in
    let both : kind.Store ≡ kind.Table = sym of_store ∙ of_table in
    absurd (cc)
weak_by_kind {heap} {other} {others} owner words kind.List store object sound slot target of_table =
    let same = same_Some _ _ (sym slot ∙ sound.slot) in
    let of_store = holds_kind sound.stands (subst (λ n. RefersTo heap n other others) same target) in
    let both : kind.Store ≡ kind.Table = sym of_store ∙ of_table in
    absurd (cc)
weak_by_kind owner words kind.Weak store object sound slot target of_table = refl
weak_by_kind owner words _ store object sound slot target of_table = absurd (false≢true object)

-- so is the cell whose slot leads to one
pub weak_slot : {heap : Heap} {cell : Cell} {words : List ℕ} (from at : ℕ) → Whole heap
    → (slot : HasSlotTo heap from at) → HasCell heap cell words → cell.at ≡ at → cell.layout.kind ≡ kind.Table
    → slot.cell.layout.kind ≡ kind.Weak
weak_slot from at whole slot has stands of_table =
    let owner : Cell = slot.cell in
    let at_store = slot_of_store from at whole slot has stands (inr of_table) in
    weak_by_kind owner slot.words owner.layout.kind (reference_word at) at_store.0
    (whole.sound owner slot.words slot.has) at_store.1
    (record { refers = ap reference_word (sym stands); has = has }) of_table
