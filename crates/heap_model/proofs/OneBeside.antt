-- One word has one list of slots beside it, and a plain object one list of slots.
use Rattle.std.proofs.Common.{◌≡◌, ℕ, List, drop, ◌++◌, refl, sym, ◌∙◌, ap, subst}
use Rattle.std.proofs.lemmas.Option.{same_Some}
use Rattle.tagged_word.specs.Cells.{plain_head, store_head}
use Rattle.heap_model.specs.Types.{Kind, Cell}
use Rattle.heap_model.specs.Heaps.{Heap, HasCell}
use Rattle.heap_model.specs.Slots.{HoldsStore}
use Rattle.heap_model.specs.Kinds.{HasSlots}
use Rattle.heap_model.proofs.WordClasses.{same_reference, undefined_refers_not}
use Rattle.heap_model.proofs.CellsApart.{one_at, one_words}

-- one word has one list of slots beside it
pub one_beside : {heap : Heap} {of : Kind} (word other : ℕ) (beside others : List ℕ) → word ≡ other
    → HoldsStore heap of word beside → HoldsStore heap of other others → beside ≡ others
one_beside word other beside others same HoldsStore.none HoldsStore.none = refl
one_beside word other beside others same HoldsStore.none (HoldsStore.store to cell words refers of_kind) =
    absurd (undefined_refers_not cell.at (same ∙ refers.refers))
one_beside word other beside others same (HoldsStore.store to cell words refers of_kind) HoldsStore.none =
    absurd (undefined_refers_not cell.at (sym same ∙ refers.refers))
one_beside {heap} word other beside others same (HoldsStore.store to cell words refers of_kind)
    (HoldsStore.store to' cell' words' refers' of_kind') =
    let one : cell ≡ cell' = one_at refers.has refers'.has
    (same_reference cell.at cell'.at (sym refers.refers ∙ same ∙ refers'.refers)) in
    let has = subst (λ (c : Cell). HasCell heap c words) one refers.has in
    ap (λ all. drop store_head all) (one_words has refers'.has)

-- the words of a cell have one list of slots
pub one_slots : {heap : Heap} {words slots others : List ℕ} → HasSlots heap words slots → HasSlots heap words others
    → slots ≡ others
one_slots {words = words} a b =
    let store : a.store ≡ b.store = same_Some a.store b.store (sym a.slot ∙ b.slot) in
    let beside = one_beside a.store b.store a.beside b.beside store a.stands b.stands in
    a.are ∙ ap (λ all. drop plain_head words ++ all) beside ∙ sym b.are
