-- The slots of a store that was made in the place of another: those of that one, one more, and holes.
use Rattle.std.proofs.Common.{◌≡◌, ℕ, ◌+◌, ◌<◌, inl, inr, List, drop, slice_get, refl, sym, ◌∙◌, ap, arith}
use Rattle.std.proofs.lemmas.Bool.{cases_lt, cases_eq}
use Rattle.std.proofs.lemmas.Option.{same_Some}
use Rattle.tagged_word.specs.Cells.{store_head, store_slot}
use Rattle.tagged_word.specs.declared.layout.Kind.TheVariants as kind
use Rattle.page_space.specs.Extents.{layouts_start}
use Rattle.heap_model.specs.Heaps.{Heap, HasCell}
use Rattle.heap_model.specs.Kinds.{HasWord}
use Rattle.heap_model.specs.Slots.{hole_word, HoldsStore}
use Rattle.heap_model.specs.Types.{Cell}
use Rattle.heap_model.specs.Wholeness.{Whole}
use Rattle.heap_model.proofs.CellsApart.{IsOfCell}
use Rattle.object_cells.specs.Made.{IsStoreAt}
use Rattle.object_cells.specs.declared.stores.Store.{Store}
use Rattle.object_cells.proofs.ListChanging.{slot_stands, slot_few}
use Rattle.object_cells.proofs.NewStores.{store_cell}
use Rattle.object_cells.proofs.OwnCells.{cell_below_layouts}
use Rattle.object_cells.proofs.StoreRuns.{CopiesSlots}
use Rattle.object_cells.proofs.StoresRead.{stored_at}

-- what a slot of the new store holds: what that of the other held, the word that was put, or, behind it, nothing
pub data NewSlotIs (slots : List ℕ) (slot word k x : ℕ) : Type 0 where
  kept : k < slot → HasWord slots k x → NewSlotIs slots slot word k x
  put : k ≡ slot → x ≡ word → NewSlotIs slots slot word k x
  more : slot < k → x ≡ hole_word → NewSlotIs slots slot word k x

module _ {old new : Heap} {cell : Cell} {words mid others beside : List ℕ} {object named capacity at word : ℕ}
    {store : Store} (whole : Whole old) (is : IsStoreAt old object store) (has : HasCell old cell words)
    (stands : cell.at ≡ object)
    (slot : HasWord words store_slot named) (are : HoldsStore old kind.Store named beside)
    (has_new : HasCell new (store_cell at capacity) others)
    (stay : (a : ℕ) → a < layouts_start old.space → slice_get mid a ≡ slice_get old.words a)
    (copies : CopiesSlots mid new.words store capacity at word) where
  -- a slot below holds what it held
  slot_kept : (k x : ℕ) → k < store.capacity → k < capacity → HasWord (drop store_head others) k x → HasWord beside k x
  slot_kept k x below less holds =
      let there = stored_at object named beside store is has stands slot are (omega (arith, below)) in
      let of_store : IsOfCell there.found.cell (store.at + (store_head + k)) = record {
        from = omega (arith, there.found.stands);
        below = omega (arith, there.found.stands, there.found.size, there.capacity, below);
      } in
      ap (λ all. slice_get all k) there.found.are
      ∙ slot_stands k there.found.refers.has there.found.of_kind (omega (arith, there.capacity, below))
      ∙ ap (λ n. slice_get old.words (n + (store_head + k))) there.found.stands
      ∙ sym (stay (store.at + (store_head + k)) (cell_below_layouts whole there.found.refers.has of_store))
      ∙ sym (copies.copied k below)
      ∙ sym (slot_stands k has_new refl less) ∙ holds

  -- so it is of each slot
  pub new_slot_is : (k x : ℕ) → HasWord (drop store_head others) k x → NewSlotIs beside store.capacity word k x
  new_slot_is k x holds =
      let less : k < capacity = slot_few k x has_new refl holds in
      let stands_there = sym (sym (slot_stands k has_new refl less) ∙ holds) in
      elim (cases_lt k store.capacity) [
        | inl below ↦ NewSlotIs.kept below (slot_kept k x below less holds)
        | inr from ↦ elim (cases_eq k store.capacity) [
          | inl same ↦
              NewSlotIs.put same (same_Some x word (stands_there
              ∙ ap (λ n. slice_get new.words (at + (store_head + n))) same ∙ copies.put))
          | inr apart ↦
              let behind : store.capacity < k = omega (arith, from, apart) in
              NewSlotIs.more behind (same_Some x hole_word (stands_there ∙ copies.holes k behind less))
        ]
      ]
