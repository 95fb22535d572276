-- How many slots the stores of objects have once a list was trimmed: the list's as many as the store that came, and
-- each other object's as many as before.
use Rattle.std.proofs.Common.{◌≡◌, ℕ, ◌+◌, ◌⊎◌, List, [], ◌∷◌, ◌++◌, Contains, IsTrue, inl, inr, refl, sym, ap, subst}
use Rattle.tagged_word.specs.declared.layout.Kind.TheVariants as kind
use Rattle.tagged_word.specs.Cells.{store_slot, is_free_kind}
use Rattle.tagged_word.proofs.Members.{first_in, rest_in}
use Rattle.heap_model.specs.Types.{Kind, Value, Cell}
use Rattle.page_space.specs.Extents.{Space}
use Rattle.page_space.specs.Sizes.{AreWithin}
use Rattle.heap_model.specs.Heaps.{Heap}
use Rattle.heap_model.specs.Slots.{reference_word}
use Rattle.heap_model.specs.Wholeness.{NamesFrom}
use Rattle.heap_model.proofs.OneOwner.{names_store}
use Rattle.object_cells.specs.Capacities.{ChangesObject, IsOldOrOwn}
use Rattle.object_cells.proofs.KeptCapacities.{capacity_of_store}
use Rattle.object_cells.proofs.OwnCapacities.{own_capacities}
use Rattle.object_cells.proofs.WordsTold.{cell_fits}
use Rattle.array_trim.proofs.TrimmedCells.{Trimming, list_now, store_now}
use Rattle.array_trim.proofs.TrimmedSlots.{is_object, came_cases, refers_now, elements_now, trim_writing}

-- a filler or a gap is free
piece_is_free : {k : Kind} → (k ≡ kind.Filler) ⊎ (k ≡ kind.Gap) → IsTrue (is_free_kind k)
piece_is_free (inl is) = ap is_free_kind is
piece_is_free (inr is) = ap is_free_kind is

module _ {old new : Heap} {cell store came : Cell} {pieces : List Cell} {before after : List Value} {from : ℕ}
    (trim : Trimming old new cell store came pieces before after from)
    (within : AreWithin old.space.sizes old.space.variables) where
  -- what came in the words of the store is the list's store, or free
  beside_own : (one : Cell) (words : List ℕ) → Contains (pieces ++ []) one → IsOldOrOwn old new cell.at one words
  beside_own one words there = elim (came_cases trim one there) [
    | inl same ↦ IsOldOrOwn.named cell (cell.at + store_slot) refl
        (subst (λ (c : Cell). NamesFrom new cell (cell.at + store_slot) c.at) same
        (names_store (reference_word came.at) (list_now trim) (is_object trim) (elements_now trim).slot
        (refers_now trim) (inl trim.still_store)))
    | inr free ↦ IsOldOrOwn.free (piece_is_free free.of_kind)
  ]

  -- The list has as many slots as the store that came, and each other object as many as before. No cell was made,
  -- wherever one would be.
  pub trimmed_capacities : (begins ends : ℕ) → ChangesObject old new begins ends cell.at came.length
  trimmed_capacities begins ends =
      let now = subst (λ (space : Space). AreWithin space.sizes space.variables) (sym trim.same_space) within in
      own_capacities (trim_writing trim) begins ends came.length
      (capacity_of_store cell.at (store_now trim) (inl trim.still_store)
      (cell_fits trim.sized now (store_now trim)) trim.slot) beside_own
      (λ at below apart not_made. trim.stay at below (apart cell (first_in cell (store ∷ [])))
      (apart store (rest_in cell (store ∷ []) store (first_in store []))))
