-- What the slots of a weak map name whose pairs were written, by the places of the pairs: so the change of cells is the
-- map's own.
use Rattle.std.proofs.Common.{◌≡◌, ℕ, ◌+◌, List, ◌∷◌, Some, slice_get, sym, ◌∙◌, ap, subst, arith}
use Rattle.tagged_word.specs.declared.layout.Kind.TheVariants as kind
use Rattle.tagged_word.specs.Cells.{store_slot}
use Rattle.heap_model.specs.Types.{Cell}
use Rattle.heap_model.specs.Heaps.{Heap, words_of_cell}
use Rattle.heap_model.specs.Slots.{hole_word, reference_word, RefersTo}
use Rattle.heap_model.specs.Kinds.{Pair, free_pair}
use Rattle.heap_model.specs.Wholeness.{Whole, HasSlotAt, IsOwnedKind}
use Rattle.heap_model.specs.Changes.{IsOwnChange}
use Rattle.heap_model.proofs.WordClasses.{hole_refers_not}
use Rattle.heap_model.proofs.CellsApart.{IsOfCell, cells_apart}
use Rattle.heap_model.proofs.CellWords.{words_by_kind, words_are_size}
use Rattle.heap_model.proofs.WholeStays.{own_changes_keep_whole}
use Rattle.object_cells.proofs.SlotNumbers.{HasAddress, IsSlotOf, HasNumbers}
use Rattle.object_cells.proofs.WrittenPlaces.{object_names_none}
use Rattle.object_cells.proofs.OwnerWrites.{weak_owns, written_own_keeps_cells}
use Rattle.object_cells.proofs.OwnSteps.{stands}
use Rattle.object_cells.proofs.OwnNames.{refills_rename, renamed_own}
use Rattle.weak_pairs.specs.Pairs.{IsFilledAt}
use Rattle.weak_pairs.proofs.PairWords.{IsValueAt, one_place, one_value, value_slot_at, WeakSlot, weak_slot}
use Rattle.ephemeron_table.specs.PairWrites.{HasValue}
use Rattle.ephemeron_table.specs.PairLaws.{RefillsWeak, WrittenPairsAreOwn}
use Rattle.ephemeron_table.proofs.ReplacedPairs.{weak_step, filled_now, pairs_sound}

module _ {old new : Heap} {cell : Cell} {others made : List Cell} (refills : RefillsWeak old new cell others made) where
  -- the value of the pair at a place stands at the address, which is not that of the slot for the table
  WasAt : ℕ → ℕ → Type 0
  WasAt k at = IsValueAt old (words_of_cell old cell) k at × (at ≡ cell.at + store_slot → ⊥)

  -- the value of each pair has an address
  were_at : (k word : ℕ) → HasValue refills.pairs.before k word
      → HasAddress old cell (words_of_cell old cell) WasAt k word
  unfolding WasAt
  were_at k word holds =
      let found = value_slot_at {cell = cell} k holds.0 refills.pairs.were holds.1.stands in
      let has = refills.writes.stood in
      let second : (at : ℕ) → at ≡ cell.at + store_slot → IsOfCell cell at = λ at same. record {
        from = omega (arith, same);
        below = omega (arith, same, words_by_kind kind.Weak has refills.writes.of_kind, words_are_size has);
      } in
      record {
        at = found.place;
        numbered = (
          found.stands,
          λ same.
              let one = cells_apart found.place refills.whole.rows has found.stands.refers.has
              (second found.place same) found.of_table in
              let apart : kind.Weak ≡ kind.Table =
              sym refills.writes.of_kind ∙ ap (λ (c : Cell). c.layout.kind) one ∙ found.of_kind in
              cc,
        );
        slot = subst (HasSlotAt old cell (words_of_cell old cell) found.place) holds.2 found.slot;
      }

  -- a pair of which a word refers to something holds something
  names_filled : (at : ℕ) (pair : Pair) (one : ℕ) → slice_get refills.pairs.now at ≡ Some pair
      → (pair ≡ free_pair → hole_word ≡ reference_word one) → IsFilledAt refills.pairs.now at pair
  names_filled at pair one there refers =
      record { stands = there; filled = λ free. hole_refers_not one (refers free) }

  -- no key of a pair names what an object owns
  key_names_none : {named : Cell} {words : List ℕ} (at : ℕ) (pair : Pair) → slice_get refills.pairs.now at ≡ Some pair
      → RefersTo new pair.key named words → IsOwnedKind named.layout.kind → ⊥
  key_names_none {named} {words} at pair there refers owned =
      let filled = names_filled at pair named.at there
      (λ free. sym (ap (λ (p : Pair). p.key) free) ∙ refers.refers) in
      object_names_none (filled_now refills at pair filled).1.key named words refers owned

  -- a slot that names something is that of the table, or the value of a pair
  slot_is : (at word : ℕ) (named : Cell) (words : List ℕ) → RefersTo new word named words
      → IsOwnedKind named.layout.kind → WeakSlot new cell (words_of_cell new cell) refills.pairs.now at word
      → IsSlotOf cell (words_of_cell new cell) (HasValue refills.pairs.now) (IsValueAt new (words_of_cell new cell)) at
      word
  slot_is at word named words refers owned (WeakSlot.of_table is holds) = IsSlotOf.of_store is holds
  slot_is at word named words refers owned (WeakSlot.of_key k pair there is) =
      absurd (key_names_none k pair there (subst (λ w. RefersTo new w named words) (sym is) refers) owned)
  slot_is at word named words refers owned (WeakSlot.of_value k pair there is place) =
      let filled = names_filled k pair named.at there
      (λ free. sym (ap (λ (p : Pair). p.value) free) ∙ is ∙ refers.refers) in
      IsSlotOf.of_number k (pair, filled, is) place

  -- so the slots of the map have numbers
  numbers : HasNumbers old new cell cell (HasValue refills.pairs.before) WasAt (HasValue refills.pairs.now)
      (IsValueAt new (words_of_cell new cell))
  unfolding WasAt
  numbers = record {
    were = were_at;
    one_number = λ k other at numbered numbered_too. one_value k other at numbered.0 numbered_too.0;
    not_store = λ k at numbered same. numbered.1 same;
    are = λ at word named words slot refers owned. slot_is at word named words refers owned
        (weak_slot (stands (weak_step refills)) refills.writes.of_kind refills.pairs.are slot);
    one_address = λ k at other numbered numbered_too. one_place k at other numbered numbered_too;
  }

  -- and the change of cells is the map's own
  pub pairs_own : IsOwnChange old new (cell ∷ others) (cell ∷ others) made
  pairs_own =
      renamed_own (refills_rename weak_owns refills.whole refills.writes refills.pairs.refills numbers)
      (pairs_sound refills)

-- and the heap is whole again
pub written_pairs_are_own : WrittenPairsAreOwn
written_pairs_are_own old new cell others made refills =
    let kept = written_own_keeps_cells weak_owns refills.whole refills.writes in
    let own = pairs_own refills in
    let whole : Whole new = own_changes_keep_whole old new (cell ∷ others) (cell ∷ others) made refills.whole
    refills.writes.sized kept.0 kept.1 own in
    (kept.0, kept.1, own, whole)
