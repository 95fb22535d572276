-- Clearing takes pairs away, and nothing else: what marking visits stays.
use Rattle.std.proofs.Common.{◌≡◌, ◌≢◌, ℕ, ◌+◌, ◌<◌, List, Some, Contains, slice_get, sym, ◌∙◌}
use Rattle.std.proofs.Common.{ap, subst, arith}
use Rattle.tagged_word.specs.declared.layout.Kind.TheVariants as kind
use Rattle.tagged_word.specs.Cells.{tagged_offsets, tagged_offsets_of, store_slot}
use Rattle.tagged_word.proofs.Members.{one_in}
use Rattle.page_space.specs.Sizes.{AreWithin}
use Rattle.cell_layout.proofs.OneCell.{slots_lie_within}
use Rattle.handle_roots.specs.Roots.{root_at}
use Rattle.write_barrier.specs.Seats.{heap_words}
use Rattle.heap_model.specs.Types.{Cell}
use Rattle.heap_model.specs.Heaps.{Heap, HasCell, words_of_cell}
use Rattle.heap_model.specs.Slots.{reference_word, IsWeakCellAt}
use Rattle.heap_model.specs.Kinds.{Pair, count_offset}
use Rattle.heap_model.specs.Wholeness.{Whole}
use Rattle.heap_model.proofs.BoundHeaps.{none_in}
use Rattle.heap_model.proofs.CellsApart.{has_is_cell}
use Rattle.heap_model.proofs.WordClasses.{hole_refers_not}
use Rattle.live_cells.specs.Cleared.{IsPairOfMap, TakesPairs}
use Rattle.live_cells.proofs.Slots.{marking_slots}
use Rattle.write_barrier.specs.MutatorState.{Mutator, heap_of}
use Rattle.object_cells.proofs.SlotsNow.{word_at_offset}
use Rattle.weak_pairs.specs.Pairs.{HasPairsAt, IsFilledAt}
use Rattle.ephemeron_table.proofs.TablesRead.{one_map}
use Rattle.ephemeron_clear.specs.Clearing.{AreMaps, TakesUnmarked}
use Rattle.ephemeron_clear.proofs.FilledKeys.{some_pairs}
use Rattle.collector.proofs.BesideMaps.{behind_cells, cell_beside}

-- the pairs of a map are those in which a pair of it stands
pub pairs_of_map : {heap : Heap} {map : ℕ} {pair : Pair} (is : IsPairOfMap heap map pair)
    → HasPairsAt heap map is.holds.pairs
pairs_of_map is = record {
  cell = is.cell;
  words = is.words;
  has = is.has;
  stands = is.stands;
  of_kind = is.of_kind;
  are = record { store = is.holds.store; slot = is.holds.slot; table = is.holds.table };
}

-- a pair whose key is an object holds something
pub pair_filled : {pairs : List Pair} {pair : Pair} (at key : ℕ) → slice_get pairs at ≡ Some pair
    → pair.key ≡ reference_word key → IsFilledAt pairs at pair
pair_filled at key there key_is = record {
  stands = there;
  filled = λ free. hole_refers_not key (ap (λ (p : Pair). p.key) (sym free) ∙ key_is);
}

-- a filled pair of a map is one of the map
pub pair_of_pairs : {heap : Heap} {map : ℕ} {pairs : List Pair} {pair : Pair} (at : ℕ) → HasPairsAt heap map pairs
    → IsFilledAt pairs at pair → IsPairOfMap heap map pair
pair_of_pairs {pairs = pairs} at has filled = record {
  cell = has.cell;
  words = has.words;
  has = has.has;
  stands = has.stands;
  of_kind = has.of_kind;
  holds = record {
    store = has.are.store;
    slot = has.are.slot;
    pairs = pairs;
    table = has.are.table;
    at = at;
    stands = filled.stands;
  };
}

-- what marking visits of a weak map is no count
no_count_visited : (cell : Cell) (offset : ℕ) → Contains (tagged_offsets cell.layout cell.length) offset
    → cell.layout.kind ≡ kind.Weak → cell.at + offset ≢ cell.at + count_offset
no_count_visited cell offset visited is same =
    let slot = subst (λ k. Contains (tagged_offsets_of k cell.layout cell.length) offset) is visited in
    omega (arith, one_in store_slot offset slot, same)

-- and it visits nothing of a table
no_table_visited : (cell : Cell) (offset : ℕ) → Contains (tagged_offsets cell.layout cell.length) offset
    → cell.layout.kind ≡ kind.Table → ⊥
no_table_visited cell offset visited is =
    none_in offset (subst (λ k. Contains (tagged_offsets_of k cell.layout cell.length) offset) is visited)

module _ {old new : Mutator} {maps marked : List ℕ} (whole : Whole (heap_of old))
    (within : AreWithin old.seat.space.sizes old.seat.space.variables) (are : AreMaps (heap_of old) maps)
    (takes : TakesUnmarked old new maps marked) where
  -- root words are as they were
  root_stays : (variable : ℕ) → variable < old.seat.space.variables
      → slice_get (heap_words new.seat) (root_at old.seat.space variable)
      ≡ slice_get (heap_words old.seat) (root_at old.seat.space variable)
  root_stays variable known =
      takes.stay (root_at old.seat.space variable)
      (behind_cells whole within maps (root_at old.seat.space variable) are (omega arith))

  -- and so are slots that marking visits
  slot_stays : (cell : Cell) (words others : List ℕ) (offset : ℕ) → HasCell (heap_of old) cell words
      → HasCell (heap_of new) cell others → Contains (tagged_offsets cell.layout cell.length) offset
      → slice_get others offset ≡ slice_get words offset
  slot_stays cell words others offset has has_now visited =
      let slot = marking_slots cell.layout.kind cell.layout cell.length offset visited in
      let inside = (slots_lie_within old.seat.space (heap_words old.seat) cell offset (has_is_cell has) slot).within in
      let beside = cell_beside whole within maps (cell.at + offset) are has
      (record { from = omega arith; below = omega (arith, inside) }) (no_table_visited cell offset visited)
      (no_count_visited cell offset visited) in
      word_at_offset offset has_now inside ∙ takes.stay (cell.at + offset) beside
      ∙ sym (word_at_offset offset has inside)

  -- a pair of a map stood in its table
  pair_stood : (map key : ℕ) (pair : Pair) → pair.key ≡ reference_word key → IsPairOfMap (heap_of new) map pair
      → IsPairOfMap (heap_of old) map pair
  pair_stood map key pair key_is is =
      let had : IsWeakCellAt (heap_of old) map = record {
        cell = is.cell;
        words = words_of_cell (heap_of old) is.cell;
        has = takes.cells.stood is.cell is.words is.has;
        stands = is.stands;
        of_kind = is.of_kind;
      } in
      let some = some_pairs whole had in
      let left = takes.left map some.pairs some.are in
      let filled = pair_filled is.holds.at key is.holds.stands key_is in
      pair_of_pairs (left.left.origin is.holds.at) some.are
      (left.left.from is.holds.at pair
      (subst (λ all. IsFilledAt all is.holds.at pair) (one_map (pairs_of_map is) left.are) filled))

  -- and one whose key is marked stands there
  pair_stays : (map key : ℕ) (pair : Pair) → Contains marked key → pair.key ≡ reference_word key
      → IsPairOfMap (heap_of old) map pair → IsPairOfMap (heap_of new) map pair
  pair_stays map key pair key_marked key_is is =
      let left = takes.left map is.holds.pairs (pairs_of_map is) in
      let now = left.left.kept is.holds.at pair (pair_filled is.holds.at key is.holds.stands key_is)
      (record { at = key; refers = key_is; among = key_marked }) in
      pair_of_pairs now.0 left.are now.1

  -- So pairs alone are taken away.
  pub pairs_taken : TakesPairs (heap_of old) (heap_of new) marked
  pairs_taken = record {
    space = takes.uses.beside.space;
    stays = λ cell words has. (words_of_cell (heap_of new) cell, takes.cells.stays cell words has);
    stood = λ cell others has. (words_of_cell (heap_of old) cell, takes.cells.stood cell others has);
    roots = root_stays;
    slots = λ cell words others offset has has_now among visited.
        slot_stays cell words others offset has has_now visited;
    none_made = λ map key pair among key_is is. pair_stood map key pair key_is is;
    kept = λ map key pair among key_marked key_is is. pair_stays map key pair key_marked key_is is;
  }
