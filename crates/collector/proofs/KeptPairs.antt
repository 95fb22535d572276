-- The end of a cycle makes no pairs: a weak map has none of a key that it had none of.
use Rattle.std.proofs.Common.{◌≡◌, ◌∙◌, ℕ, Some, List, Contains, IsTrue, slice_get, refl, sym, ap, subst}
use Rattle.std.proofs.lemmas.Bool.{false_from_ne_true, false≢true}
use Rattle.tagged_word.specs.declared.layout.Kind.TheVariants as kind
use Rattle.tagged_word.specs.Cells.{is_free_kind}
use Rattle.object_graph.specs.declared.object.Object.TheVariants as graph_object
use Rattle.object_graph.specs.Graphs.{Graph}
use Rattle.object_graph.specs.Reach.{is_marked, reach}
use Rattle.heap_model.specs.Types.{Object, Entry, Cell}
use Rattle.heap_model.specs.Heaps.{Heap, HasCell}
use Rattle.heap_model.specs.Kinds.{Pair}
use Rattle.heap_model.specs.Slots.{IsPlace, RefersToPlace, IsWeakCellAt}
use Rattle.heap_model.specs.Showing.{ShowsReached, IsKnownKey, Shows}
use Rattle.heap_model.specs.Wholeness.{Whole}
use Rattle.heap_model.proofs.CellsApart.{one_at}
use Rattle.heap_model.proofs.NewKeys.{one_number}
use Rattle.heap_model.proofs.StaysCollectable.{object_not_free}
use Rattle.live_cells.specs.Cleared.{IsPairOfMap}
use Rattle.live_cells.specs.Exact.{KeepsNoOther}
use Rattle.live_cells.proofs.ReachedMarked.{shown, shown_place}
use Rattle.write_barrier.specs.MutatorState.{Mutator, heap_of}
use Rattle.weak_pairs.specs.Pairs.{HasPairsAt, IsFilledAt}
use Rattle.ephemeron_table.proofs.TablesRead.{one_map}
use Rattle.ephemeron_clear.proofs.FilledKeys.{some_pairs}
use Rattle.collector.specs.Born.{HasPairOf}
use Rattle.collector.specs.MarkSwept.{SweepsMarked}
use Rattle.collector.proofs.TakenPairs.{pair_filled, pair_of_pairs, pairs_of_map}

module _ {old new : Mutator} {marked : List ℕ} {graph : Graph} (sweeps : SweepsMarked old new marked graph) where
  -- an object that stands where marked cells alone are kept stood there, and was marked
  pub place_stood : (number at : ℕ) → IsPlace (heap_of new) number at
      → IsPlace (heap_of old) number at × Contains marked at
  place_stood number at place =
      let used = false_from_ne_true (is_free_kind place.cell.layout.kind)
      (object_not_free place.cell.layout.kind place.object) in
      let was = sweeps.used place.cell place.words place.has used in (
        record {
          cell = place.cell;
          words = was.words;
          has = was.had;
          stands = place.stands;
          object = place.object;
          carries = place.carries;
        },
        subst (Contains marked) place.stands was.among,
      )

  -- and a pair of a weak map stood in its table
  pair_stood : (map key : ℕ) (pair : Pair) → Whole (heap_of old) → IsPairOfMap (heap_of new) map pair
      → RefersToPlace (heap_of new) pair.key key → IsPairOfMap (heap_of old) map pair
  pair_stood map key pair whole is of_key =
      let was = sweeps.used is.cell is.words is.has (ap is_free_kind is.of_kind) in
      let had : IsWeakCellAt (heap_of old) map = record {
        cell = is.cell;
        words = was.words;
        has = was.had;
        stands = is.stands;
        of_kind = is.of_kind;
      } in
      let some = some_pairs whole had in
      let left = (sweeps.pairs map some.pairs (subst (Contains marked) is.stands was.among) some.are).has in
      let filled = pair_filled is.holds.at of_key.at is.holds.stands of_key.refers in
      pair_of_pairs (left.left.origin is.holds.at) some.are
      (left.left.from is.holds.at pair
      (subst (λ all. IsFilledAt all is.holds.at pair) (one_map (pairs_of_map is) left.are) filled))

  -- so each weak map has pairs of keys alone that it had
  pub swept_keys : Whole (heap_of old) → (map key : ℕ) → HasPairOf (heap_of new) map key
      → HasPairOf (heap_of old) map key
  swept_keys whole map key has = record {
    at = has.at;
    place = (place_stood map has.at has.place).0;
    pair = has.pair;
    is = pair_stood has.at key has.pair whole has.is has.of_key;
    of_key = record {
      at = has.of_key.at;
      refers = has.of_key.refers;
      place = (place_stood key has.of_key.at has.of_key.place).0;
    };
  }

-- the cell that shows an object has the kind of the cell where the object stands
shown_kind : {heap : Heap} (graph : Graph) {number at : ℕ} {what : Object} {cell : Cell} {words : List ℕ}
    (one : ShowsReached heap (reach graph) number what) → IsPlace heap number at → HasCell heap cell words
    → cell.at ≡ at → one.cell.layout.kind ≡ cell.layout.kind
shown_kind graph {at = at} one place has stands =
    ap (λ (c : Cell). c.layout.kind) (one_at one.has has (sym (one.once at place) ∙ sym stands))

-- where the heap shows the entry of a key that can be reached, the map has a pair of it
entry_has_pair : {heap : Heap} (graph : Graph) {map : ℕ} {entries : List Entry} (place : ℕ) (entry : Entry)
    → ShowsReached heap (reach graph) map (graph_object.Weak entries) → slice_get entries place ≡ Some entry
    → IsTrue (is_marked (reach graph) entry.key) → HasPairOf heap map entry.key
entry_has_pair graph {entries = entries} place entry one there reached =
    let weak = one.shows in
    let once = weak.each place entry there reached in
    record {
      at = one.cell.at;
      place = shown_place (reach graph) (graph_object.Weak entries) one;
      pair = once.pair;
      is = record {
        cell = one.cell;
        words = one.words;
        has = one.has;
        stands = refl;
        of_kind = weak.of_kind;
        holds = record {
          store = weak.store;
          slot = weak.slot;
          pairs = weak.pairs;
          table = weak.table;
          at = once.at;
          stands = once.stands;
        };
      };
      of_key = once.shows.key;
    }

module _ {old new : Heap} {graph : Graph} (before : Shows old graph) (keeps : KeepsNoOther new graph) where
  -- a known key that can be reached is an entry's, so the map had a pair of it
  known_had : {map key : ℕ} {entries : List Entry} (pair : Pair) → IsTrue (is_marked (reach graph) map)
      → slice_get graph.objects map ≡ Some (graph_object.Weak entries) → RefersToPlace new pair.key key
      → IsKnownKey new (reach graph) entries pair → HasPairOf old map key
  known_had {map} {key} {entries} pair reached object of_key (IsKnownKey.of_entry entry at there marked refers) =
      subst (HasPairOf old map) (one_number new pair.key entry.key key refers of_key)
      (entry_has_pair graph at entry (before.reached map (graph_object.Weak entries) object reached) there marked)
  known_had {map} {key} pair reached object of_key (IsKnownKey.unreached number refers unmarked) =
      let same = one_number new pair.key key number of_key refers in
      let marked = subst (λ n. IsTrue (is_marked (reach graph) n)) same (keeps.reached key of_key.at of_key.place) in
      absurd (false≢true (sym unmarked ∙ marked))

  -- so it had a pair of each key
  keys_by : (map key : ℕ) (has : HasPairOf new map key) (what : Object) → IsTrue (is_marked (reach graph) map)
      → slice_get graph.objects map ≡ Some what → ShowsReached new (reach graph) map what → HasPairOf old map key
  keys_by map key has (graph_object.Plain cap proto fields) reached object one =
      let kinds = shown_kind graph one has.place has.is.has has.is.stands in
      let apart : kind.Plain ≡ kind.Weak = sym one.shows.0.of_kind ∙ kinds ∙ has.is.of_kind in cc
  keys_by map key has (graph_object.List elements) reached object one =
      let kinds = shown_kind graph one has.place has.is.has has.is.stands in
      let apart : kind.List ≡ kind.Weak = sym one.shows.of_kind ∙ kinds ∙ has.is.of_kind in cc
  keys_by map key has (graph_object.Weak entries) reached object one =
      let holds = has.is.holds in
      let pairs : HasPairsAt new has.at one.shows.pairs = record {
        cell = one.cell;
        words = one.words;
        has = one.has;
        stands = sym (one.once has.at has.place);
        of_kind = one.shows.of_kind;
        are = record { store = one.shows.store; slot = one.shows.slot; table = one.shows.table };
      } in
      let filled = subst (λ all. IsFilledAt all holds.at has.pair) (one_map (pairs_of_map has.is) pairs)
      (pair_filled holds.at has.of_key.at holds.stands has.of_key.refers) in
      known_had has.pair reached object has.of_key (one.shows.others holds.at has.pair filled.stands filled.filled)

  -- a full collection leaves each weak map pairs of keys alone that it had
  pub exact_keys : (map key : ℕ) → HasPairOf new map key → HasPairOf old map key
  exact_keys map key has =
      let reached = keeps.reached map has.at has.place in
      let one = shown map keeps.shows reached in keys_by map key has one.0 reached one.1 one.2
