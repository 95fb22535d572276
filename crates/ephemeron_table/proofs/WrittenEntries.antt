-- Where the pairs of a weak map were written so that the entry of one key was put or removed, the heap shows the
-- graph in which it was.
use Rattle.std.proofs.Common.{◌≡◌, ℕ, ◌<◌, true, List, ◌∷◌, length, Option, Some, None, slice_get, refl, sym, ◌∙◌, ap}
use Rattle.std.proofs.Common.{subst, arith}
use Rattle.std.specs.Prelude.{Contains, IsTrue, option_and_then}
use Rattle.std.proofs.lemmas.Option.{slice_get-get_or, slice_get_within, get_or_from_slice_get}
use Rattle.tagged_word.proofs.Members.{first_in}
use Rattle.heap_model.specs.Types.{Value, Entry, Cell}
use Rattle.object_graph.specs.declared.value.Value.TheVariants.{Ref}
use Rattle.object_graph.specs.declared.object.Object.TheVariants.{Weak}
use Rattle.object_graph.specs.Graphs.{Graph, WeakObject, as_weak}
use Rattle.object_graph.specs.Reach.{is_marked, reach}
use Rattle.object_graph.specs.Invariants.{IsValue, IsEntry, AreEntries, IsObject, IsGraph}
use Rattle.object_graph.proofs.Rounds.{marked_within, length-rounds}
use Rattle.graph_laws.proofs.HeldParts.{with_entry_held, without_entry_held}
use Rattle.graph_laws.proofs.MadeGraphs.{reweaves}
use Rattle.graph_laws.proofs.Reaches.{reach_closed}
use Rattle.heap_model.specs.Heaps.{Heap}
use Rattle.heap_model.proofs.SlotWords.{All-slice_get}
use Rattle.write_barrier.specs.MutatorState.{heap_of}
use Rattle.object_cells.specs.HeldValues.{IsReachedValue}
use Rattle.object_cells.specs.Refills.{RestsAgain}
use Rattle.object_cells.proofs.ReplacedObjects.{HasReachedLinks, ReplacesCells, replaced, rests_again, replaced_shows}
use Rattle.object_cells.proofs.ReplacedObjects.{stays_reached}
use Rattle.object_cells.proofs.OwnCellsKeep.{own_cells_keep}
use Rattle.object_cells.proofs.OwnSteps.{went_object, of_kind_is_no_object}
use Rattle.object_cells.proofs.OwnerWrites.{weak_owns, written_own_keeps_cells}
use Rattle.weak_pairs.specs.Entries.{entries_with}
use Rattle.ephemeron_table.specs.PairLaws.{IsNewValue, WrittenEntriesShow}
use Rattle.weak_pairs.proofs.EntryLists.{EntryComes, entry_comes}
use Rattle.ephemeron_table.proofs.KeptEntries.{entry_from}
use Rattle.ephemeron_table.proofs.KeptMaps.{map_keeps_cells, map_slot_from}
use Rattle.ephemeron_table.proofs.PairNames.{pairs_own}
use Rattle.ephemeron_table.proofs.ShownEntries.{Reweaving, weak_shows}
use Rattle.ephemeron_table.proofs.ReplacedPairs.{weak_step}

-- what is contained stands at some place
place_of : {X : Type 0} (xs : List X) (x : X) → Contains xs x → (k : ℕ) × (slice_get xs k ≡ Some x)
place_of xs x there = (there.0, slice_get-get_or xs there.0 x there.1 ∙ ap (λ y. Some y) there.2)

-- what can be reached is one of the objects
reached_within : (graph : Graph) (number : ℕ) → IsTrue (is_marked (reach graph) number) → number < length graph.objects
reached_within graph number marked =
    omega (arith, marked_within (reach graph) number marked, length-rounds graph (length graph.objects))

-- the entries of a weak map of a graph are entries of its objects
entries_are : (graph : Graph) (weak : WeakObject) → IsGraph graph
    → slice_get graph.objects weak.number ≡ Some (Weak weak.entries) → AreEntries (length graph.objects) weak.entries
entries_are graph weak is there =
    All-slice_get (IsObject (length graph.objects)) graph.objects weak.number (Weak weak.entries) is.made there

-- so are they with one put or removed
entries_held : (count : ℕ) (entries : List Entry) (number : ℕ) (value : Option Value) → number < count
    → ((what : Value) → value ≡ Some what → IsValue count what) → AreEntries count entries
    → AreEntries count (entries_with entries number value)
entries_held count entries number (Some what) below is are =
    with_entry_held count entries number what below (is what refl) are
entries_held count entries number None below is are = without_entry_held count entries number are

-- what an entry links to can be reached, if it is the one that was put or one that was there
entry_reached : (graph : Graph) (weak : WeakObject) (number : ℕ) (value : Option Value) (entry : Entry) (one : ℕ)
    → IsGraph graph → slice_get graph.objects weak.number ≡ Some (Weak weak.entries)
    → IsTrue (is_marked (reach graph) weak.number)
    → ((what : Value) → value ≡ Some what → IsNewValue graph what) → is_marked (reach graph) entry.key ≡ true
    → entry.value ≡ Ref one → EntryComes weak.entries number value entry → IsTrue (is_marked (reach graph) one)
entry_reached graph weak number value entry one is there marked is_new key same (EntryComes.put what given put) =
    subst (IsReachedValue graph) (ap (λ (e : Entry). e.value) (sym put) ∙ same) (is_new what given).reached
entry_reached graph weak number value entry one is there marked is_new key same (EntryComes.stayed other stood) =
    let count : ℕ = length graph.objects in
    let held : IsEntry count entry =
    All-slice_get (IsEntry count) weak.entries stood.at entry (entries_are graph weak is there).keys_and_values
    stood.stands in
    let among : Contains weak.entries entry = (
      stood.at,
      slice_get_within weak.entries stood.at entry stood.stands,
      get_or_from_slice_get weak.entries stood.at entry entry stood.stands,
    ) in
    reach_closed graph weak.number (Weak weak.entries) one there marked (subst (IsValue count) same held.value)
    (entry, among, key, same)

-- each object that the map then links to can be reached
links_reached : (graph : Graph) (weak : WeakObject) (number : ℕ) (value : Option Value) → IsGraph graph
    → slice_get graph.objects weak.number ≡ Some (Weak weak.entries) → IsTrue (is_marked (reach graph) weak.number)
    → ((what : Value) → value ≡ Some what → IsNewValue graph what)
    → HasReachedLinks graph (Weak (entries_with weak.entries number value))
links_reached graph weak number value is there marked is_new one link =
    let at = place_of (entries_with weak.entries number value) link.0 link.1 in
    entry_reached graph weak number value link.0 one is there marked is_new link.2 link.3
    (entry_comes weak.entries number value at.0 link.0 (entries_are graph weak is there).distinct at.1)

-- so the heap shows the graph in which the map has these entries
pub written_entries_show : WrittenEntriesShow
written_entries_show old new graph weak cell others made number value shows there marked key_marked carries shown is_new
    takes stores refills puts remembers =
    let before : Heap = heap_of old in
    let now : Heap = heap_of new in
    let entries : List Entry = entries_with weak.entries number value in
    let law = written_own_keeps_cells weak_owns refills.whole refills.writes in
    let are = entries_are graph weak shows.is_graph there in
    let weaving : Reweaving before now graph cell others made weak.entries number value =
    record { refills = refills; puts = puts; shown = shown; distinct = are.distinct } in
    let all : List Cell = cell ∷ others in
    let rest : RestsAgain old new made =
    rests_again all all made shows takes refills.writes.sized law.0 law.1 remembers in
    let replaces : ReplacesCells before now graph weak.number (Weak entries) all all made = record {
      cells = law.1;
      own = pairs_own refills;
      only = λ other among object.
          ap (λ (c : Cell). c.header.object) (sym (went_object (weak_step refills) other among object)) ∙ carries;
      no_object = λ other among.
          of_kind_is_no_object weak_owns refills.whole refills.writes other (refills.pairs.refills.kinds other among);
      cell = cell;
      among = first_in cell others;
      carries = carries;
      shows = weak_shows weaving;
    } in
    let held = entries_held (length graph.objects) weak.entries number value (reached_within graph number key_marked)
    (λ what given. (is_new what given).is) are in
    let at = ap (λ found. option_and_then (as_weak weak.number) found) there in
    replaced_shows weak.number (Weak entries) graph.paths shows
    (reweaves graph (Ref weak.number) weak entries shows.is_graph at held)
    (refills.paths ∙ shows.shows.paths)
    (links_reached graph weak number value shows.is_graph there marked is_new) rest replaces
    (λ mark. own_cells_keep (replaced graph weak.number (Weak entries) graph.paths) weak_owns shows mark refills.writes
    refills.pairs.refills takes
    (subst (λ n. IsTrue (is_marked (reach (replaced graph weak.number (Weak entries) graph.paths)) n)) (sym carries)
    (stays_reached graph weak.number (Weak entries) graph.paths marked))
    (map_keeps_cells shows takes stores refills mark)
    (λ from at slot among owned. map_slot_from refills from at slot among)
    (entry_from old new graph weak number value shows there marked key_marked carries is_new refills puts mark))
