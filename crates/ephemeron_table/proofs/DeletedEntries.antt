-- An entry of a weak map was removed.
use Rattle.std.proofs.Common.{◌≡◌, ◌≢◌, ℕ, Bool, true, false, cond, List, [], ◌∷◌, Some, None, slice_get, unwrap_or}
use Rattle.std.proofs.Common.{get_or, set, refl, sym, ◌∙◌, ap, subst, ◌==◌}
use Rattle.std.specs.Prelude.{slice_set}
use Rattle.std.proofs.lemmas.List.{set-get_or}
use Rattle.std.proofs.lemmas.Option.{none-some, get_or_from_slice_get}
use Rattle.heap_model.specs.Types.{Entry, Object}
use Rattle.object_graph.specs.declared.object.Object.TheVariants.{Weak}
use Rattle.object_graph.specs.Objects.{entry_value, without_entry}
use Rattle.object_graph.specs.Graphs.{Graph, WeakObject}
use Rattle.object_graph.specs.Meaning.{reweave}
use Rattle.write_barrier.specs.Seats.{heap_words}
use Rattle.write_barrier.specs.Staying.{rest_stays_itself}
use Rattle.heap_model.specs.Slots.{RefersToPlace}
use Rattle.heap_model.specs.Kinds.{Pair}
use Rattle.heap_model.specs.Needs.{capacity_at}
use Rattle.heap_model.specs.Rooms.{room_without}
use Rattle.write_barrier.specs.MutatorState.{Mutator, heap_of, MainShows}
use Rattle.object_cells.specs.Capacities.{ChangesObjectUsing}
use Rattle.object_cells.specs.Contents.{next_at}
use Rattle.object_cells.proofs.MadeBoxes.{row_of_none}
use Rattle.object_cells.proofs.NothingUsed.{room_for_none, uses_none, nothing_changes}
use Rattle.object_cells.proofs.TakenRuns.{bumped_none, takes_none}
use Rattle.ephemeron_table.proofs.KeptTables.{tables_stay}
use Rattle.ephemeron_table.specs.EntryChanges.{map_room, DeletesEntry}
use Rattle.ephemeron_table.specs.WeakObjects.{IsWeakAt}
use Rattle.weak_pairs.specs.Pairs.{IsFilledAt}
use Rattle.ephemeron_table.specs.PairLaws.{PutsOne, WrittenEntriesShow}
use Rattle.ephemeron_table.specs.Removals.{RemovesAt}
use Rattle.weak_pairs.specs.Tables.{pairs_of}
use Rattle.weak_pairs.specs.declared.table.Table.{Table}
use Rattle.ephemeron_table.proofs.EntryPairs.{HasEntryPair, shown, known, some, entry_filled, entry_refers}
use Rattle.ephemeron_table.proofs.EntryPairs.{entry_only}
use Rattle.ephemeron_table.proofs.KnownTables.{KnownMap}
use Rattle.ephemeron_table.proofs.MapTouches.{removed_remembers}
use Rattle.ephemeron_table.proofs.MapsWithout.{refills_weak, refers_back, slot_stays}
use Rattle.weak_pairs.proofs.FilledPairs.{free_not_filled, same_filled}

-- where no entry has the key, none is removed, by whether the first has it
same_by : (test : Bool) (entry : Entry) (entries : List Entry) (key : ℕ)
    → cond test (Some entry.value) (entry_value entries key) ≡ None
    → (entry_value entries key ≡ None → without_entry entries key ≡ entries)
    → cond test entries (entry ∷ without_entry entries key) ≡ entry ∷ entries
same_by true entry entries key is rest = absurd (none-some entry.value (sym is))
same_by false entry entries key is rest = ap (λ more. entry ∷ more) (rest is)

-- so they stay
pub without_none : (entries : List Entry) (key : ℕ) → entry_value entries key ≡ None
    → without_entry entries key ≡ entries
without_none [] key is = refl
without_none (entry ∷ entries) key is = same_by (entry.key == key) entry entries key is (without_none entries key)

-- a graph with the entries that a weak map has is the same
reweave_same : (graph : Graph) (weak : WeakObject) → slice_get graph.objects weak.number ≡ Some (Weak weak.entries)
    → reweave graph weak weak.entries ≡ graph
reweave_same graph weak is =
    let same : get_or graph.objects weak.number (Weak weak.entries) ≡ Weak weak.entries =
    get_or_from_slice_get graph.objects weak.number (Weak weak.entries) (Weak weak.entries) is in
    let objects : slice_set graph.objects weak.number (Weak weak.entries) ≡ graph.objects =
    ap (λ (what : Object). set graph.objects weak.number what) (sym same)
    ∙ set-get_or graph.objects weak.number (Weak weak.entries) in
    ap (λ (all : List Object). record graph { objects = all }) objects

-- where no entry has the key, nothing changes
pub deletes_none : (main : Mutator) (graph : Graph) (map : ℕ) (weak : WeakObject) (number : ℕ) → MainShows main graph
    → IsWeakAt main graph map weak → entry_value weak.entries number ≡ None
    → DeletesEntry main main graph map weak number
deletes_none main graph map weak number shows is none =
    let same : reweave graph weak (without_entry weak.entries number) ≡ graph =
    ap (reweave graph weak) (without_none weak.entries number none) ∙ reweave_same graph weak is.object in
    record {
      none = λ no_entry. refl;
      uses = uses_none (rest_stays_itself main.seat) refl refl;
      changes = nothing_changes (heap_of main) map (capacity_at (heap_of main) map) refl;
      counts = ap (λ found. (room_without (map_room main map weak) found).entries) (sym none);
      shows = subst (MainShows main) (sym same) shows;
    }

-- The pair of an entry that is shown was removed.
pub record IsDeleting (old new : Mutator) (graph : Graph) (map key : ℕ) (weak : WeakObject) (number place : ℕ)
    (table : Table) : Type 0 where
  pub has : HasEntryPair old graph map key weak number place table
  pub removes : RemovesAt old new map table place

module _ {old new : Mutator} {graph : Graph} {map key : ℕ} {weak : WeakObject} {number place : ℕ} {table : Table}
    (deleting : IsDeleting old new graph map key weak number place table) where
  -- the map, its table, and the pair
  abbrev its : HasEntryPair old graph map key weak number place table
  its = deleting.has

  abbrev is_known : KnownMap old map table
  is_known = known its

  abbrev one : Pair
  one = its.told.pair

  -- so all pairs but this are kept
  puts_one : PutsOne (heap_of old) (heap_of new)
      (refills_weak is_known (some its) deleting.removes one (entry_filled its)).pairs number None
  puts_one =
      let removes = deleting.removes in
      record {
        kept = λ at pair is_filled other.
            let apart : at ≢ place = λ same. other (subst (λ (p : Pair). RefersToPlace (heap_of old) p.key number)
            (same_filled (pairs_of (heap_words old.seat) table) place at one pair (sym same) (entry_filled its)
            is_filled)
            (entry_refers its)) in
            let kept = removes.removed.kept at pair is_filled apart in (
              kept.0,
              kept.1,
              kept.2,
              λ same. free_not_filled (pairs_of (heap_words new.seat) table) removes.hole pair removes.free
                  (subst (λ n. IsFilledAt (pairs_of (heap_words new.seat) table) n pair) same kept.1),
            );
        own = λ at pair is_filled refers_now.
            let from = removes.removed.from at pair is_filled in
            absurd (from.1 (entry_only its (removes.removed.origin at) pair from.0
            (refers_back is_known (some its) removes one (entry_filled its) pair.key number refers_now)));
        shown = λ what is. absurd (none-some what is);
        none_put = λ is pair is_filled.
            free_not_filled (pairs_of (heap_words new.seat) table) removes.hole pair removes.free is_filled;
      }

  pub deletes_entry : WrittenEntriesShow → DeletesEntry old new graph map weak number
  deletes_entry entries_show =
      let removes = deleting.removes in
      let refills = refills_weak is_known (some its) removes one (entry_filled its) in
      record {
        none = λ no_entry. absurd (none-some its.told.value (sym no_entry ∙ its.told.is_entry));
        uses = uses_none removes.rest removes.young removes.touches.free;
        changes = subst (λ at. ChangesObjectUsing old new 0 at (capacity_at (heap_of old) at))
            (shown its).stands (tables_stay refills (row_of_none (heap_of new) (next_at old))
            (slot_stays is_known (some its) removes one (entry_filled its)));
        counts = ap (λ found. unwrap_or found 0) removes.counted
            ∙ ap (λ found. (room_without (map_room old map weak) found).entries) (sym its.told.is_entry);
        shows = entries_show old new graph weak (shown its).cell _ [] number None its.shows its.is.object its.is.reached
            its.is_key.reached (shown its).carries (shown its).shows (λ what is. absurd (none-some what is))
            (takes_none removes.rest (room_for_none old is_known.tied is_known.whole)
            (removes.young ∙ sym (bumped_none old.young))) removes.stores refills puts_one
            (removed_remembers is_known (some its) removes);
      }
