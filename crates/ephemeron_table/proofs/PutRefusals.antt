-- Where an entry of a weak map is put, or there is no room for it: if no pair has its key, fewer pairs are filled than
-- the map may have entries.
use Rattle.std.proofs.Common.{◌≡◌, ℕ, ◌+◌, ◌<◌, inl, inr, List, Option, None, Some, Result, Ok, Err, refl, sym, ◌∙◌}
use Rattle.std.proofs.Common.{ap, subst}
use Rattle.std.proofs.Common.{not, ◌&&◌, slice_get}
use Rattle.std.specs.Result.{IsErrAnd}
use Rattle.std.proofs.lemmas.Bool.{cases_lt}
use Rattle.heap_model.specs.Types.{Value, Held}
use Rattle.object_graph.specs.Objects.{entry_value}
use Rattle.object_graph.specs.Graphs.{Graph, WeakObject}
use Rattle.object_graph.specs.Meaning.{weak_most}
use Rattle.heap_model.specs.Slots.{reference_word, RefersToPlace}
use Rattle.heap_model.specs.Kinds.{Pair}
use Rattle.heap_model.specs.Needs.{box_need, capacity_at, count_at, is_box_word, table_need}
use Rattle.heap_model.specs.Rooms.{IsMapFull, is_wide, wput_need, wput_need_by}
use Rattle.heap_model.proofs.ShownBoxes.{value_boxed}
use Rattle.write_barrier.specs.declared.room.NoRoom.{NoRoom}
use Rattle.write_barrier.specs.MutatorState.{Mutator, heap_of, MainShows}
use Rattle.object_cells.specs.HeldValues.{IsValueHeld}
use Rattle.object_cells.proofs.HeldNeeds.{wide_is}
use Rattle.ephemeron_table.specs.EntryChanges.{map_room, PutsEntry}
use Rattle.ephemeron_table.specs.WeakObjects.{IsKeyAt, IsWeakAt}
use Rattle.weak_pairs.specs.Pairs.{HasPairsAt, LacksPair}
use Rattle.ephemeron_table.specs.PairChanges.{NeedsPair, PutsBoth, PutsPair}
use Rattle.weak_pairs.specs.declared.table.Table.{Table}
use Rattle.ephemeron_table.specs.declared.stop.TableStop.{TableStop}
use Rattle.ephemeron_table.specs.declared.stop.TableStop.TheVariants as stop
use Rattle.ephemeron_table.proofs.KeysFound.{weak_shown, one_pair}
use Rattle.ephemeron_table.proofs.KnownTables.{KnownMap}
use Rattle.ephemeron_table.proofs.PairsByKey.{has_pair, lacks_pair, pairs_shown}

module _ {old : Mutator} {graph : Graph} {map key : ℕ} {weak : WeakObject} {number : ℕ} {table : Table}
    (known : KnownMap old map table) (shows : MainShows old graph) (is : IsWeakAt old graph map weak)
    (is_key : IsKeyAt old graph key number) where
  -- of a map that is not full for the key fewer pairs are filled than it may have entries, by the entry's value, if
  -- there is one
  few_by : {before : List Pair} (found : Option Value) → entry_value weak.entries number ≡ found
      → HasPairsAt (heap_of old) map before → (IsMapFull (map_room old map weak) weak number → ⊥)
      → LacksPair before (reference_word key) → count_at (heap_of old) map < weak_most
  few_by (Some value) is_entry has few lacks =
      let shown = weak_shown shows is in
      let its = has_pair shown is_key (pairs_shown known shown has) shows value is_entry in
      absurd (lacks its.0 its.1 its.2)
  few_by None fresh has few lacks = elim (cases_lt (count_at (heap_of old) map) weak_most) [
    | inl below ↦ below
    | inr many ↦ absurd (few (record { fresh = fresh; full = many }))
  ]

  -- so it has where no pair has the key
  pub few_lacking : {before : List Pair} → HasPairsAt (heap_of old) map before
      → (IsMapFull (map_room old map weak) weak number → ⊥) → LacksPair before (reference_word key)
      → count_at (heap_of old) map < weak_most
  few_lacking has few lacks = few_by (entry_value weak.entries number) refl has few lacks

  -- what the pair needs where the entry needs so many words, by the entry's value, if there is one
  needs_by : {before : List Pair} {need : ℕ} {value : Held} {what : Value} (found : Option Value)
      → entry_value weak.entries number ≡ found → HasPairsAt (heap_of old) map before → IsValueHeld old graph value what
      → need ≡ wput_need (map_room old map weak) weak what number
      → NeedsPair (heap_of old) map (reference_word key) value before need
  needs_by {value = value} {what} (Some there) is_entry has held needs =
      let heap = heap_of old in
      let shown = weak_shown shows is in
      let same = pairs_shown known shown has in
      record {
        fresh = λ lacks. let its = has_pair shown is_key same shows there is_entry in absurd (lacks its.0 its.1 its.2);
        there = λ place pair its.
            let refers : RefersToPlace heap pair.key number =
            record { at = key; refers = its.key_is; place = is_key.place } in
            let shows_it = one_pair place pair there shown is_key
            (ap (λ all. slice_get all place) same ∙ its.filled.stands) refers is_entry in
            let boxed = value_boxed pair.value there known.sizes shows.shows.whole.sized shows_it in
            needs ∙ ap (wput_need_by (map_room old map weak) what) is_entry
            ∙ ap (λ box. box_need (is_wide what && not box)) (sym boxed)
            ∙ ap (λ wide. box_need (wide && not (is_box_word heap pair.value))) (sym (wide_is value what held.shows));
      }
  needs_by {value = value} {what} None fresh has held needs =
      let heap = heap_of old in
      let shown = weak_shown shows is in
      record {
        fresh = λ lacks.
            needs ∙ ap (wput_need_by (map_room old map weak) what) fresh
            ∙ ap (λ wide. table_need (capacity_at heap map) (count_at heap map) + box_need wide)
            (sym (wide_is value what held.shows));
        there = λ place pair its.
            absurd (lacks_pair shown is_key (pairs_shown known shown has) fresh place pair its);
      }

  -- where there is no room for the entry, there is none for the pair
  pub pair_refused : {new : Mutator} {value : Held} {what : Value} (room : NoRoom) → IsValueHeld old graph value what
      → PutsEntry old new graph map key weak number what (Err (stop.Full room))
      → (before : List Pair) → HasPairsAt (heap_of old) map before
      → PutsPair old new map key value before (Err (stop.Full room))
  pair_refused room held refused before has = (
    few_lacking has refused.0,
    needs_by (entry_value weak.entries number) refl has held refused.1,
    refused.2,
    refused.3,
  )

  -- so a call that stops with that refuses both
  pub both_refused : {new : Mutator} {value : Held} {what : Value} (answer : Result Unit TableStop) (room : NoRoom)
      → IsErrAnd answer (λ one. one ≡ stop.Full room) → IsValueHeld old graph value what
      → PutsEntry old new graph map key weak number what (Err (stop.Full room))
      → PutsBoth old new graph map key weak number value what answer
  both_refused (Ok done) room is held refused = absurd is
  both_refused {new} {value} {what} (Err one) room is held refused =
      subst (λ e. PutsBoth old new graph map key weak number value what (Err e)) (sym is)
      (record { entry = refused; pairs = pair_refused room held refused })
