-- Where the pair of a key was put, the graph is shown in which the map has the entry.
use Rattle.std.proofs.Common.{◌≡◌, ℕ, suc, List, length, Some, refl, sym, ◌∙◌, ap, subst, arith}
use Rattle.std.proofs.lemmas.Option.{same_Some}
use Rattle.nursery.specs.Young.{HasRoom, bumped}
use Rattle.object_graph.specs.Graphs.{Graph, WeakObject}
use Rattle.object_graph.specs.Invariants.{IsValue}
use Rattle.object_graph.specs.Objects.{entry_value}
use Rattle.object_graph.specs.Reach.{reach}
use Rattle.write_barrier.specs.Seats.{RestStays}
use Rattle.heap_model.specs.Types.{Value, Entry, Cell, Held}
use Rattle.heap_model.specs.Heaps.{Heap, words_of_cell}
use Rattle.heap_model.specs.Kinds.{Pair}
use Rattle.heap_model.specs.Needs.{count_at}
use Rattle.heap_model.specs.Rooms.{Room, room_put, wput_need}
use Rattle.heap_model.specs.Showing.{ShowsWeak}
use Rattle.heap_model.proofs.CellsApart.{one_at}
use Rattle.write_barrier.specs.MutatorState.{Mutator, heap_of}
use Rattle.object_cells.specs.Capacities.{ChangesObjectUsing}
use Rattle.object_cells.specs.Uses.{UsesMore}
use Rattle.ephemeron_table.specs.EntryChanges.{map_room, HasPutEntry}
use Rattle.ephemeron_table.specs.PairLaws.{WrittenEntriesShow, IsNewValue}
use Rattle.weak_pairs.proofs.CountedPairs.{count_filled}
use Rattle.ephemeron_table.proofs.KeysFound.{weak_shown}
use Rattle.ephemeron_table.proofs.PutShown.{CountsPut, PutsShown, count_after}

-- so many pairs hold something as the map has room for, with one more where the key is new
counts_put : {heap : Heap} {map number : ℕ} {entries : List Entry} {after : List Pair} (room : Room)
    → room.entries ≡ count_at heap map → CountsPut heap map entries number after
    → count_filled after ≡ (room_put room (entry_value entries number)).entries
counts_put room same (CountsPut.there value is counted) =
    counted ∙ sym same ∙ ap (λ found. (room_put room found).entries) (sym is)
counts_put {after = after} room same (CountsPut.fresh is counted) =
    let more : count_filled after ≡ suc room.entries = omega (arith, counted, same) in
    more ∙ ap (λ found. (room_put room found).entries) (sym is)

-- so the map has it
pub entry_put : {old new : Mutator} {graph : Graph} {map key : ℕ} {weak : WeakObject} {number : ℕ} {value : Held}
    {what : Value} (puts : PutsShown old new graph map key weak number value what) → WrittenEntriesShow
    → IsValue (length graph.objects) what → puts.need ≡ wput_need (map_room old map weak) weak what number
    → puts.capacity ≡ (room_put (map_room old map weak) (entry_value weak.entries number)).capacity
    → HasRoom old.young puts.need → RestStays old.seat new.seat
    → new.young ≡ bumped old.young puts.need
    → HasPutEntry old new graph map key weak number what
entry_put {old} {new} {graph} {map} {key} {weak} {number} {what = what} puts entries_show fits need_is capacity_is room
    beside young =
    let shown = weak_shown puts.shows puts.is in
    let same : shown.cell ≡ puts.cell =
    one_at shown.has puts.refills.writes.stood (shown.stands ∙ sym puts.stands) in
    record {
      few = puts.few;
      room = subst (HasRoom old.young) need_is room;
      uses = subst (UsesMore old new) need_is
          (record { beside = beside; young = young; free = puts.remembers.touches.free });
      changes = subst (λ n. ChangesObjectUsing old new n map
          (room_put (map_room old map weak) (entry_value weak.entries number)).capacity) need_is
          (subst (ChangesObjectUsing old new puts.need map) capacity_is puts.changes);
      counts = count_after puts ∙ counts_put (map_room old map weak) refl puts.counted;
      shows = entries_show old new graph weak puts.cell puts.others puts.made number (Some what) puts.shows
          puts.is.object puts.is.reached puts.is_key.reached
          (ap (λ (c : Cell). c.header.object) (sym same) ∙ shown.carries)
          (subst (λ (c : Cell). ShowsWeak (heap_of old) (reach graph) c (words_of_cell (heap_of old) c) weak.entries)
          same shown.shows)
          (λ one is. subst (IsNewValue graph) (same_Some what one is)
          (record { is = fits; reached = puts.is_held.reached }))
          puts.takes puts.stores puts.refills puts.one puts.remembers;
    }
