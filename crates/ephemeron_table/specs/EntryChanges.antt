-- What the calls on the entries of a weak map do.
use Rattle.std.specs.Prelude.{◌≡◌, ℕ, Some, None, unwrap_or, Result, Ok, Err}
use Rattle.heap_model.specs.Types.{Value, Held}
use Rattle.object_graph.specs.declared.value.Value.TheVariants.{Undefined}
use Rattle.object_graph.specs.declared.object.Object.TheVariants.{Weak}
use Rattle.object_graph.specs.Objects.{entry_value, with_entry, without_entry}
use Rattle.object_graph.specs.Graphs.{Graph, WeakObject}
use Rattle.object_graph.specs.Meaning.{reweave}
use Rattle.nursery.specs.Young.{HasRoom}
use Rattle.heap_model.specs.Showing.{ShowsHeld}
use Rattle.heap_model.specs.Needs.{capacity_at, count_at}
use Rattle.heap_model.specs.Rooms.{Room, room_at, room_put, room_without, wput_need, IsMapFull}
use Rattle.write_barrier.specs.MutatorState.{Mutator, heap_of, MainShows}
use Rattle.object_cells.specs.Uses.{UsesMore}
use Rattle.object_cells.specs.Capacities.{ChangesObjectUsing}
use Rattle.ephemeron_table.specs.declared.stop.TableStop.{TableStop}
use Rattle.ephemeron_table.specs.declared.stop.TableStop.TheVariants as stop

-- the room of the weak map whose cell stands at an address
abbrev pub map_room : Mutator → ℕ → WeakObject → Room
map_room main map weak = room_at (heap_of main) map (Weak weak.entries)

-- How the entry of the key whose cell stands at an address comes to have a value, in the weak map whose cell stands at
-- an address, which may be the same one: it allocates what that needs, for which there is room, and the heap shows the
-- graph in which the entry has it. Only words of the map change, and those that it allocates. Its table is made anew
-- where the key is new and the table is absent or would be too full; and one pair more is filled where the key is new.
pub record HasPutEntry (old new : Mutator) (graph : Graph) (map key : ℕ) (weak : WeakObject) (number : ℕ)
    (value : Value)
    : Type 0 where
  pub few : IsMapFull (map_room old map weak) weak number → ⊥
  pub room : HasRoom old.young (wput_need (map_room old map weak) weak value number)
  pub uses : UsesMore old new (wput_need (map_room old map weak) weak value number)
  pub changes : ChangesObjectUsing old new (wput_need (map_room old map weak) weak value number) map
      (room_put (map_room old map weak) (entry_value weak.entries number)).capacity
  pub counts : count_at (heap_of new) map ≡ (room_put (map_room old map weak) (entry_value weak.entries number)).entries
  pub shows : MainShows new (reweave graph weak (with_entry weak.entries number value))

-- `put`: the entry of the key has the value; or the key is new and as many pairs are filled as the map may have
-- entries, or there is no room, in this order, and nothing changes.
abbrev pub PutsEntry : Mutator → Mutator → Graph → (map key : ℕ) → WeakObject → ℕ → Value
    → Result Unit TableStop → Type 0
PutsEntry old new graph map key weak number value (Ok _) = HasPutEntry old new graph map key weak number value
PutsEntry old new graph map key weak number value (Err (stop.TableFull entries)) =
    IsMapFull (map_room old map weak) weak number × (entries ≡ (map_room old map weak).entries) × (new ≡ old)
PutsEntry old new graph map key weak number value (Err (stop.Full room)) =
    (IsMapFull (map_room old map weak) weak number → ⊥)
    × (room.need ≡ wput_need (map_room old map weak) weak value number)
    × (HasRoom old.young room.need → ⊥) × (new ≡ old)

-- `get`: what is held shows the value of the key's entry; undefined where there is none.
abbrev pub TellsEntry : Mutator → WeakObject → ℕ → Held → Type 0
TellsEntry main weak number held =
    ShowsHeld (heap_of main) held (Some (unwrap_or (entry_value weak.entries number) Undefined))

-- `delete`: the heap shows the graph without the entry of the key, and nothing changes where there was none. Only words
-- of the map change, and its table stays, with a pair less filled where there was one.
pub record DeletesEntry (old new : Mutator) (graph : Graph) (map : ℕ) (weak : WeakObject) (number : ℕ) : Type 0 where
  pub none : entry_value weak.entries number ≡ None → new ≡ old
  pub uses : UsesMore old new 0
  pub changes : ChangesObjectUsing old new 0 map (capacity_at (heap_of old) map)
  pub counts : count_at (heap_of new) map
      ≡ (room_without (map_room old map weak) (entry_value weak.entries number)).entries
  pub shows : MainShows new (reweave graph weak (without_entry weak.entries number))
