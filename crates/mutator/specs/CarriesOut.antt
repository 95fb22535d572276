-- What a call of the mutator does.
use Rattle.std.specs.Prelude.{◌≡◌, ℕ, ◌+◌, ◌^◌, List, Result, Ok, Err}
use Rattle.heap_model.specs.Types.{Command}
use Rattle.object_graph.specs.Graphs.{Graph}
use Rattle.object_graph.specs.Meaning.{done, fault, meaning}
use Rattle.object_graph.specs.Limits.{ideal_limits}
use Rattle.nursery.specs.Young.{HasRoom}
use Rattle.heap_model.specs.Rooms.{Room, HasRooms, need_of, FindsMapFull}
use Rattle.write_barrier.specs.MutatorState.{Mutator, heap_of, MainShows}
use Rattle.object_cells.specs.Contents.{next_at}
use Rattle.object_cells.specs.Uses.{UsesMore}
use Rattle.mutator.specs.Capacities.{KeepsStores}
use Rattle.mutator.specs.Changing.{KeepsOtherWords, MakesNoOtherCell}
use Rattle.mutator.specs.declared.stop.Stop.{Stop}
use Rattle.mutator.specs.declared.stop.Stop.TheVariants.{Fault, NoRoom, NoClear}

-- field names are numbered below this
abbrev pub field_numbers : ℕ
field_numbers = 2 ^ 32

-- Where objects have these rooms, as many words more are used as the command needs, for which there was room. Of the
-- words before the roots only these have changed, and those of the object that the command may change. The objects come
-- to have the rooms that the command gives them.
pub record TakesRoom (old new : Mutator) (graph after : Graph) (command : Command) (rooms : ℕ → Room) : Type 0 where
  pub room : HasRoom old.young (need_of graph rooms command)
  pub uses : UsesMore old new (need_of graph rooms command)
  pub words : KeepsOtherWords (heap_of old) (heap_of new) (next_at old) (next_at old + need_of graph rooms command)
      graph command
  pub stores : KeepsStores (heap_of old) (heap_of new) graph after command rooms

-- The call carried the command out, and wrote the text. The heap then shows what the command means, and no cell stands
-- there that may not. The words that the command needs were taken. Of the words before the roots no others have changed
-- but those of the object that it may change.
pub record HasCarriedOut (names : List (List ℕ)) (old new : Mutator) (graph : Graph) (command : Command)
    (text : List ℕ) : Type 0 where
  pub after : Graph
  pub means : meaning ideal_limits names graph command ≡ done after text
  pub shows : MainShows new after
  pub cells : MakesNoOtherCell (heap_of old) (heap_of new) after
  pub takes : (rooms : ℕ → Room) → HasRooms (heap_of old) graph rooms → TakesRoom old new graph after command rooms

-- The call carried the command out, or it stops: exactly where the meaning is a fault, or where there is none and the
-- words are not there where cells are made; or where a weak map is full of pairs, of which some may wait to be cleared,
-- so that the meaning may be a fault or not. All three change nothing.
abbrev pub Carries : List (List ℕ) → Mutator → Mutator → Graph → Command → List ℕ → Result Unit Stop → Type 0
Carries names old new graph command text (Ok _) = HasCarriedOut names old new graph command text
Carries names old new graph command text (Err (Fault word)) =
    (meaning ideal_limits names graph command ≡ fault word) × (new ≡ old)
Carries names old new graph command text (Err (NoRoom need)) =
    (after : Graph) × (written : List ℕ) × (meaning ideal_limits names graph command ≡ done after written)
    × ((rooms : ℕ → Room) → HasRooms (heap_of old) graph rooms → need ≡ need_of graph rooms command)
    × (HasRoom old.young need → ⊥) × (new ≡ old)
Carries names old new graph command text (Err (NoClear entries)) =
    ((rooms : ℕ → Room) → HasRooms (heap_of old) graph rooms → FindsMapFull graph rooms command entries) × (new ≡ old)

-- the command does not find its map full, with any number of pairs, by the rooms that objects have in the heap
abbrev pub FindsMapNotFull : Mutator → Graph → Command → Type 0
FindsMapNotFull main graph command =
    (entries : ℕ)
    → ((rooms : ℕ → Room) → HasRooms (heap_of main) graph rooms → FindsMapFull graph rooms command entries) → ⊥

-- A call that does not ask for a clearing did not find its map full: neither one that carried its command out, nor one
-- that stopped for another reason.
abbrev pub AsksWhereFull : Mutator → Graph → Command → Result Unit Stop → Type 0
AsksWhereFull main graph command (Ok _) = FindsMapNotFull main graph command
AsksWhereFull main graph command (Err (Fault word)) = FindsMapNotFull main graph command
AsksWhereFull main graph command (Err (NoRoom need)) = FindsMapNotFull main graph command
AsksWhereFull main graph command (Err (NoClear entries)) = Unit
