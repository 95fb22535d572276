-- When a command finds its heap collected.
use Rattle.std.specs.Prelude.{◌≡◌, ◌≢◌, ℕ, Bool, true, false, List, Result, Ok, Err}
use Rattle.heap_model.specs.Types.{Command, FaultWord}
use Rattle.heap_command.specs.declared.command.Command.TheVariants.{Scavenge, Mark, Finish}
use Rattle.heap_command.specs.declared.command.FaultWord.TheVariants.{WeakFull}
use Rattle.object_graph.specs.Graphs.{Graph}
use Rattle.object_graph.specs.Limits.{ideal_limits}
use Rattle.object_graph.specs.Meaning.{done, fault, meaning}
use Rattle.heap_model.specs.Heaps.{Heap}
use Rattle.heap_model.specs.Rooms.{Room, HasRooms, need_of, FindsMapFull}
use Rattle.nursery.specs.Young.{HasRoom}
use Rattle.live_cells.specs.Exact.{Fits}
use Rattle.write_barrier.specs.MutatorState.{Mutator, heap_of, MainShows}
use Rattle.scavenger.specs.Scavenged.{Scavenges}
use Rattle.scavenger.specs.Laws.{KeepsGraphs}
use Rattle.collector.specs.Born.{BeginsCycle}
use Rattle.collector.specs.Collected.{CollectsAll}
use Rattle.collector.specs.Making.{IsOutOfRoom, Serves, MakesRoom}
use Rattle.mutator.specs.declared.stop.Stop.{Stop}
use Rattle.mutator.specs.declared.stop.Stop.TheVariants.{Fault, NoRoom, NoClear}
use Rattle.mutator.specs.CarriesOut.{Carries, FindsMapNotFull, AsksWhereFull}
use Rattle.heap_script.specs.Cycles.{asks_collector, AsksForAll, CollectsNothing}

-- the command is none of the collector's
abbrev pub IsApart : Command → Type 0
IsApart command = asks_collector command ≡ false

-- The command is no fault.
pub record IsSound (names : List (List ℕ)) (graph : Graph) (command : Command) : Type 0 where
  pub after : Graph
  pub written : List ℕ
  pub is : meaning ideal_limits names graph command ≡ done after written

-- The command needs so many words, whatever rooms objects have in the heap, and there is no room for them. It does not
-- find its weak map full of pairs.
pub record LacksWords (main : Mutator) (graph : Graph) (command : Command) (need : ℕ) : Type 0 where
  pub needs : (rooms : ℕ → Room) → HasRooms (heap_of main) graph rooms → need ≡ need_of graph rooms command
  pub lacks : HasRoom main.young need → ⊥
  pub unfull : FindsMapNotFull main graph command

-- the command finds its weak map full of so many pairs, whatever rooms objects have in the heap
abbrev pub FindsPairs : Heap → Graph → Command → ℕ → Type 0
FindsPairs heap graph command entries =
    (rooms : ℕ → Room) → HasRooms heap graph rooms → FindsMapFull graph rooms command entries

-- A command of the collector's was carried out, where a cycle was open or not: it did with the heap what it asks for,
-- and on what that left it leads to its graph. A cycle ends with a full collection.
pub data CarriesAsked (names : List (List ℕ)) (in_cycle : Bool) (old new : Mutator) (graph : Graph) (command : Command)
    (text : List ℕ) : Type 0 where
  scavenges : command ≡ Scavenge → Scavenges old new false → KeepsGraphs old new
      → Carries names new new graph command text (Ok tt) → CarriesAsked names in_cycle old new graph command text
  begins : command ≡ Mark → in_cycle ≡ false → BeginsCycle old new graph
      → Carries names new new graph command text (Ok tt) → CarriesAsked names in_cycle old new graph command text
  finishes : command ≡ Finish → in_cycle ≡ true → CollectsAll old new graph
      → Carries names new new graph command text (Ok tt) → CarriesAsked names in_cycle old new graph command text
  collects_all : AsksForAll command → CollectsAll old new graph
      → Carries names new new graph command text (Ok tt) → CarriesAsked names in_cycle old new graph command text
  collects_nothing : CollectsNothing in_cycle command → new ≡ old
      → Carries names new new graph command text (Ok tt) → CarriesAsked names in_cycle old new graph command text

-- A command that is none of the collector's was tried once: it was carried out on the heap as it was, or stopped there,
-- and it did not find its weak map full of pairs, unless it stopped for that.
pub record Tries (names : List (List ℕ)) (old new : Mutator) (graph : Graph) (command : Command) (text : List ℕ)
    (result : Result (Unit {0}) Stop) : Type 0 where
  pub apart : IsApart command
  pub carries : Carries names old new graph command text result
  pub asks : AsksWhereFull old graph command result

-- A full collection came for a command. Either it lacked words, and a scavenge made no room for them. Or it found its
-- weak map full of pairs, on the heap as it was.
pub data CollectsFully (names : List (List ℕ)) (old new : Mutator) (graph : Graph) (command : Command) : Type 0 where
  for_room : (mid : Mutator) (need : ℕ) → IsSound names graph command → LacksWords old graph command need
      → Scavenges old mid false → KeepsGraphs old mid → IsOutOfRoom mid need → CollectsAll mid new graph
      → CollectsFully names old new graph command
  for_pairs : (entries : ℕ) → FindsPairs (heap_of old) graph command entries → CollectsAll old new graph
      → CollectsFully names old new graph command

-- What a command that is none of the collector's finds of a heap on which it is carried out: the heap as it was; or
-- what a scavenge left of it, for the words that the command lacked, which have room there; or what a full collection
-- left, with room for the words that the command lacked there, if it lacked some.
pub data Collects (names : List (List ℕ)) (old mid : Mutator) (graph : Graph) (command : Command) : Type 0 where
  unchanged : mid ≡ old → Collects names old mid graph command
  scavenged : (need : ℕ) → IsSound names graph command → LacksWords old graph command need
      → MakesRoom old mid false need → Collects names old mid graph command
  collected : CollectsFully names old mid graph command → Collects names old mid graph command
  granted : (last : Mutator) (need : ℕ) → CollectsFully names old last graph command
      → LacksWords last graph command need → Serves last mid need → Collects names old mid graph command

-- A command that is none of the collector's was carried out on what it found of the heap, where its weak map is not
-- full of pairs.
pub record IsCarriedOut (names : List (List ℕ)) (old new : Mutator) (graph : Graph) (command : Command) (text : List ℕ)
    : Type 0 where
  pub found : Mutator
  pub apart : IsApart command
  pub collects : Collects names old found graph command
  pub shows : MainShows found graph
  pub unfull : FindsMapNotFull found graph command
  pub carries : Carries names found new graph command text (Ok tt)

-- Behind a full collection there is no room for the words that the command needs: they fit nowhere.
pub record HasNoPlace (main : Mutator) (graph : Graph) (command : Command) (need : ℕ) : Type 0 where
  pub lacks : LacksWords main graph command need
  pub out : IsOutOfRoom main need
  pub nowhere : Fits (heap_of main) need → ⊥

-- A fault comes on the heap as it was; but `weakfull` comes after a full collection, since the map was full of pairs.
pub data FaultsOn (names : List (List ℕ)) (old new : Mutator) (graph : Graph) (command : Command) (word : FaultWord)
    : Type 0 where
  unchanged : word ≢ WeakFull → new ≡ old → FaultsOn names old new graph command word
  collected : word ≡ WeakFull → CollectsFully names old new graph command → FaultsOn names old new graph command word

-- The command stopped for good. Its meaning is the fault; or it is none, and the heap was fully collected, and has no
-- room for it; or the heap was fully collected, and its weak map is full still, which is the fault `weakfull`.
abbrev pub StopsAt : List (List ℕ) → Mutator → Mutator → Graph → Command → Stop → Type 0
StopsAt names old new graph command (Fault word) =
    (meaning ideal_limits names graph command ≡ fault word) × FaultsOn names old new graph command word
StopsAt names old new graph command (NoRoom need) =
    IsSound names graph command × CollectsFully names old new graph command × HasNoPlace new graph command need
StopsAt names old new graph command (NoClear entries) =
    (meaning ideal_limits names graph command ≡ fault WeakFull) × CollectsFully names old new graph command

-- a command that is none of the collector's was carried out at last, or stopped for good
abbrev pub CarriesAtLast : List (List ℕ) → Mutator → Mutator → Graph → Command → List ℕ
    → Result (Unit {0}) Stop → Type 0
CarriesAtLast names old new graph command text (Ok _) = IsCarriedOut names old new graph command text
CarriesAtLast names old new graph command text (Err stop) = StopsAt names old new graph command stop

-- A command was carried out at last, or stopped for good, where a cycle was open or not. Those of the collector never
-- stop.
pub data CarriesCommand (names : List (List ℕ)) (in_cycle : Bool) (old new : Mutator) (graph : Graph)
    (command : Command) (text : List ℕ) (result : Result (Unit {0}) Stop) : Type 0 where
  asked : result ≡ Ok tt → CarriesAsked names in_cycle old new graph command text
      → CarriesCommand names in_cycle old new graph command text result
  apart : IsApart command → CarriesAtLast names old new graph command text result
      → CarriesCommand names in_cycle old new graph command text result
