-- A command that is tried once on a heap, of which it is lent the mutator's side.
use Rattle.std.proofs.Common.{◌≡◌, ◌≢◌, ℕ, Bool, true, false, List, length, Result, sym, ap, subst}
use Rattle.heap_model.specs.Types.{Command, Operand}
use Rattle.heap_command.specs.declared.command.Command.TheVariants.{WPut}
use Rattle.object_graph.specs.Graphs.{Graph}
use Rattle.write_barrier.specs.MutatorState.{Mutator, MainShows}
use Rattle.collector.specs.States.{HeapState, HeapShows}
use Rattle.mutator.specs.declared.stop.Stop.{Stop}
use Rattle.mutator.specs.CarriesOut.{Carries, AsksWhereFull}
use Rattle.mutator.proofs.MapsNotFull.{others_find_not_full, asks_for_nothing}
use Rattle.heap_script.specs.Cycles.{asks_collector}
use Rattle.heap_script.specs.Collecting.{Tries}

-- the mutator's side that is lent shows what the heap shows
pub shows_lent : {lent : Mutator} {heap : HeapState} {graph : Graph} → lent ≡ heap.main → HeapShows heap graph
    → MainShows lent graph
shows_lent {graph = graph} is shown = subst (λ (main : Mutator). MainShows main graph) (sym is) shown.main

-- so it shows some graph, of so many objects
pub made_lent : {lent : Mutator} {heap : HeapState} {objects : ℕ} → lent ≡ heap.main
    → (graph : Graph) × HeapShows heap graph × (objects ≡ length graph.objects)
    → (graph : Graph) × MainShows lent graph × (objects ≡ length graph.objects)
made_lent is (graph, shown, made) = (graph, shows_lent is shown, made)

-- and some graph
pub some_lent : {lent : Mutator} {heap : HeapState} {objects : ℕ} → lent ≡ heap.main
    → (graph : Graph) × HeapShows heap graph × (objects ≡ length graph.objects)
    → (graph : Graph) × MainShows lent graph
some_lent is (graph, shown, made) = (graph, shows_lent is shown)

-- whether a command puts an entry
abbrev pub putting : Command → Bool
putting (WPut m k v) = true
putting _ = false

-- one that puts none is no `wput`
no_put : (command : Command) → putting command ≡ false → (m : ℕ) (k v : Operand) → command ≢ WPut m k v
no_put command other m k v is = let yes : putting command ≡ true = ap putting is in absurd (cc)

-- a command that is none of the collector's is tried on the heap as it is; if it stops, it is told whether for a full
-- map
pub tried_put : {names : List (List ℕ)} {old lent new : Mutator} {graph : Graph} {command : Command} {text : List ℕ}
    {result : Result (Unit {0}) Stop} → lent ≡ old → asks_collector command ≡ false
    → Carries names lent new graph command text result → AsksWhereFull lent graph command result
    → Tries names old new graph command text result
tried_put {names} {old} {lent} {new} {graph} {command} {text} {result} is apart carries asks = record {
  apart = apart;
  carries = subst (λ (main : Mutator). Carries names main new graph command text result) is carries;
  asks = subst (λ (main : Mutator). AsksWhereFull main graph command result) is asks;
}

-- so is one that puts no entry, which finds no map full
pub tried : {names : List (List ℕ)} {heap : HeapState} {lent new : Mutator} {graph : Graph} {command : Command}
    {text : List ℕ} {result : Result (Unit {0}) Stop} → lent ≡ heap.main → asks_collector command ≡ false
    → putting command ≡ false → HeapShows heap graph → Carries names lent new graph command text result
    → Tries names heap.main new graph command text result
tried {names} {heap} {lent} {new} {graph} {command} {text} {result} is apart other shown carries =
    tried_put is apart carries
    (asks_for_nothing lent graph result
    (others_find_not_full lent graph command (no_put command other) (shows_lent is shown)))
