-- A command that was executed, on what a heap lends of itself: what it did, by what is told of it.
use Rattle.std.proofs.Common.{◌≡◌, ◌∙◌, ℕ, Bool, true, false, List, [], length, Option, Some, None, Result, Ok, Err}
use Rattle.std.proofs.Common.{is_ok, unwrap_or, refl, sym, subst, arith}
use Rattle.std.specs.Prelude.{IfSome, IsNone}
use Rattle.heap_model.specs.Types.{Command}
use Rattle.object_graph.specs.Graphs.{Graph}
use Rattle.write_barrier.specs.MutatorState.{Mutator, MainShows}
use Rattle.collector.specs.States.{HeapState, HeapShows}
use Rattle.collector.proofs.Keeping.{same_heap}
use Rattle.mutator.specs.CarriesOut.{Carries, AsksWhereFull}
use Rattle.mutator.specs.declared.stop.Stop.{Stop}
use Rattle.mutator.proofs.StoppedBy.{same_stopped}
use Rattle.heap_script.specs.Cycles.{asks_collector}
use Rattle.heap_script.specs.Progress.{objects_made}
use Rattle.heap_script.specs.Executing.{Executes, counted_more, objects_after}
use Rattle.heap_script.proofs.Trying.{putting, shows_lent, tried, tried_put}

-- a heap with another mutator's side
abbrev pub with_main : Mutator → HeapState → HeapState
with_main main heap = record heap { main = main }

-- a command that makes no object leaves their number as it was
none_made : (objects : ℕ) (command : Command) (came : Result (Unit {0}) Stop) → objects_made command ≡ 0
    → objects ≡ objects_after objects command came
none_made objects command (Ok done) none = omega (arith, none)
none_made objects command (Err stop) none = refl

-- and one that makes an object counts it
one_made : (objects : ℕ) (command : Command) (came : Result (Unit {0}) Stop) → objects_made command ≡ 1
    → counted_more objects came ≡ objects_after objects command came
one_made objects command (Ok done) one = omega (arith, one)
one_made objects command (Err stop) one = refl

module _ {heap : HeapState} {lent new : Mutator} {objects : ℕ} {command : Command} {came : Result (Unit {0}) Stop}
    (is : lent ≡ heap.main) (apart : asks_collector command ≡ false) where
  -- a command that makes no object was executed, of which is told whether it stopped for a full map
  pub executes_put : objects_made command ≡ 0
      → ((graph : Graph) (names : List (List ℕ)) → MainShows lent graph → Carries names lent new graph command [] came)
      → ((graph : Graph) → MainShows lent graph → AsksWhereFull lent graph command came)
      → Executes heap (with_main new heap) objects objects command came
  executes_put none carries asks = record {
    tries = λ names graph shown made.
        let shows = shows_lent is shown in tried_put is apart (carries graph names shows) (asks graph shows);
    rest = refl;
    noted = refl;
    counted = none_made objects command came none;
  }

  module _ (other : putting command ≡ false) where
    -- so was one that puts no entry either
    pub executes : objects_made command ≡ 0
        → ((graph : Graph) (names : List (List ℕ)) → MainShows lent graph
        → Carries names lent new graph command [] came)
        → Executes heap (with_main new heap) objects objects command came
    executes none carries = record {
      tries = λ names graph shown made.
          tried {heap = heap} is apart other shown (carries graph names (shows_lent is shown));
      rest = refl;
      noted = refl;
      counted = none_made objects command came none;
    }

    -- and one that makes an object, which is counted
    pub executes_making : {after : ℕ} → objects_made command ≡ 1 → after ≡ counted_more objects came
        → ((graph : Graph) (names : List (List ℕ)) → MainShows lent graph → objects ≡ length graph.objects
        → Carries names lent new graph command [] came)
        → Executes heap (with_main new heap) objects after command came
    executes_making one counted carries = record {
      tries = λ names graph shown made.
          tried {heap = heap} is apart other shown (carries graph names (shows_lent is shown) made);
      rest = refl;
      noted = refl;
      counted = counted ∙ one_made objects command came one;
    }

-- so it is by what is told of it, where that is how it came out
pub executes_told : {old new : HeapState} {before after : ℕ} {command : Command} (told came : Result (Unit {0}) Stop)
    → told ≡ came → Executes old new before after command came → Executes old new before after command told
executes_told {old} {new} {before} {after} {command} told came is e =
    subst (Executes old new before after command) (sym is) e

-- what is told of a command that was executed, by `bool`
abbrev pub IsToldOf : HeapState → HeapState → ℕ → ℕ → Command → Option Bool → Type 0
IsToldOf old new before after command told =
    IfSome told (λ said. (came : Result (Unit {0}) Stop) × (said ≡ is_ok came)
    × Executes old new before after command came)

-- where it is told that it was carried out, it was
pub executed_well : (old new : HeapState) (before after : ℕ) (command : Command) (told : Option Bool)
    → IsToldOf old new before after command told → unwrap_or told false ≡ true
    → Executes old new before after command (Ok tt)
executed_well old new before after command (Some said) (Ok done, is, e) well = e
executed_well old new before after command (Some said) (Err stop, is, e) well = absurd (cc)
executed_well old new before after command None e well = absurd (cc)

-- and else nothing has changed
pub executed_ill : (old new : HeapState) (before after : ℕ) (command : Command) (told : Option Bool)
    → IsToldOf old new before after command told → (IsNone told → new ≡ old) → (IsNone told → after ≡ before)
    → unwrap_or told false ≡ false → (graph : Graph) × HeapShows old graph × (before ≡ length graph.objects)
    → (new ≡ old) × (after ≡ before)
executed_ill old new before after command (Some said) (Ok done, is, e) untouched uncounted ill shown = absurd (cc)
executed_ill old new before after command (Some said) (Err stop, is, e) untouched uncounted ill (graph, shown, made) = (
  same_heap old new (same_stopped [] old.main new.main graph command [] stop (e.tries [] graph shown made).carries)
      e.rest e.noted,
  e.counted,
)
executed_ill old new before after command None e untouched uncounted ill shown = (untouched refl, uncounted refl)
