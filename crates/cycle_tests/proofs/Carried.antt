-- A heap is ready again after each command, and the phase stays.
use Rattle.std.proofs.Common.{◌≡◌, ◌∙◌, ℕ, ◌+◌, List, [], length, Result, Ok, Err, refl, sym, ap, subst, arith}
use Rattle.heap_model.specs.Types.{Command}
use Rattle.heap_model.proofs.ShownRooms.{shown_objects_have_rooms}
use Rattle.object_graph.specs.Graphs.{Graph}
use Rattle.write_barrier.specs.MutatorState.{Mutator, MainShows, heap_of}
use Rattle.write_barrier.specs.Seats.{RestStays}
use Rattle.object_cells.proofs.RestOfWords.{same_rest}
use Rattle.mutator.specs.CarriesOut.{Carries}
use Rattle.mutator.specs.declared.stop.Stop.{Stop}
use Rattle.mutator.proofs.StoppedBy.{same_stopped}
use Rattle.cycle_tests.specs.Ready.{IsReady, counted_more}
use Rattle.cycle_tests.proofs.Counts.{length-meaning, objects_made}
use Rattle.cycle_tests.proofs.Ready.{rest_ready}

-- the seat keeps all but its words
rest_carried : (old new : Mutator) (graph : Graph) (command : Command) (came : Result (Unit {0}) Stop)
    → MainShows old graph → Carries [] old new graph command [] came → RestStays old.seat new.seat
rest_carried old new graph command (Ok done) shows carried =
    let (rooms, has) = shown_objects_have_rooms (heap_of old) graph shows.shows in
    (carried.takes rooms has).uses.beside
rest_carried old new graph command (Err stop) shows carried =
    same_rest (same_stopped [] old new graph command [] stop carried)

-- so many objects are there after a command
abbrev objects_after : ℕ → Command → Result (Unit {0}) Stop → ℕ
objects_after objects command (Ok done) = objects + objects_made command
objects_after objects command (Err stop) = objects

-- the heap is ready again
carried_ready : (old new : Mutator) (objects : ℕ) (command : Command) (came : Result (Unit {0}) Stop)
    → (ready : IsReady old objects) → Carries [] old new ready.graph command [] came
    → IsReady new (objects_after objects command came)
carried_ready old new objects command (Ok done) ready carried =
    rest_ready (objects + objects_made command) ready
    (rest_carried old new ready.graph command (Ok done) ready.shows carried) carried.after carried.shows
    (ap (λ (n : ℕ). n + objects_made command) ready.counted
    ∙ sym (length-meaning [] ready.graph carried.after command [] carried.means))
carried_ready old new objects command (Err stop) ready carried =
    subst (λ (one : Mutator). IsReady one objects)
    (sym (same_stopped [] old new ready.graph command [] stop carried)) ready

-- a command that makes no object leaves their number as it was
none_made : (objects : ℕ) (command : Command) (came : Result (Unit {0}) Stop) → objects_made command ≡ 0
    → objects_after objects command came ≡ objects
none_made objects command (Ok done) none = omega (arith, none)
none_made objects command (Err stop) none = refl

-- and one that makes an object counts it
one_made : (objects : ℕ) (command : Command) (came : Result (Unit {0}) Stop) → objects_made command ≡ 1
    → objects_after objects command came ≡ counted_more objects came
one_made objects command (Ok done) one = omega (arith, one)
one_made objects command (Err stop) one = refl

-- the same phase, and ready
pub record StaysReady (old new : Mutator) (after : ℕ) : Type 0 where
  pub ready : IsReady new after
  pub phase : new.seat.phase ≡ old.seat.phase

-- so it is behind a command that makes no object
pub kept_ready : (old new : Mutator) (objects : ℕ) (command : Command) (came : Result (Unit {0}) Stop)
    → objects_made command ≡ 0 → IsReady old objects
    → ((graph : Graph) (names : List (List ℕ)) → MainShows old graph → Carries names old new graph command [] came)
    → StaysReady old new objects
kept_ready old new objects command came none ready carried =
    let carries = carried ready.graph [] ready.shows in
    record {
      ready = subst (IsReady new) (none_made objects command came none)
          (carried_ready old new objects command came ready carries);
      phase = (rest_carried old new ready.graph command came ready.shows carries).phase;
    }

-- and behind one that may make an object
pub made_ready : (old new : Mutator) (objects after : ℕ) (command : Command) (came : Result (Unit {0}) Stop)
    → objects_made command ≡ 1 → after ≡ counted_more objects came → IsReady old objects
    → ((graph : Graph) (names : List (List ℕ)) → MainShows old graph → objects ≡ length graph.objects
    → Carries names old new graph command [] came)
    → StaysReady old new after
made_ready old new objects after command came one counted ready carried =
    let carries = carried ready.graph [] ready.shows ready.counted in
    record {
      ready = subst (IsReady new) (one_made objects command came one ∙ sym counted)
          (carried_ready old new objects command came ready carries);
      phase = (rest_carried old new ready.graph command came ready.shows carries).phase;
    }
