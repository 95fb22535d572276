-- What a command stops with, where a call stopped.
use Rattle.std.proofs.Common.{◌≡◌, ℕ, List, [], Result, Ok, Err, ap, subst, sym}
use Rattle.std.specs.Result.{IsErrAnd}
use Rattle.heap_model.specs.Types.{Command}
use Rattle.object_graph.specs.Graphs.{Graph}
use Rattle.write_barrier.specs.MutatorState.{Mutator}
use Rattle.mutator.specs.declared.stop.Stop.{Stop}
use Rattle.mutator.specs.declared.stop.Stop.TheVariants.{Fault, NoRoom, NoClear}
use Rattle.mutator.specs.CarriesOut.{Carries}

-- an answer that is an error, and this one, is that
pub stopped_by : (answer : Result Unit Stop) (stop : Stop) → IsErrAnd answer (λ one. one ≡ stop) → answer ≡ Err stop
stopped_by (Ok done) stop is = absurd is
stopped_by (Err one) stop is = ap (λ e. Err e) is

-- a command whose call stopped with this, on a heap that is the same as before, stops with its answer
pub stopped_with : {old now : Mutator} (new : Mutator) (graph : Graph) (names : List (List ℕ)) (command : Command)
    (answer : Result Unit Stop) (stop : Stop) → now ≡ old → IsErrAnd answer (λ one. one ≡ stop)
    → Carries names now new graph command [] (Err stop) → Carries names old new graph command [] answer
stopped_with {now = now} new graph names command answer stop same is carries =
    subst (λ main. Carries names main new graph command [] answer) same
    (subst (λ one. Carries names now new graph command [] one) (sym (stopped_by answer stop is)) carries)

-- a command that stopped left the heap as it was
pub same_stopped : (names : List (List ℕ)) (old new : Mutator) (graph : Graph) (command : Command) (text : List ℕ)
    (stop : Stop) → Carries names old new graph command text (Err stop) → new ≡ old
same_stopped names old new graph command text (Fault word) (does-is, same) = same
same_stopped names old new graph command text (NoRoom need) (after, written, does-is, needs, lacks, same) = same
same_stopped names old new graph command text (NoClear entries) (full, same) = same
