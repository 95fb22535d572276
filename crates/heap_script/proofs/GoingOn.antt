-- Where a run goes on: below the limit, at a command that does not fault.
use Rattle.std.proofs.Common.{◌≡◌, ℕ, ◌<◌, ◌≤◌, false, List, ◌∷◌, Some, None, cond, ap, ◌∙◌, arith}
use Rattle.std.specs.Prelude.{◌==◌, nat_lt}
use Rattle.std.proofs.lemmas.Bool.Decides.{nat_tests}
use Rattle.heap_model.specs.Types.{Command}
use Rattle.heap_command.specs.Executed.{Executed}
use Rattle.object_graph.specs.Graphs.{Graph}
use Rattle.object_graph.specs.Limits.{ideal_limits}
use Rattle.object_graph.specs.Meaning.{meaning, done}
use Rattle.object_graph.specs.Run.{lines_most, limit_at, fault_in, fault_of, ending_here, ending}
use Rattle.script_text.specs.Scripts.{ScriptText}
use Rattle.script_text.specs.Unrolled.{executed}
use Rattle.script_text.specs.Left.{Goes}
use Rattle.heap_script.specs.Reached.{left_after}

-- within the limit, a run ends by what stands at the lines that are left
pub ending-within : (names : List (List ℕ)) (graph : Graph) (n : ℕ) (lines : List Executed) → n ≤ lines_most
    → ending ideal_limits names graph n lines ≡ ending_here ideal_limits names graph n lines
ending-within names graph n lines few =
    let within : nat_lt lines_most n ≡ false = grind (arith, nat_tests) in
    ap (λ test. cond test None (ending_here ideal_limits names graph n lines)) within

-- before the limit, it ends at a line by its fault
pub ending-below : (names : List (List ℕ)) (graph : Graph) (n : ℕ) (next : Executed) (more : List Executed)
    → n < lines_most
    → ending ideal_limits names graph n (next ∷ more) ≡ fault_of ideal_limits names graph next.number next.command
ending-below names graph n next more below =
    let few : n ≤ lines_most = omega (arith, below) in
    let apart : (n == lines_most) ≡ false = grind (arith, nat_tests) in
    ending-within names graph n (next ∷ more) few
    ∙ ap (λ test. cond test (Some (limit_at next.number))
    (fault_of ideal_limits names graph next.number next.command)) apart

-- so it goes on where the next line's command does not fault
pub goes-on : (script : ScriptText) (graph after : Graph) (written : List ℕ) (at' n number : ℕ) (ts' : List ℕ)
    (command : Command) → n < lines_most
    → Goes script.lines at' ts' (left_after script n) (executed number (Some command))
    → meaning ideal_limits script.fields graph command ≡ done after written
    → ending ideal_limits script.fields graph n (left_after script n) ≡ None
goes-on script graph after written at' n number ts' command below goes does-is =
    ap (ending ideal_limits script.fields graph n) goes.is
    ∙ ending-below script.fields graph n (executed number (Some command)) goes.rest below
    ∙ ap (fault_in number) does-is
