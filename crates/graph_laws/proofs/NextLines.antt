-- Lines after a line.
use Rattle.std.proofs.Common.{◌≡◌, ℕ, List, Option, Some, None, refl}
use Rattle.std.specs.Prelude.{option_and_then}
use Rattle.std.proofs.lemmas.Option.{none-some}
use Rattle.heap_command.specs.Executed.{Executed}
use Rattle.object_graph.specs.Meaning.{Limits}
use Rattle.object_graph.specs.Run.{Told, run_from}

-- what follows from what the next line told and from what the later lines tell then follows from what they tell
-- together
pub next_told : {Said : Type 0} (limits : Limits) (names : List (List ℕ)) (lines : List Executed) (after : Told)
    (next : Option Told)
    → ((middle : Told) → next ≡ Some middle → run_from limits names middle lines ≡ Some after → Said)
    → option_and_then (λ middle. run_from limits names middle lines) next ≡ Some after → Said
next_told limits names lines after None follows is = absurd (none-some after is)
next_told limits names lines after (Some middle) follows is = follows middle refl is
