-- What a run tells is always a graph.
use Rattle.std.proofs.Common.{◌≡◌, ℕ, List, [], ◌∷◌, Option, Some, None, subst}
use Rattle.std.specs.Prelude.{All}
use Rattle.std.proofs.lemmas.Option.{none-some, same_Some}
use Rattle.std.proofs.lemmas.List.Elements.{All-head, All-tail}
use Rattle.heap_command.specs.declared.command.Command.{Command}
use Rattle.heap_command.specs.Executed.{Executed}
use Rattle.object_graph.specs.Meaning.{Limits, Outcome, done, fault, meaning}
use Rattle.object_graph.specs.Run.{Told, untold, tell, told_with, run_from}
use Rattle.object_graph.specs.Invariants.{IsGraph}
use Rattle.object_graph.proofs.Leads.{Leads}
use Rattle.graph_laws.specs.GraphLaws.{HasFieldLimit, FitsLine, RunsMakeGraphs}
use Rattle.graph_laws.proofs.NextLines.{next_told}
use Rattle.object_graph.proofs.FirstGraph.{start_is_graph}
use Rattle.graph_laws.proofs.GraphsStay.{leads}

-- what an outcome tells is a graph, if it leads to one
told_graph : (so_far after : Told) (outcome : Outcome) → Leads IsGraph outcome → told_with so_far outcome ≡ Some after
    → IsGraph after.graph
told_graph so_far after (done graph text) holds is = subst (λ told. IsGraph told.graph) (same_Some _ after is) holds
told_graph so_far after (fault word) holds is = absurd (none-some after is)

-- what a line tells is a graph
pub line_graph : (limits : Limits) (names : List (List ℕ)) (so_far after : Told) (command : Option Command)
    → HasFieldLimit limits → FitsLine command → IsGraph so_far.graph
    → tell limits names so_far command ≡ Some after → IsGraph after.graph
line_graph limits names so_far after None limited fits holds is =
    subst (λ told. IsGraph told.graph) (same_Some so_far after is) holds
line_graph limits names so_far after (Some command) limited fits holds is =
    let outcome = meaning limits names so_far.graph command in
    told_graph so_far after outcome (leads limits names so_far.graph command limited fits holds) is

-- what lines tell from a graph on is a graph
lines_graph : (limits : Limits) (names : List (List ℕ)) (so_far after : Told) (lines : List Executed)
    → HasFieldLimit limits → All (λ line. FitsLine line.command) lines → IsGraph so_far.graph
    → run_from limits names so_far lines ≡ Some after → IsGraph after.graph
lines_graph limits names so_far after [] limited fits holds is =
    subst (λ told. IsGraph told.graph) (same_Some so_far after is) holds
lines_graph limits names so_far after (line ∷ lines) limited fits holds is =
    let Fits = λ (l : Executed). FitsLine l.command in
    next_told limits names lines after (tell limits names so_far line.command)
    (λ middle here.
    let graph = line_graph limits names so_far middle line.command limited (All-head Fits line lines fits) holds here in
    lines_graph limits names middle after lines limited (All-tail Fits line lines fits) graph) is

-- the graph of a run is always a graph
pub runs_make_graphs : RunsMakeGraphs
runs_make_graphs limits names lines so_far limited fits is =
    lines_graph limits names untold so_far lines limited fits start_is_graph is
