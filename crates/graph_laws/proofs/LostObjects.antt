-- What cannot be reached is never reached again, whatever lines come.
use Rattle.std.proofs.Common.{◌≡◌, ℕ, List, [], ◌∷◌, Option, Some, None, refl}
use Rattle.std.proofs.Common.{subst, arith, inl, inr}
use Rattle.std.specs.Prelude.{All}
use Rattle.std.proofs.lemmas.Option.{none-some, same_Some}
use Rattle.std.proofs.lemmas.List.Elements.{All-head, All-tail}
use Rattle.heap_command.specs.declared.command.Command.{Command}
use Rattle.heap_command.specs.Executed.{Executed}
use Rattle.object_graph.specs.Graphs.{Graph}
use Rattle.object_graph.specs.Meaning.{Limits, Outcome, done, fault, meaning}
use Rattle.object_graph.specs.Run.{Told, tell, told_with, run_from}
use Rattle.object_graph.specs.Invariants.{IsGraph}
use Rattle.graph_laws.specs.GraphLaws.{HasFieldLimit, FitsLine}
use Rattle.graph_laws.specs.ReachAfter.{StaysLost, LostStaysLost}
use Rattle.graph_laws.proofs.Stays.{objects_stay}
use Rattle.graph_laws.proofs.NothingNew.{only_made_is_new}
use Rattle.graph_laws.proofs.NextLines.{next_told}
use Rattle.graph_laws.proofs.RunGraphs.{line_graph}

-- where nothing happens, what is lost stays lost
pub stays_itself : (graph : Graph) → StaysLost graph graph
stays_itself graph = record { grows = omega arith; lost = λ number within marked. marked }

-- and where it does twice
pub stays_twice : (before middle after : Graph) → StaysLost before middle → StaysLost middle after
    → StaysLost before after
stays_twice before middle after first second = record {
  grows = omega (arith, first.grows, second.grows);
  lost = λ number within marked.
      first.lost number within (second.lost number (omega (arith, first.grows)) marked);
}

-- and after a command
pub command_stays : (limits : Limits) (names : List (List ℕ)) (graph : Graph) (command : Command)
    (after : Graph) (text : List ℕ)
    → IsGraph graph → meaning limits names graph command ≡ done after text → StaysLost graph after
command_stays limits names graph command after text is carried = record {
  grows = (objects_stay limits names graph command after text carried).none_lost;
  lost = λ number within marked.
      elim (only_made_is_new limits names graph command after text number is carried marked) [
        | inl old ↦ old
        | inr new ↦ absurd (omega (arith, new.1))
      ];
}

-- and after what an outcome tells, if it is so after the outcome
outcome_keeps : (before after : Told) (outcome : Outcome)
    → ((later : Graph) (text : List ℕ) → outcome ≡ done later text → StaysLost before.graph later)
    → told_with before outcome ≡ Some after → StaysLost before.graph after.graph
outcome_keeps before after (done later text) keeps is =
    subst (λ (told : Told). StaysLost before.graph told.graph) (same_Some _ after is) (keeps later text refl)
outcome_keeps before after (fault word) keeps is = absurd (none-some after is)

-- and after a line
line_keeps : (limits : Limits) (names : List (List ℕ)) (before after : Told) (command : Option Command)
    → IsGraph before.graph → tell limits names before command ≡ Some after → StaysLost before.graph after.graph
line_keeps limits names before after None holds is =
    subst (λ (told : Told). StaysLost before.graph told.graph) (same_Some before after is) (stays_itself before.graph)
line_keeps limits names before after (Some command) holds is =
    outcome_keeps before after (meaning limits names before.graph command)
    (λ later text. command_stays limits names before.graph command later text holds) is

-- and after some lines
lines_keep : (limits : Limits) (names : List (List ℕ)) (before after : Told) (lines : List Executed)
    → HasFieldLimit limits → All (λ line. FitsLine line.command) lines → IsGraph before.graph
    → run_from limits names before lines ≡ Some after → StaysLost before.graph after.graph
lines_keep limits names before after [] limited fits holds is =
    subst (λ (told : Told). StaysLost before.graph told.graph) (same_Some before after is) (stays_itself before.graph)
lines_keep limits names before after (line ∷ lines) limited fits holds is =
    let Fits = λ (l : Executed). FitsLine l.command in
    next_told limits names lines after (tell limits names before line.command)
    (λ middle here later.
    let graph = line_graph limits names before middle line.command limited (All-head Fits line lines fits) holds here in
    stays_twice before.graph middle.graph after.graph (line_keeps limits names before middle line.command holds here)
    (lines_keep limits names middle after lines limited (All-tail Fits line lines fits) graph later)) is

-- so what is lost stays lost
pub lost_stays_lost : LostStaysLost
lost_stays_lost limits names lines before after limited fits holds is =
    lines_keep limits names before after lines limited fits holds is
