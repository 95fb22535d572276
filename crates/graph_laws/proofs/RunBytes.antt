-- The bytes of a run.
use Rattle.std.proofs.Common.{◌≡◌, ℕ, List, [], ◌∷◌, ◌++◌, Option, Some, None, sym, ap, ◌∙◌}
use Rattle.std.proofs.Common.{append_assoc, append-nil}
use Rattle.std.specs.Option.{option_and_then}
use Rattle.std.proofs.lemmas.Option.{none-some, same_Some}
use Rattle.heap_command.specs.declared.command.Command.{Command}
use Rattle.heap_command.specs.Executed.{Executed}
use Rattle.object_graph.specs.Meaning.{Limits, Outcome, done, fault, meaning}
use Rattle.object_graph.specs.Run.{Told, tell, run_from, told_with}
use Rattle.object_graph.proofs.Runs.{run_of-append}
use Rattle.graph_laws.specs.Laws.{BytesStay}
use Rattle.graph_laws.proofs.NextLines.{next_told}

-- the later one has the bytes of the earlier one, and then these or others
abbrev Grew : Told → Told → Type 0
Grew before after = (later : List ℕ) × (after.bytes ≡ before.bytes ++ later)

-- nothing was added where the two are the same
grew_by_none : (before after : Told) → Some before ≡ Some after → Grew before after
grew_by_none before after is =
    ([], ap (λ told. told.bytes) (sym (same_Some before after is)) ∙ sym (append-nil before.bytes))

-- what grew twice grew
grew_twice : (before middle after : Told) → Grew before middle → Grew middle after → Grew before after
grew_twice before middle after first second =
    let joined = append_assoc before.bytes first.0 second.0 in
    (first.0 ++ second.0, second.1 ∙ ap (λ bytes. bytes ++ second.0) first.1 ∙ joined)

-- an outcome adds its text
grew_with : (before after : Told) (outcome : Outcome) → told_with before outcome ≡ Some after → Grew before after
grew_with before after (done graph text) is = (text, ap (λ told. told.bytes) (sym (same_Some _ after is)))
grew_with before after (fault word) is = absurd (none-some after is)

-- a line adds the text of its command
grew_by : (limits : Limits) (names : List (List ℕ)) (before after : Told) (command : Option Command)
    → tell limits names before command ≡ Some after → Grew before after
grew_by limits names before after None is = grew_by_none before after is
grew_by limits names before after (Some command) is =
    grew_with before after (meaning limits names before.graph command) is

-- lines only add bytes
grew_from : (limits : Limits) (names : List (List ℕ)) (before after : Told) (lines : List Executed)
    → run_from limits names before lines ≡ Some after → Grew before after
grew_from limits names before after [] is = grew_by_none before after is
grew_from limits names before after (first ∷ lines) is =
    next_told limits names lines after (tell limits names before first.command)
    (λ middle here later.
    grew_twice before middle after (grew_by limits names before middle first.command here)
    (grew_from limits names middle after lines later)) is

-- what was written stays
pub bytes_stay : BytesStay
bytes_stay limits names same more before after first both =
    let on = λ (so_far : Option Told). option_and_then (λ middle. run_from limits names middle more) so_far in
    grew_from limits names before after more (ap on (sym first) ∙ sym (run_of-append limits names same more) ∙ both)
