-- The line of the comparison of two shapes.
use Rattle.std.proofs.Common.{◌++◌, ℕ, List, refl, ◌∙◌, ap}
use Rattle.heap_command.specs.declared.command.Command.TheVariants.{Alike}
use Rattle.object_graph.specs.Paths.{path_of, same_path}
use Rattle.object_graph.specs.Texts.{line, truth_text}
use Rattle.mutator.proofs.SameShapes.{found_alike}
use Rattle.mutator.proofs.StillShown.{shows_still, stands_still, value_still}
use Rattle.mutator.proofs.Writings.{writing_carried}
use Rattle.mutator.proofs.shapes.alike.Goals as goal

pub plain-requires : goal.plain-requires
plain-requires c =
    let (graph, shows) = c.requires.shown in
    let both = c.in_ok-first.ensures.found graph shows in
    value_still graph both.first c.in_ok-first.first c.operands.ensures.same shows both.stands_first

pub plain-requires-2 : goal.plain-requires-2
plain-requires-2 c =
    let (graph, shows) = c.requires.shown in
    let both = c.in_ok-first.ensures.found graph shows in
    value_still graph both.second c.in_ok-first.second c.operands.ensures.same shows both.stands_second

pub returns-clause-carried : goal.returns-clause-carried
returns-clause-carried c graph names shows =
    let same = c.operands.ensures.same in
    let both = c.in_ok-first.ensures.found graph shows in
    let shown = shows_still same shows in
    let a = c.in_ok-a.ensures graph both.first shown (stands_still same both.stands_first) in
    let b = c.in_ok-b.ensures graph both.second shown (stands_still same both.stands_second) in
    let truth = same_path (path_of a.plain.cap a.plain.fields) (path_of b.plain.cap b.plain.fields) in
    let text : List ℕ = line (truth_text truth) in (
      text,
      writing_carried names (Alike c.args.x c.args.y) text same shows
          (rw (both.is_first, both.is_second, a.refers, b.refers)) (λ rooms. (refl, λ number. refl)),
      c.put_truth.ensures ∙ ap (λ t. c.args.out.now ++ line (truth_text t)) (found_alike shown a b),
    )
