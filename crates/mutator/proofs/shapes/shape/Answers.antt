-- The line of the shape.
use Rattle.std.proofs.Common.{ℕ, List, refl, ◌∙◌, ap, sym, subst}
use Rattle.heap_command.specs.declared.command.Command.TheVariants.{Shape}
use Rattle.heap_model.specs.Types.{Path}
use Rattle.object_graph.specs.Texts.{line, shape_text}
use Rattle.shape_tree.specs.Shapes.{IsPathShape, shape_path}
use Rattle.mutator.proofs.StillShown.{shows_still, stands_still, value_still}
use Rattle.mutator.proofs.Writings.{writing_carried}
use Rattle.mutator.proofs.shapes.shape.Goals as goal

pub plain-requires : goal.plain-requires
plain-requires c =
    let (graph, shows) = c.requires.shown in
    let (value, is, stands) = c.in_ok-target.ensures.found graph shows in
    value_still graph value c.in_ok-target.target c.bound.ensures.same shows stands

pub put_shape-requires-clause-path : goal.put_shape-requires-clause-path
put_shape-requires-clause-path c =
    let (graph, shows) = c.requires.shown in
    let (value, is, stands) = c.in_ok-target.ensures.found graph shows in
    let same = c.bound.ensures.same in
    let found = c.in_ok-found.ensures graph value (shows_still same shows) (stands_still same stands) in
    subst (λ (paths : List Path). IsPathShape paths c.in_ok-found.found.shape)
    (sym c.shapes.ensures) found.shaped.is_shape

pub returns-clause-carried : goal.returns-clause-carried
returns-clause-carried c graph shows =
    let (value, is, stands) = c.in_ok-target.ensures.found graph shows in
    let same = c.bound.ensures.same in
    let found = c.in_ok-found.ensures graph value (shows_still same shows) (stands_still same stands) in
    let names = c.args.script.now.fields in
    let text : List ℕ = line (shape_text names found.plain.cap found.plain.fields) in (
      text,
      writing_carried names (Shape c.args.x) text same shows (rw (is, found.refers)) (λ rooms. (refl, λ number. refl)),
      c.put_shape.ensures found.plain.cap found.plain.fields
          (ap (λ (paths : List Path). shape_path paths c.in_ok-found.found.shape) c.shapes.ensures
          ∙ found.shaped.of_path),
    )
