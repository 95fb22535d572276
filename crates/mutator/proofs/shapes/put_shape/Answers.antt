-- One field more, and all of them at last.
use Rattle.std.proofs.Common.{◌++◌, ◌∙◌, ap, arith, take}
use Rattle.std.specs.Prelude.{decimal, flat_map}
use Rattle.object_graph.specs.Texts.{shape_text}
use Rattle.shape_tree.specs.Shapes.{shape_path}
use Rattle.mutator.specs.Written.{path_field_text}
use Rattle.mutator.proofs.ShapeTexts.{fields_more, shape_told}
use Rattle.mutator.proofs.ValueTexts.{line_put}
use Rattle.mutator.proofs.shapes.put_shape.Goals as goal

pub loop-at-preserved : goal.loop-at-preserved
loop-at-preserved c =
    let names = c.args.script.now.fields in
    let fields = (shape_path c.args.shapes.now c.args.shape).fields in
    record {
      text = c.put_field.ensures.text ∙ ap (λ out. out ++ path_field_text names c.field.result) c.loop-at.invariant.text
          ∙ fields_more names c.put-2.new.self fields c.loop-at.at c.field.result c.field.ensures;
      few = omega arith;
    }

pub returns : goal.returns
returns c cap fields is =
    let names = c.args.script.now.fields in
    let path = shape_path c.args.shapes.now c.args.shape in
    let old = c.args.out.now in
    let written = c.loop-at.invariant.text
    ∙ ap (λ front. front ++ flat_map (path_field_text names) (take c.loop-at.at path.fields))
    (c.put-2.ensures ∙ ap (λ front. front ++ c.as_bytes.result.now) c.put.ensures) in
    let told = c.as_bytes.ensures.value ∙ c.format.ensures.text ∙ ap decimal c.cap.ensures.cap in
    line_put old c.loop-at.out c.put-3.new.self (shape_text names cap fields)
    (shape_told names old c.loop-at.out c.as_bytes.result.now path cap fields c.loop-at.at is told
    (omega arith) written)
    c.put-3.ensures
