use Rattle.std.proofs.Common.{map, refl, arith}
use Rattle.std.proofs.lemmas.List.{length-map}
use Rattle.shape_tree.specs.Shapes.{shape_path}
use Rattle.slow_check.specs.PathFields.{known_field}
use Rattle.slow_check.proofs.EachItem.{same_items}
use Rattle.slow_check.proofs.paths.has_fields_of.Goals as goal

pub returns : goal.returns
returns c =
    let row = (shape_path c.args.shapes.now c.args.shape).fields in (
      λ done. same_items row (map known_field c.args.fields.now)
          (omega (arith, length-map c.args.fields.now known_field)) (λ k below. c.loop-at.invariant k (omega arith)),
      λ same. refl,
    )
