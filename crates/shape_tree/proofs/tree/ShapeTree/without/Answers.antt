-- The cached alteration leads to the path without the field.
use Rattle.shape_tree.specs.declared.alterations.Alteration.{Alteration}
use Rattle.shape_tree.specs.declared.alterations.Becomes.TheVariants.{Gone}
use Rattle.shape_tree.proofs.KeptAlterations.{kept_leads}
use Rattle.shape_tree.proofs.tree.ShapeTree.without.Goals as goal

pub returns-then-is_for-clause-taken_out : goal.returns-then-is_for-clause-taken_out
returns-then-is_for-clause-taken_out c =
    let alteration : Alteration = record { shape = c.args.shape; at = c.args.at; becomes = Gone } in
    let is = c.is_for.ensures.0 c.if-is_for.true in
    kept_leads c.self.inside c.args.self.now c.alteration_index.result c.index-kept.result.now alteration
    c.self.invariant c.self.view_is c.alteration_index.ensures c.index-kept.ensures is.0 is.1
