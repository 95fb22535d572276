-- The cached alteration leads to the changed path.
use Rattle.shape_tree.specs.declared.alterations.Alteration.{Alteration}
use Rattle.shape_tree.specs.declared.alterations.Becomes.TheVariants.{To}
use Rattle.shape_tree.proofs.KeptAlterations.{kept_leads}
use Rattle.shape_tree.proofs.tree.ShapeTree.change.Goals as goal

pub returns-then-is_for-clause-changed : goal.returns-then-is_for-clause-changed
returns-then-is_for-clause-changed c =
    let alteration : Alteration = record { shape = c.args.shape; at = c.args.at; becomes = To c.args.rep } in
    let is = c.is_for.ensures.0 c.if-is_for.true in
    kept_leads c.self.inside c.args.self.now c.alteration_index.result c.index-kept.result.now alteration
    c.self.invariant c.self.view_is c.alteration_index.ensures c.index-kept.ensures is.0 is.1
