-- The other parts stay, and each entry still has an alteration or none.
use Rattle.std.proofs.Common.{sym, subst}
use Rattle.shape_tree.specs.Nodes.{IsAlteration}
use Rattle.shape_tree.proofs.KeptAlterations.{AreAltered-kept}
use Rattle.shape_tree.proofs.tree.ShapeTree.keep.Goals as goal

pub invariant_of-self : goal.invariant_of-self
invariant_of-self c =
    let is = c.self.invariant in
    record {
      shapes = is.shapes;
      each = is.each;
      finds = is.finds;
      cached = is.cached;
      altered = AreAltered-kept _ c.self.inside.alterations.items c.alteration_index-entry.result
          (record { alteration = c.args.alteration; shape = c.args.next }) is.altered
          (subst (λ ps. IsAlteration ps c.args.alteration c.args.next) (sym c.self.view_is) c.requires.is);
      looked_up = is.looked_up;
      room = record {
        fields = is.room.fields;
        nodes = is.room.nodes;
        steps = is.room.steps;
        short = is.room.short;
        few = is.room.few;
      };
    }
