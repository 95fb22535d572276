-- What the entry has is true of the shape and the name that are asked for.
use Rattle.std.proofs.Common.{subst, sym}
use Rattle.shape_tree.specs.Nodes.{AreLookedUp}
use Rattle.shape_tree.specs.CachedSlots.{IsCachedSlot}
use Rattle.shape_tree.proofs.LookedUpFields.{cached_at}
use Rattle.shape_tree.proofs.tree.ShapeTree.cached_slot.Goals as goal

pub returns : goal.returns
returns c =
    let cache = c.self.inside.look_ups.items in
    let are = subst (λ ps. AreLookedUp ps cache) c.self.view_is c.self.invariant.looked_up in
    let here = c.is_for.ensures.0 c.if-not-is_for.false in
    subst (IsCachedSlot c.args.self.now c.args.shape c.args.name) (sym c.cached.ensures)
    (cached_at c.args.self.now cache c.look_up_index.result c.args.shape c.args.name c.index-kept.result.now are
    c.look_up_index.ensures c.index-kept.ensures here.0 here.1)
