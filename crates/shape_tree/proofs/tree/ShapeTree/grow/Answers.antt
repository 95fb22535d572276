-- Each turn adds the next path.
use Rattle.std.proofs.Common.{◌-◌, length, get_or, take, drop, sym, subst}
use Rattle.object_graph.specs.declared.path.PathField.{PathField}
use Rattle.object_graph.specs.declared.value.Rep.TheVariants.{Small}
use Rattle.object_graph.specs.Invariants.{IsPath}
use Rattle.shape_tree.specs.Shapes.{shape_path}
use Rattle.shape_tree.specs.Growth.{extended}
use Rattle.shape_tree.proofs.GrownLists.{Grows, first_and_rest, empty_if_short, IsPath-next, grows_more, grows_end}
use Rattle.shape_tree.proofs.tree.ShapeTree.grow.Goals as goal

-- what stands in a pattern for a field that is not there
abbrev no_field : PathField
no_field = record { name = 0; rep = Small }

pub add-shape-requires-clause-is : goal.add-shape-requires-clause-is
add-shape-requires-clause-is c =
    let old = c.args.self.now in
    let path = extended (shape_path old c.args.from) c.args.tail.now in
    let rest = c.loop-rest.rest.now in
    let grows = subst (Grows old path c.loop-rest.self c.loop-rest.shape)
    (first_and_rest rest no_field c.in-len1-up.len_at_least) c.loop-rest.invariant in
    IsPath-next (shape_path c.loop-rest.self c.loop-rest.shape) (get_or rest 0 no_field)
    (take (length rest - 1) (drop 1 rest))
    (subst IsPath (sym grows.same) c.requires.is)

pub loop-rest-preserved : goal.loop-rest-preserved
loop-rest-preserved c =
    let old = c.args.self.now in
    let path = extended (shape_path old c.args.from) c.args.tail.now in
    let rest = c.loop-rest.rest.now in
    let grows = subst (Grows old path c.loop-rest.self c.loop-rest.shape)
    (first_and_rest rest no_field c.in-len1-up.len_at_least) c.loop-rest.invariant in
    grows_more old path c.loop-rest.self c.add-shape.new.self c.loop-rest.shape c.add-shape.result
    (get_or rest 0 no_field)
    (take (length rest - 1) (drop 1 rest)) c.requires.is grows c.add-shape.ensures.added c.add-shape.ensures.shape

pub returns-clause-added : goal.returns-clause-added
returns-clause-added c =
    let old = c.args.self.now in
    let path = extended (shape_path old c.args.from) c.args.tail.now in
    grows_end old path c.loop-rest.self c.loop-rest.shape
    (subst (Grows old path c.loop-rest.self c.loop-rest.shape)
    (empty_if_short c.loop-rest.rest.now c.in_default.len_below)
    c.loop-rest.invariant)
