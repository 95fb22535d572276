-- The path to which a cached step leads is there, so none is added.
use Rattle.std.proofs.Common.{◌≡◌, ◌≤◌, ◌+◌, List, length, refl, arith, ap, subst, ◌∙◌}
use Rattle.object_graph.specs.Limits.{paths_most}
use Rattle.object_graph.specs.Paths.{missing}
use Rattle.heap_model.specs.Types.{Path}
use Rattle.shape_tree.specs.Shapes.{shape_path, stepped}
use Rattle.shape_tree.specs.Growth.{StepsTo}
use Rattle.shape_tree.proofs.LedPaths.{none_missing}
use Rattle.shape_change.specs.Additions.{MayAdd, count_of}
use Rattle.shape_change.proofs.add_field.cached_field.Goals as goal

pub returns : goal.returns
returns c =
    let paths = c.args.main.now.paths in
    let shape = c.args.shape in
    let same = c.shapes-shapes.ensures in
    let steps = subst (λ (all : List Path). StepsTo all shape (record { name = c.args.name; rep = c.rep_for.result })
    c.in_ok-next.next) same c.in_ok-next.ensures in
    let path : Path = stepped (shape_path paths shape) c.args.name c.rep_for.result in
    let slot : c.fields-slot.result ≡ count_of paths shape =
    c.fields-slot.ensures.counted ∙ ap (λ (all : List Path). count_of all shape) same in
    let cap : c.cap-cap.result ≡ (shape_path paths shape).cap =
    c.cap-cap.ensures.cap ∙ ap (λ (all : List Path). (shape_path all shape).cap) same in
    let good = c.paths_fit.ensures.good in
    let room : length paths + length (missing paths path) ≤ paths_most =
    omega (arith, good.few, none_missing paths path c.in_ok-next.next good steps.leads) in
    record {
      is_shape = steps.starts;
      own = omega (arith, c.if-slot-cap.false, slot, cap);
      of_held = λ held gives. record {
        named = refl;
        rep = c.rep_for.ensures held gives;
        value_is = c.held.ensures held gives;
        slot = slot;
        few = steps.few;
        cap = cap;
        step = steps.leads;
        may = subst (λ rep. MayAdd paths (stepped (shape_path paths shape) c.args.name rep))
            (c.rep_for.ensures held gives) room;
      };
    }
