use Rattle.std.proofs.Common.{List, Bool, length, sym, ◌∙◌, subst, arith}
use Rattle.heap_model.specs.Types.{Object}
use Rattle.heap_model.specs.Images.{image_heap}
use Rattle.slow_check.specs.Places.{AreMade}
use Rattle.slow_check.specs.Reached.{ShowReached}
use Rattle.slow_check.proofs.shown.shows_by.Goals as goal

-- the parts are all that a heap owes that shows the graph
pub returns : goal.returns
returns c =
    let heap = image_heap c.args.image.now in
    let graph = c.args.ideal.now.graph in
    let marks = c.args.marks.now in
    let OfObjects : List Object → Type 0 = λ objects. ShowReached heap marks objects in
    let ByMarks : List Bool → Type 0 = λ by. ShowReached heap by graph.objects in
    let Made : List Object → Type 0 = λ objects. AreMade heap (length objects) in (
      λ made. record {
        whole = c.requires.whole;
        paths = c.has_paths.ensures.0 c.if-not-has_paths.false ∙ c.paths.ensures;
        bindings = c.show_bindings.ensures.0 c.if-not-show_bindings.false;
        no_others = λ variable from.
            c.is_unbound_from.ensures.0 c.if-not-is_unbound_from.false variable (omega arith);
        reached = subst ByMarks c.requires.marked
            (subst OfObjects c.objects.ensures (c.show_reached.ensures.0 c.if-not-show_reached.false));
        made = subst Made c.objects-2.ensures (c.are_made.ensures.0 made);
      },
      λ shows. c.are_made.ensures.1 (subst Made (sym c.objects-2.ensures) shows.made),
    )
