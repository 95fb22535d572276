use Rattle.std.proofs.Common.{rules, ◌≡◌, to_z, of_z, w64}
use Rattle.ideal_graph.proofs.ideal.Ideal.trunc.Goals as goal

pub returns : goal.returns
returns c =
    let same : to_z w64 (of_z w64 c.in_ok-count-2.count) ≡ c.in_ok-count-2.count = search rules in
    let kept = rw same at c.in_ok-kept.ensures.found in
    rw (c.in_ok-target.ensures, c.in_ok-count.ensures, c.in_ok-list.ensures.found, c.in_ok-count-2.ensures, kept)
    (rw c.in_ok-elements.ensures.items at c.relist.ensures)
