use Rattle.std.proofs.Common.{rules, ◌≡◌, to_z, of_z, w64}
use Rattle.ideal_graph.proofs.ideal.Ideal.put.Goals as goal

pub returns : goal.returns
returns c =
    let same : to_z w64 (of_z w64 c.in_ok-index-2.index) ≡ c.in_ok-index-2.index = search rules in
    let place = rw same at c.in_ok-place.ensures.found in
    rw (
      c.in_ok-target.ensures,
      c.in_ok-index.ensures,
      c.in_ok-value.ensures,
      c.in_ok-list.ensures.found,
      c.in_ok-index-2.ensures,
      place,
    )
    (rw c.in_ok-elements.ensures.items at c.relist.ensures)
