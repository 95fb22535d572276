use Rattle.ideal_graph.proofs.ideal.Ideal.proto.Goals as goal

pub returns : goal.returns
returns c =
    rw (
      c.in_ok-target.ensures,
      c.in_ok-value.ensures,
      c.in_ok-plain.ensures.found,
      c.in_ok-proto.ensures,
      ← c.makes_ring.ensures,
      c.if-makes_ring.false,
    )
    (rw c.in_ok-fields.ensures.items at c.lead.ensures)
