use Rattle.slow_check.proofs.weak.show_pairs.Goals as goal

pub returns-then-show_entries : goal.returns-then-show_entries
returns-then-show_entries c = (
  λ yes. record { each = c.show_entries.ensures.0 c.if-show_entries.true; others = c.are_known.ensures.0 yes },
  λ shows. c.are_known.ensures.1 shows.others,
)
