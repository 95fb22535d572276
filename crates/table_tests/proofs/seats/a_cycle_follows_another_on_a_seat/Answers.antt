-- The layout words are as before the cycle began.
use Rattle.std.proofs.Common.{ℕ, List, slice_get, ap, ◌∙◌}
use Rattle.table_tests.proofs.seats.a_cycle_follows_another_on_a_seat.Goals as goal

pub add-requires-clause-layout : goal.add-requires-clause-layout
add-requires-clause-layout g c =
    ap (λ (words : List ℕ). slice_get words 17) c.begin.ensures.layouts ∙ c.in_ok-seat.ensures.layouts
