-- The variables before are bound to nothing, the second words stay, and only root words have changed.
use Rattle.std.proofs.Common.{◌≡◌, ℕ, ◌+◌, ◌<◌, Some, slice_get}
use Rattle.page_space.specs.Extents.{roots_start, layouts_start}
use Rattle.handle_roots.specs.declared.held.Held.TheVariants.{Unbound}
use Rattle.handle_roots.specs.Roots.{root_at, first_word}
use Rattle.write_barrier.specs.Seats.{heap_words}
use Rattle.write_barrier.specs.Opening.{ChangesWithin}
use Rattle.write_barrier.proofs.main_side.Main.put_unbound.Given as goal

abbrev pub invariant-loop-variable : goal.invariant-loop-variable
invariant-loop-variable l = record {
  changes : ChangesWithin l.fn.self l.self (roots_start l.fn.self.seat.space) (layouts_start l.fn.self.seat.space);
  firsts : (variable : ℕ) → variable < l.variable
      → slice_get (heap_words l.self.seat) (root_at l.fn.self.seat.space variable) ≡ Some (first_word Unbound);
  seconds : (variable : ℕ) → variable < l.fn.self.seat.space.variables
      → slice_get (heap_words l.self.seat) (root_at l.fn.self.seat.space variable + 1)
      ≡ slice_get (heap_words l.fn.self.seat) (root_at l.fn.self.seat.space variable + 1);
}
