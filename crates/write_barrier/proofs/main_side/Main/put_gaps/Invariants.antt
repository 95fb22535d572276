-- The pages before are gaps, and only words of pages have changed.
use Rattle.std.proofs.Common.{ℕ, ◌<◌}
use Rattle.page_space.specs.Extents.{eden_start}
use Rattle.write_barrier.specs.Seats.{heap_words}
use Rattle.write_barrier.specs.MutatorState.{IsOneGap}
use Rattle.write_barrier.specs.Opening.{ChangesWithin}
use Rattle.write_barrier.proofs.main_side.Main.put_gaps.Given as goal

abbrev pub invariant-loop-page : goal.invariant-loop-page
invariant-loop-page l = record {
  changes : ChangesWithin l.fn.self l.self 0 (eden_start l.fn.self.seat.space);
  gaps : (page : ℕ) → page < l.page → IsOneGap (heap_words l.self.seat) page;
}
