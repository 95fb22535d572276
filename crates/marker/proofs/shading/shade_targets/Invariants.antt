-- The targets of so many slots are shaded.
use Rattle.std.proofs.Common.{◌≡◌, ℕ, ◌<◌}
use Rattle.mark_laws.specs.Types.{SnapSlot}
use Rattle.marker.specs.Shading.{HasListed, IsShaded, Shades, word_of}
use Rattle.marker.proofs.shading.shade_targets.Given as goal

abbrev pub invariant-loop-slot : goal.invariant-loop-slot
invariant-loop-slot l = record {
  listed : HasListed l.list l.seat.lent;
  bound : l.list.bound ≡ l.fn.list.bound;
  shades : Shades l.fn.seat l.seat;
  shaded : (k : ℕ) (d : SnapSlot) → k < l.slot-index → IsShaded l.seat (word_of l.slots k d);
}
