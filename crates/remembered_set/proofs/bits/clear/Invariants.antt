use Rattle.std.proofs.Common.{◌≤◌, ℕ, ◌+◌, ◌-◌, ◌≡◌, length, max}
use Rattle.remembered_set.specs.Bits.{flags_of}
use Rattle.remembered_set.specs.Flags.{ClearsBetween, set_count}
use Rattle.remembered_set.proofs.bits.clear.Given as goal

abbrev pub invariant-loop-place : goal.invariant-loop-place
invariant-loop-place l = record {
  as_many : length l.bits ≡ length l.fn.bits;
  clears : ClearsBetween (flags_of l.fn.bits) (flags_of l.bits) l.from l.at;
  counts : (start n : ℕ) → start ≤ l.from → l.to ≤ start + n
      → set_count (flags_of l.bits) start n + l.count ≡ set_count (flags_of l.fn.bits) start n;
  few : l.count ≤ l.at;
  behind : l.from ≤ l.at;
  within : l.at ≤ max l.from l.to;
}

abbrev pub decreases-loop-place : goal.decreases-loop-place
decreases-loop-place l = l.to - l.at
