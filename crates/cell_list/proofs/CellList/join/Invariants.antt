-- The cells of so many places have joined.
use Rattle.std.proofs.Common.{◌≡◌, ◌⊎◌, ◌↔◌, ℕ, Contains, take}
use Rattle.cell_list.proofs.CellList.join.Given as goal

abbrev pub invariant-loop-place : goal.invariant-loop-place
invariant-loop-place l = record {
  joined : (at : ℕ) → Contains l.self.addresses at
      ↔ (Contains l.initial.self.addresses at ⊎ Contains (take l.place l.others.addresses) at);
  bound : l.self.bound ≡ l.initial.self.bound;
}
