use Rattle.std.proofs.Common.{◌≡◌, length}
use Rattle.cell_list.proofs.CellList.clear.Given as goal

-- the bound stays
abbrev pub invariant-loop : goal.invariant-loop
invariant-loop l = l.self.bound ≡ l.initial.self.bound

-- an address fewer is listed at each turn
abbrev pub decreases-loop : goal.decreases-loop
decreases-loop l = length l.self.addresses
