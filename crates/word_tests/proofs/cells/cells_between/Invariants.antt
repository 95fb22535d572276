use Rattle.std.proofs.Common.{◌≡◌, ◌+◌, ◌-◌, ◌≤◌}
use Rattle.cell_layout.specs.Cells.{IsRowOfSome}
use Rattle.word_tests.proofs.cells.cells_between.Given as goal

abbrev pub invariant-loop-cell : goal.invariant-loop-cell
invariant-loop-cell g l = record {
  row : IsRowOfSome l.regions (g.W.Reads.words l.initial.words) l.from l.at l.count;
  within : l.at ≤ l.end;
  few : l.from + l.count ≤ l.at;
  kept : g.W.Reads.words l.words ≡ g.W.Reads.words l.initial.words;
  steady : g.W.Reads.IsSteady l.words;
  rest : g.W.Reads.Rest l.initial.words l.words;
}

abbrev pub decreases-loop-cell : goal.decreases-loop-cell
decreases-loop-cell g l = l.end - l.at
