use Rattle.std.proofs.Common.{◌≡◌, ◌≤◌, take}
use Rattle.heap_model.specs.Images.{image_heap}
use Rattle.image_walk.specs.TablePairs.{table_pairs, filled_pairs}
use Rattle.heap_check.proofs.probing.entries_in.Given as goal

abbrev pub invariant-loop-at : goal.invariant-loop-at
invariant-loop-at l = record {
  counted : l.entries ≡ filled_pairs (take l.at (table_pairs (image_heap l.image) l.table));
  few : l.entries ≤ l.at;
}
