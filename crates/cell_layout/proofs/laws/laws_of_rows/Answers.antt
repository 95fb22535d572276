use Rattle.cell_layout.proofs.Rows.{one_row, rows_are_full, rows_join, rows_part, rows_part_around, rows_stay}
use Rattle.cell_layout.proofs.Rows.{stretches_change}
use Rattle.cell_layout.proofs.Puts.{rows_stay_at_puts, slots_change}
use Rattle.cell_layout.proofs.laws.laws_of_rows.Goals as goal

pub returns : goal.returns
returns c = record {
  one = one_row;
  full = rows_are_full;
  join = rows_join;
  part = rows_part;
  part_around = rows_part_around;
  stay = rows_stay;
  stretches_change = stretches_change;
  puts = rows_stay_at_puts;
  slots_change = slots_change;
}
