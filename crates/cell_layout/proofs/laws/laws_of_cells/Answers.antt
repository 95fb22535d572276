use Rattle.cell_layout.proofs.OneCell.{one_cell, cells_have_words, slots_lie_within, scavenges_visit_tagged, cells_stay}
use Rattle.cell_layout.proofs.Puts.{puts_read_alike, cells_are_apart}
use Rattle.cell_layout.proofs.laws.laws_of_cells.Goals as goal

pub returns : goal.returns
returns c = record {
  one = one_cell;
  words = cells_have_words;
  within = slots_lie_within;
  visited = scavenges_visit_tagged;
  stay = cells_stay;
  puts = puts_read_alike;
  apart = cells_are_apart;
}
