-- No helper visits the word, since there is no free start.
use Rattle.std.proofs.Common.{◌+◌, inr}
use Rattle.table_tests.proofs.OneCell.{none_free, word_there}
use Rattle.table_tests.proofs.seats.store_owned.Goals as goal

pub store_owned-requires-clause-may : goal.store_owned-requires-clause-may
store_owned-requires-clause-may c = λ mark. record {
  place = word_there c.args.seat.now (c.args.at + 1) c.regions.ensures.heap_counted c.requires.within;
  alone = inr (none_free c.args.seat.now c.args.at c.requires.cell _);
}
