-- The place is in no free start's cell, since there is none, and the word refers to nothing.
use Rattle.std.proofs.Common.{◌+◌, pos, refl, rules}
use Rattle.tagged_word.specs.declared.word.Class.TheVariants.{Small}
use Rattle.table_tests.proofs.OneCell.{none_free, word_there}
use Rattle.table_tests.proofs.seats.store_slot.Goals as goal

pub store_slot-requires-clause-may : goal.store_slot-requires-clause-may
store_slot-requires-clause-may c = record {
  place = word_there c.args.seat.now (c.args.at + 2) c.regions.ensures.heap_counted c.requires.within;
  no_head = none_free c.args.seat.now c.args.at c.requires.cell _;
  slot_word = record { class = Small (pos 5); fits = search rules; bits = refl; allowed = refl };
  born = tt;
}
