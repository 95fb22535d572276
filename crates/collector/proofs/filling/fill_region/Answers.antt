use Rattle.std.proofs.Common.{arith}
use Rattle.write_barrier.specs.MutatorState.{heap_of}
use Rattle.collector.proofs.FilledWords.{row_lies_between, region_filled}
use Rattle.collector.proofs.filling.fill_region.Goals as goal

pub copy_words-requires-clause-ordered : goal.copy_words-requires-clause-ordered
copy_words-requires-clause-ordered c =
    (row_lies_between (heap_of c.args.main.now) c.args.start c.row_end-behind.result c.args.end c.requires.whole.rows
    c.requires.stands c.row_end-behind.ensures).from

pub copy_words-requires-clause-within : goal.copy_words-requires-clause-within
copy_words-requires-clause-within c =
    let lies = row_lies_between (heap_of c.args.main.now) c.args.start c.row_end-behind.result c.args.end
    c.requires.whole.rows c.requires.stands c.row_end-behind.ensures in
    omega (arith, lies.within, lies.before_marks)

pub blank_words-requires-clause-ordered : goal.blank_words-requires-clause-ordered
blank_words-requires-clause-ordered c =
    (row_lies_between (heap_of c.args.main.now) c.args.start c.row_end-behind.result c.args.end c.requires.whole.rows
    c.requires.stands c.row_end-behind.ensures).within

pub blank_words-requires-clause-within : goal.blank_words-requires-clause-within
blank_words-requires-clause-within c =
    let lies = row_lies_between (heap_of c.args.main.now) c.args.start c.row_end-behind.result c.args.end
    c.requires.whole.rows c.requires.stands c.row_end-behind.ensures in
    omega (arith, lies.before_marks, c.copy_words.ensures.count, c.requires.room)

pub returns : goal.returns
returns c =
    region_filled (heap_of c.args.main.now) c.args.words.now c.copy_words.new.words c.blank_words.new.words c.args.start
    c.row_end-behind.result c.args.end c.requires.whole.rows c.requires.stands c.row_end-behind.ensures
    c.copy_words.ensures c.blank_words.ensures
