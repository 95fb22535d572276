use Rattle.heap_model.specs.Images.{image_heap}
use Rattle.heap_model.specs.Heaps.{words_of_cell}
use Rattle.slow_check.specs.Moves.{to_of}
use Rattle.slow_check.proofs.CellsMoved.{slot_moved}
use Rattle.slow_check.proofs.moved_words.is_moved_at.Goals as goal

pub returns-then-is_scavenge_slot : goal.returns-then-is_scavenge_slot
returns-then-is_scavenge_slot c =
    slot_moved (to_of c.args.moves.now) c.args.cell (words_of_cell (image_heap c.args.old.now) c.args.cell)
    (words_of_cell (image_heap c.args.new.now) c.args.other) c.args.offset c.word_of-word.result c.word_of-now.result
    c.is_moved_word.result (c.is_scavenge_slot.ensures.0 c.if-is_scavenge_slot.true) c.word_of-word.ensures
    c.word_of-now.ensures c.is_moved_word.ensures
