use Rattle.std.proofs.Common.{sym}
use Rattle.slow_check.specs.Moves.{to_of}
use Rattle.slow_check.proofs.WordsMoved.{known_word_moved}
use Rattle.slow_check.proofs.moved_roots.is_moved_there.Goals as goal

pub returns : goal.returns
returns c =
    known_word_moved (to_of c.args.moves.now) c.args.old.now.words c.args.new.now.words c.args.at c.in-Some.word
    c.in-Some-word_at.now c.is_moved_word.result (sym c.in-Some.ensures) (sym c.in-Some-word_at.ensures)
    c.is_moved_word.ensures
