use Rattle.std.proofs.Common.{sym}
use Rattle.std.proofs.lemmas.Bool.{false≢true}
use Rattle.slow_check.specs.Moves.{to_of}
use Rattle.slow_check.proofs.WordsMoved.{moved_where_it_leads, not_moved_to_none}
use Rattle.slow_check.proofs.moved_words.is_moved_word.Goals as goal

pub returns-in-Some : goal.returns-in-Some
returns-in-Some c =
    rw c.reference.ensures
    (moved_where_it_leads (to_of c.args.moves.now) c.args.old c.args.new c.in-Some.now c.if-old-ne1.false
    (sym c.in-Some.ensures))

pub returns-in-None : goal.returns-in-None
returns-in-None c = (
  λ wrong. absurd (false≢true wrong),
  λ moved. absurd (not_moved_to_none (to_of c.args.moves.now) c.args.old c.args.new c.if-old-ne1.false
      (sym c.in-None.ensures) moved),
)
