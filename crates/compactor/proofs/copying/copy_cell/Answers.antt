-- One word after another is copied.
use Rattle.std.proofs.Common.{◌≡◌, ℕ, sym, ◌∙◌, ap, subst, arith}
use Rattle.page_space.specs.Extents.{Space, marks_start}
use Rattle.compactor.specs.Copying.{Copies}
use Rattle.compactor.proofs.Copied.{none_copied, copies_more}
use Rattle.compactor.proofs.copying.copy_cell.Goals as goal

pub loop-offset-init : goal.loop-offset-init
loop-offset-init c =
    record { copies = none_copied c.args.main.now c.args.moves.now c.args.cell.now c.args.to }

pub copy_word-requires-clause-quiet : goal.copy_word-requires-clause-quiet
copy_word-requires-clause-quiet c mark =
    c.requires.quiet (sym c.loop-offset.invariant.copies.rest.seat.phase ∙ mark)

pub copy_word-requires-clause-within : goal.copy_word-requires-clause-within
copy_word-requires-clause-within c =
    let marks = ap (λ (space : Space). marks_start space) c.loop-offset.invariant.copies.rest.seat.space in
    omega (arith, c.requires.within, marks)

pub loop-offset-preserved : goal.loop-offset-preserved
loop-offset-preserved c =
    record { copies = copies_more c.requires.front c.loop-offset.invariant.copies c.copy_word.ensures }

pub returns : goal.returns
returns c =
    let all : c.loop-offset.offset ≡ c.args.cell.now.size = omega arith in
    subst (λ (n : ℕ). Copies c.args.main.now c.loop-offset.main c.args.moves.now c.args.cell.now c.args.to n) all
    c.loop-offset.invariant.copies
