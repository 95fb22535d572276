use Rattle.std.proofs.Common.{arith}
use Rattle.remembered_set.proofs.Words.{clear_word, first_flag, none_before_end}
use Rattle.remembered_set.proofs.bits.first_set.Goals as goal

pub returns-then-place-to : goal.returns-then-place-to
returns-then-place-to c =
    first_flag c.args.bits.now c.args.from c.loop-at.at c.args.to c.in-Some.bit c.loop-at.invariant.clear
    c.loop-at.invariant.behind c.in-Some.ensures c.if-place-to.true

pub returns-else-place-to : goal.returns-else-place-to
returns-else-place-to c =
    none_before_end c.args.bits.now c.args.from c.loop-at.at c.args.to c.in-Some.bit c.loop-at.invariant.clear
    c.in-Some.ensures c.if-place-to.false

pub loop-at-preserved : goal.loop-at-preserved
loop-at-preserved c = record {
  clear = clear_word c.args.bits.now c.args.from c.loop-at.at c.loop-at.invariant.clear c.in_default.ensures;
  behind = omega (arith, c.loop-at.invariant.behind);
}
