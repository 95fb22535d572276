use Rattle.std.proofs.Common.{refl, arith}
use Rattle.std.proofs.lemmas.Bool.{false≢true}
use Rattle.heap_model.specs.Images.{image_heap}
use Rattle.slow_check.proofs.DeadStretches.{stretch_at_start, stretch_more, none_at_start, none_more, found_dead}
use Rattle.slow_check.proofs.DeadStretches.{none_to_end}
use Rattle.slow_check.proofs.fitting.has_dead.Goals as goal

pub loop-at-init : goal.loop-at-init
loop-at-init c = record {
  stretch = stretch_at_start (image_heap c.args.image.now) c.args.start;
  none = none_at_start (image_heap c.args.image.now) c.args.start c.args.n c.requires.some;
}

pub returns-then-at-first : goal.returns-then-at-first
returns-then-at-first c = (
  λ yes. found_dead (image_heap c.args.image.now) c.args.start c.args.end c.args.n c.begin_of-first.result
      c.loop-at.at c.requires.some c.loop-at-test.true
      (stretch_more c.loop-at.invariant.stretch c.begin_of-first.ensures) c.if-at-first.true,
  λ has. refl,
)

pub loop-at-preserved : goal.loop-at-preserved
loop-at-preserved c =
    let stretch = stretch_more c.loop-at.invariant.stretch c.begin_of-first.ensures in
    record {
      stretch = stretch;
      none = none_more (image_heap c.args.image.now) c.args.start c.args.n c.begin_of-first.result c.loop-at.at
          c.loop-at.invariant.none stretch (omega (arith, c.if-at-first.false));
    }

pub returns : goal.returns
returns c = (
  λ wrong. absurd (false≢true wrong),
  λ has. absurd (none_to_end (image_heap c.args.image.now) c.args.start c.args.end c.loop-at.at c.args.n
      (omega (arith, c.loop-at-test.false)) c.loop-at.invariant.none has),
)

pub overflow_sub-at : goal.overflow_sub-at
overflow_sub-at c =
    let stretch = stretch_more c.loop-at.invariant.stretch c.begin_of-first.ensures in
    omega (arith, stretch.upto)
