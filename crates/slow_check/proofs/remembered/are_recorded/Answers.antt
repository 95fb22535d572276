use Rattle.std.proofs.Common.{Contains, refl, sym, ◌∙◌, ap, arith}
use Rattle.heap_model.specs.Types.{Sizes}
use Rattle.std.proofs.lemmas.Bool.{false≢true}
use Rattle.heap_model.specs.Images.{image_heap}
use Rattle.slow_check.specs.Recorded.{MustBeRecorded}
use Rattle.slow_check.proofs.Listed.{found_where_listed}
use Rattle.slow_check.proofs.RecordedSlots.{tell_the_same, same_tests, recorded_more}
use Rattle.slow_check.proofs.remembered.are_recorded.Goals as goal

pub returns-then-contains-must_be_recorded : goal.returns-then-contains-must_be_recorded
returns-then-contains-must_be_recorded c =
    let heap = image_heap c.args.image.now in
    let slots = c.args.slots.now in
    let at = c.loop-at.at-counter in (
      λ wrong. absurd (false≢true wrong),
      λ recorded. absurd (false≢true (sym
          (same_tests (Contains slots at) (MustBeRecorded heap at) c.contains.result c.must_be_recorded.result
          (found_where_listed slots at c.contains.result c.contains.ensures.cases) c.must_be_recorded.ensures
          (recorded at (omega (arith, c.loop-at-test.true, ap (λ (s : Sizes). s.pages) c.sizes-at-end.ensures))))
          ∙ c.if-contains-must_be_recorded.true)),
    )

pub loop-at-preserved : goal.loop-at-preserved
loop-at-preserved c =
    let heap = image_heap c.args.image.now in
    let slots = c.args.slots.now in
    let at = c.loop-at.at-counter in
    recorded_more heap slots at c.loop-at.invariant
    (tell_the_same (Contains slots at) (MustBeRecorded heap at) c.contains.result c.must_be_recorded.result
    (found_where_listed slots at c.contains.result c.contains.ensures.cases) c.must_be_recorded.ensures
    c.if-contains-must_be_recorded.false)

pub returns : goal.returns
returns c = (
  λ done at below. c.loop-at.invariant at
      (omega (arith, below, c.loop-at-test.false, ap (λ (s : Sizes). s.pages) c.sizes-at-end.ensures)),
  λ recorded. refl,
)
