use Rattle.std.proofs.Common.{ℕ, ◌+◌, ◌-◌, sym, ◌∙◌, arith, refl}
use Rattle.std.proofs.lemmas.Bool.{false≢true}
use Rattle.heap_model.specs.Images.{image_heap}
use Rattle.image_walk.specs.Spans.{WordAt}
use Rattle.image_walk.proofs.SpanWords.{each_from, each_to}
use Rattle.image_walk.proofs.EachSlot.{each_more}
use Rattle.slow_check.specs.ShownSlots.{ShowsFieldAt}
use Rattle.slow_check.proofs.fields.show_slots.Goals as goal

pub loop-at-preserved : goal.loop-at-preserved
loop-at-preserved c =
    let heap = image_heap c.args.image.now in
    let Shows : ℕ → Type 0 = λ at.
    WordAt heap at (ShowsFieldAt heap c.args.cap c.args.fields.now (c.args.first + (at - c.args.span.from))) in
    each_more Shows c.args.span.from c.loop-at.at c.loop-at.invariant (c.shows_at.ensures.0 c.if-not-shows_at.false)

pub returns-then-not-shows_at : goal.returns-then-not-shows_at
returns-then-not-shows_at c =
    let heap = image_heap c.args.image.now in
    let span = c.args.span in
    let Shows : ℕ → ℕ → Type 0 = λ at word.
    ShowsFieldAt heap c.args.cap c.args.fields.now (c.args.first + at) word in (
      λ wrong. absurd (false≢true wrong),
      λ each. sym c.if-not-shows_at.true ∙ c.shows_at.ensures.1
          (λ word there. each_to heap.words span.from span.end Shows each c.loop-at.at word (omega arith) (omega arith)
          there),
    )

pub returns : goal.returns
returns c =
    let heap = image_heap c.args.image.now in
    let span = c.args.span in
    let Shows : ℕ → ℕ → Type 0 = λ at word.
    ShowsFieldAt heap c.args.cap c.args.fields.now (c.args.first + at) word in (
      λ done. each_from heap.words span.from span.end Shows
          (λ at word behind before there. c.loop-at.invariant at behind (omega arith) word there),
      λ each. refl,
    )
