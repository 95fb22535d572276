use Rattle.std.proofs.Common.{◌≡◌, ℕ, ◌-◌, List, length, sym, ◌∙◌}
use Rattle.std.proofs.lemmas.Bool.{false≢true}
use Rattle.heap_model.specs.Images.{image_heap}
use Rattle.image_walk.specs.Spans.{span_words}
use Rattle.image_walk.proofs.SpanWords.{length-span}
use Rattle.image_walk.proofs.EachSlot.{each_of_both, each_of_first, each_of_second}
use Rattle.slow_check.specs.ShownSlots.{ShowsFieldAt}
use Rattle.slow_check.proofs.fields.show_fields.Goals as goal

pub returns-then-not-show_slots : goal.returns-then-not-show_slots
returns-then-not-show_slots c =
    let heap = image_heap c.args.image.now in
    let own : List ℕ = span_words heap c.args.own in
    let beside : List ℕ = span_words heap c.args.beside in
    let Shows : ℕ → ℕ → Type 0 = ShowsFieldAt heap c.args.cap c.args.fields.now in (
      λ wrong. absurd (false≢true wrong),
      λ each. sym c.if-not-show_slots.true ∙ c.show_slots.ensures.1 (each_of_first own beside Shows each),
    )

pub returns : goal.returns
returns c =
    let heap = image_heap c.args.image.now in
    let own : List ℕ = span_words heap c.args.own in
    let beside : List ℕ = span_words heap c.args.beside in
    let first : ℕ = c.args.own.end - c.args.own.from in
    let long : first ≡ length own = sym (length-span heap c.args.own c.requires.is_own) in
    let Shows : ℕ → ℕ → Type 0 = ShowsFieldAt heap c.args.cap c.args.fields.now in (
      λ yes. each_of_both own beside first Shows long (c.show_slots.ensures.0 c.if-not-show_slots.false)
          (c.show_slots-2.ensures.0 yes),
      λ each. c.show_slots-2.ensures.1 (each_of_second own beside first Shows long each),
    )
