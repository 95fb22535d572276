use Rattle.std.proofs.Common.{ℕ, ◌<◌, get_or, refl, sym, ◌∙◌, arith}
use Rattle.std.proofs.lemmas.Bool.{false≢true}
use Rattle.std.proofs.lemmas.Option.{slice_get-get_or}
use Rattle.std.proofs.lemmas.List.Elements.{Contains-get_or}
use Rattle.page_space.specs.Extents.{eden_start}
use Rattle.page_space.proofs.CellAddresses.{pages_are}
use Rattle.slow_check.proofs.EachItem.{each_item_more}
use Rattle.slow_check.proofs.Listed.{each_listed}
use Rattle.slow_check.proofs.remembered.are_of_pages.Goals as goal

pub returns-then-not-is_page : goal.returns-then-not-is_page
returns-then-not-is_page c =
    let slots = c.args.slots.now in
    let at : ℕ = get_or slots c.loop-at.at-index 0 in (
      λ wrong. absurd (false≢true wrong),
      λ of. sym c.if-not-is_page.true ∙ c.is_page.ensures.1 ((pages_are c.args.image.now.regions at).0
          (of at (Contains-get_or slots c.loop-at.at-index 0 c.loop-at-test.true))),
    )

pub loop-at-preserved : goal.loop-at-preserved
loop-at-preserved c =
    let slots = c.args.slots.now in
    let space = c.args.image.now.regions in
    let at : ℕ = get_or slots c.loop-at.at-index 0 in
    let Of : ℕ → ℕ → Type 0 = λ k one. one < eden_start space in
    each_item_more slots Of c.loop-at.at-index at c.loop-at.invariant
    (slice_get-get_or slots c.loop-at.at-index 0 c.loop-at-test.true)
    ((pages_are space at).1 (c.is_page.ensures.0 c.if-not-is_page.false))

pub returns : goal.returns
returns c = (
  λ done. each_listed c.args.slots.now (λ at. at < eden_start c.args.image.now.regions) c.loop-at.at-index
      (omega (arith, c.loop-at-test.false)) c.loop-at.invariant,
  λ of. refl,
)
