use Rattle.std.proofs.Common.{ℕ, Some, refl, sym, ap, ◌∙◌, arith}
use Rattle.std.proofs.lemmas.Option.{slice_get_within, slice_get-get_or}
use Rattle.heap_model.specs.Types.{Object}
use Rattle.heap_model.specs.Images.{image_heap}
use Rattle.slow_check.specs.Reached.{ShowsMarked}
use Rattle.slow_check.proofs.EachItem.{each_item_more}
use Rattle.slow_check.proofs.objects.show_reached.Goals as goal

pub loop-number-preserved : goal.loop-number-preserved
loop-number-preserved c =
    let heap = image_heap c.args.image.now in
    let objects = c.args.objects.now in
    let number = c.loop-number.number in
    let what : Object = c.index-objects-number.result in
    let Shown : ℕ → Object → Type 0 = λ n one. ShowsMarked heap c.args.marks.now n one in
    let there = slice_get-get_or objects number what c.loop-number-test.true
    ∙ ap (λ (one : Object). Some one) (sym c.index-objects-number.is) in
    each_item_more objects Shown number what c.loop-number.invariant there
    (c.shows_marked.ensures.0 c.if-not-shows_marked.false)

pub returns : goal.returns
returns c =
    let objects = c.args.objects.now in (
      λ done number what there. c.loop-number.invariant number
          (omega (arith, c.loop-number-test.false, slice_get_within objects number what there)) what there,
      λ shown. refl,
    )
