use Rattle.std.proofs.Common.{sym, ◌∙◌, arith}
use Rattle.std.proofs.lemmas.Bool.{false≢true}
use Rattle.cell_layout.proofs.OneCell.{slots_lie_within}
use Rattle.heap_model.specs.Images.{image_heap}
use Rattle.slow_check.proofs.NamingSlots.{none_before_more}
use Rattle.image_walk.proofs.ObjectNaming.{slot_before}
use Rattle.image_walk.proofs.SpanWords.{words_count_few}
use Rattle.slow_check.proofs.naming.slot_in.Goals as goal

pub overflow_add-slot : goal.overflow_add-slot
overflow_add-slot c =
    omega (
      arith,
      slot_before (image_heap c.args.image.now) c.args.cell c.in-Some.offset c.requires.sized c.requires.is_cell
          c.in-Some.ensures.among,
      words_count_few c.args.image.now.regions c.sizes_fit.ensures,
    )

pub overflow_add-from : goal.overflow_add-from
overflow_add-from c =
    omega (
      arith,
      slot_before (image_heap c.args.image.now) c.args.cell c.in-Some.offset c.requires.sized c.requires.is_cell
          c.in-Some.ensures.among,
      words_count_few c.args.image.now.regions c.sizes_fit.ensures,
    )

pub loop-offset-smaller : goal.loop-offset-smaller
loop-offset-smaller c =
    let heap = image_heap c.args.image.now in
    let slot = slots_lie_within heap.space heap.words c.args.cell c.in-Some.offset c.requires.is_cell
    c.in-Some.ensures.among in
    omega (arith, slot.within, c.in-Some.ensures.reached)

pub loop-offset-preserved : goal.loop-offset-preserved
loop-offset-preserved c =
    none_before_more (image_heap c.args.image.now) c.args.cell c.args.named c.loop-offset.from c.in-Some.offset
    c.in-Some.ensures c.loop-offset.invariant
    (λ refers. false≢true (sym c.if-refers_from.false ∙ c.refers_from.ensures.1 refers))
