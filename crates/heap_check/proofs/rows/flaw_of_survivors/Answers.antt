use Rattle.std.proofs.Common.{◌-◌, ap, refl, sym, ◌∙◌, arith}
use Rattle.heap_model.specs.Types.{Sizes}
use Rattle.heap_model.specs.Images.{image_heap}
use Rattle.heap_check.proofs.RowFlaws.{counted_first, many_first}
use Rattle.heap_check.proofs.rows.flaw_of_survivors.Goals as goal

pub returns-then-image-counted : goal.returns-then-image-counted
returns-then-image-counted c =
    let counted = c.requires.counted in
    counted_first (image_heap c.args.image.now) counted.rows
    (record { at = c.count-at.result; found = c.args.image.now.survivors; wanted = c.args.counted })
    counted.are (λ same. c.if-image-counted.true (sym same ∙ counted.counted)) c.count-at.ensures.counted refl
    (sym counted.counted)

pub returns-then-found-most : goal.returns-then-found-most
returns-then-found-most c =
    let counted = c.requires.counted in
    let young = ap (λ (s : Sizes). s.young) c.sizes.ensures in
    many_first (image_heap c.args.image.now) counted.rows (record {
      at = c.count-at.result;
      found = c.args.image.now.survivors;
      wanted = c.sizes.result.young - c.args.image.now.used;
    })
    counted.are (counted.counted ∙ sym c.if-image-counted.false) (omega (arith, c.if-found-most.true, young))
    c.count-at.ensures.counted refl (omega (arith, young))
