use Rattle.std.proofs.Common.{ap, refl, arith}
use Rattle.heap_model.specs.Types.{Sizes}
use Rattle.heap_model.specs.Images.{image_heap}
use Rattle.heap_check.proofs.SizeFlaws.{used_first}
use Rattle.heap_check.proofs.sizes.flaw_of_used.Goals as goal

pub returns : goal.returns
returns c =
    let heap = image_heap c.args.image.now in
    let young = ap (λ (s : Sizes). s.young) c.sizes-young.ensures in
    used_first heap (record {
      at = c.count.result;
      found = c.args.image.now.used;
      wanted = c.sizes-young.result.young;
    })
    (omega (arith, c.if-image-young.false, young)) c.count.ensures.counted refl young
