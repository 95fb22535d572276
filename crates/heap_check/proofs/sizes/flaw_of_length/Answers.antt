use Rattle.std.proofs.Common.{length, ap, arith}
use Rattle.heap_model.specs.Images.{image_heap}
use Rattle.heap_check.proofs.SizeFlaws.{length_first}
use Rattle.heap_check.proofs.sizes.flaw_of_length.Goals as goal

pub returns : goal.returns
returns c =
    let heap = image_heap c.args.image.now in
    let found = ap length c.as_slice.ensures in
    length_first heap (record {
      at = c.count-at.result;
      found = length c.as_slice.result.now;
      wanted = c.mark_of-wanted.result;
    })
    (λ same. c.if-found-wanted.false (omega (arith, found, same, c.mark_of-wanted.ensures.at)))
    c.count-at.ensures.counted found (omega (arith, c.mark_of-wanted.ensures.at))
