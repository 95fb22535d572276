use Rattle.std.proofs.Common.{arith}
use Rattle.std.proofs.lemmas.Option.{slice_get_within}
use Rattle.heap_model.specs.Images.{image_heap}
use Rattle.image_walk.specs.TablePairs.{table_pairs}
use Rattle.image_walk.proofs.PairWords.{length-table_pairs}
use Rattle.slow_check.proofs.pairs.pair_from.Goals as goal

pub returns : goal.returns
returns c at pair there from refers =
    let heap = image_heap c.args.image.now in
    let pairs = table_pairs heap c.args.table in
    c.loop-at.invariant at pair there from
    (omega (
      arith,
      slice_get_within pairs at pair there,
      length-table_pairs heap c.args.table c.requires.is,
      c.loop-at-test.false,
    ))
    refers
