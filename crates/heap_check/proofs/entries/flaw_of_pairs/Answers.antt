use Rattle.std.proofs.Common.{List, get_or, arith}
use Rattle.std.proofs.lemmas.Option.{slice_get_within, slice_get-get_or}
use Rattle.heap_model.specs.Images.{image_heap}
use Rattle.heap_model.specs.Kinds.{Pair, free_pair}
use Rattle.image_walk.specs.TablePairs.{table_pairs}
use Rattle.image_walk.proofs.PairWords.{length-table_pairs}
use Rattle.heap_check.proofs.PairFlaws.{first_of_pairs}
use Rattle.heap_check.proofs.entries.flaw_of_pairs.Goals as goal

pub returns-in-Some : goal.returns-in-Some
returns-in-Some c =
    let heap = image_heap c.args.image.now in
    let pairs : List Pair = table_pairs heap c.args.table in
    let place = c.loop-place.place in
    let pair : Pair = get_or pairs place free_pair in
    let there = slice_get-get_or pairs place free_pair
    (omega (arith, length-table_pairs heap c.args.table c.requires.is, c.loop-place-test.true)) in
    first_of_pairs heap c.args.table place pair c.in-Some.flaw c.loop-place.invariant there
    (c.in-Some.ensures pair there)

pub returns : goal.returns
returns c at pair there =
    let heap = image_heap c.args.image.now in
    c.loop-place.invariant at
    (omega (
      arith,
      slice_get_within (table_pairs heap c.args.table) at pair there,
      length-table_pairs heap c.args.table c.requires.is,
      c.loop-place-test.false,
    ))
    pair there
