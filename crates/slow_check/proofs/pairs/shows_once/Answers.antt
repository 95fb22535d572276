use Rattle.std.proofs.Common.{sym, ◌∙◌, refl, arith}
use Rattle.std.proofs.lemmas.Bool.{false≢true}
use Rattle.std.proofs.lemmas.Option.{slice_get_within}
use Rattle.heap_model.specs.Images.{image_heap}
use Rattle.image_walk.specs.TablePairs.{table_pairs, pair_of}
use Rattle.image_walk.proofs.PairWords.{length-table_pairs}
use Rattle.slow_check.proofs.KeysOnce.{once_from, once_value, not_twice}
use Rattle.slow_check.proofs.pairs.shows_once.Goals as goal

-- the place of a pair is one of the table's
pub pair_at-requires-clause-there : goal.pair_at-requires-clause-there
pair_at-requires-clause-there c =
    let heap = image_heap c.args.image.now in
    let first = c.in-Some.ensures in
    omega (
      arith,
      slice_get_within (table_pairs heap c.args.table) c.in-Some.at first.pair first.stands,
      length-table_pairs heap c.args.table c.requires.is,
    )

pub overflow_add-at : goal.overflow_add-at
overflow_add-at c =
    let heap = image_heap c.args.image.now in
    let first = c.in-Some.ensures in
    omega (
      arith,
      slice_get_within (table_pairs heap c.args.table) c.in-Some.at first.pair first.stands,
      length-table_pairs heap c.args.table c.requires.is,
    )

pub returns-then-not-shows_value : goal.returns-then-not-shows_value
returns-then-not-shows_value c =
    let heap = image_heap c.args.image.now in (
      λ wrong. absurd (false≢true wrong),
      λ once. sym c.if-not-shows_value.true ∙ c.shows_value.ensures.1
          (once_value heap (table_pairs heap c.args.table) c.args.entry c.in-Some.at (pair_of c.pair_at.result)
          c.in-Some.ensures c.pair_at.ensures once),
    )

pub returns-in-Some-pair_from : goal.returns-in-Some-pair_from
returns-in-Some-pair_from c =
    let heap = image_heap c.args.image.now in (
      λ wrong. absurd (false≢true wrong),
      λ once. absurd
          (not_twice heap (table_pairs heap c.args.table) c.args.entry c.in-Some.at c.in-Some-pair_from.field-0
          c.in-Some.ensures c.in-Some-pair_from.ensures once),
    )

pub returns-in-None : goal.returns-in-None
returns-in-None c =
    let heap = image_heap c.args.image.now in (
      λ yes. once_from heap (table_pairs heap c.args.table) c.args.entry c.in-Some.at (pair_of c.pair_at.result)
          c.in-Some.ensures c.pair_at.ensures (c.shows_value.ensures.0 c.if-not-shows_value.false) c.in-None.ensures,
      λ once. refl,
    )
