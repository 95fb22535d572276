use Rattle.std.proofs.Common.{refl, sym, ◌∙◌, arith}
use Rattle.std.proofs.lemmas.Bool.{false≢true}
use Rattle.std.proofs.lemmas.Option.{slice_get_within}
use Rattle.heap_model.specs.Images.{image_heap}
use Rattle.image_walk.specs.TablePairs.{table_pairs, pair_of}
use Rattle.image_walk.proofs.PairWords.{length-table_pairs}
use Rattle.slow_check.specs.KeyPairs.{IsKnownPair}
use Rattle.slow_check.proofs.EachItem.{each_item_more}
use Rattle.slow_check.proofs.entries.are_known.Goals as goal

pub returns-then-not-is_known_pair : goal.returns-then-not-is_known_pair
returns-then-not-is_known_pair c = (
  λ wrong. absurd (false≢true wrong),
  λ known. sym c.if-not-is_known_pair.true
      ∙ c.is_known_pair.ensures.1 (known c.loop-at.at (pair_of c.pair_at.result) c.pair_at.ensures),
)

pub loop-at-preserved : goal.loop-at-preserved
loop-at-preserved c =
    let heap = image_heap c.args.image.now in
    each_item_more (table_pairs heap c.args.table) (λ k pair. IsKnownPair heap c.args.marks.now c.args.entries.now pair)
    c.loop-at.at (pair_of c.pair_at.result) c.loop-at.invariant c.pair_at.ensures
    (c.is_known_pair.ensures.0 c.if-not-is_known_pair.false)

pub returns : goal.returns
returns c =
    let heap = image_heap c.args.image.now in
    let pairs = table_pairs heap c.args.table in (
      λ done at pair there. c.loop-at.invariant at
          (omega (
            arith,
            slice_get_within pairs at pair there,
            length-table_pairs heap c.args.table c.requires.is,
            c.loop-at-test.false,
          ))
          pair there,
      λ known. refl,
    )
