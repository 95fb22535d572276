use Rattle.std.proofs.Common.{◌≡◌, List, length, take, ◌∙◌, sym, ap, arith}
use Rattle.std.proofs.Math.Seq.{take-length}
use Rattle.heap_model.specs.Images.{image_heap}
use Rattle.heap_model.specs.Kinds.{Pair}
use Rattle.image_walk.specs.TablePairs.{table_pairs, pair_of, filled_pairs}
use Rattle.image_walk.proofs.PairWords.{length-table_pairs}
use Rattle.heap_check.proofs.ProbedPairs.{count_free, count_entry}
use Rattle.heap_check.proofs.probing.entries_in.Goals.{then-not-is_free, else-not-is_free}
use Rattle.heap_check.proofs.probing.entries_in.Goals as goal

pub loop-at-preserved : goal.loop-at-preserved
loop-at-preserved c =
    let pairs : List Pair = table_pairs (image_heap c.args.image.now) c.args.table in
    let pair : Pair = pair_of c.pair_at.result in
    elim c.if-not-is_free.branch [
      | then-not-is_free w ↦
          let test = sym c.is_free.ensures ∙ w.if-not-is_free.true in
          let more = count_entry pairs c.loop-at.at pair c.pair_at.ensures test in
          record {
            counted = omega (arith, w.entries-is, more, c.loop-at.invariant.counted);
            few = omega (arith, w.entries-is);
          }
      | else-not-is_free w ↦
          let test = sym c.is_free.ensures ∙ w.if-not-is_free.false in
          let same = count_free pairs c.loop-at.at pair c.pair_at.ensures test in
          record {
            counted = omega (arith, w.entries-is, same, c.loop-at.invariant.counted);
            few = omega (arith, w.entries-is);
          }
    ]

pub returns : goal.returns
returns c =
    let pairs : List Pair = table_pairs (image_heap c.args.image.now) c.args.table in
    let done : c.loop-at.at ≡ length pairs =
    omega (arith, length-table_pairs (image_heap c.args.image.now) c.args.table c.requires) in
    let all : take c.loop-at.at pairs ≡ pairs = ap (λ n. take n pairs) done ∙ take-length pairs in
    c.loop-at.invariant.counted ∙ ap filled_pairs all
