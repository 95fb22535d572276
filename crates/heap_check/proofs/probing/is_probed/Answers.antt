use Rattle.std.proofs.Common.{◌≡◌, ℕ, ◌+◌, ◌%◌, List, Some, slice_get, refl, sym, ◌∙◌, ap, arith}
use Rattle.std.proofs.Common.{below_more}
use Rattle.std.proofs.lemmas.Bool.{false≢true}
use Rattle.std.proofs.lemmas.Option.{same_Some}
use Rattle.heap_model.specs.Images.{image_heap}
use Rattle.heap_model.specs.Kinds.{Pair}
use Rattle.heap_model.proofs.PairLists.{not_free}
use Rattle.image_walk.specs.TablePairs.{table_pairs, pair_of}
use Rattle.image_walk.proofs.PairWords.{length-table_pairs}
use Rattle.heap_check.proofs.ProbedPairs.{PassesPair, free_from, probed_at, not_probed_behind, not_probed}
use Rattle.heap_check.proofs.probing.is_probed.Goals as goal

pub returns-then-place-at : goal.returns-then-place-at
returns-then-place-at c =
    let heap = image_heap c.args.image.now in
    let pairs : List Pair = table_pairs heap c.args.table in
    let long = length-table_pairs heap c.args.table c.requires in
    let steps : ℕ = c.loop-steps.steps in (
      λ done. probed_at pairs c.args.number c.args.at steps (omega (arith, long))
          (ap (λ n. (c.args.number + steps) % n) long ∙ c.if-place-at.true) c.loop-steps.invariant,
      λ probed. refl,
    )

pub returns-then-is_free : goal.returns-then-is_free
returns-then-is_free c =
    let heap = image_heap c.args.image.now in
    let pairs : List Pair = table_pairs heap c.args.table in
    let long = length-table_pairs heap c.args.table c.requires in
    let steps : ℕ = c.loop-steps.steps in
    let same = ap (λ n. (c.args.number + steps) % n) long in
    let free = free_from (pair_of c.pair_at.result) (sym c.is_free.ensures ∙ c.if-is_free.true) in
    let there = ap (slice_get pairs) same ∙ c.pair_at.ensures ∙ ap (λ pair. Some pair) free in (
      λ wrong. absurd (false≢true wrong),
      λ probed. absurd (not_probed_behind pairs c.args.number c.args.at steps
          (λ comes. c.if-place-at.false (sym same ∙ comes)) there c.loop-steps.invariant probed),
    )

pub loop-steps-preserved : goal.loop-steps-preserved
loop-steps-preserved c =
    let heap = image_heap c.args.image.now in
    let pairs : List Pair = table_pairs heap c.args.table in
    let long = length-table_pairs heap c.args.table c.requires in
    let steps : ℕ = c.loop-steps.steps in
    let same = ap (λ n. (c.args.number + steps) % n) long in
    let here : PassesPair pairs c.args.number c.args.at steps = record {
      elsewhere = λ comes. c.if-place-at.false (sym same ∙ comes);
      filled = λ pair there free.
          let is : pair_of c.pair_at.result ≡ pair =
          same_Some _ _ (sym c.pair_at.ensures ∙ ap (slice_get pairs) (sym same) ∙ there) in
          not_free (pair_of c.pair_at.result) (sym c.is_free.ensures ∙ c.if-is_free.false) (is ∙ free);
    } in
    below_more (λ n. PassesPair pairs c.args.number c.args.at n) steps c.loop-steps.invariant here

pub returns : goal.returns
returns c =
    let heap = image_heap c.args.image.now in
    let pairs : List Pair = table_pairs heap c.args.table in
    let long = length-table_pairs heap c.args.table c.requires in (
      λ wrong. absurd (false≢true wrong),
      λ probed. absurd (not_probed pairs c.args.number c.args.at c.loop-steps.steps
          (omega (arith, long, c.loop-steps-test.false)) c.loop-steps.invariant probed),
    )
