-- The pairs of a table are gone through by their places.
use Rattle.std.proofs.Common.{◌≡◌, ℕ, ◌+◌, ◌*◌, ◌<◌, ◌∙◌, sym, subst, arith}
use Rattle.tagged_word.specs.declared.layout.Kind.TheVariants as kind
use Rattle.heap_model.specs.Types.{Cell}
use Rattle.heap_model.proofs.CellsApart.{one_at}
use Rattle.write_barrier.specs.MutatorState.{heap_of}
use Rattle.ephemeron_mark.specs.Progress.{HoldsReference}
use Rattle.ephemeron_mark.proofs.GrownLists.{grows_nothing, grows_again, stays_marked}
use Rattle.ephemeron_mark.proofs.KindTests.{is_kind, is_no_kind}
use Rattle.ephemeron_mark.proofs.PairSlots.{key_at, value_at, pairs_fit, pair_of_table, entry_at}
use Rattle.ephemeron_mark.proofs.WaitingKeys.{waits_no_more, waits_again, next_pair}
use Rattle.ephemeron_mark.proofs.ephemerons.mark_pairs.Goals as goal

pub returns-then-ne-clause-grown : goal.returns-then-ne-clause-grown
returns-then-ne-clause-grown c = grows_nothing c.requires.marking

pub returns-then-ne-clause-pairs : goal.returns-then-ne-clause-pairs
returns-then-ne-clause-pairs c key value entry =
    let same : entry.cell ≡ c.args.cell.now = one_at entry.has c.requires.stands.1 entry.stands in
    absurd (is_no_kind c.args.cell.now.layout.kind kind.Table (sym c.if-ne.true ∙ c.ne.ensures)
    (subst (λ (one : Cell). one.layout.kind ≡ kind.Table) same entry.of_kind))

pub loop-pair-init : goal.loop-pair-init
loop-pair-init c = record {
  grown = grows_nothing c.requires.marking;
  waits = c.requires.waits;
  more = waits_no_more;
  pairs = λ place key value below at. absurd (omega (arith, below));
}

pub overflow_cast-pair-end : goal.overflow_cast-pair-end
overflow_cast-pair-end c =
    let of_kind = is_kind c.args.cell.now.layout.kind kind.Table (sym c.if-ne.false ∙ c.ne.ensures) in
    omega (arith, pairs_fit c.requires.stands.1 of_kind c.requires.marking.whole c.addresses_fit.ensures.fit)

pub overflow_add-cell : goal.overflow_add-cell
overflow_add-cell c =
    let of_kind = is_kind c.args.cell.now.layout.kind kind.Table (sym c.if-ne.false ∙ c.ne.ensures) in
    omega (arith, pairs_fit c.requires.stands.1 of_kind c.requires.marking.whole c.addresses_fit.ensures.fit)

pub overflow_mul-pair : goal.overflow_mul-pair
overflow_mul-pair c =
    let of_kind = is_kind c.args.cell.now.layout.kind kind.Table (sym c.if-ne.false ∙ c.ne.ensures) in
    omega (
      arith,
      pairs_fit c.requires.stands.1 of_kind c.requires.marking.whole c.addresses_fit.ensures.fit,
      c.loop-pair-test.true,
    )

pub overflow_add-cell-in-loop-pair : goal.overflow_add-cell-in-loop-pair
overflow_add-cell-in-loop-pair c =
    let of_kind = is_kind c.args.cell.now.layout.kind kind.Table (sym c.if-ne.false ∙ c.ne.ensures) in
    omega (
      arith,
      pairs_fit c.requires.stands.1 of_kind c.requires.marking.whole c.addresses_fit.ensures.fit,
      c.loop-pair-test.true,
    )

pub mark_pair-requires-clause-pair : goal.mark_pair-requires-clause-pair
mark_pair-requires-clause-pair c =
    let of_kind = is_kind c.args.cell.now.layout.kind kind.Table (sym c.if-ne.false ∙ c.ne.ensures) in
    let marked = stays_marked c.args.cell.now.at c.loop-pair.invariant.grown c.requires.marked in
    let below : c.loop-pair.pair < c.args.cell.now.length = omega (arith, c.loop-pair-test.true) in
    pair_of_table c.requires.stands.1 of_kind c.loop-pair.cells c.loop-pair.pair
    (c.args.cell.now.at + 2 + 2 * c.loop-pair.pair) c.requires.marking.whole marked below (omega arith)

pub loop-pair-preserved : goal.loop-pair-preserved
loop-pair-preserved c =
    let heap = heap_of c.args.main.now in
    let cell : Cell = c.args.cell.now in
    let pair : ℕ = c.loop-pair.pair in
    let invariant = c.loop-pair.invariant in
    let grown = c.mark_pair.ensures.grown in
    let here : key_at cell pair ≡ cell.at + 2 + 2 * pair = omega arith in
    let next : value_at cell pair ≡ cell.at + 2 + 2 * pair + 1 = omega arith in
    record {
      grown = grows_again invariant.grown grown;
      waits = c.mark_pair.ensures.waits;
      more = waits_again invariant.grown invariant.more c.mark_pair.ensures.more;
      pairs = next_pair grown cell pair c.mark_pair.ensures.more.kept invariant.pairs
          (λ key value at. c.mark_pair.ensures.done key value
          (subst (λ (one : ℕ). HoldsReference heap one key) here at.refers)
          (subst (λ (one : ℕ). HoldsReference heap one value) next at.value_refers));
    }

pub returns-clause-pairs : goal.returns-clause-pairs
returns-clause-pairs c key value entry =
    let of_kind = is_kind c.args.cell.now.layout.kind kind.Table (sym c.if-ne.false ∙ c.ne.ensures) in
    let at = entry_at c.requires.stands.1 of_kind key value entry in
    let below = at.below in
    c.loop-pair.invariant.pairs entry.place key value
    (omega (arith, below, c.loop-pair-test.false, c.loop-pair.auto.pair-end)) at
