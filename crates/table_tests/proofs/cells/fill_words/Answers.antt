-- One word more is put after each turn.
use Rattle.std.proofs.Common.{◌≡◌, ◌∙◌, ◌<◌, ℕ, List, length, refl, ap, sym, arith}
use Rattle.mark_laws.specs.Types.{Spot}
use Rattle.shared_table.specs.declared.phase.Phase.TheVariants.{Quiet}
use Rattle.shared_table.specs.Seats.{Side}
use Rattle.shared_table.specs.Spots.{with_spot}
use Rattle.table_tests.proofs.Filled.{filled_all, filled_more, with_words}
use Rattle.table_tests.proofs.cells.fill_words.Goals as goal

pub loop-a-init : goal.loop-a-init
loop-a-init c = refl

pub store_owned-requires-clause-may : goal.store_owned-requires-clause-may
store_owned-requires-clause-may c = λ marks.
    let quiet : c.loop-a.side.main.phase ≡ Quiet =
    ap (λ (v : Side). v.main.phase) c.loop-a.invariant ∙ c.requires.bare.phase in
    absurd cc

pub store_owned-requires-clause-within : goal.store_owned-requires-clause-within
store_owned-requires-clause-within c =
    omega (arith, ap (λ (v : Side). v.main.old) c.loop-a.invariant, c.counts-counts.ensures.old, c.loop-a-test.true)

pub loop-a-preserved : goal.loop-a-preserved
loop-a-preserved c =
    let entry : Side = c.args.side.now in
    let a : ℕ = c.loop-a.a in
    let words : List ℕ = c.args.words.now in
    let inside : a < length words = omega (
      arith,
      c.counts-counts.ensures.old,
      c.requires.count,
      c.loop-a-test.true,
    ) in
    let same : length words ≡ length entry.main.words = c.requires.count ∙ sym c.counts-counts.ensures.words in
    c.store_owned.ensures.put ∙ ap (λ (v : Side). record v { main = with_spot v.main (Spot.Heap a) c.word_at.result })
    c.loop-a.invariant
    ∙ ap (λ (ws : List ℕ). record entry { main = record entry.main { words = ws } })
    (filled_more a words entry.main.words c.word_at.result c.word_at.ensures inside same)

pub returns : goal.returns
returns c =
    let entry : Side = c.args.side.now in
    let words : List ℕ = c.args.words.now in
    let end : c.loop-a.a ≡ length words = omega (
      arith,
      c.counts-counts.ensures.old,
      c.requires.count,
      c.loop-a-test.false,
      c.loop-a.auto.a-end,
    ) in
    let same : length words ≡ length entry.main.words = c.requires.count ∙ sym c.counts-counts.ensures.words in
    c.loop-a.invariant
    ∙ ap (λ (i : ℕ). with_words i words entry) end
    ∙ ap (λ (ws : List ℕ). record entry { main = record entry.main { words = ws } })
    (filled_all words entry.main.words same)
