-- A cell is passed by: it stays, or waits with those before it or alone.
use Rattle.std.proofs.Common.{sym, ◌∙◌, arith}
use Rattle.std.proofs.lemmas.Bool.{false≢true}
use Rattle.sweeper.proofs.RowSteps.{waits_to, same_roots, roots_below_marks}
use Rattle.sweeper.proofs.PassedCells.{passed_below_roots, passed_words, marked_passed, dead_waits, dead_begins}
use Rattle.sweeper.proofs.rows.pass.Goals as goal

pub overflow_add-behind : goal.overflow_add-behind
overflow_add-behind c =
    let may = c.requires.may.4 in
    omega (
      arith,
      passed_below_roots may,
      same_roots may.in_row,
      roots_below_marks may.in_row,
      c.addresses_fit.ensures.fit,
    )

pub contains-requires : goal.contains-requires
contains-requires c =
    let may = c.requires.may.4 in
    omega (arith, passed_below_roots may, (passed_words may).0, same_roots may.in_row, c.requires.bound)

pub returns-then-contains : goal.returns-then-contains
returns-then-contains c first start end limit may =
    marked_passed may (c.contains.ensures.0 c.if-contains.true)
    (c.end_stretch.ensures first c.args.marked.now.addresses start end limit may.in_row)

pub overflow_sub-behind : goal.overflow_sub-behind
overflow_sub-behind c =
    let may = c.requires.may.4 in
    omega (arith, waits_to may.in_row)

pub returns-then-behind-from-gt-PAGE_WORDS : goal.returns-then-behind-from-gt-PAGE_WORDS
returns-then-behind-from-gt-PAGE_WORDS c first start end limit may =
    dead_begins may (λ there. false≢true (sym c.if-contains.false ∙ c.contains.ensures.1 there))
    (omega (arith, c.if-behind-from-gt-PAGE_WORDS.true))
    (c.end_stretch-then-behind-from-gt-PAGE_WORDS.ensures first c.args.marked.now.addresses start end limit may.in_row)

pub returns : goal.returns
returns c first start end limit may =
    dead_waits may (λ there. false≢true (sym c.if-contains.false ∙ c.contains.ensures.1 there))
    (omega (arith, c.if-behind-from-gt-PAGE_WORDS.false))
