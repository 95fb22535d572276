-- A step comes to the first of the cells ahead, or to the end of their row.
use Rattle.std.proofs.Common.{◌≡◌, ◌≢◌, ℕ, Option, Some, refl, sym, ◌∙◌, ap, subst, arith}
use Rattle.std.proofs.lemmas.Option.{same_Some}
use Rattle.heap_model.specs.Types.{Cell}
use Rattle.write_barrier.specs.Seats.{heap_words}
use Rattle.heap_walk.specs.Walks.{IsNext}
use Rattle.heap_walk.proofs.Steps.{row_goes_on, ends_at_limit, ends_at_zero}
use Rattle.heap_walk.proofs.cells.Cells.next.Goals as goal

pub returns-then-self-clause-over : goal.returns-then-self-clause-over
returns-then-self-clause-over c = λ none row_end cells ahead. ends_at_limit cells ahead (omega (arith, c.if-self.true))

pub returns-then-word-eq0-clause-over : goal.returns-then-word-eq0-clause-over
returns-then-word-eq0-clause-over c = λ none row_end cells ahead.
    ends_at_zero cells ahead (c.word-word.ensures.of_heap ∙ ap (λ (n : ℕ). Some n) c.if-word-eq0.true)

-- no 0 stands where another word was read
counts : {read : Option ℕ} (word : ℕ) → read ≡ Some word → (word ≡ 0 → ⊥) → read ≢ Some 0
counts word is other zero = other (same_Some word 0 (sym is ∙ zero))

pub returns-clause-next : goal.returns-clause-next
returns-clause-next c = λ row_end cells ahead.
    let first = row_goes_on cells ahead (omega (arith, c.if-self.false))
    (counts c.word-word.result c.word-word.ensures.of_heap c.if-word-eq0.false) in
    let Next : Cell → Type 0 = λ cell.
    IsNext c.args.main.now.seat.space (heap_words c.args.main.now.seat) c.args.self.now.at c.args.self.now.limit row_end
    cells cell in
    subst Next (sym (c.known_cell_by-cell.ensures.one first.cell first.is.stands)) first.is

pub returns-clause-steps : goal.returns-clause-steps
returns-clause-steps c =
    let (row_end, cells, ahead) = c.requires.ahead in
    let first = row_goes_on cells ahead (omega (arith, c.if-self.false))
    (counts c.word-word.result c.word-word.ensures.of_heap c.if-word-eq0.false) in
    let size = ap (λ (cell : Cell). cell.size) (c.known_cell_by-cell.ensures.one first.cell first.is.stands) in
    record {
      at = refl;
      some = omega (arith, first.some, size);
      within = omega (arith, first.within, size, ahead.ends.within);
      limit = refl;
    }
