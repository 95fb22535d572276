use Rattle.std.proofs.Common.{◌≡◌, ℕ, inl, inr, Some, slice_get, slice_index_or, length, ap, refl, ◌∙◌, subst, arith}
use Rattle.std.proofs.lemmas.Bool.{cases_lt}
use Rattle.heap_model.specs.Images.{image_heap}
use Rattle.heap_check.proofs.WordsRead.{read_at}
use Rattle.heap_check.proofs.RowFlaws.{blank_first}
use Rattle.heap_check.proofs.rows.flaw_of_blank.Goals as goal

pub returns-then-found-ne0 : goal.returns-then-found-ne0
returns-then-found-ne0 c =
    let at = c.loop-at.at in
    let read = c.as_slice.result.now in
    blank_first (image_heap c.args.image.now) c.args.from c.args.end
    (record { at = at; found = slice_index_or read at 0; wanted = 0 })
    c.loop-at.auto.at c.loop-at-test.true
    (read_at c.args.image.now.words read at at c.as_slice.ensures refl
    (omega (arith, ap length c.as_slice.ensures, c.requires, c.loop-at-test.true)))
    c.if-found-ne0.true refl c.loop-at.invariant

pub loop-at-preserved : goal.loop-at-preserved
loop-at-preserved c place from below = elim (cases_lt place c.loop-at.at) [
  | inl before ↦ c.loop-at.invariant place from before
  | inr here ↦
      let at : ℕ = c.loop-at.at in
      let same : at ≡ place = omega arith in
      let read = c.as_slice.result.now in
      subst (λ (one : ℕ). slice_get c.args.image.now.words one ≡ Some 0) same
      (read_at c.args.image.now.words read at at c.as_slice.ensures refl
      (omega (arith, ap length c.as_slice.ensures, c.requires, c.loop-at-test.true))
      ∙ ap (λ (word : ℕ). Some word) c.if-found-ne0.false)
]
