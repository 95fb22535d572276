-- The slots of a cell that is not free are moved.
use Rattle.std.proofs.Common.{◌≡◌, true, false, not, refl, sym, ◌∙◌, ap}
use Rattle.std.proofs.lemmas.Bool.{false≢true}
use Rattle.compactor.specs.Sliding.{is_kept}
use Rattle.compactor.proofs.beside.move_slots.Goals as goal

pub returns-then-not-is_free : goal.returns-then-not-is_free
returns-then-not-is_free c =
    let kept : is_kept c.args.cell.now ≡ true = ap not (sym c.is_free.ensures ∙ c.if-not-is_free.true) in
    record { free = λ free. absurd (false≢true (sym free ∙ kept)); kept = λ is. c.copy_cell.ensures }

pub returns-else-not-is_free : goal.returns-else-not-is_free
returns-else-not-is_free c =
    let free : is_kept c.args.cell.now ≡ false = ap not (sym c.is_free.ensures ∙ c.if-not-is_free.false) in
    record { free = λ is. refl; kept = λ kept. absurd (false≢true (sym free ∙ kept)) }
