use Rattle.std.proofs.Common.{◌≡◌, refl, sym, ◌∙◌}
use Rattle.std.proofs.lemmas.Bool.{false≢true}
use Rattle.heap_model.specs.Slots.{hole_word}
use Rattle.heap_check.proofs.JoinedFinds.{first_of_word}
use Rattle.heap_check.proofs.entries.flaw_of_none.Goals as goal

pub returns : goal.returns
returns c =
    first_of_word c.args.at c.args.found (λ word. word ≡ hole_word) (λ word. hole_word)
    (record { at = c.args.at; found = c.args.found; wanted = c.odd.result.0 })
    (λ is. false≢true (sym c.if-is_hole.false ∙ c.is_hole.ensures.1 is)) refl refl c.odd.ensures
