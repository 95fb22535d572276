use Rattle.std.proofs.Common.{Bool, true, false, sym, ◌∙◌, subst, refl}
use Rattle.std.proofs.lemmas.Bool.{false≢true}
use Rattle.heap_model.specs.Images.{image_heap}
use Rattle.heap_check.specs.Elements.{IsElement}
use Rattle.image_walk.proofs.SlotKinds.{value_from, value_to}
use Rattle.heap_check.specs.declared.flaw.Flaw.{Flaw}
use Rattle.heap_check.specs.Cells.{asked_element}
use Rattle.heap_check.specs.Firsts.{IsFirst}
use Rattle.heap_check.specs.SpanFlaws.{BreaksWord}
use Rattle.heap_check.proofs.JoinedFinds.{word_first_is, first_of_word}
use Rattle.heap_check.proofs.lists.flaw_of_value.Goals as goal

pub returns-then-is_value : goal.returns-then-is_value
returns-then-is_value c =
    let heap = image_heap c.args.image.now in
    subst (λ b. IsElement heap b c.args.found) (sym c.if-used.true)
    (value_from heap c.args.found c.referent.result c.referent.ensures (sym c.is_value.ensures ∙ c.if-is_value.true))

pub returns-then-used : goal.returns-then-used
returns-then-used c =
    let heap = image_heap c.args.image.now in
    let word = c.args.found in
    let First : Bool → Type 0 =
    λ b. IsFirst (BreaksWord c.args.at word (IsElement heap b) (asked_element b)) c.slot_flaw.result in
    subst First (sym c.if-used.true)
    (word_first_is c.args.at word (IsElement heap true) (asked_element true) c.slot_flaw.result
    (λ is. false≢true (sym c.if-is_value.false ∙ c.is_value.ensures
    ∙ value_to heap word c.referent.result c.referent.ensures is))
    c.slot_flaw.ensures)

pub returns : goal.returns
returns c =
    let heap = image_heap c.args.image.now in
    let word = c.args.found in
    let flaw : Flaw = record { at = c.args.at; found = word; wanted = c.odd.result.0 } in
    let First : Bool → Type 0 = λ b. IsFirst (BreaksWord c.args.at word (IsElement heap b) (asked_element b)) flaw in
    subst First (sym c.if-used.false)
    (first_of_word c.args.at word (IsElement heap false) (asked_element false) flaw
    (λ is. false≢true (sym c.if-is_hole.false ∙ c.is_hole.ensures.1 is)) refl refl c.odd.ensures)
