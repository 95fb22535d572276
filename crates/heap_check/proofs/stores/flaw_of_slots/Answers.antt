use Rattle.std.proofs.Common.{ℕ, sym, ◌∙◌, arith, get_or}
use Rattle.std.proofs.lemmas.Bool.{false≢true}
use Rattle.heap_model.specs.Images.{image_heap}
use Rattle.heap_model.specs.Slots.{IsSlotWord}
use Rattle.image_walk.proofs.SlotKinds.{slot_from, slot_to}
use Rattle.heap_check.specs.Firsts.{asked_of}
use Rattle.heap_check.proofs.JoinedFinds.{first_in_span, word_first_is, read_there, fit_more, fit_all}
use Rattle.heap_check.proofs.stores.flaw_of_slots.Goals as goal

pub loop-at-preserved : goal.loop-at-preserved
loop-at-preserved c =
    let heap = image_heap c.args.image.now in
    let read = c.as_slice.result.now in
    fit_more heap c.args.span (λ at word. IsSlotWord heap word) read c.loop-at.at c.as_slice.ensures c.loop-at.invariant
    (slot_from heap (get_or read c.loop-at.at 0) c.referent.result c.referent.ensures
    (sym c.is_slot.ensures ∙ c.if-not-is_slot.false))

pub returns-then-not-is_slot : goal.returns-then-not-is_slot
returns-then-not-is_slot c =
    let heap = image_heap c.args.image.now in
    let read = c.as_slice.result.now in
    let at : ℕ = c.loop-at.at in
    let word : ℕ = get_or read at 0 in
    first_in_span heap c.args.span (λ at word. IsSlotWord heap word) (λ at word. asked_of word) at word
    c.slot_flaw.result (omega arith) (omega arith)
    (read_there heap.words read at c.as_slice.ensures (omega (arith, c.requires.is.within))) c.loop-at.invariant
    (word_first_is at word (IsSlotWord heap) (λ word. asked_of word) c.slot_flaw.result
    (λ is. false≢true (sym c.if-not-is_slot.true ∙ c.is_slot.ensures
    ∙ slot_to heap word c.referent.result c.referent.ensures is))
    c.slot_flaw.ensures)

pub returns : goal.returns
returns c =
    let heap = image_heap c.args.image.now in
    fit_all heap c.args.span (λ at word. IsSlotWord heap word) c.loop-at.at (omega arith) c.loop-at.invariant
