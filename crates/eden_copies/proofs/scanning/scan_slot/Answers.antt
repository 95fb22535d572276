-- The word that is read is the one of before.
use Rattle.std.proofs.Common.{◌≡◌, ◌∙◌, ℕ, ◌++◌, ◌∷◌, [], true, false, sym, ap, subst}
use Rattle.std.proofs.lemmas.Option.{get_or_from_slice_get}
use Rattle.eden_copies.specs.Eden.{word_at}
use Rattle.eden_copies.specs.Sides.{WorkerSide}
use Rattle.eden_copies.specs.Steps.{MayFollow}
use Rattle.eden_copies.proofs.CopySteps.{slot_scanned}
use Rattle.eden_copies.proofs.scanning.scan_slot.Goals as goal

pub follow-now-requires-clause-may : goal.follow-now-requires-clause-may
follow-now-requires-clause-may g c =
    let own = c.args.words.now in
    let is : word_at own c.args.from ≡ c.word-word.result =
    get_or_from_slice_get own.words c.args.from c.word-word.result 0 c.word-word.ensures.of_heap in
    subst (λ (word : ℕ). MayFollow own c.args.worker.now c.args.seat.now word) is c.requires.may

pub returns-then-refers_to_survivor : goal.returns-then-refers_to_survivor
returns-then-refers_to_survivor g c =
    slot_scanned c.args.words.now c.args.worker.now c.follow-now.new.worker c.leave.new.self c.args.seat.now
    c.follow-now.new.seat c.args.from c.args.to c.word-word.result c.follow-now.result true
    (get_or_from_slice_get c.args.words.now.words c.args.from c.word-word.result 0 c.word-word.ensures.of_heap)
    c.follow-now.ensures (sym c.refers_to_survivor.ensures ∙ c.if-refers_to_survivor.true)
    (c.leave.ensures
    ∙ ap (λ (side : WorkerSide). record side { left = side.left ++ c.args.to ∷ [] }) c.put.ensures)

pub returns-else-refers_to_survivor : goal.returns-else-refers_to_survivor
returns-else-refers_to_survivor g c =
    slot_scanned c.args.words.now c.args.worker.now c.follow-now.new.worker c.put.new.self c.args.seat.now
    c.follow-now.new.seat c.args.from c.args.to c.word-word.result c.follow-now.result false
    (get_or_from_slice_get c.args.words.now.words c.args.from c.word-word.result 0 c.word-word.ensures.of_heap)
    c.follow-now.ensures (sym c.refers_to_survivor.ensures ∙ c.if-refers_to_survivor.false) c.put.ensures
