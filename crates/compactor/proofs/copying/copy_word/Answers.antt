-- A slot is stored, moved; any other word is written as it was.
use Rattle.std.proofs.Common.{ℕ, ◌+◌, sym, ◌∙◌, ap, arith}
use Rattle.std.proofs.lemmas.Bool.{false≢true}
use Rattle.write_barrier.specs.MutatorState.{with_slot}
use Rattle.compactor.proofs.Copied.{slot_copied, raw_copied}
use Rattle.compactor.proofs.copying.copy_word.Goals as goal

pub store-requires-clause-may_store : goal.store-requires-clause-may_store
store-requires-clause-may_store c page mark = absurd (c.requires.quiet mark)

pub returns-then-is_scavenge_slot : goal.returns-then-is_scavenge_slot
returns-then-is_scavenge_slot c =
    slot_copied c.requires.quiet c.addresses_fit.ensures.heap_counted
    (omega (arith, c.requires.front, c.requires.within)) c.slot-word.ensures.of_heap
    (c.is_scavenge_slot.ensures.0 c.if-is_scavenge_slot.true)
    (c.store.ensures.stored
    ∙ ap (λ (word : ℕ). with_slot c.args.main.now (c.args.to + c.args.offset) word) c.moved.ensures)

pub write_slot-requires-clause-may_store : goal.write_slot-requires-clause-may_store
write_slot-requires-clause-may_store c page mark = absurd (c.requires.quiet mark)

pub returns-else-is_scavenge_slot : goal.returns-else-is_scavenge_slot
returns-else-is_scavenge_slot c =
    raw_copied c.requires.quiet c.addresses_fit.ensures.heap_counted
    (omega (arith, c.requires.front, c.requires.within)) c.slot-word.ensures.of_heap
    (λ slot. false≢true (sym c.if-is_scavenge_slot.false ∙ c.is_scavenge_slot.ensures.1 slot))
    c.write_slot.ensures.written
