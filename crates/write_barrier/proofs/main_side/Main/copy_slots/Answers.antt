-- Behind all pages nothing is recorded of the copies.
use Rattle.std.proofs.Common.{◌+◌, ◌≤◌, inl, inr, ℕ, List, sym, ap, subst, ◌∙◌, arith}
use Rattle.std.proofs.lemmas.Bool.{cases_lt, false≢true}
use Rattle.word_store.specs.Copies.{copied}
use Rattle.word_store.proofs.CopiedWords.{length-copied}
use Rattle.write_barrier.specs.MutatorState.{Mutator}
use Rattle.write_barrier.specs.Seats.{Seat, RestStays}
use Rattle.write_barrier.proofs.HeapWords.{stays_beside}
use Rattle.write_barrier.proofs.StoredRanges.{young_stored}
use Rattle.write_barrier.proofs.StretchTouches.{copy_touch}
use Rattle.write_barrier.proofs.main_side.Main.copy_slots.Goals as goal

pub returns-else-covers-clause-beside : goal.returns-else-covers-clause-beside
returns-else-covers-clause-beside c =
    let seat : Seat = c.args.self.now.seat in
    let counted = c.addresses_fit.ensures.heap_counted in
    let words : List ℕ = copied seat.table c.args.from c.args.to c.args.count in
    subst (RestStays seat) (sym (ap (λ (main : Mutator). main.seat) c.copy_behind.ensures.copied))
    (stays_beside seat words (length-copied seat.table c.args.from c.args.to c.args.count
    (omega (arith, counted, c.requires.within)) (omega (arith, counted, c.requires.room))))

pub returns-else-covers-clause-touches : goal.returns-else-covers-clause-touches
returns-else-covers-clause-touches c =
    let old : Mutator = c.args.self.now in
    let counted = c.addresses_fit.ensures.heap_counted in
    let bound = ap (λ (main : Mutator). main.recorded.bound) c.self.view_is in
    let behind : old.recorded.bound ≤ c.args.to = elim (cases_lt c.args.to c.self.inside.remembered.bound) [
      | inl low ↦ absurd (false≢true (sym c.if-covers.false ∙ c.covers.ensures.1 low))
      | inr from ↦ omega (arith, from, bound)
    ] in
    young_stored c.args.to (c.args.to + c.args.count) behind
    (copy_touch {old = old} c.args.from c.args.to c.args.count
    (copied old.seat.table c.args.from c.args.to c.args.count) c.copy_behind.ensures.copied
    c.copy_behind.ensures.heap (omega (arith, counted, c.requires.within)) (omega (arith, counted, c.requires.room)))
