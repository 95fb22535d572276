-- The three words are put one by one.
use Rattle.std.proofs.Common.{◌≡◌, ◌+◌, List, ℕ, slice_set, sym, ◌∙◌, ap, subst, arith}
use Rattle.tagged_word.specs.Headers.{header_bits}
use Rattle.heap_model.specs.Remembered.{Touch}
use Rattle.heap_model.specs.Slots.{undefined_word}
use Rattle.write_barrier.specs.Seats.{Seat, heap_words}
use Rattle.write_barrier.specs.MutatorState.{Mutator, with_slot}
use Rattle.write_barrier.specs.Recording.{Touches, touched}
use Rattle.write_barrier.proofs.Recording.{then_touch, word_touch}
use Rattle.mutator.proofs.PutRows.{PutsTwo, counted_after, two_touch, two_counted, two_cycle, two_paths, two_seat}
use Rattle.mutator.proofs.PutRows.{two_young, young_may}
use Rattle.mutator.proofs.PutWords.{three_in_a_row}
use Rattle.mutator.proofs.making.fill_counted.Goals as goal

-- the header and the slot for a store or table are put
two : (c : goal.After-write_slot) → PutsTwo c.args.main.now c.set_header.new.self c.store.new.self c.args.at
    (header_bits c.args.header) undefined_word
two c = record {
  one = c.set_header.ensures.written;
  two = c.store.ensures.stored
      ∙ ap (λ (one : ℕ). with_slot c.set_header.new.self (c.args.at + 1) one) c.odd.ensures;
  counted = counted_after c.args.main.now c.set_header.new.self c.args.at (header_bits c.args.header)
      c.set_header.ensures.written c.set_header.ensures.heap c.addresses_fit.ensures.heap_counted;
  within = omega (arith, c.requires.within);
}

pub set_header-requires-clause-may_store : goal.set_header-requires-clause-may_store
set_header-requires-clause-may_store c of_page mark =
    let from = c.requires.young mark in absurd (omega (arith, from, of_page))

pub store-requires-clause-may_store : goal.store-requires-clause-may_store
store-requires-clause-may_store c =
    young_may c.args.main.now (ap (λ (now : Mutator). now.seat.space) c.set_header.ensures.written)
    (ap (λ (now : Mutator). now.seat.phase) c.set_header.ensures.written) (omega arith) c.requires.young

pub write_slot-requires-clause-may_store : goal.write_slot-requires-clause-may_store
write_slot-requires-clause-may_store c =
    young_may c.args.main.now
    (ap (λ (now : Mutator). now.seat.space) c.store.ensures.stored
    ∙ ap (λ (now : Mutator). now.seat.space) c.set_header.ensures.written)
    (ap (λ (now : Mutator). now.seat.phase) c.store.ensures.stored
    ∙ ap (λ (now : Mutator). now.seat.phase) c.set_header.ensures.written) (omega arith) c.requires.young

pub returns-clause-filled : goal.returns-clause-filled
returns-clause-filled c =
    let main = c.args.main.now in
    let at = c.args.at in
    let space = main.seat.space in
    let header = header_bits c.args.header in
    ap (λ (now : Mutator). now.seat) c.write_slot.ensures.written
    ∙ ap (λ (seat : Seat). record seat { table = slice_set seat.table (at + 2) 0 }) (two_seat (two c))
    ∙ ap (λ (table : List ℕ). record main.seat { table = table })
    (three_in_a_row main.seat.table at header undefined_word 0
    (omega (
      arith,
      c.requires.within,
      c.addresses_fit.ensures.heap_counted,
    )))

pub returns-clause-heap : goal.returns-clause-heap
returns-clause-heap c =
    let main = c.args.main.now in
    let at = c.args.at in
    let header = header_bits c.args.header in
    let odd : c.odd.result.0 ≡ undefined_word = c.odd.ensures in
    c.write_slot.ensures.heap
    ∙ ap (λ (words : List ℕ). slice_set words (at + 2) 0)
    (c.store.ensures.heap
    ∙ ap (λ (words : List ℕ). slice_set words (at + 1) c.odd.result.0) c.set_header.ensures.heap
    ∙ ap (λ (word : ℕ). slice_set (slice_set (heap_words main.seat) at header) (at + 1) word) odd)
    ∙ three_in_a_row (heap_words main.seat) at header undefined_word 0
    (omega (arith, c.requires.within, c.addresses_fit.ensures.heap_counted))

pub returns-clause-touches : goal.returns-clause-touches
returns-clause-touches c =
    let at = c.args.at in
    let next = c.store.new.self in
    let counted = two_counted (two c) in
    let third : Touches next c.write_slot.new.self (touched Touch.Wiped (at + 2) (at + 2 + 1)) =
    subst (λ (now : Mutator). Touches next now (touched Touch.Wiped (at + 2) (at + 2 + 1)))
    (sym c.write_slot.ensures.written) (word_touch next (at + 2) 0 (omega (arith, counted.1, c.requires.within))) in
    let ends : at + 2 + 1 ≡ at + 3 = omega arith in
    then_touch (two_touch (two c))
    (subst (λ to. Touches next c.write_slot.new.self (touched Touch.Wiped (at + 2) to)) ends third)

pub returns-clause-paths : goal.returns-clause-paths
returns-clause-paths c =
    ap (λ (now : Mutator). now.paths) c.write_slot.ensures.written
    ∙ two_paths (two c)

pub returns-clause-cycle : goal.returns-clause-cycle
returns-clause-cycle c =
    ap (λ (now : Mutator). now.cycle) c.write_slot.ensures.written
    ∙ two_cycle (two c) c.addresses_fit.ensures.bounded c.requires.young

pub returns-clause-young : goal.returns-clause-young
returns-clause-young c =
    ap (λ (now : Mutator). now.young) c.write_slot.ensures.written
    ∙ two_young (two c)
