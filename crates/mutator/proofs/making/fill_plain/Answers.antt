-- The header, the slots for a property store and a prototype, and the other slots are put one after another.
use Rattle.std.proofs.Common.{◌≡◌, ◌+◌, ◌∷◌, ℕ, List, sym, ◌∙◌, ap, subst, arith, replicate, length, length-set}
use Rattle.std.specs.Prelude.{slice_set}
use Rattle.std.proofs.lemmas.List.{length-replicate}
use Rattle.tagged_word.specs.Headers.{header_bits}
use Rattle.tagged_word.specs.Cells.{plain_head, proto_slot}
use Rattle.page_space.specs.Extents.{eden_start, marks_start}
use Rattle.heap_model.specs.Remembered.{Touch}
use Rattle.heap_model.specs.Slots.{hole_word, undefined_word}
use Rattle.write_barrier.specs.Seats.{Seat, heap_words}
use Rattle.write_barrier.specs.MutatorState.{Mutator, with_slot}
use Rattle.write_barrier.specs.Recording.{Touches, touched, touched_one}
use Rattle.write_barrier.specs.Values.{with_range}
use Rattle.write_barrier.proofs.PutRanges.{with_range-put}
use Rattle.write_barrier.proofs.Recording.{slot_touch, then_touch}
use Rattle.mutator.specs.Making.{head_touch}
use Rattle.mutator.proofs.PutRows.{PutsTwo, counted_after, head_grows, row_seat, two_counted, two_paths, two_touch}
use Rattle.mutator.proofs.PutRows.{two_bound, two_cycle, two_phase, two_space, two_young, others_wiped}
use Rattle.mutator.proofs.PutRows.{young_may, young_slot_keeps}
use Rattle.mutator.proofs.making.fill_plain.Goals as goal

-- the header and the slot for a store are put
two : (c : goal.After-fill_holes) → PutsTwo c.args.main.now c.set_header.new.self c.store.new.self c.args.at
    (header_bits c.args.header) undefined_word
two c = record {
  one = c.set_header.ensures.written;
  two = c.store.ensures.stored
      ∙ ap (λ (one : ℕ). with_slot c.set_header.new.self (c.args.at + 1) one) c.odd.ensures;
  counted = counted_after c.args.main.now c.set_header.new.self c.args.at (header_bits c.args.header)
      c.set_header.ensures.written c.set_header.ensures.heap c.addresses_fit.ensures.heap_counted;
  within = omega (arith, c.requires.within);
}

-- then that for a prototype
third : (c : goal.After-fill_holes)
    → c.store-2.new.self ≡ with_slot c.store.new.self (c.args.at + proto_slot) undefined_word
third c =
    c.store-2.ensures.stored
    ∙ ap (λ (one : ℕ). with_slot c.store.new.self (c.args.at + proto_slot) one) c.odd-2.ensures

-- there are as many words, and as many addresses before the marks, as before
third_counted : (c : goal.After-fill_holes)
    → (length (heap_words c.store-2.new.self.seat) ≡ marks_start c.store-2.new.self.seat.space)
    × (marks_start c.store-2.new.self.seat.space ≡ marks_start c.args.main.now.seat.space)
third_counted c =
    let next = c.store.new.self in
    let counted = two_counted (two c) in
    let space = ap (λ (now : Mutator). marks_start now.seat.space) (third c) in (
      ap (λ (now : Mutator). length (heap_words now.seat)) (third c)
          ∙ length-set (heap_words next.seat) (c.args.at + proto_slot) undefined_word ∙ counted.0 ∙ sym space,
      space ∙ counted.1,
    )

-- the slots behind them
abbrev holes : goal.After-fill_holes → List ℕ
holes c = replicate c.args.cap hole_word

pub set_header-requires-clause-may_store : goal.set_header-requires-clause-may_store
set_header-requires-clause-may_store c of_page mark =
    let from = c.requires.young mark in absurd (omega (arith, from, of_page))

pub store-requires-clause-may_store : goal.store-requires-clause-may_store
store-requires-clause-may_store c =
    young_may c.args.main.now (ap (λ (now : Mutator). now.seat.space) c.set_header.ensures.written)
    (ap (λ (now : Mutator). now.seat.phase) c.set_header.ensures.written) (omega arith) c.requires.young

pub fill_holes-requires-clause-may_store : goal.fill_holes-requires-clause-may_store
fill_holes-requires-clause-may_store c of_page mark =
    let stored = c.store-2.ensures.stored in
    let space = ap (λ (now : Mutator). eden_start now.seat.space) stored
    ∙ ap (λ (now : Mutator). eden_start now.seat.space) c.store.ensures.stored
    ∙ ap (λ (now : Mutator). eden_start now.seat.space) c.set_header.ensures.written in
    let phase = ap (λ (now : Mutator). now.seat.phase) stored
    ∙ ap (λ (now : Mutator). now.seat.phase) c.store.ensures.stored
    ∙ ap (λ (now : Mutator). now.seat.phase) c.set_header.ensures.written in
    let from = c.requires.young (sym phase ∙ mark) in
    absurd (omega (arith, from, of_page, space))

pub returns-clause-cycle : goal.returns-clause-cycle
returns-clause-cycle c =
    let bounded = c.addresses_fit.ensures.bounded in
    ap (λ (now : Mutator). now.cycle) c.fill_holes.ensures.filled
    ∙ young_slot_keeps c.store.new.self undefined_word (two_bound (two c) bounded) (λ mark.
    let from = c.requires.young (sym (two_phase (two c)) ∙ mark) in
    omega (arith, from, ap eden_start (two_space (two c)))) (third c)
    ∙ two_cycle (two c) bounded c.requires.young

pub returns-clause-filled : goal.returns-clause-filled
returns-clause-filled c =
    let at : ℕ = c.args.at in
    let next : Mutator = c.store.new.self in
    let table : List ℕ = next.seat.table in
    let long : length (holes c) ≡ c.args.cap = length-replicate c.args.cap hole_word in
    let counted = two_counted (two c) in
    let last : c.store-2.new.self.seat
    ≡ record next.seat { table = slice_set table (at + proto_slot) undefined_word } =
    ap (λ (now : Mutator). now.seat) (third c) in
    let behind : at + plain_head ≡ at + proto_slot + 1 = omega arith in
    row_seat (two c) c.fill_holes.new.self (undefined_word ∷ holes c)
    (omega (
      arith,
      long,
      c.requires.within,
      c.addresses_fit.ensures.heap_counted,
    ))
    (ap (λ (now : Mutator). now.seat) c.fill_holes.ensures.filled
    ∙ ap (λ (seat : Seat). record seat { table = with_range seat.table (at + plain_head) (holes c) }) last
    ∙ ap (λ (words : List ℕ). record next.seat { table = words })
    (ap (λ place. with_range (slice_set table (at + proto_slot) undefined_word) place (holes c)) behind
    ∙ with_range-put table (holes c) (at + proto_slot) undefined_word
    (omega (arith, counted.0, counted.1, c.requires.within))))

pub returns-clause-touches : goal.returns-clause-touches
returns-clause-touches c =
    let at : ℕ = c.args.at in
    let cap : ℕ = c.args.cap in
    let next : Mutator = c.store.new.self in
    let last : Mutator = c.store-2.new.self in
    let long : length (holes c) ≡ cap = length-replicate cap hole_word in
    let counted = two_counted (two c) in
    let counted_last = third_counted c in
    let slot : Touches next last (touched_one Touch.Stored (at + 2)) =
    subst (λ (now : Mutator). Touches next now (touched_one Touch.Stored (at + 2))) (sym (third c))
    (slot_touch next (at + 2) undefined_word counted.0 (omega (arith, counted.1, c.requires.within))) in
    let head : Touches c.args.main.now last (head_touch plain_head at) =
    head_grows 2 at (omega arith) (two_touch (two c)) slot in
    let rest : Touches last c.fill_holes.new.self (touched Touch.Wiped (at + plain_head) (at + plain_head + cap)) =
    others_wiped (at + plain_head) (at + plain_head + cap) _ (holes c) (omega (arith, long))
    (omega (arith, counted_last.0, counted_last.1, c.requires.within)) c.fill_holes.ensures.filled
    c.fill_holes.ensures.heap in
    let ends : at + plain_head + cap ≡ at + (plain_head + cap) = omega arith in
    then_touch head
    (subst (λ to. Touches last c.fill_holes.new.self (touched Touch.Wiped (at + plain_head) to)) ends rest)

pub returns-clause-paths : goal.returns-clause-paths
returns-clause-paths c =
    ap (λ (now : Mutator). now.paths) c.fill_holes.ensures.filled ∙ ap (λ (now : Mutator). now.paths) (third c)
    ∙ two_paths (two c)

pub returns-clause-young : goal.returns-clause-young
returns-clause-young c =
    ap (λ (now : Mutator). now.young) c.fill_holes.ensures.filled ∙ ap (λ (now : Mutator). now.young) (third c)
    ∙ two_young (two c)
