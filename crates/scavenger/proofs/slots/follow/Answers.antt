-- A slot that is live in a scavenge is followed: it refers to nothing that is left, or comes to refer to a home.
use Rattle.std.proofs.Common.{◌≡◌, ◌+◌, ◌<◌, ◌∙◌, ℕ, slice_set, sym, subst, arith}
use Rattle.page_space.specs.Extents.{Space, marks_start}
use Rattle.write_barrier.specs.Seats.{heap_words}
use Rattle.write_barrier.specs.MutatorState.{with_slot}
use Rattle.scavenger.specs.Following.{IsFromSpace}
use Rattle.scavenger.proofs.CodeStores.{moved_follows}
use Rattle.scavenger.proofs.LoopTargets.{refers_by, refers_nowhere, passed, failed, slot_before_marks, left_at_start}
use Rattle.scavenger.proofs.LoopMoves.{done_already}
use Rattle.scavenger.proofs.slots.follow.Goals as goal

pub word-requires : goal.word-requires
word-requires c =
    let may = c.requires.spaces.2 in
    slot_before_marks may.scavenging c.args.slot may.place may.stood c.addresses_fit.ensures.heap_counted

pub returns-in_default-clause-followed : goal.returns-in_default-clause-followed
returns-in_default-clause-followed c start handed all front state place are stood =
    let words = heap_words c.args.main.now.seat in
    let none = refers_nowhere words c.args.slot c.word.result c.word.ensures.of_heap c.in_default.ensures in
    done_already c.args.slot state (λ cell says left. absurd cc)

pub returns-then-not-are_left-clause-followed : goal.returns-then-not-are_left-clause-followed
returns-then-not-are_left-clause-followed c start handed all front state place are stood =
    let main = c.args.main.now in
    let refers = refers_by (heap_words main.seat) c.args.slot c.word.result c.in-Some.at c.word.ensures.of_heap
    c.in-Some.ensures in
    let not_left : IsFromSpace main.seat.space main.young.half c.in-Some.at → ⊥ =
    failed c.are_left.result c.if-not-are_left.true (c.are_left.ensures main.seat.space main.young.half all are) in
    done_already c.args.slot state (λ cell says left.
    let same : cell ≡ c.in-Some.at = cc in
    not_left (subst (IsFromSpace main.seat.space main.young.half) same left))

pub home_of-home-requires-clause-spaces : goal.home_of-home-requires-clause-spaces
home_of-home-requires-clause-spaces c =
    let main = c.args.main.now in
    let may = c.requires.spaces.2 in (
      c.requires.spaces.0,
      c.requires.spaces.1,
      record {
        slot = c.args.slot;
        may = may;
        refers = refers_by (heap_words main.seat) c.args.slot c.word.result c.in-Some.at c.word.ensures.of_heap
            c.in-Some.ensures;
        left = passed c.are_left.result c.if-not-are_left.false
            (c.are_left.ensures main.seat.space main.young.half c.requires.spaces.0 c.requires.spaces.1);
      },
    )

pub store-requires-clause-may_store : goal.store-requires-clause-may_store
store-requires-clause-may_store c =
    let main = c.args.main.now in
    let may = c.requires.spaces.2 in
    let refers = refers_by (heap_words main.seat) c.args.slot c.word.result c.in-Some.at c.word.ensures.of_heap
    c.in-Some.ensures in
    let left : IsFromSpace main.seat.space main.young.half c.in-Some.at =
    passed c.are_left.result c.if-not-are_left.false
    (c.are_left.ensures main.seat.space main.young.half c.requires.spaces.0 c.requires.spaces.1) in
    let moved = c.home_of-home.ensures.moved may.start may.handed c.requires.spaces.0 may.front may.scavenging
    c.args.slot
    may.place c.requires.spaces.1 may.stood refers left in
    λ page mark. absurd (moved.on.next.quiet mark)

pub store-requires-clause-within : goal.store-requires-clause-within
store-requires-clause-within c =
    let main = c.args.main.now in
    let may = c.requires.spaces.2 in
    let refers = refers_by (heap_words main.seat) c.args.slot c.word.result c.in-Some.at c.word.ensures.of_heap
    c.in-Some.ensures in
    let left : IsFromSpace main.seat.space main.young.half c.in-Some.at =
    passed c.are_left.result c.if-not-are_left.false
    (c.are_left.ensures main.seat.space main.young.half c.requires.spaces.0 c.requires.spaces.1) in
    let moved = c.home_of-home.ensures.moved may.start may.handed c.requires.spaces.0 may.front may.scavenging
    c.args.slot
    may.place c.requires.spaces.1 may.stood refers left in
    let counted = c.addresses_fit.ensures.heap_counted in
    let before = slot_before_marks may.scavenging c.args.slot may.place may.stood counted in
    let same = moved.on.next.changes.seat.space ∙ sym may.scavenging.changes.seat.space in
    subst (λ (space : Space). c.args.slot + 0 < marks_start space) (sym same) (omega (arith, before))

pub returns-clause-followed : goal.returns-clause-followed
returns-clause-followed c start handed all front state place are stood =
    let main = c.args.main.now in
    let refers = refers_by (heap_words main.seat) c.args.slot c.word.result c.in-Some.at c.word.ensures.of_heap
    c.in-Some.ensures in
    let left : IsFromSpace main.seat.space main.young.half c.in-Some.at =
    passed c.are_left.result c.if-not-are_left.false (c.are_left.ensures main.seat.space main.young.half all are) in
    let moved = c.home_of-home.ensures.moved start handed all front state c.args.slot place are stood refers left in
    let before = slot_before_marks state c.args.slot place stood c.addresses_fit.ensures.heap_counted in
    let same = moved.on.next.changes.seat.space ∙ sym state.changes.seat.space in
    let back : c.args.slot + 0 ≡ c.args.slot = omega arith in
    moved_follows c.in-Some.at c.home_of-home.result c.reference.result.0 c.args.slot place moved stood refers
    (left_at_start state c.in-Some.at left)
    (subst (λ (at : ℕ). c.store.new.self ≡ with_slot c.home_of-home.new.main at c.reference.result.0) back
    c.store.ensures.stored)
    (subst (λ (at : ℕ). heap_words c.store.new.self.seat
    ≡ slice_set (heap_words c.home_of-home.new.main.seat) at c.reference.result.0) back c.store.ensures.heap)
    c.reference.ensures (subst (λ (space : Space). c.args.slot < marks_start space) (sym same) before)
