-- A pair of which both words refer to cells is an entry of its table, so both stand before the roots.
use Rattle.std.proofs.Common.{ℕ, ◌+◌, inl, inr, Contains, sym, ◌∙◌, subst, arith}
use Rattle.std.proofs.lemmas.Bool.{false≢true}
use Rattle.write_barrier.specs.MutatorState.{heap_of}
use Rattle.ephemeron_mark.specs.Pairs.{WaitsFor}
use Rattle.ephemeron_mark.proofs.LiveStands.{refers_as_read, refers_to_one, before_marks}
use Rattle.ephemeron_mark.proofs.GrownLists.{grows_nothing, pushed_is_marked}
use Rattle.ephemeron_mark.proofs.WaitingKeys.{waiting_stays, waits_for_one}
use Rattle.ephemeron_mark.proofs.ReadPairs.{read_pair, no_key, no_value}
use Rattle.ephemeron_mark.proofs.ephemerons.mark_pair.Goals as goal

pub word-requires : goal.word-requires
word-requires c =
    omega (arith, before_marks c.args.main.now.seat.space (c.args.at + 1) c.requires.pair.within)

pub returns-in_default-clause-done : goal.returns-in_default-clause-done
returns-in_default-clause-done c key value refers value_refers =
    absurd (no_key c.requires.marking c.requires.pair c.word.result key value c.addresses_fit.ensures.fit
    c.word.ensures.of_heap (sym c.address.ensures ∙ c.in_default.is) refers value_refers)

pub slot-requires : goal.slot-requires
slot-requires c = before_marks c.args.main.now.seat.space (c.args.at + 1) c.requires.pair.within

pub returns-in_default-address-clause-done : goal.returns-in_default-address-clause-done
returns-in_default-address-clause-done c key value refers value_refers =
    absurd (no_value c.requires.marking c.requires.pair c.slot.result key value c.addresses_fit.ensures.fit
    c.slot.ensures.of_heap (sym c.address-2.ensures ∙ c.in_default-address.is) refers value_refers)

pub contains-requires : goal.contains-requires
contains-requires c =
    let pair = read_pair c.requires.marking c.requires.pair c.word.result c.slot.result c.in-Some.key
    c.in-Some-address.value c.word.ensures.of_heap (sym c.address.ensures ∙ c.in-Some.is) c.slot.ensures.of_heap
    (sym c.address-2.ensures ∙ c.in-Some-address.is) in
    omega (arith, pair.key_below, c.requires.marking.bound)

pub push-requires : goal.push-requires
push-requires c =
    let pair = read_pair c.requires.marking c.requires.pair c.word.result c.slot.result c.in-Some.key
    c.in-Some-address.value c.word.ensures.of_heap (sym c.address.ensures ∙ c.in-Some.is) c.slot.ensures.of_heap
    (sym c.address-2.ensures ∙ c.in-Some-address.is) in
    omega (arith, pair.value_below, c.requires.marking.bound)

pub overflow_add-at : goal.overflow_add-at
overflow_add-at c =
    omega (
      arith,
      before_marks c.args.main.now.seat.space (c.args.at + 1) c.requires.pair.within,
      c.addresses_fit.ensures.fit,
    )

pub add-requires-clause-key : goal.add-requires-clause-key
add-requires-clause-key c =
    let pair = read_pair c.requires.marking c.requires.pair c.word.result c.slot.result c.in-Some.key
    c.in-Some-address.value c.word.ensures.of_heap (sym c.address.ensures ∙ c.in-Some.is) c.slot.ensures.of_heap
    (sym c.address-2.ensures ∙ c.in-Some-address.is) in
    omega (arith, pair.key_below, c.requires.waits.bound)

pub add-requires-clause-one : goal.add-requires-clause-one
add-requires-clause-one c other waits_for =
    let refers = refers_as_read (heap_of c.args.main.now) c.args.at c.word.result c.in-Some.key
    c.word.ensures.of_heap (sym c.address.ensures ∙ c.in-Some.is) in
    waits_for_one c.args.at c.in-Some.key other c.requires.waits refers waits_for

pub returns-then-contains-clause-grown : goal.returns-then-contains-clause-grown
returns-then-contains-clause-grown c =
    let pair = read_pair c.requires.marking c.requires.pair c.word.result c.slot.result c.in-Some.key
    c.in-Some-address.value c.word.ensures.of_heap (sym c.address.ensures ∙ c.in-Some.is) c.slot.ensures.of_heap
    (sym c.address-2.ensures ∙ c.in-Some-address.is) in
    (pushed_is_marked c.args.cells.now c.push.new.self c.in-Some-address.value c.push.result c.requires.marking
    (pair.live (c.contains.ensures.0 c.if-contains.true)) c.push.ensures.was_new c.push.ensures.value).0

pub returns-then-contains-clause-waits : goal.returns-then-contains-clause-waits
returns-then-contains-clause-waits c =
    waiting_stays (returns-then-contains-clause-grown c) c.requires.waits

pub returns-then-contains-clause-done : goal.returns-then-contains-clause-done
returns-then-contains-clause-done c key value refers value_refers =
    let pair = read_pair c.requires.marking c.requires.pair c.word.result c.slot.result c.in-Some.key
    c.in-Some-address.value c.word.ensures.of_heap (sym c.address.ensures ∙ c.in-Some.is) c.slot.ensures.of_heap
    (sym c.address-2.ensures ∙ c.in-Some-address.is) in
    let marked = (pushed_is_marked c.args.cells.now c.push.new.self c.in-Some-address.value c.push.result
    c.requires.marking (pair.live (c.contains.ensures.0 c.if-contains.true)) c.push.ensures.was_new
    c.push.ensures.value).1 in
    inl (subst (Contains c.push.new.self.addresses)
    (refers_to_one (heap_of c.args.main.now) (c.args.at + 1) c.in-Some-address.value value pair.value_refers
    value_refers) marked)

pub returns-else-contains-clause-more : goal.returns-else-contains-clause-more
returns-else-contains-clause-more c = record {
  kept = c.add.ensures.kept;
  fresh = λ key slot waits_for. elim (c.add.ensures.only key slot waits_for) [
    | inl before ↦ inl before
    | inr own ↦ inr (λ marked.
        false≢true (sym c.if-contains.false
        ∙ c.contains.ensures.1 (subst (Contains c.args.cells.now.addresses) own.0 marked)))
  ];
}

pub returns-else-contains-clause-done : goal.returns-else-contains-clause-done
returns-else-contains-clause-done c key value refers value_refers =
    let own = refers_as_read (heap_of c.args.main.now) c.args.at c.word.result c.in-Some.key c.word.ensures.of_heap
    (sym c.address.ensures ∙ c.in-Some.is) in
    let same = refers_to_one (heap_of c.args.main.now) c.args.at c.in-Some.key key own refers in
    inr (record {
      slot = c.args.at + 1;
      waits_for = subst (λ (one : ℕ). WaitsFor c.add.new.self one (c.args.at + 1)) same c.add.ensures.waits;
      refers = value_refers;
    })

pub returns-in_default-clause-grown : goal.returns-in_default-clause-grown
returns-in_default-clause-grown c = grows_nothing c.requires.marking

pub returns-in_default-address-clause-grown : goal.returns-in_default-address-clause-grown
returns-in_default-address-clause-grown c = grows_nothing c.requires.marking

pub returns-else-contains-clause-grown : goal.returns-else-contains-clause-grown
returns-else-contains-clause-grown c = grows_nothing c.requires.marking
