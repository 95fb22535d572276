-- What the word refers to is live, so it stands before the roots and is marked.
use Rattle.std.proofs.Common.{arith, subst, sym, ◌∙◌, ◌<◌, ◌^◌, Contains}
use Rattle.write_barrier.specs.MutatorState.{heap_of}
use Rattle.ephemeron_mark.proofs.LiveStands.{refers_as_read, refers_to_none, refers_to_one, before_marks, live_below}
use Rattle.ephemeron_mark.proofs.GrownLists.{grows_nothing, pushed_is_marked}
use Rattle.ephemeron_mark.proofs.targets.mark_target.Goals as goal

pub push-requires : goal.push-requires
push-requires c =
    let is = sym c.address.ensures ∙ c.in-Some.is in
    let refers = refers_as_read (heap_of c.args.main.now) c.args.slot c.word.result c.in-Some.at
    c.word.ensures.of_heap is in
    omega (
      arith,
      c.requires.marking.bound,
      live_below c.requires.marking.whole c.requires.marking.stand c.in-Some.at (c.requires.live c.in-Some.at refers),
    )

pub returns-in-Some-clause-grown : goal.returns-in-Some-clause-grown
returns-in-Some-clause-grown c =
    let is = sym c.address.ensures ∙ c.in-Some.is in
    let refers = refers_as_read (heap_of c.args.main.now) c.args.slot c.word.result c.in-Some.at
    c.word.ensures.of_heap is in
    (pushed_is_marked c.args.cells.now c.push.new.self c.in-Some.at c.push.result c.requires.marking
    (c.requires.live c.in-Some.at refers) c.push.ensures.was_new c.push.ensures.value).0

pub returns-in-Some-clause-marked : goal.returns-in-Some-clause-marked
returns-in-Some-clause-marked c at refers =
    let is = sym c.address.ensures ∙ c.in-Some.is in
    let read = refers_as_read (heap_of c.args.main.now) c.args.slot c.word.result c.in-Some.at
    c.word.ensures.of_heap is in
    let marked = (pushed_is_marked c.args.cells.now c.push.new.self c.in-Some.at c.push.result c.requires.marking
    (c.requires.live c.in-Some.at read) c.push.ensures.was_new c.push.ensures.value).1 in
    subst (Contains c.push.new.self.addresses)
    (refers_to_one (heap_of c.args.main.now) c.args.slot c.in-Some.at at read refers) marked

pub returns-in_default-clause-marked : goal.returns-in_default-clause-marked
returns-in_default-clause-marked c at refers =
    let below = live_below c.requires.marking.whole c.requires.marking.stand at (c.requires.live at refers) in
    let fits : at < 2 ^ 32 =
    omega (arith, before_marks c.args.main.now.seat.space at below, c.addresses_fit.ensures.fit) in
    absurd (refers_to_none (heap_of c.args.main.now) c.args.slot c.word.result at c.word.ensures.of_heap
    (sym c.address.ensures ∙ c.in_default.is) refers fits)

pub returns-in_default-clause-grown : goal.returns-in_default-clause-grown
returns-in_default-clause-grown c = grows_nothing c.requires.marking
