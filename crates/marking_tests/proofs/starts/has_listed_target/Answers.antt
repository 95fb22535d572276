-- The word refers to the cell that is looked for, or to none.
use Rattle.std.proofs.Common.{◌<◌, ◌^◌, sym, ◌∙◌, subst, arith, Contains}
use Rattle.write_barrier.specs.MutatorState.{heap_of}
use Rattle.ephemeron_mark.proofs.LiveStands.{refers_as_read, refers_to_none, refers_to_one, before_marks}
use Rattle.marking_tests.proofs.starts.has_listed_target.Goals as goal

pub returns-in_default : goal.returns-in_default
returns-in_default c _ to refers =
    let below = c.requires.below to refers in
    let fits : to < 2 ^ 32 =
    omega (arith, before_marks c.args.main.now.seat.space to below, c.addresses_fit.ensures.fit) in
    absurd (refers_to_none (heap_of c.args.main.now) c.args.slot c.word.result to c.word.ensures.of_heap
    (sym c.address.ensures ∙ c.in_default.is) refers fits)

pub contains-requires : goal.contains-requires
contains-requires c =
    let refers = refers_as_read (heap_of c.args.main.now) c.args.slot c.word.result c.in-Some.to
    c.word.ensures.of_heap (sym c.address.ensures ∙ c.in-Some.is) in
    omega (arith, c.requires.bound, c.requires.below c.in-Some.to refers)

pub returns : goal.returns
returns c listed to refers =
    let read = refers_as_read (heap_of c.args.main.now) c.args.slot c.word.result c.in-Some.to
    c.word.ensures.of_heap (sym c.address.ensures ∙ c.in-Some.is) in
    subst (Contains c.args.cells.now.addresses)
    (refers_to_one (heap_of c.args.main.now) c.args.slot c.in-Some.to to read refers) (c.contains.ensures.0 listed)
