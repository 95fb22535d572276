-- What is recorded of the words is forgotten, and then words of them are put that are no slots.
use Rattle.std.proofs.Common.{◌+◌, ◌<◌, ◌≤◌, sym, ap, subst, arith}
use Rattle.tagged_word.specs.Headers.{header_bits}
use Rattle.page_space.specs.Extents.{marks_start}
use Rattle.mark_world.specs.declared.event.Event.TheVariants as event
use Rattle.heap_model.specs.Remembered.{Touch}
use Rattle.write_barrier.specs.MutatorState.{Mutator, gap_header}
use Rattle.write_barrier.specs.FreeCells.{filler_header}
use Rattle.write_barrier.specs.Recording.{Touches, touched}
use Rattle.write_barrier.specs.Marking.{MayPut, MayPutFree}
use Rattle.write_barrier.proofs.FreeStores.{free_forgets, then_second}
use Rattle.write_barrier.proofs.Recording.{forget_touch}
use Rattle.write_barrier.proofs.WipedAgain.{word_in}
use Rattle.write_barrier.proofs.main_side.Main.put_free_in_page.Goals as goal

pub returns-in-0-clause-touches : goal.returns-in-0-clause-touches
returns-in-0-clause-touches c =
    let from = c.args.at in
    let to = c.args.at + c.args.count in
    subst (λ (main : Mutator). Touches c.args.self.now main (touched Touch.Wiped from to)) (sym c.forget.ensures)
    (forget_touch c.args.self.now from to)

pub returns-in-1-clause-touches : goal.returns-in-1-clause-touches
returns-in-1-clause-touches c =
    let from = c.args.at in
    let to = c.args.at + c.args.count in
    let marks = ap (λ (main : Mutator). marks_start main.seat.space) c.forget.ensures in
    word_in from to from (header_bits filler_header) (omega arith) (omega (arith, c.in-1.is))
    (omega (arith, c.requires.within, marks)) c.set_header.ensures.written
    (subst (λ (main : Mutator). Touches c.args.self.now main (touched Touch.Wiped from to)) (sym c.forget.ensures)
    (forget_touch c.args.self.now from to))

pub returns-in_default-clause-touches : goal.returns-in_default-clause-touches
returns-in_default-clause-touches c =
    let from = c.args.at in
    let to = c.args.at + c.args.count in
    let others = c.in_default.in_default-own.rest in
    let some : 2 ≤ c.args.count = omega (arith, others.0.1, others.1) in
    let marks = ap (λ (main : Mutator). marks_start main.seat.space) c.forget.ensures in
    let marks_then = ap (λ (main : Mutator). marks_start main.seat.space) c.set_header-in_default.ensures.written in
    word_in from to (from + 1) c.args.count (omega arith) (omega (arith, some))
    (omega (arith, c.requires.within, marks, marks_then)) c.write_slot.ensures.written
    (word_in from to from (header_bits gap_header) (omega arith) (omega (arith, some))
    (omega (arith, c.requires.within, marks)) c.set_header-in_default.ensures.written
    (subst (λ (main : Mutator). Touches c.args.self.now main (touched Touch.Wiped from to)) (sym c.forget.ensures)
    (forget_touch c.args.self.now from to)))

pub write_slot-requires-clause-may_store : goal.write_slot-requires-clause-may_store
write_slot-requires-clause-may_store c =
    let at = c.args.at in
    let count = c.args.count in
    let others = c.in_default.in_default-own.rest in
    let more : 1 < count = omega (arith, others.0.1, others.1) in
    subst (λ (main : Mutator). MayPut main (at + 1) (event.StoreOwned (at + 1) count))
    (sym c.set_header-in_default.ensures.written)
    (then_second c.forget.new.self at count
    (subst (λ (main : Mutator). MayPutFree main at count) (sym c.forget.ensures)
    (free_forgets c.args.self.now at count at (at + count) c.requires.may_store))
    (header_bits gap_header) count more)
