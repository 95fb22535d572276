-- Words behind all pages are wiped as they stand, and then words of them are put that are no slots.
use Rattle.std.proofs.Common.{◌+◌, ◌≤◌, ◌∙◌, ap, sym, arith}
use Rattle.page_space.specs.Extents.{marks_start}
use Rattle.write_barrier.specs.MutatorState.{Mutator}
use Rattle.write_barrier.proofs.Recording.{young_word}
use Rattle.write_barrier.proofs.WipedAgain.{wiped_young, word_in}
use Rattle.write_barrier.proofs.main_side.Main.put_free_young.Goals as goal

pub returns-in-1-clause-touches : goal.returns-in-1-clause-touches
returns-in-1-clause-touches c =
    let from = c.args.at in
    let to = c.args.at + c.args.count in
    word_in from to from c.word.result.0 (omega arith) (omega (arith, c.in-1.is)) c.requires.within
    c.put_young.ensures.written (wiped_young c.args.self.now from to c.requires.behind)

pub returns-in_default-clause-touches : goal.returns-in_default-clause-touches
returns-in_default-clause-touches c =
    let from = c.args.at in
    let to = c.args.at + c.args.count in
    let others = c.in_default.in_default-own.rest in
    let some : 2 ≤ c.args.count = omega (arith, others.0.1, others.1) in
    let marks = ap (λ (main : Mutator). marks_start main.seat.space) c.put_young-in_default.ensures.written in
    let headed : Mutator = c.put_young-in_default.new.self in
    let alone = young_word headed (from + 1) c.args.count
    (omega (arith, c.requires.behind, c.put_young-in_default.ensures.bound)) in
    word_in from to (from + 1) c.args.count (omega arith) (omega (arith, some))
    (omega (arith, c.requires.within, marks)) (c.put_own_slot.ensures.put ∙ sym alone)
    (word_in from to from c.word-in_default.result.0 (omega arith) (omega (arith, some)) c.requires.within
    c.put_young-in_default.ensures.written (wiped_young c.args.self.now from to c.requires.behind))
