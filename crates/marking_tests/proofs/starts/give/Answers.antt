-- The cell that was found stands in the heap.
use Rattle.std.proofs.Common.{inl, inr, ◌∙◌, arith}
use Rattle.ephemeron_mark.proofs.LiveStands.{stands_below}
use Rattle.marking_tests.proofs.GivenCells.{stands_there, given_stand}
use Rattle.marking_tests.proofs.starts.give.Goals as goal

pub give_seen-requires : goal.give_seen-requires
give_seen-requires c =
    omega (
      arith,
      c.requires.bound,
      stands_below c.requires.whole c.in-Some.cell.at (stands_there c.in-Some.ensures.0),
    )

pub give-requires : goal.give-requires
give-requires c =
    omega (
      arith,
      c.requires.bound,
      stands_below c.requires.whole c.in-Some.cell.at (stands_there c.in-Some.ensures.0),
    )

pub returns-then-as_seen-clause-stand : goal.returns-then-as_seen-clause-stand
returns-then-as_seen-clause-stand c =
    given_stand c.args.marking.now.cells c.give_seen.new.self.cells c.in-Some.cell.at c.give_seen.ensures.given
    c.requires.stand (stands_there c.in-Some.ensures.0)

pub returns-then-as_seen-clause-seen : goal.returns-then-as_seen-clause-seen
returns-then-as_seen-clause-seen c at there = elim ((c.give_seen.ensures.seen at).0 there) [
  | inl before ↦ inl before
  | inr both ↦ inr (c.if-as_seen.true, both.0 ∙ c.in-Some.ensures.1)
]

pub returns-clause-stand : goal.returns-clause-stand
returns-clause-stand c =
    given_stand c.args.marking.now.cells c.give.new.self.cells c.in-Some.cell.at c.give.ensures.given
    c.requires.stand (stands_there c.in-Some.ensures.0)
