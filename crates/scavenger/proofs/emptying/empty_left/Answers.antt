-- The room behind the copies and then the half that is left are emptied.
use Rattle.std.proofs.Common.{◌∙◌, subst}
use Rattle.page_space.specs.Extents.{Space}
use Rattle.write_barrier.specs.Seats.{heap_words}
use Rattle.scavenger.specs.Walking.{EmptiesSegments}
use Rattle.scavenger.proofs.EmptiedSegments.{emptied_all}
use Rattle.scavenger.proofs.emptying.empty_left.Goals as goal

pub returns-clause-emptied : goal.returns-clause-emptied
returns-clause-emptied c =
    let mid = heap_words c.end_copies.new.main.seat in
    let new = heap_words c.empty_segments.new.main.seat in
    let Empties : Space → Type 0 = λ (space : Space). EmptiesSegments space c.args.half mid new in
    emptied_all c.args.main.now.seat.space c.args.half c.args.fill c.args.end (heap_words c.args.main.now.seat) mid new
    c.end_copies.ensures.ends (subst Empties c.end_copies.ensures.changes.seat.space c.empty_segments.ensures.empties)

pub returns-clause-recorded : goal.returns-clause-recorded
returns-clause-recorded c behind = c.empty_segments.ensures.recorded ∙ c.end_copies.ensures.recorded behind
