-- The two words of a page's gap.
use Rattle.std.proofs.Common.{◌+◌, ◌*◌, ◌≤◌, ◌∙◌, ap, arith}
use Rattle.std.specs.Prelude.{slice_set}
use Rattle.page_space.specs.Sizes.{page_words}
use Rattle.page_space.specs.Extents.{marks_start}
use Rattle.write_barrier.specs.Seats.{heap_words}
use Rattle.write_barrier.specs.MutatorState.{Mutator}
use Rattle.write_barrier.proofs.Changes.{page_before_marks, gap_put, put_changes, changes_then}
use Rattle.write_barrier.proofs.main_side.Main.put_gap.Goals as goal

pub put_owned-requires-clause-within : goal.put_owned-requires-clause-within
put_owned-requires-clause-within c =
    omega (arith, page_before_marks c.args.self.now.seat.space c.args.page c.requires.there)

pub put_owned-requires-2-clause-within : goal.put_owned-requires-2-clause-within
put_owned-requires-2-clause-within c =
    rw (ap (λ (main : Mutator). main.seat.space) c.put_owned.ensures)
    (omega (arith, page_before_marks c.args.self.now.seat.space c.args.page c.requires.there))

pub returns-clause-gap : goal.returns-clause-gap
returns-clause-gap c =
    let below = page_before_marks c.args.self.now.seat.space c.args.page c.requires.there in
    let words = λ (main : Mutator). heap_words main.seat in
    gap_put (heap_words c.args.self.now.seat) (heap_words c.put_owned.new.self.seat)
    (heap_words c.put_owned-2.new.self.seat) c.args.page (c.args.page * 2048) (omega arith)
    (omega (arith, below, c.addresses_fit.ensures.heap_counted))
    (ap words c.put_owned.ensures
    ∙ ap (slice_set (heap_words c.args.self.now.seat) (c.args.page * 2048)) c.word.ensures)
    (ap words c.put_owned-2.ensures)

pub returns-clause-changes : goal.returns-clause-changes
returns-clause-changes c =
    let at = page_words * c.args.page in
    let space = c.args.self.now.seat.space in
    let low : at + page_words ≤ marks_start space = page_before_marks space c.args.page c.requires.there in
    let same = ap (λ (main : Mutator). main.seat.space) c.put_owned.ensures in
    let words = λ (main : Mutator). heap_words main.seat in
    changes_then c.args.self.now c.put_owned.new.self c.put_owned-2.new.self at (at + page_words) at (at + page_words)
    (put_changes c.args.self.now c.put_owned.new.self (c.args.page * 2048) c.word.result.0 at (at + page_words)
    c.put_owned.ensures (ap words c.put_owned.ensures) (omega arith) (omega arith) low)
    (put_changes c.put_owned.new.self c.put_owned-2.new.self (c.args.page * 2048 + 1) page_words at (at + page_words)
    c.put_owned-2.ensures (ap words c.put_owned-2.ensures) (omega arith) (omega arith)
    (omega (arith, low, ap marks_start same)))
    (omega arith) (omega arith)
