-- No helper reads the cell, and its words are no head of another.
use Rattle.std.proofs.Common.{◌≡◌, ◌<◌, ℕ, List, length, min, take, slice_set, Contains, sym, subst, arith}
use Rattle.std.proofs.lemmas.List.{length-take}
use Rattle.page_space.specs.Extents.{eden_start}
use Rattle.shared_table.proofs.PageEnds.{pages_before_marks}
use Rattle.mark_world.specs.Cycles.{Cycle}
use Rattle.mark_world.specs.Pages.{OfTarget}
use Rattle.heap_table.specs.Overviews.{cycle_in, overview}
use Rattle.heap_table.specs.Seats.{Seat}
use Rattle.mark_barrier.specs.CycleSteps.{sure_of_target}
use Rattle.mark_barrier.proofs.ReadCells.{layouts_stay}
use Rattle.table_tests.proofs.BegunSeats.{marking_on, no_heads}
use Rattle.table_tests.proofs.barrier.store_in_first.Goals as goal

pub store-requires-clause-may : goal.store-requires-clause-may
store-requires-clause-may c =
    let now : Seat = c.args.seat.now in
    let marking = c.requires.first.marking in
    let count : length (take (eden_start now.space) now.table) ≡ min (eden_start now.space) (length now.table) =
    length-take (eden_start now.space) now.table in
    record {
      place = omega (
        arith,
        count,
        c.regions-regions.ensures.heap_counted,
        pages_before_marks now.space,
        marking.page,
        c.requires.before,
      );
      no_head = no_heads (eden_start now.space) (overview now).words (overview now).layouts (overview now).view
          c.args.at marking.starts c.requires.first.mine c.requires.before;
      slot_word = c.requires.fits;
      born =
          subst (λ (old : ℕ). OfTarget old c.args.word (Contains (overview now).view.born)) (sym marking.page)
          (subst (λ (list : List ℕ). OfTarget 2048 c.args.word (Contains list)) (sym marking.born) c.requires.born);
    }

pub returns : goal.returns
returns c =
    let now : Seat = c.args.seat.now in
    let later : Seat = c.store.new.seat in
    let marking = c.requires.first.marking in
    let inside : c.args.at < eden_start now.space = omega (arith, c.requires.before, marking.page) in
    record {
      marking = marking_on now later c.args.grey.now c.store.new.self (slice_set now.table c.args.at c.args.word)
          (sure_of_target (eden_start now.space) (cycle_in now) c.args.word) marking c.store.ensures.steps
          marking.starts marking.born (layouts_stay now.space now.table c.args.at c.args.word inside)
          c.store.ensures.paid;
      mine = subst (λ (one : Cycle). Contains one.mine 0) (sym c.store.ensures.steps.moves.cycle) c.requires.first.mine;
    }
