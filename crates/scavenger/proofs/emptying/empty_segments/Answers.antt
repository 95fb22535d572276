-- The first words of a half's segments are made 0, one after another.
use Rattle.std.proofs.Common.{◌+◌, ◌<◌, ◌∙◌, length, sym, ap, subst, arith}
use Rattle.page_space.specs.declared.region.Region.TheVariants.{Segment}
use Rattle.page_space.specs.declared.sizes.Sizes.{Sizes}
use Rattle.page_space.specs.Extents.{Space, StartsAt, marks_start}
use Rattle.write_barrier.specs.Seats.{heap_words}
use Rattle.remembered_set.specs.Recorded.{Recorded}
use Rattle.write_barrier.specs.MutatorState.{Mutator}
use Rattle.write_barrier.proofs.JudgedSlots.{wiped_behind}
use Rattle.scavenger.proofs.CodeChanges.{changes_again, put_changes}
use Rattle.scavenger.proofs.CodeSegments.{segment_before_marks, segment_is_young}
use Rattle.scavenger.proofs.EmptiedSegments.{empties_more, empties_all}
use Rattle.scavenger.proofs.emptying.empty_segments.Goals as goal

pub write-requires-clause-within : goal.write-requires-clause-within
write-requires-clause-within c =
    let space = c.args.main.now.seat.space in
    let worker = c.loop-worker.worker in
    let Starts : Space → Type 0 = λ (one : Space). StartsAt one (Segment c.args.half worker) c.start.result in
    let starts = subst Starts c.regions-regions.ensures.regions c.start.ensures.starts in
    subst (λ (one : Space). c.start.result < marks_start one) (sym c.loop-worker.invariant.changes.seat.space)
    (segment_before_marks space c.args.half worker c.start.result c.regions-regions.ensures.within starts)

pub loop-worker-preserved : goal.loop-worker-preserved
loop-worker-preserved c =
    let space = c.args.main.now.seat.space in
    let worker = c.loop-worker.worker in
    let changes = c.loop-worker.invariant.changes in
    let Starts : Space → Type 0 = λ (one : Space). StartsAt one (Segment c.args.half worker) c.start.result in
    let starts = subst Starts c.regions-regions.ensures.regions c.start.ensures.starts in
    let before = segment_before_marks space c.args.half worker c.start.result c.regions-regions.ensures.within starts in
    let within : c.start.result < length (heap_words c.loop-worker.main.seat) =
    omega (arith, before, changes.count, c.regions-regions.ensures.heap_counted) in
    record {
      changes = changes_again changes
          (put_changes c.start.result 0 c.write.ensures.written c.write.ensures.heap
          (subst (λ (one : Space). c.start.result < marks_start one) (sym changes.seat.space) before));
      free = ap (λ (main : Mutator). main.free) c.write.ensures.written ∙ c.loop-worker.invariant.free;
      recorded =
          let same = c.loop-worker.invariant.recorded in
          let young =
          segment_is_young space c.args.half worker c.start.result c.regions-regions.ensures.within starts in
          let bound = ap (λ (one : Recorded). one.bound) same in
          ap (λ (main : Mutator). main.recorded) c.write.ensures.written
          ∙ wiped_behind c.loop-worker.main.recorded c.start.result (c.start.result + 1)
          (omega (arith, bound, c.addresses_fit.ensures.bounded, young))
          ∙ same;
      empties = empties_more space c.args.half worker c.start.result (heap_words c.args.main.now.seat)
          (heap_words c.loop-worker.main.seat) (heap_words c.write.new.self.seat) c.loop-worker.invariant.empties starts
          within c.write.ensures.heap;
    }

pub returns-clause-empties : goal.returns-clause-empties
returns-clause-empties c =
    let space = c.args.main.now.seat.space in
    let helpers = ap (λ (sizes : Sizes). sizes.helpers) c.sizes-worker-end.ensures
    ∙ ap (λ (one : Space). one.sizes.helpers) c.regions-regions.ensures.regions in
    empties_all space c.args.half c.loop-worker.worker (heap_words c.args.main.now.seat)
    (heap_words c.loop-worker.main.seat) c.loop-worker.invariant.empties (omega (arith, helpers))
