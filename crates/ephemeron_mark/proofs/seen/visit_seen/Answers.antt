-- Each seen cell is visited in its turn, and a turn leaves those before it closed.
use Rattle.std.proofs.Common.{◌≡◌, ℕ, ◌<◌, ◌+◌, inl, inr, Some, slice_get, length, List, sym, ◌∙◌, ap, subst, arith}
use Rattle.live_cells.proofs.ObjectTargets.{at_is_in}
use Rattle.cell_list.proofs.Flags.{listed_are_few}
use Rattle.write_barrier.specs.MutatorState.{heap_of}
use Rattle.ephemeron_mark.specs.Progress.{AreMapsAmong, noted}
use Rattle.ephemeron_mark.proofs.GrownLists.{grows_nothing, grows_again, stays_marked}
use Rattle.ephemeron_mark.proofs.WaitingKeys.{waits_no_more, waits_again}
use Rattle.ephemeron_mark.proofs.VisitedCells.{no_fewer, among_before, next_visited}
use Rattle.ephemeron_mark.proofs.NotedMaps.{maps_stay, none_noted, next_noted}
use Rattle.ephemeron_mark.proofs.seen.visit_seen.Goals as goal

pub loop-next-init : goal.loop-next-init
loop-next-init c = record {
  grown = grows_nothing c.requires.marking;
  waits = c.requires.waits;
  more = waits_no_more;
  visited = λ at among. absurd (omega (arith, among.below));
  maps = subst (λ (maps : List ℕ). AreMapsAmong (heap_of c.args.main.now) c.args.cells.now maps 0)
      (sym c.requires.none) (none_noted c.args.cells.now);
  room = omega arith;
}

pub get-requires : goal.get-requires
get-requires c =
    no_fewer c.loop-next.invariant.grown c.loop-next.next
    (omega (arith, c.loop-next-test.true, c.requires.within))

pub visit_one-requires-clause-marked : goal.visit_one-requires-clause-marked
visit_one-requires-clause-marked c = at_is_in c.loop-next.cells.addresses c.loop-next.next c.get.result c.get.ensures

pub visit_one-requires-clause-leads : goal.visit_one-requires-clause-leads
visit_one-requires-clause-leads c other to slot =
    let grown = c.loop-next.invariant.grown in
    let next : ℕ = c.loop-next.next in
    let among = among_before grown (next + 1) c.get.result (omega (arith, c.loop-next-test.true, c.requires.within))
    (record { place = next; below = omega arith; there = c.get.ensures }) in
    stays_marked to grown (c.requires.leads c.get.result to
    (record { place = among.place; below = omega (arith, among.below, c.loop-next-test.true); there = among.there })
    other slot)

pub visit_one-requires-clause-awaited : goal.visit_one-requires-clause-awaited
visit_one-requires-clause-awaited c slot waits_for =
    let next : ℕ = c.loop-next.next in
    let among = among_before c.loop-next.invariant.grown (next + 1) c.get.result
    (omega (arith, c.loop-next-test.true, c.requires.within))
    (record { place = next; below = omega arith; there = c.get.ensures }) in
    elim (c.loop-next.invariant.more.fresh c.get.result slot waits_for) [
      | inl before ↦ c.requires.awaited c.get.result slot before
      | inr none ↦ none (at_is_in c.args.cells.now.addresses among.place c.get.result among.there)
    ]

pub visit_one-requires-clause-room : goal.visit_one-requires-clause-room
visit_one-requires-clause-room c =
    let below = no_fewer c.loop-next.invariant.grown c.loop-next.next
    (omega (arith, c.loop-next-test.true, c.requires.within)) in
    omega (
      arith,
      c.loop-next.invariant.maps.few,
      listed_are_few c.loop-next.cells c.len-count.ensures.own,
      below,
      c.loop-next.invariant.grown.marking.bound,
      c.requires.marking.bound,
      c.requires.room,
      c.loop-next.invariant.room,
    )

pub loop-next-preserved : goal.loop-next-preserved
loop-next-preserved c =
    let invariant = c.loop-next.invariant in
    let next : ℕ = c.loop-next.next in
    let grown = c.visit_one.ensures.grown in
    let below : next < length c.loop-next.cells.addresses =
    no_fewer invariant.grown next (omega (arith, c.loop-next-test.true, c.requires.within)) in
    let marked = at_is_in c.loop-next.cells.addresses next c.get.result c.get.ensures in
    let here = invariant.grown.marking.stand c.get.result marked in
    let there = subst (λ (at : ℕ). slice_get c.loop-next.cells.addresses next ≡ Some at) (sym here.stands)
    c.get.ensures in
    let as_noted = c.visit_one.ensures.noted here.cell (here.words, here.has) here.stands in
    let listed : c.visit_one.new.maps.items ≡ noted here.cell.layout.kind c.loop-next.maps.items here.cell.at =
    as_noted ∙ ap (λ (at : ℕ). noted here.cell.layout.kind c.loop-next.maps.items at) (sym here.stands) in
    let noted_now = subst (λ (maps : List ℕ). AreMapsAmong (heap_of c.args.main.now) c.loop-next.cells maps (next + 1))
    (sym listed)
    (next_noted (here.words, here.has) there invariant.maps c.len-count.ensures.own.once) in
    record {
      grown = grows_again invariant.grown grown;
      waits = c.visit_one.ensures.waits;
      more = waits_again invariant.grown invariant.more c.visit_one.ensures.more;
      visited = next_visited grown next c.get.result c.visit_one.ensures.more below c.get.ensures
          invariant.visited c.visit_one.ensures.visited;
      maps = maps_stay c.visit_one.new.maps.items (next + 1) grown (omega (arith, below)) noted_now;
      room = omega (arith, invariant.room, c.visit_one.ensures.room);
    }
