-- Each marked cell is visited in its turn, and a turn leaves those before it closed.
use Rattle.std.proofs.Common.{◌≡◌, ℕ, ◌<◌, ◌+◌, Contains, Some, slice_get, length, List, sym, subst, arith}
use Rattle.live_cells.proofs.ObjectTargets.{at_is_in}
use Rattle.cell_list.proofs.Flags.{listed_are_few}
use Rattle.cell_list.specs.Listing.{Listing}
use Rattle.write_barrier.specs.MutatorState.{heap_of}
use Rattle.ephemeron_mark.specs.Progress.{AreMapsAmong}
use Rattle.ephemeron_mark.proofs.VisitedCells.{no_fewer, next_visited, stands_to_read, read_is_cell}
use Rattle.ephemeron_mark.proofs.NotedMaps.{maps_stay, next_noted}
use Rattle.ephemeron_mark.proofs.Brought.{IsBrought, more_at_once, more_by_growth, marking_brought, more_brought}
use Rattle.ephemeron_mark.proofs.Brought.{waits_brought, visited_brought, maps_brought}
use Rattle.ephemeron_mark.proofs.visits.visit_all.Goals as goal

pub loop-next-init : goal.loop-next-init
loop-next-init c = record {
  more = more_at_once c.requires.marking;
  waits = c.requires.waits;
  visited = c.requires.visited;
  maps = c.requires.maps;
  within = c.requires.within;
  room = omega arith;
}

pub known_cell-cell-requires : goal.known_cell-cell-requires
known_cell-cell-requires c =
    let brought : IsBrought c.loop-next.cells c.bring.new.self c.loop-next.next = record {
      bound = c.bring.ensures.bound;
      count = c.bring.ensures.count;
      members = c.bring.ensures.members;
      before = c.bring.ensures.before;
    } in
    let marked = at_is_in c.bring.new.self.addresses c.loop-next.next c.get.result c.get.ensures in
    stands_to_read (marking_brought brought c.loop-next.invariant.more.marking) c.get.result marked

pub note_map-requires : goal.note_map-requires
note_map-requires c =
    omega (
      arith,
      c.loop-next.invariant.maps.few,
      listed_are_few c.loop-next.cells c.len.ensures.own,
      c.len.ensures.count,
      c.loop-next-test.true,
      c.loop-next.invariant.more.marking.bound,
      c.requires.marking.bound,
      c.requires.room,
      c.loop-next.invariant.room,
    )

pub visit-requires-clause-marking : goal.visit-requires-clause-marking
visit-requires-clause-marking c =
    let brought : IsBrought c.loop-next.cells c.bring.new.self c.loop-next.next = record {
      bound = c.bring.ensures.bound;
      count = c.bring.ensures.count;
      members = c.bring.ensures.members;
      before = c.bring.ensures.before;
    } in
    marking_brought brought c.loop-next.invariant.more.marking

pub visit-requires-clause-waits : goal.visit-requires-clause-waits
visit-requires-clause-waits c =
    let brought : IsBrought c.loop-next.cells c.bring.new.self c.loop-next.next = record {
      bound = c.bring.ensures.bound;
      count = c.bring.ensures.count;
      members = c.bring.ensures.members;
      before = c.bring.ensures.before;
    } in
    waits_brought brought c.loop-next.invariant.waits

pub visit-requires-clause-marked : goal.visit-requires-clause-marked
visit-requires-clause-marked c =
    let mid : Listing = c.bring.new.self in
    let marked = at_is_in mid.addresses c.loop-next.next c.get.result c.get.ensures in
    subst (Contains mid.addresses) (sym c.known_cell-cell.ensures.stands.stands) marked

pub visit-requires-clause-stands : goal.visit-requires-clause-stands
visit-requires-clause-stands c =
    let brought : IsBrought c.loop-next.cells c.bring.new.self c.loop-next.next = record {
      bound = c.bring.ensures.bound;
      count = c.bring.ensures.count;
      members = c.bring.ensures.members;
      before = c.bring.ensures.before;
    } in
    let marked = at_is_in c.bring.new.self.addresses c.loop-next.next c.get.result c.get.ensures in
    read_is_cell (marking_brought brought c.loop-next.invariant.more.marking) c.get.result c.known_cell-cell.result
    marked c.known_cell-cell.ensures.one

pub loop-next-smaller : goal.loop-next-smaller
loop-next-smaller c =
    omega (
      arith,
      listed_are_few c.loop-next.cells c.len.ensures.own,
      c.len.ensures.count,
      c.loop-next-test.true,
      c.loop-next.invariant.more.marking.bound,
      c.visit.ensures.grown.marking.bound,
    )

pub loop-next-preserved : goal.loop-next-preserved
loop-next-preserved c =
    let invariant = c.loop-next.invariant in
    let next : ℕ = c.loop-next.next in
    let mid : Listing = c.bring.new.self in
    let brought : IsBrought c.loop-next.cells c.bring.new.self c.loop-next.next = record {
      bound = c.bring.ensures.bound;
      count = c.bring.ensures.count;
      members = c.bring.ensures.members;
      before = c.bring.ensures.before;
    } in
    let more = more_brought brought invariant.more in
    let grown = c.visit.ensures.grown in
    let below : next < length mid.addresses =
    omega (arith, c.len.ensures.count, c.loop-next-test.true, brought.count) in
    let stands = c.known_cell-cell.ensures.stands.stands in
    let there = subst (λ (one : ℕ). slice_get mid.addresses next ≡ Some one) (sym stands) c.get.ensures in
    let marked = at_is_in mid.addresses next c.get.result c.get.ensures in
    let is_cell = read_is_cell more.marking c.get.result c.known_cell-cell.result marked
    c.known_cell-cell.ensures.one in
    let noted_now = subst (λ (maps : List ℕ). AreMapsAmong (heap_of c.args.main.now) mid maps (next + 1))
    (sym c.note_map.ensures.noted)
    (next_noted is_cell there (maps_brought brought invariant.maps) c.bring.ensures.own.once) in
    record {
      more = more_by_growth more grown;
      waits = c.visit.ensures.waits;
      visited = next_visited grown next c.known_cell-cell.result.at c.visit.ensures.more below there
          (visited_brought brought invariant.visited) c.visit.ensures.visited;
      maps = maps_stay c.note_map.new.maps.items (next + 1) grown (omega (arith, below)) noted_now;
      within = omega (arith, no_fewer grown next below);
      room = omega (arith, invariant.room, c.note_map.ensures.room);
    }
