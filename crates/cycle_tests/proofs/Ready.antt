-- A heap is ready when it was opened, after a scavenge, in an open cycle and after it, and after a helper looked at it.
use Rattle.std.proofs.Common.{◌≡◌, ◌∙◌, ℕ, ◌+◌, ◌-◌, ◌==◌, true, length, Result, Ok, Err, refl, sym, ap, subst}
use Rattle.std.specs.Prelude.{IfOk, IsSome}
use Rattle.page_space.specs.Extents.{Space}
use Rattle.object_graph.specs.Graphs.{Graph, start}
use Rattle.heap_table.specs.Overviews.{unopened}
use Rattle.heap_table.specs.Phases.{Quiet}
use Rattle.heap_table.specs.Seats.{IsFresh, Seat as TableSeat}
use Rattle.write_barrier.specs.Cycles.{in_cycle}
use Rattle.write_barrier.specs.MutatorState.{Mutator, IsOpened, MainShows}
use Rattle.write_barrier.specs.Seats.{RestStays, seat_back, seat_lent, table_of}
use Rattle.cycle_opening.specs.Opened.{OpensCycle}
use Rattle.cycle_tests.specs.Ready.{IsReady}

-- all but the words of the main seat stays, where it is ready again if it shows a graph of as many objects
pub rest_ready : {old new : Mutator} {before : ℕ} (after : ℕ) → IsReady old before → RestStays old.seat new.seat
    → (graph : Graph) → MainShows new graph → after ≡ length graph.objects → IsReady new after
rest_ready after ready rest graph shows counted = record {
  graph = graph;
  shows = shows;
  counted = counted;
  shared = subst IsSome (sym rest.shared) ready.shared;
  home = rest.home ∙ ready.home;
  out = rest.out ∙ ready.out;
}

-- a seat that was opened with a shared table has one
pub fresh_shared : (space : Space) (seat : TableSeat) → IsFresh space true seat → IsSome (table_of seat)
fresh_shared space seat (id, is) = subst (λ (one : TableSeat). IsSome (table_of one)) (sym is) refl

-- a heap that was opened with a shared table is ready, with no object
pub opened_ready : {E : Type 0} (seat : TableSeat) (result : Result Mutator E) → IsSome (table_of seat)
    → IfOk result (λ main. MainShows main start × IsOpened main)
    → IfOk result (λ main. main.seat.shared ≡ table_of seat) → IfOk result (λ main. IsReady main 0)
opened_ready seat (Ok main) some (shows, opened) table = record {
  graph = start;
  shows = shows;
  counted = refl;
  shared = subst IsSome (sym table) some;
  home = opened.beside.home;
  out = opened.beside.out;
}
opened_ready seat (Err why) some shows table = tt

-- the heap is ready in the cycle that opens on it
pub cycle_ready : {old new : Mutator} {objects : ℕ} → IsReady old objects
    → ((graph : Graph) → MainShows old graph → length graph.objects ≡ objects → OpensCycle old new graph)
    → new.seat.home ≡ true → new.seat.out ≡ 0 → IsReady new objects
cycle_ready ready opens home out =
    let opened = opens ready.graph ready.shows (sym ready.counted) in
    record {
      graph = ready.graph;
      shows = opened.shows;
      counted = ready.counted;
      shared = subst (λ (one : Mutator). IsSome one.seat.shared) (sym opened.is) ready.shared;
      home = home;
      out = out;
    }

-- and once that is dropped
pub dropped_ready : {old new : Mutator} {objects : ℕ} → IsReady old objects → new ≡ in_cycle old Quiet unopened
    → ((graph : Graph) → MainShows old graph → MainShows new graph) → IsReady new objects
dropped_ready ready is shows = record {
  graph = ready.graph;
  shows = shows ready.graph ready.shows;
  counted = ready.counted;
  shared = subst (λ (one : Mutator). IsSome one.seat.shared) (sym is) ready.shared;
  home = ap (λ (one : Mutator). one.seat.home) is ∙ ready.home;
  out = ap (λ (one : Mutator). one.seat.out) is ∙ ready.out;
}

-- the mutator after a seat was lent and taken back
abbrev pub looked_at : Mutator → Mutator
looked_at main = record main { seat = seat_back (seat_lent main.seat) }

-- it shows what it showed
looked_shows : {main : Mutator} {graph : Graph} → MainShows main graph → MainShows (looked_at main) graph
looked_shows shows = record {
  tied = record { space = shows.tied.space; granted = shows.tied.granted };
  is_graph = shows.is_graph;
  calm = λ mark.
      let rests = shows.calm mark in
      record { view = rests.view; rests = rests.rests; granted = rests.granted; counted = rests.counted };
  shows = shows.shows;
  collectable = shows.collectable;
  free = shows.free;
  apart = shows.apart;
  bounded = shows.bounded;
  remembered = shows.remembered;
}

-- no seat is out again
pub looked_ready : {main : Mutator} {objects : ℕ} → IsReady main objects → IsReady (looked_at main) objects
looked_ready {main} {objects} ready = record {
  graph = ready.graph;
  shows = looked_shows ready.shows;
  counted = ready.counted;
  shared = ready.shared;
  home = ap (λ (n : ℕ). (n + 1) == 1) ready.out;
  out = ap (λ (n : ℕ). n + 1 - 1) ready.out;
}
