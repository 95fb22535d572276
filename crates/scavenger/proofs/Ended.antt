-- A scavenge that has come to its end is one, and the heap that is left shows the graph.
use Rattle.std.proofs.Common.{◌≡◌, ℕ, ◌<◌, ◌≤◌, ◌⊎◌, Bool, List, Contains, inl, inr, slice_get, sym, ◌∙◌, ap}
use Rattle.std.proofs.Common.{subst, arith}
use Rattle.object_graph.specs.Graphs.{Graph}
use Rattle.page_space.specs.Extents.{eden_start, roots_start}
use Rattle.cell_layout.proofs.OneCell.{cells_have_words}
use Rattle.nursery.specs.Young.{Young, IsYoung, other_half}
use Rattle.free_runs.specs.FreeRuns.{AreFree, longest_of}
use Rattle.free_runs.specs.Laws.{IsFreeWord}
use Rattle.free_runs.proofs.Takes.{longest_tells}
use Rattle.write_barrier.specs.Seats.{heap_words}
use Rattle.heap_model.specs.Collectable.{IsCollectable, AreFreeRuns}
use Rattle.heap_model.specs.Remembered.{AreRemembered}
use Rattle.heap_model.proofs.CellsApart.{has_is_cell}
use Rattle.heap_moves.specs.Standing.{Stays}
use Rattle.heap_moves.proofs.AllStands.{shows_for}
use Rattle.heap_moves.proofs.MovedGraphs.{moves_show}
use Rattle.heap_moves.proofs.RoomsStay.{moves_keep_rooms}
use Rattle.write_barrier.specs.MutatorState.{Mutator, heap_of, MainShows}
use Rattle.scav_copy.specs.declared.places.Home.{Home}
use Rattle.scav_copy.specs.Places.{Fixed, size_of}
use Rattle.scavenger.specs.Starts.{SegmentCopies, IsRootAt, start_of}
use Rattle.scavenger.specs.Walking.{IsToPromote}
use Rattle.scavenger.specs.Laws.{IsEnded, EndsWith, EndsAreScavenges, KeepsGraphs}
use Rattle.scavenger.specs.Handing.{HasEnded}
use Rattle.scavenger.specs.Scavenged.{Scavenges, place_after}
use Rattle.scavenger.proofs.PagesRuns.{word_of_run}
use Rattle.scavenger.proofs.FilledSegments.{workers_are, segment_fills}
use Rattle.scavenger.proofs.EndWords.{ended, outside_same}
use Rattle.scavenger.proofs.EndCopies.{renaming, young_of, copy_size}
use Rattle.scavenger.proofs.EndHeap.{runs_are_free}
use Rattle.scavenger.proofs.EndMoved.{is_collectable}
use Rattle.scavenger.proofs.EndRecords.{end_is_remembered}
use Rattle.scavenger.proofs.EndedHeap.{ending_is, left_young, left_is, left_is_moved, left_alone, left_stayed}
use Rattle.scavenger.proofs.EndedHeap.{left_segments, left_few, left_handed, left_in_one}

module _ {old new : Mutator} {handed : List SegmentCopies} {all : Bool} {fixed : Fixed} {homes : List Home}
    {words : List ℕ} {fill refused : ℕ}
    (young : IsYoung old.young) (is : IsEnded old handed new all fixed homes words fill refused) where
  -- a word outside is as before, where it was in no free run
  outside : (at : ℕ) → (at < eden_start old.seat.space) ⊎ (roots_start old.seat.space ≤ at)
      → (IsRootAt old.seat.space at → ⊥) → (Contains old.recorded.slots at → ⊥) → (IsFreeWord old.free at → ⊥)
      → slice_get (heap_words new.seat) at ≡ slice_get (heap_words old.seat) at
  outside at apart no_root no_record no_run =
      outside_same (ending_is young is) at apart no_root no_record (λ inside.
      no_run (word_of_run old.free inside.run at is.begun.apart inside.is inside.of_run))

  -- no free run has so many words as a cell that was refused
  longest_below : (home : Home) → Contains homes home → refused ≤ size_of fixed home.from
      → longest_of new.free < size_of fixed home.from
  longest_below home there enough =
      let ending = ending_is young is in
      let of_young = young_of ending home there in
      let size = copy_size ending home of_young in
      let bounds = cells_have_words old.seat.space (heap_words old.seat) of_young.cell (has_is_cell of_young.has) in
      let some : 1 ≤ size_of fixed home.from = omega (arith, size, bounds.0) in
      (longest_tells new.free (size_of fixed home.from) some).1
      (is.placed.none_fits (size_of fixed home.from) some enough (omega (arith, size, bounds.1)))

  -- what is to be promoted is in a page, unless it is longer than each free run
  promotes : (home : Home) → Contains homes home → IsToPromote old.seat.space all home.from
      → (home.to < eden_start old.seat.space) ⊎ (longest_of new.free < size_of fixed home.from)
  promotes home there to_promote =
      elim (is.placed.stayed home there to_promote) [
        | inl below ↦ inl below
        | inr enough ↦ inr (longest_below home there enough)
      ]

  -- it is a scavenge, where the runs that are left are apart
  scavenged : AreFree new.free → Scavenges old new all
  scavenged apart =
      let ending = ending_is young is in
      record {
        fixed = fixed;
        homes = homes;
        begins = record {
          before = is.begun.begins.before;
          layouts = is.begun.begins.layouts;
          cells = is.begun.begins.cells;
          slots = is.begun.begins.slots;
          rooms = is.begun.begins.rooms;
        };
        renaming = renaming ending;
        housed = (ended ending).2;
        outside = outside;
        seat = is.seat;
        paths = is.paths;
        cycle = is.cycle;
        segments = left_segments young is;
        workers = workers_are is.begun is.filled;
        stayed = left_stayed young is;
        tiles = segment_fills is.begun is.filled;
        young = left_young young is;
        few = left_few young is;
        moved = left_is_moved young is;
        alone = left_alone young is;
        promotes = promotes;
        stays = is.placed.promoted;
        left = is.filled.left;
        backs = is.filled.backs;
        apart = apart;
        rows = is.rows;
      }

  -- the heap that is left may be collected
  left_is_collectable : IsCollectable (heap_of new) (other_half new.young.half)
  left_is_collectable =
      let half : other_half new.young.half ≡ old.young.half =
      ap (λ (one : Young). other_half one.half) is.young ∙ omega (arith, young.half) in
      subst (IsCollectable (heap_of new)) (sym half)
      (subst (λ heap. IsCollectable heap old.young.half) (sym (left_is young is)) (is_collectable (ending_is young is)))

  -- each free run is one free cell of it
  left_is_free : AreFreeRuns (heap_of new) new.free
  left_is_free = subst (λ heap. AreFreeRuns heap new.free) (sym (left_is young is)) (runs_are_free (ending_is young is))

  -- and what is recorded is right
  left_is_remembered : AreRemembered (heap_of new) new.recorded.slots
  left_is_remembered =
      subst (λ heap. AreRemembered heap new.recorded.slots) (sym (left_is young is))
      (end_is_remembered (ending_is young is) new.recorded.slots is.kept)

  -- nothing is granted in it
  none_granted : 0 < new.young.granted.words → ⊥
  none_granted some = omega (arith, some, ap (λ (one : Young). one.granted.words) is.young)

  -- the heap that is left shows the graph
  still_shows : (graph : Graph) → MainShows old graph → MainShows new graph
  still_shows graph shows =
      let to = place_after (start_of old) homes in
      let moved = left_is_moved young is in
      record {
        tied = record {
          space = ap (λ (one : Young). one.space) is.young ∙ shows.tied.space ∙ sym is.seat.space;
          granted = λ some. absurd (none_granted some);
        };
        is_graph = shows.is_graph;
        calm = λ mark. absurd (is.quiet (sym is.seat.phase ∙ mark));
        shows = moves_show (heap_of old) (heap_of new) to graph (shows_for (Stays to) shows.shows) moved;
        collectable = left_is_collectable;
        free = left_is_free;
        apart = λ row one there among from below. none_granted (omega (arith, from, below));
        bounded = is.bound ∙ shows.bounded ∙ ap eden_start (sym is.seat.space);
        remembered = left_is_remembered;
      }

-- an end is a scavenge with the copies that were handed over, shows the graph, and keeps the rooms
pub ends_are_scavenges : EndsAreScavenges
unfolding scavenged
ends_are_scavenges old handed new graph all fixed homes words fill refused shows young free is =
    let to = place_after (start_of old) homes in
    record {
      scavenges = scavenged young is free;
      homes = left_handed young is;
      shows = still_shows young is graph shows;
      rooms = λ rooms. moves_keep_rooms (heap_of old) (heap_of new) to graph rooms (shows_for (Stays to) shows.shows)
          (left_is_moved young is);
      alone = left_in_one young is;
    }

-- so it is where that end is known in words of its own
pub ended_is : {old new : Mutator} {handed : List SegmentCopies} {all : Bool} (graph : Graph) → MainShows old graph
    → IsYoung old.young → AreFree new.free → HasEnded old handed new all → EndsWith old handed new graph all
ended_is {old} {new} {handed} {all} graph shows young free end =
    ends_are_scavenges old handed new graph all end.fixed end.homes end.words end.fill end.refused shows young free
    end.ended

-- and all graphs stay
pub ended_keeps : {old new : Mutator} {handed : List SegmentCopies} {all : Bool} → IsYoung old.young
    → AreFree new.free → HasEnded old handed new all → KeepsGraphs old new
ended_keeps young free end = record {
  shows = λ graph shown. (ended_is graph shown young free end).shows;
  rooms = λ graph rooms shown. (ended_is graph shown young free end).rooms rooms;
}
