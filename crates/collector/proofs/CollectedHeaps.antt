-- A scavenge of a heap that was marked, cleared and swept, which promotes all that lives, leaves one that keeps exactly
-- what can be reached.
use Rattle.std.proofs.Common.{◌≡◌, ℕ, ◌<◌, ◌⊎◌, inl, inr, true, List, length, Option, Some, Contains}
use Rattle.std.proofs.Common.{sym, ◌∙◌, ap, subst, arith}
use Rattle.page_space.specs.Extents.{Space, eden_start}
use Rattle.nursery.specs.Young.{Young, in_eden}
use Rattle.free_runs.specs.Laws.{IsFreeWord}
use Rattle.object_graph.specs.Graphs.{Graph}
use Rattle.write_barrier.specs.Staying.{rest_stays_again}
use Rattle.heap_model.specs.Types.{Cell, Run}
use Rattle.heap_model.specs.Heaps.{HasCell}
use Rattle.heap_model.specs.Reaching.{IsTight}
use Rattle.heap_model.specs.Rooms.{RoomsAreNoFuller}
use Rattle.heap_model.proofs.CellsApart.{one_at}
use Rattle.live_cells.specs.Exact.{Exact}
use Rattle.live_cells.specs.Fitting.{DeadIsFree, IsOfReached}
use Rattle.live_cells.specs.Live.{IsLive, IsRootTarget}
use Rattle.live_cells.proofs.DeadIsFree.{live_used, moved_dead_is_free}
use Rattle.live_cells.proofs.ExactHeaps.{tight_is_exact}
use Rattle.live_cells.proofs.KeptOnly.{moved_keeps_no_other}
use Rattle.live_cells.proofs.LiveReached.{live_is_reached}
use Rattle.write_barrier.specs.MutatorState.{Mutator, heap_of, MainShows}
use Rattle.scavenger.specs.Starts.{start_of}
use Rattle.scavenger.specs.Scavenged.{Scavenges, place_after}
use Rattle.scavenger.specs.Laws.{KeepsGraphs}
use Rattle.scavenger.proofs.EndPlaces.{StaysAt, stays_at}
use Rattle.scavenger.proofs.PromotedCells.{scavenges_of_all_leave_stuck}
use Rattle.scavenger.proofs.TakenWords.{scavenges_take_words}
use Rattle.scavenger.proofs.Tight.{scavenges_are_tight}
use Rattle.collector.specs.MarkSwept.{MarkSweeps}
use Rattle.collector.specs.Collected.{LeavesExact, CollectsAll}
use Rattle.collector.specs.CollectionLaws.{SweptAndScavengedIsCollected}

module _ {old mid new : Mutator} {graph : Graph} (shown : MainShows old graph) (sweeps : MarkSweeps old mid graph)
    (scavenged : Scavenges mid new true) (keeps : KeepsGraphs mid new) where
  -- where what stood at an address stands behind the scavenge
  abbrev comes_to : ℕ → Option ℕ
  comes_to = place_after (start_of mid) scavenged.homes

  -- what stays of a page stays in its place
  in_place : (at now : ℕ) → at < eden_start mid.seat.space → comes_to at ≡ Some now → now ≡ at
  in_place at now below stays =
      elim (stays_at (start_of mid) scavenged.homes at now stays) [
        | StaysAt.in_page in_page none same ↦ sym same
        | StaysAt.at_home young is ↦ absurd (omega (arith, below, young))
      ]

  -- of young cells only those are kept that are reached
  tight : IsTight (heap_of new)
  tight = scavenges_are_tight mid new graph true sweeps.shows scavenged

  -- so exactly what can be reached is kept
  exact : Exact (heap_of new) graph
  exact =
      tight_is_exact (heap_of new) graph
      (moved_keeps_no_other (heap_of mid) (heap_of new) comes_to graph sweeps.keeps scavenged.moved) tight

  -- words of free runs are taken for cells alone that were reached
  taken : (at : ℕ) → IsFreeWord mid.free at → IsFreeWord new.free at ⊎ IsOfReached (heap_of mid) (heap_of new) at
  taken at free =
      elim ((scavenges_take_words mid new graph true sweeps.shows scavenged).0.taken at free) [
        | inl stays ↦ inl stays
        | inr promoted ↦ inr (record {
          cell = promoted.cell;
          words = promoted.words;
          had = promoted.had;
          reached = promoted.reached;
          now = promoted.now;
          others = promoted.others;
          has = promoted.has;
          from = promoted.from;
          below = promoted.below;
        })
      ]

  -- so each other word of a page is in one
  dead : DeadIsFree (heap_of new) new.free
  dead =
      moved_dead_is_free (heap_of mid) (heap_of new) comes_to graph mid.free new.free sweeps.keeps scavenged.moved
      in_place taken sweeps.dead

  -- no free run begins where a live cell stood
  no_run : (cell : Cell) (words : List ℕ) (row : List Run) (run : Run) → HasCell (heap_of old) cell words
      → IsLive (heap_of old) (IsRootTarget (heap_of old)) cell.at → Contains mid.free row → Contains row run
      → run.at ≡ cell.at → ⊥
  no_run cell words row run has live there among stands =
      let free = sweeps.shows.free row run there among in
      let same : cell ≡ free.cell =
      one_at (sweeps.cells cell words has live).1 free.has (sym (free.stands ∙ stands)) in
      let had = subst (λ (one : Cell). HasCell (heap_of old) one words) same has in
      let was_live = subst (λ (one : Cell). IsLive (heap_of old) (IsRootTarget (heap_of old)) one.at) same live in
      live_used had (live_is_reached (heap_of old) graph free.cell.at shown.shows was_live) free.free

  -- so each live cell of a page stands where it stood
  places : (cell : Cell) (words : List ℕ) → HasCell (heap_of old) cell words → cell.at < eden_start old.seat.space
      → IsLive (heap_of old) (IsRootTarget (heap_of old)) cell.at
      → (others : List ℕ) × HasCell (heap_of new) cell others
  places cell words has below live =
      let (took, promotes, promotes_no_other, keeps_places) =
      scavenges_take_words mid new graph true sweeps.shows scavenged in
      let swept = sweeps.cells cell words has live in
      let in_page = subst (λ (space : Space). cell.at < eden_start space) (sym sweeps.seat.space) below in
      let stays = keeps_places cell swept.0 swept.1 in_page
      (λ row run there among stands. no_run cell words row run has live there among stands) in
      let stood = took.moved.stands cell swept.0 cell.at swept.1 stays in
      (stood.others, stood.has)

  -- its room is no fuller
  rooms : RoomsAreNoFuller (heap_of old) (heap_of new) graph
  rooms now were number what has had object reached =
      sweeps.rooms now were number what ((keeps.rooms graph now sweeps.shows).1 has) had object reached

  -- the heap that is left
  leaves_exact : LeavesExact (heap_of old) (heap_of new) new.free graph
  leaves_exact =
      let survivors = ap (λ (one : Young). one.survivors) scavenged.young in
      let survived = ap (λ (one : Young). one.survivors) sweeps.young in
      let used = ap (λ (one : Young). one.used) sweeps.young in
      record {
        space = scavenged.seat.space ∙ sweeps.seat.space;
        exact = exact;
        dead = dead;
        free = (keeps.shows graph sweeps.shows).free;
        apart = scavenged.apart;
        swept = mid.free;
        swept_are = sweeps.swept;
        backs = scavenged.backs;
        places = places;
        rooms = rooms;
        emptied = ap (λ (one : Young). one.used) scavenged.young;
        stuck = scavenges_of_all_leave_stuck mid new graph sweeps.shows scavenged;
        tight = tight;
        few = omega (arith, survivors, survived, used, scavenged.few);
      }

  -- so all is collected, where each page had a row of free runs
  collects_all : length old.free ≡ old.seat.space.sizes.pages → CollectsAll old new graph
  collects_all rows =
      let pages = ap (λ (space : Space). space.sizes.pages) sweeps.seat.space in
      record {
        leaves = leaves_exact;
        shows = keeps.shows graph sweeps.shows;
        seat = rest_stays_again old.seat mid.seat new.seat sweeps.seat scavenged.seat;
        paths = scavenged.paths ∙ sweeps.paths;
        cycle = scavenged.cycle ∙ sweeps.cycle;
        rows = scavenged.rows ∙ sweeps.rows ∙ pages ∙ sym rows;
        ungranted = ap (λ (one : Young). in_eden one) scavenged.young;
      }

-- both together are a full collection
pub swept_and_scavenged_is_collected : SweptAndScavengedIsCollected
swept_and_scavenged_is_collected old mid new graph shows rows sweeps scavenged keeps =
    collects_all shows sweeps scavenged keeps rows
