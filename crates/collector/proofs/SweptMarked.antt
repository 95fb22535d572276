-- Of a heap whose cells are marked, from any starts, clearing and sweeping keep just the marked ones.
use Rattle.std.proofs.Common.{◌≡◌, ℕ, ◌<◌, ◌↔◌, inr, false, List, Contains, IsTrue, slice_get, sym, ◌∙◌, ap, subst}
use Rattle.std.proofs.Common.{arith}
use Rattle.tagged_word.specs.Cells.{is_free_kind}
use Rattle.page_space.specs.Sizes.{AreWithin}
use Rattle.page_space.specs.Extents.{Space, eden_start}
use Rattle.free_runs.specs.Laws.{IsFreeWord}
use Rattle.nursery.specs.Young.{Young, no_run, other_half, with_granted}
use Rattle.object_graph.specs.Graphs.{Graph}
use Rattle.write_barrier.specs.Seats.{RestStays, heap_words}
use Rattle.write_barrier.specs.Staying.{rest_stays_again}
use Rattle.heap_model.specs.Types.{Cell}
use Rattle.heap_model.specs.Heaps.{Heap, HasCell, words_of_cell}
use Rattle.heap_model.specs.Kinds.{Pair}
use Rattle.heap_model.specs.Rooms.{RoomsAreNoFuller}
use Rattle.heap_model.specs.Slots.{IsWeakCellAt}
use Rattle.heap_model.specs.Showing.{Shows}
use Rattle.heap_model.specs.Collectable.{IsCollectable}
use Rattle.heap_model.specs.Remembered.{AreRemembered}
use Rattle.heap_model.proofs.RowCovers.{stretch_alike}
use Rattle.heap_model.proofs.RememberedSlots.{ends_in_page}
use Rattle.heap_moves.specs.Standing.{Stays}
use Rattle.heap_moves.proofs.AllStands.{shows_for}
use Rattle.heap_moves.proofs.MovedGraphs.{moves_show}
use Rattle.live_cells.specs.Exact.{IsWordOf}
use Rattle.live_cells.specs.Live.{IsLive, IsRootTarget}
use Rattle.write_barrier.specs.MutatorState.{Mutator, MayStore, heap_of, IsTied, AvoidsFree, MainShows}
use Rattle.object_cells.proofs.TakenRuns.{bumped_none}
use Rattle.weak_pairs.specs.Pairs.{HasPairsAt}
use Rattle.ephemeron_clear.specs.Clearing.{Clears}
use Rattle.sweeper.specs.Swept.{Sweeps, IsOfMarked, IsCellWord, place_if_marked}
use Rattle.collector.specs.Born.{FreeIsRun}
use Rattle.collector.specs.MarkSwept.{Ungrants, MarkedCellsStay, MarkedWordsStay, IsBesideMarkedMaps}
use Rattle.collector.specs.MarkSwept.{MarkedTablesStay, LeavesMarkedPairs, WasMarked, SweepsMarked}
use Rattle.collector.proofs.BesideMaps.{cell_beside}
use Rattle.collector.proofs.MarkedWords.{cell_is_kept, pairs_are_kept}
use Rattle.collector.proofs.MarkedTables.{marked_tables_stay}
use Rattle.collector.proofs.Ungranted.{none_avoids, heap_stays, ungranted_remembered}
use Rattle.collector.proofs.ClearedHeap.{IsMarked, are_maps, roots_are_marked, reached_is_marked, marked_is_used}
use Rattle.collector.proofs.ClearedHeap.{sweepable, still_collectable, still_shown}
use Rattle.collector.proofs.SweptObjects.{SweptAfter, marked_cells_stay, used_were_marked, with_marked_word}
use Rattle.collector.proofs.SweptObjects.{rooms_no_fuller}

-- From a heap that shows a graph, nothing was granted any more; of cells that were marked, from any starts, dead
-- entries were cleared; and what was not marked was made free. No cycle of marking was open, or it waited.
pub record Steps (old bare cleared new : Mutator) (graph : Graph) (given maps marked : List ℕ) : Type 0 where
  pub quiet : MayStore old
  pub shown : MainShows old graph
  pub within : AreWithin bare.seat.space.sizes bare.seat.space.variables
  pub ungrants : Ungrants old bare
  pub is_marked : IsMarked (heap_of bare) graph given maps marked
  pub clears : Clears bare cleared maps marked
  pub sweeps : Sweeps cleared new marked

-- A heap that shows a graph shows it where nothing is granted any more.
pub bare_shows : {old bare : Mutator} {graph : Graph} → MainShows old graph → Ungrants old bare
    → Shows (heap_of bare) graph
bare_shows {graph = graph} shown ungrants =
    subst (λ (heap : Heap). Shows heap graph) (sym (heap_stays ungrants)) shown.shows

module _ {old bare cleared new : Mutator} {graph : Graph} {given maps marked : List ℕ}
    (steps : Steps old bare cleared new graph given maps marked) where
  -- the graph is shown at the end
  shows : Shows (heap_of new) graph
  shows =
      moves_show (heap_of cleared) (heap_of new) (place_if_marked marked) graph
      (shows_for (Stays (place_if_marked marked)) (still_shown steps.within steps.is_marked steps.clears))
      steps.sweeps.moved

  -- what is left of objects
  pub after : SweptAfter bare cleared (heap_of new) graph maps marked
  after = record {
    shown = steps.is_marked.shows;
    takes = steps.clears.takes;
    marks = reached_is_marked steps.is_marked;
    moved = steps.sweeps.moved;
    shows = shows;
  }

  -- the words of marked cells are those that they had
  of_marked : (at : ℕ) → IsOfMarked (heap_of cleared) marked at ↔ IsOfMarked (heap_of bare) marked at
  of_marked at = (
    λ is. record {
      cell = is.cell;
      words = words_of_cell (heap_of bare) is.cell;
      has = steps.clears.takes.cells.stood is.cell is.words is.has;
      among = is.among;
      from = is.from;
      below = is.below;
    },
    λ is. record {
      cell = is.cell;
      words = words_of_cell (heap_of cleared) is.cell;
      has = steps.clears.takes.cells.stays is.cell is.words is.has;
      among = is.among;
      from = is.from;
      below = is.below;
    },
  )

  -- a word of a cell was one of a cell
  cell_words_were : (at : ℕ) → IsCellWord (heap_of new) at → IsCellWord (heap_of bare) at
  cell_words_were at is =
      let was = steps.sweeps.cells at is in record {
        cell = was.cell;
        words = words_of_cell (heap_of bare) was.cell;
        has = steps.clears.takes.cells.stood was.cell was.words was.has;
        from = was.from;
        below = was.below;
      }

  -- so free runs have all other words of pages
  pub swept_words : (at : ℕ) → at < eden_start bare.seat.space
      → IsFreeWord new.free at ↔ (IsOfMarked (heap_of bare) marked at → ⊥)
  swept_words at below =
      let space = steps.clears.takes.uses.beside.space in
      let in_page = subst (λ (one : Space). at < eden_start one) (sym space) below in
      let filled = steps.sweeps.filled at in_page in (
        λ free is. filled.0 free ((of_marked at).1 is),
        λ none. filled.1 (λ is. none ((of_marked at).0 is)),
      )

  -- a marked weak map was listed
  map_is_listed : (map : ℕ) → Contains marked map → IsWeakCellAt (heap_of bare) map → Contains maps map
  map_is_listed map among there =
      (steps.is_marked.told map).1 ((steps.is_marked.live map).0 among, there)

  -- words of marked cells are as they were, but counts and pairs of marked weak maps
  words_are_kept : (at : ℕ) → IsOfMarked (heap_of bare) marked at → IsBesideMarkedMaps (heap_of bare) marked at
      → slice_get (heap_words new.seat) at ≡ slice_get (heap_words bare.seat) at
  words_are_kept at is beside =
      steps.sweeps.outside at (inr ((of_marked at).1 is))
      ∙ steps.clears.takes.stay at (λ map listed.
      let told = (steps.is_marked.told map).0 listed in beside map ((steps.is_marked.live map).1 told.0) told.1)

  -- a marked cell has the words that it had, where it is neither a weak map nor a table
  other_words_stay : MarkedWordsStay (heap_of bare) (heap_of new) marked
  other_words_stay cell words has among no_map no_table =
      let takes = steps.clears.takes in
      let same : words_of_cell (heap_of cleared) cell ≡ words_of_cell (heap_of bare) cell =
      stretch_alike cell.at cell.size (heap_words bare.seat) (heap_words cleared.seat) (λ at from below.
      takes.stay at (cell_beside steps.is_marked.shows.whole steps.within maps at (are_maps steps.is_marked) has
      (record { from = from; below = below }) no_table (λ weak. absurd (no_map weak)))) in
      cell_is_kept steps.sweeps cell words
      (subst (HasCell (heap_of cleared) cell) (same ∙ has.words_are) (takes.cells.stays cell words has)) among

  -- so has a table that no object names in the end
  tables_stay : MarkedTablesStay (heap_of bare) (heap_of new) marked
  tables_stay =
      marked_tables_stay steps.is_marked.shows.whole steps.within (are_maps steps.is_marked) (λ map listed.
      (steps.is_marked.live map).1 ((steps.is_marked.told map).0 listed).0) steps.clears.takes steps.sweeps
      (marked_cells_stay after)

  -- of the pairs of marked weak maps those with marked keys are left
  pairs_are_left : (map : ℕ) (before : List Pair) → Contains marked map → HasPairsAt (heap_of bare) map before
      → LeavesMarkedPairs (heap_of new) map marked before
  pairs_are_left map before among had =
      let left = steps.clears.takes.left map before had in
      let there : IsWeakCellAt (heap_of bare) map = record {
        cell = had.cell;
        words = had.words;
        has = had.has;
        stands = had.stands;
        of_kind = had.of_kind;
      } in
      record {
        has = record {
          after = left.after;
          are = pairs_are_kept steps.sweeps map left.after (sweepable steps.within steps.is_marked steps.clears) among
              left.are;
          left = left.left;
        };
        keys = steps.clears.cleared map left.after (map_is_listed map among there) left.are;
      }

  -- so a free cell of a page has none
  free_is_unmarked : (cell : Cell) (words : List ℕ) (at : ℕ) → HasCell (heap_of new) cell words
      → IsTrue (is_free_kind cell.layout.kind) → cell.at < eden_start new.seat.space → IsWordOf cell at
      → IsOfMarked (heap_of bare) marked at → ⊥
  free_is_unmarked cell words at has free of_page word is =
      let was = with_marked_word (marked_cells_stay after) shows.whole.rows at has word is in
      let space : new.seat.space ≡ bare.seat.space =
      steps.sweeps.seat.space ∙ steps.clears.takes.uses.beside.space in
      marked_is_used steps.is_marked was.had was.among
      (subst (λ (one : Space). cell.at < eden_start one) space of_page) free

  -- so each word of it is in a free run
  filled : FreeIsRun (heap_of new) new.free
  filled cell words at has free of_page word =
      let space : new.seat.space ≡ bare.seat.space =
      steps.sweeps.seat.space ∙ steps.clears.takes.uses.beside.space in
      let below : at < eden_start new.seat.space = omega (arith, ends_in_page has of_page, word.below) in
      (swept_words at (subst (λ (one : Space). at < eden_start one) space below)).1
      (free_is_unmarked cell words at has free of_page word)

  -- the heap was as it is once nothing is granted
  pub same_heap : heap_of bare ≡ heap_of old
  same_heap = heap_stays steps.ungrants

  -- the young generation is as it was, but nothing is granted
  pub young_is : new.young ≡ with_granted old.young no_run
  young_is =
      steps.sweeps.young ∙ steps.clears.takes.uses.young ∙ bumped_none bare.young ∙ steps.ungrants.young

  -- so no free run begins in what is granted
  apart : AvoidsFree new.young.granted new.free
  apart = subst (λ (young : Young). AvoidsFree young.granted new.free) (sym young_is) (none_avoids new.free)

  -- regions and phase are the same
  pub rest : RestStays old.seat new.seat
  rest =
      rest_stays_again old.seat cleared.seat new.seat
      (rest_stays_again old.seat bare.seat cleared.seat steps.ungrants.beside steps.clears.takes.uses.beside)
      steps.sweeps.seat

  -- the parts agree
  tied : IsTied new
  tied = record {
    space = ap (λ (young : Young). young.space) steps.sweeps.young ∙ steps.clears.takes.tied.space
        ∙ sym steps.sweeps.seat.space;
    granted = λ some.
        let none : new.young.granted.words ≡ 0 = ap (λ (young : Young). young.granted.words) young_is in
        absurd (omega (arith, some, none));
  }

  -- the other half is empty
  collectable : IsCollectable (heap_of new) (other_half new.young.half)
  collectable =
      let half : ℕ = other_half old.young.half in
      let was : IsCollectable (heap_of bare) half =
      subst (λ (heap : Heap). IsCollectable heap half) (sym same_heap) steps.shown.collectable in
      subst (λ (young : Young). IsCollectable (heap_of new) (other_half young.half)) (sym young_is)
      (steps.sweeps.collectable half (still_collectable steps.within steps.is_marked steps.clears half was))

  -- recorded are addresses of pages, where nothing is granted
  bounded_bare : bare.recorded.bound ≡ eden_start bare.seat.space
  bounded_bare =
      steps.ungrants.touches.bound ∙ steps.shown.bounded
      ∙ ap (λ (space : Space). eden_start space) (sym steps.ungrants.beside.space)

  -- where dead entries are cleared
  bounded_cleared : cleared.recorded.bound ≡ eden_start cleared.seat.space
  bounded_cleared =
      steps.clears.takes.bound ∙ bounded_bare
      ∙ ap (λ (space : Space). eden_start space) (sym steps.clears.takes.uses.beside.space)

  -- and at the end
  bounded : new.recorded.bound ≡ eden_start new.seat.space
  bounded =
      steps.sweeps.bound ∙ bounded_cleared ∙ ap (λ (space : Space). eden_start space) (sym steps.sweeps.seat.space)

  -- and they are those that are to be
  remembered : AreRemembered (heap_of new) new.recorded.slots
  remembered =
      steps.sweeps.remembered bounded_cleared (steps.clears.takes.remembered bounded_bare
      (ungranted_remembered steps.ungrants steps.shown.bounded steps.shown.remembered))

  -- So the graph is shown.
  pub still_shows : MainShows new graph
  still_shows = record {
    tied = tied;
    is_graph = steps.shown.is_graph;
    calm = λ mark. absurd (steps.quiet (sym rest.phase ∙ mark));
    shows = shows;
    collectable = collectable;
    free = steps.sweeps.free;
    apart = apart;
    bounded = bounded;
    remembered = remembered;
  }

  -- And marked cells alone are kept.
  pub swept_marked : SweepsMarked old new marked graph
  swept_marked = record {
    shows = still_shows;
    cells = subst (λ (heap : Heap). MarkedCellsStay heap (heap_of new) marked) same_heap (marked_cells_stay after);
    live = subst (λ (heap : Heap). (at : ℕ) → IsLive heap (IsRootTarget heap) at → Contains marked at) same_heap
        (roots_are_marked steps.is_marked);
    used = subst (λ (heap : Heap). (cell : Cell) (words : List ℕ) → HasCell (heap_of new) cell words
        → is_free_kind cell.layout.kind ≡ false → WasMarked heap marked cell) same_heap (used_were_marked after);
    words = subst (λ (heap : Heap). (at : ℕ) → IsOfMarked heap marked at → IsBesideMarkedMaps heap marked at
        → slice_get (heap_words new.seat) at ≡ slice_get heap.words at) same_heap words_are_kept;
    pairs = subst (λ (heap : Heap). (map : ℕ) (before : List Pair) → Contains marked map → HasPairsAt heap map before
        → LeavesMarkedPairs (heap_of new) map marked before) same_heap pairs_are_left;
    others = subst (λ (heap : Heap). MarkedWordsStay heap (heap_of new) marked) same_heap other_words_stay;
    tables = subst (λ (heap : Heap). MarkedTablesStay heap (heap_of new) marked) same_heap tables_stay;
    of_cells = subst (λ (heap : Heap). (at : ℕ) → IsCellWord (heap_of new) at → IsCellWord heap at) same_heap
        cell_words_were;
    swept = subst (λ (heap : Heap). (at : ℕ) → at < eden_start heap.space
        → IsFreeWord new.free at ↔ (IsOfMarked heap marked at → ⊥)) same_heap swept_words;
    apart = steps.sweeps.apart;
    filled = filled;
    rows = steps.sweeps.rows ∙ ap (λ (space : Space). space.sizes.pages) (sym steps.sweeps.seat.space);
    rooms = subst (λ (heap : Heap). RoomsAreNoFuller heap (heap_of new) graph) same_heap (rooms_no_fuller after);
    seat = rest;
    paths = steps.sweeps.paths ∙ steps.clears.takes.paths ∙ steps.ungrants.paths;
    cycle = steps.sweeps.cycle ∙ steps.clears.takes.cycle ∙ steps.ungrants.cycle;
    young = young_is;
  }
