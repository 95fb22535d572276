-- What a collection leaves that ends a cycle of marking.
use Rattle.std.specs.Prelude.{◌≡◌, ◌≢◌, ℕ, ◌+◌, ◌*◌, ◌<◌, ◌≤◌, ◌⊎◌, Bool, true, false, List, length, IsTrue}
use Rattle.tagged_word.specs.declared.layout.Kind.TheVariants as kind
use Rattle.tagged_word.specs.Cells.{is_free_kind}
use Rattle.page_space.specs.Sizes.{page_words}
use Rattle.page_space.specs.Extents.{eden_start}
use Rattle.free_runs.specs.FreeRuns.{AreFree}
use Rattle.free_runs.specs.Laws.{IsFreeWord}
use Rattle.object_graph.specs.Graphs.{Graph}
use Rattle.object_graph.specs.Reach.{is_marked, reach}
use Rattle.graph_laws.specs.ReachAfter.{StaysLost}
use Rattle.heap_model.specs.Types.{Cell, Run}
use Rattle.heap_model.specs.Heaps.{Heap, HasCell}
use Rattle.heap_model.specs.Kinds.{Pair}
use Rattle.heap_model.specs.Collectable.{AreFreeRuns}
use Rattle.heap_model.specs.Rooms.{RoomsAreNoFuller}
use Rattle.heap_model.specs.Showing.{Shows}
use Rattle.heap_model.specs.Slots.{IsPlace, RefersToPlace}
use Rattle.live_cells.specs.Cleared.{IsPairOfMap}
use Rattle.live_cells.specs.Exact.{IsNamedByObject, IsWordOf}
use Rattle.live_cells.specs.Laws.{BelongsToReached}
use Rattle.live_cells.specs.Live.{IsLive, IsRootTarget}
use Rattle.weak_pairs.specs.Pairs.{HasPairsAt, IsFilledAt}
use Rattle.write_barrier.specs.MutatorState.{Mutator}
use Rattle.scavenger.specs.Laws.{KeepsGraphs}
use Rattle.scavenger.specs.Scavenged.{Scavenges}
use Rattle.collector.specs.Collected.{LeavesExact, CollectsAll}
use Rattle.collector.specs.Images.{IsOfSomeCell}

-- What a cycle of marking began with: the heap after the `mark` that opened it, and the graph that this heap shows.
pub record Opening : Type 0 where
  pub heap : Heap
  pub graph : Graph

-- What a `mark` does that opens a cycle: a scavenge promotes all that lives, and no survivor stays young; or one stays,
-- since no free run had its words, and then the heap is fully collected.
pub data BeginsCycle (old new : Mutator) (graph : Graph) : Type 0 where
  promotes_all : Scavenges old new true → KeepsGraphs old new → new.young.survivors ≡ 0 → BeginsCycle old new graph
  collects_all : (mid : Mutator) → Scavenges old mid true → KeepsGraphs old mid → 0 < mid.young.survivors
      → CollectsAll mid new graph → BeginsCycle old new graph

-- whether the heap was fully collected for that
abbrev pub begins_fully : {old new : Mutator} {graph : Graph} → BeginsCycle old new graph → Bool
begins_fully (BeginsCycle.promotes_all scavenges keeps none) = false
begins_fully (BeginsCycle.collects_all mid scavenges keeps some collects) = true

-- The word was dead when the cycle began: it was one of a cell that was not free, and that belonged to nothing that
-- could be reached then.
abbrev pub WasDead : Opening → ℕ → Type 0
WasDead opening at =
    IsOfSomeCell opening.heap
    (λ was. (is_free_kind was.layout.kind ≡ false) × (BelongsToReached opening.heap opening.graph was.at → ⊥)) at

-- each word of a free cell of a page is in a free run
abbrev pub FreeIsRun : Heap → List (List Run) → Type 0
FreeIsRun heap rows =
    (cell : Cell) (words : List ℕ) (at : ℕ) → HasCell heap cell words → IsTrue (is_free_kind cell.layout.kind)
    → cell.at < eden_start heap.space → IsWordOf cell at → IsFreeWord rows at

-- A cell may stand in what a collection leaves of a heap that shows a graph: it is free, and of a page or in the place
-- of cells that were not live; or it stood there before; or it belongs to an object that can be reached.
pub data MayStand (old new : Heap) (graph : Graph) (cell : Cell) : Type 0 where
  free : IsTrue (is_free_kind cell.layout.kind) → cell.at < eden_start new.space → MayStand old new graph cell
  freed : IsTrue (is_free_kind cell.layout.kind) → ((at : ℕ) → IsWordOf cell at
      → IsOfSomeCell old (λ was. IsLive old (IsRootTarget old) was.at → ⊥) at) → MayStand old new graph cell
  stood : (words : List ℕ) → HasCell old cell words → MayStand old new graph cell
  reached : BelongsToReached new graph cell.at → MayStand old new graph cell

-- The cell of a page is a copy: it is not free, and it did not stand there before.
pub record IsCopy (old new : Heap) (cell : Cell) : Type 0 where
  pub words : List ℕ
  pub has : HasCell new cell words
  pub used : is_free_kind cell.layout.kind ≡ false
  pub of_page : cell.at < eden_start new.space
  pub fresh : (others : List ℕ) → HasCell old cell others → ⊥

-- Each of these pairs that holds something was one of those before, no two were the same one, and there are as many.
pub record AreSomePairsOf (before after : List Pair) : Type 0 where
  pub long : length after ≡ length before
  pub origin : ℕ → ℕ
  pub from : (at : ℕ) (pair : Pair) → IsFilledAt after at pair → IsFilledAt before (origin at) pair
  pub apart : (at other : ℕ) (pair another : Pair) → IsFilledAt after at pair → IsFilledAt after other another
      → origin at ≡ origin other → at ≡ other

-- A weak map of this number stands in the heap, and a pair of its table has the object of the other number as its key.
pub record HasPairOf (heap : Heap) (map key : ℕ) : Type 0 where
  pub at : ℕ
  pub place : IsPlace heap map at
  pub pair : Pair
  pub is : IsPairOfMap heap at pair
  pub of_key : RefersToPlace heap pair.key key

-- What a collection leaves that ends a cycle, of a heap that shows a graph, and whose pages have these free runs then.
pub record LeavesBorn (opening : Opening) (old new : Heap) (rows : List (List Run)) (graph : Graph) : Type 0 where
  pub space : new.space ≡ old.space
  pub shows : Shows new graph
  -- each object's cell is of an object that could be reached when the cycle began, or was made since
  pub born : (number at : ℕ) → IsPlace new number at
      → IsTrue (is_marked (reach opening.graph) number) ⊎ (length opening.graph.objects ≤ number)
  -- a cell of a page that is not free, and that belongs to nothing that can be reached, has no word that was dead when
  -- the cycle began
  pub no_dead_word : (cell : Cell) (words : List ℕ) → HasCell new cell words
      → is_free_kind cell.layout.kind ≡ false → cell.at < eden_start new.space
      → (BelongsToReached new graph cell.at → ⊥) → (at : ℕ) → IsWordOf cell at → WasDead opening at → ⊥
  -- a cell that is kept, and belongs to nothing that can be reached, has the words that it had, unless it is free, a
  -- weak map or a weak table
  pub words : (cell : Cell) (before after : List ℕ) → HasCell old cell before → HasCell new cell after
      → is_free_kind cell.layout.kind ≡ false → cell.layout.kind ≢ kind.Weak → cell.layout.kind ≢ kind.Table
      → (BelongsToReached new graph cell.at → ⊥) → after ≡ before
  -- a weak map that is kept, and belongs to nothing that can be reached, has no pair but its own ones, in a table of as
  -- many places
  pub pairs : (map : ℕ) (before after : List Pair) → HasPairsAt old map before → HasPairsAt new map after
      → (BelongsToReached new graph map → ⊥) → AreSomePairsOf before after
  -- a weak table that is kept, and that no object names, has the words that it had
  pub tables : (cell : Cell) (before after : List ℕ) → HasCell old cell before → HasCell new cell after
      → cell.layout.kind ≡ kind.Table → (IsNamedByObject new cell.at → ⊥) → after ≡ before
  -- a weak map has no pair of a key that it had none of
  pub keys : (map key : ℕ) → HasPairOf new map key → HasPairOf old map key
  -- no cell is made that nothing needs; and of the young generation only words of cells that were not live become free
  pub stands : (cell : Cell) (words : List ℕ) → HasCell new cell words → MayStand old new graph cell
  -- what is free in pages is in free runs; these are single free cells that neither overlap nor touch
  pub filled : FreeIsRun new rows
  pub free : AreFreeRuns new rows
  pub apart : AreFree rows
  -- each live cell of a page stands where it stood
  pub places : (cell : Cell) (words : List ℕ) → HasCell old cell words → cell.at < eden_start old.space
      → IsLive old (IsRootTarget old) cell.at → (others : List ℕ) × HasCell new cell others
  -- what came to a page took the front of a free run: where a free cell ends, no copy begins in its page
  pub fronts : (cell copy : Cell) (words : List ℕ) → HasCell new cell words → IsTrue (is_free_kind cell.layout.kind)
      → IsCopy old new copy → cell.at + cell.size ≡ copy.at → (page : ℕ) × (copy.at ≡ page_words * page)
  -- objects have stores of as many slots and tables of as many pairs, of which no more are filled
  pub rooms : RoomsAreNoFuller old new graph
  pub few : new.survivors + new.used ≤ old.survivors + old.used

-- A full collection leaves so much, if nothing came back since the cycle began.
abbrev pub ExactIsBorn : Type 0
ExactIsBorn =
    (opening : Opening) (old new : Heap) (rows : List (List Run)) (graph : Graph) → StaysLost opening.graph graph
    → Shows old graph → LeavesExact old new rows graph → LeavesBorn opening old new rows graph
