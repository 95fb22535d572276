-- A heap whose cells are marked that are live from any starts, once dead entries are cleared: the same cells are
-- live, and these may be kept alone.
use Rattle.std.proofs.Common.{◌≡◌, ◌<◌, ℕ, ◌↔◌, inl, inr, false, IsTrue, List, Contains, sym, ◌∙◌, subst}
use Rattle.std.specs.Prelude.{nat_eq}
use Rattle.std.specs.List.{list_any}
use Rattle.std.proofs.lemmas.Bool.{eqb-true, false≢true}
use Rattle.std.proofs.lemmas.Cmp.{nat_eq_equiv}
use Rattle.std.proofs.lemmas.Map.Views.{list_any-from_Contains, Contains-from_any}
use Rattle.tagged_word.specs.Cells.{is_free_kind}
use Rattle.page_space.specs.Sizes.{AreWithin}
use Rattle.page_space.specs.Extents.{Space, eden_start}
use Rattle.object_graph.specs.Graphs.{Graph}
use Rattle.heap_model.specs.Types.{Cell}
use Rattle.heap_model.specs.Heaps.{Heap, HasCell, words_of_cell}
use Rattle.heap_model.specs.Slots.{reference_word, IsWeakCellAt}
use Rattle.heap_model.specs.Kinds.{Pair}
use Rattle.heap_model.specs.Showing.{Shows}
use Rattle.heap_model.specs.Collectable.{IsInHalf, IsCollectable}
use Rattle.heap_model.proofs.CellsApart.{one_at}
use Rattle.heap_model.proofs.WordClasses.{same_reference}
use Rattle.live_cells.specs.Live.{IsLive, IsRootTarget, IsStart, AreNoTables, AreLive, AreLiveFrom}
use Rattle.live_cells.specs.Cleared.{HasLiveKeysFrom, IsPairOfMap}
use Rattle.live_cells.proofs.ClearedLive.{taken_pairs_leave_live, taken_pairs_leave_starts}
use Rattle.live_cells.proofs.LiveClosed.{live_is_closed_from_starts}
use Rattle.live_cells.proofs.ReachedMarked.{places_marked}
use Rattle.live_cells.proofs.TablesOfMaps.{maps_tell_from_starts}
use Rattle.write_barrier.specs.MutatorState.{Mutator, heap_of}
use Rattle.ephemeron_clear.specs.Clearing.{AreMaps, MarksReached, Clears}
use Rattle.ephemeron_mark.specs.Marked.{Marked, IsLiveFrom}
use Rattle.ephemeron_mark.proofs.LiveAgain.{live_through}
use Rattle.ephemeron_mark.proofs.LiveStands.{live_is_used}
use Rattle.sweeper.specs.Swept.{IsSweepable}
use Rattle.collector.specs.MarkSwept.{IsMarkedFrom}
use Rattle.collector.proofs.TakenPairs.{pair_filled, pairs_of_map, pairs_taken}

-- The heap shows the graph; these are the cells that are live from those that a marking was given, and from variables;
-- and these are the weak maps among them.
pub record IsMarked (heap : Heap) (graph : Graph) (given maps marked : List ℕ) : Type 0 where
  pub shows : Shows heap graph
  pub tables : AreNoTables heap (Contains given)
  pub used : (cell : Cell) (words : List ℕ) → HasCell heap cell words → Contains given cell.at
      → cell.at < eden_start heap.space → is_free_kind cell.layout.kind ≡ false
  pub live : AreLiveFrom heap (IsStart heap given) marked
  pub told : (at : ℕ) → Contains maps at ↔ (IsLiveFrom heap given at × IsWeakCellAt heap at)

-- the cells and the weak maps that a marking found are such
pub marked_by : {heap : Heap} {graph : Graph} {given maps marked : List ℕ} (found : Marked) → Shows heap graph
    → marked ≡ found.cells → maps ≡ found.maps → IsMarkedFrom heap given found
    → IsMarked heap graph given maps marked
marked_by {heap} {given = given} found shows same_cells same_maps is = record {
  shows = shows;
  tables = is.tables;
  used = is.used;
  live = subst (AreLiveFrom heap (IsStart heap given)) (sym same_cells) is.live;
  told = subst (λ (all : List ℕ). (at : ℕ) → Contains all at ↔ (IsLiveFrom heap given at × IsWeakCellAt heap at))
      (sym same_maps) is.maps;
}

-- weak maps stand there
pub are_maps : {heap : Heap} {graph : Graph} {given maps marked : List ℕ} → IsMarked heap graph given maps marked
    → AreMaps heap maps
are_maps is map among = ((is.told map).0 among).1

-- what is live from root words is marked
pub roots_are_marked : {heap : Heap} {graph : Graph} {given maps marked : List ℕ}
    → IsMarked heap graph given maps marked → (at : ℕ) → IsLive heap (IsRootTarget heap) at → Contains marked at
roots_are_marked is at live =
    (is.live at).1 (live_through (λ one target. IsLive.start one (IsStart.root target)) at live)

-- so each object that can be reached is marked
pub reached_is_marked : {heap : Heap} {graph : Graph} {given maps marked : List ℕ}
    → IsMarked heap graph given maps marked → MarksReached heap marked graph
reached_is_marked {marked = marked} is number at reached place =
    Contains-from_any eqb-true at marked (places_marked (λ one. list_any (nat_eq one) marked) is.shows
    (λ there target. list_any-from_Contains nat_eq_equiv there marked
    ((is.live there).1 (IsLive.start there (IsStart.root target))))
    (record {
      slots = λ from there passes slot.
          let live = (is.live from).0 (Contains-from_any eqb-true from marked passes) in
          list_any-from_Contains nat_eq_equiv there marked ((is.live there).1 (IsLive.slot from there live slot));
      entries = λ table key there of_table of_key entry.
          let table_live = (is.live table).0 (Contains-from_any eqb-true table marked of_table) in
          let key_live = (is.live key).0 (Contains-from_any eqb-true key marked of_key) in
          list_any-from_Contains nat_eq_equiv there marked
          ((is.live there).1 (IsLive.entry table key there table_live key_live entry));
    }) number at reached place)

-- and no cell that is marked in a page is free
pub marked_is_used : {heap : Heap} {graph : Graph} {given maps marked : List ℕ} {cell : Cell} {words : List ℕ}
    → IsMarked heap graph given maps marked → HasCell heap cell words → Contains marked cell.at
    → cell.at < eden_start heap.space → IsTrue (is_free_kind cell.layout.kind) → ⊥
marked_is_used {cell = cell} {words} is has among of_page free =
    elim (live_is_used is.shows.whole cell.at ((is.live cell.at).0 among)) [
      | inl there ↦ false≢true (sym (is.used cell words has there of_page) ∙ free)
      | inr used ↦
          used.used (subst (λ (one : Cell). IsTrue (is_free_kind one.layout.kind))
          (one_at has used.has (sym used.stands)) free)
    ]

module _ {old new : Mutator} {graph : Graph} {given maps marked : List ℕ}
    (within : AreWithin old.seat.space.sizes old.seat.space.variables)
    (is : IsMarked (heap_of old) graph given maps marked) (clears : Clears old new maps marked) where
  -- the same cells are live
  pub still_live : AreLiveFrom (heap_of new) (IsStart (heap_of new) given) marked
  still_live =
      taken_pairs_leave_starts (heap_of old) (heap_of new) given marked is.shows.whole is.tables is.live
      (pairs_taken is.shows.whole within (are_maps is) clears.takes)

  -- so they are where just those are marked that are live from root words
  pub still_exact : AreLive (heap_of old) marked → AreLive (heap_of new) marked
  still_exact live =
      taken_pairs_leave_live (heap_of old) (heap_of new) graph marked is.shows live
      (pairs_taken is.shows.whole within (are_maps is) clears.takes)

  -- the graph is shown
  pub still_shown : Shows (heap_of new) graph
  still_shown = clears.takes.shows graph is.shows (reached_is_marked is)

  -- no given cell is a table
  still_no_tables : AreNoTables (heap_of new) (Contains given)
  still_no_tables cell words has there =
      is.tables cell (words_of_cell (heap_of old) cell) (clears.takes.cells.stood cell words has) there

  -- each key of a live map is marked
  key_marked : (map key : ℕ) (pair : Pair) → Contains marked map → IsPairOfMap (heap_of new) map pair
      → pair.key ≡ reference_word key → Contains marked key
  key_marked map key pair among of_map key_is =
      let had : IsWeakCellAt (heap_of old) map = record {
        cell = of_map.cell;
        words = words_of_cell (heap_of old) of_map.cell;
        has = clears.takes.cells.stood of_map.cell of_map.words of_map.has;
        stands = of_map.stands;
        of_kind = of_map.of_kind;
      } in
      let listed : Contains maps map = (is.told map).1 ((is.live map).0 among, had) in
      let marks = clears.cleared map of_map.holds.pairs listed (pairs_of_map of_map) of_map.holds.at pair
      (pair_filled of_map.holds.at key of_map.holds.stands key_is) in
      subst (Contains marked) (same_reference marks.at key (sym marks.refers ∙ key_is)) marks.among

  -- so each key of a live table is live
  keys_live : HasLiveKeysFrom (heap_of new) (IsStart (heap_of new) given)
  keys_live =
      maps_tell_from_starts (heap_of new) given marked still_shown.whole still_no_tables still_live key_marked

  -- and what is marked may be kept alone
  pub sweepable : IsSweepable (heap_of new) marked
  sweepable = record {
    roots = λ variable at known holds.
        (still_live at).1
        (IsLive.start at (IsStart.root (record { variable = variable; within = known; refers = holds })));
    slots = λ cell words offset at has among visited holds.
        (still_live at).1 (live_is_closed_from_starts (heap_of new) given cell words offset at still_shown.whole
        still_no_tables keys_live ((still_live cell.at).0 among) has visited holds);
  }

  -- a half that was empty is
  pub still_collectable : (half : ℕ) → IsCollectable (heap_of old) half → IsCollectable (heap_of new) half
  still_collectable half collectable = record {
    empty = λ cell words has in_half.
        collectable.empty cell (words_of_cell (heap_of old) cell) (clears.takes.cells.stood cell words has)
        (subst (λ (space : Space). IsInHalf space half cell.at) clears.takes.uses.beside.space in_half);
  }
