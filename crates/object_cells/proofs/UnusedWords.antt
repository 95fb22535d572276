-- The words in which the next cells are made: where they stand, and that no cell but fillers has one of them.
use Rattle.std.proofs.Common.{◌≡◌, ◌≢◌, ℕ, ◌+◌, ◌≤◌, ◌<◌, ◌⊎◌, inl, inr, List, ap, IsTrue}
use Rattle.std.proofs.Common.{refl, sym, subst, arith}
use Rattle.std.proofs.lemmas.Bool.{cases_lt}
use Rattle.page_space.specs.declared.region.Region.TheVariants.{Eden}
use Rattle.page_space.specs.Extents.{Extent, Space, CellsEndAt, ContainsAddress, is_cell_region}
use Rattle.page_space.specs.Extents.{eden_start, segments_start, layouts_start, marks_start}
use Rattle.page_space.specs.Sizes.{AreWithin}
use Rattle.page_space.proofs.CellAddresses.{cells_end}
use Rattle.page_space.proofs.Covering.{disjoint}
use Rattle.page_space.proofs.Limits.{words_count_most}
use Rattle.page_space.proofs.Starts.{roots_start_is, layouts_start_is, marks_start_is, board_start_is, words_count_is}
use Rattle.nursery.specs.Young.{HasRoom}
use Rattle.heap_model.specs.Types.{Cell}
use Rattle.heap_model.specs.Heaps.{Heap, HasCell}
use Rattle.heap_model.specs.Wholeness.{HasRows}
use Rattle.heap_model.specs.Changes.{AreFillers}
use Rattle.heap_model.proofs.CellsApart.{IsOfCell, cell_extent_stands, first_of_cell, has_is_cell}
use Rattle.heap_model.proofs.RunCells as runs
use Rattle.write_barrier.specs.MutatorState.{Mutator, heap_of, IsTied, reserved}
use Rattle.word_store.specs.Copies.{AreDisjoint}
use Rattle.tagged_word.specs.declared.layout.Kind.TheVariants as kind
use Rattle.tagged_word.specs.Cells.{store_head}
use Rattle.object_cells.specs.declared.stores.Store.{Store}
use Rattle.object_cells.specs.Contents.{next_at}
use Rattle.object_cells.specs.Made.{IsStoreAt}
use Rattle.object_cells.proofs.RunCells.{AreOfRegion}
use Rattle.object_cells.proofs.TakenRuns.{Taking, taking, first_fillers, taken_run, room_stays}

-- words for which there is room end before the segments
before_segments_by : (main : Mutator) (need : ℕ) → IsTied main → Taking main.young need
    → next_at main + need ≤ segments_start main.seat.space
before_segments_by main need tied (Taking.of_eden takes) =
    subst (λ (space : Space). next_at main + need ≤ segments_start space) tied.space
    (omega (arith, takes.next, takes.room))
before_segments_by main need tied (Taking.of_granted takes) =
    omega (arith, takes.next, takes.room, (tied.granted takes.some).of_page)

-- where cells are made next is before the segments
pub next_before_segments : (main : Mutator) (need : ℕ) → IsTied main → HasRoom main.young need
    → next_at main + need ≤ segments_start main.seat.space
next_before_segments main need tied room = before_segments_by main need tied (taking main.young need room)

-- so they end before the layout words
pub next_before_layouts : (main : Mutator) (need : ℕ) → IsTied main → HasRoom main.young need
    → next_at main + need ≤ layouts_start main.seat.space
next_before_layouts main need tied room =
    let space = main.seat.space in
    omega (arith, next_before_segments main need tied room, roots_start_is space, layouts_start_is space)

-- and before the marks
pub next_before_marks : (main : Mutator) (need : ℕ) → IsTied main → HasRoom main.young need
    → next_at main + need ≤ marks_start main.seat.space
next_before_marks main need tied room =
    let space = main.seat.space in
    omega (
      arith,
      next_before_segments main need tied room,
      roots_start_is space,
      layouts_start_is space,
      marks_start_is space,
    )

-- so a run of the first of them does, whatever changes beside the regions
pub run_before_marks : (main : Mutator) (need at : ℕ) (space : Space) → IsTied main → HasRoom main.young need
    → at ≡ next_at main → space ≡ main.seat.space → at + need ≤ marks_start space
run_before_marks main need at space tied room is same =
    omega (arith, next_before_marks main need tied room, is, ap (λ (one : Space). marks_start one) same)

-- and before the layout words
pub run_before_layouts : (main : Mutator) (need at : ℕ) (space : Space) → IsTied main → HasRoom main.young need
    → at ≡ next_at main → space ≡ main.seat.space → at + need ≤ layouts_start space
run_before_layouts main need at space tied room is same =
    omega (arith, next_before_layouts main need tied room, is, ap (λ (one : Space). layouts_start one) same)

-- the address behind the last word before the marks has 32 bits
pub marks_fit : (space : Space) → AreWithin space.sizes space.variables → marks_start space < 4294967296
marks_fit space within =
    omega (arith, words_count_most space within, marks_start_is space, board_start_is space, words_count_is space)

-- So many words from an address on in which cells may be made: they are of one region of cells, and no cell but
-- fillers has one of them.
pub record IsUnusedRun (heap : Heap) (at need : ℕ) : Type 0 where
  pub region : AreOfRegion heap.space at (at + need)
  pub ends : at + need ≤ segments_start heap.space
  pub within : at + need ≤ layouts_start heap.space
  pub beside : (cell : Cell) (words : List ℕ) (a : ℕ) → HasCell heap cell words → IsOfCell cell a → at ≤ a
      → a < at + need → cell.layout.kind ≡ kind.Filler

-- fillers are of one region
filler_stands : {heap : Heap} {from to : ℕ} (at : ℕ) → (fillers : AreFillers heap from to) → from ≤ at → at < to
    → CellsEndAt heap.space at (fillers.extent.start + fillers.extent.words)
filler_stands {heap} at fillers from below =
    let space = heap.space in
    let one = fillers.each at from below in
    let stands = (has_is_cell one.has).stands in
    let holds : ContainsAddress fillers.extent at =
    record { from = omega (arith, fillers.begins, from); below = omega (arith, fillers.ends, below) } in
    let there = cell_extent_stands space fillers.extent fillers.among in
    let same : stands.extent ≡ fillers.extent =
    disjoint space stands.extent fillers.extent at stands.stands there
    (subst (ContainsAddress stands.extent) one.stands stands.holds) holds in
    record {
      extent = fillers.extent;
      stands = there;
      of_cells = subst (λ (extent : Extent). IsTrue (is_cell_region extent.region)) same stands.of_cells;
      holds = holds;
      ends = refl;
    }

-- fillers of a page stand in one region
fillers_region : {heap : Heap} {from to : ℕ} → AreFillers heap from to → AreOfRegion heap.space from to
fillers_region {heap} fillers = record {
  end = fillers.extent.start + fillers.extent.words;
  ends = fillers.ends;
  below = omega (arith, fillers.of_page);
  each = λ at from below. filler_stands at fillers from below;
}

-- so are words of eden
eden_region : (space : Space) (from to : ℕ) → eden_start space ≤ from → to ≤ segments_start space
    → AreOfRegion space from to
eden_region space from to above below = record {
  end = segments_start space;
  ends = below;
  below = below;
  each = λ at begins ends. cells_end space Eden at (segments_start space) refl
      (record { is_region = tt; from = omega (arith, above, begins); below = omega (arith, below, ends) }) refl;
}

-- and so the next ones, where there is room
region_by : (main : Mutator) (need : ℕ) → IsTied main → Taking main.young need
    → next_at main + need ≤ segments_start main.seat.space
    → AreOfRegion main.seat.space (next_at main) (next_at main + need)
region_by main need tied (Taking.of_eden takes) ends =
    eden_region main.seat.space (next_at main) (next_at main + need)
    (omega (arith, takes.next, ap (λ (space : Space). eden_start space) tied.space)) ends
region_by main need tied (Taking.of_granted takes) ends =
    subst (λ at. AreOfRegion main.seat.space at (at + need)) (sym takes.next)
    (fillers_region (first_fillers (main.young.granted.at + need) (tied.granted takes.some)
    (omega (arith, takes.room))))

-- no cell but fillers has one of the next words
fillers_only : {main : Mutator} {cell : Cell} {words : List ℕ} (need a : ℕ) → IsTied main → HasRows (heap_of main)
    → HasRoom main.young need → HasCell (heap_of main) cell words → IsOfCell cell a → next_at main ≤ a
    → a < next_at main + need → cell.layout.kind ≡ kind.Filler
fillers_only {main = main} need a tied rows room has of_cell from below =
    let new : Mutator = reserved main need in
    let few = room_stays new need tied rows room refl refl in
    (runs.run_beside (next_at main) (next_at main + need) a rows (omega (arith, few))
    (taken_run new need tied room refl refl) has of_cell from below).0

-- so the next words are such a run, where there is room
pub next_run : (main : Mutator) (need : ℕ) → IsTied main → HasRows (heap_of main) → HasRoom main.young need
    → IsUnusedRun (heap_of main) (next_at main) need
next_run main need tied rows room =
    let ends = next_before_segments main need tied room in
    let space = main.seat.space in
    record {
      region = region_by main need tied (taking main.young need room) ends;
      ends = ends;
      within = omega (arith, ends, roots_start_is space, layouts_start_is space);
      beside = λ cell words a has of_cell from below. fillers_only need a tied rows room has of_cell from below;
    }

-- a cell that is no filler has no word of a run
pub run_beside : {heap : Heap} {cell : Cell} {words : List ℕ} {at need : ℕ} (a : ℕ) → IsUnusedRun heap at need
    → cell.layout.kind ≢ kind.Filler → HasCell heap cell words → IsOfCell cell a → at ≤ a → a < at + need → ⊥
run_beside {cell = cell} {words} a run no_filler has of_cell from below =
    no_filler (run.beside cell words a has of_cell from below)

-- nor has it one of the next words
pub next_apart : {main : Mutator} {cell : Cell} {words : List ℕ} (need a : ℕ) → IsTied main → HasRows (heap_of main)
    → HasRoom main.young need → cell.layout.kind ≢ kind.Filler → HasCell (heap_of main) cell words → IsOfCell cell a
    → next_at main ≤ a → a < next_at main + need → ⊥
next_apart need a tied rows room no_filler has of_cell from below =
    no_filler (fillers_only need a tied rows room has of_cell from below)

-- so it ends before the run, or begins behind it
pub cell_around : {heap : Heap} {cell : Cell} {words : List ℕ} {at need : ℕ} → IsUnusedRun heap at need → 0 < need
    → cell.layout.kind ≢ kind.Filler → HasCell heap cell words
    → (cell.at + cell.size ≤ at) ⊎ (at + need ≤ cell.at)
cell_around {cell = cell} {at = at} {need} run some no_filler has = elim (cases_lt at (cell.at + cell.size)) [
  | inr before ↦ inl before
  | inl from ↦ elim (cases_lt cell.at (at + need)) [
    | inr behind ↦ inr behind
    | inl below ↦ elim (cases_lt cell.at at) [
      | inl low ↦
          absurd (run_beside at run no_filler has (record { from = omega (arith, low); below = from })
          (omega arith) (omega (arith, some)))
      | inr high ↦
          absurd (run_beside cell.at run no_filler has (first_of_cell has) high below)
    ]
  ]
]

-- so a store does that stands beside an object and has slots
pub store_around : {heap : Heap} {at need object : ℕ} {store : Store} → IsUnusedRun heap at need
    → IsStoreAt heap object store → 0 < need → 0 < store.capacity
    → (store.at + (store_head + store.capacity) ≤ at) ⊎ (at + need ≤ store.at)
store_around run is some slots = elim is.used [
  | inl none ↦ absurd (omega (arith, none, slots))
  | inr range ↦ elim (cell_around run some range.no_filler range.has) [
    | inl before ↦ inl (omega (arith, before, range.ends))
    | inr behind ↦ inr (omega (arith, behind, range.starts))
  ]
]

-- so a store that is made of a run has no slot at the address of one of that store
pub run_apart : {heap : Heap} {at need : ℕ} (object : ℕ) (store : Store) → IsUnusedRun heap at need
    → IsStoreAt heap object store → store_head + store.capacity ≤ need
    → AreDisjoint (store.at + store_head) (at + store_head) store.capacity
run_apart {at = at} object store run is fits = elim (cases_lt 0 store.capacity) [
  | inl some ↦ elim (store_around run is (omega (arith, fits)) some) [
    | inl before ↦ inl (omega (arith, before))
    | inr behind ↦ inr (omega (arith, behind, fits))
  ]
  | inr none ↦ elim (cases_lt at store.at) [
    | inl before ↦ inr (omega (arith, before, none))
    | inr behind ↦ inl (omega (arith, behind, none))
  ]
]
