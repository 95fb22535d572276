-- A heap that was just opened is whole, and shows the graph of no object; no cell stands in a half.
use Rattle.std.proofs.Common.{◌≡◌, ℕ, ◌-◌, ◌<◌, List, [], ◌∷◌, map, length, Contains, IsTrue}
use Rattle.std.proofs.Common.{refl, sym, ◌∙◌, ap, subst, arith}
use Rattle.std.specs.Ordering.{nat_cmp}
use Rattle.std.specs.FinMap.{get-empty}
use Rattle.std.proofs.lemmas.Bool.{false≢true}
use Rattle.std.proofs.lemmas.Option.{none-some}
use Rattle.std.proofs.lemmas.List.{map-id}
use Rattle.std.proofs.lemmas.List.Elements.{All-map, All-contains_itself}
use Rattle.std.proofs.lemmas.List.Sums.{sum_by-cons}
use Rattle.std.proofs.lemmas.Simd.{map-map}
use Rattle.tagged_word.specs.Cells.{scavenge_offsets, is_object_kind}
use Rattle.heap_model.specs.Types.{Region, Cell}
use Rattle.page_space.specs.declared.region.Region.TheVariants.{Page, Eden, Segment, Root, Layout, Mark, Board, Outside}
use Rattle.page_space.specs.Extents.{Extent}
use Rattle.page_space.proofs.Lists.{contains_none}
use Rattle.nursery.specs.Young.{Young, other_half}
use Rattle.remembered_set.specs.Recorded.{Recorded}
use Rattle.object_graph.specs.Graphs.{start}
use Rattle.object_graph.proofs.FirstPaths.{empty_paths_are, length-empty_paths}
use Rattle.object_graph.proofs.FirstGraph.{start_is_graph}
use Rattle.shape_tree.specs.Shapes.{AreShapes}
use Rattle.handle_roots.specs.declared.held.Held.TheVariants as held
use Rattle.handle_roots.specs.Roots.{Holds}
use Rattle.heap_model.specs.Heaps.{Row, IsUsedRow, AreRows, HasCell, cell_extents, survivors_in, survivors_of}
use Rattle.heap_model.specs.Slots.{IsPlace}
use Rattle.heap_model.specs.Kinds.{IsSoundCell}
use Rattle.heap_model.specs.Wholeness.{Whole, HasSizes, HasRows}
use Rattle.heap_model.specs.Collectable.{IsCollectable}
use Rattle.heap_model.specs.Remembered.{IsSlotOf, AreRemembered}
use Rattle.heap_model.proofs.StaysCollectable.{half_behind}
use Rattle.heap_model.specs.Showing.{Shows, ShowsHeld}
use Rattle.heap_model.specs.Showing.ShowsHeld.{unbound}
use Rattle.write_barrier.specs.MutatorState.{Mutator, IsTied, MainShows, IsOpened, heap_of}
use Rattle.write_barrier.proofs.SlotCycles.{quiet_idle}
use Rattle.write_barrier.specs.Opening.{IsStarted}
use Rattle.write_barrier.proofs.FirstCells.{page_gap, first_row, first_end, first_row_stands, has_gaps}
use Rattle.write_barrier.proofs.FirstCells.{begins_below_eden}
use Rattle.write_barrier.proofs.FirstRuns.{first_are_free}

-- no segment has survivors
no_survivors_in : (region : Region) (extent : Extent) → region ≡ extent.region
    → survivors_in (first_row extent) region ≡ 0
no_survivors_in (Segment half worker) extent same =
    ap (λ (r : Region). first_end r extent.start extent.words - extent.start) (sym same) ∙ omega arith
no_survivors_in (Page page) extent same = refl
no_survivors_in Eden extent same = refl
no_survivors_in (Root variable) extent same = refl
no_survivors_in (Layout shape) extent same = refl
no_survivors_in (Mark mark) extent same = refl
no_survivors_in (Board place) extent same = refl
no_survivors_in Outside extent same = refl

-- so there are none
no_survivors : (extents : List Extent) → survivors_of (map first_row extents) ≡ 0
no_survivors [] = refl
no_survivors (extent ∷ extents) =
    sum_by-cons (λ (row : Row). survivors_in row row.extent.region) (first_row extent) (map first_row extents)
    ∙ omega (arith, no_survivors_in extent.region extent refl, no_survivors extents)

-- a row stands in each region of cells
rows_are : (main : Mutator) → IsStarted main → AreRows (heap_of main) (map first_row (cell_extents main.seat.space))
rows_are main is = record {
  everywhere = map-map (λ (row : Row). row.extent) first_row (cell_extents main.seat.space)
      ∙ map-id (cell_extents main.seat.space);
  each = All-map (IsUsedRow (heap_of main)) first_row (cell_extents main.seat.space)
      (λ k extent below. first_row_stands main _ is (All-contains_itself
      (cell_extents main.seat.space) k extent below));
}

-- the survivors and the used words are none
has_rows : (main : Mutator) → IsStarted main → HasRows (heap_of main)
has_rows main is = record {
  rows = map first_row (cell_extents main.seat.space);
  are = rows_are main is;
  counted = no_survivors (cell_extents main.seat.space) ∙ sym (ap (λ (young : Young). young.survivors) is.young);
  few = omega (arith, ap (λ (young : Young). young.survivors) is.young, ap (λ (young : Young). young.used) is.young);
}

-- the words are as many as there should be, with the layout words of the nine empty paths
has_sizes : (main : Mutator) → IsStarted main → HasSizes (heap_of main)
has_sizes main is = record {
  words = is.count;
  shapes = subst AreShapes (sym is.paths) (record { are = empty_paths_are; few = omega (arith, length-empty_paths) });
  layouts = is.layouts;
}

-- no cell is an object's
no_objects : (main : Mutator) (cell : Cell) (words : List ℕ) → IsStarted main → HasCell (heap_of main) cell words
    → IsTrue (is_object_kind cell.layout.kind) → ⊥
no_objects main cell words is has object =
    let gap = has_gaps main cell words is has in
    false≢true (ap (λ (c : Cell). is_object_kind c.layout.kind) gap.1 ∙ object)

-- no number has a place
no_places : (main : Mutator) (number at : ℕ) → IsStarted main → IsPlace (heap_of main) number at → ⊥
no_places main number at is place = no_objects main place.cell place.words is place.has place.object

-- each variable is bound to nothing
holds_nothing : (main : Mutator) (variable : ℕ) → IsStarted main → variable < main.seat.space.variables
    → Holds main.seat.space (heap_of main).words variable held.Unbound
holds_nothing main variable is below =
    record { fits = tt; first = is.unbound variable below; second = is.seconds variable below }

-- the heap is whole
first_is_whole : (main : Mutator) → IsStarted main → Whole (heap_of main)
first_is_whole main is = record {
  sized = has_sizes main is;
  rows = has_rows main is;
  roots = λ variable below. record { held = held.Unbound; holds = holds_nothing main variable is below; is = tt };
  sound = λ cell words has. let gap = has_gaps main cell words is has in
      subst (λ (c : Cell). IsSoundCell (heap_of main) c words) gap.1 refl;
  owned = λ owner another slot other named names names_too.
      absurd (no_objects main owner names.words is names.has names.object);
}

-- it shows the graph of no object
first_shows : (main : Mutator) → IsStarted main → Shows (heap_of main) start
first_shows main is = record {
  whole = first_is_whole main is;
  paths = is.paths;
  bindings = λ variable below. record {
    held = held.Unbound;
    holds = holds_nothing main variable is below;
    shows = subst (ShowsHeld (heap_of main) held.Unbound) (sym (get-empty nat_cmp variable)) unbound;
  };
  no_others = λ variable behind. get-empty nat_cmp variable;
  reached = λ number what there marked. absurd (none-some what there);
  made = λ number at place. absurd (no_places main number at is place);
}

-- no cell stands in either half
first_is_collectable : (main : Mutator) (half : ℕ) → IsStarted main → IsCollectable (heap_of main) half
first_is_collectable main half is = record {
  empty = λ cell words has inside.
      omega (arith, begins_below_eden main cell words is has, half_behind main.seat.space half cell.at inside);
}

-- a gap has no slot
gap_no_slot : (cell : Cell) (begin at : ℕ) → page_gap begin ≡ cell → IsSlotOf cell at → ⊥
gap_no_slot cell begin at is slot =
    let visited : Contains [] slot.offset =
    subst (λ (c : Cell). Contains (scavenge_offsets c.layout c.length) slot.offset) (sym is) slot.visited in
    contains_none [] slot.offset refl visited

-- nothing is recorded, and no page has a slot
first_are_remembered : (main : Mutator) → IsStarted main → AreRemembered (heap_of main) main.recorded.slots
first_are_remembered main is at = (
  λ there.
      let none : length main.recorded.slots ≡ 0 = ap (λ (recorded : Recorded). length recorded.slots) is.recorded in
      contains_none main.recorded.slots at none there,
  λ both.
      let slot = both.0 in
      let gap = has_gaps main slot.cell slot.words is slot.has in
      absurd (gap_no_slot slot.cell gap.0 at gap.1 slot.slot),
)

-- nothing is granted
nothing_granted : (main : Mutator) → IsStarted main → main.young.granted.words ≡ 0
nothing_granted main is = ap (λ (young : Young). young.granted.words) is.young

-- the parts agree
first_is_tied : (main : Mutator) → IsStarted main → IsTied main
first_is_tied main is = record {
  space = ap (λ (young : Young). young.space) is.young;
  granted = λ some. absurd (omega (arith, some, nothing_granted main is));
}

-- a heap that was just opened
pub started_shows : (main : Mutator) → IsStarted main → MainShows main start × IsOpened main
started_shows main is = (
  record {
    tied = first_is_tied main is;
    is_graph = start_is_graph;
    calm = λ mark. absurd (quiet_idle is.beside.phase mark);
    shows = first_shows main is;
    collectable = first_is_collectable main (other_half main.young.half) is;
    free = first_are_free main is;
    apart = λ row run there among begins ends. absurd (omega (arith, begins, ends, nothing_granted main is));
    bounded = ap (λ (recorded : Recorded). recorded.bound) is.recorded;
    remembered = first_are_remembered main is;
  },
  record {
    young = is.young;
    free = is.free;
    recorded = is.recorded;
    cycle = is.cycle;
    beside = is.beside;
    pages = is.gaps;
  },
)
