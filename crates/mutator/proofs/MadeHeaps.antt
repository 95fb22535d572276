-- How an object is made: words are taken, its cell is put there, and a variable holds it.
use Rattle.std.proofs.Common.{◌≡◌, ℕ, ◌<◌, List, length, sym}
use Rattle.std.proofs.Common.{refl, ◌∙◌, ap, subst, arith}
use Rattle.heap_model.specs.Types.{Object, Path}
use Rattle.tagged_word.specs.Layouts.{layout_bits}
use Rattle.tagged_word.specs.Shapes.{shapes_most}
use Rattle.object_graph.specs.Graphs.{Graph, make}
use Rattle.object_graph.specs.Reach.{reach}
use Rattle.page_space.specs.Extents.{Space}
use Rattle.shape_tree.specs.ShapeLayouts.{layout_word}
use Rattle.nursery.specs.Young.{Young, HasRoom, bumped, next_of}
use Rattle.handle_roots.specs.declared.held.Held.TheVariants as held
use Rattle.handle_roots.specs.Roots.{with_root}
use Rattle.write_barrier.specs.Seats.{Seat, heap_words}
use Rattle.heap_model.specs.Heaps.{Heap, words_of_cell}
use Rattle.heap_model.specs.Changes.{IsRunOf}
use Rattle.heap_model.specs.Showing.{ShowsObject}
use Rattle.heap_model.specs.Laws.{bound}
use Rattle.write_barrier.specs.MutatorState.{Mutator, heap_of, MainShows, reserved}
use Rattle.write_barrier.specs.MutatorState.{with_table}
use Rattle.write_barrier.specs.Recording.{Touches}
use Rattle.write_barrier.specs.Storing.{IsMadeYoung}
use Rattle.write_barrier.specs.Values.{with_range}
use Rattle.write_barrier.proofs.StoresOn.{next_is_young}
use Rattle.object_cells.specs.Contents.{next_at}
use Rattle.object_cells.proofs.TakenRuns.{room_stays, taken_run}
use Rattle.object_cells.proofs.UnusedWords.{next_run}
use Rattle.mutator.specs.Binding.{BindsMade}
use Rattle.mutator.specs.Making.{new_touch}
use Rattle.mutator.proofs.NewCells.{NewCell, RefersNowhere, CountsNone, cell_of}
use Rattle.mutator.proofs.PutCells.{with_cell, HasRoomFor, IsSoundThere}
use Rattle.mutator.proofs.Rebinding.{HoldsAnew, heap_bound}

-- a heap is told by its parts
heap_is : {heap : Heap} {space : Space} {used survivors : ℕ} {paths : List Path} {words : List ℕ} → heap.space ≡ space
    → heap.used ≡ used → heap.survivors ≡ survivors → heap.paths ≡ paths → heap.words ≡ words
    → heap ≡ record { space = space; used = used; survivors = survivors; paths = paths; words = words }
heap_is {heap} {space} {used} {survivors} {paths} is_space is_used is_survivors is_paths is_words =
    ap (λ (one : Space). record heap { space = one }) is_space
    ∙ ap (λ n. record heap { space = space; used = n }) is_used
    ∙ ap (λ n. record heap { space = space; used = used; survivors = n }) is_survivors
    ∙ ap (λ (all : List Path). record heap { space = space; used = used; survivors = survivors; paths = all }) is_paths
    ∙ ap (λ (all : List ℕ). record {
      space = space;
      used = used;
      survivors = survivors;
      paths = paths;
      words = all;
    }) is_words

-- a run is one of any heap with as many words used
same_run : {heap one other : Heap} {from to : ℕ} → IsRunOf heap one from to → other.used ≡ one.used
    → IsRunOf heap other from to
same_run (IsRunOf.of_eden begins ends grown) same =
    IsRunOf.of_eden begins (omega (arith, ends, same)) (omega (arith, grown, same))
same_run (IsRunOf.of_page forward used fillers) same = IsRunOf.of_page forward (same ∙ used) fillers

-- How an object is made: words are taken, the cell is put there, and the variable holds it.
pub record MakesObject (old mid filled new : Mutator) (x at : ℕ) (one : NewCell) : Type 0 where
  pub run : at ≡ next_at old
  pub taken : mid ≡ reserved old one.size
  pub put : filled.seat ≡ (with_table mid (with_range mid.seat.table at one.words)).seat
  pub heap : heap_words filled.seat ≡ with_range (heap_words mid.seat) at one.words
  pub paths : filled.paths ≡ mid.paths
  pub young : filled.young ≡ mid.young
  pub cycle : filled.cycle ≡ mid.cycle
  pub touches : Touches mid filled (new_touch one.head one.size at)
  pub holds : HoldsAnew filled new x (held.Ref at)

-- where words are taken for a cell, it is young if a cycle is open
pub run_is_young : {old mid : Mutator} {graph : Graph} {at : ℕ} (more : ℕ) → mid ≡ reserved old more
    → at ≡ next_of old.young → MainShows old graph → IsMadeYoung mid at
run_is_young {at = at} more taken next shows =
    subst (λ (main : Mutator). IsMadeYoung main at) (sym taken)
    (λ mark. let young = next_is_young shows mark in omega (arith, young, next))

-- the heap with the cell
abbrev pub made_heap : Mutator → NewCell → Heap
made_heap old one = with_cell (heap_of old) (next_at old) (bumped old.young one.size).used one

module _ {old mid filled new : Mutator} {x at : ℕ} {one : NewCell}
    (makes : MakesObject old mid filled new x at one) where
  -- words are taken
  pub filled_young : filled.young ≡ bumped old.young one.size
  filled_young = makes.young ∙ ap (λ (main : Mutator). main.young) makes.taken

  -- the seat has the words of the cell
  pub filled_seat : filled.seat ≡ (with_table old (with_range old.seat.table at one.words)).seat
  filled_seat =
      makes.put ∙ ap (λ (main : Mutator). (with_table main (with_range main.seat.table at one.words)).seat) makes.taken

  -- what is known of the cycle stays
  pub filled_cycle : filled.cycle ≡ old.cycle
  filled_cycle = makes.cycle ∙ ap (λ (main : Mutator). main.cycle) makes.taken

  pub filled_space : filled.seat.space ≡ old.seat.space
  filled_space = ap (λ (seat : Seat). seat.space) filled_seat

  pub filled_paths : filled.paths ≡ old.paths
  filled_paths = makes.paths ∙ ap (λ (main : Mutator). main.paths) makes.taken

  -- free runs stay, and the bound of what is recorded
  pub filled_free : filled.free ≡ old.free
  filled_free = makes.touches.free ∙ ap (λ (main : Mutator). main.free) makes.taken

  pub filled_bound : filled.recorded.bound ≡ old.recorded.bound
  filled_bound = makes.touches.bound ∙ ap (λ (main : Mutator). main.recorded.bound) makes.taken

  -- the heap is the one with the cell
  pub filled_heap : heap_of filled ≡ made_heap old one
  filled_heap =
      let words : heap_words filled.seat ≡ with_range (heap_words old.seat) (next_at old) one.words =
      makes.heap ∙ ap (λ (main : Mutator). with_range (heap_words main.seat) at one.words) makes.taken
      ∙ ap (λ from. with_range (heap_words old.seat) from one.words) makes.run in
      heap_is filled_space (ap (λ (young : Young). young.used) filled_young)
      (ap (λ (young : Young). young.survivors) filled_young) filled_paths words

  -- and that of the new one has the variable bound to it
  pub bound_heap : heap_of new ≡ bound (made_heap old one) x (held.Ref (next_at old))
  bound_heap =
      heap_bound x (held.Ref at) makes.holds ∙ ap (λ h. bound h x (held.Ref at)) filled_heap
      ∙ ap (λ a. bound (made_heap old one) x (held.Ref a)) makes.run

-- what the cell is in the heap in which it was put: sound, and one that shows the object
pub record IsSoundNewCell (main : Mutator) (graph : Graph) (x : ℕ) (one : NewCell) (what : Object) : Type 0 where
  pub fits : HasRoomFor (heap_of main) (next_at main) (bumped main.young one.size).used one
  pub sound : IsSoundThere (heap_of main) (next_at main) (bumped main.young one.size).used one
  pub shows : let cell = cell_of (next_at main) one in
      ShowsObject (made_heap main one) (reach (make graph x what)) cell (words_of_cell (made_heap main one) cell) what
  pub counts : CountsNone (words_of_cell (made_heap main one) (cell_of (next_at main) one)) what
  pub carries : one.header.object ≡ length graph.objects

-- there is room for a cell where there is for its words
pub room_for : {main : Mutator} {graph : Graph} (one : NewCell) → MainShows main graph → RefersNowhere one
    → one.header.shape < shapes_most → layout_word main.paths one.header.shape ≡ layout_bits one.layout
    → HasRoom main.young one.size
    → HasRoomFor (heap_of main) (next_at main) (bumped main.young one.size).used one
room_for {main} one shows fresh known laid room =
    let new : Mutator = reserved main one.size in
    let rows = shows.shows.whole.rows in
    let run = next_run main one.size shows.tied rows room in
    record {
      sized = shows.shows.whole.sized;
      fresh = fresh;
      known = known;
      laid = laid;
      region = run.region;
      run = same_run (taken_run new one.size shows.tied room refl refl) refl;
      few = room_stays new one.size shows.tied rows room refl refl;
    }

-- words were taken and filled, and then a variable was made to hold their address
pub binds_made : {old mid filled new : Mutator} {x at : ℕ} {one : NewCell} → length one.words ≡ one.size
    → MakesObject old mid filled new x at one → BindsMade old new x
binds_made {old} {filled = filled} {new} {x} {at} {one} long makes = record {
  at = at;
  words = one.words;
  next = makes.run;
  seat = ap (λ (main : Mutator). main.seat) makes.holds.held
      ∙ ap (λ (seat : Seat). record seat { table = with_root seat.space seat.table x (held.Ref at) })
      (filled_seat makes);
  paths = ap (λ (main : Mutator). main.paths) makes.holds.held ∙ filled_paths makes;
  young = ap (λ (main : Mutator). main.young) makes.holds.held ∙ filled_young makes
      ∙ ap (bumped old.young) (sym long);
  free = ap (λ (main : Mutator). main.free) makes.holds.held ∙ filled_free makes;
}
