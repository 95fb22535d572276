-- A heap rests in an open cycle again after a variable was bound anew, and after an object was made and bound.
use Rattle.std.proofs.Common.{◌≡◌, ℕ, ◌<◌, ◌≤◌, List, [], ◌∷◌, IsTrue, length, take, unwrap_or, slice_get}
use Rattle.std.proofs.Common.{refl, sym, ◌∙◌, ap, subst, arith, length-append, length-take}
use Rattle.std.proofs.lemmas.Grind.{same_number_lists}
use Rattle.std.proofs.lemmas.Option.{unwrap_or-slice_get}
use Rattle.tagged_word.specs.Cells.{is_object_kind}
use Rattle.page_space.specs.Extents.{Space, eden_start, roots_start}
use Rattle.page_space.proofs.Starts.{roots_start_is}
use Rattle.cell_layout.specs.Cells.{layouts_in}
use Rattle.handle_roots.specs.declared.held.Held.TheVariants as held
use Rattle.object_graph.specs.Graphs.{Graph, make}
use Rattle.mark_world.specs.declared.world.World.{World}
use Rattle.mark_world.specs.BetweenCommands.{Settled}
use Rattle.mark_world.specs.Cycles.{Cycle}
use Rattle.mark_laws.specs.PageWords.{HasMainSound}
use Rattle.heap_table.specs.Phases.{Mark}
use Rattle.heap_model.specs.Types.{Cell, Held, Object}
use Rattle.heap_model.specs.Heaps.{Heap, words_of_cell}
use Rattle.heap_model.specs.Changes.{CellsChange}
use Rattle.heap_model.specs.Laws.{BindsAnew, ReachesNoMore, ReachesOneMore, RefersToNothing, bound}
use Rattle.heap_model.specs.Showing.{Shows}
use Rattle.heap_model.specs.Wholeness.{HasSizes, Whole}
use Rattle.heap_model.proofs.BoundRoots.{with_root_alike}
use Rattle.heap_model.proofs.CellWords.{slice_get-take}
use Rattle.cycle_state.specs.Cycles.{main_of, world_in}
use Rattle.cycle_state.specs.Resting.{Rests}
use Rattle.cycle_laws.proofs.MovedPages.{same_layouts}
use Rattle.cycle_laws.proofs.ReachedKept.{reached_is_kept}
use Rattle.cycle_laws.proofs.RestingAgain.{bindings_rest, new_objects_rest}
use Rattle.write_barrier.specs.MutatorState.{IsCalm, MainShows, Mutator, RestsInCycle, heap_of, with_variable, world_of}

-- words of which as many are the same up to eden have the same words of pages
same_pages : (space : Space) (words other : List ℕ) → length other ≡ length words
    → ((at : ℕ) → at < eden_start space → slice_get other at ≡ slice_get words at)
    → take (eden_start space) other ≡ take (eden_start space) words
same_pages space words other long alike =
    let end : ℕ = eden_start space in
    same_number_lists (take end other) (take end words)
    (omega (arith, length-take end other, length-take end words, long)) (λ k within.
    let below : k < end = omega (arith, within, length-take end other) in
    let same = slice_get-take end other k below ∙ alike k below ∙ sym (slice_get-take end words k below) in
    sym (unwrap_or-slice_get (take end other) k 0) ∙ ap (λ found. unwrap_or found 0) same
    ∙ unwrap_or-slice_get (take end words) k 0)

-- the world of these words of pages, with these layout words
abbrev world_with : Cycle → Space → List ℕ → List ℕ → World
world_with cycle space words layouts = record {
  old = eden_start space;
  words = words;
  layouts = layouts;
  colours = [];
  board = [];
  main = main_of cycle;
  helpers = [];
}

-- heaps of the same regions and shapes whose pages have the same words are one world of marking
same_world : (old new : Heap) (cycle : Cycle) → HasSizes old → HasSizes new → new.space ≡ old.space
    → new.paths ≡ old.paths → length new.words ≡ length old.words
    → ((at : ℕ) → at < eden_start old.space → slice_get new.words at ≡ slice_get old.words at)
    → world_in new cycle ≡ world_in old cycle
same_world old new cycle sized sized_new space paths long alike =
    let layouts : List ℕ = layouts_in new.space new.words in
    ap (λ (one : Space). world_with cycle one (take (eden_start one) new.words) layouts) space
    ∙ ap (λ words. world_with cycle old.space words layouts) (same_pages old.space old.words new.words long alike)
    ∙ ap (world_with cycle old.space (take (eden_start old.space) old.words))
    (same_layouts old new sized sized_new space paths)

-- words of pages are before the roots
before_roots : (space : Space) (at : ℕ) → at < eden_start space → at < roots_start space
before_roots space at below = omega (arith, below, roots_start_is space)

-- a heap in which a variable was bound anew is the same world
bound_world : (heap : Heap) (cycle : Cycle) (x : ℕ) (one : Held) → x < heap.space.variables → HasSizes heap
    → HasSizes (bound heap x one) → world_in (bound heap x one) cycle ≡ world_in heap cycle
bound_world heap cycle x one below sized sized_new =
    let alike = with_root_alike heap.space heap.words x one below in
    same_world heap (bound heap x one) cycle sized sized_new refl refl alike.long
    (λ at of_page. alike.cells at (before_roots heap.space at of_page))

-- A heap of the mutator rests in its cycle where that rests in a heap that is the same, and is known of as before.
calm_by : {old new : Mutator} {graph after : Graph} (heap : Heap) → RestsInCycle old graph → heap_of new ≡ heap
    → new.cycle ≡ old.cycle → new.young.granted.words ≡ 0 → length graph.objects ≤ length after.objects
    → world_in heap old.cycle ≡ world_of old → Rests heap old.cycle → RestsInCycle new after
calm_by {old} {new} heap was same cycle granted more world rests =
    let Of : (Heap → Cycle → Type 0) → Type 0 = λ P. P heap old.cycle → P (heap_of new) new.cycle in
    let stays : (P : Heap → Cycle → Type 0) → Of P = λ P holds.
    subst (P (heap_of new)) (sym cycle) (subst (λ one. P one old.cycle) (sym same) holds) in
    record {
      view = stays (λ one kept. HasMainSound (world_in one kept)) (subst HasMainSound (sym world) was.view);
      rests = stays Rests rests;
      granted = granted;
      counted = omega (arith, was.counted, more, ap (λ (one : Cycle). one.made) cycle);
    }

-- So it is after a variable was bound anew, where nothing more can be reached than before.
pub bound_is_calm : {old new : Mutator} {graph after : Graph} (x : ℕ) (one : Held) → MainShows old graph
    → x < old.seat.space.variables → BindsAnew graph after x → ReachesNoMore graph after
    → Shows (bound (heap_of old) x one) after → new ≡ with_variable old x one
    → heap_of new ≡ bound (heap_of old) x one → IsCalm new after
bound_is_calm {old} {new} {graph} {after} x one shows below anew fewer bound_shows held same mark =
    let was = shows.calm (ap (λ (main : Mutator). main.seat.phase) (sym held) ∙ mark) in
    let heap : Heap = heap_of old in
    calm_by (bound heap x one) was same (ap (λ (main : Mutator). main.cycle) held)
    (ap (λ (main : Mutator). main.young.granted.words) held ∙ was.granted)
    (omega (arith, ap (λ (all : List Object). length all) anew.objects))
    (bound_world heap old.cycle x one below shows.shows.whole.sized bound_shows.whole.sized)
    (bindings_rest heap after x one old.cycle below shows.shows.whole bound_shows (λ number at reached place.
    reached_is_kept heap graph old.cycle number at shows.shows was.rests.keeps (fewer number reached) place) was.rests)

-- And so it is after an object was made and bound to a variable: it is young, refers to nothing, and has the next
-- number. No word of a page changed.
pub made_is_calm : {old new : Mutator} {graph : Graph} (now : Heap) (x : ℕ) (cell : Cell) (what : Object)
    → MainShows old graph → x < now.space.variables → Whole now → now.space ≡ old.seat.space → now.paths ≡ old.paths
    → length now.words ≡ length (heap_of old).words
    → ((at : ℕ) → at < cell.at → slice_get now.words at ≡ slice_get (heap_of old).words at)
    → CellsChange (heap_of old) now [] [] (cell ∷ []) → IsTrue (is_object_kind cell.layout.kind)
    → RefersToNothing cell (words_of_cell now cell)
    → (old.seat.phase ≡ Mark → eden_start old.seat.space ≤ cell.at)
    → cell.header.object ≡ length graph.objects → ReachesOneMore graph (make graph x what) (length graph.objects)
    → Shows (bound now x (held.Ref cell.at)) (make graph x what)
    → new.seat.phase ≡ old.seat.phase → new.cycle ≡ old.cycle
    → (old.young.granted.words ≡ 0 → new.young.granted.words ≡ 0)
    → heap_of new ≡ bound now x (held.Ref cell.at) → IsCalm new (make graph x what)
made_is_calm {old} {new} {graph} now x cell what shows below whole space paths long before cells object nothing young
    number one_more made_shows phase cycle granted same mark =
    let marks = sym phase ∙ mark in
    let was = shows.calm marks in
    let end : Heap = bound now x (held.Ref cell.at) in
    let alike = with_root_alike now.space now.words x (held.Ref cell.at) below in
    let next : eden_start now.space ≤ cell.at =
    subst (λ (one : Space). eden_start one ≤ cell.at) (sym space) (young marks) in
    let world : world_in end old.cycle ≡ world_of old =
    same_world (heap_of old) end old.cycle shows.shows.whole.sized made_shows.whole.sized space paths
    (alike.long ∙ long) (λ at of_page.
    alike.cells at (before_roots now.space at (subst (λ (one : Space). at < eden_start one) (sym space) of_page))
    ∙ before at (omega (arith, of_page, young marks))) in
    calm_by end was same cycle (granted was.granted)
    (omega (arith, length-append graph.objects (what ∷ []))) world
    (new_objects_rest (heap_of old) now graph x cell what old.cycle below shows.shows whole cells object nothing next
    was.counted number one_more made_shows (subst Settled (sym world) was.rests.settled) was.rests)
