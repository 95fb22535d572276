-- A heap that shows a graph shows it in the open cycle, and after that was closed.
use Rattle.std.proofs.Common.{◌≡◌, ℕ, ◌<◌, inl, inr, List, length, All, Contains, sym, ◌∙◌, ap, subst, arith, refl}
use Rattle.std.proofs.lemmas.List.Elements.{All-nil}
use Rattle.page_space.specs.Extents.{eden_start}
use Rattle.handle_roots.specs.Roots.{IsRoot}
use Rattle.object_graph.specs.Graphs.{Graph}
use Rattle.heap_model.specs.Heaps.{Heap}
use Rattle.heap_model.specs.Showing.{Shows}
use Rattle.mark_world.specs.Coverage.{EachSlot}
use Rattle.mark_world.specs.BetweenCommands.{HasSureTarget}
use Rattle.mark_world.specs.Cycles.{Cycle}
use Rattle.cycle_state.specs.Cycles.{world_in}
use Rattle.cycle_state.specs.Keeping.{IsKept}
use Rattle.cycle_state.specs.Resting.{Rests}
use Rattle.cycle_laws.specs.Openings.{Opens}
use Rattle.cycle_laws.proofs.Kept.{kept_cases}
use Rattle.heap_table.specs.Overviews.{unopened}
use Rattle.heap_table.specs.Phases.{Phase, Mark, Quiet}
use Rattle.write_barrier.specs.Cycles.{HasOpened, HasSoundView, in_cycle}
use Rattle.write_barrier.specs.MutatorState.{Mutator, IsCalm, MainShows, heap_of}
use Rattle.write_barrier.specs.Seats.{heap_words}
use Rattle.cycle_opening.specs.Opened.{GrowsSure, HasNoYoung, HasSureRoots, OpensCycle, OpensEach, RefersToPage}
use Rattle.cycle_opening.proofs.Chosen.{heap_is}

-- The heap shows the graph in another phase, with another cycle, if the mutator is calm then.
pub shown_in : {main : Mutator} {graph : Graph} (phase : Phase) (cycle : Cycle) → MainShows main graph
    → IsCalm (in_cycle main phase cycle) graph → MainShows (in_cycle main phase cycle) graph
shown_in phase cycle shown calm = record {
  tied = record { space = shown.tied.space; granted = shown.tied.granted };
  is_graph = shown.is_graph;
  calm = calm;
  shows = shown.shows;
  collectable = shown.collectable;
  free = shown.free;
  apart = shown.apart;
  bounded = shown.bounded;
  remembered = shown.remembered;
}

-- the heap rests in the cycle that opens, whatever cells the mutator is sure of
sure_rests : {heap : Heap} {graph : Graph} {cycle : Cycle} (sure : List ℕ) → Opens heap graph cycle
    → Rests heap (record cycle { sure = sure })
sure_rests {heap} {graph} {cycle} sure opens =
    let later : Cycle = record cycle { sure = sure } in
    let P : ℕ → Type 0 = λ at. EachSlot (world_in heap later) at (λ offset. HasSureTarget (world_in heap later)) in
    record {
      keeps = record {
        roots = opens.rests.keeps.roots;
        closed = opens.rests.keeps.closed;
        numbers = opens.rests.keeps.numbers;
      };
      settled = record { owed = refl; sure = subst (λ (list : List ℕ). All P list) (sym opens.mine) (All-nil P) };
      free = opens.rests.free;
      mine = opens.rests.mine;
    }

-- a kept cell of a page is born
born_of_page : (heap : Heap) (born : List ℕ) (at : ℕ) → at < eden_start heap.space → IsKept heap born at
    → Contains born at
born_of_page heap born at below kept = elim (kept_cases heap born at kept) [
  | inl young ↦ absurd (omega (arith, young, below))
  | inr counts ↦ counts
]

module _ {old mid : Mutator} {graph : Graph} {made : ℕ} (shown : MainShows old graph) (none : HasNoYoung old)
    (counted : length graph.objects ≡ made) (opened : HasOpened OpensEach old mid made) where
  -- the cycle opens for the heap
  pub opens_here : Opens (heap_of old) graph opened.cycle
  opens_here =
      let same = heap_is old none graph.paths shown.shows.paths in
      subst (λ (one : Heap). Opens one graph opened.cycle) (sym same)
      (opened.begins.0 graph (subst (λ (one : Heap). Shows one graph) same shown.shows) counted)

  -- the root words stand for what variables hold
  pub opened_roots : (variable : ℕ) → variable < mid.seat.space.variables
      → IsRoot mid.seat.space (heap_words mid.seat) variable
  opened_roots =
      subst (λ (one : Mutator). (variable : ℕ) → variable < one.seat.space.variables
      → IsRoot one.seat.space (heap_words one.seat) variable) (sym opened.is)
      (λ variable known. let root = shown.shows.whole.roots variable known in
      record { held = root.held; holds = root.holds })

  -- the cells of pages to which variables refer are born
  pub opened_born : (variable at : ℕ) → variable < mid.seat.space.variables → RefersToPage mid variable at
      → Contains mid.cycle.born at
  opened_born =
      subst (λ (one : Mutator). (variable at : ℕ) → variable < one.seat.space.variables → RefersToPage one variable at
      → Contains one.cycle.born at) (sym opened.is)
      (λ variable at known refers.
      let kept = opens_here.rests.keeps.roots at
      (record { variable = variable; within = known; refers = refers.holds.first }) in
      born_of_page (heap_of old) opened.cycle.born at refers.of_page kept)

  -- with its roots shaded it is open, and the heap shows the graph
  pub opens_cycle : {new : Mutator} → GrowsSure mid new → HasSureRoots new → HasSoundView new → OpensCycle old new graph
  opens_cycle {new} grows roots view =
      let cycle : Cycle = record opened.cycle { sure = new.cycle.sure } in
      let is : new ≡ in_cycle old Mark cycle =
      grows.is ∙ ap (λ (one : Mutator). record one { cycle = record one.cycle { sure = new.cycle.sure } }) opened.is in
      record {
        first = opened.cycle;
        opens = opens_here;
        is = is;
        roots = roots;
        shows = subst (λ (one : Mutator). MainShows one graph) (sym is) (shown_in Mark cycle shown
            (λ mark. record {
              view = subst HasSoundView is view;
              rests = sure_rests new.cycle.sure opens_here;
              granted = none.granted;
              counted = omega (arith, opens_here.counted);
            }));
      }

-- no phase is quiet and open
no_mark : Quiet ≡ Mark → ⊥
no_mark same = cc

-- the heap shows the graph once no cycle is open any more
pub shown_quiet : {main : Mutator} {graph : Graph} → MainShows main graph
    → MainShows (in_cycle main Quiet unopened) graph
shown_quiet shown = shown_in Quiet unopened shown (λ mark. absurd (no_mark mark))
