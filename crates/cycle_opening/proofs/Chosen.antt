-- A cycle may be chosen that opens for each graph that the words show.
use Rattle.std.proofs.Common.{◌≡◌, ℕ, false, List, length, All, refl, sym, ◌∙◌, ap, subst}
use Rattle.std.proofs.lemmas.List.{length-replicate}
use Rattle.std.proofs.lemmas.List.Elements.{All-replicate}
use Rattle.page_space.specs.Extents.{eden_start}
use Rattle.page_space.specs.RegionLaws.{IsSpace}
use Rattle.object_graph.specs.Graphs.{Graph}
use Rattle.heap_model.specs.Types.{Path}
use Rattle.heap_model.specs.Heaps.{Heap}
use Rattle.heap_model.specs.Showing.{Shows}
use Rattle.mark_laws.specs.Types.{HelperView, World}
use Rattle.mark_world.specs.Cycles.{Cycle}
use Rattle.mark_world.specs.Soundness.{IsEmptyView}
use Rattle.mark_world.specs.Steps.{returned, white}
use Rattle.cycle_state.specs.Cycles.{words_of_pages}
use Rattle.cycle_laws.specs.Openings.{IsFirstWorldOf}
use Rattle.cycle_laws.proofs.FirstWorlds.{first_worlds_are_fresh}
use Rattle.cycle_laws.proofs.Opening.{cycles_open}
use Rattle.shared_table.specs.declared.overview.Overview.{Overview}
use Rattle.shared_table.specs.Changes.{opened}
use Rattle.shared_table.specs.Worlds.{world_at_home}
use Rattle.write_barrier.specs.Cycles.{IsQuietOverview, MayOpenWith, own_of}
use Rattle.write_barrier.specs.MutatorState.{Mutator, heap_of}
use Rattle.cycle_opening.specs.Opened.{HasNoYoung, OpensEach, ShowsMade, heap_with}
use Rattle.cycle_opening.proofs.AlikeCycles.{opens_alike}

-- the heap that stands in the words is that of its own words, where no cell is young
pub heap_is : (main : Mutator) → HasNoYoung main → (paths : List Path) → main.paths ≡ paths
    → heap_of main ≡ heap_with (own_of main) paths
heap_is main none paths same =
    ap (λ (n : ℕ). record (heap_of main) { used = n }) none.used
    ∙ ap (λ (n : ℕ). record (heap_of main) { used = 0; survivors = n }) none.survivors
    ∙ ap (λ (one : List Path). heap_with (own_of main) one) same

-- the world with no seat out is the first one of the cycle
first_world : (main : Mutator) (any : Overview) (paths : List Path) (cycle : Cycle) → IsQuietOverview main any
    → IsFirstWorldOf (heap_with (own_of main) paths) cycle (world_at_home (opened any cycle))
first_world main any paths cycle quiet =
    let world : ℕ → List ℕ → List ℕ → World = λ old words layouts. record (world_at_home (opened any cycle)) {
      old = old;
      words = words;
      layouts = layouts;
    } in record {
      of = record {
        is = ap (λ old. world old any.words any.layouts) quiet.old
            ∙ ap (λ words. world (eden_start main.seat.space) words any.layouts) quiet.words
            ∙ ap (λ layouts. world (eden_start main.seat.space) (words_of_pages (heap_of main)) layouts) quiet.layouts;
      };
      count = ap (λ (one : List ℕ). length one) quiet.colours ∙ length-replicate _ _;
      colours = subst (λ (one : List ℕ). All (λ colour. colour ≡ white) one) (sym quiet.colours)
          (All-replicate (λ colour. colour ≡ white) _ white refl);
      board = quiet.board;
      none_out = All-replicate (λ (view : HelperView). view.out ≡ false) any.lent returned refl;
      empty = All-replicate IsEmptyView any.lent returned
          (record { snap = refl; last = refl; visit = refl; grey = refl; log = refl });
      grey = refl;
      log = refl;
    }

-- So the choice can be met.
pub cycle_chosen : {main : Mutator} {made : ℕ} → ShowsMade main made → HasNoYoung main → IsSpace main.seat.space
    → (any : Overview) → IsQuietOverview main any → (cycle : Cycle) × MayOpenWith OpensEach main made any cycle
cycle_chosen {main} {made} shown none space any quiet =
    let graph : Graph = shown.graph in
    let heap : Heap = heap_with (own_of main) graph.paths in
    let shows : Shows heap graph =
    subst (λ (one : Heap). Shows one graph) (heap_is main none graph.paths shown.shows.shows.paths) shown.shows.shows in
    let first = cycles_open heap graph shows refl refl in (
      first.0,
      (
        λ another also counted. opens_alike shows first.1 also (counted ∙ sym shown.counted),
        first_worlds_are_fresh heap graph first.0 (world_at_home (opened any first.0)) space shows first.1
            (first_world main any graph.paths first.0 quiet),
      ),
    )
