-- A scavenge begins: nothing is copied, and all slots outside are to do.
use Rattle.std.proofs.Common.{◌≡◌, ℕ, ◌+◌, inl, inr, Bool, List, [], refl, subst, arith}
use Rattle.std.specs.List.{Contains}
use Rattle.page_space.specs.Sizes.{page_words}
use Rattle.page_space.specs.Extents.{roots_start}
use Rattle.page_space.specs.RegionLaws.{IsSpace}
use Rattle.object_graph.specs.Graphs.{Graph}
use Rattle.nursery.specs.Young.{IsYoung, other_half}
use Rattle.free_runs.specs.FreeRuns.{AreFree}
use Rattle.heap_model.proofs.RememberedSlots.{page_slot_below}
use Rattle.write_barrier.specs.MutatorState.{Mutator, MayStore, MainShows}
use Rattle.scav_copy.specs.declared.places.Home.{Home}
use Rattle.scav_copy.specs.Places.{Fixed, StoodAt}
use Rattle.scav_copy.specs.Copies.{Copying}
use Rattle.scav_copy.proofs.Filling.{start_is_copying}
use Rattle.scav_copy.proofs.Spots.{none_in}
use Rattle.scavenger.specs.declared.progress.Progress.{Progress}
use Rattle.scavenger.specs.Starts.{Start, IsBegun, nothing_handed, room_start}
use Rattle.scavenger.specs.Filling.{Tiles, CopiesFillRooms, IsToDo}
use Rattle.scavenger.specs.Walking.{IsWellPlaced, AreKept, MayBegin, Scavenging, at_root}
use Rattle.scavenger.proofs.Backs.{backs_of_all}
use Rattle.scavenger.proofs.CodeChanges.{changes_nothing}
use Rattle.scavenger.proofs.FirstPages.{first_pages}
use Rattle.scavenger.proofs.FirstSegments.{hands_nothing}
use Rattle.scavenger.proofs.Started.{shown_heaps_may_begin}

-- how far a scavenge has come then: copies to the segment go to its start, and no run has more words than a page
abbrev pub first_progress : Mutator → Progress
first_progress main = record {
  fill = room_start main.seat.space (other_half main.young.half);
  copied = 0;
  refused = page_words + 1;
}

module _ {start : Start} {fixed : Fixed} (begun : IsBegun start fixed) where
  -- the words are those before, with no home
  first_copying : Copying fixed start.heap.words []
  first_copying = subst (λ (words : List ℕ). Copying fixed words []) begun.begins.before (start_is_copying fixed)

  -- no word is filled, where helpers handed nothing over
  first_filled : start.handed ≡ nothing_handed start.heap.space
      → CopiesFillRooms start fixed start.heap.words start.rows [] (room_start start.heap.space start.half)
  first_filled alone = record {
    copying = first_copying;
    stayed = [];
    tiles = Tiles.none (room_start start.heap.space start.half);
    promoted = [];
    in_pages = λ home there. absurd (none_in home there);
    handed_by = (hands_nothing start fixed begun alone).by;
    handed = (hands_nothing start fixed begun alone).fills;
    behind = (hands_nothing start fixed begun alone).ends;
    same = λ home.
        let none = (hands_nothing start fixed begun alone).homes in (
          λ there. absurd (none_in home there),
          λ there. subst (λ (all : List Home). Contains all home) none there,
        );
    long = omega (arith, (hands_nothing start fixed begun alone).none);
    pages = first_pages begun;
    left = λ at. (
      λ free. inl free,
      λ either. elim either [ inl free ↦ free | inr copy ↦ absurd (none_in copy.0 copy.1) ],
    );
    free = begun.apart;
    backs = backs_of_all start.rows;
    apart = λ at free copies. none_in copies.0 copies.1;
  }

  -- no copy is placed, and no run is longer than its page
  first_placed : (all : Bool) → IsWellPlaced start fixed start.rows [] all (page_words + 1)
  first_placed all = record {
    promoted = λ home there. absurd (none_in home there);
    stayed = λ home there. absurd (none_in home there);
    none_fits = λ n some refused few. absurd (omega (arith, refused, few));
  }

  -- what is recorded refers to young cells
  first_kept : AreKept start fixed start.heap.words [] start.recorded
  first_kept at = (
    λ there. inl (there, ((begun.remembered at).0 there).1),
    λ either. elim either [ inl kept ↦ kept.0 | inr slot ↦ absurd (none_in slot.0.home slot.0.among) ],
  )

-- each live slot is to do then: it is a root, or a recorded one
first_to_do : {start : Start} {fixed : Fixed} → IsBegun start fixed → (slot place : ℕ) → StoodAt fixed [] slot place
    → IsToDo start fixed [] [] (at_root (roots_start start.heap.space)) slot
first_to_do {start} begun slot place (StoodAt.itself among same) =
    elim ((begun.begins.slots slot).0 among) [
      | inl root ↦ IsToDo.root (omega (arith, root.stands))
      | inr recorded ↦
          IsToDo.recorded (omega arith) (page_slot_below ((begun.remembered slot).0 recorded).0) recorded
    ]
first_to_do begun slot place (StoodAt.in_cell home offset there visited stands stood) = absurd (none_in home there)

-- a scavenge begins with no copy and nothing on its list
pub first_step : (main : Mutator) (all : Bool) → MayStore main → MayBegin main
    → Scavenging main (nothing_handed main.seat.space) main all (first_progress main) []
    (at_root (roots_start main.seat.space))
first_step main all quiet may = record {
  fixed = may.fixed;
  homes = [];
  two = may.two;
  bounded = may.bounded;
  quiet = quiet;
  begun = may.begun;
  filled = first_filled may.begun refl;
  copied = refl;
  placed = first_placed may.begun all;
  kept = first_kept may.begun;
  listed = λ at there. absurd (none_in at there);
  few = omega arith;
  others = λ slot place cell stood refers is. first_to_do may.begun slot place stood;
  changes = changes_nothing main;
}

-- what shows a graph may be scavenged, and so it begins
pub shown_may_begin : (main : Mutator) (graph : Graph) → IsSpace main.seat.space → MainShows main graph
    → IsYoung main.young → AreFree main.free → MayBegin main
shown_may_begin main graph limits shows young free =
    let begun = shown_heaps_may_begin main graph limits shows young free in
    record { fixed = begun.0; begun = begun.1; two = young.half; bounded = shows.bounded }
