-- A heap that shows a graph and has no young cell opens a cycle.
use Rattle.std.proofs.Common.{◌≡◌, ℕ, ◌<◌, inl, inr, List, [], length, IsTrue}
use Rattle.std.proofs.Common.{refl, subst, arith}
use Rattle.std.proofs.lemmas.Bool.{and_parts}
use Rattle.std.specs.Prelude.{not}
use Rattle.core_parts.specs.Lists.{is_in}
use Rattle.core_parts.proofs.Joining.{in_found}
use Rattle.page_space.specs.Extents.{eden_start}
use Rattle.object_graph.specs.Graphs.{Graph}
use Rattle.object_graph.specs.Reach.{is_marked, reach}
use Rattle.heap_model.specs.Types.{Cell}
use Rattle.heap_model.specs.Heaps.{Heap, HasCell}
use Rattle.heap_model.specs.Showing.{Shows}
use Rattle.heap_model.proofs.ReachedStays.{reach_below}
use Rattle.heap_model.proofs.StaysCollectable.{object_not_free, owned_not_free}
use Rattle.live_cells.specs.Laws.{BelongsToReached}
use Rattle.live_cells.proofs.LiveReached.{place_reached}
use Rattle.live_cells.proofs.ReachedClosed.{told_by_cell, reached_slots_lead_on, reached_entries_lead_on}
use Rattle.live_cells.proofs.RootTargets.{target_reached}
use Rattle.mark_world.specs.Cycles.{Cycle}
use Rattle.cycle_state.specs.Keeping.{IsKept}
use Rattle.cycle_state.specs.Resting.{IsUsedPageCell, Rests}
use Rattle.cycle_laws.specs.Openings.{CyclesOpen}
use Rattle.cycle_laws.proofs.Decided.{belongs_decided, number_decided}
use Rattle.cycle_laws.proofs.Lists.{IsListed, listed}
use Rattle.cycle_laws.proofs.LostWords.{lost_words_are_listed}
use Rattle.cycle_laws.proofs.Kept.{kept_cases, born_is_kept}
use Rattle.cycle_laws.proofs.PagesOnly.{cells_in_pages}
use Rattle.cycle_laws.proofs.Targets.{cell_there, key_target}

module _ {heap : Heap} {graph : Graph} (shows : Shows heap graph) (none : heap.survivors ≡ 0) (unused : heap.used ≡ 0)
  where
    -- what belongs to an object that can be reached is a used cell of a page
    used_page_cell : (at : ℕ) → BelongsToReached heap graph at → IsUsedPageCell heap at
    used_page_cell at (BelongsToReached.place number place reached) =
        let below = cells_in_pages shows.whole.rows none unused place.has in record {
          cell = place.cell;
          words = place.words;
          has = place.has;
          stands = place.stands;
          of_page = subst (λ n. n < eden_start heap.space) place.stands below;
          used = object_not_free place.cell.layout.kind place.object;
        }
    used_page_cell at (BelongsToReached.named owner slot names reached) =
        let below = cells_in_pages shows.whole.rows none unused names.refers.has in record {
          cell = names.cell;
          words = names.others;
          has = names.refers.has;
          stands = names.at;
          of_page = subst (λ n. n < eden_start heap.space) names.at below;
          used = owned_not_free names.cell.layout.kind names.owned;
        }

    -- the addresses of such cells
    born : IsListed (BelongsToReached heap graph) (eden_start heap.space)
    born = listed (BelongsToReached heap graph) (belongs_decided shows) (eden_start heap.space)

    -- the numbers of such objects
    numbers : IsListed (λ number. IsTrue (is_marked (reach graph) number)) (length graph.objects)
    numbers = listed (λ number. IsTrue (is_marked (reach graph) number)) (number_decided shows) (length graph.objects)

    -- the cycle
    abbrev opened : Cycle
    opened = record {
      starts = born.list;
      born = born.list;
      mine = [];
      sure = [];
      reached = numbers.list;
      made = length graph.objects;
      dead = (lost_words_are_listed heap graph shows).0;
    }

    -- what belongs to such an object is kept
    belongs_kept : (at : ℕ) → BelongsToReached heap graph at → IsKept heap born.list at
    belongs_kept at belongs =
        born_is_kept heap born.list at (born.all at (used_page_cell at belongs).of_page belongs)

    -- and what is kept and leads on does, or has a place
    kept_belongs : {cell : Cell} {words : List ℕ} (at : ℕ) → HasCell heap cell words → cell.at ≡ at
        → IsKept heap born.list at → BelongsToReached heap graph at
    kept_belongs at has stands kept = elim (kept_cases heap born.list at kept) [
      | inl young ↦
          absurd (omega (arith, cells_in_pages shows.whole.rows none unused has, stands, young))
      | inr counts ↦ born.from at counts
    ]

    -- so the heap rests in the cycle
    rests : Rests heap opened
    rests = record {
      keeps = record {
        roots = λ at target.
            let one = target_reached at shows target in
            belongs_kept at (BelongsToReached.place one.0 one.1 one.2);
        closed = record {
          slots = λ from at kept slot.
              belongs_kept at (reached_slots_lead_on heap graph from at shows
              (kept_belongs from slot.has slot.stands kept) slot);
          entries = λ table key at kept key_kept entry.
              elim (kept_cases heap born.list key key_kept) [
                | inr counts ↦
                    belongs_kept at (reached_entries_lead_on heap graph table key at shows
                    (kept_belongs table entry.has entry.stands kept) (born.from key counts) entry)
                | inl young ↦
                    let there = cell_there (key_target shows.whole entry) in
                    absurd (omega (arith, cells_in_pages shows.whole.rows none unused there.has, there.stands, young))
              ];
        };
        numbers = λ number at place kept.
            let belongs = kept_belongs at place.has place.stands kept in
            let reached = place_reached shows (told_by_cell shows belongs) place in
            inl (numbers.all number (reach_below graph number reached) reached);
      };
      settled = record { owed = refl; sure = λ k d within. absurd (omega (arith, within)) };
      free = λ start free.
          let parts = and_parts (is_in born.list start) (not (is_in [] start)) free in
          used_page_cell start (born.from start (in_found born.list start parts.0));
      mine = λ k d within. absurd (omega (arith, within));
    }

-- it opens one
pub cycles_open : CyclesOpen
cycles_open heap graph shows none unused = (
  opened shows none unused,
  record {
    rests = rests shows none unused;
    born = λ at. (
      λ there. (born shows none unused).from at there,
      λ belongs. (born shows none unused).all at (used_page_cell shows none unused at belongs).of_page belongs,
    );
    starts = refl;
    mine = refl;
    sure = refl;
    reached = λ number. (
      λ there. (numbers shows none unused).from number there,
      λ reached. (numbers shows none unused).all number (reach_below graph number reached) reached,
    );
    counted = refl;
    dead = (lost_words_are_listed heap graph shows).1;
  },
)
