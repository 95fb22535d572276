-- What a word that is put makes of the world of a heap's pages, and of what is known of the cycle.
use Rattle.std.proofs.Common.{◌≡◌, ℕ, ◌<◌, ◌≤◌, inl, inr, List, take, slice_set, refl, sym, ◌∙◌}
use Rattle.std.proofs.Common.{ap, subst}
use Rattle.std.proofs.lemmas.Bool.{cases_lt}
use Rattle.std.proofs.lemmas.List.{drop-set-lt}
use Rattle.cell_layout.specs.Cells.{layouts_in}
use Rattle.cycle_state.specs.Cycles.{words_of_pages}
use Rattle.cycle_state.proofs.GoingOn.{goes_on_itself}
use Rattle.heap_table.specs.Phases.{Mark, Paused, Phase, Quiet}
use Rattle.heap_table.proofs.SharedWords.{pages-set_behind, pages-set_within}
use Rattle.mark_world.specs.Cycles.{Cycle}
use Rattle.mark_world.specs.Soundness.{AreIn}
use Rattle.page_space.specs.Extents.{Space, eden_start, layouts_start}
use Rattle.tagged_word.specs.Shapes.{shapes_most}
use Rattle.remembered_set.specs.Recorded.{Recorded}
use Rattle.write_barrier.specs.Layouts.{HasLayouts}
use Rattle.write_barrier.specs.MutatorState.{Mutator, cycle_after, heap_of, judged, put_word}
use Rattle.write_barrier.specs.MutatorState.{while_open, world_of}
use Rattle.write_barrier.specs.Storing.{IsReadable, StoresOn}
use Rattle.write_barrier.proofs.JudgedSlots.{judged_behind, judges_one}
use Rattle.write_barrier.proofs.SeenWorlds.{SeesOn, seen}
use Rattle.write_barrier.proofs.SlotCycles.{cycle_behind, cycle_inside, open_mark}
use Rattle.write_barrier.proofs.StoresOn.{layouts_said, stores_by}

-- a word before the layout words leaves them
pub layouts_put : (space : Space) (table : List ℕ) (at word : ℕ) → at < layouts_start space
    → layouts_in space (slice_set table at word) ≡ layouts_in space table
unfolding layouts_in
layouts_put space table at word before =
    ap (take shapes_most) (drop-set-lt (layouts_start space) table at word before)

-- what holds of what is known of a cycle, and of what is known next, holds after a step, whatever the phase
open_cases : (P : Cycle → Type 0) (phase : Phase) (was next : Cycle) → P was → P next → P (while_open phase was next)
open_cases P Mark was next here there = there
open_cases P Quiet was next here there = here
open_cases P Paused was next here there = here

-- wherever the word stands
pub after_cases : (P : Cycle → Type 0) (main : Mutator) (at : ℕ) (next : Cycle) → P main.cycle → P next
    → P (cycle_after main at next)
after_cases P main at next here there = elim (cases_lt at main.recorded.bound) [
  | inl below ↦ subst P (sym (cycle_inside main at next below))
      (open_cases P main.seat.phase main.cycle next here there)
  | inr behind ↦ subst P (sym (cycle_behind main at next behind)) here
]

-- in a page of a heap in which a cycle is open it is what is known next
pub after_open : (main : Mutator) (at : ℕ) (next : Cycle) → IsReadable main → at < eden_start main.seat.space
    → main.seat.phase ≡ Mark → cycle_after main at next ≡ next
after_open main at next readable of_page mark =
    cycle_inside main at next (subst (λ (n : ℕ). at < n) (sym readable.bounded) of_page)
    ∙ open_mark main.seat.phase main.cycle next mark

-- and behind the pages what was known
pub after_behind : (main : Mutator) (at : ℕ) (next : Cycle) → IsReadable main → eden_start main.seat.space ≤ at
    → cycle_after main at next ≡ main.cycle
after_behind main at next readable behind =
    cycle_behind main at next (subst (λ (n : ℕ). n ≤ at) (sym readable.bounded) behind)

-- the bound stays where a slot is judged
pub judged_keeps : (recorded : Recorded) (at word : ℕ) → (judged recorded at word).bound ≡ recorded.bound
judged_keeps recorded at word = elim (cases_lt at recorded.bound) [
  | inl below ↦ (judges_one recorded at word below).bound
  | inr behind ↦ ap (λ (one : Recorded). one.bound) (judged_behind recorded at word behind)
]

module _ (main : Mutator) (at word : ℕ) (before : at < layouts_start main.seat.space) where
  -- the mutator once the word is another, with what is recorded and known then
  abbrev put_in : Recorded → Cycle → Mutator
  put_in recorded cycle = put_word (record main { recorded = recorded; cycle = cycle }) at word

  -- its world, if the word is one of a page
  put_seen : (recorded : Recorded) (cycle : Cycle) → at < eden_start main.seat.space
      → world_of (put_in recorded cycle)
      ≡ seen (eden_start main.seat.space) (slice_set (words_of_pages (heap_of main)) at word)
      (layouts_in main.seat.space main.seat.table) cycle
  put_seen recorded cycle of_page =
      ap (λ (all : List ℕ). seen (eden_start main.seat.space) all
      (layouts_in main.seat.space (slice_set main.seat.table at word)) cycle)
      (pages-set_within main.seat.space main.seat.table at word of_page)
      ∙ ap (λ (all : List ℕ). seen (eden_start main.seat.space)
      (slice_set (words_of_pages (heap_of main)) at word) all cycle)
      (layouts_put main.seat.space main.seat.table at word before)

  -- and if it is one behind them
  put_behind : (recorded : Recorded) (cycle : Cycle) → eden_start main.seat.space ≤ at
      → world_of (put_in recorded cycle)
      ≡ seen (eden_start main.seat.space) (words_of_pages (heap_of main))
      (layouts_in main.seat.space main.seat.table) cycle
  put_behind recorded cycle behind =
      ap (λ (all : List ℕ). seen (eden_start main.seat.space) all
      (layouts_in main.seat.space (slice_set main.seat.table at word)) cycle)
      (pages-set_behind main.seat.space main.seat.table at word behind)
      ∙ ap (λ (all : List ℕ). seen (eden_start main.seat.space) (words_of_pages (heap_of main)) all cycle)
      (layouts_put main.seat.space main.seat.table at word before)

  -- layout words stay those of the shapes
  put_layouts_stay : (recorded : Recorded) (cycle : Cycle) → HasLayouts main → HasLayouts (put_in recorded cycle)
  put_layouts_stay recorded cycle =
      layouts_said main.seat.space main.seat.table (slice_set main.seat.table at word) main.paths
      (layouts_put main.seat.space main.seat.table at word before)

  -- So words were stored, if what is known of the cycle is what was known, with more cells of which the mutator is
  -- sure, and in a page the world goes on.
  pub put_on : (recorded : Recorded) (next : Cycle) → recorded.bound ≡ main.recorded.bound
      → next ≡ record main.cycle { sure = next.sure } → AreIn next.sure main.cycle.sure
      → (IsReadable main → eden_start main.seat.space ≤ at → next ≡ main.cycle)
      → (IsReadable main → at < eden_start main.seat.space → main.seat.phase ≡ Mark
      → SeesOn (world_of main) (seen (eden_start main.seat.space) (slice_set (words_of_pages (heap_of main)) at word)
      (layouts_in main.seat.space main.seat.table) next))
      → StoresOn main (put_in recorded next)
  put_on recorded next bound same sure behind inside =
      stores_by refl refl bound same sure (put_layouts_stay recorded next)
      (λ mark readable. elim (cases_lt at (eden_start main.seat.space)) [
        | inl of_page ↦ subst (SeesOn (world_of main)) (sym (put_seen recorded next of_page))
            (inside readable of_page mark)
        | inr beyond ↦ subst (SeesOn (world_of main))
            (sym (put_behind recorded next beyond
            ∙ ap (λ (one : Cycle). seen (eden_start main.seat.space) (words_of_pages (heap_of main))
            (layouts_in main.seat.space main.seat.table) one) (behind readable beyond)))
            (record { sound = readable.view; goes = goes_on_itself (world_of main) })
      ])
