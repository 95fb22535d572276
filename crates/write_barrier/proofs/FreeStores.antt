-- Words of a page are stored one after another in an open cycle, where no helper visits by any of them.
use Rattle.std.proofs.Common.{ℕ, ◌+◌, ◌<◌, ◌≤◌, ◌∙◌, List, inr, sym, subst, take, slice_set, arith}
use Rattle.page_space.specs.Extents.{eden_start, layouts_start}
use Rattle.page_space.proofs.Starts.{layouts_start_is, roots_start_is}
use Rattle.cell_layout.specs.Cells.{layouts_in}
use Rattle.object_graph.proofs.Lists.{slice_get-set_other}
use Rattle.mark_world.specs.declared.event.Event.TheVariants as event
use Rattle.mark_world.specs.Conditions.{MayStoreOwned}
use Rattle.cycle_state.specs.Cycles.{main_of, world_in}
use Rattle.cycle_state.proofs.GoingOn.{owned_still}
use Rattle.heap_table.proofs.SharedWords.{pages-set_within}
use Rattle.mark_barrier.proofs.ReadCells.{layouts_stay}
use Rattle.write_barrier.specs.Marking.{MayPut, MayPutFree, MayPutHeader, MayStepInCycle, MayStoreAll}
use Rattle.write_barrier.specs.MutatorState.{Mutator, forgets, heap_of, with_word}
use Rattle.write_barrier.specs.Seats.{heap_words}

-- once one of the words was stored, each of them may be
stored_again : (main : Mutator) (from to at word other next : ℕ) → MayStoreAll main from to → from ≤ at → at < to
    → from ≤ other → other < to → at < eden_start main.seat.space
    → MayStepInCycle (with_word main at word) (event.StoreOwned other next)
stored_again main from to at word other next all low high then_low then_high page =
    let space = main.seat.space in
    let words : List ℕ = heap_words main.seat in
    let old : ℕ = eden_start space in
    record {
      layouts = λ shape few. slice_get-set_other words at (layouts_start space + shape) word
          (omega (arith, page, roots_start_is space, layouts_start_is space)) ∙ all.layouts shape few;
      may = subst (λ (ws : List ℕ). MayStoreOwned old ws (layouts_in space (slice_set words at word))
          (main_of main.cycle) other) (sym (pages-set_within space words at word page))
          (subst (λ (ls : List ℕ). MayStoreOwned old (slice_set (take old words) at word) ls (main_of main.cycle) other)
          (sym (layouts_stay space words at word page))
          (owned_still (world_in (heap_of main) main.cycle) at word other all.read (all.may at word low high)
          (all.may other next then_low then_high)));
    }

-- what is recorded plays no part in it
pub free_forgets : (main : Mutator) (at count from to : ℕ) → MayPutFree main at count
    → MayPutFree (forgets main from to) at count
free_forgets main at count from to may page mark =
    let all = may page mark in
    record { layouts = all.layouts; read = all.read; may = all.may }

module _ (main : Mutator) (at count : ℕ) (may : MayPutFree main at count) where
  -- the first of the words may become a header
  pub first_header : (word : ℕ) → 0 < count → MayPutHeader main at word
  first_header word some page mark =
      let all = may page mark in
      inr (record { layouts = all.layouts; may = all.may at word (omega arith) (omega (arith, some)) })

  -- and then the second another word
  pub then_second : (header word : ℕ) → 1 < count
      → MayPut (with_word main at header) (at + 1) (event.StoreOwned (at + 1) word)
  then_second header word more page mark =
      let below : at < eden_start main.seat.space = omega (arith, page) in
      stored_again main at (at + count) at header (at + 1) word (may below mark) (omega arith) (omega (arith, more))
      (omega arith) (omega (arith, more)) below
