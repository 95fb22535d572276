-- The head of the store is put, and then holes are stored in its slots.
use Rattle.std.proofs.Common.{◌+◌, ◌≤◌, ◌∙◌, ap, arith, replicate, length-set}
use Rattle.std.specs.Prelude.{List, ◌∷◌, ℕ, slice_set}
use Rattle.tagged_word.specs.Headers.{header_bits}
use Rattle.write_barrier.specs.Seats.{heap_words}
use Rattle.heap_model.specs.Slots.{hole_word}
use Rattle.write_barrier.specs.Values.{with_range}
use Rattle.write_barrier.specs.MutatorState.{Mutator}
use Rattle.object_cells.specs.Formats.{empty_store, store_header}
use Rattle.object_cells.proofs.StoredRuns.{range_puts_young}
use Rattle.object_cells.proofs.StoreWords.{length-empty_store}
use Rattle.object_cells.proofs.YoungStores.{young_stores_on}
use Rattle.object_cells.proofs.RestOfWords.{layouts_before_marks}
use Rattle.page_space.specs.Extents.{marks_start}
use Rattle.object_cells.proofs.HeadedHoles.{PutsHeaded, headed_puts, headed_touch}
use Rattle.write_barrier.proofs.PutRanges.{with_range-put}
use Rattle.object_cells.proofs.formats.fill_store.Goals as goal

-- the head and the holes that are put
abbrev headed : (c : goal.After-fill_holes)
    → PutsHeaded c.args.main.now c.set_header.new.self c.write_slot.new.self c.fill_holes.new.self c.args.at
    c.args.capacity (header_bits store_header) c.args.capacity
headed c = record {
  first = c.set_header.ensures.written;
  second = c.write_slot.ensures.written;
  third = c.fill_holes.ensures.filled;
  heap = c.fill_holes.ensures.heap;
  counted = c.addresses_fit.ensures.heap_counted;
  within = omega (arith, c.requires.within, layouts_before_marks c.args.main.now.seat.space);
}

pub returns-clause-filled : goal.returns-clause-filled
returns-clause-filled c =
    let at = c.args.at in
    let capacity = c.args.capacity in
    let header : ℕ = header_bits store_header in
    let holes = replicate capacity hole_word in
    let words = heap_words c.args.main.now.seat in
    let first : List ℕ = slice_set words at header in
    let counted = c.addresses_fit.ensures.heap_counted in
    let puts = headed_puts (headed c) in
    let before : at + 2 + capacity ≤ marks_start c.args.main.now.seat.space =
    omega (arith, c.requires.within, layouts_before_marks c.args.main.now.seat.space) in
    record {
      beside = puts.beside;
      paths = puts.paths;
      young = puts.young;
      heap = puts.heap ∙ ap (λ next. with_range (slice_set first (at + 1) capacity) next holes) (omega arith)
          ∙ with_range-put first holes (at + 1) capacity
          (omega (arith, counted, before, length-set words at header))
          ∙ with_range-put words (capacity ∷ holes) at header (omega (arith, counted, before));
    }

pub returns-clause-touches : goal.returns-clause-touches
returns-clause-touches c = headed_touch (headed c) c.fill_holes.ensures.touches

pub set_header-requires-clause-within : goal.set_header-requires-clause-within
set_header-requires-clause-within c =
    omega (arith, c.requires.within, layouts_before_marks c.args.main.now.seat.space)

pub write_slot-requires-clause-within : goal.write_slot-requires-clause-within
write_slot-requires-clause-within c =
    omega (
      arith,
      c.requires.within,
      layouts_before_marks c.args.main.now.seat.space,
      ap (λ (main : Mutator). marks_start main.seat.space) c.set_header.ensures.written,
    )

pub overflow_add-at : goal.overflow_add-at
overflow_add-at c =
    omega (arith, c.requires.within, layouts_before_marks c.args.main.now.seat.space, c.addresses_fit.ensures.within)

pub fill_holes-requires-clause-within : goal.fill_holes-requires-clause-within
fill_holes-requires-clause-within c =
    omega (
      arith,
      c.requires.within,
      layouts_before_marks c.args.main.now.seat.space,
      ap (λ (main : Mutator). marks_start main.seat.space) c.set_header.ensures.written,
      ap (λ (main : Mutator). marks_start main.seat.space) c.write_slot.ensures.written,
    )

pub returns-clause-stores : goal.returns-clause-stores
returns-clause-stores c =
    let at = c.args.at in
    let capacity = c.args.capacity in
    let long = length-empty_store capacity in
    young_stores_on (range_puts_young at
    (ap (λ (main : Mutator). main.cycle) c.fill_holes.ensures.filled
    ∙ ap (λ (main : Mutator). main.cycle) c.write_slot.ensures.written
    ∙ ap (λ (main : Mutator). main.cycle) c.set_header.ensures.written)
    (headed_touch (headed c) c.fill_holes.ensures.touches).bound c.requires.young
    c.addresses_fit.ensures.heap_counted (empty_store capacity) (returns-clause-filled c)
    (omega (arith, long, c.requires.within)))
