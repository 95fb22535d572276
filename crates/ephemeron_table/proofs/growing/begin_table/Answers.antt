-- The header and the capacity are put before the marks, and then holes are stored in the pairs.
use Rattle.std.proofs.Common.{◌*◌, inl, inr, slice_get, ◌∙◌, ap, arith}
use Rattle.tagged_word.specs.Headers.{header_bits}
use Rattle.page_space.specs.Extents.{marks_start}
use Rattle.write_barrier.specs.MutatorState.{Mutator}
use Rattle.write_barrier.specs.Seats.{heap_words}
use Rattle.object_cells.proofs.RestOfWords.{layouts_before_marks}
use Rattle.object_cells.proofs.UnusedWords.{marks_fit}
use Rattle.object_cells.proofs.YoungStores.{young_stores_on}
use Rattle.object_cells.proofs.HeadedHoles.{PutsHeaded, headed_puts, headed_touch}
use Rattle.ephemeron_table.specs.Puttings.{table_header}
use Rattle.ephemeron_table.proofs.BegunTables.{begun_beside}
use Rattle.ephemeron_table.proofs.growing.begin_table.Goals as goal

-- the head and the holes that are put
abbrev headed : (c : goal.After-fill_holes)
    → PutsHeaded c.args.main.now c.set_header.new.self c.write_slot.new.self c.fill_holes.new.self c.args.table.at
    (2 * c.args.table.capacity) (header_bits table_header) c.args.table.capacity
headed c = record {
  first = c.set_header.ensures.written;
  second = c.write_slot.ensures.written;
  third = c.fill_holes.ensures.filled;
  heap = c.fill_holes.ensures.heap;
  counted = c.addresses_fit.ensures.heap_counted;
  within = omega (arith, c.requires.within, layouts_before_marks c.args.main.now.seat.space);
}

pub returns-clause-puts : goal.returns-clause-puts
returns-clause-puts c = headed_puts (headed c)

pub returns-clause-touches : goal.returns-clause-touches
returns-clause-touches c = headed_touch (headed c) c.fill_holes.ensures.touches

pub set_header-requires-clause-within : goal.set_header-requires-clause-within
set_header-requires-clause-within c =
    omega (arith, c.requires.within, layouts_before_marks c.args.main.now.seat.space)

pub write_slot-requires-clause-within : goal.write_slot-requires-clause-within
write_slot-requires-clause-within c =
    omega (
      arith,
      c.requires.within,
      layouts_before_marks c.args.main.now.seat.space,
      ap (λ (main : Mutator). marks_start main.seat.space) c.set_header.ensures.written,
    )

pub fill_holes-requires-clause-within : goal.fill_holes-requires-clause-within
fill_holes-requires-clause-within c =
    omega (
      arith,
      c.requires.within,
      layouts_before_marks c.args.main.now.seat.space,
      ap (λ (main : Mutator). marks_start main.seat.space) c.set_header.ensures.written,
      ap (λ (main : Mutator). marks_start main.seat.space) c.write_slot.ensures.written,
    )

pub returns-clause-stores : goal.returns-clause-stores
returns-clause-stores c =
    let puts = headed_puts (headed c) in
    let space = c.args.main.now.seat.space in
    young_stores_on (record {
      beside = puts.beside;
      paths = puts.paths;
      cycle = ap (λ (main : Mutator). main.cycle) c.fill_holes.ensures.filled
          ∙ ap (λ (main : Mutator). main.cycle) c.write_slot.ensures.written
          ∙ ap (λ (main : Mutator). main.cycle) c.set_header.ensures.written;
      bound = (headed_touch (headed c) c.fill_holes.ensures.touches).bound;
      young = c.requires.young;
      before = c.requires.within;
      stay = λ a apart. ap (λ all. slice_get all a) puts.heap
          ∙ begun_beside (heap_words c.args.main.now.seat) c.args.table
          (omega (arith, c.requires.within, layouts_before_marks space, c.addresses_fit.ensures.heap_counted)) a
          (λ from below. elim apart [
            | inl before ↦ omega (arith, before, from)
            | inr behind ↦ omega (arith, behind, below)
          ]);
    })

-- the words of the table have addresses
pub overflow_add-table : goal.overflow_add-table
overflow_add-table c =
    let space = c.args.main.now.seat.space in
    omega (
      arith,
      c.requires.within,
      layouts_before_marks space,
      marks_fit space c.addresses_fit.ensures.within,
    )

pub overflow_mul-table : goal.overflow_mul-table
overflow_mul-table c =
    let space = c.args.main.now.seat.space in
    omega (
      arith,
      c.requires.within,
      layouts_before_marks space,
      marks_fit space c.addresses_fit.ensures.within,
    )
