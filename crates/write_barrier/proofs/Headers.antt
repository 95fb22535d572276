-- The headers of cells stand where the cells do.
use Rattle.std.proofs.Common.{◌≡◌, ◌∙◌, ℕ, List, refl, sym, ap, slice_get}
use Rattle.std.specs.Option.{option_and_then}
use Rattle.tagged_word.specs.Headers.{header_bits}
use Rattle.tagged_word.specs.Readings.{header_in}
use Rattle.tagged_word.proofs.Readings.{header_to}
use Rattle.heap_model.specs.Types.{Cell}
use Rattle.heap_model.specs.Heaps.{Heap, HasCell}
use Rattle.heap_model.proofs.CellsApart.{has_is_cell}
use Rattle.write_barrier.specs.Reading.{HasHeader}

-- a header stands at the address of a cell
pub has_header : {heap : Heap} {cell : Cell} {words : List ℕ} {at : ℕ} → HasCell heap cell words → cell.at ≡ at
    → HasHeader heap at
has_header {heap} {cell} has stands =
    let reads = (has_is_cell has).reads in
    record {
      header = cell.header;
      stands = ap (option_and_then header_in) (ap (slice_get heap.words) (sym stands) ∙ reads.first)
          ∙ header_to (header_bits cell.header) cell.header reads.is_header refl;
    }
