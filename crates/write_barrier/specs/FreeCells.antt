-- The words of the free cells that cover words which hold nothing.
use Rattle.std.specs.Prelude.{ℕ, ◌+◌, ◌==◌, List, replicate, slice_set, if◌then◌else◌}
use Rattle.heap_model.specs.Types.{Header}
use Rattle.tagged_word.specs.Headers.{header_bits}
use Rattle.tagged_word.specs.Shapes.{filler_shape}
use Rattle.tagged_word.specs.Cells.{length_offset}
use Rattle.write_barrier.specs.MutatorState.{gap_header}
use Rattle.write_barrier.specs.Values.{with_range}

-- the header of a filler
abbrev pub filler_header : Header
filler_header = record { shape = filler_shape; object = 0 }

-- the words with a free cell over so many at an address: a filler over one, a gap over more, and none over none
abbrev pub with_free_cell : List ℕ → ℕ → ℕ → List ℕ
with_free_cell words at count =
    if count == 0 then words
    else (if count == 1 then slice_set words at (header_bits filler_header)
    else slice_set (slice_set words at (header_bits gap_header)) (at + length_offset) count)

-- the words with so many fillers of one word each from an address on
abbrev pub with_fillers : List ℕ → ℕ → ℕ → List ℕ
with_fillers words at count = with_range words at (replicate count (header_bits filler_header))
