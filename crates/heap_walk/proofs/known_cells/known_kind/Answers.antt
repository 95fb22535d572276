-- The kind is that of the layout of the cell that stands there.
use Rattle.std.proofs.Common.{◌≡◌, ap}
use Rattle.heap_model.specs.Types.{Cell, LayoutWord}
use Rattle.write_barrier.specs.Seats.{heap_words}
use Rattle.heap_walk.specs.Standing.{StandsAt}
use Rattle.heap_walk.proofs.Parts.{header_word, layout_known}
use Rattle.heap_walk.proofs.known_cells.known_kind.Goals as goal

pub of_bits-header-requires : goal.of_bits-header-requires
of_bits-header-requires c =
    let (cell, is) = c.requires in
    (cell.header, is.is_cell.reads.is_header, header_word is c.word.result c.word.ensures.of_heap)

-- the header is that of a cell that stands there
header_is : (c : goal.After-of_bits-header) (cell : Cell)
    → StandsAt c.args.main.now.seat.space (heap_words c.args.main.now.seat) c.args.at cell
    → c.of_bits-header.result ≡ cell.header
header_is c cell is =
    c.of_bits-header.ensures cell.header is.is_cell.reads.is_header
    (header_word is c.word.result c.word.ensures.of_heap)

pub known_layout-requires : goal.known_layout-requires
known_layout-requires c =
    let (cell, is) = c.requires in (cell.layout, layout_known is c.of_bits-header.result (header_is c cell is))

pub returns : goal.returns
returns c cell is =
    ap (λ (layout : LayoutWord). layout.kind)
    (c.known_layout.ensures cell.layout (layout_known is c.of_bits-header.result (header_is c.before cell is)))
