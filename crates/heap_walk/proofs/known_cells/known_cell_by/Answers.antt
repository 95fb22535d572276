-- The parts that are read are those of the cell that stands there.
use Rattle.std.proofs.Common.{◌≡◌, sym, subst}
use Rattle.heap_model.specs.Types.{Cell}
use Rattle.write_barrier.specs.Seats.{heap_words}
use Rattle.heap_walk.specs.Standing.{StandsAt}
use Rattle.heap_walk.proofs.Parts.{header_word, layout_known, length_known, size_known, cell_is}
use Rattle.heap_walk.proofs.known_cells.known_cell_by.Goals as goal

pub of_bits-header-requires : goal.of_bits-header-requires
of_bits-header-requires c =
    let (cell, is) = c.requires.stands in
    (cell.header, is.is_cell.reads.is_header, header_word is c.args.word c.requires.read)

-- the header is that of a cell that stands there
header_is : (c : goal.After-of_bits-header) (cell : Cell)
    → StandsAt c.args.main.now.seat.space (heap_words c.args.main.now.seat) c.args.at cell
    → c.of_bits-header.result ≡ cell.header
header_is c cell is =
    c.of_bits-header.ensures cell.header is.is_cell.reads.is_header (header_word is c.args.word c.requires.read)

pub known_layout-layout-requires : goal.known_layout-layout-requires
known_layout-layout-requires c =
    let (cell, is) = c.requires.stands in
    (cell.layout, layout_known is c.of_bits-header.result (header_is c cell is))

-- so is the layout
layout_is : (c : goal.After-known_layout-layout) (cell : Cell)
    → StandsAt c.args.main.now.seat.space (heap_words c.args.main.now.seat) c.args.at cell
    → c.known_layout-layout.result ≡ cell.layout
layout_is c cell is =
    c.known_layout-layout.ensures cell.layout (layout_known is c.of_bits-header.result (header_is c.before cell is))

pub known_length-length-requires : goal.known_length-length-requires
known_length-length-requires c =
    let (cell, is) = c.requires.stands in
    (cell.length, length_known is c.known_layout-layout.result (layout_is c cell is))

pub known_size-requires : goal.known_size-requires
known_size-requires c =
    let (cell, is) = c.requires.stands in (
      cell.size,
      size_known is c.known_layout-layout.result c.known_length-length.result (layout_is c.before cell is)
          c.known_length-length.ensures,
    )

pub returns : goal.returns
returns c =
    let one = λ (cell : Cell) (is : StandsAt c.args.main.now.seat.space (heap_words c.args.main.now.seat) c.args.at
    cell).
    cell_is is c.of_bits-header.result c.known_layout-layout.result c.known_length-length.result c.known_size.result
    (header_is c.before.before.before cell is) (layout_is c.before.before cell is) c.known_length-length.ensures
    c.known_size.ensures in
    record {
      stands = subst (λ (cell : Cell). StandsAt c.args.main.now.seat.space (heap_words c.args.main.now.seat) c.args.at
          cell) (sym (one c.requires.stands.0 c.requires.stands.1)) c.requires.stands.1;
      one = one;
    }
