-- The word that is read is the layout word of the shape, so it parses as its layout.
use Rattle.std.proofs.Common.{◌+◌, ap, arith}
use Rattle.page_space.specs.Extents.{Space, layouts_start}
use Rattle.page_space.proofs.LawsHold.{kinds_by_number}
use Rattle.cell_layout.proofs.CellsThere.{known}
use Rattle.heap_walk.proofs.Parts.{layout_word_is}
use Rattle.heap_walk.proofs.known_cells.known_layout.Goals as goal

pub layout_at-at-requires : goal.layout_at-at-requires
layout_at-at-requires c = known _ _ _ c.requires.0 c.requires.1

pub word-requires : goal.word-requires
word-requires c =
    let starts = ap (λ (one : Space). layouts_start one + c.args.shape) c.regions.ensures.regions in
    let below = known _ _ _ c.requires.0 c.requires.1 in
    omega (arith, c.layout_at-at.ensures.at, starts, below, (kinds_by_number c.args.main.now.seat.space).marks)

pub of_bits-requires : goal.of_bits-requires
of_bits-requires c =
    let is = c.requires.1 in (
      c.requires.0,
      is.is_layout,
      layout_word_is is _ _ _ c.regions.ensures.regions c.layout_at-at.ensures.at c.word.ensures.of_heap,
    )

pub returns : goal.returns
returns c layout is =
    c.of_bits.ensures layout is.is_layout
    (layout_word_is is _ _ _ c.regions.ensures.regions c.layout_at-at.ensures.at c.word.ensures.of_heap)
