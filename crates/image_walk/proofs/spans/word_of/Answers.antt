use Rattle.std.proofs.Common.{ℕ, ◌+◌, ◌<◌, length, ap, ◌∙◌, arith}
use Rattle.std.proofs.lemmas.Option.{slice_get-get_or}
use Rattle.heap_model.specs.Images.{image_heap}
use Rattle.image_walk.proofs.SpanWords.{cell_ends, slice_get-words_of_cell}
use Rattle.image_walk.proofs.spans.word_of.Goals as goal

pub bounds-as_slice-cell : goal.bounds-as_slice-cell
bounds-as_slice-cell c =
    omega (
      arith,
      c.requires.within,
      cell_ends (image_heap c.args.image.now) c.args.cell c.requires.stands,
      ap length c.as_slice.ensures,
    )

pub returns : goal.returns
returns c =
    let heap = image_heap c.args.image.now in
    let place : ℕ = c.args.cell.at + c.args.offset in
    let within : place < length heap.words =
    omega (arith, c.requires.within, cell_ends heap c.args.cell c.requires.stands) in
    rw c.as_slice.ensures
    (slice_get-words_of_cell heap c.args.cell c.args.offset c.requires.within
    ∙ slice_get-get_or heap.words place 0 within)
