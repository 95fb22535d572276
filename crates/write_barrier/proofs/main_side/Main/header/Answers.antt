-- The word that stands there is a header's, and that of the cell.
use Rattle.std.proofs.Common.{◌≡◌, Some, sym, ◌∙◌, ap, slice_get}
use Rattle.std.specs.Prelude.{option_and_then}
use Rattle.std.proofs.lemmas.Option.{same_Some}
use Rattle.tagged_word.specs.Readings.{header_in}
use Rattle.tagged_word.proofs.Readings.{header_from}
use Rattle.write_barrier.specs.Seats.{heap_words}
use Rattle.heap_model.proofs.CellsApart.{has_is_cell}
use Rattle.write_barrier.proofs.main_side.Main.header.Goals as goal

-- the word reads as the header
read_there : (c : goal.After-word) → header_in c.word.result ≡ Some c.requires.header
read_there c = sym (ap (option_and_then header_in) c.word.ensures.of_heap) ∙ c.requires.stands

pub of_bits-requires : goal.of_bits-requires
of_bits-requires c =
    let from = header_from c.word.result c.requires.header (read_there c) in
    (c.requires.header, from.0, from.1)

pub returns-clause-stands : goal.returns-clause-stands
returns-clause-stands c =
    let header = c.requires.header in
    let from = header_from c.word.result header (read_there c.before) in
    c.requires.stands ∙ sym (ap Some (c.of_bits.ensures header from.0 from.1))

pub returns-clause-of_cell : goal.returns-clause-of_cell
returns-clause-of_cell c cell words has stands =
    let reads = (has_is_cell has).reads in
    let word = same_Some _ _ (sym c.word.ensures.of_heap ∙ ap (slice_get (heap_words c.args.self.now.seat)) (sym stands)
    ∙ reads.first) in
    sym (c.of_bits.ensures cell.header reads.is_header word)
