-- The words of the cell are copied, and then its header is put.
use Rattle.std.proofs.Common.{◌+◌, ◌<◌, ◌≤◌, length, sym, subst, arith}
use Rattle.page_space.specs.Extents.{Space, marks_start}
use Rattle.cell_layout.proofs.OneCell.{cells_have_words}
use Rattle.write_barrier.specs.Seats.{heap_words}
use Rattle.scavenger.specs.Filling.{ChangesWords}
use Rattle.scavenger.proofs.CodeChanges.{changes_again, put_changes, copy_changes}
use Rattle.scavenger.proofs.CodePlaces.{cell_copied}
use Rattle.scavenger.proofs.copying.copy_cell.Goals as goal

pub returns : goal.returns
returns c =
    let main = c.args.main.now in
    let cell = c.args.cell.now in
    let counted = c.addresses_fit.ensures.heap_counted in
    let ends : cell.at + cell.size ≤ length (heap_words main.seat) = c.requires.is.reads.there in
    let copies : ChangesWords main c.copy_words.new.self =
    copy_changes cell.at c.args.to cell.size c.copy_words.ensures.copied c.copy_words.ensures.heap
    counted (omega (arith, ends, counted)) c.requires.room in
    let some = (cells_have_words main.seat.space (heap_words main.seat) cell c.requires.is).0 in
    let below : cell.at < marks_start main.seat.space = omega (arith, some, ends, counted) in
    let puts : ChangesWords c.copy_words.new.self c.write.new.self =
    put_changes cell.at c.reference.result.0 c.write.ensures.written c.write.ensures.heap
    (subst (λ (space : Space). cell.at < marks_start space) (sym copies.seat.space) below) in
    cell_copied cell c.args.to c.reference.result.0 c.copy_words.ensures.copied c.copy_words.ensures.heap
    c.write.ensures.written c.write.ensures.heap c.reference.ensures (changes_again copies puts)
