-- The cell that is found has no home, and is copied to where there is room for it.
use Rattle.std.proofs.Common.{arith}
use Rattle.cell_layout.proofs.OneCell.{cells_have_words}
use Rattle.write_barrier.specs.Seats.{heap_words}
use Rattle.scavenger.proofs.LoopTargets.{new_is_cell, stand_free, copy_before_marks, few_words}
use Rattle.scavenger.proofs.LoopMoves.{cell_there, cell_found, copied_stays, young_before_marks, found_may_be_copied}
use Rattle.scavenger.proofs.LoopMoves.{list_is_short, found_moves}
use Rattle.scavenger.proofs.copying.move_cell.Goals as goal

pub known_cell_by-cell-requires-clause-stands : goal.known_cell_by-cell-requires-clause-stands
known_cell_by-cell-requires-clause-stands c =
    let one = cell_there c.args.word c.requires.spaces.2 c.requires.read c.requires.unmoved in
    (one.0, record { is_cell = new_is_cell one.1.state one.1.new; stands = one.1.stands })

pub place_for-to-requires-clause-some : goal.place_for-to-requires-clause-some
place_for-to-requires-clause-some c =
    let main = c.args.main.now in
    let found = cell_found c.args.word c.known_cell_by-cell.result c.requires.spaces.2 c.requires.read
    c.requires.unmoved
    c.known_cell_by-cell.ensures.one in
    (cells_have_words main.seat.space (heap_words main.seat) c.known_cell_by-cell.result
    (new_is_cell found.state found.new)).0

pub place_for-to-requires-clause-few : goal.place_for-to-requires-clause-few
place_for-to-requires-clause-few c =
    let main = c.args.main.now in
    let found = cell_found c.args.word c.known_cell_by-cell.result c.requires.spaces.2 c.requires.read
    c.requires.unmoved
    c.known_cell_by-cell.ensures.one in
    let few = (cells_have_words main.seat.space (heap_words main.seat) c.known_cell_by-cell.result
    (new_is_cell found.state found.new)).1 in
    omega (arith, few)

pub place_for-to-requires-clause-free : goal.place_for-to-requires-clause-free
place_for-to-requires-clause-free c = stand_free c.requires.spaces.2.may.scavenging

pub place_for-to-requires-clause-within : goal.place_for-to-requires-clause-within
place_for-to-requires-clause-within c =
    let found = cell_found c.args.word c.known_cell_by-cell.result c.requires.spaces.2 c.requires.read
    c.requires.unmoved
    c.known_cell_by-cell.ensures.one in
    omega (arith, copy_before_marks found.state found.new, c.addresses_fit.ensures.fit)

pub copy_cell-requires-clause-quiet : goal.copy_cell-requires-clause-quiet
copy_cell-requires-clause-quiet c =
    let found = cell_found c.args.word c.known_cell_by-cell.result c.requires.spaces.2 c.requires.read
    c.requires.unmoved
    c.known_cell_by-cell.ensures.one in
    (found_may_be_copied found (c.place_for-to.ensures c.requires.spaces.0 c.requires.spaces.1)).quiet

pub copy_cell-requires-clause-is : goal.copy_cell-requires-clause-is
copy_cell-requires-clause-is c =
    let found = cell_found c.args.word c.known_cell_by-cell.result c.requires.spaces.2 c.requires.read
    c.requires.unmoved
    c.known_cell_by-cell.ensures.one in
    (found_may_be_copied found (c.place_for-to.ensures c.requires.spaces.0 c.requires.spaces.1)).is

pub copy_cell-requires-clause-room : goal.copy_cell-requires-clause-room
copy_cell-requires-clause-room c =
    let found = cell_found c.args.word c.known_cell_by-cell.result c.requires.spaces.2 c.requires.read
    c.requires.unmoved
    c.known_cell_by-cell.ensures.one in
    (found_may_be_copied found (c.place_for-to.ensures c.requires.spaces.0 c.requires.spaces.1)).room

pub copy_cell-requires-clause-apart : goal.copy_cell-requires-clause-apart
copy_cell-requires-clause-apart c =
    let found = cell_found c.args.word c.known_cell_by-cell.result c.requires.spaces.2 c.requires.read
    c.requires.unmoved
    c.known_cell_by-cell.ensures.one in
    (found_may_be_copied found (c.place_for-to.ensures c.requires.spaces.0 c.requires.spaces.1)).apart

pub overflow_add-worker : goal.overflow_add-worker
overflow_add-worker c =
    let found = cell_found c.args.word c.known_cell_by-cell.result c.requires.spaces.2 c.requires.read
    c.requires.unmoved
    c.known_cell_by-cell.ensures.one in
    let same = copied_stays c.place_for-to.new.progress c.place_for-to.result
    (c.place_for-to.ensures c.requires.spaces.0 c.requires.spaces.1) in
    let few = few_words found.state found.new in
    omega (arith, same, few, young_before_marks c.args.main.now.seat.space, c.addresses_fit.ensures.fit)

pub push_reserved-requires : goal.push_reserved-requires
push_reserved-requires c =
    let found = cell_found c.args.word c.known_cell_by-cell.result c.requires.spaces.2 c.requires.read
    c.requires.unmoved
    c.known_cell_by-cell.ensures.one in
    omega (arith, list_is_short found, c.requires.room)

pub returns-clause-moved : goal.returns-clause-moved
returns-clause-moved c start handed all front state slot place are stood refers left =
    found_moves state slot place c.args.at c.args.word c.place_for-to.result c.known_cell_by-cell.result stood refers
    left
    c.requires.read c.requires.unmoved c.known_cell_by-cell.ensures.one (c.place_for-to.ensures all are)
    c.copy_cell.ensures
    c.push_reserved.ensures.items
