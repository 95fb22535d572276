-- A cell stands at the address, and it is the copy.
use Rattle.std.proofs.Common.{◌∙◌, ℕ, sym, subst}
use Rattle.heap_model.specs.Types.{Cell}
use Rattle.write_barrier.specs.Seats.{heap_words}
use Rattle.heap_walk.specs.Standing.{StandsAt}
use Rattle.scavenger.proofs.LoopCopies.{copy_stands, is_copy}
use Rattle.scavenger.proofs.scanning.copy_at.Goals as goal

pub known_cell-requires : goal.known_cell-requires
known_cell-requires c =
    let main = c.args.main.now in
    let Stands : ℕ → Type 0 = λ at. (cell : Cell) × StandsAt main.seat.space (heap_words main.seat) at cell in
    let there = c.requires in
    subst Stands there.stands (copy_stands there.scavenging there.home there.among)

pub returns : goal.returns
returns c start handed all progress todo front state home among at =
    let stands = c.known_cell.ensures.stands in
    is_copy state home among c.known_cell.result stands.is_cell (stands.stands ∙ sym at)
