-- The header is the reference to the home, or the cell is moved.
use Rattle.write_barrier.specs.Seats.{heap_words}
use Rattle.scavenger.proofs.LoopTargets.{refers_by, has_target, target_before_marks}
use Rattle.scavenger.proofs.LoopMoves.{home_moves}
use Rattle.scavenger.proofs.copying.home_of.Goals as goal

pub word-word-requires : goal.word-word-requires
word-word-requires c =
    let move = c.requires.spaces.2 in
    let may = move.may in
    target_before_marks may.scavenging c.args.at
    (has_target may.scavenging move.slot may.place c.args.at may.stood move.refers move.left).0
    c.addresses_fit.ensures.heap_counted

pub returns-in-Some-clause-moved : goal.returns-in-Some-clause-moved
returns-in-Some-clause-moved c start handed all front state slot place are stood refers left =
    home_moves state slot place c.args.at c.in-Some.home stood refers left
    (refers_by (heap_words c.args.main.now.seat) c.args.at c.word-word.result c.in-Some.home c.word-word.ensures.of_heap
    c.in-Some.ensures)
