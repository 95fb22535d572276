-- The list keeps pace with the seat.
use Rattle.std.proofs.Common.{◌≢◌, ◌∙◌, ℕ, Result, ap}
use Rattle.mark_world.specs.declared.event.Event.TheVariants as event
use Rattle.shared_table.specs.HelperTold.{learned}
use Rattle.shared_table.specs.Seats.{Helping}
use Rattle.work_board.specs.declared.Occupied.{Occupied}
use Rattle.work_board.specs.Handed.{word_found}
use Rattle.marker.proofs.Offers.{given_rests, kept_back}
use Rattle.marker.proofs.offer.give_cell.Goals as goal

pub returns-in-Ok-clause-rests : goal.returns-in-Ok-clause-rests
returns-in-Ok-clause-rests c =
    let before : Helping = c.args.seat.now in
    let place = c.args.room.now.place in
    given_rests before c.give.new.seat place c.args.at c.args.room.now.list
    (c.give.ensures.gave
    ∙ ap (λ (r : Result Unit Occupied). record before {
      lent = learned before.lent (event.Give 0 place c.args.at)
          (word_found r);
    })
    c.in-Ok.is) c.requires.rest c.requires.listed

pub returns-in-Err-clause-rests : goal.returns-in-Err-clause-rests
returns-in-Err-clause-rests c =
    let before : Helping = c.args.seat.now in
    let place = c.args.room.now.place in
    let found : ℕ = c.in-Err.field-0.found in
    let other : found ≢ 0 = c.in-Err.ensures.found.1 in
    kept_back before c.give.new.seat place c.args.at found c.args.room.now.list c.add.new.self
    (c.give.ensures.gave
    ∙ ap (λ (r : Result Unit Occupied). record before {
      lent = learned before.lent (event.Give 0 place c.args.at)
          (word_found r);
    })
    c.in-Err.is) other c.requires.rest c.requires.waits c.requires.listed c.add.ensures.bound
    c.add.ensures.members
