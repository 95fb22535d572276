-- A look leaves the seat at rest.
use Rattle.std.proofs.Common.{◌∙◌, ◌<◌, ◌^◌, ℕ, List, Contains, Option, inr, refl, ap, subst, arith}
use Rattle.mark_world.specs.declared.event.Event.TheVariants as event
use Rattle.shared_table.specs.HelperTold.{learned}
use Rattle.shared_table.specs.Seats.{Helping}
use Rattle.work_board.specs.Handed.{word_taken}
use Rattle.marker.proofs.Looked.{none_there}
use Rattle.marker.proofs.OneTurn.{found_rests, none_rests}
use Rattle.marker.proofs.turn.look.Goals as goal

pub returns-in-Some-clause-rests : goal.returns-in-Some-clause-rests
returns-in-Some-clause-rests c =
    let before : Helping = c.args.seat.now in
    let place = c.args.room.now.place in
    let fits : c.in-Some.at < 2 ^ 32 = omega arith in
    found_rests before c.take.new.seat place c.in-Some.at c.args.room.now.list c.add.new.self
    (c.take.ensures.took
    ∙ ap (λ (o : Option ℕ). record before { lent = learned before.lent (event.Take 0 place) (word_taken o) })
    c.in-Some.is)
    fits c.requires.rests c.add.ensures.bound c.add.ensures.members

pub returns-in-None-clause-rests : goal.returns-in-None-clause-rests
returns-in-None-clause-rests c =
    let before : Helping = c.args.seat.now in
    let place = c.args.room.now.place in
    none_rests before c.take.new.seat place c.args.room.now.list
    (c.take.ensures.took
    ∙ ap (λ (o : Option ℕ). record before { lent = learned before.lent (event.Take 0 place) (word_taken o) })
    c.in-None.is)
    c.requires.rests

pub returns-in-Some-clause-found : goal.returns-in-Some-clause-found
returns-in-Some-clause-found c =
    let at : ℕ = c.in-Some.at in
    let has = (c.add.ensures.members at).1 (inr refl) in
    λ answer empty. none_there at (subst (λ (all : List ℕ). Contains all at) empty has)
