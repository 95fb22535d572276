-- The cell that was on the board is listed.
use Rattle.std.proofs.Common.{◌≡◌, ℕ, true, Contains, IfSome, Some, slice_index, refl, sym, ap, subst, ◌∙◌, arith}
use Rattle.tagged_word.specs.Readings.{reference_in}
use Rattle.mark_laws.proofs.MainStays.{born_old}
use Rattle.mark_laws.proofs.Slots.{some_at}
use Rattle.mark_world.specs.declared.event.Event.TheVariants as event
use Rattle.shared_table.specs.Worlds.{world_at_home}
use Rattle.heap_table.specs.Overviews.{cycle_in, overview, stepped}
use Rattle.heap_table.specs.Seats.{Seat}
use Rattle.mark_barrier.specs.Paid.{IsPaid, ListsGrey, StepsTo, Takes}
use Rattle.mark_barrier.specs.Model.{waiting_in}
use Rattle.mark_barrier.specs.Waiting.{Waiting}
use Rattle.mark_barrier.proofs.Listed.{adds_listed, none_taken, taken_paid}
use Rattle.mark_barrier.proofs.Steps.{take_steps}
use Rattle.mark_barrier.proofs.grey_cells.GreyCells.take.Goals as goal

-- the seat before the step is the one that was handed over
taken_is : (now before after : Seat) (place found : ℕ) → before ≡ now
    → after ≡ stepped before (event.TakeMain place) found → stepped now (event.TakeMain place) found ≡ after
taken_is now before after place found same taken =
    sym (taken ∙ ap (λ (s : Seat). stepped s (event.TakeMain place) found) same)

-- the cell that was found is born
found_born : (now before : Seat) (found at : ℕ) → before ≡ now → reference_in found ≡ Some at
    → IfSome (reference_in found) (λ at. Contains (overview before).view.born at)
    → Contains (overview now).view.born at
found_born now before found at same is born =
    subst (λ (s : Seat). Contains (overview s).view.born at) same
    (some_at (Contains (overview before).view.born) (reference_in found) at is born)

pub add-requires : goal.add-requires
add-requires c =
    let now : Seat = c.args.seat.now in
    let is : reference_in c.take_board.result ≡ Some c.in-Some.at = sym c.address.ensures ∙ c.in-Some.is in
    let born = found_born now c.sound.new.self c.take_board.result c.in-Some.at c.sound.ensures.same is
    c.take_board.ensures.born in
    let old = born_old (world_at_home (overview now)) c.sound.ensures.sound c.in-Some.at born in
    let bound = ap (λ (w : Waiting). w.list.bound) c.self.view_is in
    omega (arith, old, bound, c.requires.paid.lists.room.list)

pub returns-in-Some-clause-paid : goal.returns-in-Some-clause-paid
returns-in-Some-clause-paid c =
    let now : Seat = c.args.seat.now in
    let is : reference_in c.take_board.result ≡ Some c.in-Some.at = sym c.address.ensures ∙ c.in-Some.is in
    let born = found_born now c.sound.new.self c.take_board.result c.in-Some.at c.sound.ensures.same is
    c.take_board.ensures.born in
    let after : Waiting = record { list = c.add.new.self; passed = c.self.inside.passed } in
    subst (λ (s : Seat). IsPaid s after)
    (taken_is now c.sound.new.self c.take_board.new.self c.args.place c.take_board.result c.sound.ensures.same
    c.take_board.ensures.taken)
    (taken_paid now (waiting_in c.self.inside) after c.in-Some.at
    (subst (ListsGrey now) (sym c.self.view_is) c.requires.paid.lists)
    (adds_listed c.self.inside.list c.add.new.self c.self.inside.passed c.in-Some.at c.add.ensures.bound
    c.add.ensures.members) c.args.place c.take_board.result is c.requires.paid.owed born)

pub returns-in_default-clause-paid : goal.returns-in_default-clause-paid
returns-in_default-clause-paid c =
    let now : Seat = c.args.seat.now in
    subst (λ (s : Seat). IsPaid s c.args.self.now)
    (taken_is now c.sound.new.self c.take_board.new.self c.args.place c.take_board.result c.sound.ensures.same
    c.take_board.ensures.taken)
    (none_taken now c.args.self.now c.args.place c.take_board.result (sym c.address.ensures ∙ c.in_default.is)
    c.requires.paid)

pub returns-in-Some-clause-steps : goal.returns-in-Some-clause-steps
returns-in-Some-clause-steps c =
    let now : Seat = c.args.seat.now in
    subst (λ (s : Seat). StepsTo now s now.table (cycle_in now))
    (taken_is now c.sound.new.self c.take_board.new.self c.args.place c.take_board.result c.sound.ensures.same
    c.take_board.ensures.taken) (take_steps now c.args.place c.take_board.result)

pub returns-in_default-clause-steps : goal.returns-in_default-clause-steps
returns-in_default-clause-steps c =
    let now : Seat = c.args.seat.now in
    subst (λ (s : Seat). StepsTo now s now.table (cycle_in now))
    (taken_is now c.sound.new.self c.take_board.new.self c.args.place c.take_board.result c.sound.ensures.same
    c.take_board.ensures.taken) (take_steps now c.args.place c.take_board.result)

-- what was found at a place of the board, by the seat that was handed over
takes_of : (now before : Seat) (place found : ℕ) → before ≡ now
    → ((overview before).home ≡ true → found ≡ slice_index (overview before).board place)
    → Takes now (stepped now (event.TakeMain place) found) place
takes_of now before place found same home = record {
  found = found;
  there = subst (λ (s : Seat). (overview s).home ≡ true → found ≡ slice_index (overview s).board place) same home;
  board = refl;
  log = refl;
  grey = refl;
}

pub returns-in-Some-clause-takes : goal.returns-in-Some-clause-takes
returns-in-Some-clause-takes c =
    let now : Seat = c.args.seat.now in
    subst (λ (s : Seat). Takes now s c.args.place)
    (taken_is now c.sound.new.self c.take_board.new.self c.args.place c.take_board.result c.sound.ensures.same
    c.take_board.ensures.taken)
    (takes_of now c.sound.new.self c.args.place c.take_board.result c.sound.ensures.same c.take_board.ensures.home)

pub returns-in_default-clause-takes : goal.returns-in_default-clause-takes
returns-in_default-clause-takes c =
    let now : Seat = c.args.seat.now in
    subst (λ (s : Seat). Takes now s c.args.place)
    (taken_is now c.sound.new.self c.take_board.new.self c.args.place c.take_board.result c.sound.ensures.same
    c.take_board.ensures.taken)
    (takes_of now c.sound.new.self c.args.place c.take_board.result c.sound.ensures.same c.take_board.ensures.home)
