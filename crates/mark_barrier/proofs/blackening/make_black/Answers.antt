-- The cell is made black, and its targets are shaded.
use Rattle.std.proofs.Common.{◌≡◌, ◌≢◌, ◌<◌, ℕ, true, length, Some, Contains, IsSome, slice_index, sym, ap, subst}
use Rattle.std.proofs.Common.{◌∙◌, arith}
use Rattle.std.proofs.lemmas.List.Elements.{All-contains}
use Rattle.page_space.specs.Extents.{eden_start}
use Rattle.cell_layout.specs.Cells.{reading_of}
use Rattle.mark_laws.proofs.MainStays.{born_old}
use Rattle.mark_world.specs.BetweenCommands.{Settled}
use Rattle.mark_world.specs.Cycles.{Cycle}
use Rattle.mark_world.specs.declared.event.Event.TheVariants as event
use Rattle.mark_world.specs.Steps.{black}
use Rattle.shared_table.specs.declared.colour.Colour.{Colour}
use Rattle.shared_table.specs.declared.phase.Phase.TheVariants.{Mark}
use Rattle.shared_table.specs.Colours.{number_of}
use Rattle.shared_table.specs.Worlds.{world_at_home}
use Rattle.shared_table.proofs.ColourNumbers.{black_is}
use Rattle.heap_table.specs.Overviews.{cycle_in, overview, stepped}
use Rattle.heap_table.specs.Seats.{Seat}
use Rattle.mark_barrier.specs.CycleSteps.{made_black}
use Rattle.mark_barrier.specs.Owing.{Owes, own_cell}
use Rattle.mark_barrier.specs.Paid.{AreNoMore, IsBlackened, IsPaid, ListsGrey, StepsTo}
use Rattle.mark_barrier.proofs.Blackened.{black_lists, black_owed, black_owes, blackened_later, cell_is_read}
use Rattle.mark_barrier.proofs.LeftToDo.{black_no_more, no_more_on}
use Rattle.mark_barrier.proofs.Settling.{black_settles}
use Rattle.mark_barrier.proofs.Steps.{black_steps, black_there, steps_after}
use Rattle.mark_barrier.proofs.blackening.make_black.Goals as goal

-- the seat before the step is the one that was handed over
module _ (now before after : Seat) (same : before ≡ now) (at : ℕ) (colour : Colour)
    (blackened : after ≡ stepped before (event.Blacken at) (number_of colour)) where
  after_is : stepped now (event.Blacken at) (number_of colour) ≡ after
  after_is = sym (blackened ∙ ap (λ (s : Seat). stepped s (event.Blacken at) (number_of colour)) same)

pub blacken-requires-clause-within : goal.blacken-requires-clause-within
blacken-requires-clause-within c =
    subst (λ (s : Seat). c.args.at < eden_start s.space) (sym c.sound.ensures.same)
    (born_old (world_at_home (overview c.args.seat.now)) c.sound.ensures.sound c.args.at c.requires.born)

pub known_cell-cell-requires : goal.known_cell-cell-requires
known_cell-cell-requires c =
    let now : Seat = c.args.seat.now in
    let mine : Contains (overview now).view.mine c.args.at → ⊥ = λ is.
    c.in_default.not-Black (c.blacken.ensures.mine
    (subst (λ (s : Seat). Contains (overview s).view.mine c.args.at) (sym c.sound.ensures.same) is)) in
    subst (λ (s : Seat). IsSome (own_cell s.space s.table c.args.at))
    (after_is now c.sound.new.self c.blacken.new.self c.sound.ensures.same c.args.at c.blacken.result
    c.blacken.ensures.blackened)
    (cell_is_read now c.args.at c.sound.ensures.sound c.requires.born mine c.requires.layouts)

pub shade_slots-requires : goal.shade_slots-requires
shade_slots-requires c =
    let now : Seat = c.args.seat.now in
    let is = after_is now c.sound.new.self c.blacken.new.self c.sound.ensures.same c.args.at c.blacken.result
    c.blacken.ensures.blackened in
    let mine : Contains (overview now).view.mine c.args.at → ⊥ = λ is_mine.
    c.in_default.not-Black (c.blacken.ensures.mine
    (subst (λ (s : Seat). Contains (overview s).view.mine c.args.at) (sym c.sound.ensures.same) is_mine)) in
    let other : number_of c.blacken.result ≢ black = λ e. c.in_default.not-Black (black_is c.blacken.result e) in
    let reads = subst (λ (s : Seat). own_cell s.space s.table c.args.at ≡ Some (reading_of c.known_cell-cell.result))
    (sym is) c.known_cell-cell.ensures.reads in
    let found = subst (λ (s : Seat). (overview s).home ≡ true → number_of c.blacken.result
    ≡ slice_index (overview s).colours c.args.at) c.sound.ensures.same c.blacken.ensures.home in
    record {
      mark = subst (λ (s : Seat). s.phase ≡ Mark) is c.requires.mark;
      lists = subst (λ (s : Seat). ListsGrey s c.args.grey.now) is
          (black_lists now c.args.at c.blacken.result c.args.grey.now found c.requires.lists);
      owes = subst (λ (s : Seat). Owes s c.known_cell-cell.result 0) is
          (black_owes now c.args.at c.sound.ensures.sound c.requires.born mine c.requires.layouts
          c.known_cell-cell.result c.known_cell-cell.ensures.at reads c.blacken.result other c.requires.owed);
    }

pub returns-in-Black-clause-paid : goal.returns-in-Black-clause-paid
returns-in-Black-clause-paid c =
    let now : Seat = c.args.seat.now in
    let is = after_is now c.sound.new.self c.blacken.new.self c.sound.ensures.same c.args.at c.blacken.result
    c.blacken.ensures.blackened in
    let found = subst (λ (s : Seat). (overview s).home ≡ true → number_of c.blacken.result
    ≡ slice_index (overview s).colours c.args.at) c.sound.ensures.same c.blacken.ensures.home in
    subst (λ (s : Seat). IsPaid s c.args.grey.now) is (record {
      lists = black_lists now c.args.at c.blacken.result c.args.grey.now found c.requires.lists;
      owed = black_owed now c.args.at c.blacken.result (ap number_of c.in-Black.is) ∙ c.requires.owed;
    })

pub returns-in_default : goal.returns-in_default
returns-in_default c =
    let now : Seat = c.args.seat.now in
    let after : Seat = c.blacken.new.self in
    let is = after_is now c.sound.new.self after c.sound.ensures.same c.args.at c.blacken.result
    c.blacken.ensures.blackened in
    let found = subst (λ (s : Seat). (overview s).home ≡ true → number_of c.blacken.result
    ≡ slice_index (overview s).colours c.args.at) c.sound.ensures.same c.blacken.ensures.home in
    let old : ℕ = (overview now).old in
    let cycle : Cycle = made_black old (overview now).words (overview now).layouts (cycle_in now) c.args.at in
    let steps = subst (λ (s : Seat). StepsTo now s now.table cycle) is
    (black_steps now c.args.at c.blacken.result found) in
    let inside = born_old (world_at_home (overview now)) c.sound.ensures.sound c.args.at c.requires.born in
    let counted = subst (λ (s : Seat). length (overview s).colours ≡ eden_start s.space) c.sound.ensures.same
    c.colours_fit.ensures.counted in
    let is_black = subst (λ (s : Seat). IsBlackened s c.args.at) is
    (black_there now c.args.at
    (overview (stepped now (event.Blacken c.args.at) (number_of c.blacken.result))).view
    (omega (arith, inside, counted))) in
    let all = steps_after now after c.shade_slots.new.seat now.table cycle steps c.shade_slots.ensures.steps in
    let start = All-contains (Contains (overview now).view.starts) (overview now).view.born c.args.at
    c.sound.ensures.sound.born c.requires.born in
    record {
      paid = record { lists = c.shade_slots.ensures.lists; owed = c.shade_slots.ensures.owed };
      passed = c.shade_slots.ensures.passed;
      steps = all;
      settled = black_settles now c.shade_slots.new.seat c.args.at start all.moves c.shade_slots.ensures.owed;
      no_more = no_more_on now after c.shade_slots.new.seat c.args.grey.now c.args.grey.now c.shade_slots.new.grey
          steps.moves.home (subst (λ (s : Seat). AreNoMore now c.args.grey.now s c.args.grey.now) is
          (black_no_more now c.args.grey.now c.args.at c.blacken.result (omega (arith, inside, counted))))
          c.shade_slots.ensures.no_more;
      black = blackened_later after c.shade_slots.new.seat c.args.at after.table (cycle_in after) is_black
          c.shade_slots.ensures.steps;
    }

pub returns-in-Black-clause-settled : goal.returns-in-Black-clause-settled
returns-in-Black-clause-settled c =
    let now : Seat = c.args.seat.now in
    let is = after_is now c.sound.new.self c.blacken.new.self c.sound.ensures.same c.args.at c.blacken.result
    c.blacken.ensures.blackened in
    let found = subst (λ (s : Seat). (overview s).home ≡ true → number_of c.blacken.result
    ≡ slice_index (overview s).colours c.args.at) c.sound.ensures.same c.blacken.ensures.home in
    let start = All-contains (Contains (overview now).view.starts) (overview now).view.born c.args.at
    c.sound.ensures.sound.born c.requires.born in
    subst (λ (s : Seat). Settled (world_at_home (overview now)) → Settled (world_at_home (overview s))) is
    (black_settles now (stepped now (event.Blacken c.args.at) (number_of c.blacken.result)) c.args.at start
    (black_steps now c.args.at c.blacken.result found).moves
    (black_owed now c.args.at c.blacken.result (ap number_of c.in-Black.is) ∙ c.requires.owed))
