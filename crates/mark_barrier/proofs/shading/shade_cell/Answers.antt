-- The lists go with the seat.
use Rattle.std.proofs.Common.{◌≡◌, ◌≢◌, ℕ, List, arith, refl, sym, ap, subst}
use Rattle.core_parts.specs.Lists.{left}
use Rattle.mark_world.specs.declared.event.Event.TheVariants as event
use Rattle.mark_world.specs.Steps.{white}
use Rattle.shared_table.specs.declared.colour.Colour.TheVariants.{White}
use Rattle.shared_table.specs.Colours.{number_of}
use Rattle.shared_table.proofs.ColourNumbers.{not_white_number}
use Rattle.heap_table.specs.Overviews.{cycle_in, overview, stepped}
use Rattle.heap_table.specs.Seats.{Seat}
use Rattle.mark_barrier.specs.CycleSteps.{sure_of}
use Rattle.mark_barrier.specs.Model.{waiting_in}
use Rattle.mark_barrier.specs.Paid.{AreNoMore, IsColoured, ListsGrey, StepsTo}
use Rattle.mark_barrier.specs.Waiting.{Waiting}
use Rattle.mark_barrier.proofs.Listed.{adds_listed, other_listed, white_listed}
use Rattle.mark_barrier.proofs.LeftToDo.{other_no_more, white_no_more}
use Rattle.mark_barrier.proofs.Steps.{shade_colours, shade_steps}
use Rattle.mark_barrier.proofs.shading.shade_cell.Goals as goal

pub add-requires : goal.add-requires
add-requires c =
    let bound = ap (λ (w : Waiting). w.list.bound) c.grey.view_is in
    omega (arith, bound, c.requires.within, c.requires.lists.room.list)

pub returns-in-White-clause-lists : goal.returns-in-White-clause-lists
returns-in-White-clause-lists c =
    let is_white : c.shade.result ≡ White = c.in-White.is in
    let now : Waiting = record { list = c.add.new.self; passed = c.grey.inside.passed } in
    subst (λ (s : Seat). ListsGrey s now) (sym c.shade.ensures.shaded)
    (white_listed c.args.seat.now (waiting_in c.grey.inside) now c.args.at
    (subst (ListsGrey c.args.seat.now) (sym c.grey.view_is) c.requires.lists)
    (adds_listed c.grey.inside.list c.add.new.self c.grey.inside.passed c.args.at c.add.ensures.bound
    c.add.ensures.members) (number_of c.shade.result) c.shade.ensures.home (ap number_of is_white) c.requires.born)

pub returns-in-White-clause-passed : goal.returns-in-White-clause-passed
returns-in-White-clause-passed c = ap (λ (w : Waiting). w.passed) c.grey.view_is

pub returns-in_default : goal.returns-in_default
returns-in_default c =
    let before : Seat = c.args.seat.now in
    let found : ℕ = number_of c.shade.result in
    let other : found ≢ white = not_white_number c.shade.result c.in_default.not-White in
    let owed : List ℕ = left (overview before).view.owed c.args.at in
    record {
      lists = subst (λ (s : Seat). ListsGrey s c.args.grey.now) (sym c.shade.ensures.shaded)
          (other_listed before c.args.grey.now c.args.at found c.requires.lists c.shade.ensures.home other);
      passed = refl;
      owed = subst (λ (s : Seat). (overview s).view.owed ≡ owed) (sym c.shade.ensures.shaded) refl;
      steps = subst (λ (s : Seat). StepsTo before s before.table (sure_of (cycle_in before) c.args.at))
          (sym c.shade.ensures.shaded) (shade_steps before c.args.at found c.shade.ensures.home);
      coloured = subst (λ (s : Seat). IsColoured s c.args.at) (sym c.shade.ensures.shaded)
          (shade_colours before c.args.at found c.shade.ensures.home
          (omega (arith, c.colours_fit.ensures.counted, c.requires.within)));
      no_more = subst (λ (s : Seat). AreNoMore before c.args.grey.now s c.args.grey.now) (sym c.shade.ensures.shaded)
          (other_no_more before c.args.grey.now c.args.at found
          (omega (arith, c.colours_fit.ensures.counted, c.requires.within)) c.shade.ensures.home other);
    }

pub returns-in-White-clause-no_more : goal.returns-in-White-clause-no_more
returns-in-White-clause-no_more c =
    let before : Seat = c.args.seat.now in
    let now : Waiting = record { list = c.add.new.self; passed = c.grey.inside.passed } in
    let found : ℕ = number_of c.shade.result in
    subst (λ (s : Seat). AreNoMore before c.args.grey.now s now) (sym c.shade.ensures.shaded)
    (subst (λ (w : Waiting). AreNoMore before w (stepped before (event.ShadeMain c.args.at) found) now) c.grey.view_is
    (white_no_more before (waiting_in c.grey.inside) c.args.at found
    (omega (arith, c.colours_fit.ensures.counted, c.requires.within)) c.shade.ensures.home now
    (ap number_of c.in-White.is) (omega (arith, c.add.ensures.few))))
