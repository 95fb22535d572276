-- The load is an event.
use Rattle.std.proofs.Common.{◌≡◌, ◌∙◌, ◌+◌, ℕ, [], refl, sym, ap, subst, rules}
use Rattle.mark_laws.specs.Types.{Event, Spot}
use Rattle.mark_world.specs.declared.event.Event.TheVariants as event
use Rattle.mark_world.specs.Conditions.{MayHelper}
use Rattle.shared_table.specs.declared.overview.Lent.{Lent}
use Rattle.shared_table.specs.declared.overview.View.TheVariants.{Helper}
use Rattle.shared_table.specs.HelperTold.{IsReading, learned, length_load}
use Rattle.shared_table.specs.Seats.{Helping}
use Rattle.shared_table.specs.Worlds.{lent_of}
use Rattle.shared_table.proofs.HelperEvents.{IsStep}
use Rattle.shared_table.proofs.HelperSpots.{length_step}
use Rattle.shared_table.proofs.HelperSteps.{learned_may}
use Rattle.shared_table.proofs.Helping.{step_keeps, step_place, step_spot}
use Rattle.shared_table.proofs.helper.HelperSeat.load_length.Goals as goal

pub load-requires : goal.load-requires
load-requires c =
    let s = c.self.inside in
    let inv = c.self.invariant in
    let lent : Lent = lent_of s.seat.me.0 in
    let may : MayHelper lent.view (event.LoadLength 0) =
    subst (λ (v : Helping). MayHelper v.lent.view (event.LoadLength 0)) (sym c.self.view_is) c.requires.may in
    let reads : IsReading lent.view c.args.cell =
    subst (λ (v : Helping). IsReading v.lent.view c.args.cell) (sym c.self.view_is) c.requires.cell in
    let of : ℕ → Event = λ j. event.LoadLength j in
    let spot : Spot = Spot.Heap (c.args.cell + 1) in
    let is : IsStep lent.view of spot = length_step lent.view inv.out c.args.cell may reads in
    let own : s.seat.table_id ≡ c.args.table.now.table.shared.table_id = search rules in
    let place : c.args.cell + 1 ≡ c.args.cell + 1 = refl in (
      own,
      step_place s of spot inv is c.args.table.now.table.shared.table_id (c.args.cell + 1) own place,
      learned_may _ s.seat.id _ (c.args.cell + 1) s.seat.me lent inv.me inv.out of spot is (step_spot s of spot inv is)
          place length_load
          (λ m. m) 0 0 (λ m. refl) refl,
    )

pub invariant_of-self : goal.invariant_of-self
invariant_of-self c =
    let s = c.self.inside in
    let inv = c.self.invariant in
    let lent : Lent = lent_of s.seat.me.0 in
    let may : MayHelper lent.view (event.LoadLength 0) =
    subst (λ (v : Helping). MayHelper v.lent.view (event.LoadLength 0)) (sym c.self.view_is) c.requires.may in
    let reads : IsReading lent.view c.args.cell =
    subst (λ (v : Helping). IsReading v.lent.view c.args.cell) (sym c.self.view_is) c.requires.cell in
    let of : ℕ → Event = λ j. event.LoadLength j in
    let spot : Spot = Spot.Heap (c.args.cell + 1) in
    let is : IsStep lent.view of spot = length_step lent.view inv.out c.args.cell may reads in
    let next : Lent = learned lent (of 0) c.load.result in
    let me : c.load.new.seat.me ≡ (Helper next, []) =
    c.load.ensures.2 ∙ ap (λ l. (Helper next, l)) (ap (λ e. e.1) inv.me) in
    step_keeps s of spot inv is (record { counts = s.counts; seat = c.load.new.seat }) c.load.result (λ n. lent.seen)
    c.load.ensures.0 refl me inv.seen tt
