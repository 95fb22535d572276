-- The exchange is an event.
use Rattle.std.proofs.Common.{◌≡◌, ◌∙◌, ◌+◌, ℕ, [], refl, sym, ap, subst, rules}
use Rattle.mark_laws.specs.Types.{Event, Spot}
use Rattle.mark_world.specs.declared.event.Event.TheVariants as event
use Rattle.mark_world.specs.Conditions.{MayHelper}
use Rattle.shared_table.specs.declared.overview.Counts.{Counts}
use Rattle.shared_table.specs.declared.overview.Lent.{Lent}
use Rattle.shared_table.specs.declared.overview.View.TheVariants.{Helper}
use Rattle.shared_table.specs.HelperTold.{IsReading, learned}
use Rattle.shared_table.specs.Seats.{Helping}
use Rattle.shared_table.specs.Spots.{HasSpot}
use Rattle.shared_table.specs.Worlds.{lent_of}
use Rattle.shared_table.proofs.HelperEvents.{IsStep}
use Rattle.shared_table.proofs.HelperSpots.{settle_step}
use Rattle.shared_table.proofs.HelperSteps.{settle_may}
use Rattle.shared_table.proofs.Helping.{step_keeps, step_place, step_spot}
use Rattle.shared_table.proofs.helper.HelperSeat.settle.Goals as goal

pub compare_exchange-found-requires : goal.compare_exchange-found-requires
compare_exchange-found-requires c =
    let s = c.self.inside in
    let inv = c.self.invariant in
    let lent : Lent = lent_of s.seat.me.0 in
    let may : MayHelper lent.view (event.Settle 0) =
    subst (λ (v : Helping). MayHelper v.lent.view (event.Settle 0)) (sym c.self.view_is) c.requires.may in
    let reads : IsReading lent.view c.args.cell =
    subst (λ (v : Helping). IsReading v.lent.view c.args.cell) (sym c.self.view_is) c.requires.cell in
    let of : ℕ → Event = λ j. event.Settle j in
    let spot : Spot = Spot.Colour c.args.cell in
    let is : IsStep lent.view of spot = settle_step lent.view inv.out c.args.cell may reads in
    let own : s.seat.table_id ≡ c.args.table.now.table.shared.table_id = search rules in
    let place : c.colour_place-place.result ≡ lent.counts.old + (lent.counts.shapes + c.args.cell) =
    c.colour_place-place.ensures ∙ ap (λ (x : Counts). x.old + (x.shapes + c.args.cell)) (sym inv.counts) in
    let inside : HasSpot lent.counts spot = step_spot s of spot inv is in (
      own,
      step_place s of spot inv is c.args.table.now.table.shared.table_id c.colour_place-place.result own place,
      settle_may _ s.seat.id _ c.colour_place-place.result s.seat.me lent inv.me inv.out c.args.cell inv.own may reads
          inside
          place,
    )

pub invariant_of-self : goal.invariant_of-self
invariant_of-self c =
    let s = c.self.inside in
    let inv = c.self.invariant in
    let lent : Lent = lent_of s.seat.me.0 in
    let may : MayHelper lent.view (event.Settle 0) =
    subst (λ (v : Helping). MayHelper v.lent.view (event.Settle 0)) (sym c.self.view_is) c.requires.may in
    let reads : IsReading lent.view c.args.cell =
    subst (λ (v : Helping). IsReading v.lent.view c.args.cell) (sym c.self.view_is) c.requires.cell in
    let of : ℕ → Event = λ j. event.Settle j in
    let spot : Spot = Spot.Colour c.args.cell in
    let is : IsStep lent.view of spot = settle_step lent.view inv.out c.args.cell may reads in
    let next : Lent = learned lent (of 0) c.compare_exchange-found.result in
    let me : c.compare_exchange-found.new.seat.me ≡ (Helper next, []) =
    c.compare_exchange-found.ensures.2.0 ∙ ap (λ l. (Helper next, l)) (ap (λ e. e.1) inv.me) in
    step_keeps s of spot inv is (record { counts = s.counts; seat = c.compare_exchange-found.new.seat })
    c.compare_exchange-found.result (λ n. lent.seen) c.compare_exchange-found.ensures.0 refl me inv.seen tt
