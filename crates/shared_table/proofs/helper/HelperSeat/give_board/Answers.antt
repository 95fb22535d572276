-- The exchange is an event.
use Rattle.std.proofs.Common.{◌≡◌, ◌<◌, ◌∙◌, ◌+◌, ◌^◌, ℕ, [], refl, sym, ap, subst, arith, rules}
use Rattle.mark_laws.specs.Types.{Event, Spot}
use Rattle.mark_world.specs.declared.event.Event.TheVariants as event
use Rattle.mark_world.specs.Conditions.{MayGive}
use Rattle.shared_table.specs.declared.overview.Counts.{Counts}
use Rattle.shared_table.specs.declared.overview.Lent.{Lent}
use Rattle.shared_table.specs.declared.overview.View.TheVariants.{Helper}
use Rattle.shared_table.specs.HelperTold.{learned}
use Rattle.shared_table.specs.Seats.{Helping}
use Rattle.shared_table.specs.Worlds.{lent_of}
use Rattle.shared_table.proofs.HelperEvents.{IsStep}
use Rattle.shared_table.proofs.HelperSpots.{give_step}
use Rattle.shared_table.proofs.HelperSteps.{gift, give_may}
use Rattle.shared_table.proofs.Helping.{step_keeps, step_place}
use Rattle.shared_table.proofs.helper.HelperSeat.give_board.Goals as goal

pub compare_exchange-requires : goal.compare_exchange-requires
compare_exchange-requires c =
    let s = c.self.inside in
    let inv = c.self.invariant in
    let lent : Lent = lent_of s.seat.me.0 in
    let may : MayGive lent.view.grey c.args.place c.args.at =
    subst (λ (v : Helping). MayGive v.lent.view.grey c.args.place c.args.at) (sym c.self.view_is) c.requires.may in
    let of : ℕ → Event = λ j. event.Give j c.args.place c.args.at in
    let spot : Spot = Spot.Board c.args.place in
    let is : IsStep lent.view of spot = give_step lent.view inv.out c.args.place c.args.at may in
    let fits : c.args.at < 2 ^ 32 = omega arith in
    let place : c.board_place-place.result ≡ lent.counts.old + (lent.counts.shapes + (lent.counts.old + c.args.place)) =
    c.board_place-place.ensures ∙ ap (λ (x : Counts). x.old + (x.shapes + (x.old + c.args.place))) (sym inv.counts) in
    let own : s.seat.table_id ≡ c.args.table.now.table.shared.table_id = search rules in (
      own,
      step_place s of spot inv is c.args.table.now.table.shared.table_id c.board_place-place.result own place,
      give_may _ s.seat.id _ c.board_place-place.result s.seat.me lent inv.me inv.out c.args.place c.args.at
          c.reference.result.0 may fits c.reference.ensures place,
    )

pub invariant_of-self : goal.invariant_of-self
invariant_of-self c =
    let s = c.self.inside in
    let inv = c.self.invariant in
    let lent : Lent = lent_of s.seat.me.0 in
    let may : MayGive lent.view.grey c.args.place c.args.at =
    subst (λ (v : Helping). MayGive v.lent.view.grey c.args.place c.args.at) (sym c.self.view_is) c.requires.may in
    let of : ℕ → Event = λ j. event.Give j c.args.place c.args.at in
    let spot : Spot = Spot.Board c.args.place in
    let is : IsStep lent.view of spot = give_step lent.view inv.out c.args.place c.args.at may in
    let fits : c.args.at < 2 ^ 32 = omega arith in
    let place : c.board_place-place.result ≡ lent.counts.old + (lent.counts.shapes + (lent.counts.old + c.args.place)) =
    c.board_place-place.ensures ∙ ap (λ (x : Counts). x.old + (x.shapes + (x.old + c.args.place))) (sym inv.counts) in
    let n : ℕ = c.compare_exchange.result in
    let me : c.compare_exchange.new.seat.me ≡ (Helper (learned lent (of 0) n), []) =
    c.compare_exchange.ensures.2
    ∙ (ap (λ (e : Event). (Helper (learned lent e n), s.seat.me.1))
    (gift lent c.board_place-place.result c.args.place c.args.at c.reference.result.0 fits c.reference.ensures place)
    ∙ ap (λ l. (Helper (learned lent (of 0) n), l)) (ap (λ e. e.1) inv.me)) in
    step_keeps s of spot inv is (record { counts = s.counts; seat = c.compare_exchange.new.seat }) n (λ m. lent.seen)
    c.compare_exchange.ensures.0 refl me inv.seen tt
