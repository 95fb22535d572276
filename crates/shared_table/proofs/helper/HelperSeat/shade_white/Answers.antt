-- The exchange is an event.
use Rattle.std.proofs.Common.{◌≡◌, inl, ◌<◌, ◌∙◌, ◌+◌, ◌-◌, ℕ, [], Contains, refl, sym, ap, subst, arith, rules}
use Rattle.shared_table.specs.declared.overview.Counts.{Counts}
use Rattle.shared_table.specs.declared.overview.Lent.{Lent}
use Rattle.shared_table.specs.declared.overview.View.TheVariants.{Helper}
use Rattle.shared_table.specs.HelperTold.{shaded}
use Rattle.shared_table.specs.Seats.{Helping}
use Rattle.shared_table.specs.Worlds.{lent_of}
use Rattle.shared_table.proofs.HelperSteps.{shade_may}
use Rattle.shared_table.proofs.Helping.{in_table, shaded_keeps, target_old}
use Rattle.shared_table.proofs.helper.HelperSeat.shade_white.Goals as goal

pub compare_exchange-found-requires : goal.compare_exchange-found-requires
compare_exchange-found-requires c =
    let s = c.self.inside in
    let inv = c.self.invariant in
    let lent : Lent = lent_of s.seat.me.0 in
    let visit : Contains lent.view.visit c.args.at =
    subst (λ (v : Helping). Contains v.lent.view.visit c.args.at) (sym c.self.view_is) c.requires.may in
    let own : s.seat.table_id ≡ c.args.table.now.table.shared.table_id = search rules in
    let place : c.colour_place-place.result ≡ lent.counts.old + (lent.counts.shapes + c.args.at) =
    c.colour_place-place.ensures ∙ ap (λ (x : Counts). x.old + (x.shapes + c.args.at)) (sym inv.counts) in
    let inside : c.args.at < lent.counts.old =
    omega (arith, target_old s c.args.at inv (inl visit), ap (λ (x : Counts). x.old) inv.counts) in (
      own,
      in_table s c.args.table.now.table.shared.table_id c.colour_place-place.result inv own (omega (
        arith,
        place,
        inside,
      )),
      shade_may _ s.seat.id _ c.colour_place-place.result s.seat.me lent inv.me inv.out c.args.at visit inside place,
    )

pub invariant_of-self : goal.invariant_of-self
invariant_of-self c =
    let s = c.self.inside in
    let inv = c.self.invariant in
    let lent : Lent = lent_of s.seat.me.0 in
    let visit : Contains lent.view.visit c.args.at =
    subst (λ (v : Helping). Contains v.lent.view.visit c.args.at) (sym c.self.view_is) c.requires.may in
    let place : c.colour_place-place.result ≡ lent.counts.old + (lent.counts.shapes + c.args.at) =
    c.colour_place-place.ensures ∙ ap (λ (x : Counts). x.old + (x.shapes + c.args.at)) (sym inv.counts) in
    let cell : c.colour_place-place.result - (lent.counts.old + lent.counts.shapes) ≡ c.args.at = omega (
      arith,
      place,
    ) in
    let n : ℕ = c.compare_exchange-found.result in
    let me : c.compare_exchange-found.new.seat.me ≡ (Helper (shaded lent c.args.at n), []) =
    c.compare_exchange-found.ensures.2.0
    ∙ (ap (λ (i : ℕ). (Helper (shaded lent i n), s.seat.me.1)) cell
    ∙ ap (λ l. (Helper (shaded lent c.args.at n), l)) (ap (λ e. e.1) inv.me)) in
    shaded_keeps s (record { counts = s.counts; seat = c.compare_exchange-found.new.seat }) c.args.at n inv (inl visit)
    c.compare_exchange-found.ensures.0 refl me
