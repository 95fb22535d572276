-- The load is an event where it finds a cell that is not white.
use Rattle.std.proofs.Common.{◌≡◌, Option, IsNone, inl, inr, ◌<◌, ◌⊎◌, ◌∙◌, ◌+◌, ◌-◌, ℕ, [], Contains, refl, sym, ap}
use Rattle.std.proofs.Common.{subst, arith, rules}
use Rattle.std.proofs.lemmas.Bool.{cases_eq}
use Rattle.shared_table.specs.declared.helper.HelperSeat.TheInside.{Inside}
use Rattle.shared_table.specs.declared.overview.Counts.{Counts}
use Rattle.shared_table.specs.declared.overview.Lent.{Lent}
use Rattle.shared_table.specs.declared.overview.View.TheVariants.{Helper}
use Rattle.shared_table.specs.HelperTold.{shaded}
use Rattle.shared_table.specs.Seats.{Helping}
use Rattle.shared_table.specs.Worlds.{lent_of}
use Rattle.shared_table.proofs.HelperSteps.{seen_may}
use Rattle.shared_table.proofs.Helping.{in_table, look_keeps, shaded_keeps, target_old}
use Rattle.shared_table.specs.declared.colour.Colour.{Colour}
use Rattle.shared_table.proofs.helper.HelperSeat.shade_seen.Goals.{then-found-eq0, else-found-eq0}
use Rattle.shared_table.proofs.helper.HelperSeat.shade_seen.Goals as goal

pub load-found-requires : goal.load-found-requires
load-found-requires c =
    let s = c.self.inside in
    let inv = c.self.invariant in
    let lent : Lent = lent_of s.seat.me.0 in
    let may : Contains lent.view.visit c.args.at ⊎ Contains lent.seen c.args.at =
    subst (λ (v : Helping). Contains v.lent.view.visit c.args.at ⊎ Contains v.lent.seen c.args.at) (sym c.self.view_is)
    c.requires.may in
    let own : s.seat.table_id ≡ c.args.table.now.table.shared.table_id = search rules in
    let place : c.colour_place-place.result ≡ lent.counts.old + (lent.counts.shapes + c.args.at) =
    c.colour_place-place.ensures ∙ ap (λ (x : Counts). x.old + (x.shapes + c.args.at)) (sym inv.counts) in
    let inside : c.args.at < lent.counts.old =
    omega (arith, target_old s c.args.at inv may, ap (λ (x : Counts). x.old) inv.counts) in (
      own,
      in_table s c.args.table.now.table.shared.table_id c.colour_place-place.result inv own (omega (
        arith,
        place,
        inside,
      )),
      seen_may _ s.seat.id _ c.colour_place-place.result s.seat.me lent inv.me inv.out c.args.at may inside place,
    )

pub invariant_of-self : goal.invariant_of-self
invariant_of-self c =
    let s = c.self.inside in
    let inv = c.self.invariant in
    let lent : Lent = lent_of s.seat.me.0 in
    let may : Contains lent.view.visit c.args.at ⊎ Contains lent.seen c.args.at =
    subst (λ (v : Helping). Contains v.lent.view.visit c.args.at ⊎ Contains v.lent.seen c.args.at) (sym c.self.view_is)
    c.requires.may in
    let place : c.colour_place-place.result ≡ lent.counts.old + (lent.counts.shapes + c.args.at) =
    c.colour_place-place.ensures ∙ ap (λ (x : Counts). x.old + (x.shapes + c.args.at)) (sym inv.counts) in
    let cell : c.colour_place-place.result - (lent.counts.old + lent.counts.shapes) ≡ c.args.at = omega (
      arith,
      place,
    ) in
    let n : ℕ = c.load-found.result in
    let t : Inside = record { counts = s.counts; seat = c.load-found.new.seat } in
    elim (cases_eq n 0) [
      | inl is_white ↦ look_keeps s t inv c.load-found.ensures.0 refl (c.load-found.ensures.2.1 is_white).0
      | inr other ↦
          let me : c.load-found.new.seat.me ≡ (Helper (shaded lent c.args.at n), []) =
          (c.load-found.ensures.2.0 other).0
          ∙ (ap (λ (i : ℕ). (Helper (shaded lent i n), s.seat.me.1)) cell
          ∙ ap (λ l. (Helper (shaded lent c.args.at n), l)) (ap (λ e. e.1) inv.me)) in
          shaded_keeps s t c.args.at n inv may c.load-found.ensures.0 refl me
    ]

pub returns-clause-unseen : goal.returns-clause-unseen
returns-clause-unseen c =
    let s = c.self.inside in
    let inv = c.self.invariant in
    let lent : Lent = lent_of s.seat.me.0 in
    let place : c.colour_place-place.result ≡ lent.counts.old + (lent.counts.shapes + c.args.at) =
    c.colour_place-place.ensures ∙ ap (λ (x : Counts). x.old + (x.shapes + c.args.at)) (sym inv.counts) in
    let cell : c.colour_place-place.result - (lent.counts.old + lent.counts.shapes) ≡ c.args.at = omega (
      arith,
      place,
    ) in
    let Says : Option Colour → Type 0 = λ found. IsNone found → Contains c.args.self.now.lent.seen c.args.at → ⊥ in
    elim c.if-found-eq0.branch [
      | then-found-eq0 w ↦ subst Says (sym w.result-is) (λ is has.
          (c.load-found.ensures.2.1 w.if-found-eq0.true).1 (subst (λ (i : ℕ). Contains lent.seen i) (sym cell)
          (subst (λ (v : Helping). Contains v.lent.seen c.args.at) (sym c.self.view_is) has)))
      | else-found-eq0 w ↦ subst Says (sym w.result-is) (λ is has. cc)
    ]
