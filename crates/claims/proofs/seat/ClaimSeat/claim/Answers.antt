-- A claim keeps the rule, and is not made where the seat saw one.
use Rattle.std.proofs.Common.{◌≡◌, ◌≢◌, ℕ, [], Contains, Result, Err, sym, ap, subst, ◌∙◌, arith, rules}
use Rattle.claims.specs.declared.view.SeatView.{SeatView}
use Rattle.claims.specs.declared.view.View.TheVariants.{Lent}
use Rattle.claims.specs.Halves.{round_in, IsClaimedFor}
use Rattle.claims.specs.Claimed.{claim_of}
use Rattle.claims.specs.Changes.{seat_of}
use Rattle.claims.specs.Sides.{PlacesSide, SeatSide}
use Rattle.claims.proofs.HalfWords.{round_of_word}
use Rattle.claims.proofs.SeatSteps.{look_may, claim_may, finding_miss}
use Rattle.claims.proofs.seat.ClaimSeat.claim.Goals as goal

pub load-stood-requires : goal.load-stood-requires
load-stood-requires c =
    let s = c.self.inside in
    let count : c.claims.inside.table.shared.key ≡ c.args.claims.now.places =
    ap (λ (v : PlacesSide). v.places) c.claims.view_is in (
      search rules,
      omega (arith, c.claims.invariant, count, c.requires.within),
      look_may _ _ s.seat.id c.args.place s.seat.me (seat_of s.seat.me.0) c.self.invariant.me,
    )

pub returns-then-round_in-self-clause-stays : goal.returns-then-round_in-self-clause-stays
returns-then-round_in-self-clause-stays c = λ was has.
    let s = c.self.inside in
    let stands : IsClaimedFor (seat_of s.seat.me.0).round was c.load-stood.result =
    c.load-stood.ensures.2.1.stays was
    (subst (λ (v : SeatSide). Contains v.seen (claim_of c.args.place was)) (sym c.self.view_is) has) in
    ap (λ (n : ℕ). let told : Result Unit ℕ = Err n in told) (c.value_in.ensures ∙ stands.what)

pub compare_exchange-came-requires : goal.compare_exchange-came-requires
compare_exchange-came-requires c =
    let s = c.self.inside in
    let inv = c.self.invariant in
    let v : SeatView = seat_of s.seat.me.0 in
    let stood : ℕ = c.load-stood.result in
    let count : c.claims.inside.table.shared.key ≡ c.args.claims.now.places =
    ap (λ (w : PlacesSide). w.places) c.claims.view_is in
    let earlier : round_in stood ≢ v.round =
    λ is. c.if-round_in-self.false (c.round_in.ensures ∙ (is ∙ inv.round)) in
    let me : c.load-stood.new.seat.me ≡ (Lent v, []) =
    c.load-stood.ensures.2.0
    ∙ (ap (λ (w : SeatView). (Lent w, s.seat.me.1)) (finding_miss v c.args.place stood earlier)
    ∙ ap (λ l. (Lent v, l)) (ap (λ e. e.1) inv.me)) in
    let new : round_in c.word_of.result ≡ v.round =
    ap round_in c.word_of.ensures
    ∙ (round_of_word s.round c.args.value (omega (arith, c.ranges.value.fits)) ∙ sym inv.round) in (
      search rules,
      omega (arith, c.claims.invariant, count, c.requires.within),
      claim_may _ _ c.load-stood.new.seat.id c.args.place stood c.word_of.result c.load-stood.new.seat.me v me
          (omega (arith, count, c.requires.within)) earlier (c.load-stood.ensures.2.1.stale earlier) new,
    )

pub returns-clause-stays : goal.returns-clause-stays
returns-clause-stays c = λ was has.
    let s = c.self.inside in
    let inv = c.self.invariant in
    let stands : IsClaimedFor (seat_of s.seat.me.0).round was c.load-stood.result =
    c.load-stood.ensures.2.1.stays was
    (subst (λ (v : SeatSide). Contains v.seen (claim_of c.args.place was)) (sym c.self.view_is) has) in
    absurd (c.if-round_in-self.false (c.round_in.ensures ∙ (stands.when ∙ inv.round)))
