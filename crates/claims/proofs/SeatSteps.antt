-- A lent seat's steps keep the rule.
use Rattle.std.proofs.Common.{◌≡◌, ◌≢◌, ⊎_elim, ℕ, zero, suc, ◌<◌, ◌==◌, Bool, List, []}
use Rattle.std.proofs.Common.{slice_index, slice_set, set, refl, sym, ap, subst, ◌∙◌, arith, eq-eqb, ne_eqb}
use Rattle.std.specs.Prelude.{if◌then◌else◌}
use Rattle.std.proofs.lemmas.List.{set-get_or}
use mathlib.Core.Option.{none}
use mathlib.Core.Logic.{dite}
use native.Mathlib.Decide.{ℕ_discrete}
use prog.Atomic.{either}
use Rattle.atomic_table.specs.Table.{State, Me, keeps, stepped, step, Allows}
use Rattle.atomic_table.proofs.Lists.{set_again}
use Rattle.claims.specs.declared.view.Claim.{Claim}
use Rattle.claims.specs.declared.view.OwnerView.{OwnerView}
use Rattle.claims.specs.declared.view.SeatView.{SeatView}
use Rattle.claims.specs.declared.view.View.{View}
use Rattle.claims.specs.declared.view.View.TheVariants.{Lent}
use Rattle.claims.specs.Halves.{round_in, value_in}
use Rattle.claims.specs.Claimed.{claim_of}
use Rattle.claims.specs.Changes.{seeing, making}
use Rattle.claims.specs.Keeping.{KeptBy, KeepsRule}
use Rattle.claims.specs.Told.{finding, tells_looked, tells_exchanged}
use Rattle.claims.proofs.HalfWords.{either_hit, either_miss}
use Rattle.claims.proofs.KeptRule.{not_owner, lent_there}
use Rattle.claims.proofs.SeatViews.{of_round, made_there, stale_there, finds, sees}
use Rattle.claims.proofs.MadeClaims.{makes}

-- a seat that finds a word of its round sees the claim, and else knows what it knew
pub finding_hit : (v : SeatView) (place found : ℕ) → round_in found ≡ v.round
    → finding v place found ≡ seeing v (claim_of place (value_in found))
finding_hit v place found is =
    ap (λ (b : Bool). if b then seeing v (claim_of place (value_in found)) else v) (eq-eqb (round_in found) v.round is)

pub finding_miss : (v : SeatView) (place found : ℕ) → round_in found ≢ v.round → finding v place found ≡ v
finding_miss v place found other =
    ap (λ (b : Bool). if b then seeing v (claim_of place (value_in found)) else v)
    (ne_eqb (round_in found) v.round other)

-- a word that is read stays
same_word : {S : Type 0} (places i : ℕ) (s : State S View) (owner : OwnerView) (views : List View)
    → KeptBy {S = S} places (record { words = s.words; homes = s.homes; views = views }) owner
    → KeptBy {S = S} places
    (record { words = slice_set s.words i (slice_index s.words i); homes = s.homes; views = views }) owner
same_word {S} places i s owner views rule =
    let P : List ℕ → Type 0 =
    λ ws. KeptBy {S = S} places (record { words = ws; homes = s.homes; views = views }) owner in
    subst P (sym (set-get_or s.words i 0)) rule

-- a seat looks at a place
look_allowed : {S : Type 0} (places slots id place : ℕ) (v : SeatView)
    → Allows (KeepsRule {S = S} places) slots id (Lent v, []) place (λ m. m)
    (tells_looked (step slots place 0 0 none) (Lent v, []))
look_allowed places slots zero place v s kept deep at bound = absurd (not_owner places s v kept at)
look_allowed {S} places slots (suc j) place v s kept deep at bound =
    let owner : OwnerView = kept.0 in
    let k : KeptBy places s owner = kept.1 in
    let there = lent_there places j s owner v k at in
    let found : ℕ = slice_index s.words place in
    let claim : Claim = claim_of place (value_in found) in
    let KeptAt : List View → Type 0 =
    λ views. KeptBy {S = S} places (record { words = s.words; homes = s.homes; views = views }) owner in
    let KeptWith : SeatView → Type 0 = λ seat. KeptAt (set s.views (suc j) (Lent seat)) in
    let rule : KeptWith (finding v place found) = dite (ℕ_discrete (round_in found) v.round)
    (λ is. subst KeptWith (sym (finding_hit v place found is))
    (sees places j s owner v k there claim
    (made_there places j s owner v k there place (is ∙ (of_round places j s owner v k there).0))))
    (λ other. subst KeptWith (sym (finding_miss v place found other))
    (subst KeptAt (sym (set_again s.views (suc j) (Lent v) at)) k)) in (
      Lent (finding v place found),
      keeps,
      tt,
      (owner, same_word places place s owner (set s.views (suc j) (Lent (finding v place found))) rule),
      (refl, finds places j s owner v k there place),
    )

-- so a seat that knows itself as lent may look
pub look_may : {S : Type 0} (places slots id place : ℕ) (me : Me S View) (v : SeatView) → me ≡ (Lent v, [])
    → Allows (KeepsRule {S = S} places) slots id me place (λ m. m) (tells_looked (step slots place 0 0 none) me)
look_may {S} places slots id place me v is_me = rw is_me (look_allowed {S = S} places slots id place v)

-- a seat exchanges a word of an earlier round
claim_allowed : {S : Type 0} (places slots id place old x : ℕ) (v : SeatView) → place < places
    → round_in old ≢ v.round → old ≡ slice_index v.start place → round_in x ≡ v.round
    → Allows (KeepsRule {S = S} places) slots id (Lent v, []) place (λ m. either (m == old) x m)
    (tells_exchanged (step slots place old x none) (Lent v, []))
claim_allowed places slots zero place old x v inside earlier stale is s kept deep at bound =
    absurd (not_owner places s v kept at)
claim_allowed {S} places slots (suc j) place old x v inside earlier stale is s kept deep at bound =
    let owner : OwnerView = kept.0 in
    let k : KeptBy places s owner = kept.1 in
    let there = lent_there places j s owner v k at in
    let found : ℕ = slice_index s.words place in
    let round = of_round places j s owner v k there in
    let left : ℕ = either (found == old) x found in
    dite (ℕ_discrete found old)
    (λ same.
    let w : SeatView = making v (claim_of place (value_in x)) in
    let before = (stale_there places j s owner v k there place
    (λ e. earlier (ap round_in (sym same) ∙ (e ∙ sym round.0)))).earlier in (
      Lent w,
      keeps,
      tt,
      (
        owner,
        subst (λ (n : ℕ). KeptBy {S = S} places (stepped s place n (suc j) [] (Lent w) keeps) owner)
            (sym (either_hit found old x same))
            (makes places j s owner v k there place x (omega (arith, inside, k.long)) (is ∙ round.0) before),
      ),
      ((λ e. refl), (λ other. absurd (other same))),
    ))
    (λ other.
    let w : SeatView = seeing v (claim_of place (value_in found)) in
    let of_this : round_in found ≡ owner.round =
    ⊎_elim (λ e. e)
    (λ before. absurd (other (before.same ∙ (ap (λ (ws : List ℕ). slice_index ws place) (sym round.1) ∙ sym stale))))
    (k.stale place) in (
      Lent w,
      keeps,
      tt,
      (
        owner,
        subst (λ (n : ℕ). KeptBy {S = S} places (stepped s place n (suc j) [] (Lent w) keeps) owner)
            (sym (either_miss found old x other))
            (same_word places place s owner (set s.views (suc j) (Lent w))
            (sees places j s owner v k there (claim_of place (value_in found))
            (made_there places j s owner v k there place of_this))),
      ),
      ((λ e. absurd (other e)), (λ e. refl)),
    ))

-- so a seat that knows itself as lent may claim
pub claim_may : {S : Type 0} (places slots id place old x : ℕ) (me : Me S View) (v : SeatView) → me ≡ (Lent v, [])
    → place < places → round_in old ≢ v.round → old ≡ slice_index v.start place → round_in x ≡ v.round
    → Allows (KeepsRule {S = S} places) slots id me place (λ m. either (m == old) x m)
    (tells_exchanged (step slots place old x none) me)
claim_may {S} places slots id place old x me v is_me inside earlier stale is =
    rw is_me (claim_allowed {S = S} places slots id place old x v inside earlier stale is)
