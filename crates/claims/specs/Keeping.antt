-- The rule of the table: what holds between any two steps on its words.
use Rattle.std.specs.Prelude.{◌≡◌, ℕ, ◌+◌, ◌<◌, ◌⊎◌, ◌↔◌, Bool, true, false, List, [], ◌∷◌, length, slice_index}
use Rattle.std.specs.Prelude.{Contains}
use Rattle.std.specs.List.{count_by, flat_map}
use Rattle.atomic_table.specs.Table.{State}
use Rattle.claims.specs.declared.view.Claim.{Claim}
use Rattle.claims.specs.declared.view.OwnerView.{OwnerView}
use Rattle.claims.specs.declared.view.View.{View}
use Rattle.claims.specs.declared.view.View.TheVariants.{Owning, Lent, Gone}
use Rattle.claims.specs.Halves.{round_in, IsClaimedFor}
use Rattle.claims.specs.Claimed.{AreApart, AreAmong, together}

-- the view is that of a seat that is out
abbrev pub is_out : View → Bool
is_out (Owning owner) = false
is_out (Lent seat) = true
is_out Gone = false

-- what was claimed by a seat, or by those that the owner took back
abbrev pub made_in : View → List Claim
made_in (Owning owner) = together owner.made
made_in (Lent seat) = seat.made
made_in Gone = []

-- what was seen by a seat, or by those that the owner took back
abbrev pub seen_in : View → List Claim
seen_in (Owning owner) = owner.seen
seen_in (Lent seat) = seat.seen
seen_in Gone = []

-- all that was claimed in the round
abbrev pub all_made : List View → List Claim
all_made views = flat_map made_in views

-- all claims that were seen in the round
abbrev pub all_seen : List View → List Claim
all_seen views = flat_map seen_in views

-- the view is that of a seat which was lent in this round and knows how the words stood when it began, or of one that
-- was taken back
abbrev pub IsOfRound : ℕ → List ℕ → View → Type 0
IsOfRound round start (Owning owner) = ⊥
IsOfRound round start (Lent seat) = (seat.round ≡ round) × (seat.start ≡ start)
IsOfRound round start Gone = Unit {0}

-- and so is each of these
abbrev pub AreOfRound : ℕ → List ℕ → List View → Type 0
AreOfRound round start [] = Unit {0}
AreOfRound round start (view ∷ views) = IsOfRound round start view × AreOfRound round start views

-- the word of a place is of an earlier round, and is as it stood when this one began
pub record IsStale (round : ℕ) (start : List ℕ) (place word : ℕ) : Type 0 where
  pub earlier : round_in word < round
  pub same : word ≡ slice_index start place

-- The rule, where the owner has this view. So many seats are out. No place stands twice in what was claimed. A claim
-- was made exactly where its place's word is that of this round and its value; each claim that was seen was made. A
-- word that is not of this round is as it stood when the round began, and is of an earlier one.
pub record KeptBy {S : Type 0} (places : ℕ) (state : State S View) (owner : OwnerView) : Type 0 where
  pub others : List View
  pub views : state.views ≡ Owning owner ∷ others
  pub long : length state.words ≡ places + 1
  pub seats : AreOfRound owner.round owner.start others
  pub out : owner.out ≡ count_by is_out others
  pub once : AreApart (all_made (Owning owner ∷ others))
  pub stands : (claim : Claim) → Contains (all_made (Owning owner ∷ others)) claim
      ↔ IsClaimedFor owner.round claim.value (slice_index state.words claim.place)
  pub seen : AreAmong (all_seen (Owning owner ∷ others)) (all_made (Owning owner ∷ others))
  pub stale : (place : ℕ) → (round_in (slice_index state.words place) ≡ owner.round)
      ⊎ IsStale owner.round owner.start place (slice_index state.words place)

-- the rule
abbrev pub KeepsRule : {S : Type 0} → ℕ → State S View → Type 0
KeepsRule places state = (owner : OwnerView) × KeptBy places state owner
