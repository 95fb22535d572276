-- What each step on a word of the table tells its seat.
use Rattle.std.specs.Prelude.{◌≡◌, ◌≢◌, ℕ, ◌==◌, List, Contains, slice_index, if◌then◌else◌}
use Rattle.atomic_table.specs.Table.{Me, Step}
use Rattle.claims.specs.declared.view.SeatView.{SeatView}
use Rattle.claims.specs.declared.view.View.{View}
use Rattle.claims.specs.declared.view.View.TheVariants.{Owning, Lent}
use Rattle.claims.specs.Halves.{round_in, value_in, IsClaimedFor}
use Rattle.claims.specs.Claimed.{claim_of, AreApart, AreAmong, together}
use Rattle.claims.specs.Changes.{owner_of, seat_of, seeing, making, begun}

-- The word that a seat finds at a place: that of the claim which it saw there, if it saw one; and where it is not of
-- this round, it is as it stood when the round began.
pub record Finds (seat : SeatView) (place found : ℕ) : Type 0 where
  pub stays : (value : ℕ) → Contains seat.seen (claim_of place value) → IsClaimedFor seat.round value found
  pub stale : round_in found ≢ seat.round → found ≡ slice_index seat.start place

-- what a seat knows that found a word at a place: the claim, where the word is of this round
abbrev pub finding : SeatView → ℕ → ℕ → SeatView
finding seat place found =
    if round_in found == seat.round then seeing seat (claim_of place (value_in found)) else seat

module _ {S : Type 0} where
  -- a place is looked at
  abbrev pub tells_looked : Step S → Me S View → ℕ → Me S View → Type 0
  tells_looked st me found now =
      (now ≡ (Lent (finding (seat_of me.0) st.word found), me.1)) × Finds (seat_of me.0) st.word found

  -- a word of an earlier round is exchanged for a claim: the claim was made, or another one was found
  abbrev pub tells_exchanged : Step S → Me S View → ℕ → Me S View → Type 0
  tells_exchanged st me found now =
      (found ≡ st.first → now ≡ (Lent (making (seat_of me.0) (claim_of st.word (value_in st.second))), me.1))
      × (found ≢ st.first → now ≡ (Lent (seeing (seat_of me.0) (claim_of st.word (value_in found))), me.1))

  -- a round begins
  abbrev pub tells_begun : Step S → Me S View → ℕ → Me S View → Type 0
  tells_begun st me found now = (words : List ℕ) × (now ≡ (Owning (begun (owner_of me.0) words), me.1))

  -- no place stands twice in what was claimed, and what was seen was claimed
  abbrev pub tells_ended : Step S → Me S View → ℕ → Me S View → Type 0
  tells_ended st me found now = (now ≡ me) × AreApart (together (owner_of me.0).made)
      × AreAmong (owner_of me.0).seen (together (owner_of me.0).made)
