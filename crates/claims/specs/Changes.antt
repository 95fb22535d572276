-- What seats know after their steps.
use Rattle.std.specs.Prelude.{ℕ, ◌+◌, ◌-◌, List, [], ◌∷◌, ◌++◌, replicate}
use Rattle.claims.specs.declared.view.Claim.{Claim}
use Rattle.claims.specs.declared.view.OwnerView.{OwnerView}
use Rattle.claims.specs.declared.view.SeatView.{SeatView}
use Rattle.claims.specs.declared.view.View.{View}
use Rattle.claims.specs.declared.view.View.TheVariants.{Owning, Lent, Gone}
use Rattle.claims.specs.Claimed.{together}

-- what the owner knows of a table that was just opened: all words are 0, and its first round begins
abbrev pub beginning : ℕ → OwnerView
beginning places = record { round = 1; out = 0; start = replicate (places + 1) 0; made = []; seen = [] }

-- what the owner knows, by its view
abbrev pub owner_of : View → OwnerView
owner_of (Owning owner) = owner
owner_of (Lent seat) = beginning 0
owner_of Gone = beginning 0

-- what a lent seat knows, by its view
abbrev pub seat_of : View → SeatView
seat_of (Owning owner) = record { round = 0; start = []; made = []; seen = [] }
seat_of (Lent seat) = seat
seat_of Gone = record { round = 0; start = []; made = []; seen = [] }

-- a seat saw a claim
abbrev pub seeing : SeatView → Claim → SeatView
seeing seat claim = record seat { seen = seat.seen ++ claim ∷ [] }

-- a seat made a claim
abbrev pub making : SeatView → Claim → SeatView
making seat claim = record seat { made = seat.made ++ claim ∷ []; seen = seat.seen ++ claim ∷ [] }

-- a round begins, at which the words stand so
abbrev pub begun : OwnerView → List ℕ → OwnerView
begun owner words = record owner { round = owner.round + 1; start = words; made = []; seen = [] }

-- The view of the owner after a lend, that of the lent seat, and that of the owner after a return. A lent seat has seen
-- what the owner knows of: what was claimed by the seats that it took back, and what these saw.
abbrev pub lending_view : View → View
lending_view view = Owning (record (owner_of view) { out = (owner_of view).out + 1 })

abbrev pub lent_view : View → View
lent_view view =
    Lent (record {
      round = (owner_of view).round;
      start = (owner_of view).start;
      made = [];
      seen = (owner_of view).seen ++ together (owner_of view).made;
    })

abbrev pub taking_view : View → View → View
taking_view view other = Owning (record (owner_of view) {
  out = (owner_of view).out - 1;
  made = (owner_of view).made ++ (seat_of other).made ∷ [];
  seen = (owner_of view).seen ++ (seat_of other).seen;
})
