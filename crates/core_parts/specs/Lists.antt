-- Lists of addresses, which cells join and leave.
use Rattle.std.specs.Prelude.{◌≡◌, ◌≢◌, ℕ, ◌==◌, Bool, not, List, [], ◌∷◌, ◌++◌, filter, Contains}
use Rattle.std.specs.Prelude.{AllPairs, ◌↔◌, if◌then◌else◌}
use Rattle.std.specs.List.{list_any}

-- whether the address stands in the list
abbrev pub is_in : List ℕ → ℕ → Bool
is_in list a = list_any (λ x. x == a) list

-- the list once an address has joined: it is put at the end where it does not stand in the list
abbrev pub joined : List ℕ → ℕ → List ℕ
joined list a = if is_in list a then list else list ++ a ∷ []

-- the list without an address, wherever it stood
abbrev pub left : List ℕ → ℕ → List ℕ
left list a = filter (λ x. not (x == a)) list

-- no address stands in the list twice
abbrev pub HasNoRepeats : List ℕ → Type 0
HasNoRepeats list = AllPairs (λ x y. x ≢ y) list

-- what joins is in the list
abbrev pub JoinedIsIn : Type 0
JoinedIsIn = (list : List ℕ) (a : ℕ) → Contains (joined list a) a

-- when an address joins, no other comes or goes
abbrev pub JoiningLeavesOthers : Type 0
JoiningLeavesOthers = (list : List ℕ) (a x : ℕ) → x ≢ a → Contains (joined list a) x ↔ Contains list x

-- what was not in the list joins at its end, behind all others in their order
abbrev pub JoiningIsAtTheEnd : Type 0
JoiningIsAtTheEnd = (list : List ℕ) (a : ℕ) → (Contains list a → ⊥) → joined list a ≡ list ++ a ∷ []

-- joining what is in the list changes nothing
abbrev pub JoiningAgainChangesNothing : Type 0
JoiningAgainChangesNothing = (list : List ℕ) (a : ℕ) → Contains list a → joined list a ≡ list

-- joining makes no repeats
abbrev pub JoiningMakesNoRepeats : Type 0
JoiningMakesNoRepeats = (list : List ℕ) (a : ℕ) → HasNoRepeats list → HasNoRepeats (joined list a)

-- what leaves is not in the list
abbrev pub LeftIsOut : Type 0
LeftIsOut = (list : List ℕ) (a : ℕ) → Contains (left list a) a → ⊥

-- when an address leaves, no other comes or goes
abbrev pub OthersStay : Type 0
OthersStay = (list : List ℕ) (a x : ℕ) → x ≢ a → Contains (left list a) x ↔ Contains list x

-- others keep their order: each part of the list is left for itself
abbrev pub LeavingGoesByParts : Type 0
LeavingGoesByParts = (xs ys : List ℕ) (a : ℕ) → left (xs ++ ys) a ≡ left xs a ++ left ys a

-- leaving a list that it is not in changes nothing
abbrev pub LeavingOfNoneChangesNothing : Type 0
LeavingOfNoneChangesNothing = (list : List ℕ) (a : ℕ) → (Contains list a → ⊥) → left list a ≡ list

-- leaving makes no repeats
abbrev pub LeavingMakesNoRepeats : Type 0
LeavingMakesNoRepeats = (list : List ℕ) (a : ℕ) → HasNoRepeats list → HasNoRepeats (left list a)
