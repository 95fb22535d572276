-- A scavenge worked by hand: two slots refer to a list with nothing in it. Two workers copied it, and the copy at 8
-- counts.
use Rattle.std.specs.Prelude.{ℕ, List, [], ◌∷◌, slice_set}
use Rattle.scav_copy.specs.declared.places.Home.{Home}
use Rattle.scav_copy.specs.Places.{Fixed, IsLaidOut}
use Rattle.scav_copy.specs.Renamings.{Renaming, Outside}

-- the words before: the list of object 5 at 0, and the slots 4 and 5
abbrev pub words_before : List ℕ
words_before =
    21474836486 ∷ 3 ∷ 0 ∷ 0 ∷ 1 ∷ 1 ∷ 0 ∷ 0 ∷ 0 ∷ 0 ∷ 0 ∷ 0 ∷ 0 ∷ 0 ∷ 0 ∷ 0 ∷ 0 ∷ 0 ∷ 0
    ∷ 0 ∷ []

-- the words after: the header and the slots refer to 8, and the list stands there and at 16
abbrev pub words_after : List ℕ
words_after =
    33 ∷ 3 ∷ 0 ∷ 0 ∷ 33 ∷ 33 ∷ 0 ∷ 0 ∷ 21474836486 ∷ 3 ∷ 0 ∷ 0 ∷ 0 ∷ 0 ∷ 0 ∷ 0 ∷ 21474836486
    ∷ 3 ∷ 0 ∷ 0 ∷ []

-- a home of the list
abbrev pub list_home : ℕ → Home
list_home to = record { from = 0; to = to }

-- shape 1 is that of a list, and each of two workers has a room
abbrev pub worked : Fixed
worked = record {
  before = words_before;
  layouts = 0 ∷ 2 ∷ [];
  cells = 0 ∷ [];
  slots = 4 ∷ 5 ∷ [];
  rooms = record { worker = 0; from = 8; to = 12 } ∷ record { worker = 1; from = 16; to = 20 } ∷ [];
}

-- the start names each address for one thing
abbrev pub StartIsLaidOut : Type 0
StartIsLaidOut = IsLaidOut worked

-- the end is a renaming that leaves all outside
abbrev pub EndIsWorked : Type 0
EndIsWorked = Renaming worked words_after (list_home 8 ∷ []) × Outside worked words_after

-- no other end is: a slot that refers to the copy that does not count, that copy as a second home, no home, a word of
-- the copy that is another
pub record OthersAreNot : Type 0 where
  pub losing_slot : Renaming worked (slice_set words_after 5 65) (list_home 8 ∷ []) → ⊥
  pub second_home : Renaming worked words_after (list_home 8 ∷ list_home 16 ∷ []) → ⊥
  pub no_home : Renaming worked words_after [] → ⊥
  pub torn_copy : Renaming worked (slice_set words_after 9 33) (list_home 8 ∷ []) → ⊥
  pub outside : Outside worked (slice_set words_after 3 1) → ⊥
