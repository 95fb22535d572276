-- How many flags of a stretch are set.
use Rattle.std.proofs.Common.{◌≡◌, ℕ, zero, suc, ◌+◌, ◌<◌, ◌≤◌, ◌≢◌, Bool, true, false, List, get_or, refl, arith, inl}
use Rattle.std.proofs.Common.{inr, ap}
use Rattle.std.proofs.lemmas.Bool.{cases_lt}
use Rattle.remembered_set.specs.Flags.{AreClear, flag_count, set_count}

-- a flag counts no more than 1
flag_within : (flag : Bool) → flag_count flag ≤ 1
flag_within true = omega arith
flag_within false = omega arith

-- a flag that counts 0 is clear
clear_flag : (flag : Bool) → flag_count flag ≡ 0 → flag ≡ false
clear_flag true none = absurd (omega arith)
clear_flag false none = refl

-- no more flags are set than there are
pub set_count_within : (flags : List Bool) (from n : ℕ) → set_count flags from n ≤ n
unfolding set_count
set_count_within flags from zero = omega arith
set_count_within flags from (suc n) =
    let before = set_count_within flags from n in
    let last = flag_within (get_or flags (from + n) false) in
    omega arith

-- flags that agree on a stretch have as many there that are set
pub set_count_agrees : (old new : List Bool) (from n : ℕ)
    → ((place : ℕ) → from ≤ place → place < from + n → get_or new place false ≡ get_or old place false)
    → set_count new from n ≡ set_count old from n
unfolding set_count
set_count_agrees old new from zero agree = refl
set_count_agrees old new from (suc n) agree =
    let before : set_count new from n ≡ set_count old from n =
    set_count_agrees old new from n (λ place behind within. agree place behind (omega arith)) in
    let last : flag_count (get_or new (from + n) false) ≡ flag_count (get_or old (from + n) false) =
    ap flag_count (agree (from + n) (omega arith) (omega arith)) in
    omega arith

-- a stretch whose flags are clear has none that is set
pub set_count_clear : (flags : List Bool) (from n : ℕ) → AreClear flags from (from + n) → set_count flags from n ≡ 0
unfolding set_count
set_count_clear flags from zero clear = refl
set_count_clear flags from (suc n) clear =
    let before : set_count flags from n ≡ 0 = set_count_clear flags from n (λ place between.
    clear place (record { begins = between.begins; ends = let ends = between.ends in omega arith })) in
    let last : flag_count (get_or flags (from + n) false) ≡ 0 =
    ap flag_count (clear (from + n) (record { begins = omega arith; ends = omega arith })) in
    omega arith

-- where none of a stretch is set, its flags are clear
pub clear_from_count : (flags : List Bool) (from n : ℕ) → set_count flags from n ≡ 0 → AreClear flags from (from + n)
unfolding set_count
clear_from_count flags from zero none = λ place between.
    let begins = between.begins in
    let ends = between.ends in
    absurd (omega arith)
clear_from_count flags from (suc n) none = λ place between.
    let begins = between.begins in
    let ends = between.ends in
    elim (cases_lt place (from + n)) [
      | inl below ↦ clear_from_count flags from n (omega arith) place (record { begins = begins; ends = below })
      | inr behind ↦
          let is : place ≡ from + n = omega arith in
          rw is (clear_flag (get_or flags (from + n) false) (omega arith))
    ]

-- where one flag of a stretch is set beside those that were, one more is
pub set_count_raised : (low high : List Bool) (from n place : ℕ) → from ≤ place → place < from + n
    → get_or low place false ≡ false → get_or high place false ≡ true
    → ((other : ℕ) → other ≢ place → get_or high other false ≡ get_or low other false)
    → set_count low from n + 1 ≡ set_count high from n
unfolding set_count
set_count_raised low high from zero place behind within was is others = absurd (omega arith)
set_count_raised low high from (suc n) place behind within was is others =
    elim (cases_lt place (from + n)) [
      | inl below ↦
          let before : set_count low from n + 1 ≡ set_count high from n =
          set_count_raised low high from n place behind below was is others in
          let last : flag_count (get_or high (from + n) false) ≡ flag_count (get_or low (from + n) false) =
          ap flag_count (others (from + n) (omega arith)) in
          omega arith
      | inr last ↦
          let at : from + n ≡ place = omega arith in
          let before : set_count high from n ≡ set_count low from n =
          set_count_agrees low high from n (λ other _ below. others other (omega arith)) in
          let low_flag : flag_count (get_or low (from + n) false) ≡ 0 = rw at (ap flag_count was) in
          let high_flag : flag_count (get_or high (from + n) false) ≡ 1 = rw at (ap flag_count is) in
          omega arith
    ]
