-- The places of the flags that are set.
use Rattle.std.proofs.Common.{◌≡◌, ℕ, ◌+◌, ◌<◌, ◌≤◌, Bool, true, false, List, length, get_or, Contains, All, arith, ◌*◌}
use Rattle.std.proofs.Common.{inl, inr}
use Rattle.std.specs.List.{range_with_len}
use Rattle.std.specs.List.Sorted.{IsStrictlyIncreasing}
use Rattle.std.proofs.lemmas.Bool.{cases_lt}
use Rattle.std.proofs.lemmas.List.{get_or_past}
use Rattle.std.proofs.lemmas.List.Elements.{All-from_get_or, All-filter}
use Rattle.std.proofs.lemmas.List.FromFn.{length-range_with_len, get_or-range_with_len}
use Rattle.std.proofs.lemmas.List.Kept.{AllPairs-from_increasing, IsStrictlyIncreasing-filter}
use Rattle.remembered_set.specs.Model.{slots_of, shown}
use Rattle.page_space.specs.Sizes.{page_words, pages_most}
use Rattle.remembered_set.specs.Recorded.{IsRecorded, IsAscending}
use Rattle.tagged_word.proofs.Members.{in_filter, filter_true, in_range}

-- a slot that is recorded has its flag set
pub flag_of_slot : (flags : List Bool) (slot : ℕ) → Contains (slots_of flags) slot → get_or flags slot false ≡ true
unfolding slots_of
flag_of_slot flags slot there =
    filter_true (λ place. get_or flags place false) (range_with_len 0 (length flags)) slot there

-- a flag that is set is one of the flags
flag_below : (flags : List Bool) (slot : ℕ) → get_or flags slot false ≡ true → slot < length flags
flag_below flags slot is_set =
    elim (cases_lt slot (length flags)) [
      | inl below ↦ below
      | inr behind ↦ let past : get_or flags slot false ≡ false = get_or_past flags slot false behind in absurd (cc)
    ]

-- a slot whose flag is set is recorded
pub slot_of_flag : (flags : List Bool) (slot : ℕ) → get_or flags slot false ≡ true → Contains (slots_of flags) slot
unfolding slots_of
slot_of_flag flags slot is_set =
    in_filter (λ place. get_or flags place false) (range_with_len 0 (length flags)) slot is_set
    (in_range 0 (length flags) slot (omega arith) (omega (arith, flag_below flags slot is_set)))

-- a slot that is recorded is below the bound
pub slot_below : (flags : List Bool) (slot : ℕ) → Contains (slots_of flags) slot → slot < length flags
slot_below flags slot there = flag_below flags slot (flag_of_slot flags slot there)

-- numbers that are counted up increase
range_increases : (n : ℕ) → IsStrictlyIncreasing (range_with_len 0 n)
range_increases n = λ k inside.
    let within : k + 1 < n = simp length-range_with_len at inside in
    let one : get_or (range_with_len 0 n) k 0 ≡ 0 + k = get_or-range_with_len 0 n k 0 (omega arith) in
    let next : get_or (range_with_len 0 n) (k + 1) 0 ≡ 0 + (k + 1) = get_or-range_with_len 0 n (k + 1) 0 within in
    omega arith

-- the recorded slots ascend
pub slots_ascend : (flags : List Bool) → IsAscending (slots_of flags)
unfolding slots_of
slots_ascend flags =
    AllPairs-from_increasing (slots_of flags)
    (IsStrictlyIncreasing-filter (λ place. get_or flags place false) (range_with_len 0 (length flags))
    (range_increases (length flags)))

-- each recorded slot is one of the places
pub slots_below : (flags : List Bool) → All (λ slot. slot < length flags) (slots_of flags)
unfolding slots_of
slots_below flags =
    All-filter (λ place. get_or flags place false) (λ slot. slot < length flags) (range_with_len 0 (length flags))
    (All-from_get_or (λ slot. slot < length flags) (range_with_len 0 (length flags)) 0
    (λ k inside.
    let within : k < length flags = simp length-range_with_len at inside in
    let at : get_or (range_with_len 0 (length flags)) k 0 ≡ 0 + k = get_or-range_with_len 0 (length flags) k 0 within in
    omega arith))

-- flags of no more words than pages may have show slots in order, each below the bound
pub is_recorded : (flags : List Bool) → length flags ≤ page_words * pages_most → IsRecorded (shown flags)
is_recorded flags within =
    record { ascending = slots_ascend flags; below = slots_below flags; within = within }
