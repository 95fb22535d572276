-- The bound of a remembered set is that of its pages, and its flags as bits change.
use Rattle.std.proofs.Common.{◌≡◌, ℕ, ◌*◌, ◌<◌, ◌≤◌, Bool, true, false, List, length, get_or, set, inl, inr, refl, sym}
use Rattle.std.proofs.Common.{◌∙◌, ap, arith}
use Rattle.std.proofs.lemmas.Bool.{cases_eq}
use Rattle.std.proofs.lemmas.List.{length-set, get_or-set_same, get_or-set_other}
use Rattle.remembered_set.specs.declared.Remembered.TheInside.{Inside}
use Rattle.page_space.specs.Sizes.{page_words, pages_most}
use Rattle.remembered_set.specs.Bits.{flags_of}
use Rattle.remembered_set.specs.Flags.{CountsEachPage}
use Rattle.remembered_set.specs.Model.{IsValid, recorded_of}
use Rattle.remembered_set.specs.Recorded.{Recorded}
use Rattle.remembered_set.proofs.Counts.{set_count_agrees}
use Rattle.remembered_set.proofs.Words.{length-flags_of}

-- there is a flag for each word of the pages
pub flags_long : (bits : List ℕ) (counts : List ℕ) → length bits ≡ 32 * length counts
    → length (flags_of bits) ≡ page_words * length counts
flags_long bits counts pages = omega (arith, length-flags_of bits, pages)

-- there are few words of bits
pub bits_few : (bits : List ℕ) (counts : List ℕ) → length bits ≡ 32 * length counts
    → length (flags_of bits) ≤ page_words * pages_most → length bits ≤ 65536
bits_few bits counts pages within = omega (arith, length-flags_of bits, within)

-- the bound is that of the pages
pub bound_is : (inside : Inside) (recorded : Recorded) → recorded_of inside ≡ recorded → IsValid inside
    → recorded.bound ≡ page_words * length inside.counts.items
bound_is inside recorded view kept =
    sym (ap (λ (one : Recorded). one.bound) view) ∙ flags_long inside.bits.items inside.counts.items kept.pages

-- words with as many flags are as many
pub as_many_words : (old new : List ℕ) (place : ℕ) (flag : Bool) → flags_of new ≡ set (flags_of old) place flag
    → length new ≡ length old
as_many_words old new place flag is =
    let long : length (flags_of new) ≡ length (flags_of old) =
    ap (λ (all : List Bool). length all) is ∙ length-set (flags_of old) place flag in
    omega (arith, long, length-flags_of new, length-flags_of old)

-- where a flag is set again, the pages count as before
pub counted_again : (flags : List Bool) (counts : List ℕ) (slot : ℕ) → get_or flags slot false ≡ true
    → slot < length flags → CountsEachPage flags counts → CountsEachPage (set flags slot true) counts
counted_again flags counts slot was below counted = λ page inside.
    counted page inside
    ∙ sym (set_count_agrees flags (set flags slot true) (page_words * page) page_words
    (λ place begins ends. elim (cases_eq place slot) [
      | inl same ↦
          ap (λ n. get_or (set flags slot true) n false) same ∙ get_or-set_same flags slot true false below
          ∙ sym was ∙ ap (λ n. get_or flags n false) (sym same)
      | inr other ↦ get_or-set_other flags slot place true false other
    ]))

-- what is not false is true
pub not_false : (test : Bool) → (test ≡ false → ⊥) → test ≡ true
not_false true not = refl
not_false false not = absurd (not refl)
