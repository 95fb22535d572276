-- Flags that are bits of words, as words change and as they are looked at.
use Rattle.std.proofs.Common.{◌≡◌, ◌≢◌, ℕ, ◌+◌, ◌-◌, ◌*◌, ◌/◌, ◌%◌, ◌^◌, ◌<◌, ◌≤◌, ◌==◌, ◌↔◌, IsTrue, min, inl, inr}
use Rattle.std.proofs.Common.{Bool, true, false, not}
use Rattle.std.proofs.Common.{List, length, get_or, set, replicate, bit_and, refl, sym, ◌∙◌, ap, arith}
use Rattle.std.specs.Int.{bit_at, trailing_zeros, w64}
use Rattle.std.proofs.lemmas.Bool.{cases_lt, cases_eq, eqb-true, eq-eqb, false≢true}
use Rattle.std.proofs.lemmas.Bool.Decides.{nat_tests}
use Rattle.std.proofs.lemmas.List.{same_lists, length-set, get_or-set_same, get_or-set_other, get_or_default}
use Rattle.std.proofs.lemmas.List.{get_or_past, length-replicate, get_or-replicate}
use Rattle.std.proofs.lemmas.List.FromFn.{length-map-range_with_len, get_or-map-range_with_len}
use Rattle.std.proofs.lemmas.Nat.{one_shl, pow_pos}
use Rattle.std.proofs.lemmas.Nat.Bits.{and_pow, bit_at-zero, bit_at-lt, bit_at_and, bit_at_mask_inside}
use Rattle.std.proofs.lemmas.Nat.Bits.{bit_at_mask_below}
use Rattle.std.proofs.lemmas.Nat.Bits.{bit_at-trailing_zeros}
use Rattle.remembered_set.specs.Bits.{flag_at, flags_of, HasNoBitFrom, IsFirstBitFrom}
use Rattle.remembered_set.specs.Flags.{AreClear, IsFirstSet}

-- there are 64 flags for each word
pub length-flags_of : (bits : List ℕ) → length (flags_of bits) ≡ 64 * length bits
unfolding flags_of
length-flags_of bits = length-map-range_with_len (flag_at bits) 0 (64 * length bits)

-- a place behind all words has no flag
no_flag : (bits : List ℕ) (place : ℕ) → 64 * length bits ≤ place → flag_at bits place ≡ false
no_flag bits place past =
    let word : get_or bits (place / 64) 0 ≡ 0 = get_or_past bits (place / 64) 0 (omega arith) in
    let bit : bit_at (get_or bits (place / 64) 0) (place % 64) ≡ 0 =
    ap (λ n. bit_at n (place % 64)) word ∙ bit_at-zero (place % 64) in
    ap (λ n. n == 1) bit

-- the flag of a place is its bit
pub get_or-flags_of : (bits : List ℕ) (place : ℕ) → get_or (flags_of bits) place false ≡ flag_at bits place
unfolding flags_of
get_or-flags_of bits place =
    elim (cases_lt place (64 * length bits)) [
      | inl below ↦
          get_or-map-range_with_len (flag_at bits) 0 (64 * length bits) place place false below (omega arith)
      | inr past ↦
          get_or_past (flags_of bits) place false (omega (arith, length-flags_of bits, past))
          ∙ sym (no_flag bits place past)
    ]

-- a word of one changed bit has the flag of each place of it, and so has each other word
flag_changed : (bits : List ℕ) (place word k : ℕ) (flag : Bool) → place < 64 * length bits
    → (bit_at word (place % 64) == 1) ≡ flag
    → ((bit : ℕ) → bit < 64 → bit ≢ place % 64 → bit_at word bit ≡ bit_at (get_or bits (place / 64) 0) bit)
    → flag_at (set bits (place / 64) word) k ≡ get_or (set (flags_of bits) place flag) k false
flag_changed bits place word k flag below is others =
    let now : List ℕ = set bits (place / 64) word in
    let here : place / 64 < length bits = omega arith in
    let within : place < length (flags_of bits) = omega (arith, length-flags_of bits, below) in
    elim (cases_eq k place) [
      | inl same ↦
          ap (λ n. flag_at now n) same
          ∙ ap (λ n. bit_at n (place % 64) == 1) (get_or-set_same bits (place / 64) word 0 here)
          ∙ is ∙ sym (get_or-set_same (flags_of bits) place flag false within)
          ∙ sym (ap (λ n. get_or (set (flags_of bits) place flag) n false) same)
      | inr other ↦
          let stays : get_or (set (flags_of bits) place flag) k false ≡ flag_at bits k =
          get_or-set_other (flags_of bits) place k flag false other ∙ get_or-flags_of bits k in
          elim (cases_eq (k / 64) (place / 64)) [
            | inl same_word ↦
                let bit : k % 64 ≢ place % 64 = λ same_bit. other (omega arith) in
                ap (λ n. bit_at (get_or now n 0) (k % 64) == 1) same_word
                ∙ ap (λ n. bit_at n (k % 64) == 1) (get_or-set_same bits (place / 64) word 0 here)
                ∙ ap (λ n. n == 1) (others (k % 64) (omega arith) bit)
                ∙ sym (ap (λ n. bit_at (get_or bits n 0) (k % 64) == 1) same_word)
                ∙ sym stays
            | inr other_word ↦
                ap (λ n. bit_at n (k % 64) == 1) (get_or-set_other bits (place / 64) (k / 64) word 0 other_word)
                ∙ sym stays
          ]
    ]

-- words of 0 have clear flags
pub flags_of-zeros : (n : ℕ) → flags_of (replicate n 0) ≡ replicate (64 * n) false
flags_of-zeros n =
    let zeros : List ℕ = replicate n 0 in
    let none : List Bool = replicate (64 * n) false in
    let many : length zeros ≡ n = length-replicate n 0 in
    let long : length (flags_of zeros) ≡ length none =
    omega (arith, length-flags_of zeros, many, length-replicate (64 * n) false) in
    same_lists (flags_of zeros) none long
    (λ k d inside.
    let below : k < 64 * n = omega (arith, inside, length-flags_of zeros, many) in
    let word : get_or zeros (k / 64) 0 ≡ 0 = get_or-replicate n (k / 64) 0 0 (omega arith) in
    get_or_default (flags_of zeros) k d false inside ∙ get_or-flags_of zeros k
    ∙ ap (λ w. bit_at w (k % 64) == 1) word ∙ ap (λ b. b == 1) (bit_at-zero (k % 64))
    ∙ sym (get_or-replicate (64 * n) k false d below))

-- the flags of words of which one is another, with one bit changed, are those with one flag changed
pub flags_of-set : (bits : List ℕ) (place word : ℕ) (flag : Bool) → place < 64 * length bits
    → (bit_at word (place % 64) == 1) ≡ flag
    → ((bit : ℕ) → bit < 64 → bit ≢ place % 64 → bit_at word bit ≡ bit_at (get_or bits (place / 64) 0) bit)
    → flags_of (set bits (place / 64) word) ≡ set (flags_of bits) place flag
flags_of-set bits place word flag below is others =
    let now : List ℕ = set bits (place / 64) word in
    let long : length (flags_of now) ≡ length (set (flags_of bits) place flag) =
    omega (
      arith,
      length-flags_of now,
      length-flags_of bits,
      length-set bits (place / 64) word,
      length-set (flags_of bits) place flag,
    ) in
    same_lists (flags_of now) (set (flags_of bits) place flag) long
    (λ k d inside.
    get_or_default (flags_of now) k d false inside ∙ get_or-flags_of now k
    ∙ flag_changed bits place word k flag below is others
    ∙ get_or_default (set (flags_of bits) place flag) k false d (omega (arith, inside, long)))

-- a word that has no bit in the mask has none from there on
pub no_bit : (word from rest : ℕ) → rest ≡ bit_and word (2 ^ 64 - 2 ^ from) → rest ≡ 0 → HasNoBitFrom word from
no_bit word from rest masked none bit from_on within =
    let both : bit_at rest bit ≡ min (bit_at word bit) (bit_at (2 ^ 64 - 2 ^ from) bit) =
    ap (λ n. bit_at n bit) masked ∙ bit_at_and word (2 ^ 64 - 2 ^ from) bit in
    let of_mask : bit_at (2 ^ 64 - 2 ^ from) bit ≡ 1 = bit_at_mask_inside from 64 bit from_on within in
    let zero : bit_at rest bit ≡ 0 = ap (λ n. bit_at n bit) none ∙ bit_at-zero bit in
    omega (arith, both, of_mask, zero, bit_at-lt word bit)

-- the lowest bit in the mask is the first from there on
pub lowest_bit : (word from rest : ℕ) → rest ≡ bit_and word (2 ^ 64 - 2 ^ from) → 0 < rest → rest < 2 ^ 64
    → IsFirstBitFrom word from (trailing_zeros w64 rest)
lowest_bit word from rest masked some fits =
    let low : ℕ = trailing_zeros w64 rest in
    let is = bit_at-trailing_zeros w64 rest some fits in
    let both : (bit : ℕ) → bit_at rest bit ≡ min (bit_at word bit) (bit_at (2 ^ 64 - 2 ^ from) bit) =
    λ bit. ap (λ n. bit_at n bit) masked ∙ bit_at_and word (2 ^ 64 - 2 ^ from) bit in
    let from_on : from ≤ low =
    elim (cases_lt low from) [
      | inl below ↦ omega (arith, both low, bit_at_mask_below from 64 low below, is.1)
      | inr from_on ↦ from_on
    ] in
    record {
      from_on = from_on;
      within = is.0;
      is_set = omega (arith, both low, is.1, bit_at_mask_inside from 64 low from_on is.0, bit_at-lt word low);
      clear_before = λ other behind before.
          omega (
            arith,
            both other,
            is.2 other before,
            bit_at_mask_inside from 64 other behind (omega (arith, is.0, before)),
            bit_at-lt word other,
          );
    }

-- a number that another is not is tested so
eqb-other : (m n : ℕ) → m ≢ n → (m == n) ≡ false
eqb-other m n other = grind (arith, nat_tests, other)

-- the test of a bit tells whether the flag is clear
pub bit_test : (word bit : ℕ) → bit < 64
    → IsTrue (bit_and word (1 * 2 ^ bit % 2 ^ 64) == 0) ↔ ((bit_at word bit == 1) ≡ false)
bit_test word bit below =
    let is : bit_and word (1 * 2 ^ bit % 2 ^ 64) ≡ bit_at word bit * 2 ^ bit =
    ap (λ n. bit_and word n) (one_shl bit 64 below) ∙ and_pow word bit in
    elim (cases_eq (bit_at word bit) 1) [
      | inl one ↦
          let whole : bit_and word (1 * 2 ^ bit % 2 ^ 64) ≡ 2 ^ bit =
          is ∙ ap (λ n. n * 2 ^ bit) one ∙ omega arith in
          let is_set : (bit_at word bit == 1) ≡ true = eq-eqb (bit_at word bit) 1 one in (
            λ none.
                let zero : bit_and word (1 * 2 ^ bit % 2 ^ 64) ≡ 0 =
                eqb-true (bit_and word (1 * 2 ^ bit % 2 ^ 64)) 0 none in
                absurd (omega (arith, whole, zero, pow_pos bit)),
            λ clear. absurd (false≢true (sym clear ∙ is_set)),
          )
      | inr other ↦
          let none : bit_at word bit ≡ 0 = omega (arith, bit_at-lt word bit, other) in
          let both : bit_and word (1 * 2 ^ bit % 2 ^ 64) ≡ 0 = is ∙ ap (λ n. n * 2 ^ bit) none ∙ omega arith in
          (λ _. eqb-other (bit_at word bit) 1 other, λ _. eq-eqb (bit_and word (1 * 2 ^ bit % 2 ^ 64)) 0 both)
    ]

-- whether a bit is left behind the mask of one is whether it is set
pub bit_left : (word bit : ℕ) → bit < 64
    → not (bit_and word (1 * 2 ^ bit % 2 ^ 64) == 0) ≡ (bit_at word bit == 1)
bit_left word bit below =
    elim (cases_eq (bit_at word bit) 1) [
      | inl one ↦
          let is_set : (bit_at word bit == 1) ≡ true = eq-eqb (bit_at word bit) 1 one in
          let some : (bit_and word (1 * 2 ^ bit % 2 ^ 64) == 0) ≡ false =
          eqb-other (bit_and word (1 * 2 ^ bit % 2 ^ 64)) 0 (λ zero.
          let none : (bit_at word bit == 1) ≡ false =
          (bit_test word bit below).0 (eq-eqb (bit_and word (1 * 2 ^ bit % 2 ^ 64)) 0 zero) in
          absurd (false≢true (sym none ∙ is_set))) in
          ap not some ∙ sym is_set
      | inr other ↦
          let clear : (bit_at word bit == 1) ≡ false = eqb-other (bit_at word bit) 1 other in
          ap not ((bit_test word bit below).1 clear) ∙ sym clear
    ]

-- the flag of a place is the bit of its word
word_flag : (bits : List ℕ) (place word bit : ℕ) → bit < 64 → place ≡ word * 64 + bit
    → get_or (flags_of bits) place false ≡ (bit_at (get_or bits word 0) bit == 1)
word_flag bits place word bit below is =
    let in_word : place / 64 ≡ word = omega arith in
    let of_word : place % 64 ≡ bit = omega arith in
    get_or-flags_of bits place
    ∙ ap (λ n. bit_at (get_or bits n 0) (place % 64) == 1) in_word
    ∙ ap (λ n. bit_at (get_or bits word 0) n == 1) of_word

-- flags are clear up to a bit of the word of a place where they are up to the place, and no bit between is set
clear_up_to : (bits : List ℕ) (from at bit : ℕ) → AreClear (flags_of bits) from at
    → ((other : ℕ) → at - at / 64 * 64 ≤ other → other < bit → bit_at (get_or bits (at / 64) 0) other ≡ 0) → bit < 64
    → AreClear (flags_of bits) from (at / 64 * 64 + bit)
clear_up_to bits from at bit clear none within place between =
    let begins : from ≤ place = between.begins in
    let ends : place < at / 64 * 64 + bit = between.ends in
    elim (cases_lt place at) [
      | inl before ↦ clear place (record { begins = begins; ends = before })
      | inr behind ↦
          let other : ℕ = place - at / 64 * 64 in
          word_flag bits place (at / 64) other (omega arith) (omega arith)
          ∙ ap (λ n. n == 1) (none other (omega arith) (omega arith))
    ]

-- flags are clear from a place on to the end of its word where that has no bit from there on
pub clear_word : (bits : List ℕ) (from at : ℕ) → AreClear (flags_of bits) from at
    → HasNoBitFrom (get_or bits (at / 64) 0) (at - at / 64 * 64) → AreClear (flags_of bits) from (at / 64 * 64 + 64)
clear_word bits from at clear none place between =
    let begins : from ≤ place = between.begins in
    let ends : place < at / 64 * 64 + 64 = between.ends in
    elim (cases_lt place at) [
      | inl before ↦ clear place (record { begins = begins; ends = before })
      | inr behind ↦
          let bit : ℕ = place - at / 64 * 64 in
          word_flag bits place (at / 64) bit (omega arith) (omega arith)
          ∙ ap (λ n. n == 1) (none bit (omega arith) (omega arith))
    ]

-- the first bit of a word from a place on is the first flag
pub first_flag : (bits : List ℕ) (from at to bit : ℕ) → AreClear (flags_of bits) from at → from ≤ at
    → IsFirstBitFrom (get_or bits (at / 64) 0) (at - at / 64 * 64) bit → at / 64 * 64 + bit < to
    → IsFirstSet (flags_of bits) from to (at / 64 * 64 + bit)
first_flag bits from at to bit clear behind first before_end =
    let from_on : at - at / 64 * 64 ≤ bit = first.from_on in
    let within : bit < 64 = first.within in
    record {
      between = record { begins = omega arith; ends = before_end };
      is_set = word_flag bits (at / 64 * 64 + bit) (at / 64) bit within refl
          ∙ eq-eqb (bit_at (get_or bits (at / 64) 0) bit) 1 first.is_set;
      clear_before = clear_up_to bits from at bit clear (first.clear_before) within;
    }

-- where the first bit of a word is not before the end, all flags before that are clear
pub none_before_end : (bits : List ℕ) (from at to bit : ℕ) → AreClear (flags_of bits) from at
    → IsFirstBitFrom (get_or bits (at / 64) 0) (at - at / 64 * 64) bit → to ≤ at / 64 * 64 + bit
    → AreClear (flags_of bits) from to
none_before_end bits from at to bit clear first past place between =
    let ends : place < to = between.ends in
    clear_up_to bits from at bit clear first.clear_before first.within place
    (record { begins = between.begins; ends = omega arith })
