-- A token that is an integer is what is written of the integer.
use Rattle.std.proofs.Common.{◌≡◌, ◌≢◌, inl, inr, ℕ, zero, suc, ◌+◌, ◌-◌, ◌*◌, ◌^◌}
use Rattle.std.proofs.Common.{◌<◌, ◌≤◌, Bool, true, false, cond, ◌&&◌, eqb, nat_le, List, [], ◌∷◌}
use Rattle.std.proofs.Common.{get_or, Option, Some, None, option_and_then, ℤ, pos, negsuc, neg_ℤ, codes, bytes_eq}
use Rattle.std.proofs.Common.{refl, sym, ap, ◌∙◌, subst, rules, arith}
use Rattle.std.specs.Fmt.{decimal, signed_decimal}
use Rattle.std.proofs.lemmas.Bool.Decides.{nat_tests}
use Rattle.std.proofs.lemmas.Fmt.{decimal_digit, first_decimal, digits_decimal, digits_value-decimal}
use Rattle.std.proofs.lemmas.Fmt.{decimal-digits_value}
use Rattle.std.proofs.lemmas.Str.Parse.{IsNumeralModel, numerals_by_fold}
use Rattle.script_text.specs.Tokens.{is_digit, digits_after, positive_of, at_most, integer_of}
use Rattle.script_laws.specs.Words.{Has64Bits, IntegersAreRead, IntegersAreWritten}
use Rattle.script_text.proofs.Numbers.{true_or_false, bytes_tell}

-- each byte is a digit
abbrev pub all_digits : List ℕ → Bool
all_digits [] = true
all_digits (b ∷ bs) = is_digit b && all_digits bs

-- the number that digits make after those of n
abbrev read_on : ℕ → List ℕ → ℕ
read_on n [] = n
read_on n (b ∷ bs) = read_on (10 * n + (b - 48)) bs

-- our reading of digits is a reading of numerals
own : IsNumeralModel (λ ds. all_digits ds ≡ true) (read_on 0)
own = numerals_by_fold _ (search rules) read_on (search rules)

-- both tests pass
pub both : (a b : Bool) → a && b ≡ true → (a ≡ true) × (b ≡ true)
both true true e = (refl, refl)
both true false e = cc
both false b e = cc

-- two tests that pass pass together
joined : (a b : Bool) → a ≡ true → b ≡ true → a && b ≡ true
joined true true e f = refl
joined true false e f = cc
joined false b e f = cc

-- digits make the number that they write
digits_after-read_on : (ds : List ℕ) (n : ℕ) → all_digits ds ≡ true → digits_after n ds ≡ Some (read_on n ds)
digits_after-read_on [] n h = refl
digits_after-read_on (b ∷ bs) n h =
    let parts = both (is_digit b) (all_digits bs) h in
    ap (λ d. cond d (digits_after (10 * n + (b - 48)) bs) None) parts.0
    ∙ digits_after-read_on bs (10 * n + (b - 48)) parts.1

-- nothing is no number
none_some : {v : ℕ} → None ≡ Some v → ⊥
none_some e = cc

-- what makes a number is digits, and these write it
digits_after-all : (ds : List ℕ) (n v : ℕ) → digits_after n ds ≡ Some v
    → (all_digits ds ≡ true) × (read_on n ds ≡ v)
digits_after-all [] n v e = (refl, cc)
digits_after-all (b ∷ bs) n v e =
    elim (true_or_false (is_digit b)) [
      | inl d ↦
          let later =
          digits_after-all bs (10 * n + (b - 48)) v
          (sym (ap (λ t. cond t (digits_after (10 * n + (b - 48)) bs) None) d) ∙ e) in
          (joined (is_digit b) (all_digits bs) d later.0, later.1)
      | inr d ↦ absurd (none_some (sym (ap (λ t. cond t (digits_after (10 * n + (b - 48)) bs) None) d) ∙ e))
    ]

-- what is written of a number is digits
pub decimal-all_digits : (n : ℕ) → n < 2 ^ 64 → all_digits (decimal n) ≡ true
decimal-all_digits n few = digits_decimal own n few

-- digits make no less than what stands before them
read_on-le : (ds : List ℕ) (n : ℕ) → n ≤ read_on n ds
read_on-le [] n = omega arith
read_on-le (b ∷ bs) n = omega (arith, read_on-le bs (10 * n + (b - 48)))

-- a digit is no less than `0`
is_digit-le : (b : ℕ) → is_digit b ≡ true → 48 ≤ b
is_digit-le b h = grind (arith, nat_tests)

-- a number above 0 with its digits
record IsPositive (ds : List ℕ) (n : ℕ) : Type 0 where
  above : 0 < n
  written : n < 2 ^ 64 → decimal n ≡ ds

-- digits of which the first is not `0` make a number above 0, which they write
positive-digits : (b : ℕ) (bs : List ℕ) (n : ℕ) → b ≢ 48
    → digits_after 0 (b ∷ bs) ≡ Some n → IsPositive (b ∷ bs) n
positive-digits b bs n first e =
    let read = digits_after-all (b ∷ bs) 0 n e in
    let digit = is_digit-le b (both (is_digit b) (all_digits bs) read.0).0 in
    let least = read_on-le bs (10 * 0 + (b - 48)) in
    record {
      above = omega (arith, read.1);
      written =
          λ few. subst (λ m. decimal m ≡ b ∷ bs) read.1
          (decimal-digits_value own (b ∷ bs) read.0 (omega arith) (λ h. absurd (first h)) (omega (arith, read.1)));
    }

-- so do the digits of a number that is read
positive_of-IsPositive : (ds : List ℕ) (n : ℕ) → positive_of ds ≡ Some n → IsPositive ds n
positive_of-IsPositive [] n e = cc
positive_of-IsPositive (b ∷ bs) n e =
    elim (true_or_false (eqb b 48)) [
      | inl z ↦ absurd (none_some (sym (ap (λ t. cond t None (digits_after 0 (b ∷ bs))) z) ∙ e))
      | inr z ↦ positive-digits b bs n (grind (arith, nat_tests))
          (sym (ap (λ t. cond t None (digits_after 0 (b ∷ bs))) z) ∙ e)
    ]

-- digits of which the first is above `0` are read
positive_of-some : (ds : List ℕ) (v : ℕ) → 48 < get_or ds 0 0 → digits_after 0 ds ≡ Some v → positive_of ds ≡ Some v
positive_of-some [] v lt e = absurd (omega arith)
positive_of-some (b ∷ bs) v lt e =
    let other : eqb b 48 ≡ false = grind (arith, nat_tests) in
    ap (λ t. cond t None (digits_after 0 (b ∷ bs))) other ∙ e

-- the digits that are written of a number above 0 are read as it
positive_of-decimal : (n : ℕ) → 0 < n → n < 2 ^ 64 → positive_of (decimal n) ≡ Some n
positive_of-decimal n above few =
    positive_of-some (decimal n) n (first_decimal n above few)
    (digits_after-read_on (decimal n) 0 (digits_decimal own n few)
    ∙ ap Some (digits_value-decimal own n few))

-- a number up to the most is read
at_most-within : (most n : ℕ) → n ≤ most → at_most most n ≡ Some n
at_most-within most n h = grind (arith, nat_tests)

-- the integer of digits with no sign
integer_of-digits : (ds : List ℕ) (n : ℕ) → 48 < get_or ds 0 0 → positive_of ds ≡ Some n → n ≤ 2 ^ 63 - 1
    → integer_of ds ≡ Some (pos n)
integer_of-digits [] n lt e few = absurd (omega arith)
integer_of-digits (b ∷ bs) n lt e few =
    let plain : eqb b 45 ≡ false = grind (arith, nat_tests) in
    let other : bytes_eq (b ∷ bs) (codes "0") ≡ false =
    elim (bytes_tell (b ∷ bs) (codes "0"))
    [ inl t ↦ absurd (omega (arith, ap (λ s. get_or s 0 0) t.1)) | inr t ↦ t.0 ] in
    let negative = option_and_then (λ n. Some (neg_ℤ (pos n))) (option_and_then (at_most (2 ^ 63)) (positive_of bs)) in
    let digits = λ (o : Option ℕ). option_and_then (λ n. Some (pos n)) (option_and_then (at_most (2 ^ 63 - 1)) o) in
    ap (λ t. cond t negative
    (cond (bytes_eq (b ∷ bs) (codes "0")) (Some (pos 0)) (digits (positive_of (b ∷ bs))))) plain
    ∙ ap (λ t. cond t (Some (pos 0)) (digits (positive_of (b ∷ bs)))) other
    ∙ ap digits e ∙ ap (option_and_then (λ n. Some (pos n))) (at_most-within (2 ^ 63 - 1) n few)

-- what is written of an integer is read as it
pub integers_are_read : IntegersAreRead
integers_are_read (pos zero) h = ap integer_of (decimal_digit 0 (omega arith))
integers_are_read (pos (suc n)) h =
    let few : suc n < 2 ^ 64 = omega arith in
    integer_of-digits (decimal (suc n)) (suc n) (first_decimal (suc n) (omega arith) few)
    (positive_of-decimal (suc n) (omega arith) few) (omega arith)
integers_are_read (negsuc n) h =
    let few : suc n < 2 ^ 64 = omega arith in
    ap (λ o. option_and_then (λ n. Some (neg_ℤ (pos n))) (option_and_then (at_most (2 ^ 63)) o))
    (positive_of-decimal (suc n) (omega arith) few)
    ∙ ap (option_and_then (λ n. Some (neg_ℤ (pos n)))) (at_most-within (2 ^ 63) (suc n) (omega arith))

-- digits that make a number up to a bound
record IsUpTo (digits : Option ℕ) (most : ℕ) (make : ℕ → ℤ) (v : ℤ) : Type 0 where
  number : ℕ
  read : digits ≡ Some number
  within : number ≤ most
  same : make number ≡ v

-- a number that is given passed the test
up_to-test : (b : Bool) (n most : ℕ) (make : ℕ → ℤ) (v : ℤ) → (b ≡ true → n ≤ most)
    → option_and_then (λ m. Some (make m)) (cond b (Some n) None) ≡ Some v → IsUpTo (Some n) most make v
up_to-test true n most make v h e = record { number = n; read = refl; within = h refl; same = cc }
up_to-test false n most make v h e = cc

-- so its digits make a number up to the bound
up_to : (digits : Option ℕ) (most : ℕ) (make : ℕ → ℤ) (v : ℤ)
    → option_and_then (λ n. Some (make n)) (option_and_then (at_most most) digits) ≡ Some v
    → IsUpTo digits most make v
up_to None most make v e = cc
up_to (Some n) most make v e = up_to-test (nat_le n most) n most make v (λ h. grind (arith, nat_tests)) e

-- a `-` and digits are what is written of the number below 0
minus-written : (bs : List ℕ) (n : ℕ) → IsPositive bs n → n ≤ 2 ^ 63 → 45 ∷ bs ≡ signed_decimal (neg_ℤ (pos n))
minus-written bs zero h few = absurd (omega (arith, h.above))
minus-written bs (suc n) h few = ap (λ ds. 45 ∷ ds) (sym (h.written (omega arith)))

-- this number has 64 bits
minus-few : (bs : List ℕ) (n : ℕ) → IsPositive bs n → n ≤ 2 ^ 63 → Has64Bits (neg_ℤ (pos n))
minus-few bs zero h few = absurd (omega (arith, h.above))
minus-few bs (suc n) h few = omega arith

-- what is written of an integer, which has 64 bits
abbrev IsWritten : List ℕ → ℤ → Type 0
IsWritten token v = (token ≡ signed_decimal v) × Has64Bits v

-- a `-` and digits that are read are what is written
minus : (bs : List ℕ) (v : ℤ) → IsUpTo (positive_of bs) (2 ^ 63) (λ n. neg_ℤ (pos n)) v → IsWritten (45 ∷ bs) v
minus bs v h =
    let positive = positive_of-IsPositive bs h.number h.read in
    subst (IsWritten (45 ∷ bs)) h.same
    (minus-written bs h.number positive h.within, minus-few bs h.number positive h.within)

-- so are digits alone
plain : (bs : List ℕ) (v : ℤ) → IsUpTo (positive_of bs) (2 ^ 63 - 1) pos v → IsWritten bs v
plain bs v h =
    let positive = positive_of-IsPositive bs h.number h.read in
    subst (IsWritten bs) h.same (sym (positive.written (omega (arith, h.within))), omega (arith, h.within))

-- so is `0`
zero-written : (token : List ℕ) → token ≡ codes "0" → IsWritten token (pos 0)
zero-written token e = (e ∙ sym (decimal_digit 0 (omega arith)), omega arith)

-- a number that is read as 0 is 0
given_zero : (v : ℤ) → Some (pos 0) ≡ Some v → pos 0 ≡ v
given_zero v e = cc

-- a token that is an integer is what is written of it, and the integer has 64 bits
pub integers_are_written : IntegersAreWritten
integers_are_written [] v e = cc
integers_are_written (b ∷ bs) v e =
    let negative = option_and_then (λ n. Some (neg_ℤ (pos n))) (option_and_then (at_most (2 ^ 63)) (positive_of bs)) in
    let digits = option_and_then (λ n. Some (pos n)) (option_and_then (at_most (2 ^ 63 - 1)) (positive_of (b ∷ bs))) in
    elim (true_or_false (eqb b 45)) [
      | inl t ↦
          let is_minus : 45 ≡ b = grind (arith, nat_tests) in
          subst (λ c. IsWritten (c ∷ bs) v) is_minus (minus bs v (up_to (positive_of bs) (2 ^ 63)
          (λ n. neg_ℤ (pos n)) v
          (sym (ap (λ t. cond t negative (cond (bytes_eq (b ∷ bs) (codes "0")) (Some (pos 0)) digits)) t) ∙ e)))
      | inr t ↦
          let rest : cond (bytes_eq (b ∷ bs) (codes "0")) (Some (pos 0)) digits ≡ Some v =
          sym (ap (λ t. cond t negative (cond (bytes_eq (b ∷ bs) (codes "0")) (Some (pos 0)) digits)) t) ∙ e in
          elim (bytes_tell (b ∷ bs) (codes "0")) [
            | inl z ↦
                subst (IsWritten (b ∷ bs)) (given_zero v (sym (ap (λ t. cond t (Some (pos 0)) digits) z.0)
                ∙ rest)) (zero-written (b ∷ bs) z.1)
            | inr z ↦
                plain (b ∷ bs) v
                (up_to (positive_of (b ∷ bs)) (2 ^ 63 - 1) pos v
                (sym (ap (λ t. cond t (Some (pos 0)) digits) z.0) ∙ rest))
          ]
    ]
