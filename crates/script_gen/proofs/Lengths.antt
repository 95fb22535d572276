-- How long the lists of a generated script get: longer by at most one with each form, and empty anew every 256 forms.
use Rattle.std.proofs.Common.{◌≡◌, ℕ, zero, suc, ◌+◌, ◌-◌, ◌%◌, ◌<◌, ◌≤◌, Bool, true, false, cond, nat_lt, eqb}
use Rattle.std.proofs.Common.{not, ◌&&◌, List, [], ◌∷◌, get_or, slice_set, refl, subst, sym, arith}
use Rattle.std.proofs.Math.Nat.{mod-lt}
use Rattle.std.proofs.lemmas.Bool.{cond_both}
use Rattle.std.proofs.lemmas.Bool.Decides.{nat_tests}
use Rattle.script_gen.specs.declared.draws.Kept.{Kept}
use Rattle.script_gen.specs.Draws.{next, drawn}
use Rattle.script_gen.specs.Forms.{Form, with_draw, list_form, plain_form, form_of, after_form}
use Rattle.script_gen.specs.Generated.{no_lengths, kept_before}

-- no list is longer than this
abbrev pub AreShort : ℕ → List ℕ → Type 0
AreShort most lengths = (list : ℕ) → get_or lengths list 0 ≤ most

-- a number that is drawn is below its bound
pub drawn-lt : (k state : ℕ) → 0 < k → drawn k state < k
unfolding drawn
drawn-lt k state h = mod-lt _ h

-- a list gets a length that is short
AreShort-set : (most : ℕ) (lengths : List ℕ) (list length' : ℕ) → length' ≤ most → AreShort most lengths
    → AreShort most (slice_set lengths list length')
AreShort-set most [] list length' le h k = h k
AreShort-set most (x ∷ xs) zero length' le h zero = le
AreShort-set most (x ∷ xs) zero length' le h (suc k) = h (suc k)
AreShort-set most (x ∷ xs) (suc list) length' le h zero = h zero
AreShort-set most (x ∷ xs) (suc list) length' le h (suc k) =
    AreShort-set most xs list length' le (λ j. h (suc j)) k

-- what is short is short for more
AreShort-more : (most : ℕ) (lengths : List ℕ) → AreShort most lengths → AreShort (suc most) lengths
AreShort-more most lengths h k = omega (arith, h k)

-- after the form the lists are short
abbrev LeavesShort : ℕ → Form → Type 0
LeavesShort most form = AreShort most form.kept.lengths

-- a form of a list lets one list grow, by one
list_form-LeavesShort : (most first list length' : ℕ) (kept : Kept) → length' ≤ most → AreShort most kept.lengths
    → LeavesShort (suc most) (list_form first list length' kept)
list_form-LeavesShort most first list length' kept le h =
    let P = LeavesShort (suc most) in
    let more = AreShort-more most kept.lengths h in
    let n = drawn (length' + 1) (next kept.state) in
    let below : n < length' + 1 = drawn-lt (length' + 1) (next kept.state) (omega arith) in
    let pushed = AreShort-set (suc most) kept.lengths list (length' + 1) (omega arith) more in
    let shifted = AreShort-set (suc most) kept.lengths list (length' - n) (omega arith) more in
    let cut = AreShort-set (suc most) kept.lengths list n (omega arith) more in
    cond_both (nat_lt first 35) _ _ P (λ e. pushed)
    (λ e. cond_both (nat_lt first 39) _ _ P (λ e. cond_both (eqb length' 0) _ _ P (λ e. pushed) (λ e. more))
    (λ e. cond_both (nat_lt first 43) _ _ P (λ e. cond_both (eqb length' 0) _ _ P (λ e. more) (λ e. more))
    (λ e. cond_both (nat_lt first 46) _ _ P (λ e. shifted) (λ e. cut))))

-- a form of no list leaves the lists as they are
plain_form-kept : (first : ℕ) (kept : Kept) → (plain_form first kept).kept ≡ kept
plain_form-kept first kept =
    let P = λ (form : Form). form.kept ≡ kept in
    cond_both (nat_lt first 3) _ _ P (λ e. refl)
    (λ e. cond_both (nat_lt first 6) _ _ P (λ e. refl)
    (λ e. cond_both (nat_lt first 18) _ _ P (λ e. refl)
    (λ e. cond_both (nat_lt first 23) _ _ P (λ e. refl)
    (λ e. cond_both (nat_lt first 27) _ _ P (λ e. refl)
    (λ e. cond_both (nat_lt first 54) _ _ P (λ e. refl)
    (λ e. cond_both (nat_lt first 58) _ _ P (λ e. refl)
    (λ e. cond_both (eqb first 58) _ _ P (λ e. refl)
    (λ e. cond_both (eqb first 59) _ _ P (λ e. refl)
    (λ e. cond_both (eqb first 60) _ _ P (λ e. refl)
    (λ e. cond_both (nat_lt first 63) _ _ P (λ e. refl) (λ e. refl)))))))))))

-- a form lets each list grow by at most one
pub form_of-LeavesShort : (most : ℕ) (kept : Kept) → AreShort most kept.lengths
    → AreShort (suc most) (after_form (form_of kept)).lengths
form_of-LeavesShort most kept h =
    let first = drawn 64 (next kept.state) in
    let ready = with_draw kept in
    let list = drawn 4 (next ready.state) in
    cond_both (not (nat_lt first 27) && nat_lt first 49) _ _ (LeavesShort (suc most))
    (λ e. list_form-LeavesShort most first list (get_or ready.lengths list 0) (with_draw ready) (h list) h)
    (λ e. subst (λ k. AreShort (suc most) k.lengths) (sym (plain_form-kept first ready))
    (AreShort-more most kept.lengths h))

-- before the form with this number no list is longer than as many forms as came since the lists were made anew
abbrev pub AreShortBefore : ℕ → Kept → Type 0
AreShortBefore number kept = AreShort (number % 256) (kept_before number kept).lengths

-- new lists are empty
AreShort-no_lengths : (most : ℕ) → AreShort most no_lengths
AreShort-no_lengths most zero = omega arith
AreShort-no_lengths most (suc zero) = omega arith
AreShort-no_lengths most (suc (suc zero)) = omega arith
AreShort-no_lengths most (suc (suc (suc zero))) = omega arith
AreShort-no_lengths most (suc (suc (suc (suc k)))) = omega arith

-- lists that are made anew where the number is a multiple of 256 are short; else those are short that were so before
AreShort-before : (again : Bool) (most : ℕ) (kept : Kept) → (again ≡ false → AreShort most kept.lengths)
    → AreShort most (cond again (record kept { lengths = no_lengths }) kept).lengths
AreShort-before true most kept h = AreShort-no_lengths most
AreShort-before false most kept h = h refl

-- the lists are short before the first form
pub AreShortBefore-first : (kept : Kept) → AreShortBefore 0 kept
AreShortBefore-first kept = AreShort-no_lengths 0

-- so they are before the form after one
pub AreShortBefore-next : (number : ℕ) (kept : Kept) → AreShortBefore number kept
    → AreShortBefore (suc number) (after_form (form_of (kept_before number kept)))
AreShortBefore-next number kept h =
    let after = after_form (form_of (kept_before number kept)) in
    let grown = form_of-LeavesShort (number % 256) (kept_before number kept) h in
    AreShort-before (eqb (suc number % 256) 0) (suc number % 256) after
    (λ e. let goes : suc number % 256 ≡ suc (number % 256) = grind (arith, nat_tests) in
    subst (λ most. AreShort most after.lengths) (sym goes) grown)
