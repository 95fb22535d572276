-- Digits that make more than the most there may be.
use Rattle.std.proofs.Common.{◌≡◌, ℕ, suc, ◌+◌, ◌-◌, ◌*◌, ◌<◌, true, false, cond, List, [], ◌∷◌}
use Rattle.std.proofs.Common.{length, drop, get_or, None, option_and_then, refl, sym, ap, ◌∙◌, drop-cons, arith}
use Rattle.std.proofs.lemmas.Bool.Decides.{nat_tests}
use Rattle.script_text.specs.Tokens.{is_digit, digits_after, at_most}

-- a number past the most is nothing
at_most-over : (most n : ℕ) → most < n → at_most most n ≡ None
at_most-over most n h = grind (arith, nat_tests)

-- digits never make less than what stands before them
pub digits_after-over : (most n : ℕ) (bs : List ℕ) → most < n
    → option_and_then (at_most most) (digits_after n bs) ≡ None
digits_after-over most n [] h = at_most-over most n h
digits_after-over most n (b ∷ bs) h =
    elim (is_digit b) as
    (λ v. option_and_then (at_most most) (cond v (digits_after (10 * n + (b - 48)) bs) None) ≡ None)
    [ true ↦ digits_after-over most (10 * n + (b - 48)) bs (omega arith) | false ↦ refl ]

-- one more digit makes more than the most
pub digits_after-full : (most n b : ℕ) (bs : List ℕ) → most < 10 * n + (b - 48)
    → option_and_then (at_most most) (digits_after n (b ∷ bs)) ≡ None
digits_after-full most n b bs h =
    elim (is_digit b) as
    (λ v. option_and_then (at_most most) (cond v (digits_after (10 * n + (b - 48)) bs) None) ≡ None)
    [ true ↦ digits_after-over most (10 * n + (b - 48)) bs h | false ↦ refl ]

-- after digits that make a number, one more digit makes more than the most
pub digits_after-stop : (most n i : ℕ) (digits : List ℕ) → i < length digits
    → digits_after n (drop i digits) ≡ digits_after 0 digits → most < 10 * n + (get_or digits i 0 - 48)
    → None ≡ option_and_then (at_most most) (digits_after 0 digits)
digits_after-stop most n i digits h e over =
    sym (ap (option_and_then (at_most most)) (sym e ∙ ap (digits_after n) (drop-cons digits i 0 h))
    ∙ digits_after-full most n (get_or digits i 0) (drop (suc i) digits) over)
