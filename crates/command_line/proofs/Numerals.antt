-- A text that `parse` does not read.
use Rattle.std.proofs.Common.{◌≡◌, ℕ, ◌<◌, ◌^◌, ◌&&◌, true, List, [], ◌∷◌, length, None, Some}
use Rattle.std.proofs.Common.{Result, Err, cond, nat_lt, refl}
use Rattle.std.proofs.Common.{subst, ap, sym, ◌∙◌, arith, rules, inl, inr, lt-ltb}
use Rattle.std.specs.Prelude.{option_and_then}
use Rattle.std.specs.List.{list_all}
use Rattle.std.specs.Char.{is_ascii_digit}
use Rattle.std.specs.Str.Parse.{ParsesUnsigned, digits_value}
use Rattle.std.proofs.lemmas.Bool.{cases_lt}
use Rattle.std.proofs.lemmas.Bool.Decides.{leb_tells}
use Rattle.std.proofs.lemmas.Str.Parse.{IsNumeralModel, numerals_by_value, parse_digits}
use Rattle.command_line.specs.Numbers.{number_in, within}

-- the digits of a text, as the definition says them
digits : IsNumeralModel (λ ds. list_all is_ascii_digit ds ≡ true) (digits_value 10)
digits = numerals_by_value _ (search rules)

-- a number past the most is not within the bounds
above_most : (least most number : ℕ) → most < number → within least most number ≡ None
above_most least most number above = grind (arith, leb_tells)

-- digits that `parse` does not read at so many bits are no number up to a most of these bits
pub unread_digits : {E : Type 0} (bits least most : ℕ) (text : List ℕ) (r : Result ℕ E) (e : E) → most < 2 ^ bits
    → list_all is_ascii_digit text ≡ true → ParsesUnsigned bits 10 text r → r ≡ Err e
    → None ≡ number_in least most text
unread_digits bits least most [] r e fits all reads is = refl
unread_digits {E} bits least most (b ∷ bs) r e fits all reads is =
    let number : ℕ = digits_value 10 (b ∷ bs) in
    let failed : Result ℕ E = Err e in
    let unread : ParsesUnsigned bits 10 (b ∷ bs) failed = subst (ParsesUnsigned bits 10 (b ∷ bs)) is reads in
    let no = parse_digits digits bits (b ∷ bs) failed unread all in
    let above : most < number = elim (cases_lt number (2 ^ bits)) [
      | inl small ↦ absurd (no (omega arith, small))
      | inr large ↦ omega arith
    ] in
    sym (ap (λ t. option_and_then (within least most) (cond (t && nat_lt 0 (length (b ∷ bs))) (Some number) None)) all
    ∙ ap (λ t. option_and_then (within least most) (cond t (Some number) None))
    (lt-ltb 0 (length (b ∷ bs)) (omega arith))
    ∙ above_most least most number above)
