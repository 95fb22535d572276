-- What a token may be: a name or an integer.
use Rattle.std.specs.Prelude.{ℕ, ◌+◌, ◌*◌, ◌-◌, ◌^◌, Bool, false, not, ◌&&◌, ◌||◌, List, [], ◌∷◌}
use Rattle.std.specs.Prelude.{length, Option, Some, None, ℤ, pos, neg_ℤ, ◌==◌, nat_le, if◌then◌else◌}
use Rattle.std.specs.Prelude.{option_and_then, codes, bytes_eq}
use Rattle.std.specs.List.{list_all}
use Rattle.script_text.specs.Limits.{name_bytes_most}

-- a digit 0 to 9
abbrev pub is_digit : ℕ → Bool
is_digit b = nat_le 48 b && nat_le b 57

-- a letter A to Z or a to z, or `_`
abbrev pub is_name_start : ℕ → Bool
is_name_start b = (nat_le 65 b && nat_le b 90) || (nat_le 97 b && nat_le b 122) || (b == 95)

-- a letter, `_` or a digit
abbrev pub is_name_byte : ℕ → Bool
is_name_byte b = is_name_start b || is_digit b

-- the first byte is a letter or `_`
abbrev pub starts_as_name : List ℕ → Bool
starts_as_name [] = false
starts_as_name (b ∷ bs) = is_name_start b

-- 1 to 32 letters, digits and `_`, of which the first is no digit; `undefined` is no name
abbrev pub is_name : List ℕ → Bool
is_name token =
    starts_as_name token && list_all is_name_byte token && nat_le (length token) name_bytes_most && not
    (bytes_eq token (codes "undefined"))

-- the number that digits make after those of n; nothing where a byte is no digit
abbrev pub digits_after : ℕ → List ℕ → Option ℕ
digits_after n [] = Some n
digits_after n (b ∷ bs) = if is_digit b then digits_after (10 * n + (b - 48)) bs else None

-- digits of which the first is 1 to 9
abbrev pub positive_of : List ℕ → Option ℕ
positive_of [] = None
positive_of (b ∷ bs) = if b == 48 then None else digits_after 0 (b ∷ bs)

-- the number, where it is no more than this one
abbrev pub at_most : ℕ → ℕ → Option ℕ
at_most most n = if nat_le n most then Some n else None

-- an integer of 64 bits: `0`, or digits of which the first is 1 to 9, or `-` and such digits
abbrev pub integer_of : List ℕ → Option ℤ
integer_of [] = None
integer_of (b ∷ bs) =
    if b == 45 then option_and_then (λ n. Some (neg_ℤ (pos n))) (option_and_then (at_most (2 ^ 63)) (positive_of bs))
    else (if bytes_eq (b ∷ bs) (codes "0") then Some (pos 0)
    else option_and_then (λ n. Some (pos n)) (option_and_then (at_most (2 ^ 63 - 1)) (positive_of (b ∷ bs))))
