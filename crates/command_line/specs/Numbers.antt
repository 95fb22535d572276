-- The numbers of a command line.
use Rattle.std.specs.Prelude.{ℕ, ◌&&◌, List, length, Option, Some, None, option_and_then, nat_lt, nat_le}
use Rattle.std.specs.Prelude.{if◌then◌else◌}
use Rattle.std.specs.List.{list_all}
use Rattle.std.specs.Char.{is_ascii_digit}
use Rattle.std.specs.Str.Parse.{digits_value}
use Rattle.command_line.specs.declared.number.Limits.{Limits}

-- The number of a text of one decimal digit or more. Zeros may lead; a sign, or any other byte, makes it no number.
abbrev pub decimal_value : List ℕ → Option ℕ
decimal_value text =
    if list_all is_ascii_digit text && nat_lt 0 (length text) then Some (digits_value 10 text) else None

-- the number, where it is from the least to the most
abbrev pub within : ℕ → ℕ → ℕ → Option ℕ
within least most number = if nat_le least number && nat_le number most then Some number else None

-- the number of a text, from the least to the most
abbrev pub number_in : ℕ → ℕ → List ℕ → Option ℕ
number_in least most text = option_and_then (within least most) (decimal_value text)

-- the number of an option: of its text, or the default where it has none
abbrev pub number_or_default : Limits → Option (List ℕ) → Option ℕ
number_or_default limits None = Some limits.default
number_or_default limits (Some text) = number_in limits.least limits.most text
