-- The codes of the odd values.
use Rattle.std.specs.Prelude.{ℕ}

-- the value `undefined`
abbrev pub undefined_code : ℕ
undefined_code = 0

-- a place that holds nothing
abbrev pub hole_code : ℕ
hole_code = 1

-- in a root word: the variable is bound to nothing
abbrev pub unbound_code : ℕ
unbound_code = 2

-- in a root word: the variable's second word is the integer
abbrev pub wide_code : ℕ
wide_code = 3
