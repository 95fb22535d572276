-- What the first word of a variable tells without the second.
use Rattle.std.specs.Prelude.{ℕ, Bool, true, false, Option, Some, None, ℤ, ◌==◌, if◌then◌else◌}
use Rattle.tagged_word.specs.declared.word.Class.{Class}
use Rattle.tagged_word.specs.declared.word.Class.TheVariants.{Small, Ref as Reference, Odd}
use Rattle.tagged_word.specs.Words.{small}
use Rattle.tagged_word.specs.Odds.{undefined_code, unbound_code}
use Rattle.handle_roots.specs.declared.held.Held.{Held}
use Rattle.handle_roots.specs.declared.held.Held.TheVariants.{Unbound, Undefined, Int, Ref}

-- a small integer, and no other
abbrev pub decoded_integer : Bool → ℤ → Option Held
decoded_integer true v = Some (Int v)
decoded_integer false v = None

-- of what a variable holds the first word tells all but an integer that is not small
abbrev pub decoded : Held → Option Held
decoded (Int v) = decoded_integer (small v) v
decoded other = Some other

-- what a code of an odd value stands for in a first word
abbrev pub decoded_by_code : ℕ → Option Held
decoded_by_code code =
    if code == undefined_code then Some Undefined else (if code == unbound_code then Some Unbound else None)

-- what a class stands for in a first word
abbrev pub decoded_by : Class → Option Held
decoded_by (Small v) = Some (Int v)
decoded_by (Reference at) = Some (Ref at)
decoded_by (Odd code) = decoded_by_code code
