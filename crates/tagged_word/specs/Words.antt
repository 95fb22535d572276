-- The classes of a word, and the bits of each.
use Rattle.std.specs.Prelude.{ℕ, ◌+◌, ◌*◌, ◌<◌, ◌^◌, Bool, ◌&&◌, IsTrue, ℤ, pos, negsuc, ◌+ℤ◌}
use Rattle.std.specs.Prelude.{int_le}
use Rattle.std.specs.Int.{cast_unsigned, w64}
use Rattle.tagged_word.specs.declared.word.Class.{Class}
use Rattle.tagged_word.specs.declared.word.Class.TheVariants.{Small, Ref, Odd}

-- whether the integer lies from -1073741824 to 1073741823
abbrev pub small : ℤ → Bool
small v = int_le (negsuc 1073741823) v && int_le v (pos 1073741823)

-- what a class may carry: a small integer, or 32 bits
abbrev pub IsClass : Class → Type 0
IsClass (Small v) = IsTrue (small v)
IsClass (Ref address) = address < 2 ^ 32
IsClass (Odd code) = code < 2 ^ 32

-- the bits of a class: twice the integer in two's complement, or 32 bits over 01 or 11
abbrev pub bits_of : Class → ℕ
bits_of (Small v) = cast_unsigned w64 (v +ℤ v)
bits_of (Ref address) = 4 * address + 1
bits_of (Odd code) = 4 * code + 3
