-- The header that a cell begins with.
use Rattle.std.specs.Prelude.{ℕ, ◌+◌, ◌*◌, ◌<◌, ◌^◌}
use Rattle.tagged_word.specs.declared.header.Header.{Header}

-- what a header may carry: a shape of 16 bits and an object's number
pub record IsHeader (header : Header) : Type 0 where
  pub shape : header.shape < 2 ^ 16
  pub object : header.object < 2 ^ 32

-- bits 0 and 1 are 10, bits 2 to 17 the shape, bits 18 to 31 zero, bits 32 to 63 the object's number
abbrev pub header_bits : Header → ℕ
header_bits header = 4294967296 * header.object + (4 * header.shape + 2)
