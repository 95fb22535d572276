-- Integers as they are written, and the words of the commands.
use Rattle.std.specs.Prelude.{◌≡◌, ℕ, ◌<◌, ◌≤◌, ◌^◌, List, Some, ℤ, pos, negsuc}
use Rattle.std.specs.Fmt.{signed_decimal}
use Rattle.script_text.specs.declared.table.Keyword.{Keyword}
use Rattle.script_text.specs.Table.{keyword_text, since, keywords_of, keyword_among}
use Rattle.script_text.specs.Tokens.{integer_of}

-- the integer has 64 bits
abbrev pub Has64Bits : ℤ → Type 0
Has64Bits (pos n) = n < 2 ^ 63
Has64Bits (negsuc n) = n < 2 ^ 63

-- what is written of an integer of 64 bits is read as it
abbrev pub IntegersAreRead : Type 0
IntegersAreRead = (v : ℤ) → Has64Bits v → integer_of (signed_decimal v) ≡ Some v

-- a token that is an integer is what is written of it, and the integer has 64 bits
abbrev pub IntegersAreWritten : Type 0
IntegersAreWritten = (token : List ℕ) (v : ℤ) → integer_of token ≡ Some v → (token ≡ signed_decimal v) × Has64Bits v

-- the word of a command is found as it in each version that has the command
abbrev pub KeywordsAreFound : Type 0
KeywordsAreFound =
    (version : ℕ) (k : Keyword) → since k ≤ version → keyword_among (keywords_of version) (keyword_text k) ≡ Some k

-- a token that is found as a command is its word, and the version has the command
abbrev pub KeywordsAreKnown : Type 0
KeywordsAreKnown =
    (version : ℕ) (token : List ℕ) (k : Keyword) → keyword_among (keywords_of version) token ≡ Some k
    → (token ≡ keyword_text k) × (since k ≤ version)
