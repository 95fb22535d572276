-- The values that fields are to have.
use Rattle.std.specs.Prelude.{ℤ, IsTrue}
use Rattle.tagged_word.specs.Words.{small}
use Rattle.handle_roots.specs.declared.given.Given.{Given}
use Rattle.handle_roots.specs.declared.given.Given.TheVariants.{Word}
use Rattle.handle_roots.specs.declared.held.Held.TheVariants as held
use Rattle.handle_roots.specs.Givens.{IsGivenFor}
use Rattle.shape_change.specs.declared.field_value.FieldValue.{FieldValue}
use Rattle.shape_change.specs.declared.field_value.FieldValue.TheVariants.{Small, Any}

-- the value, by its word where a slot has one for it
abbrev pub given_of : FieldValue → Given
given_of (Small word) = Word word
given_of (Any given) = given

-- what is said to be a small integer's word is one
abbrev pub IsFieldValue : FieldValue → Type 0
IsFieldValue (Small word) = (v : ℤ) × IsTrue (small v) × IsGivenFor (Word word) (held.Int v)
IsFieldValue (Any given) = Unit {0}
