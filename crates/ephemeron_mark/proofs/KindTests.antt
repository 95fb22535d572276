-- What a test of a kind tells, and which cells are noted.
use Rattle.std.proofs.Common.{◌≡◌, ℕ, List, Bool, true, false, not, rules, refl, sym}
use Rattle.std.proofs.lemmas.Bool.{false≢true}
use denote.Enum.Bare.{sameb, same_true, same_false}
use Rattle.tagged_word.specs.declared.layout.Kind.TheVariants as kind
use Rattle.tagged_word.specs.contracts.layout.Kind.{the_type}
use Rattle.heap_model.specs.Types.{Kind}
use Rattle.ephemeron_mark.specs.Progress.{noted}

-- a test that fails has its negation
not_so : (b : Bool) → true ≡ not b → b ≡ false
not_so true is = absurd (false≢true (sym is))
not_so false is = refl

-- and one that holds has not
just_so : (b : Bool) → false ≡ not b → b ≡ true
just_so true is = refl
just_so false is = absurd (false≢true is)

-- a kind that is not told to differ from another is that
pub is_kind : (k other : Kind) → false ≡ not (sameb the_type k other) → k ≡ other
is_kind k other told = same_true the_type (search rules) k other (just_so (sameb the_type k other) told)

-- and one that is told to differ is not
pub is_no_kind : (k other : Kind) → true ≡ not (sameb the_type k other) → k ≡ other → ⊥
is_no_kind k other told = same_false the_type k other (not_so (sameb the_type k other) told)

-- a cell of another kind is not noted
pub not_noted : (k : Kind) (maps : List ℕ) (at : ℕ) → (k ≡ kind.Weak → ⊥) → noted k maps at ≡ maps
not_noted kind.Weak maps at other = absurd (other refl)
not_noted _ maps at other = refl
