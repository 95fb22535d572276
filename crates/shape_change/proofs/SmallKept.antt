-- The word of a small integer may stand in the slot of each field that is no wide one.
use Rattle.std.proofs.Common.{◌≡◌, ℤ, IsTrue, refl, sym, ◌∙◌, ap, arith, rules}
use Rattle.std.specs.Prelude.{pos, negsuc}
use Rattle.tagged_word.specs.Words.{small}
use Rattle.heap_model.specs.Types.{Rep, Held, Word}
use Rattle.heap_model.specs.Slots.{small_word, undefined_word}
use Rattle.heap_model.proofs.WordClasses.{small_refers_not}
use Rattle.object_graph.specs.declared.value.Rep.TheVariants as rep
use Rattle.handle_roots.specs.declared.held.Held.TheVariants as held
use Rattle.handle_roots.specs.declared.given.Given.TheVariants.{Word as GivenWord}
use Rattle.handle_roots.specs.Givens.{IsGivenFor}
use Rattle.handle_roots.specs.Roots.{first_of}
use Rattle.shape_change.specs.Fillings.{KeepsTagged}

-- the word of a small integer is not that of `undefined`
small_not_undefined : (v : ℤ) → small_word v ≡ undefined_word → ⊥
small_not_undefined (pos n) same = omega arith
small_not_undefined (negsuc n) same = omega arith

-- what the word of a small integer gives keeps the representation of a field that is no wide one, and that word stands
-- in its slot
pub small_keeps : (was : Rep) (known : Held) (word : Word) (v : ℤ) → (was ≡ rep.Wide → ⊥) → IsTrue (small v)
    → IsGivenFor (GivenWord word) (held.Int v) → IsGivenFor (GivenWord word) known → KeepsTagged was known word
small_keeps rep.Wide known word v tagged is of_small gives = absurd (tagged refl)
small_keeps was held.Unbound word v tagged is of_small gives = absurd (cc)
small_keeps was (held.Int u) word v tagged is of_small gives = search rules
small_keeps rep.Tagged held.Undefined word v tagged is of_small gives = search rules
small_keeps rep.Tagged (held.Ref at) word v tagged is of_small gives = search rules
small_keeps rep.Small held.Undefined word v tagged is of_small gives =
    absurd (small_not_undefined v (sym (of_small.is.0 ∙ ap (λ b. first_of b v) is) ∙ gives.is.0))
small_keeps rep.Small (held.Ref at) word v tagged is of_small gives =
    absurd (small_refers_not v at (sym (of_small.is.0 ∙ ap (λ b. first_of b v) is) ∙ gives.is.0))

-- what any word gives keeps the representation of a tagged field, and that word stands in its slot
pub tagged_keeps : (known : Held) (word : Word) → IsGivenFor (GivenWord word) known → KeepsTagged rep.Tagged known word
tagged_keeps held.Unbound word gives = absurd (cc)
tagged_keeps (held.Int v) word gives = search rules
tagged_keeps held.Undefined word gives = search rules
tagged_keeps (held.Ref at) word gives = search rules
