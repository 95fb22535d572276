-- Words of small integers, and what a command knows that finds the word of its value.
use Rattle.std.proofs.Common.{◌≡◌, ℤ, false, to_z, of_z, w64, SFits, Some, None, refl, sym, ◌∙◌, ap, subst}
use Rattle.std.specs.Prelude.{◌↔◌, Option, IfSome, IsNone, IsTrue}
use Rattle.std.proofs.lemmas.Bool.{true_from_ne_false}
use Rattle.std.proofs.lemmas.Int.{to_z-of_z}
use Rattle.tagged_word.specs.declared.word.Class.TheVariants.{Small}
use Rattle.tagged_word.specs.Words.{small, bits_of}
use Rattle.heap_model.specs.Types.{Word, Value}
use Rattle.heap_model.specs.Showing.{ShowsHeld}
use Rattle.object_graph.specs.declared.value.Value.TheVariants.{Int}
use Rattle.object_graph.specs.Graphs.{Graph}
use Rattle.handle_roots.specs.declared.held.Held.TheVariants as held
use Rattle.handle_roots.specs.declared.given.Given.TheVariants.{Word as GivenWord}
use Rattle.handle_roots.specs.Givens.{IsGivenFor}
use Rattle.handle_roots.specs.Roots.{first_of}
use Rattle.write_barrier.specs.MutatorState.{Mutator}
use Rattle.mutator.specs.Reading.{FindsGiven, IsSmallWord}

-- what was made of an integer is its word, if it is a small one; else nothing was made
abbrev MadeWord : ℤ → Option Word → Type 0
MadeWord v made = IfSome made (λ word. word.0 ≡ bits_of (Small v)) × (IsNone made ↔ (small v ≡ false))

-- the word of a small integer gives it
small_gives : (v : ℤ) (word : Word) → SFits w64 v → word.0 ≡ bits_of (Small v) → IsTrue (small v)
    → IsGivenFor (GivenWord word) (held.Int v)
small_gives v word fits is few = record { fits = fits; is = (is ∙ ap (λ b. first_of b v) (sym few), few) }

-- so an integer that has a word is a small one with that word
word_made : (v : ℤ) (made : Option Word) → SFits w64 v → MadeWord v made → IfSome made (IsSmallWord (Some (Int v)))
word_made v None fits is = tt
word_made v (Some word) fits is =
    let few : IsTrue (small v) = true_from_ne_false (small v) (λ large. let none = is.1.1 large in absurd (cc)) in
    record { v = v; small = few; gives = small_gives v word fits is.0 few; is = refl }

-- so has one of 64 bits, told by these
pub integer_word : (v : ℤ) (made : Option Word) → SFits w64 v → MadeWord (to_z w64 (of_z w64 v)) made
    → IfSome made (IsSmallWord (Some (Int v)))
integer_word v made fits is = word_made v made fits (subst (λ n. MadeWord n made) (to_z-of_z w64 v fits) is)

-- what has such a word is given by it
pub small_given : {main : Mutator} {graph : Graph} {sought : Option Value} {word : Word} → IsSmallWord sought word
    → FindsGiven main graph sought (Some (GivenWord word))
small_given found = (
  held.Int found.v,
  found.gives,
  (
    Int found.v,
    found.is,
    record { is = record { shows = ShowsHeld.integer found.v; reached = tt }; fits = found.gives.fits },
  ),
)
