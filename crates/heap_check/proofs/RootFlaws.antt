-- Flaws of root words.
use Rattle.std.proofs.Common.{◌≡◌, ◌≢◌, ℕ, ◌+◌, ◌≤◌, ◌<◌, Bool, true, false, Some, slice_get, inl, inr, refl, sym}
use Rattle.std.proofs.Common.{◌∙◌, subst, arith}
use Rattle.std.proofs.lemmas.Option.{same_Some}
use Rattle.std.proofs.lemmas.Bool.{cases_lt, false≢true}
use Rattle.std.specs.Prelude.{ℤ, pos, negsuc}
use Rattle.heap_model.specs.Types.{Class, Held}
use Rattle.tagged_word.specs.declared.word.Class.TheVariants.{Small, Ref, Odd}
use Rattle.tagged_word.specs.Words.{small, bits_of}
use Rattle.tagged_word.specs.Odds.{wide_code}
use Rattle.handle_roots.specs.declared.held.Held.TheVariants as held
use Rattle.handle_roots.specs.Roots.{root_at, first_word, second_word, first_of, second_of}
use Rattle.heap_model.specs.Heaps.{Heap}
use Rattle.heap_model.specs.Wholeness.{HasRoot}
use Rattle.heap_check.specs.Roots.{IsRootOf, IsRootBy}
use Rattle.heap_check.proofs.RootReadings.{class_of_root}
use Rattle.heap_check.specs.declared.flaw.Flaw.{Flaw}
use Rattle.heap_check.specs.Firsts.{IsFirst}
use Rattle.heap_check.specs.Frames.{BreaksRoot, BreaksRoots, unbound_word}
use Rattle.heap_check.proofs.FirstBreaches.{breaks_there}

-- the first word of an integer that is not small does not stand beside 0
wide_class : (heap : Heap) (class : Class) → bits_of class ≡ bits_of (Odd wide_code) → IsRootBy heap class 0 → ⊥
wide_class heap (Small (pos n)) same by = omega (arith, same)
wide_class heap (Small (negsuc n)) same by = omega (arith, same)
wide_class heap (Ref at) same by = omega (arith, same)
wide_class heap (Odd code) same (inl (inl undefined, zero)) = omega (arith, same, undefined)
wide_class heap (Odd code) same (inl (inr unbound, zero)) = omega (arith, same, unbound)
wide_class heap (Odd code) same (inr (wide, large)) = false≢true (sym large)

-- so no variable has that word beside 0
wide_alone : (heap : Heap) (first : ℕ) → first ≡ bits_of (Odd wide_code) → IsRootOf heap first 0 → ⊥
wide_alone heap first wide alone =
    let known = class_of_root heap first 0 alone in
    wide_class heap known.class (sym known.bits ∙ wide) known.by

-- beside the first word of an integer that stands beside 0 stands 0, whether it is small or not
beside_int : (heap : Heap) (first second : ℕ) (v : ℤ) (is_small : Bool) → first ≡ first_of is_small v
    → second ≡ second_of is_small v → IsRootOf heap first 0 → second ≡ 0
beside_int heap first second v true one two alone = two
beside_int heap first second v false one two alone = absurd (wide_alone heap first one alone)

-- and beside that of all that a variable may hold
beside_held : (heap : Heap) (first second : ℕ) (of : Held) → first ≡ first_word of → second ≡ second_word of
    → IsRootOf heap first 0 → second ≡ 0
beside_held heap first second held.Unbound one two alone = two
beside_held heap first second held.Undefined one two alone = two
beside_held heap first second (held.Int v) one two alone = beside_int heap first second v (small v) one two alone
beside_held heap first second (held.Ref at) one two alone = two

-- a variable that holds something has no breach
pub sound_root : {heap : Heap} {variable at found wanted : ℕ} → HasRoot heap variable
    → BreaksRoot heap variable at found wanted → ⊥
sound_root root (BreaksRoot.first found second here beside alone both) = both (record {
  held = root.held;
  fits = root.holds.fits;
  is_first = same_Some _ _ (sym here ∙ root.holds.first);
  is_second = same_Some _ _ (sym beside ∙ root.holds.second);
  is = root.is;
})
sound_root {heap} root (BreaksRoot.second first found here beside alone more) =
    more (beside_held heap first found root.held (same_Some _ _ (sym here ∙ root.holds.first))
    (same_Some _ _ (sym beside ∙ root.holds.second)) alone)

-- a breach of a variable is at one of its two words
root_place : {heap : Heap} {variable at found wanted : ℕ} → BreaksRoot heap variable at found wanted
    → (root_at heap.space variable ≤ at) × (at ≤ root_at heap.space variable + 1)
root_place (BreaksRoot.first found second here beside alone both) = (omega arith, omega arith)
root_place (BreaksRoot.second first found here beside alone more) = (omega arith, omega arith)

-- at the second one where the first one stands for something beside 0
second_place : {heap : Heap} {variable at found wanted : ℕ} (one : ℕ)
    → slice_get heap.words (root_at heap.space variable) ≡ Some one → IsRootOf heap one 0
    → BreaksRoot heap variable at found wanted → root_at heap.space variable + 1 ≤ at
second_place {heap} one there stands (BreaksRoot.first found second here beside alone both) =
    absurd (alone (subst (λ (word : ℕ). IsRootOf heap word 0) (same_Some _ _ (sym there ∙ here)) stands))
second_place one there stands (BreaksRoot.second first found here beside alone more) = omega arith

-- the flaw of a first word that stands for nothing
pub root_first : (heap : Heap) (variable second : ℕ) (flaw : Flaw)
    → slice_get heap.words (root_at heap.space variable) ≡ Some flaw.found
    → slice_get heap.words (root_at heap.space variable + 1) ≡ Some second
    → (IsRootOf heap flaw.found 0 → ⊥) → (IsRootOf heap flaw.found second → ⊥)
    → flaw.at ≡ root_at heap.space variable → flaw.wanted ≡ unbound_word → IsFirst (BreaksRoot heap variable) flaw
root_first heap variable second flaw here beside alone both at wanted = record {
  breaks = breaks_there (BreaksRoot heap variable) (BreaksRoot.first flaw.found second here beside alone both) at refl
      wanted;
  first = λ place found asked breaks. omega (arith, at, (root_place breaks).0);
}

-- the flaw of a second word that is not 0
pub root_second : (heap : Heap) (variable first : ℕ) (flaw : Flaw)
    → slice_get heap.words (root_at heap.space variable) ≡ Some first
    → slice_get heap.words (root_at heap.space variable + 1) ≡ Some flaw.found
    → IsRootOf heap first 0 → flaw.found ≢ 0 → flaw.at ≡ root_at heap.space variable + 1 → flaw.wanted ≡ 0
    → IsFirst (BreaksRoot heap variable) flaw
root_second heap variable first flaw here beside alone more at wanted = record {
  breaks = breaks_there (BreaksRoot heap variable) (BreaksRoot.second first flaw.found here beside alone more) at refl
      wanted;
  first = λ place found asked breaks. omega (arith, at, second_place first here alone breaks);
}

-- a breach of some variable, by the variable
pub record RootBroken (heap : Heap) (at found wanted : ℕ) : Type 0 where
  pub variable : ℕ
  pub known : variable < heap.space.variables
  pub breaks : BreaksRoot heap variable at found wanted

-- each breach of root words is one of some variable
pub root_broken : {heap : Heap} {at found wanted : ℕ} → BreaksRoots heap at found wanted
    → RootBroken heap at found wanted
root_broken (BreaksRoots.root variable at found wanted known breaks) =
    record { variable = variable; known = known; breaks = breaks }

-- the flaw of a variable before which all hold something is the first of all
pub roots_first : (heap : Heap) (variable : ℕ) (flaw : Flaw) → variable < heap.space.variables
    → ((before : ℕ) → before < variable → HasRoot heap before)
    → IsFirst (BreaksRoot heap variable) flaw → IsFirst (BreaksRoots heap) flaw
roots_first heap variable flaw known sound one = record {
  breaks = BreaksRoots.root variable flaw.at flaw.found flaw.wanted known one.breaks;
  first = λ place found asked breaks.
      let other = root_broken breaks in
      elim (cases_lt other.variable variable) [
        | inl before ↦ absurd (sound_root (sound other.variable before) other.breaks)
        | inr from ↦ elim (cases_lt variable other.variable) [
          | inl behind ↦ omega (arith, behind, (root_place one.breaks).1, (root_place other.breaks).0)
          | inr to ↦
              let same : other.variable ≡ variable = omega arith in
              one.first place found asked
              (subst (λ (which : ℕ). BreaksRoot heap which place found asked) same other.breaks)
        ]
      ];
}
