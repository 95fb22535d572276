-- A plain cell of one field, which may be raw, gets a tagged one.
use Rattle.std.proofs.Common.{◌≡◌, ◌+◌, ◌⊎◌, ◌==◌, inl, inr, ℕ, List, [], ◌∷◌, Contains}
use Rattle.std.proofs.Common.{IsTrue, Option, Some, slice_get, slice_index, refl, ap, arith, eqb-true}
use Rattle.std.specs.Option.{option_and_then}
use Rattle.std.proofs.lemmas.Bool.{or_cases}
use Rattle.std.proofs.lemmas.List.Elements.{All-cons, All-nil}
use Rattle.tagged_word.specs.declared.header.Header.{Header}
use Rattle.tagged_word.specs.declared.layout.Kind.TheVariants as kind
use Rattle.tagged_word.specs.declared.layout.LayoutWord.{LayoutWord}
use Rattle.tagged_word.specs.Readings.{layout_in}
use Rattle.mark_world.specs.declared.laid.Laid.{Laid}
use Rattle.mark_world.specs.declared.views.MainView.{MainView}
use Rattle.mark_world.specs.Pages.{OfTarget}
use Rattle.mark_world.specs.Conditions.{AreSureAfter}
use Rattle.mark_world.specs.Safety.{IsSafe, IsSafeChange, laid_by, laid_in}
use Rattle.table_tests.specs.Grids.{is_plain_head}

-- the two headers
abbrev header_of : ℕ → Header
header_of shape = record { shape = shape; object = 0 }

-- the layout of one field, with a mask that says whether it is raw
abbrev one_field : ℕ → LayoutWord
one_field raw = record { kind = kind.Plain; cap = 1; used = 1; raw = raw }

-- what the two headers are laid by
abbrev one_raw : Laid
one_raw = record { header = header_of 8; layout = one_field 1 }

-- by the second header the field is tagged
abbrev none_raw : Laid
none_raw = record { header = header_of 9; layout = one_field 0 }

-- the first header is laid so
laid_one : (layouts : List ℕ) → slice_get layouts 8 ≡ Some 4369 → laid_in layouts 34 ≡ Some one_raw
laid_one layouts at = ap (λ (o : Option ℕ). laid_by (header_of 8) (option_and_then layout_in o)) at

-- and so is the second
laid_none : (layouts : List ℕ) → slice_get layouts 9 ≡ Some 273 → laid_in layouts 38 ≡ Some none_raw
laid_none layouts at = ap (λ (o : Option ℕ). laid_by (header_of 9) (option_and_then layout_in o)) at

-- the offsets of the tagged slots where the field is raw
abbrev two : List ℕ
two = 1 ∷ 2 ∷ []

-- and where it is tagged
abbrev three : List ℕ
three = 1 ∷ 2 ∷ 3 ∷ []

-- each of the offsets is among them
one_in : Contains three 1
one_in = (0, omega arith, refl)

-- the second one is
two_in : Contains three 2
two_in = (1, omega arith, refl)

-- and the third one
three_in : Contains three 3
three_in = (2, omega arith, refl)

-- a header of the two is one or the other
either_head : (word : ℕ) → IsTrue (is_plain_head word) → (word ≡ 34) ⊎ (word ≡ 38)
either_head word is = elim (or_cases (word == 34) (word == 38) is) [
  | inl first ↦ inl (eqb-true word 34 first)
  | inr second ↦ inr (eqb-true word 38 second)
]

-- the change from the first to the second is safe
change_one : IsSafeChange one_raw none_raw
change_one = record {
  old_plain = refl;
  new_plain = refl;
  one_object = refl;
  one_cap = refl;
  tagged = All-cons (Contains three) 1 (2 ∷ []) one_in
      (All-cons (Contains three) 2 [] two_in (All-nil (Contains three)));
}

-- and so is none
change_none : IsSafeChange none_raw none_raw
change_none = record {
  old_plain = refl;
  new_plain = refl;
  one_object = refl;
  one_cap = refl;
  tagged = All-cons (Contains three) 1 (2 ∷ 3 ∷ []) one_in
      (All-cons (Contains three) 2 (3 ∷ []) two_in
      (All-cons (Contains three) 3 [] three_in (All-nil (Contains three))));
}

module _ (layouts : List ℕ) (first : slice_get layouts 8 ≡ Some 4369) (second : slice_get layouts 9 ≡ Some 273) where
  -- the change from either header to the second is safe
  pub is_safe : (word : ℕ) → IsTrue (is_plain_head word) → IsSafe layouts word 38
  is_safe word is = elim (either_head word is) [
    | inl at ↦ rw (at, laid_one layouts first, laid_none layouts second) change_one
    | inr at ↦ rw (at, laid_none layouts second) change_none
  ]

  -- each slot that is tagged then was tagged, or has a target that the mutator is sure of
  pub are_sure : (old : ℕ) (words : List ℕ) (main : MainView) (at : ℕ)
      → IsTrue (is_plain_head (slice_index words at))
      → OfTarget old (slice_index words (at + 3)) (λ to. Contains main.sure to)
      → AreSureAfter old words layouts main at 38
  are_sure old words main at is sure =
      let Each : List ℕ → ℕ → Type 0 = λ before offset.
      Contains before offset ⊎ OfTarget old (slice_index words (at + offset)) (λ to. Contains main.sure to) in
      elim (either_head (slice_index words at) is) [
        | inl head ↦ rw (head, laid_one layouts first, laid_none layouts second)
            (All-cons (Each two) 1 (2 ∷ 3 ∷ []) (inl (0, omega arith, refl))
            (All-cons (Each two) 2 (3 ∷ []) (inl (1, omega arith, refl))
            (All-cons (Each two) 3 [] (inr sure) (All-nil (Each two)))))
        | inr head ↦ rw (head, laid_none layouts second)
            (All-cons (Each three) 1 (2 ∷ 3 ∷ []) (inl (0, omega arith, refl))
            (All-cons (Each three) 2 (3 ∷ []) (inl (1, omega arith, refl))
            (All-cons (Each three) 3 [] (inr sure) (All-nil (Each three)))))
      ]
