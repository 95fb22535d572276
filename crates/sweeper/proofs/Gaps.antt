-- The gaps that a sweep has made: which addresses are in them, and that words and layouts beside them stay.
use Rattle.std.proofs.Common.{◌≡◌, ℕ, ◌+◌, ◌≤◌, ◌<◌, ◌⊎◌, inl, inr, List, [], ◌∷◌, slice_get, sym, ◌∙◌, subst, arith}
use Rattle.std.proofs.lemmas.Bool.{cases_lt}
use Rattle.tagged_word.proofs.Members.{first_in, rest_in, in_cases}
use Rattle.page_space.specs.Extents.{roots_start, layouts_start}
use Rattle.page_space.proofs.Starts.{layouts_start_is}
use Rattle.heap_model.specs.Heaps.{Heap}
use Rattle.heap_model.specs.Wholeness.{HasSizes}
use Rattle.heap_model.specs.Changes.{Patch, IsPatched}
use Rattle.heap_model.proofs.BoundHeaps.{none_in}
use Rattle.heap_model.proofs.LayoutsStay.{SayLayouts}
use Rattle.sweeper.specs.Sweeping.{IsInGap, IsSweptTo}

-- an address is in a range, or it is not
pub range_cases : (from to at : ℕ) → ((from ≤ at) × (at < to)) ⊎ (from ≤ at → at < to → ⊥)
range_cases from to at = elim (cases_lt at from) [
  | inl before ↦ inr (λ above below. omega (arith, before, above))
  | inr above ↦ elim (cases_lt at to) [
    | inl below ↦ inl (above, below)
    | inr behind ↦ inr (λ from_there below. omega (arith, behind, below))
  ]
]

-- no address is in none of them
pub in_no_gap : (at : ℕ) → IsInGap [] at → ⊥
in_no_gap at inside = none_in inside.gap inside.among

-- what is in one of some gaps is in one of more
pub in_more : {gaps : List Patch} {at : ℕ} (gap : Patch) → IsInGap gaps at → IsInGap (gap ∷ gaps) at
in_more {gaps} gap inside =
    record { gap = inside.gap; among = rest_in gap gaps inside.gap inside.among; patched = inside.patched }

-- what the first has is in one
pub in_first : {at : ℕ} (gap : Patch) (gaps : List Patch) → IsPatched at gap → IsInGap (gap ∷ gaps) at
in_first gap gaps patched = record { gap = gap; among = first_in gap gaps; patched = patched }

-- An address of one of some gaps is one of the first, or of the others.
pub gap_cases : {at : ℕ} (gap : Patch) (gaps : List Patch) → IsInGap (gap ∷ gaps) at
    → IsPatched at gap ⊎ IsInGap gaps at
gap_cases {at} gap gaps inside = elim (in_cases gap gaps inside.gap inside.among) [
  | inl same ↦ inl (subst (IsPatched at) (sym same) inside.patched)
  | inr later ↦ inr (record { gap = inside.gap; among = later; patched = inside.patched })
]

module _ {heap : Heap} {words marked : List ℕ} {gaps : List Patch} {to : ℕ}
    (swept : IsSweptTo heap words marked gaps to) where
  -- an address from which on nothing was swept is in no gap
  pub ahead_is_no_gap : (at : ℕ) → to ≤ at → IsInGap gaps at → ⊥
  ahead_is_no_gap at ahead inside =
      omega (arith, ahead, inside.patched.below, swept.below inside.gap inside.among)

  -- so the word there stays
  pub ahead_stays : (at : ℕ) → to ≤ at → slice_get words at ≡ slice_get heap.words at
  ahead_stays at ahead = swept.kept at (ahead_is_no_gap at ahead)

  -- layout words stay, since cells are before the roots
  pub layouts_say : to ≤ roots_start heap.space → HasSizes heap → SayLayouts heap.space words heap.paths
  layouts_say within sized shape below =
      ahead_stays (layouts_start heap.space + shape) (omega (arith, within, layouts_start_is heap.space))
      ∙ sized.layouts shape below
