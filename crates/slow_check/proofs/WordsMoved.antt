-- Whether a word is another one moved, by what stands over its two lowest bits; and the words at a place, and of a
-- root.
use Rattle.std.proofs.Common.{◌≡◌, ℕ, ◌+◌, ◌/◌, ◌%◌, ◌↔◌, Bool, false, not, List, Option, Some, None, slice_get, nat_eq}
use Rattle.std.proofs.Common.{IsTrue, refl, sym, ◌∙◌, ap, subst, arith}
use Rattle.std.specs.Option.{option_eq}
use Rattle.std.proofs.lemmas.Bool.{eqb-true, eq-eqb, false≢true, not-false}
use Rattle.std.proofs.lemmas.Option.{same_Some}
use Rattle.handle_roots.specs.Roots.{root_at}
use Rattle.heap_model.specs.Heaps.{Heap}
use Rattle.heap_model.specs.Slots.{reference_word}
use Rattle.heap_moves.specs.Moved.{IsMovedWord, IsMovedRoot}
use Rattle.heap_moves.proofs.MovedWords.{referred}
use Rattle.slow_check.specs.MovedCells.{IsMovedThere}

-- a reference to what stays is moved where it has become one to where that stands
pub moved_where_it_leads : (to : ℕ → Option ℕ) (old new now : ℕ) → old % 4 ≡ 1 → to (old / 4) ≡ Some now
    → IsTrue (nat_eq new (reference_word now)) ↔ IsMovedWord to old new
moved_where_it_leads to old new now bits stays =
    let refers : old ≡ reference_word (old / 4) = omega (arith, bits) in (
      λ same. IsMovedWord.reference (old / 4) now refers stays (eqb-true new (reference_word now) same),
      λ moved.
          let leads = referred (old / 4) moved refers in
          let one : leads.now ≡ now = same_Some leads.now now (sym leads.stays ∙ stays) in
          eq-eqb new (reference_word now) (leads.refers ∙ ap reference_word one),
    )

-- a reference to what went is not moved
pub not_moved_to_none : (to : ℕ → Option ℕ) (old new : ℕ) → old % 4 ≡ 1 → to (old / 4) ≡ None → IsMovedWord to old new
    → ⊥
not_moved_to_none to old new bits went moved =
    let leads = referred (old / 4) moved (omega (arith, bits)) in
    let nowhere : Some leads.now ≡ None = sym leads.stays ∙ went in
    cc

-- words that are known are moved where those at their place are
pub known_word_moved : (to : ℕ → Option ℕ) (words others : List ℕ) (at word now : ℕ) (moved : Bool)
    → slice_get words at ≡ Some word → slice_get others at ≡ Some now → IsTrue moved ↔ IsMovedWord to word now
    → IsTrue moved ↔ IsMovedThere to words others at
known_word_moved to words others at word now moved has has_now tells = (
  λ yes one other has_one has_other.
      let same : word ≡ one = same_Some word one (sym has ∙ has_one) in
      let same_now : now ≡ other = same_Some now other (sym has_now ∙ has_other) in
      subst (λ w. IsMovedWord to w other) same (subst (IsMovedWord to word) same_now (tells.0 yes)),
  λ there. tells.1 (there word now has has_now),
)

-- options of numbers that don't differ are one
pub same_options : (one other : Option ℕ) → not (option_eq nat_eq one other) ≡ false → one ≡ other
same_options None None same = refl
same_options None (Some other) same = absurd (false≢true (sym same))
same_options (Some one) None same = absurd (false≢true (sym same))
same_options (Some one) (Some other) same = ap (λ n. Some n) (eqb-true one other (not-false (nat_eq one other) same))

-- a root is moved where its first word is, and its second one is as it was
pub root_moved : (old new : Heap) (to : ℕ → Option ℕ) (variable at : ℕ) → at ≡ root_at old.space variable
    → (IsMovedThere to old.words new.words at × (slice_get new.words (at + 1) ≡ slice_get old.words (at + 1)))
    ↔ IsMovedRoot old new to variable
root_moved old new to variable at same =
    let Parts : ℕ → Type 0 = λ n.
    IsMovedThere to old.words new.words n × (slice_get new.words (n + 1) ≡ slice_get old.words (n + 1)) in (
      λ parts. let there = subst Parts same parts in record { first = there.0; second = there.1 },
      λ moved. subst Parts (sym same) (moved.first, moved.second),
    )
