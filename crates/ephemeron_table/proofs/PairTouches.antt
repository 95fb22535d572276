-- How records are touched where the words of pairs are put.
use Rattle.std.proofs.Common.{◌≡◌, ℕ, ◌+◌, ◌<◌, ◌≤◌, ◌⊎◌, inl, inr, length, sym, ◌∙◌, ap, subst, arith}
use Rattle.std.proofs.Common.{length-set}
use Rattle.page_space.specs.Extents.{marks_start}
use Rattle.write_barrier.specs.Seats.{heap_words}
use Rattle.heap_model.specs.Remembered.{Touch}
use Rattle.write_barrier.specs.MutatorState.{Mutator, with_weak}
use Rattle.write_barrier.specs.Recording.{Touches, touched, touched_one, touched_again, touched_then}
use Rattle.write_barrier.proofs.Recording.{then_touch, touch_alike, slot_touch}
use Rattle.write_barrier.proofs.TouchedRanges.{touched_inside, touched_outside}
use Rattle.object_cells.proofs.TouchedCells.{touched_cases, then_cases}
use Rattle.weak_pairs.specs.Tables.{IsOutsidePairs, key_offset, value_offset}
use Rattle.weak_pairs.specs.declared.table.Table.{Table}
use Rattle.ephemeron_table.specs.Puttings.{pair_touch}

-- what holds of each of two touches of an address holds of the one after the other
pub of_both : (Holds : Touch → Type 0) (first next : ℕ → Touch) (at : ℕ) → Holds (first at) → Holds (next at)
    → Holds (touched_then first next at)
of_both Holds first next at one two = elim (then_cases first next at) [
  | inl last ↦ subst Holds (sym last) two
  | inr earlier ↦ subst Holds (sym earlier.1) one
]

-- two slots of which one follows the other were stored as one range
two_stored : (from next to at : ℕ) → next ≡ from + 1 → to ≡ next + 1
    → touched_then (touched_one Touch.Stored from) (touched_one Touch.Stored next) at ≡ touched Touch.Stored from to at
two_stored from next to at follows ends = elim (touched_cases Touch.Stored next (next + 1) at) [
  | inl last ↦
      ap (touched_again (touched_one Touch.Stored from at)) last.2
      ∙ sym (touched_inside Touch.Stored from to at (omega (arith, follows, last.0)) (omega (arith, ends, last.1)))
  | inr beside ↦
      ap (touched_again (touched_one Touch.Stored from at)) beside.1
      ∙ elim (touched_cases Touch.Stored from (from + 1) at) [
        | inl first ↦
            first.2 ∙ sym (touched_inside Touch.Stored from to at first.0 (omega (arith, follows, ends, first.1)))
        | inr apart ↦
            let out : (at < from) ⊎ (to ≤ at) = elim apart.0 [
              | inl before ↦ inl before
              | inr behind ↦ elim beside.0 [
                | inl low ↦ absurd (omega (arith, follows, behind, low))
                | inr high ↦ inr (omega (arith, ends, high))
              ]
            ] in
            apart.1 ∙ sym (touched_outside Touch.Stored from to at out)
      ]
]

-- where a word is put that marking does not visit, its slot is stored, as others are
weak_touch : (main : Mutator) (at word : ℕ) → length (heap_words main.seat) ≡ marks_start main.seat.space
    → at < marks_start main.seat.space → Touches main (with_weak main at word) (touched_one Touch.Stored at)
weak_touch main at word counted below =
    let touch = slot_touch main at word counted below in
    record { free = touch.free; bound = touch.bound; records = touch.records }

-- where both words of a pair are put, its slots are stored
pub pair_stored : {old keyed new : Mutator} (table place key value : ℕ)
    → length (heap_words old.seat) ≡ marks_start old.seat.space
    → table + (value_offset place + 1) ≤ marks_start old.seat.space
    → keyed ≡ with_weak old (table + key_offset place) key
    → new ≡ with_weak keyed (table + value_offset place) value → Touches old new (pair_touch table place)
pair_stored {old} {keyed} table place key value counted within first next =
    let from : ℕ = table + key_offset place in
    let behind : ℕ = table + value_offset place in
    let to : ℕ = table + (value_offset place + 1) in
    let marks : marks_start keyed.seat.space ≡ marks_start old.seat.space =
    ap (λ (main : Mutator). marks_start main.seat.space) first in
    let long : length (heap_words keyed.seat) ≡ marks_start keyed.seat.space =
    ap (λ (main : Mutator). length (heap_words main.seat)) first
    ∙ length-set (heap_words old.seat) from key
    ∙ counted ∙ sym marks in
    let one : Touches old keyed (touched_one Touch.Stored from) =
    subst (λ (main : Mutator). Touches old main (touched_one Touch.Stored from)) (sym first)
    (weak_touch old from key counted (omega (arith, within))) in
    touch_alike (λ at below. two_stored from behind to at (omega arith) (omega arith))
    (then_touch one (subst (λ (main : Mutator). Touches keyed main (touched_one Touch.Stored behind)) (sym next)
    (weak_touch keyed behind value long (omega (arith, within, marks)))))

-- of the pairs of a table alone an address was stored, or it was kept
abbrev pub KeptOrPair : Table → ℕ → Touch → Type 0
KeptOrPair table at touch =
    (touch ≡ Touch.Kept) ⊎ ((touch ≡ Touch.Stored) × (IsOutsidePairs table at → ⊥))

-- so it is where a pair was put
pub pair_alone : (table : Table) (place at : ℕ) → place < table.capacity
    → KeptOrPair table at (pair_touch table.at place at)
pair_alone table place at below =
    elim (touched_cases Touch.Stored (table.at + key_offset place) (table.at + (value_offset place + 1)) at) [
      | inl inside ↦ inr (
        inside.2,
        λ outside. elim outside [
          | inl before ↦ omega (arith, inside.0, before)
          | inr behind ↦ omega (arith, inside.1, behind, below)
        ],
      )
      | inr beside ↦ inl beside.1
    ]
