-- How records are touched where the first slots of a store that was made are stored again.
use Rattle.std.proofs.Common.{◌≡◌, ℕ, ◌+◌, ◌≤◌, ◌<◌, inl, inr, sym, ◌∙◌, ap, arith}
use Rattle.std.proofs.lemmas.Bool.{cases_lt}
use Rattle.tagged_word.specs.Cells.{store_head}
use Rattle.heap_model.specs.Remembered.{Touch}
use Rattle.write_barrier.specs.MutatorState.{Mutator}
use Rattle.write_barrier.specs.Recording.{Touches, touched, touched_again, touched_then}
use Rattle.write_barrier.proofs.Recording.{then_touch, touch_alike}
use Rattle.write_barrier.proofs.TouchedRanges.{touched_inside, touched_outside}
use Rattle.object_cells.specs.Made.{store_touch}

-- each slot of the store is stored
pub store_slot_touch : (capacity at a : ℕ) → at + store_head ≤ a → a < at + (store_head + capacity)
    → store_touch capacity at a ≡ Touch.Stored
store_slot_touch capacity at a from below =
    ap (touched_again (touched Touch.Wiped at (at + store_head) a))
    (touched_inside Touch.Stored (at + store_head) (at + (store_head + capacity)) a from below)

-- so it is as it was where the first ones are stored again
stored_again : (capacity at count a : ℕ) → count ≤ capacity
    → touched_then (store_touch capacity at) (touched Touch.Stored (at + store_head) (at + store_head + count)) a
    ≡ store_touch capacity at a
stored_again capacity at count a few =
    let from = at + store_head in
    let first : Touch = store_touch capacity at a in
    elim (cases_lt a from) [
      | inl before ↦
          ap (touched_again first) (touched_outside Touch.Stored from (from + count) a (inl before))
      | inr begins ↦ elim (cases_lt a (from + count)) [
        | inr behind ↦
            ap (touched_again first) (touched_outside Touch.Stored from (from + count) a (inr behind))
        | inl ends ↦
            ap (touched_again first) (touched_inside Touch.Stored from (from + count) a begins ends)
            ∙ sym (store_slot_touch capacity at a begins (omega (arith, ends, few)))
      ]
    ]

-- and so the records are
pub slots_stored : {old mid new : Mutator} (capacity at count : ℕ) → count ≤ capacity
    → Touches old mid (store_touch capacity at)
    → Touches mid new (touched Touch.Stored (at + store_head) (at + store_head + count))
    → Touches old new (store_touch capacity at)
slots_stored capacity at count few filled copied =
    touch_alike (λ a below. stored_again capacity at count a few) (then_touch filled copied)
