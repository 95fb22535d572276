-- The words where a store was made in place of another one of an object.
use Rattle.std.proofs.Common.{◌≡◌, ◌≢◌, ℕ, ◌+◌, ◌≤◌, ◌<◌, ◌⊎◌, inl, inr, List, [], ◌∷◌}
use Rattle.std.proofs.Common.{length, Some, slice_get, slice_range, replicate, refl, ◌∙◌, ap, arith}
use Rattle.std.proofs.lemmas.Bool.{cases_lt}
use Rattle.std.proofs.lemmas.List.{length-replicate, get_or-replicate}
use Rattle.std.proofs.lemmas.Option.{slice_get-get_or}
use Rattle.tagged_word.specs.Headers.{header_bits}
use Rattle.tagged_word.specs.Cells.{store_head, store_slot}
use Rattle.word_store.proofs.CopiedWords.{length-piece, length-copied}
use Rattle.heap_model.specs.Slots.{hole_word}
use Rattle.heap_model.proofs.CellWords.{slice_get-append_right}
use Rattle.write_barrier.specs.Values.{with_range}
use Rattle.object_cells.specs.Formats.{store_header, empty_store}
use Rattle.object_cells.specs.declared.stores.Store.{Store}
use Rattle.object_cells.specs.FilledRuns.{run_words}
use Rattle.object_cells.specs.Made.{begun_store}
use Rattle.object_cells.specs.declared.content.SlotContent.{SlotContent}
use Rattle.object_cells.proofs.NewStores.{store_cell}
use Rattle.write_barrier.proofs.PutRanges.{length-with_range, with_range_before, with_range_inside, with_range_behind}
use Rattle.write_barrier.proofs.PutRanges.{copied_is}
use Rattle.write_barrier.proofs.PutRanges.{slice_get-slice_range}

-- a store of no values has its head and its slots
pub length-empty_store : (capacity : ℕ) → length (empty_store capacity) ≡ store_head + capacity
length-empty_store capacity = omega (arith, length-replicate capacity hole_word)

-- and each of these is a hole
pub empty_store_hole : (capacity k : ℕ) → k < capacity
    → slice_get (empty_store capacity) (store_head + k) ≡ Some hole_word
empty_store_hole capacity k below =
    let holes = replicate capacity hole_word in
    slice_get-append_right (header_bits store_header ∷ capacity ∷ []) holes k (store_head + k) refl
    ∙ slice_get-get_or holes k 0 (omega (arith, below, length-replicate capacity hole_word))
    ∙ ap (λ n. Some n) (get_or-replicate capacity k hole_word 0 below)

-- The store before and the one that is made, with a box behind it, stand among the words, and have no word in common
-- where the first one has slots;
-- the object's slot for the store is a word of neither, nor is the other word that is put.
pub record MakesStore (words : List ℕ) (object own : ℕ) (store : Store) (capacity at : ℕ) (holds : SlotContent)
    : Type 0 where
  pub more : store.capacity < capacity
  pub within : at + run_words (store_cell at capacity) holds ≤ length words
  pub other : store.at + (store_head + store.capacity) ≤ length words
  pub apart : 0 < store.capacity
      → (store.at + (store_head + store.capacity) ≤ at) ⊎ (at + (store_head + capacity) ≤ store.at)
  pub slot : object + store_slot < length words
  pub own_in : own < length words
  pub named : at ≤ object + store_slot → object + store_slot < at + run_words (store_cell at capacity) holds → ⊥
  pub beside : at ≤ own → own < at + run_words (store_cell at capacity) holds → ⊥
  pub not_slot : own ≢ object + store_slot

-- the words with a store of no values
abbrev filled : List ℕ → ℕ → ℕ → List ℕ
filled words capacity at = with_range words at (empty_store capacity)

module _ {words : List ℕ} {object own : ℕ} {store : Store} {capacity at : ℕ} {holds : SlotContent}
    (makes : MakesStore words object own store capacity at holds) where
  -- with a store of no values there are as many words as before
  filled_long : length (filled words capacity at) ≡ length words
  filled_long =
      length-with_range words (empty_store capacity) at
      (omega (arith, makes.within, length-empty_store capacity))

  -- with its slots copied too
  pub copied_long : length (begun_store words store capacity at) ≡ length words
  copied_long =
      length-copied (filled words capacity at) (store.at + store_head) (at + store_head) store.capacity
      (omega (arith, makes.more, makes.other, filled_long)) (omega (arith, makes.more, makes.within, filled_long))
      ∙ filled_long

  -- a word beside the store stays
  filled_stays : (a : ℕ) → (at ≤ a → a < at + (store_head + capacity) → ⊥)
      → slice_get (filled words capacity at) a ≡ slice_get words a
  filled_stays a beside =
      let long = length-empty_store capacity in
      elim (cases_lt a at) [
        | inl before ↦
            with_range_before words (empty_store capacity) at a (omega (arith, makes.within)) before
        | inr from ↦ elim (cases_lt a (at + (store_head + capacity))) [
          | inl below ↦ absurd (beside from below)
          | inr behind ↦
              with_range_behind words (empty_store capacity) at a (omega (arith, makes.within))
              (omega (arith, behind, long))
        ]
      ]

  -- a word beside the store is beside the copy
  beside_copy : (a : ℕ) → (at ≤ a → a < at + (store_head + capacity) → ⊥)
      → (a < at + store_head) ⊎ (at + store_head + store.capacity ≤ a)
  beside_copy a beside = elim (cases_lt a at) [
    | inl before ↦ inl (omega arith)
    | inr from ↦ elim (cases_lt a (at + (store_head + capacity))) [
      | inl below ↦ absurd (beside from below)
      | inr behind ↦ inr (omega (arith, behind, makes.more))
    ]
  ]

  -- the words of the store, before the slots of the other were copied
  filled_word : (k : ℕ) → k < store_head + capacity
      → slice_get (filled words capacity at) (at + k) ≡ slice_get (empty_store capacity) k
  filled_word k below =
      with_range_inside words (empty_store capacity) at k (omega (arith, makes.within))
      (omega (arith, below, length-empty_store capacity))

  -- what was copied
  piece : List ℕ
  piece = slice_range (filled words capacity at) (store.at + store_head) (store.at + store_head + store.capacity)

  -- a word beside the copy is as before
  copied_stays : (a : ℕ) → (a < at + store_head) ⊎ (at + store_head + store.capacity ≤ a)
      → slice_get (begun_store words store capacity at) a ≡ slice_get (filled words capacity at) a
  unfolding piece
  copied_stays a beside =
      let is = copied_is (filled words capacity at) (store.at + store_head) (at + store_head) store.capacity
      (omega (arith, makes.more, makes.other, filled_long)) in
      let long : length piece ≡ store.capacity =
      length-piece (filled words capacity at) (store.at + store_head) store.capacity
      (omega (arith, makes.more, makes.other, filled_long)) in
      let within : at + store_head ≤ length (filled words capacity at) =
      omega (arith, makes.more, makes.within, filled_long) in
      ap (λ all. slice_get all a) is ∙ elim beside [
        | inl before ↦ with_range_before (filled words capacity at) piece (at + store_head) a within before
        | inr behind ↦
            with_range_behind (filled words capacity at) piece (at + store_head) a within (omega (arith, behind, long))
      ]

  -- the slots of the other stand in the new one
  pub copied_word : (k : ℕ) → k < store.capacity
      → slice_get (begun_store words store capacity at) (at + (store_head + k))
      ≡ slice_get words (store.at + (store_head + k))
  unfolding piece
  copied_word k below =
      let is = copied_is (filled words capacity at) (store.at + store_head) (at + store_head) store.capacity
      (omega (arith, makes.more, makes.other, filled_long)) in
      let long : length piece ≡ store.capacity =
      length-piece (filled words capacity at) (store.at + store_head) store.capacity
      (omega (arith, makes.more, makes.other, filled_long)) in
      let place : at + (store_head + k) ≡ at + store_head + k = omega arith in
      let from : store.at + store_head + k ≡ store.at + (store_head + k) = omega arith in
      ap (λ all. slice_get all (at + (store_head + k))) is
      ∙ ap (slice_get (with_range (filled words capacity at) (at + store_head) piece)) place
      ∙ with_range_inside (filled words capacity at) piece (at + store_head) k
      (omega (arith, makes.more, makes.within, filled_long))
      (omega (arith, below, long))
      ∙ slice_get-slice_range (filled words capacity at) (store.at + store_head) store.capacity k below
      ∙ ap (slice_get (filled words capacity at)) from
      ∙ filled_stays (store.at + (store_head + k)) (λ low high. elim (makes.apart (omega (arith, below))) [
        | inl before ↦ omega (arith, before, low, below, makes.more)
        | inr behind ↦ omega (arith, behind, high, makes.more)
      ])

  -- any word that is not the new store's stays
  pub begun_stays : (a : ℕ) → (at ≤ a → a < at + (store_head + capacity) → ⊥)
      → slice_get (begun_store words store capacity at) a ≡ slice_get words a
  begun_stays a beside = copied_stays a (beside_copy a beside) ∙ filled_stays a beside

  -- the words of its head, and the slots behind those that were copied
  pub begun_word : (k : ℕ) → k < store_head + capacity → (k < store_head) ⊎ (store_head + store.capacity ≤ k)
      → slice_get (begun_store words store capacity at) (at + k) ≡ slice_get (empty_store capacity) k
  begun_word k below beside =
      copied_stays (at + k) (elim beside [
        | inl head ↦ inl (omega (arith, head))
        | inr behind ↦ inr (omega (arith, behind))
      ]) ∙ filled_word k below
