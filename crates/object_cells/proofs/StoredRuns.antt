-- A stretch of words that is put behind all pages where a cycle of marking is open, and a store that is made there.
use Rattle.std.proofs.Common.{◌≡◌, ℕ, ◌+◌, ◌<◌, ◌≤◌, ◌⊎◌, inl, inr, List, length, slice_get, slice_range}
use Rattle.std.proofs.Common.{◌∙◌, ap, arith}
use Rattle.tagged_word.specs.Cells.{store_head}
use Rattle.page_space.specs.Extents.{layouts_start, marks_start}
use Rattle.word_store.proofs.CopiedWords.{length-piece}
use Rattle.write_barrier.specs.MutatorState.{Mutator}
use Rattle.write_barrier.specs.Seats.{heap_words}
use Rattle.write_barrier.specs.Storing.{IsMadeYoung}
use Rattle.write_barrier.specs.Values.{with_range}
use Rattle.write_barrier.proofs.PutRanges.{copied_is, length-with_range, with_range_before, with_range_behind}
use Rattle.object_cells.specs.Formats.{empty_store}
use Rattle.object_cells.specs.Made.{PutsWords, begun_store}
use Rattle.object_cells.specs.declared.stores.Store.{Store}
use Rattle.object_cells.proofs.RestOfWords.{layouts_before_marks}
use Rattle.object_cells.proofs.StoreWords.{length-empty_store}
use Rattle.object_cells.proofs.YoungStores.{PutsYoung}

-- a word beside a stretch that is put stays
pub beside_range : (words others : List ℕ) (at a : ℕ) → at + length others ≤ length words
    → (a < at) ⊎ (at + length others ≤ a) → slice_get (with_range words at others) a ≡ slice_get words a
beside_range words others at a within (inl before) = with_range_before words others at a (omega (arith, within)) before
beside_range words others at a within (inr behind) = with_range_behind words others at a (omega (arith, within)) behind

-- a word beside a store that is made, with the slots of another one, stays
pub beside_begun : (words : List ℕ) (store : Store) (capacity at a : ℕ) → store.capacity ≤ capacity
    → at + (store_head + capacity) ≤ length words → store.at + (store_head + store.capacity) ≤ length words
    → (a < at) ⊎ (at + (store_head + capacity) ≤ a)
    → slice_get (begun_store words store capacity at) a ≡ slice_get words a
beside_begun words store capacity at a more within other apart =
    let empty : List ℕ = empty_store capacity in
    let filled : List ℕ = with_range words at empty in
    let counted = length-empty_store capacity in
    let long : length filled ≡ length words = length-with_range words empty at (omega (arith, within, counted)) in
    let from : ℕ = store.at + store_head in
    let to : ℕ = at + store_head in
    let piece : List ℕ = slice_range filled from (from + store.capacity) in
    let few : length piece ≡ store.capacity =
    length-piece filled from store.capacity (omega (arith, other, long)) in
    ap (λ all. slice_get all a) (copied_is filled from to store.capacity (omega (arith, other, long)))
    ∙ beside_range filled piece to a (omega (arith, within, more, long, few)) (elim apart [
      | inl before ↦ inl (omega (arith, before))
      | inr behind ↦ inr (omega (arith, behind, more, few))
    ])
    ∙ beside_range words empty at a (omega (arith, within, counted)) (elim apart [
      | inl before ↦ inl before
      | inr behind ↦ inr (omega (arith, behind, counted))
    ])

module _ {old new : Mutator} (at : ℕ) (cycle : new.cycle ≡ old.cycle)
    (bound : new.recorded.bound ≡ old.recorded.bound) (young : IsMadeYoung old at)
    (counted : length (heap_words old.seat) ≡ marks_start old.seat.space) where
  -- where a stretch is put, words were put behind all pages
  pub range_puts_young : (others : List ℕ) → PutsWords old new (with_range (heap_words old.seat) at others)
      → at + length others ≤ layouts_start old.seat.space → PutsYoung old new at (at + length others)
  range_puts_young others puts before = record {
    beside = puts.beside;
    paths = puts.paths;
    cycle = cycle;
    bound = bound;
    young = young;
    before = before;
    stay = λ a apart. ap (λ all. slice_get all a) puts.heap
        ∙ beside_range (heap_words old.seat) others at a
        (omega (arith, before, counted, layouts_before_marks old.seat.space)) apart;
  }

  -- and where a store is made
  pub begun_puts_young : (store : Store) (capacity : ℕ)
      → PutsWords old new (begun_store (heap_words old.seat) store capacity at) → store.capacity ≤ capacity
      → at + (store_head + capacity) ≤ layouts_start old.seat.space
      → store.at + (store_head + store.capacity) ≤ marks_start old.seat.space
      → PutsYoung old new at (at + (store_head + capacity))
  begun_puts_young store capacity puts more before other = record {
    beside = puts.beside;
    paths = puts.paths;
    cycle = cycle;
    bound = bound;
    young = young;
    before = before;
    stay = λ a apart. ap (λ all. slice_get all a) puts.heap
        ∙ beside_begun (heap_words old.seat) store capacity at a more
        (omega (arith, before, counted, layouts_before_marks old.seat.space)) (omega (arith, other, counted)) apart;
  }
