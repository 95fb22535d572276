-- The words that a trim of a list puts, by their addresses: the head of the store where it begins then, those of the
-- list's cell, and a free cell over words of the store that went.
use Rattle.std.proofs.Common.{◌≡◌, ℕ, ◌+◌, ◌<◌, ◌≤◌, List, length, Some, slice_get, refl, sym, ◌∙◌, ap, arith}
use Rattle.std.proofs.Common.{length-set}
use Rattle.std.specs.Prelude.{slice_set}
use Rattle.tagged_word.specs.Cells.{store_head, store_slot, length_offset}
use Rattle.object_graph.specs.Graphs.{ListObject}
use Rattle.object_graph.proofs.Lists.{slice_get-set_same, slice_get-set_other}
use Rattle.write_barrier.specs.Seats.{heap_words}
use Rattle.heap_model.specs.Kinds.{count_offset}
use Rattle.heap_model.specs.Slots.{reference_word}
use Rattle.write_barrier.specs.MutatorState.{Mutator}
use Rattle.write_barrier.specs.FreeCells.{with_free_cell}
use Rattle.write_barrier.proofs.FreeCells.{length-free_cell}
use Rattle.array_trim.proofs.Covers.{covered_stays}
use Rattle.array_trim.proofs.ListStores.{ListStored, words_apart, list_in_words, store_in_words}

-- Of a store of so many slots so many are kept, from a number on. It begins at another address then, and words of it
-- are free that are none of its own.
pub record IsCut (store capacity start from kept free many : ℕ) : Type 0 where
  pub start_is : start ≡ store + from
  pub room : from + kept ≤ capacity
  pub behind : store ≤ free
  pub ends : free + many ≤ store + (store_head + capacity)
  pub apart : (a : ℕ) → free ≤ a → a < free + many → start ≤ a → a < start + (store_head + kept) → ⊥

module _ {main : Mutator} {at store : ℕ} {list : ListObject} (stored : ListStored main at list store) (header count : ℕ)
    {start from kept free many : ℕ} (cut : IsCut store stored.cell.length start from kept free many) where
  -- the slots of the old store
  abbrev capacity : ℕ
  capacity = stored.cell.length

  -- the words before
  abbrev words : List ℕ
  words = heap_words main.seat

  -- with the header of the store
  abbrev headed : List ℕ
  headed = slice_set words start header

  -- with its length too
  abbrev moved : List ℕ
  moved = slice_set headed (start + length_offset) kept

  -- with the list's reference to it
  abbrev linked : List ℕ
  linked = slice_set moved (at + store_slot) (reference_word start)

  -- with the list's length
  abbrev pub counted : List ℕ
  counted = slice_set linked (at + count_offset) count

  -- and with the words that are free: all that the trim puts
  abbrev pub cut_words : List ℕ
  cut_words = with_free_cell counted free many

  -- there are as many words with the store's head
  long_moved : length moved ≡ length words
  long_moved = length-set headed (start + length_offset) kept ∙ length-set words start header

  -- and with the words of the list's cell
  pub long_counted : length counted ≡ length words
  long_counted =
      length-set linked (at + count_offset) count ∙ length-set moved (at + store_slot) (reference_word start)
      ∙ long_moved

  -- and once all are put
  pub long_cut : length cut_words ≡ length words
  long_cut = length-free_cell counted free many ∙ long_counted

  -- no word of the list's cell is one of its store
  apart : (a b : ℕ) → at ≤ a → a < at + 3 → store ≤ b → b < store + (store_head + capacity) → a ≡ b → ⊥
  apart a b from below from_too below_too same = words_apart stored a b from below from_too below_too same

  -- the store begins among the words of the old one, and so does its second word
  start_behind : store ≤ start
  start_behind = omega (arith, cut.start_is)

  start_below : start + 1 < store + (store_head + capacity)
  start_below = omega (arith, cut.start_is, cut.room)

  -- a word of the list's cell is put before any is covered
  list_covered : (a : ℕ) → at ≤ a → a < at + 3 → slice_get cut_words a ≡ slice_get counted a
  list_covered a from below =
      covered_stays counted free many a (λ behind before.
      apart a a from below (omega (arith, behind, cut.behind)) (omega (arith, before, cut.ends)) refl)

  -- its header stays
  pub cut_header : slice_get cut_words at ≡ slice_get words at
  cut_header =
      list_covered at (omega arith) (omega arith)
      ∙ slice_get-set_other linked (at + count_offset) at count (λ same. omega (arith, same))
      ∙ slice_get-set_other moved (at + store_slot) at (reference_word start) (λ same. omega (arith, same))
      ∙ slice_get-set_other headed (start + length_offset) at kept
      (apart at (start + length_offset) (omega arith) (omega arith) (omega (arith, start_behind)) start_below)
      ∙ slice_get-set_other words start at header
      (apart at start (omega arith) (omega arith) start_behind (omega (arith, start_below)))

  -- its slot refers to the store
  pub cut_slot : slice_get cut_words (at + store_slot) ≡ Some (reference_word start)
  cut_slot =
      list_covered (at + store_slot) (omega arith) (omega arith)
      ∙ slice_get-set_other linked (at + count_offset) (at + store_slot) count (λ same. omega (arith, same))
      ∙ slice_get-set_same moved (at + store_slot) (reference_word start)
      (omega (arith, list_in_words stored, long_moved))

  -- and it counts the elements that stay
  pub cut_count : slice_get cut_words (at + count_offset) ≡ Some count
  cut_count =
      list_covered (at + count_offset) (omega arith) (omega arith)
      ∙ slice_get-set_same linked (at + count_offset) count
      (omega (arith, list_in_words stored, long_moved, length-set moved (at + store_slot) (reference_word start)))

  -- a word of the store is put before the list's
  of_moved : (a : ℕ) → start ≤ a → a < start + (store_head + kept) → slice_get cut_words a ≡ slice_get moved a
  of_moved a behind below =
      let from_store : store ≤ a = omega (arith, behind, start_behind) in
      let inside : a < store + (store_head + capacity) = omega (arith, below, cut.start_is, cut.room) in
      covered_stays counted free many a (λ from before. cut.apart a from before behind below)
      ∙ slice_get-set_other linked (at + count_offset) a count
      (λ same. apart (at + count_offset) a (omega arith) (omega arith) from_store inside (sym same))
      ∙ slice_get-set_other moved (at + store_slot) a (reference_word start)
      (λ same. apart (at + store_slot) a (omega arith) (omega arith) from_store inside (sym same))

  -- its header
  pub cut_store : slice_get cut_words start ≡ Some header
  cut_store =
      of_moved start (omega arith) (omega arith)
      ∙ slice_get-set_other headed (start + length_offset) start kept (λ same. omega (arith, same))
      ∙ slice_get-set_same words start header (omega (arith, start_below, store_in_words stored))

  -- its length
  pub cut_capacity : slice_get cut_words (start + length_offset) ≡ Some kept
  cut_capacity =
      of_moved (start + length_offset) (omega arith) (omega arith)
      ∙ slice_get-set_same headed (start + length_offset) kept
      (omega (arith, start_below, store_in_words stored, length-set words start header))

  -- its slots hold what stands there
  pub cut_slots : (k : ℕ) → k < kept
      → slice_get cut_words (start + (store_head + k)) ≡ slice_get words (store + (store_head + (from + k)))
  cut_slots k below =
      let a : ℕ = start + (store_head + k) in
      let same : a ≡ store + (store_head + (from + k)) = omega (arith, cut.start_is) in
      of_moved a (omega arith) (omega (arith, below))
      ∙ slice_get-set_other headed (start + length_offset) a kept (λ same. omega (arith, same))
      ∙ slice_get-set_other words start a header (λ same. omega (arith, same))
      ∙ ap (λ n. slice_get words n) same

  -- any other word stays
  pub cut_stays : (a : ℕ) → (at ≤ a → a < at + 3 → ⊥)
      → (store ≤ a → a < store + (store_head + capacity) → ⊥)
      → slice_get cut_words a ≡ slice_get words a
  cut_stays a not_list not_store =
      covered_stays counted free many a (λ from before.
      not_store (omega (arith, from, cut.behind)) (omega (arith, before, cut.ends)))
      ∙ slice_get-set_other linked (at + count_offset) a count
      (λ same. not_list (omega (arith, same)) (omega (arith, same)))
      ∙ slice_get-set_other moved (at + store_slot) a (reference_word start)
      (λ same. not_list (omega (arith, same)) (omega (arith, same)))
      ∙ slice_get-set_other headed (start + length_offset) a kept
      (λ same. not_store (omega (arith, same, start_behind)) (omega (arith, same, start_below)))
      ∙ slice_get-set_other words start a header
      (λ same. not_store (omega (arith, same, start_behind)) (omega (arith, same, start_below)))
