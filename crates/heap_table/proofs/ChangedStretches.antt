-- Outside of a stretch that was copied or filled all agree as before; behind the pages, all agree.
use Rattle.std.proofs.Common.{◌≡◌, ℕ, ◌+◌, ◌<◌, ◌≤◌, List, length, take, get_or, inl, inr, sym, subst, ◌∙◌}
use Rattle.std.proofs.Common.{arith, rules}
use Rattle.std.proofs.lemmas.List.{places, ext_get_or, length-take}
use Rattle.page_space.specs.Extents.{marks_start}
use Rattle.word_store.specs.Copies.{copied}
use Rattle.word_store.proofs.CopiedWords.{get_or-copied_before, get_or-copied_behind, length-copied}
use Rattle.shared_table.specs.declared.overview.Overview.{Overview}
use Rattle.shared_table.specs.Owned.{Own}
use Rattle.heap_table.specs.Sharing.{Agrees, AgreesOutside, IsOutside}
use Rattle.heap_table.proofs.HeapWords.{filled, length-filled}
use Rattle.heap_table.proofs.SharedStretches.{agrees_outside}

-- a copy leaves the words outside of it
copied_outside : (words : List ℕ) (from to count a : ℕ) → from + count ≤ length words → to + count ≤ length words
    → IsOutside to (to + count) a → get_or (copied words from to count) a 0 ≡ get_or words a 0
copied_outside words from to count a within room (inl before) =
    get_or-copied_before words from to count a 0 within room before
copied_outside words from to count a within room (inr behind) =
    get_or-copied_behind words from to count a 0 within room behind

-- so does filling
filled_outside : (words : List ℕ) (at count word a : ℕ) → at + count ≤ length words → IsOutside at (at + count) a
    → get_or (filled words at count word) a 0 ≡ get_or words a 0
filled_outside words at count word a within (inl before) = search (rules, places)
filled_outside words at count word a within (inr behind) = search (rules, places)

module _ (own now : Own) (main : Overview) (agrees : Agrees own main)
    (counted : length own.words ≡ marks_start own.space) where
  -- after a copy
  pub copied_agrees : (from to count : ℕ) → now ≡ record own { words = copied own.words from to count }
      → from + count ≤ marks_start own.space → to + count ≤ marks_start own.space
      → AgreesOutside now to (to + count) main
  copied_agrees from to count copies within room =
      subst (λ (one : Own). AgreesOutside one to (to + count) main) (sym copies)
      (agrees_outside own (copied own.words from to count) to (to + count) main agrees counted
      (λ a. copied_outside own.words from to count a (omega (arith, within, counted)) (omega (arith, room, counted))))

  -- after words were filled
  pub filled_agrees : (at count word : ℕ) → now ≡ record own { words = filled own.words at count word }
      → at + count ≤ marks_start own.space → AgreesOutside now at (at + count) main
  filled_agrees at count word fills within =
      subst (λ (one : Own). AgreesOutside one at (at + count) main) (sym fills)
      (agrees_outside own (filled own.words at count word) at (at + count) main agrees counted
      (λ a. filled_outside own.words at count word a (omega (arith, within, counted))))

-- a word before an address stands among the first ones up to there
first_word : (words : List ℕ) (n a : ℕ) → a < n → get_or (take n words) a 0 ≡ get_or words a 0
first_word words n a below = search (rules, places)

-- words that are as before up to an address have the same first words
same_first : (words before : List ℕ) (n : ℕ) → length words ≡ length before
    → ((a : ℕ) → a < n → get_or words a 0 ≡ get_or before a 0) → take n words ≡ take n before
same_first words before n counted same =
    ext_get_or 0 (take n words) (take n before)
    (omega (arith, length-take n words, length-take n before, counted))
    (λ a below. let inside : a < n = omega (arith, below, length-take n words) in
    first_word words n a inside ∙ same a inside ∙ sym (first_word before n a inside))

-- a copy behind the first words leaves these
pub first-copied : (words : List ℕ) (from to count n : ℕ) → from + count ≤ length words → to + count ≤ length words
    → n ≤ to → take n (copied words from to count) ≡ take n words
first-copied words from to count n within room behind =
    same_first (copied words from to count) words n (length-copied words from to count within room)
    (λ a below. copied_outside words from to count a within room (inl (omega (arith, below, behind))))

-- so does filling behind them
pub first-filled : (words : List ℕ) (at count word n : ℕ) → at + count ≤ length words → n ≤ at
    → take n (filled words at count word) ≡ take n words
first-filled words at count word n within behind =
    same_first (filled words at count word) words n (length-filled words at count word within)
    (λ a below. filled_outside words at count word a within (inl (omega (arith, below, behind))))
