-- The pairs of a table by its words.
use Rattle.std.proofs.Common.{◌≡◌, ℕ, suc, ◌+◌, ◌-◌, ◌*◌, ◌≤◌, ◌<◌, inl, inr, List, length, get_or, drop, Some}
use Rattle.std.proofs.Common.{slice_get, refl, sym, ◌∙◌, ap, arith, length-drop, length-take}
use Rattle.std.specs.Prelude.{slice_range}
use Rattle.std.proofs.lemmas.Bool.{cases_lt}
use Rattle.std.proofs.lemmas.List.{same_lists}
use Rattle.std.proofs.lemmas.Option.{same_Some, slice_get_within, slice_get-get_or}
use Rattle.tagged_word.specs.Cells.{store_head}
use Rattle.heap_model.specs.Kinds.{Pair, pairs_in}
use Rattle.heap_model.proofs.CellWords.{slice_get-take, slice_get-drop}
use Rattle.heap_model.proofs.ObjectSlots.{pair_words}
use Rattle.heap_model.proofs.PairLists.{length-pairs_in}
use Rattle.weak_pairs.specs.Tables.{ArePairsIn, key_offset, value_offset, pairs_of, IsOutsidePairs}
use Rattle.weak_pairs.specs.declared.table.Table.{Table}

-- a word of a range is one of all
in_range : (words : List ℕ) (from to k place word : ℕ) → from + k ≡ place
    → slice_get (slice_range words from to) k ≡ Some word → slice_get words place ≡ Some word
in_range words from to k place word is there =
    let below : k < to - from =
    omega (
      arith,
      slice_get_within (slice_range words from to) k word there,
      length-take (to - from) (drop from words),
    ) in
    sym (slice_get-drop from words k place is) ∙ sym (slice_get-take (to - from) (drop from words) k below) ∙ there

-- the words of the pairs that are read stand in the table
pub pairs_read : (words : List ℕ) (table : Table) → table.at + (store_head + 2 * table.capacity) ≤ length words
    → ArePairsIn words table (pairs_of words table)
pairs_read words table within =
    let from : ℕ = table.at + store_head in
    let to : ℕ = table.at + (store_head + 2 * table.capacity) in
    let range : List ℕ = slice_range words from to in
    let many : length range ≡ 2 * table.capacity =
    omega (arith, length-take (to - from) (drop from words), length-drop from words) in
    let parts = λ (place : ℕ) (pair : Pair) (there : slice_get (pairs_in range) place ≡ Some pair).
    pair_words range place (2 * place) pair refl there in
    record {
      long = omega (arith, length-pairs_in range, many);
      keys = λ place pair there.
          in_range words from to (2 * place) (table.at + key_offset place) pair.key (omega arith)
          (parts place pair there).0;
      values = λ place pair there.
          in_range words from to (suc (2 * place)) (table.at + value_offset place) pair.value (omega arith)
          (parts place pair there).1;
    }

-- two pairs of the same words are one
same_pair : (pair other : Pair) → pair.key ≡ other.key → pair.value ≡ other.value → pair ≡ other
same_pair pair other key value =
    ap (λ k. record { key = k; value = pair.value }) key ∙ ap (λ v. record { key = other.key; value = v }) value

-- the words of a table stand for one list of pairs
pub same_pairs : (words : List ℕ) (table : Table) (pairs others : List Pair) → ArePairsIn words table pairs
    → ArePairsIn words table others → pairs ≡ others
same_pairs words table pairs others are are_too =
    same_lists pairs others (are.long ∙ sym are_too.long) (λ k d below.
    let one = slice_get-get_or pairs k d below in
    let two = slice_get-get_or others k d (omega (arith, below, are.long, are_too.long)) in
    same_pair (get_or pairs k d) (get_or others k d)
    (same_Some _ _ (sym (are.keys k (get_or pairs k d) one) ∙ are_too.keys k (get_or others k d) two))
    (same_Some _ _ (sym (are.values k (get_or pairs k d) one) ∙ are_too.values k (get_or others k d) two)))

-- the pairs that a table's words stand for are those that are read
pub pairs_are : (words : List ℕ) (table : Table) (pairs : List Pair)
    → table.at + (store_head + 2 * table.capacity) ≤ length words → ArePairsIn words table pairs
    → pairs_of words table ≡ pairs
pairs_are words table pairs within are =
    same_pairs words table (pairs_of words table) pairs (pairs_read words table within) are

-- the pairs stay where their words do
pub pairs_stay : (words others : List ℕ) (table : Table) → table.at + (store_head + 2 * table.capacity) ≤ length words
    → length others ≡ length words
    → ((a : ℕ) → table.at + store_head ≤ a → a < table.at + (store_head + 2 * table.capacity)
    → slice_get others a ≡ slice_get words a)
    → pairs_of others table ≡ pairs_of words table
pairs_stay words others table within long stay =
    let are = pairs_read words table within in
    let below = λ (place : ℕ) (pair : Pair) (there : slice_get (pairs_of words table) place ≡ Some pair).
    slice_get_within (pairs_of words table) place pair there in
    pairs_are others table (pairs_of words table) (omega (arith, within, long)) (record {
      long = are.long;
      keys = λ place pair there.
          stay (table.at + key_offset place) (omega arith) (omega (arith, below place pair there, are.long))
          ∙ are.keys place pair there;
      values = λ place pair there.
          stay (table.at + value_offset place) (omega arith) (omega (arith, below place pair there, are.long))
          ∙ are.values place pair there;
    })

-- what is not in a run of words that begins with a table is beside the table's pairs
pub beside_run : (table : Table) (a : ℕ) → (table.at ≤ a → a < table.at + (store_head + 2 * table.capacity) → ⊥)
    → IsOutsidePairs table a
beside_run table a beside = elim (cases_lt a (table.at + store_head)) [
  | inl low ↦ inl low
  | inr from ↦ elim (cases_lt a (table.at + (store_head + 2 * table.capacity))) [
    | inl below ↦ absurd (beside (omega (arith, from)) below)
    | inr high ↦ inr high
  ]
]
