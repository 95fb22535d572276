-- The pairs of a table by its words, once one was put.
use Rattle.std.proofs.Common.{◌≡◌, ◌≢◌, ℕ, ◌+◌, ◌*◌, ◌≤◌, ◌<◌, inl, inr, List, length, Some}
use Rattle.std.proofs.Common.{slice_get, sym, ◌∙◌, ap, arith, length-set}
use Rattle.std.specs.Prelude.{slice_set}
use Rattle.std.proofs.lemmas.Bool.{cases_eq}
use Rattle.std.proofs.lemmas.Option.{same_Some, slice_get_within}
use Rattle.tagged_word.specs.Cells.{store_head}
use Rattle.object_graph.proofs.Lists.{slice_get-set_same, slice_get-set_other}
use Rattle.heap_model.specs.Kinds.{Pair}
use Rattle.weak_pairs.specs.Tables.{ArePairsIn, key_offset, value_offset, pairs_of, with_pair, IsOutsidePairs}
use Rattle.weak_pairs.specs.declared.table.Table.{Table}
use Rattle.weak_pairs.proofs.PairLists.{pairs_read, pairs_are, pairs_stay}

-- the words beside the pairs stay
pub beside_put : (words : List ℕ) (table : Table) (place at : ℕ) (pair : Pair) → place < table.capacity
    → IsOutsidePairs table at → slice_get (with_pair words table.at place pair) at ≡ slice_get words at
beside_put words table place at pair below beside =
    let first : List ℕ = slice_set words (table.at + key_offset place) pair.key in
    let not_key : at ≢ table.at + key_offset place = λ same. elim beside [
      | inl before ↦ omega (arith, before, same)
      | inr behind ↦ omega (arith, behind, same, below)
    ] in
    let not_value : at ≢ table.at + value_offset place = λ same. elim beside [
      | inl before ↦ omega (arith, before, same)
      | inr behind ↦ omega (arith, behind, same, below)
    ] in
    slice_get-set_other first (table.at + value_offset place) at pair.value not_value
    ∙ slice_get-set_other words (table.at + key_offset place) at pair.key not_key

-- as many words stand
pub length-with_pair : (words : List ℕ) (table place : ℕ) (pair : Pair)
    → length (with_pair words table place pair) ≡ length words
length-with_pair words table place pair =
    length-set (slice_set words (table + key_offset place) pair.key) (table + value_offset place) pair.value
    ∙ length-set words (table + key_offset place) pair.key

-- the word of the key that was put
key_put : (words : List ℕ) (table place : ℕ) (pair : Pair) → table + value_offset place < length words
    → slice_get (with_pair words table place pair) (table + key_offset place) ≡ Some pair.key
key_put words table place pair within =
    slice_get-set_other (slice_set words (table + key_offset place) pair.key) (table + value_offset place)
    (table + key_offset place) pair.value (λ same. omega (arith, same))
    ∙ slice_get-set_same words (table + key_offset place) pair.key (omega (arith, within))

-- the word of the value that was put
value_put : (words : List ℕ) (table place : ℕ) (pair : Pair) → table + value_offset place < length words
    → slice_get (with_pair words table place pair) (table + value_offset place) ≡ Some pair.value
value_put words table place pair within =
    slice_get-set_same (slice_set words (table + key_offset place) pair.key) (table + value_offset place) pair.value
    (omega (arith, within, length-set words (table + key_offset place) pair.key))

-- the word of another pair's key stays
key_other : (words : List ℕ) (table place other : ℕ) (pair : Pair) → other ≢ place
    → slice_get (with_pair words table place pair) (table + key_offset other)
    ≡ slice_get words (table + key_offset other)
key_other words table place other pair apart =
    slice_get-set_other (slice_set words (table + key_offset place) pair.key) (table + value_offset place)
    (table + key_offset other) pair.value (λ same. omega (arith, same))
    ∙ slice_get-set_other words (table + key_offset place) (table + key_offset other) pair.key
    (λ same. apart (omega (arith, same)))

-- the word of the value of another pair stays
value_other : (words : List ℕ) (table place other : ℕ) (pair : Pair) → other ≢ place
    → slice_get (with_pair words table place pair) (table + value_offset other)
    ≡ slice_get words (table + value_offset other)
value_other words table place other pair apart =
    slice_get-set_other (slice_set words (table + key_offset place) pair.key) (table + value_offset place)
    (table + value_offset other) pair.value (λ same. apart (omega (arith, same)))
    ∙ slice_get-set_other words (table + key_offset place) (table + value_offset other) pair.key
    (λ same. omega (arith, same))

-- what stands at the place where a pair was put is that pair
pub at_place : (pairs : List Pair) (place : ℕ) (pair found : Pair)
    → slice_get (slice_set pairs place pair) place ≡ Some found
    → pair ≡ found
at_place pairs place pair found there =
    let within : place < length pairs =
    omega (arith, slice_get_within (slice_set pairs place pair) place found there, length-set pairs place pair) in
    same_Some pair found (sym (slice_get-set_same pairs place pair within) ∙ there)

-- with a pair put the pairs are those with it
pub pairs_put : (words : List ℕ) (table : Table) (pairs : List Pair) (place : ℕ) (pair : Pair)
    → table.at + (store_head + 2 * table.capacity) ≤ length words → place < table.capacity
    → ArePairsIn words table pairs
    → ArePairsIn (with_pair words table.at place pair) table (slice_set pairs place pair)
pairs_put words table pairs place pair within below are = record {
  long = length-set pairs place pair ∙ are.long;
  keys = λ other found there. elim (cases_eq other place) [
    | inl same ↦
        let found_is = at_place pairs place pair found
        (ap (slice_get (slice_set pairs place pair)) (sym same) ∙ there) in
        ap (λ n. slice_get (with_pair words table.at place pair) (table.at + key_offset n)) same
        ∙ key_put words table.at place pair (omega (arith, within, below)) ∙ ap (λ (p : Pair). Some p.key) found_is
    | inr apart ↦ key_other words table.at place other pair apart
        ∙ are.keys other found (sym (slice_get-set_other pairs place other pair apart) ∙ there)
  ];
  values = λ other found there. elim (cases_eq other place) [
    | inl same ↦
        let found_is = at_place pairs place pair found
        (ap (slice_get (slice_set pairs place pair)) (sym same) ∙ there) in
        ap (λ n. slice_get (with_pair words table.at place pair) (table.at + value_offset n)) same
        ∙ value_put words table.at place pair (omega (arith, within, below)) ∙ ap (λ (p : Pair). Some p.value) found_is
    | inr apart ↦ value_other words table.at place other pair apart
        ∙ are.values other found (sym (slice_get-set_other pairs place other pair apart) ∙ there)
  ];
}

-- the pairs that are read are those with the one that was put
pub pairs_now : (words : List ℕ) (table : Table) (place : ℕ) (pair : Pair)
    → table.at + (store_head + 2 * table.capacity) ≤ length words → place < table.capacity
    → pairs_of (with_pair words table.at place pair) table ≡ slice_set (pairs_of words table) place pair
pairs_now words table place pair within below =
    pairs_are (with_pair words table.at place pair) table (slice_set (pairs_of words table) place pair)
    (omega (arith, within, length-with_pair words table.at place pair))
    (pairs_put words table (pairs_of words table) place pair within below (pairs_read words table within))

-- the pairs stay where a word beside them is put
pub pairs_beside : (words : List ℕ) (table : Table) (at word : ℕ)
    → table.at + (store_head + 2 * table.capacity) ≤ length words
    → IsOutsidePairs table at → pairs_of (slice_set words at word) table ≡ pairs_of words table
pairs_beside words table at word within beside =
    pairs_stay words (slice_set words at word) table within (length-set words at word) (λ a from below.
    slice_get-set_other words at a word (λ same. elim beside [
      | inl before ↦ omega (arith, before, from, same)
      | inr behind ↦ omega (arith, behind, below, same)
    ]))
