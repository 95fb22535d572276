-- What is found of the pairs of a table.
use Rattle.std.proofs.Common.{◌≡◌, ◌≢◌, ℕ, Option, ◌+◌, ◌*◌, ◌≤◌, ◌<◌, inl, inr, List, Some, slice_get, sym, ◌∙◌, ap}
use Rattle.std.proofs.Common.{subst, arith}
use Rattle.std.proofs.lemmas.Bool.{cases_lt}
use Rattle.std.proofs.lemmas.Option.{same_Some}
use Rattle.heap_model.specs.Heaps.{Heap}
use Rattle.heap_model.specs.Slots.{hole_word, RefersToPlace, RefersToObject, IsValueWord}
use Rattle.heap_model.specs.Kinds.{Pair, IsProbed}
use Rattle.heap_model.proofs.NewKeys.{one_number}
use Rattle.heap_model.proofs.WordClasses.{hole_refers_not}
use Rattle.image_walk.specs.declared.spans.Span.{Span}
use Rattle.image_walk.specs.TablePairs.{table_pairs}
use Rattle.heap_check.specs.HeldPairs.{IsHeldPair, AreHeldPairs}
use Rattle.heap_check.proofs.ProbedPairs.{two_holes}
use Rattle.heap_check.specs.declared.flaw.Flaw.{Flaw}
use Rattle.heap_check.specs.Firsts.{IsFirst, IsVerdict, asked_of}
use Rattle.heap_check.specs.Cells.{BreaksPair}
use Rattle.heap_check.specs.SpanFlaws.{BreaksPairs, BreaksWord}
use Rattle.heap_check.proofs.JoinedFinds.{Includes, Excludes, NoneBelow, first_is, finds_same}

-- the hole refers to no object
hole_no_object : {heap : Heap} {word number : ℕ} → word ≡ hole_word → RefersToPlace heap word number → ⊥
hole_no_object hole to = hole_refers_not to.at (sym hole ∙ to.refers)

-- a breach of a pair is at its key
pairs_behind : (heap : Heap) (from : ℕ) (pairs : List Pair) (place : ℕ) (pair : Pair)
    → NoneBelow (BreaksPair heap from pairs place pair) (from + 2 * place)
pairs_behind heap from pairs place pair _ _ _ (BreaksPair.key other not) = omega arith
pairs_behind heap from pairs place pair _ _ _ (BreaksPair.no_value hole other) = omega arith
pairs_behind heap from pairs place pair _ _ _ (BreaksPair.value to wrong) = omega arith
pairs_behind heap from pairs place pair _ _ _ (BreaksPair.misplaced number to wrong) = omega arith

-- or at its value
pairs_within : (heap : Heap) (from : ℕ) (pairs : List Pair) (place : ℕ) (pair : Pair) (at found wanted : ℕ)
    → BreaksPair heap from pairs place pair at found wanted → at ≤ from + 2 * place + 1
pairs_within heap from pairs place pair _ _ _ (BreaksPair.key other not) = omega arith
pairs_within heap from pairs place pair _ _ _ (BreaksPair.no_value hole other) = omega arith
pairs_within heap from pairs place pair _ _ _ (BreaksPair.value to wrong) = omega arith
pairs_within heap from pairs place pair _ _ _ (BreaksPair.misplaced number to wrong) = omega arith

-- a pair that holds nothing, or an entry where probing finds it, has none
pub pair_excludes : (heap : Heap) (from : ℕ) (pairs : List Pair) (place : ℕ) (pair : Pair)
    → Excludes (BreaksPair heap from pairs place pair) (IsHeldPair heap pairs place pair)
pair_excludes heap from pairs place pair _ _ _ (BreaksPair.key other not) (inl free) =
    other (ap (λ (p : Pair). p.key) free)
pair_excludes heap from pairs place pair _ _ _ (BreaksPair.key other not) (inr held) =
    not (held.number, held.filled.key)
pair_excludes heap from pairs place pair _ _ _ (BreaksPair.no_value hole other) (inl free) =
    other (ap (λ (p : Pair). p.value) free)
pair_excludes heap from pairs place pair _ _ _ (BreaksPair.no_value hole other) (inr held) =
    hole_no_object hole held.filled.key
pair_excludes heap from pairs place pair _ _ _ (BreaksPair.value to wrong) (inl free) =
    hole_no_object (ap (λ (p : Pair). p.key) free) to.1
pair_excludes heap from pairs place pair _ _ _ (BreaksPair.value to wrong) (inr held) = wrong held.filled.value
pair_excludes heap from pairs place pair _ _ _ (BreaksPair.misplaced number to wrong) (inl free) =
    hole_no_object (ap (λ (p : Pair). p.key) free) to
pair_excludes heap from pairs place pair _ _ _ (BreaksPair.misplaced number to wrong) (inr held) =
    let same = one_number heap pair.key held.number number held.filled.key to in
    wrong (subst (λ n. IsProbed pairs n place) same held.probed)

-- beside a hole the value's slot is the only one that may be wrong
hole_to : (heap : Heap) (from : ℕ) (pairs : List Pair) (place : ℕ) (pair : Pair) → pair.key ≡ hole_word
    → Includes (BreaksWord (from + 2 * place + 1) pair.value (λ word. word ≡ hole_word) (λ word. hole_word))
    (BreaksPair heap from pairs place pair)
hole_to heap from pairs place pair hole _ _ _ (BreaksWord.word wrong) = BreaksPair.no_value hole wrong

-- and it is wrong where the pair is broken
hole_from : (heap : Heap) (from : ℕ) (pairs : List Pair) (place : ℕ) (pair : Pair) → pair.key ≡ hole_word
    → Includes (BreaksPair heap from pairs place pair)
    (BreaksWord (from + 2 * place + 1) pair.value (λ word. word ≡ hole_word) (λ word. hole_word))
hole_from heap from pairs place pair hole _ _ _ (BreaksPair.key other not) = absurd (other hole)
hole_from heap from pairs place pair hole _ _ _ (BreaksPair.no_value is other) = BreaksWord.word other
hole_from heap from pairs place pair hole _ _ _ (BreaksPair.value to wrong) = absurd (hole_no_object hole to.1)
hole_from heap from pairs place pair hole _ _ _ (BreaksPair.misplaced number to wrong) =
    absurd (hole_no_object hole to)

-- what is found of the value beside a hole is found of the pair
pub pair_of_hole : (heap : Heap) (from : ℕ) (pairs : List Pair) (place : ℕ) (pair : Pair) (found : Option Flaw)
    → pair.key ≡ hole_word
    → IsVerdict (pair.value ≡ hole_word)
    (BreaksWord (from + 2 * place + 1) pair.value (λ word. word ≡ hole_word) (λ word. hole_word)) found
    → IsVerdict (IsHeldPair heap pairs place pair) (BreaksPair heap from pairs place pair) found
pair_of_hole heap from pairs place pair found hole finds =
    finds_same (pair.value ≡ hole_word) (IsHeldPair heap pairs place pair)
    (BreaksWord (from + 2 * place + 1) pair.value (λ word. word ≡ hole_word) (λ word. hole_word))
    (BreaksPair heap from pairs place pair) found (λ value. inl (two_holes pair hole value))
    (hole_to heap from pairs place pair hole) (hole_from heap from pairs place pair hole) finds

-- a key that is neither the hole nor an object is the first breach of its pair
pub first_no_key : (heap : Heap) (from : ℕ) (pairs : List Pair) (place : ℕ) (pair : Pair) (flaw : Flaw)
    → pair.key ≢ hole_word → (RefersToObject heap pair.key → ⊥)
    → flaw ≡ record { at = from + 2 * place; found = pair.key; wanted = asked_of pair.key }
    → IsFirst (BreaksPair heap from pairs place pair) flaw
first_no_key heap from pairs place pair flaw other not is =
    first_is (BreaksPair heap from pairs place pair) flaw (from + 2 * place) pair.key (asked_of pair.key) is
    (BreaksPair.key other not) (pairs_behind heap from pairs place pair)

-- so is a key in a place to which probing does not come
pub first_misplaced : (heap : Heap) (from : ℕ) (pairs : List Pair) (place : ℕ) (pair : Pair) (number : ℕ) (flaw : Flaw)
    → RefersToPlace heap pair.key number → (IsProbed pairs number place → ⊥)
    → flaw ≡ record { at = from + 2 * place; found = pair.key; wanted = hole_word }
    → IsFirst (BreaksPair heap from pairs place pair) flaw
first_misplaced heap from pairs place pair number flaw to wrong is =
    first_is (BreaksPair heap from pairs place pair) flaw (from + 2 * place) pair.key hole_word is
    (BreaksPair.misplaced number to wrong) (pairs_behind heap from pairs place pair)

-- beside a key in its place no breach is before the value
values_behind : (heap : Heap) (from : ℕ) (pairs : List Pair) (place : ℕ) (pair : Pair) (number : ℕ)
    → RefersToPlace heap pair.key number → IsProbed pairs number place
    → NoneBelow (BreaksPair heap from pairs place pair) (from + 2 * place + 1)
values_behind heap from pairs place pair number to probed _ _ _ (BreaksPair.key other not) = absurd (not (number, to))
values_behind heap from pairs place pair number to probed _ _ _ (BreaksPair.no_value hole other) =
    absurd (hole_no_object hole to)
values_behind heap from pairs place pair number to probed _ _ _ (BreaksPair.value is wrong) = omega arith
values_behind heap from pairs place pair number to probed _ _ _ (BreaksPair.misplaced other is wrong) =
    absurd (wrong (subst (λ n. IsProbed pairs n place) (one_number heap pair.key number other to is) probed))

-- so a value that is none is the first
pub first_no_value : (heap : Heap) (from : ℕ) (pairs : List Pair) (place : ℕ) (pair : Pair) (number : ℕ) (flaw : Flaw)
    → RefersToPlace heap pair.key number → IsProbed pairs number place → (IsValueWord heap pair.value → ⊥)
    → flaw ≡ record { at = from + 2 * place + 1; found = pair.value; wanted = asked_of pair.value }
    → IsFirst (BreaksPair heap from pairs place pair) flaw
first_no_value heap from pairs place pair number flaw to probed wrong is =
    first_is (BreaksPair heap from pairs place pair) flaw (from + 2 * place + 1) pair.value (asked_of pair.value) is
    (BreaksPair.value (number, to) wrong) (values_behind heap from pairs place pair number to probed)

-- the pairs of a table before a place hold nothing, or entries where probing finds them
abbrev pub HeldBefore : Heap → Span → ℕ → Type 0
HeldBefore heap table least =
    (place : ℕ) → place < least → (pair : Pair) → slice_get (table_pairs heap table) place ≡ Some pair
    → IsHeldPair heap (table_pairs heap table) place pair

-- then no breach of the table is before the first of the next pair
none_before : (heap : Heap) (table : Span) (least : ℕ) (pair : Pair) (flaw : Flaw) → HeldBefore heap table least
    → slice_get (table_pairs heap table) least ≡ Some pair
    → IsFirst (BreaksPair heap table.from (table_pairs heap table) least pair) flaw
    → NoneBelow (BreaksPairs heap table) flaw.at
none_before heap table least pair flaw held there is _ _ _ (BreaksPairs.pair place at found wanted other here breaks) =
    let pairs : List Pair = table_pairs heap table in
    elim (cases_lt place least) [
      | inl early ↦
          absurd (pair_excludes heap table.from pairs place other at found wanted breaks (held place early other here))
      | inr late ↦ elim (cases_lt least place) [
        | inl behind ↦
            omega (
              arith,
              pairs_within heap table.from pairs least pair flaw.at flaw.found flaw.wanted is.breaks,
              pairs_behind heap table.from pairs place other at found wanted breaks,
            )
        | inr before ↦
            let same : place ≡ least = omega arith in
            let one : other ≡ pair = same_Some _ _ (sym here ∙ ap (slice_get pairs) same ∙ there) in
            is.first at found wanted
            (subst (λ n. BreaksPair heap table.from pairs n pair at found wanted) same
            (subst (λ (p : Pair). BreaksPair heap table.from pairs place p at found wanted) one breaks))
      ]
    ]

-- so that one is the first of the table
pub first_of_pairs : (heap : Heap) (table : Span) (least : ℕ) (pair : Pair) (flaw : Flaw) → HeldBefore heap table least
    → slice_get (table_pairs heap table) least ≡ Some pair
    → IsFirst (BreaksPair heap table.from (table_pairs heap table) least pair) flaw
    → IsFirst (BreaksPairs heap table) flaw
first_of_pairs heap table least pair flaw held there is = record {
  breaks = BreaksPairs.pair least flaw.at flaw.found flaw.wanted pair there is.breaks;
  first = none_before heap table least pair flaw held there is;
}

-- a table whose pairs hold nothing, or entries where probing finds them, has no breach
pub pairs_exclude : (heap : Heap) (table : Span)
    → Excludes (BreaksPairs heap table) (AreHeldPairs heap (table_pairs heap table))
pairs_exclude heap table _ _ _ (BreaksPairs.pair place at found wanted pair there breaks) held =
    pair_excludes heap table.from (table_pairs heap table) place pair at found wanted breaks (held place pair there)
