-- The pair of a key that is new came to a free place of a weak map's table: so its entry is put.
use Rattle.std.proofs.Common.{◌≡◌, ℕ, ◌+◌, ◌<◌, inl, inr, List, length, None, Some, slice_get, sym, ◌∙◌, ap, subst}
use Rattle.std.proofs.Common.{arith}
use Rattle.std.specs.Prelude.{slice_set, option_map}
use Rattle.std.proofs.lemmas.List.{map-set}
use Rattle.std.proofs.lemmas.Option.{none-some, same_Some, slice_get-map, slice_get_within}
use Rattle.object_graph.specs.Graphs.{Graph, WeakObject}
use Rattle.linear_probing.specs.Tables.{place_after, EndsAt, FindsAll, HoldsNumber, IsFree}
use Rattle.linear_probing.proofs.Findings.{put_is_found}
use Rattle.write_barrier.specs.Seats.{heap_words}
use Rattle.heap_model.specs.Slots.{reference_word, hole_word, RefersToPlace}
use Rattle.heap_model.specs.Kinds.{Pair, free_pair}
use Rattle.heap_model.specs.Needs.{count_at}
use Rattle.heap_model.proofs.WordClasses.{hole_refers_not}
use Rattle.write_barrier.specs.MutatorState.{Mutator, heap_of}
use Rattle.weak_pairs.specs.Pairs.{IsFilledAt}
use Rattle.weak_pairs.specs.Probes.{ProbesTo, IsPassed}
use Rattle.weak_pairs.specs.Tables.{key_in, numbers, key_number, pairs_of}
use Rattle.weak_pairs.specs.declared.table.Table.{Table}
use Rattle.weak_pairs.proofs.PairNumbers.{ReadsPair, reads_pair, length-numbers, number_place}
use Rattle.weak_pairs.proofs.CountedPairs.{count_filled, count_put}
use Rattle.ephemeron_table.proofs.KeysFound.{key_filled}
use Rattle.ephemeron_table.proofs.KeysProbed.{comes_within}
use Rattle.ephemeron_table.proofs.KnownTables.{sound, pairs_same, pairs_long, within_words, each_found, number_found}
use Rattle.ephemeron_table.proofs.KnownTables.{numbered_filled, finds_all, count_is}
use Rattle.ephemeron_table.proofs.NewKeys.{LacksKey, known, no_pair_refers}

-- Probing for a key that no entry has came to a place where the table is free.
pub record ComesToFree (old : Mutator) (graph : Graph) (map key : ℕ) (weak : WeakObject) (number place : ℕ)
    (table : Table) : Type 0 where
  pub lacks : LacksKey old graph map key weak number table
  pub comes : ProbesTo (heap_of old) table number (reference_word key) place
  pub free : key_in (heap_of old) table.at place ≡ hole_word

module _ {old : Mutator} {graph : Graph} {map key : ℕ} {weak : WeakObject} {number place : ℕ} {table : Table}
    (ends : ComesToFree old graph map key weak number place table) where
  abbrev before : List Pair
  before = pairs_of (heap_words old.seat) table

  pub below : place < table.capacity
  below = comes_within ends.comes

  -- the pair at the place is free
  pub free_there : slice_get before place ≡ Some free_pair
  free_there =
      let here : ReadsPair (heap_of old) table place =
      reads_pair (heap_of old) table place (within_words (known ends.lacks)) below in
      elim ((sound (known ends.lacks)).each place here.pair
      (ap (λ all. slice_get all place) (sym (pairs_same (known ends.lacks))) ∙ here.there)) [
        | inl free ↦ here.there ∙ ap (λ (one : Pair). Some one) free
        | inr found ↦
            let refers = found.filled.key in
            absurd (hole_refers_not refers.at (sym ends.free ∙ here.key ∙ refers.refers))
      ]

  -- so its number is none
  free_number : IsFree (numbers (heap_of old) before) place
  free_number =
      slice_get-map (key_number (heap_of old)) before place ∙ ap (option_map (key_number (heap_of old))) free_there

  -- a pair that holds nothing is not passed
  passed_not_free : (at : ℕ) → IsPassed (heap_of old) table (reference_word key) at
      → slice_get before at ≡ Some free_pair → ⊥
  passed_not_free at passed there =
      let within : at < table.capacity =
      omega (arith, slice_get_within before at free_pair there, pairs_long (known ends.lacks)) in
      let here : ReadsPair (heap_of old) table at =
      reads_pair (heap_of old) table at (within_words (known ends.lacks)) within in
      let same : here.pair ≡ free_pair = same_Some here.pair free_pair (sym here.there ∙ there) in
      passed.filled (here.key ∙ ap (λ (one : Pair). one.key) same)

  -- a pair with no number holds nothing
  no_number_free : (at : ℕ) (one : Pair) → slice_get before at ≡ Some one → key_number (heap_of old) one ≡ None
      → one ≡ free_pair
  no_number_free at one there none =
      elim ((sound (known ends.lacks)).each at one
      (ap (λ all. slice_get all at) (sym (pairs_same (known ends.lacks))) ∙ there)) [
        | inl free ↦ free
        | inr found ↦
            let is = number_found (known ends.lacks) one found.number found.filled.key in
            absurd (none-some found.number (sym none ∙ is))
      ]

  -- no pair has the number of the key
  number_nowhere : (at : ℕ) → HoldsNumber (numbers (heap_of old) before) at number → ⊥
  number_nowhere at holds =
      let here = number_place (heap_of old) before at (Some number) holds in
      let filled = numbered_filled (known ends.lacks) here.0 number here.2 in
      let found = each_found (known ends.lacks) at here.0 here.1 filled in
      let same : found.number ≡ number =
      same_Some found.number number
      (sym (number_found (known ends.lacks) here.0 found.number found.filled.key) ∙ here.2) in
      no_pair_refers ends.lacks at here.0 (record { stands = here.1; filled = filled })
      (subst (RefersToPlace (heap_of old) here.0.key) same found.filled.key)

  -- probing for it ends at the place
  ends_at : EndsAt (numbers (heap_of old) before) number place
  ends_at =
      let heap = heap_of old in
      let long : length (numbers heap before) ≡ table.capacity =
      length-numbers heap before ∙ pairs_long (known ends.lacks) in
      let steps : ℕ = ends.comes.steps in
      let few : steps < table.capacity = ends.comes.few in
      record {
        steps = steps;
        within = omega (arith, long, few);
        comes = ends.comes.comes ∙ ap (λ n. place_after n number steps) (sym long);
        filled = λ one sooner free.
            let at : ℕ = place_after (length (numbers heap before)) number one in
            let here = number_place heap before at None free in
            passed_not_free at
            (subst (λ n. IsPassed heap table (reference_word key) (place_after n number one)) (sym long)
            (ends.comes.passes one sooner))
            (here.1 ∙ ap (λ (p : Pair). Some p) (no_number_free at here.0 here.1 here.2));
        unmet = λ one sooner holds. number_nowhere (place_after (length (numbers heap before)) number one) holds;
      }

  -- probing finds all once a pair with the key is put there
  pub finds_put : (put : Pair) → put.key ≡ reference_word key
      → FindsAll (numbers (heap_of old) (slice_set before place put))
  finds_put put is =
      let heap = heap_of old in
      let number_is : key_number heap put ≡ Some number =
      number_found (known ends.lacks) put number (record { at = key; refers = is; place = ends.lacks.is_key.place }) in
      let same : numbers heap (slice_set before place put) ≡ slice_set (numbers heap before) place (Some number) =
      map-set (key_number heap) before place put ∙ ap (λ one. slice_set (numbers heap before) place one) number_is in
      subst FindsAll (sym same)
      (put_is_found (numbers heap before) number place (finds_all (known ends.lacks)) ends_at free_number)

  -- and one more pair holds something
  pub counted_put : (put : Pair) → put.key ≡ reference_word key
      → count_at (heap_of old) map + 1 ≡ count_filled (slice_set before place put)
  counted_put put is =
      omega (arith, count_is (known ends.lacks), count_put before place put free_there (key_filled put key is))

  -- no pair at the place holds something
  pub not_filled : (one : Pair) → IsFilledAt before place one → ⊥
  not_filled one filled = filled.filled (sym (same_Some free_pair one (sym free_there ∙ filled.stands)))
