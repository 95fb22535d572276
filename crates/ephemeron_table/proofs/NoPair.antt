-- Where a weak map has no entry of a key, no pair of its table has the key.
use Rattle.std.proofs.Common.{◌≡◌, ◌≢◌, ℕ, ◌<◌}
use Rattle.std.proofs.Common.{Some, None, slice_get}
use Rattle.std.proofs.Common.{sym, ◌∙◌, ap, subst, arith, unwrap_or, get_or}
use Rattle.std.specs.Prelude.{IsFalse}
use Rattle.std.proofs.lemmas.Bool.{false≢true}
use Rattle.std.proofs.lemmas.Option.{slice_get-get_or}
use Rattle.object_graph.specs.Graphs.{Graph, WeakObject}
use Rattle.object_graph.specs.Objects.{entry_value}
use Rattle.object_graph.specs.Reach.{is_marked, reach}
use Rattle.heap_model.specs.Slots.{reference_word, RefersToPlace}
use Rattle.heap_model.specs.Kinds.{Pair, free_pair}
use Rattle.heap_model.specs.Showing.{IsKnownKey}
use Rattle.write_barrier.specs.MutatorState.{Mutator, heap_of}
use Rattle.ephemeron_table.specs.Probes.{IsTableAt}
use Rattle.weak_pairs.specs.Tables.{key_in}
use Rattle.ephemeron_table.specs.WeakObjects.{IsKeyAt}
use Rattle.weak_pairs.specs.declared.table.Table.{Table}
use Rattle.weak_pairs.proofs.EntriesFound.{entry_apart}
use Rattle.ephemeron_table.proofs.KeysFound.{WeakShown, key_filled, shown_pairs}
use Rattle.heap_model.proofs.NewKeys.{one_number}

module _ {main : Mutator} {graph : Graph} {map key : ℕ} {weak : WeakObject} {number : ℕ}
    (shown : WeakShown main graph map weak) (is_key : IsKeyAt main graph key number)
    (fresh : entry_value weak.entries number ≡ None) where
  -- a pair whose key is known is of another key
  known_apart : (pair : Pair) → RefersToPlace (heap_of main) pair.key number
      → IsKnownKey (heap_of main) (reach graph) weak.entries pair → ⊥
  known_apart pair refers (IsKnownKey.of_entry entry at stands marked names) =
      entry_apart weak.entries number at entry fresh stands
      (one_number (heap_of main) pair.key entry.key number names refers)
  known_apart pair refers (IsKnownKey.unreached other names not) =
      let same : other ≡ number = one_number (heap_of main) pair.key other number names refers in
      false≢true (sym (subst (λ n. IsFalse (is_marked (reach graph) n)) same not) ∙ is_key.reached)

  -- so no pair that holds something is of the key
  pub no_pair : (place : ℕ) (pair : Pair) → slice_get shown.shows.pairs place ≡ Some pair → pair ≢ free_pair
      → RefersToPlace (heap_of main) pair.key number → ⊥
  no_pair place pair there filled refers = known_apart pair refers (shown.shows.others place pair there filled)

  -- and none has its word
  pub no_key : (table : Table) (place : ℕ) → IsTableAt (heap_of main) map table → place < table.capacity
      → key_in (heap_of main) table.at place ≢ reference_word key
  no_key table place is below has =
      let pairs = shown.shows.pairs in
      let stand = is.pairs pairs (shown_pairs shown) in
      let pair : Pair = get_or pairs place free_pair in
      let there : slice_get pairs place ≡ Some pair =
      slice_get-get_or pairs place free_pair (omega (arith, stand.long, below)) in
      let key_is : pair.key ≡ reference_word key =
      sym (ap (λ found. unwrap_or found 0) (stand.keys place pair there)) ∙ has in
      no_pair place pair there (key_filled pair key key_is)
      (record { at = key; refers = key_is; place = is_key.place })
