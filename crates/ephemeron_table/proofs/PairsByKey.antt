-- Which pairs of a weak map that is shown have the word of a key.
use Rattle.std.proofs.Common.{◌≡◌, ℕ, List, None, Some, sym, ◌∙◌, ap, slice_get}
use Rattle.heap_model.specs.Types.{Value}
use Rattle.object_graph.specs.Objects.{entry_value}
use Rattle.object_graph.specs.Graphs.{Graph, WeakObject}
use Rattle.heap_model.specs.Slots.{reference_word, RefersToPlace}
use Rattle.heap_model.specs.Kinds.{Pair}
use Rattle.write_barrier.specs.MutatorState.{Mutator, heap_of, MainShows}
use Rattle.ephemeron_table.specs.WeakObjects.{IsKeyAt}
use Rattle.weak_pairs.specs.Pairs.{HasPairsAt, IsPairOf, LacksPair}
use Rattle.weak_pairs.specs.declared.table.Table.{Table}
use Rattle.ephemeron_table.proofs.KeysFound.{WeakShown, shown_pairs, key_filled, one_key, entry_has_key, TellsPair}
use Rattle.ephemeron_table.proofs.KnownTables.{KnownMap}
use Rattle.ephemeron_table.proofs.NoPair.{no_pair}
use Rattle.ephemeron_table.proofs.RemovedPairs.{pairs_known}

-- its pairs are those that are shown
pub pairs_shown : {main : Mutator} {graph : Graph} {map : ℕ} {weak : WeakObject} {table : Table} {pairs : List Pair}
    → KnownMap main map table → (shown : WeakShown main graph map weak) → HasPairsAt (heap_of main) map pairs
    → shown.shows.pairs ≡ pairs
pairs_shown known shown has = sym (pairs_known known (shown_pairs shown)) ∙ pairs_known known has

module _ {main : Mutator} {graph : Graph} {map key : ℕ} {weak : WeakObject} {number : ℕ} {pairs : List Pair}
    (shown : WeakShown main graph map weak) (is_key : IsKeyAt main graph key number)
    (same : shown.shows.pairs ≡ pairs) where
  -- a pair that has the word of the key is shown
  stands_shown : (place : ℕ) (pair : Pair) → IsPairOf pairs (reference_word key) place pair
      → slice_get shown.shows.pairs place ≡ Some pair
  stands_shown place pair its = ap (λ all. slice_get all place) same ∙ its.filled.stands

  -- and refers to the key's object
  refers_key : (pair : Pair) → pair.key ≡ reference_word key → RefersToPlace (heap_of main) pair.key number
  refers_key pair is = record { at = key; refers = is; place = is_key.place }

  -- where no entry has the key, none has its word
  pub lacks_pair : entry_value weak.entries number ≡ None → LacksPair pairs (reference_word key)
  lacks_pair fresh place pair its =
      no_pair shown is_key fresh place pair (stands_shown place pair its) its.filled.filled (refers_key pair its.key_is)

  -- where an entry has it, one does
  pub has_pair : MainShows main graph → (value : Value) → entry_value weak.entries number ≡ Some value
      → (place : ℕ) × (pair : Pair) × IsPairOf pairs (reference_word key) place pair
  has_pair shows value is =
      let found = entry_has_key value shows shown is_key is in (
        found.place,
        found.pair,
        record {
          filled = record {
            stands = ap (λ all. slice_get all found.place) (sym same) ∙ found.there;
            filled = key_filled found.pair key found.key_is;
          };
          key_is = found.key_is;
        },
      )

  -- and one alone
  pub one_pair_of : (value : Value) → entry_value weak.entries number ≡ Some value
      → (place other : ℕ) (pair another : Pair)
      → IsPairOf pairs (reference_word key) place pair → IsPairOf pairs (reference_word key) other another
      → place ≡ other
  one_pair_of value is place other pair another its theirs =
      one_key value place other pair another shown is_key is (stands_shown place pair its)
      (stands_shown other another theirs) (refers_key pair its.key_is) (refers_key another theirs.key_is)

  -- the pair at which probing for the key ends has it
  pub told_pair : (table : Table) (place : ℕ)
      → (told : TellsPair main shown.shows.pairs table place key weak.entries number)
      → IsPairOf pairs (reference_word key) place told.pair
  told_pair table place told = record {
    filled = record {
      stands = ap (λ all. slice_get all place) (sym same) ∙ told.there;
      filled = key_filled told.pair key told.key_is;
    };
    key_is = told.key_is;
  }
