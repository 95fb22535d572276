-- What is told of the pair of a key is what its value stands for.
use Rattle.std.proofs.Common.{◌≡◌, ℕ, List, Some, None, unwrap_or, refl, sym, ◌∙◌, ap, subst}
use Rattle.std.proofs.lemmas.Option.{same_Some}
use Rattle.page_space.specs.Sizes.{AreWithin}
use Rattle.object_graph.specs.declared.value.Value.TheVariants.{Undefined as NoValue}
use Rattle.object_graph.specs.Objects.{entry_value}
use Rattle.object_graph.specs.Graphs.{Graph, WeakObject}
use Rattle.heap_model.specs.Types.{Held}
use Rattle.handle_roots.specs.declared.held.Held.TheVariants.{Undefined}
use Rattle.heap_model.specs.Kinds.{Pair}
use Rattle.heap_model.specs.Showing.{ShowsHeld}
use Rattle.heap_model.specs.Slots.{reference_word}
use Rattle.std.specs.Prelude.{slice_get}
use Rattle.write_barrier.specs.MutatorState.{Mutator, heap_of, MainShows}
use Rattle.ephemeron_table.specs.WeakObjects.{IsKeyAt, IsShownKey, IsWeakAt}
use Rattle.ephemeron_table.specs.EntryChanges.{TellsEntry}
use Rattle.weak_pairs.specs.Pairs.{HasPairsAt, IsPairOf}
use Rattle.ephemeron_table.specs.PairChanges.{WordStandsFor, TellsPairValue}
use Rattle.ephemeron_table.specs.Probes.{IsTableAt}
use Rattle.weak_pairs.specs.declared.table.Table.{Table}
use Rattle.ephemeron_table.proofs.KeysFound.{WeakShown, weak_shown, TellsPair}
use Rattle.ephemeron_table.proofs.KeysProbed.{LacksEntry}
use Rattle.ephemeron_table.proofs.KnownTables.{shown_known}
use Rattle.ephemeron_table.proofs.PairsByKey.{lacks_pair, one_pair_of, pairs_shown, told_pair}

-- each pair that has the key is the one that was found
pub tells_pair_value : {main : Mutator} {graph : Graph} {map key : ℕ} {weak : WeakObject} {number place : ℕ}
    {table : Table}
    {pairs : List Pair} {told_value : Held} → (shows : MainShows main graph) → (is : IsWeakAt main graph map weak)
    → IsKeyAt main graph key number → AreWithin main.seat.space.sizes main.seat.space.variables
    → IsTableAt (heap_of main) map table
    → (told : TellsPair main (weak_shown shows is).shows.pairs table place key weak.entries number)
    → HasPairsAt (heap_of main) map pairs → WordStandsFor (heap_of main) told.pair.value told_value
    → TellsPairValue main key pairs told_value
tells_pair_value {main} {graph} {map} {key} {weak} {number} {place} {table} {pairs} {told_value} shows is is_key sizes
    is_table told has stands =
    let shown : WeakShown main graph map weak = weak_shown shows is in
    let same : shown.shows.pairs ≡ pairs = pairs_shown (shown_known shows is sizes is_table) shown has in
    let its : IsPairOf pairs (reference_word key) place told.pair = told_pair shown is_key same table place told in
    record {
      there = λ at pair theirs.
          let one = one_pair_of shown is_key same told.value told.is_entry place at told.pair pair its theirs in
          let is_pair : told.pair ≡ pair =
          same_Some told.pair pair (sym its.filled.stands ∙ ap (slice_get pairs) one ∙ theirs.filled.stands) in
          subst (λ (p : Pair). WordStandsFor (heap_of main) p.value told_value) is_pair stands;
      none = λ lacks. absurd (lacks place told.pair its);
    }

-- where no entry has the key, no pair does
pub tells_no_pair : {main : Mutator} {graph : Graph} {map key : ℕ} {weak : WeakObject} {number : ℕ} {table : Table}
    {pairs : List Pair} → (shows : MainShows main graph) → (is : IsWeakAt main graph map weak)
    → IsKeyAt main graph key number → AreWithin main.seat.space.sizes main.seat.space.variables
    → IsTableAt (heap_of main) map table → entry_value weak.entries number ≡ None → HasPairsAt (heap_of main) map pairs
    → TellsPairValue main key pairs Undefined
tells_no_pair {main} {graph} {map} {key} {weak} {table = table} {pairs} shows is is_key sizes is_table none has =
    let shown : WeakShown main graph map weak = weak_shown shows is in
    let same : shown.shows.pairs ≡ pairs = pairs_shown (shown_known shows is sizes is_table) shown has in
    record {
      there = λ place pair its. absurd (lacks_pair shown is_key same none place pair its);
      none = λ lacks. refl;
    }

-- nor is anything told of the entry but that there is none
told_undefined : (main : Mutator) (weak : WeakObject) (number : ℕ) → entry_value weak.entries number ≡ None
    → TellsEntry main weak number Undefined
told_undefined main weak number none =
    subst (λ what. ShowsHeld (heap_of main) Undefined (Some what))
    (sym (ap (λ found. unwrap_or found NoValue) none)) ShowsHeld.undefined

-- so undefined is told of the entry and of the pair
pub tells_none : {main : Mutator} {map key : ℕ} {table : Table} → IsShownKey main map key
    → AreWithin main.seat.space.sizes main.seat.space.variables → IsTableAt (heap_of main) map table
    → LacksEntry main map key
    → ((graph : Graph) (weak : WeakObject) (number : ℕ) → MainShows main graph → IsWeakAt main graph map weak
    → IsKeyAt main graph key number → TellsEntry main weak number Undefined)
    × ((pairs : List Pair) → HasPairsAt (heap_of main) map pairs → TellsPairValue main key pairs Undefined)
tells_none {main} asked sizes is_table none = (
  λ graph weak number shows is is_key. told_undefined main weak number (none graph weak number shows is is_key),
  λ pairs has.
      tells_no_pair asked.shows asked.is asked.is_key sizes is_table
      (none asked.graph asked.weak asked.number asked.shows asked.is asked.is_key) has,
)
