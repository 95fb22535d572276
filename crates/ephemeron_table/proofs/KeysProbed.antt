-- What probing for a key tells of the entries of a weak map.
use Rattle.std.proofs.Common.{◌≡◌, ◌≢◌, ℕ, ◌<◌, inl, inr, List, length, get_or, Option, Some, None, slice_get}
use Rattle.std.proofs.Common.{unwrap_or, refl, sym, ◌∙◌, ap, subst, arith}
use Rattle.std.proofs.lemmas.Bool.{cases_order}
use Rattle.std.proofs.lemmas.Option.{slice_get-get_or}
use Rattle.heap_model.specs.Types.{Value}
use Rattle.object_graph.specs.Objects.{entry_value}
use Rattle.object_graph.specs.Graphs.{Graph, WeakObject}
use Rattle.linear_probing.specs.Tables.{place_after}
use Rattle.linear_probing.proofs.Rounds.{place_after_within}
use Rattle.heap_model.specs.Heaps.{Heap}
use Rattle.heap_model.specs.Slots.{reference_word, hole_word}
use Rattle.heap_model.specs.Kinds.{Pair, free_pair, IsFoundPair}
use Rattle.heap_model.proofs.WordClasses.{hole_refers_not}
use Rattle.write_barrier.specs.MutatorState.{Mutator, heap_of, MainShows}
use Rattle.ephemeron_table.specs.WeakObjects.{IsKeyAt, IsWeakAt}
use Rattle.ephemeron_table.specs.Probes.{IsTableAt, ProbingEnds}
use Rattle.weak_pairs.specs.Tables.{ArePairsIn, key_in, number_at}
use Rattle.weak_pairs.specs.Probes.{PassesBefore, ProbesTo}
use Rattle.ephemeron_table.specs.declared.probing.End.TheVariants as probe_end
use Rattle.weak_pairs.specs.declared.table.Table.{Table}
use Rattle.ephemeron_table.proofs.KeysFound.{HasKey, WeakShown, entry_has_key, number_is, shown_pairs, shown_sound}

-- the key that a pair has is read
key_reads : {heap : Heap} {pairs : List Pair} {key number : ℕ} (table : Table) → ArePairsIn heap.words table pairs
    → (has : HasKey heap pairs key number) → key_in heap table.at has.place ≡ reference_word key
key_reads table stand has = ap (λ found. unwrap_or found 0) (stand.keys has.place has.pair has.there) ∙ has.key_is

-- probing that passes so many pairs does not pass one that has the key
pub not_passed : {heap : Heap} {pairs : List Pair} {key number : ℕ} (table : Table) (steps : ℕ)
    → ArePairsIn heap.words table pairs → (has : HasKey heap pairs key number) → has.probed.steps < steps
    → PassesBefore heap table number (reference_word key) steps → ⊥
not_passed {heap} {key = key} {number} table steps stand has few passes =
    let comes : place_after table.capacity number has.probed.steps ≡ has.place =
    ap (λ n. place_after n number has.probed.steps) (sym stand.long) ∙ sym has.probed.comes in
    (passes has.probed.steps few).other (ap (key_in heap table.at) comes ∙ key_reads table stand has)

-- nor does it end before that at a pair that holds nothing
pub not_before : {heap : Heap} {pairs : List Pair} {key number place : ℕ} (table : Table)
    → ((at : ℕ) (pair : Pair) → slice_get pairs at ≡ Some pair → pair ≢ free_pair → IsFoundPair heap pairs at pair)
    → ArePairsIn heap.words table pairs → (has : HasKey heap pairs key number)
    → (comes : ProbesTo heap table number (reference_word key) place) → key_in heap table.at place ≡ hole_word → ⊥
not_before {heap} {pairs} {key} {number} {place} table sound stand has comes free =
    elim (cases_order has.probed.steps comes.steps) [
      | inl same ↦
          let at : has.place ≡ place =
          has.probed.comes ∙ ap (λ n. place_after n number has.probed.steps) stand.long
          ∙ ap (place_after table.capacity number) same ∙ sym comes.comes in
          hole_refers_not key (sym free ∙ ap (key_in heap table.at) (sym at) ∙ key_reads table stand has)
      | inr (inl sooner) ↦ not_passed table comes.steps stand has sooner comes.passes
      | inr (inr later) ↦
          let few : comes.steps < table.capacity = comes.few in
          let within : place_after table.capacity number comes.steps < table.capacity =
          place_after_within table.capacity number comes.steps (omega arith) in
          let below : place < length pairs = omega (arith, within, comes.comes, stand.long) in
          let pair : Pair = get_or pairs place free_pair in
          let there : slice_get pairs place ≡ Some pair = slice_get-get_or pairs place free_pair below in
          let key_is : pair.key ≡ hole_word =
          sym (ap (λ found. unwrap_or found 0) (stand.keys place pair there)) ∙ free in
          let at : place_after (length pairs) number comes.steps ≡ place =
          ap (λ n. place_after n number comes.steps) stand.long ∙ sym comes.comes in
          let filled : pair ≢ free_pair =
          λ is. has.probed.filled comes.steps later (ap (slice_get pairs) at ∙ there ∙ ap (λ p. Some p) is) in
          let refers = (sound place pair there filled).filled.key in
          hole_refers_not refers.at (sym key_is ∙ refers.refers)
    ]

-- what has no value is not
none_by : (found : Option Value) → ((value : Value) → found ≡ Some value → ⊥) → found ≡ None
none_by None never = refl
none_by (Some value) never = absurd (never value refl)

-- where probing passes all pairs, no entry has the key
pub none_nowhere : {main : Mutator} {graph : Graph} {map key : ℕ} {weak : WeakObject} {number : ℕ} (table : Table)
    → MainShows main graph → WeakShown main graph map weak → IsKeyAt main graph key number
    → IsTableAt (heap_of main) map table
    → PassesBefore (heap_of main) table number (reference_word key) table.capacity
    → entry_value weak.entries number ≡ None
none_nowhere {weak = weak} {number} table shows shown is_key is passes =
    none_by (entry_value weak.entries number) (λ value has_value.
    let stand = is.pairs shown.shows.pairs (shown_pairs shown) in
    let has = entry_has_key value shows shown is_key has_value in
    not_passed table table.capacity stand has (omega (arith, has.probed.within, stand.long)) passes)

-- likewise where it ends at a pair that holds nothing
pub none_where_free : {main : Mutator} {graph : Graph} {map key : ℕ} {weak : WeakObject} {number : ℕ} (table : Table)
    (place : ℕ) → MainShows main graph → WeakShown main graph map weak → IsKeyAt main graph key number
    → IsTableAt (heap_of main) map table → ProbesTo (heap_of main) table number (reference_word key) place
    → key_in (heap_of main) table.at place ≡ hole_word → entry_value weak.entries number ≡ None
none_where_free {weak = weak} {number} table place shows shown is_key is comes free =
    none_by (entry_value weak.entries number) (λ value has_value.
    let stand = is.pairs shown.shows.pairs (shown_pairs shown) in
    let has = entry_has_key value shows shown is_key has_value in
    not_before table (shown_sound shows.shows.whole shown) stand has comes free)

-- so it is by the number and the key that were read, where probing ended at a pair that holds nothing
pub none_at_free : {main : Mutator} {graph : Graph} {map key : ℕ} {weak : WeakObject} {number : ℕ} {table : Table}
    {place : ℕ} (read key_read : ℕ) → MainShows main graph → WeakShown main graph map weak
    → IsKeyAt main graph key number → IsTableAt (heap_of main) map table → read ≡ number_at (heap_of main) key
    → key_read ≡ reference_word key → ProbingEnds (heap_of main) table read key_read (probe_end.Free place)
    → entry_value weak.entries number ≡ None
none_at_free {main} {key = key} {number = number} {table}
    {place} read key_read shows shown is_key is reads key_reads ends =
    let heap = heap_of main in
    let same : read ≡ number = reads ∙ number_is is_key.place in
    let comes : ProbesTo heap table number (reference_word key) place =
    subst (λ k. ProbesTo heap table number k place) key_reads
    (subst (λ n. ProbesTo heap table n key_read place) same ends.0) in
    none_where_free table place shows shown is_key is comes ends.1

-- and where it passed all pairs
pub none_passed : {main : Mutator} {graph : Graph} {map key : ℕ} {weak : WeakObject} {number : ℕ} {table : Table}
    (read key_read : ℕ) → MainShows main graph → WeakShown main graph map weak → IsKeyAt main graph key number
    → IsTableAt (heap_of main) map table → read ≡ number_at (heap_of main) key → key_read ≡ reference_word key
    → ProbingEnds (heap_of main) table read key_read probe_end.Nowhere → entry_value weak.entries number ≡ None
none_passed {main} {key = key} {number = number} {table} read key_read shows shown is_key is reads key_reads ends =
    let heap = heap_of main in
    let same : read ≡ number = reads ∙ number_is is_key.place in
    let passes : PassesBefore heap table number (reference_word key) table.capacity =
    subst (λ k. PassesBefore heap table number k table.capacity) key_reads
    (subst (λ n. PassesBefore heap table n key_read table.capacity) same ends) in
    none_nowhere table shows shown is_key is passes

-- of no graph that the heap shows has the weak map an entry of the key
abbrev pub LacksEntry : Mutator → ℕ → ℕ → Type 0
LacksEntry main map key =
    (graph : Graph) (weak : WeakObject) (number : ℕ) → MainShows main graph → IsWeakAt main graph map weak
    → IsKeyAt main graph key number → entry_value weak.entries number ≡ None

-- the place to which it comes is one of the table
pub comes_within : {heap : Heap} {table : Table} {number key place : ℕ} → ProbesTo heap table number key place
    → place < table.capacity
comes_within {table = table} {number} comes =
    let few : comes.steps < table.capacity = comes.few in
    omega (arith, comes.comes, place_after_within table.capacity number comes.steps (omega arith))
