-- The pairs of a weak map that can be reached, against its entries: no fewer, and in an exact heap no more.
use Rattle.std.proofs.Common.{◌≡◌, ◌≢◌, ℕ, ◌<◌, ◌≤◌, Bool, true, not, List, length, map, filter, get_or, Some}
use Rattle.std.proofs.Common.{Contains, slice_get, count_by, IsTrue, sym, ◌∙◌, ap, subst, arith}
use Rattle.std.specs.List.{AllPairs}
use Rattle.std.proofs.lemmas.Bool.{false≢true}
use Rattle.std.proofs.lemmas.Bool.Decides.{Decides-eqb, nat_tests}
use Rattle.std.proofs.lemmas.List.{length-map}
use Rattle.std.proofs.lemmas.List.Kept.{AllPairs-filter}
use Rattle.std.proofs.lemmas.List.Sums.{length-filter}
use Rattle.std.proofs.lemmas.Map.Made.{AllPairs-from_IsDistinct}
use Rattle.std.proofs.lemmas.Option.{same_Some, slice_get-get_or}
use Rattle.std.proofs.Math.ListN.{get_or-map}
use Rattle.tagged_word.proofs.Members.{filter_from, filter_true, in_filter}
use Rattle.heap_model.specs.Types.{Entry, Cell}
use Rattle.object_graph.specs.declared.object.Object.TheVariants as graph_object
use Rattle.object_graph.specs.Graphs.{Graph}
use Rattle.object_graph.specs.Invariants.{AreEntries, IsObject, IsGraph}
use Rattle.object_graph.specs.Reach.{is_marked, reach}
use Rattle.heap_model.specs.Heaps.{Heap}
use Rattle.heap_model.specs.Slots.{reference_word, IsPlace, RefersToPlace}
use Rattle.heap_model.specs.Kinds.{Pair, free_pair, is_free_pair, HasTable, IsWeakCell, IsSoundOf, count_offset}
use Rattle.heap_model.specs.Needs.{count_at}
use Rattle.heap_model.specs.Showing.{IsKnownKey, ShowsWeak, Shows}
use Rattle.heap_model.proofs.NewKeys.{one_table}
use Rattle.heap_model.proofs.SlotWords.{All-slice_get}
use Rattle.heap_model.proofs.WordClasses.{same_reference}
use Rattle.heap_model.proofs.WordsRead.{word_of_cell}
use Rattle.live_cells.specs.Counts.{reached_keys, IsReachedMap, MapsHaveReachedKeys, ExactMapsHaveNoOthers}
use Rattle.live_cells.specs.Exact.{KeepsNoOther}
use Rattle.live_cells.proofs.MarkedLinks.{element_at}
use Rattle.live_cells.proofs.ObjectTargets.{at_is_in}
use Rattle.graph_laws.proofs.Pigeons.{no_more}
use Rattle.live_cells.proofs.ShownTargets.{one_number}

-- whether a pair holds something
abbrev filled : Pair → Bool
filled pair = not (is_free_pair pair)

-- a pair whose key is a reference holds something
refers_filled : (pair : Pair) (at : ℕ) → pair.key ≡ reference_word at → filled pair ≡ true
refers_filled pair at refers = grind (arith, nat_tests, refers)

-- a pair that holds something is not free
filled_not_free : (pair : Pair) → filled pair ≡ true → pair ≡ free_pair → ⊥
filled_not_free pair is same = false≢true (sym (ap filled same) ∙ is)

-- a word refers to one object
one_key : {heap : Heap} {number other : ℕ} (word : ℕ) → RefersToPlace heap word number → RefersToPlace heap word other
    → number ≡ other
one_key {heap} {number} word refers refers_too =
    let same = same_reference refers.at refers_too.at (sym refers.refers ∙ refers_too.refers) in
    one_number (subst (IsPlace heap number) same refers.place) refers_too.place

module _ {heap : Heap} (marks : List Bool) {cell : Cell} {words : List ℕ} {entries : List Entry}
    (shown_by : ShowsWeak heap marks cell words entries) where
  -- whether the key of an entry can be reached
  abbrev keyed : Entry → Bool
  keyed entry = is_marked marks entry.key

  -- the pair at this place of those that hold something has the key of the entry
  abbrev HasPairAt : Entry → ℕ → Type 0
  HasPairAt entry j =
      (pair : Pair) × (slice_get (filter filled shown_by.pairs) j ≡ Some pair) × RefersToPlace heap pair.key entry.key

  -- the entry at this place of those whose key can be reached has the key of the pair
  abbrev HasEntryAt : Pair → ℕ → Type 0
  HasEntryAt pair j =
      (entry : Entry) × (slice_get (filter keyed entries) j ≡ Some entry) × RefersToPlace heap pair.key entry.key

  -- no fewer pairs hold something than entries have keys that can be reached
  pub no_fewer_pairs : AllPairs (λ one other. one.key ≢ other.key) entries
      → count_by keyed entries ≤ count_by filled shown_by.pairs
  no_fewer_pairs distinct =
      let some : List Entry = filter keyed entries in
      let pairs : List Pair = filter filled shown_by.pairs in
      let apart = AllPairs-filter (λ one other. one.key ≢ other.key) keyed entries distinct in
      let fewer : length some ≤ length pairs =
      no_more HasPairAt (length pairs) some
      (λ entry there.
      let stood = filter_from keyed entries entry there in
      let once = shown_by.each stood.0 entry (element_at entries entry stood) (filter_true keyed entries entry there)
      in
      let key = once.shows.key in
      let among = in_filter filled shown_by.pairs once.pair (refers_filled once.pair key.at key.refers)
      (at_is_in shown_by.pairs once.at once.pair once.stands) in
      (among.0, among.1, (once.pair, element_at pairs once.pair among, key)))
      (λ i k d less within j one other.
      let same : one.0 ≡ other.0 = same_Some _ _ (sym one.1 ∙ other.1) in
      apart i k d less within (one_key one.0.key one.2
      (subst (λ (pair : Pair). RefersToPlace heap pair.key (get_or some k d).key) (sym same) other.2))) in
      omega (arith, fewer, length-filter keyed entries, length-filter filled shown_by.pairs)

  -- the entry of a pair that holds something, where no key of these is of an object that cannot be reached
  entry_of_pair : (pair : Pair)
      → ((number at : ℕ) → IsPlace heap number at → IsTrue (is_marked marks number))
      → IsKnownKey heap marks entries pair → (j : ℕ) × (j < length (filter keyed entries)) × HasEntryAt pair j
  entry_of_pair pair reached (IsKnownKey.of_entry entry at there marked refers) =
      let among = in_filter keyed entries entry marked (at_is_in entries at entry there) in
      (among.0, among.1, (entry, element_at (filter keyed entries) entry among, refers))
  entry_of_pair pair reached (IsKnownKey.unreached number refers unreached) =
      absurd (false≢true (sym unreached ∙ reached number refers.at refers.place))

  -- and there no more pairs hold something
  pub no_more_pairs : ((number at : ℕ) → IsPlace heap number at → IsTrue (is_marked marks number))
      → count_by filled shown_by.pairs ≤ count_by keyed entries
  no_more_pairs reached =
      let some : List Entry = filter keyed entries in
      let pairs : List Pair = filter filled shown_by.pairs in
      let Apart : Pair → Pair → Type 0 = λ one other. (entry : Entry) → Contains some entry
      → RefersToPlace heap one.key entry.key → RefersToPlace heap other.key entry.key → ⊥ in
      let apart : AllPairs Apart pairs = AllPairs-filter Apart filled shown_by.pairs
      (λ i k d less within entry there one other.
      let stood = filter_from keyed entries entry there in
      let once = shown_by.each stood.0 entry (element_at entries entry stood) (filter_true keyed entries entry there)
      in
      let first = once.once i (get_or shown_by.pairs i d)
      (slice_get-get_or shown_by.pairs i d (omega (arith, less, within))) one in
      let second = once.once k (get_or shown_by.pairs k d) (slice_get-get_or shown_by.pairs k d within) other in
      omega (arith, less, first, second)) in
      let fewer : length pairs ≤ length some =
      no_more HasEntryAt (length some) pairs
      (λ pair there.
      let stood = filter_from filled shown_by.pairs pair there in
      let holds = filter_true filled shown_by.pairs pair there in
      entry_of_pair pair reached
      (shown_by.others stood.0 pair (element_at shown_by.pairs pair stood) (filled_not_free pair holds)))
      (λ i k d less within j one other.
      let same : other.0 ≡ one.0 = same_Some _ _ (sym other.1 ∙ one.1) in
      apart i k d less within one.0 (at_is_in some j one.0 one.1) one.2
      (subst (λ (entry : Entry). RefersToPlace heap (get_or pairs k d).key entry.key) same other.2)) in
      omega (arith, fewer, length-filter keyed entries, length-filter filled shown_by.pairs)

-- no two entries of an object of a graph have one key
keys_differ : {graph : Graph} (number : ℕ) (entries : List Entry) → IsGraph graph
    → slice_get graph.objects number ≡ Some (graph_object.Weak entries)
    → AllPairs (λ one other. one.key ≢ other.key) entries
keys_differ {graph} number entries is there =
    let count : ℕ = length graph.objects in
    let key : Entry → ℕ = λ entry. entry.key in
    let object : AreEntries count entries =
    All-slice_get (IsObject count) graph.objects number (graph_object.Weak entries) is.made there in
    let differ = AllPairs-from_IsDistinct Decides-eqb (map key entries) object.distinct in
    λ i k d less within same.
    differ i k d.key less (omega (arith, within, length-map entries key))
    (get_or-map key entries i d ∙ same ∙ sym (get_or-map key entries k d))

-- the pairs of a weak map that can be reached, as it shows its entries, and its count
record Counted (heap : Heap) (graph : Graph) (at : ℕ) (entries : List Entry) : Type 0 where
  cell : Cell
  words : List ℕ
  shown_by : ShowsWeak heap (reach graph) cell words entries
  count : count_at heap at ≡ count_by filled shown_by.pairs

-- a weak map that can be reached counts the pairs that hold something
counted : {heap : Heap} {graph : Graph} {at : ℕ} {entries : List Entry} → Shows heap graph
    → IsReachedMap heap graph at entries → Counted heap graph at entries
counted {heap} {graph} {at} {entries} shows is =
    let one = shows.reached is.number (graph_object.Weak entries) is.stands is.reached in
    let by : ShowsWeak heap (reach graph) one.cell one.words entries = one.shows in
    let sound : IsWeakCell heap one.words =
    subst (λ k. IsSoundOf k heap one.cell one.words) by.of_kind (shows.whole.sound one.cell one.words one.has) in
    let store : sound.store ≡ by.store = same_Some _ _ (sym sound.slot ∙ by.slot) in
    let pairs : sound.pairs ≡ by.pairs = one_table heap by.store sound.pairs by.pairs
    (subst (λ word. HasTable heap word sound.pairs) store sound.table) by.table in
    let here : count_at heap one.cell.at ≡ count_by filled sound.pairs =
    word_of_cell count_offset (count_by filled sound.pairs) one.has sound.counted in
    record {
      cell = one.cell;
      words = one.words;
      shown_by = by;
      count = ap (count_at heap) (one.once at is.place) ∙ here ∙ ap (count_by filled) pairs;
    }

-- a weak map that can be reached has a pair for each entry whose key can be reached
pub maps_have_reached_keys : MapsHaveReachedKeys
maps_have_reached_keys heap graph at entries is_graph shows is =
    let one = counted shows is in
    omega (
      arith,
      one.count,
      no_fewer_pairs (reach graph) one.shown_by (keys_differ is.number entries is_graph is.stands),
    )

-- and no other pair in a heap that keeps nothing else
pub kept_maps_have_no_others : {heap : Heap} {graph : Graph} {at : ℕ} {entries : List Entry} → IsGraph graph
    → KeepsNoOther heap graph → IsReachedMap heap graph at entries → count_at heap at ≡ reached_keys graph entries
kept_maps_have_no_others {heap} {graph} {at} {entries} is_graph keeps is =
    let one = counted keeps.shows is in
    omega (
      arith,
      one.count,
      no_fewer_pairs (reach graph) one.shown_by (keys_differ is.number entries is_graph is.stands),
      no_more_pairs (reach graph) one.shown_by keeps.reached,
    )

-- so it is in an exact heap
pub exact_maps_have_no_others : ExactMapsHaveNoOthers
exact_maps_have_no_others heap graph at entries is_graph exact is =
    kept_maps_have_no_others is_graph exact.keeps is
