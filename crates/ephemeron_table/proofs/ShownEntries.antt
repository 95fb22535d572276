-- The cell of a weak map whose pairs were written shows its entries with that of one key put, or removed.
use Rattle.std.proofs.Common.{◌≡◌, ◌≢◌, ℕ, ◌⊎◌, inl, inr, Bool, List, map, Option, Some, None, slice_get, refl, sym}
use Rattle.std.proofs.Common.{◌∙◌, ap, subst}
use Rattle.std.specs.Prelude.{◌==◌, IsTrue, IsSome}
use Rattle.std.specs.List.{IsDistinct}
use Rattle.std.proofs.lemmas.Bool.{false≢true, cases_eq, cases_Bool}
use Rattle.std.proofs.lemmas.Option.{same_Some}
use Rattle.heap_model.specs.Types.{Value, Entry, Cell}
use Rattle.object_graph.specs.Graphs.{Graph}
use Rattle.object_graph.specs.Reach.{is_marked, reach}
use Rattle.heap_model.specs.Heaps.{Heap, words_of_cell}
use Rattle.heap_model.specs.Slots.{RefersToPlace, IsPlace}
use Rattle.heap_model.specs.Kinds.{Pair}
use Rattle.heap_model.specs.Showing.{ShowsEntry, ShowsOnce, IsKnownKey, ShowsWeak}
use Rattle.heap_model.proofs.WordClasses.{hole_refers_not}
use Rattle.heap_model.proofs.NewKeys.{one_number}
use Rattle.heap_model.proofs.WordsStay.{refers_to_place_stays, shown_value}
use Rattle.object_cells.specs.OwnSlots.{IsNoBoxOf}
use Rattle.object_cells.proofs.OwnCapacities.{none_made}
use Rattle.object_cells.proofs.ReplacedObjects.{MarksReached}
use Rattle.object_cells.proofs.OwnSteps.{own_writing, own_places_stay, own_box_stays}
use Rattle.object_cells.proofs.OwnerWrites.{weak_owns}
use Rattle.weak_pairs.specs.Pairs.{IsFilledAt}
use Rattle.ephemeron_table.specs.PairWrites.{ShowsPair, RefillsPairs}
use Rattle.ephemeron_table.specs.PairLaws.{RefillsWeak, PutsOne}
use Rattle.weak_pairs.specs.Entries.{entries_with}
use Rattle.weak_pairs.proofs.EntryLists.{IsEntryOf, EntryComes, entry_comes, entry_stays, put_there}
use Rattle.weak_pairs.proofs.PairWords.{one_pairs}
use Rattle.ephemeron_table.proofs.ReplacedPairs.{weak_step}

-- a pair whose key refers to an object holds something
pub key_filled : {heap : Heap} {pairs : List Pair} {number : ℕ} (at : ℕ) (pair : Pair) → slice_get pairs at ≡ Some pair
    → RefersToPlace heap pair.key number → IsFilledAt pairs at pair
key_filled at pair there key = record {
  stands = there;
  filled = λ free. hole_refers_not key.at (sym (ap (λ (p : Pair). p.key) free) ∙ key.refers);
}

-- a value is given or not
given_or_not : (value : Option Value) → ((what : Value) × (value ≡ Some what)) ⊎ (value ≡ None)
given_or_not (Some what) = inl (what, refl)
given_or_not None = inr refl

-- an entry of this key, among these
abbrev HasEntry : List Entry → ℕ → Type 0
HasEntry entries number = (entry : Entry) × (entry.key ≡ number) × IsEntryOf entries entry

-- where a value is given, an entry of the key was put
entry_put : (entries : List Entry) (number : ℕ) (value : Option Value) → IsSome value
    → HasEntry (entries_with entries number value) number
entry_put entries number (Some what) given =
    (record { key = number; value = what }, refl, put_there entries number what)
entry_put entries number None given = absurd (false≢true given)

-- the key of a pair is known if it is that of an entry wherever it is marked
known_key : {heap : Heap} (marks : List Bool) (entries : List Entry) (pair : Pair) (number : ℕ)
    → RefersToPlace heap pair.key number → (IsTrue (is_marked marks number) → HasEntry entries number)
    → IsKnownKey heap marks entries pair
known_key {heap} marks entries pair number refers has = elim (cases_Bool (is_marked marks number)) [
  | inl marked ↦
      let entry = has marked in
      IsKnownKey.of_entry entry.0 entry.2.at entry.2.stands
      (subst (λ n. IsTrue (is_marked marks n)) (sym entry.1) marked)
      (subst (RefersToPlace heap pair.key) (sym entry.1) refers)
  | inr unmarked ↦ IsKnownKey.unreached number refers unmarked
]

-- The pairs of a weak map that shows these entries of a graph were written, so that of one key was put or removed.
pub record Reweaving (old new : Heap) (graph : Graph) (cell : Cell) (others made : List Cell) (entries : List Entry)
    (number : ℕ) (value : Option Value) : Type 0 where
  pub refills : RefillsWeak old new cell others made
  pub puts : PutsOne old new refills.pairs number value
  pub shown : ShowsWeak old (reach graph) cell (words_of_cell old cell) entries
  pub distinct : IsDistinct ◌==◌ (map (λ entry. entry.key) entries)

module _ {old new : Heap} {graph : Graph} {cell : Cell} {others made : List Cell} {entries : List Entry} {number : ℕ}
    {value : Option Value} (weaving : Reweaving old new graph cell others made entries number value) where
  -- the pairs before and after
  abbrev pairs : RefillsPairs old new cell others made
  pairs = weaving.refills.pairs

  -- those before show the entries
  before_are : pairs.before ≡ weaving.shown.pairs
  before_are =
      let shown = weaving.shown in
      one_pairs pairs.were (record { store = shown.store; slot = shown.slot; table = shown.table })

  -- an object's place was one before
  came_before : {one : ℕ} (at : ℕ) → IsPlace new one at → IsPlace old one at
  came_before {one} at place =
      let refills = weaving.refills in
      none_made (own_writing weak_owns refills.whole refills.writes refills.pairs.refills.belong
      refills.pairs.refills.kinds) one at place

  -- a word that refers to an object referred to it
  key_before : {word one : ℕ} → RefersToPlace new word one → RefersToPlace old word one
  key_before {one = one} key =
      record { at = key.at; refers = key.refers; place = came_before key.at key.place }

  -- the pair that was put is of this key
  put_key : (at : ℕ) (pair : Pair) → IsFilledAt pairs.now at pair → at ≡ pairs.refills.one
      → RefersToPlace new pair.key number
  put_key at pair filled is_one =
      let there : IsFilledAt pairs.now pairs.refills.one pair =
      subst (λ n. IsFilledAt pairs.now n pair) is_one filled in
      elim (given_or_not value) [
        | inl given ↦
            let shown = weaving.puts.shown given.0 given.1 in
            let same : shown.0 ≡ pair = same_Some shown.0 pair (sym shown.1.stands ∙ there.stands) in
            subst (λ (p : Pair). RefersToPlace new p.key number) same shown.2.key
        | inr none ↦ absurd (weaving.puts.none_put none pair there)
      ]

  -- the entry that was put is shown
  put_shown : (what : Value) → value ≡ Some what → ShowsOnce new pairs.now (record { key = number; value = what })
  put_shown what given =
      let shown = weaving.puts.shown what given in
      record {
        at = pairs.refills.one;
        pair = shown.0;
        stands = shown.1.stands;
        shows = shown.2;
        once = λ other another there key. (weaving.puts.own other another (key_filled other another there key) key).0;
      }

  -- a pair that is not the one that was put has none of the boxes that were written
  no_box_written : (at : ℕ) (pair : Pair) → IsFilledAt pairs.now at pair → at ≢ pairs.refills.one
      → IsNoBoxOf others pair.value
  no_box_written at pair filled apart = elim (pairs.each_pair at pair filled) [
    | ShowsPair.kept stood no_box ↦ no_box
    | ShowsPair.put one is_one is ↦ absurd (apart is_one)
  ]

  -- what such a pair showed it shows
  entry_kept : (at : ℕ) (pair : Pair) (entry : Entry) → IsFilledAt pairs.now at pair → at ≢ pairs.refills.one
      → ShowsEntry old pair entry → ShowsEntry new pair entry
  entry_kept at pair entry filled apart shows =
      let refills = weaving.refills in
      record {
        key = refers_to_place_stays (own_places_stay (weak_step refills)) shows.key;
        value = shown_value pair.value (own_places_stay (weak_step refills))
            (own_box_stays (weak_step refills) pair.value (no_box_written at pair filled apart))
            shows.value;
      }

  -- a pair of the key of an entry that is shown comes from the pair that showed it
  from_shown : (entry : Entry) (once : ShowsOnce old weaving.shown.pairs entry) (at : ℕ) (pair : Pair)
      → entry.key ≢ number → IsFilledAt pairs.now at pair → RefersToPlace new pair.key entry.key
      → pairs.refills.origin at ≡ once.at
  from_shown entry once at pair other filled key = elim (pairs.each_pair at pair filled) [
    | ShowsPair.kept stood no_box ↦
        once.once (pairs.refills.origin at) pair (ap (λ all. slice_get all (pairs.refills.origin at)) (sym before_are)
        ∙ stood.stands)
        (key_before key)
    | ShowsPair.put one is_one is ↦
        absurd (other (one_number new pair.key entry.key number key (put_key at pair filled is_one)))
  ]

  -- an entry of another key is shown as before
  other_shown : (entry : Entry) → entry.key ≢ number → IsEntryOf entries entry
      → IsTrue (is_marked (reach graph) entry.key) → ShowsOnce new pairs.now entry
  other_shown entry other is marked =
      let once = weaving.shown.each is.at entry is.stands marked in
      let stood : IsFilledAt pairs.before once.at once.pair =
      key_filled once.at once.pair (ap (λ all. slice_get all once.at) before_are ∙ once.stands) once.shows.key in
      let kept = weaving.puts.kept once.at once.pair stood
      (λ key. other (one_number old once.pair.key entry.key number once.shows.key key)) in
      record {
        at = kept.0;
        pair = once.pair;
        stands = kept.1.stands;
        shows = entry_kept kept.0 once.pair entry kept.1 kept.3 once.shows;
        once = λ at another there key.
            let filled : IsFilledAt pairs.now at another = key_filled at another there key in
            pairs.refills.apart at kept.0 another.value once.pair.value (another, filled, refl) (
              once.pair,
              kept.1,
              refl,
            )
            (from_shown entry once at another other filled key ∙ sym kept.2);
      }

  -- the key of a pair that is kept is known
  kept_known : (marks : List Bool) (at : ℕ) (pair : Pair) → MarksReached graph marks → IsFilledAt pairs.now at pair
      → IsKnownKey old (reach graph) entries pair → IsKnownKey new marks (entries_with entries number value) pair
  kept_known marks at pair reached filled (IsKnownKey.of_entry entry place there marked refers) =
      let key = refers_to_place_stays (own_places_stay (weak_step weaving.refills)) refers in
      known_key marks (entries_with entries number value) pair entry.key key (λ still.
      elim (cases_eq entry.key number) [
        | inl same ↦
            let own = weaving.puts.own at pair filled (subst (RefersToPlace new pair.key) same key) in
            let has = entry_put entries number value own.1 in
            (has.0, has.1 ∙ sym same, has.2)
        | inr other ↦ (entry, refl, entry_stays entries number value place entry other there)
      ])
  kept_known marks at pair reached filled (IsKnownKey.unreached one refers unmarked) =
      known_key marks (entries_with entries number value) pair one
      (refers_to_place_stays (own_places_stay (weak_step weaving.refills)) refers)
      (λ marked. absurd (false≢true (sym unmarked ∙ reached one marked)))

  -- the key of each pair that holds something is known
  key_known : (marks : List Bool) (at : ℕ) (pair : Pair) → MarksReached graph marks → IsFilledAt pairs.now at pair
      → IsKnownKey new marks (entries_with entries number value) pair
  key_known marks at pair reached filled = elim (pairs.each_pair at pair filled) [
    | ShowsPair.kept stood no_box ↦
        kept_known marks at pair reached filled
        (weaving.shown.others (pairs.refills.origin at) pair
        (ap (λ all. slice_get all (pairs.refills.origin at)) (sym before_are) ∙ stood.stands) filled.filled)
    | ShowsPair.put one is_one is ↦
        let key = put_key at pair filled is_one in
        known_key marks (entries_with entries number value) pair number key
        (λ marked. entry_put entries number value (weaving.puts.own at pair filled key).1)
  ]

  -- so the map's cell shows the entries, whatever of what could be reached still can be
  pub weak_shows : (marks : List Bool) → MarksReached graph marks
      → ShowsWeak new marks cell (words_of_cell new cell) (entries_with entries number value)
  weak_shows marks reached = record {
    of_kind = weaving.refills.writes.of_kind;
    store = pairs.are.store;
    slot = pairs.are.slot;
    pairs = pairs.now;
    table = pairs.are.table;
    each = λ at entry there marked.
        elim (entry_comes entries number value at entry weaving.distinct there) [
          | EntryComes.put what given same ↦ subst (ShowsOnce new pairs.now) (sym same) (put_shown what given)
          | EntryComes.stayed other is ↦ other_shown entry other is (reached entry.key marked)
        ];
    others = λ at pair there filled. key_known marks at pair reached (record { stands = there; filled = filled });
  }
