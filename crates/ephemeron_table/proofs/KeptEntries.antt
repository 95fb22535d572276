-- From where the pairs of a weak map's written table come: each was one of the map's table before, which is kept, or
-- its value is an object that can be reached, or a box at a new place.
use Rattle.std.proofs.Common.{◌≡◌, ◌<◌, ◌⊎◌, inl, inr, ℕ, ℤ, List, [], ◌∷◌, ◌++◌, Contains, Option, Some, None}
use Rattle.std.proofs.Common.{slice_get, length, refl, sym, ◌∙◌, ap, subst, arith}
use Rattle.std.specs.Prelude.{IsTrue}
use Rattle.std.proofs.lemmas.Bool.{cases_eq}
use Rattle.std.proofs.lemmas.Option.{none-some, slice_get-get_or}
use Rattle.std.proofs.Common.{get_or}
use Rattle.tagged_word.specs.declared.layout.Kind.{Kind}
use Rattle.tagged_word.specs.declared.layout.Kind.TheVariants as kind
use Rattle.tagged_word.specs.Cells.{store_slot, tagged_offsets_of}
use Rattle.tagged_word.proofs.Members.{first_in, in_cases}
use Rattle.heap_table.specs.Phases.{Mark}
use Rattle.object_graph.specs.declared.value.Value.TheVariants.{Ref}
use Rattle.object_graph.specs.declared.object.Object.TheVariants.{Weak}
use Rattle.object_graph.specs.Graphs.{Graph, WeakObject}
use Rattle.object_graph.specs.Meaning.{reweave}
use Rattle.object_graph.specs.Reach.{is_marked, reach}
use Rattle.object_graph.proofs.Rounds.{marked_within, length-rounds}
use Rattle.heap_model.specs.Types.{Value, Object, Cell}
use Rattle.heap_model.specs.Heaps.{Heap, words_of_cell}
use Rattle.heap_model.specs.Kinds.{HasTable, HasWord, Pair}
use Rattle.heap_model.specs.Slots.{IsPlace, RefersTo, RefersToBox, RefersToPlace, reference_word}
use Rattle.heap_model.specs.Wholeness.{IsOwnedKind}
use Rattle.heap_model.specs.Showing.{ShowsEntry, ShowsValue}
use Rattle.heap_model.specs.Changes.{IsNewPlace}
use Rattle.heap_model.proofs.NewKeys.{one_number}
use Rattle.heap_model.proofs.WordClasses.{hole_refers_not, same_reference, small_refers_not, undefined_refers_not}
use Rattle.live_cells.specs.Live.{HasEntry, HasSlotTo}
use Rattle.cycle_state.specs.Keeping.{IsKept}
use Rattle.cycle_laws.specs.Changes.{IsReachedPlace, WasEntry}
use Rattle.cycle_laws.proofs.ReachedKept.{reached_is_kept}
use Rattle.write_barrier.specs.MutatorState.{Mutator, heap_of, MainShows}
use Rattle.object_cells.specs.HeldValues.{IsReachedValue}
use Rattle.object_cells.specs.OwnSlots.{ComesFrom}
use Rattle.object_cells.proofs.OwnCapacities.{none_made}
use Rattle.object_cells.proofs.OwnSteps.{own_writing, stood}
use Rattle.object_cells.proofs.OwnerWrites.{weak_owns}
use Rattle.weak_pairs.specs.Entries.{entries_with}
use Rattle.weak_pairs.specs.Pairs.{IsFilledAt}
use Rattle.weak_pairs.proofs.FilledPairs.{same_filled}
use Rattle.weak_pairs.proofs.PairWords.{is_table_of}
use Rattle.ephemeron_table.specs.PairLaws.{IsNewValue, PutsOne, RefillsWeak}
use Rattle.ephemeron_table.specs.PairWrites.{ShowsPair}
use Rattle.ephemeron_table.proofs.PutReaches.{put_value_reached}
use Rattle.ephemeron_table.proofs.ReplacedPairs.{before_found, one_table, weak_step}

-- a pair of a table to which a word refers is an entry of that table
old_entry : {heap : Heap} (store : ℕ) (pairs : List Pair) (place key at : ℕ) (pair : Pair) → HasTable heap store pairs
    → slice_get pairs place ≡ Some pair → pair.key ≡ reference_word key → pair.value ≡ reference_word at
    → (table : ℕ) × (store ≡ reference_word table) × HasEntry heap table key at
old_entry store pairs place key at pair HasTable.none there key_is value_is = absurd (none-some pair there)
old_entry store pairs place key at pair (HasTable.table word cell words refers of_kind power) there key_is value_is = (
  cell.at,
  refers.refers,
  record {
    cell = cell;
    words = words;
    has = refers.has;
    stands = refl;
    of_kind = of_kind;
    place = place;
    pair = pair;
    among = there;
    key_is = key_is;
    value_is = value_is;
  },
)

-- a value's word that is a reference refers to the object of the value, or to a box
value_target : {heap : Heap} (word at : ℕ) (what : Value) → ShowsValue heap word what → word ≡ reference_word at
    → ((one : ℕ) × (what ≡ Ref one) × IsPlace heap one at) ⊎ ((v : ℤ) × RefersToBox heap word v)
value_target word at what (ShowsValue.small_integer v is same) refers =
    absurd (small_refers_not v at (sym same ∙ refers))
value_target word at what (ShowsValue.boxed v wide box) refers = inr (v, box)
value_target word at what (ShowsValue.undefined same) refers = absurd (undefined_refers_not at (sym same ∙ refers))
value_target {heap} word at what (ShowsValue.object one is) refers =
    inl (one, refl, subst (IsPlace heap one) (same_reference is.at at (sym is.refers ∙ refers)) is.place)

module _ (old new : Mutator) (graph : Graph) (weak : WeakObject) {cell : Cell} {others made : List Cell} (number : ℕ)
    (value : Option Value) (shows : MainShows old graph)
    (there : slice_get graph.objects weak.number ≡ Some (Weak weak.entries))
    (marked : IsTrue (is_marked (reach graph) weak.number)) (key_marked : IsTrue (is_marked (reach graph) number))
    (carries : cell.header.object ≡ weak.number)
    (is_new : (what : Value) → value ≡ Some what → IsNewValue graph what)
    (refills : RefillsWeak (heap_of old) (heap_of new) cell others made)
    (puts : PutsOne (heap_of old) (heap_of new) refills.pairs number value) (mark : old.seat.phase ≡ Mark) where
  abbrev before : Heap
  before = heap_of old

  abbrev now : Heap
  now = heap_of new

  abbrev born : List ℕ
  born = old.cycle.born

  -- the map's cell is kept
  map_kept : IsKept before born cell.at
  map_kept =
      let step = weak_step refills in
      reached_is_kept before graph old.cycle weak.number cell.at shows.shows (shows.calm mark).rests.keeps marked
      (record {
        cell = cell;
        words = words_of_cell before cell;
        has = stood step;
        stands = refl;
        object = step.object;
        carries = carries;
      })

  -- so is its table, and each pair of it was an entry of a kept table
  was_entry : (place key at : ℕ) (pair : Pair) → slice_get refills.pairs.before place ≡ Some pair
      → pair.key ≡ reference_word key → pair.value ≡ reference_word at → WasEntry before born key at
  was_entry place key at pair stands key_is value_is =
      let were = refills.pairs.were in
      let entry = old_entry were.store refills.pairs.before place key at pair were.table stands key_is value_is in
      let slot : HasSlotTo before cell.at entry.0 = record {
        cell = cell;
        words = words_of_cell before cell;
        has = stood (weak_step refills);
        stands = refl;
        offset = store_slot;
        visited = subst (λ (k : Kind). Contains (tagged_offsets_of k cell.layout cell.length) store_slot)
            (sym refills.writes.of_kind) (first_in store_slot []);
        holds = subst (HasWord (words_of_cell before cell) store_slot) entry.1 were.slot;
      } in
      record {
        table = entry.0;
        kept = (shows.calm mark).rests.keeps.closed.slots cell.at entry.0 map_kept slot;
        entry = entry.2;
      }

  -- what an object's cell stands at now it stood at
  place_back : (one at : ℕ) → IsPlace now one at → IsPlace before one at
  place_back =
      let slots = refills.pairs.refills in
      none_made (own_writing weak_owns refills.whole refills.writes slots.belong slots.kinds)

  -- one place of what can be reached
  one_place : (one at other : ℕ) → IsTrue (is_marked (reach graph) one) → IsPlace before one at
      → IsPlace before one other → at ≡ other
  one_place one at other reached place another =
      let below = shows.shows.made one at place in
      let what : Object = get_or graph.objects one (Weak []) in
      let only = shows.shows.reached one what (slice_get-get_or graph.objects one (Weak []) below) reached in
      only.once at place ∙ sym (only.once other another)

  -- the pair from which the one that was put has its value had its key
  same_key : (at : ℕ) (pair was : Pair) → IsFilledAt refills.pairs.now at pair → at ≡ refills.pairs.refills.one
      → RefersToPlace now pair.key number → IsFilledAt refills.pairs.before (refills.pairs.refills.origin at) was
      → was.key ≡ pair.key
  same_key at pair was filled is_one refers stood_there =
      let slots = refills.pairs.refills in
      let found = before_found refills (slots.origin at) was stood_there in
      elim (cases_eq found.number number) [
        | inl same ↦
            let key = found.filled.key in
            let at_same : key.at ≡ refers.at =
            one_place number key.at refers.at key_marked (subst (λ n. IsPlace before n key.at) same key.place)
            (place_back number refers.at refers.place) in
            key.refers ∙ ap reference_word at_same ∙ sym refers.refers
        | inr apart ↦
            let kept = puts.kept (slots.origin at) was stood_there
            (λ other. apart (one_number before was.key found.number number found.filled.key other)) in
            absurd (kept.3 (slots.apart kept.0 at was.value pair.value (was, kept.1, refl) (pair, filled, refl)
            kept.2 ∙ is_one))
      ]

  -- a box that the value of the one that was put refers to stood there in that pair, or is new
  box_comes : (at key to : ℕ) (pair : Pair) (v : ℤ) → IsFilledAt refills.pairs.now at pair
      → at ≡ refills.pairs.refills.one → RefersToPlace now pair.key number → pair.key ≡ reference_word key
      → pair.value ≡ reference_word to → RefersToBox now pair.value v
      → WasEntry before born key to ⊎ IsNewPlace before to
  box_comes at key to pair v filled is_one refers key_is value_is box =
      elim (refills.pairs.refills.each_slot at pair.value (pair, filled, refl)) [
        | ComesFrom.moved was ↦ inl (was_entry (refills.pairs.refills.origin at) key to was.0 was.1.stands
            (same_key at pair was.0 filled is_one refers was.1 ∙ key_is) (was.2 ∙ value_is))
        | ComesFrom.none names ↦ absurd (names box.cell box.words box.target (subst IsOwnedKind (sym box.box) tt))
        | ComesFrom.of_made one among is_box to_box the_one ↦
            let same : one.at ≡ to = same_reference one.at to (sym to_box ∙ value_is) in
            inr (λ other words has stands.
            (weak_step refills).cells.new_places one other words among has (stands ∙ sym same))
      ]

  -- so the value of the one that was put is an object that can be reached, or such a box
  put_comes : (at key to : ℕ) (pair : Pair) (what : Value) → value ≡ Some what → IsFilledAt refills.pairs.now at pair
      → at ≡ refills.pairs.refills.one → pair.key ≡ reference_word key → pair.value ≡ reference_word to
      → WasEntry before born key to
      ⊎ (IsReachedPlace now (reweave graph weak (entries_with weak.entries number value)) to ⊎ IsNewPlace before to)
  put_comes at key to pair what given filled is_one key_is value_is =
      let shown = puts.shown what given in
      let same : shown.0 ≡ pair =
      same_filled refills.pairs.now refills.pairs.refills.one at shown.0 pair (sym is_one) shown.1 filled in
      let shows_entry : ShowsEntry now pair (record { key = number; value = what }) =
      subst (λ (one : Pair). ShowsEntry now one (record { key = number; value = what })) same shown.2 in
      elim (value_target pair.value to what shows_entry.value value_is) [
        | inl object ↦
            let one : ℕ = object.0 in
            let reached : IsTrue (is_marked (reach graph) one) =
            subst (IsReachedValue graph) object.1 (is_new what given).reached in
            let within : one < length graph.objects =
            omega (arith, marked_within (reach graph) one reached, length-rounds graph (length graph.objects)) in
            inr (inl (subst (λ (v : Option Value).
            IsReachedPlace now (reweave graph weak (entries_with weak.entries number v)) to) (sym given)
            (record {
              number = one;
              place = object.2;
              reached = put_value_reached graph weak number what there marked key_marked one object.1 within;
            })))
        | inr box ↦ elim (box_comes at key to pair box.0 filled is_one shows_entry.key key_is value_is box.1) [
          | inl was ↦ inl was
          | inr fresh ↦ inr (inr fresh)
        ]
      ]

  -- one of these is so of each pair that holds something
  pair_comes : (given : Option Value) → value ≡ given → (at key to : ℕ) (pair : Pair)
      → IsFilledAt refills.pairs.now at pair → pair.key ≡ reference_word key → pair.value ≡ reference_word to
      → ShowsPair now refills.pairs.before others (refills.pairs.refills.origin at) refills.pairs.refills.one at pair
      → WasEntry before born key to
      ⊎ (IsReachedPlace now (reweave graph weak (entries_with weak.entries number value)) to ⊎ IsNewPlace before to)
  pair_comes given is at key to pair filled key_is value_is (ShowsPair.kept was no_box) =
      inl (was_entry (refills.pairs.refills.origin at) key to pair was.stands key_is value_is)
  pair_comes None is at key to pair filled key_is value_is (ShowsPair.put one is_one entry) =
      absurd (puts.none_put is pair (subst (λ n. IsFilledAt refills.pairs.now n pair) is_one filled))
  pair_comes (Some what) is at key to pair filled key_is value_is (ShowsPair.put one is_one entry) =
      put_comes at key to pair what is filled is_one key_is value_is

  -- so it is of each entry of the written table
  pub entry_from : (table key at : ℕ) (entry : HasEntry now table key at)
      → Contains (cell ∷ (others ++ made)) entry.cell → WasEntry before born key at
      ⊎ (IsReachedPlace now (reweave graph weak (entries_with weak.entries number value)) at ⊎ IsNewPlace before at)
  entry_from table key at entry among = elim (in_cases cell (others ++ made) entry.cell among) [
    | inl same ↦
        let apart : kind.Weak ≡ kind.Table =
        sym refills.writes.of_kind ∙ ap (λ (c : Cell). c.layout.kind) same ∙ entry.of_kind in
        cc
    | inr rest ↦
        let told = refills.pairs.refills.stores entry.cell rest entry.of_kind in
        let refers : RefersTo now refills.pairs.are.store entry.cell entry.words =
        record { refers = one_table refills ∙ told.1; has = entry.has } in
        let is = is_table_of refills.pairs.are.store refills.pairs.now refills.pairs.are.table refers in
        let filled : IsFilledAt refills.pairs.now entry.place entry.pair = record {
          stands = ap (λ all. slice_get all entry.place) is.are ∙ entry.among;
          filled = λ free. hole_refers_not key (sym (ap (λ (p : Pair). p.key) free) ∙ entry.key_is);
        } in
        pair_comes value refl entry.place key at entry.pair filled entry.key_is entry.value_is
        (refills.pairs.each_pair entry.place entry.pair filled)
  ]
