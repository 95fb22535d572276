-- Where an entry of a weak map was put, a pair of its key was put among the map's pairs.
use Rattle.std.proofs.Common.{◌≡◌, ◌≢◌, ℕ, ◌+◌, List, ◌∷◌, ◌++◌, None, Some, refl, sym, ◌∙◌, ap, subst, unwrap_or}
use Rattle.tagged_word.proofs.Members.{first_in}
use Rattle.page_space.specs.Sizes.{AreWithin}
use Rattle.page_space.specs.Extents.{Space}
use Rattle.heap_model.specs.Types.{Value, Entry, Cell, Held}
use Rattle.object_graph.specs.declared.value.Value.TheVariants.{Undefined, Int, Ref}
use Rattle.object_graph.specs.Objects.{entry_value}
use Rattle.object_graph.specs.Graphs.{Graph, WeakObject}
use Rattle.handle_roots.specs.declared.held.Held.TheVariants as held
use Rattle.heap_model.specs.Heaps.{Heap, words_of_cell}
use Rattle.heap_model.specs.Slots.{reference_word, IsPlace, RefersToPlace}
use Rattle.heap_model.specs.Kinds.{Pair, count_offset}
use Rattle.heap_model.specs.Showing.{ShowsHeld}
use Rattle.heap_model.specs.Needs.{count_at}
use Rattle.heap_model.specs.Rooms.{IsMapFull}
use Rattle.write_barrier.specs.MutatorState.{Mutator, heap_of, MainShows}
use Rattle.write_barrier.specs.Recording.{Remembers}
use Rattle.write_barrier.specs.Storing.{StoresOn}
use Rattle.write_barrier.specs.Values.{held_of_class}
use Rattle.write_barrier.specs.ValueLaws.{ShownValuesAreHeld}
use Rattle.object_cells.specs.Capacities.{ChangesObjectUsing}
use Rattle.object_cells.specs.HeldValues.{IsReachedValue, IsValueHeld}
use Rattle.object_cells.specs.Uses.{TakesRun}
use Rattle.object_cells.proofs.CellsRead.{word_stands}
use Rattle.object_cells.proofs.OwnerWrites.{weak_owns, written_own_keeps_cells}
use Rattle.ephemeron_table.specs.WeakObjects.{IsKeyAt, IsWeakAt}
use Rattle.weak_pairs.specs.Pairs.{HasPairsAt, IsFilledAt, AreWith, IsPairOf, LacksPair}
use Rattle.ephemeron_table.specs.PairChanges.{HasPutPair, WordStandsFor}
use Rattle.ephemeron_table.specs.EntryChanges.{map_room}
use Rattle.ephemeron_table.specs.PairLaws.{RefillsWeak, PutsOne}
use Rattle.ephemeron_table.specs.PairWrites.{ShowsPair}
use Rattle.ephemeron_table.specs.Probes.{IsTableAt}
use Rattle.ephemeron_table.specs.PutWords.{PutsAt}
use Rattle.weak_pairs.specs.declared.table.Table.{Table}
use Rattle.weak_pairs.proofs.CountedPairs.{count_filled}
use Rattle.ephemeron_table.proofs.KeysFound.{WeakShown, weak_shown, one_place}
use Rattle.ephemeron_table.proofs.KnownTables.{KnownMap, shown_known}
use Rattle.ephemeron_table.proofs.PairsByKey.{has_pair, lacks_pair, pairs_shown}
use Rattle.ephemeron_table.proofs.PutRefusals.{few_lacking}

-- what is held where a value is shown
abbrev HeldBy : Heap → Held → Value → Type 0
HeldBy heap known Undefined = known ≡ held.Undefined
HeldBy heap known (Int v) = known ≡ held.Int v
HeldBy heap known (Ref number) = (at : ℕ) × (known ≡ held.Ref at) × IsPlace heap number at

-- so it is where the heap shows the value to a variable
held_by : {heap : Heap} (known : Held) (what : Value) → ShowsHeld heap known (Some what) → HeldBy heap known what
held_by known what ShowsHeld.undefined = refl
held_by known what (ShowsHeld.integer v) = refl
held_by known what (ShowsHeld.object at number place) = (at, refl, place)

-- what shows a value after a change that moved no object is what showed it before
same_held : {old : Mutator} {graph : Graph} (new : Mutator) (now was : Held) (what : Value) → MainShows old graph
    → ((number at : ℕ) → IsPlace (heap_of new) number at → IsPlace (heap_of old) number at)
    → IsReachedValue graph what → HeldBy (heap_of new) now what → HeldBy (heap_of old) was what → now ≡ was
same_held new now was Undefined shows back reached one other = one ∙ sym other
same_held new now was (Int v) shows back reached one other = one ∙ sym other
same_held {old} {graph = graph} new now was (Ref number) shows back reached one other =
    let is_key : IsKeyAt old graph other.0 number = record { place = other.2; reached = reached } in
    one.1 ∙ ap held.Ref (one_place one.0 shows is_key (back number one.0 one.2)) ∙ sym other.1

-- Of the pairs after as many hold something as the map counted where the key had an entry, and else one more.
pub data CountsPut (heap : Heap) (map : ℕ) (entries : List Entry) (number : ℕ) (after : List Pair) : Type 0 where
  there : (value : Value) → entry_value entries number ≡ Some value → count_filled after ≡ count_at heap map
      → CountsPut heap map entries number after
  fresh : entry_value entries number ≡ None → count_filled after ≡ count_at heap map + 1
      → CountsPut heap map entries number after

-- The entry of a key was put: the pairs of all other keys are kept, only words of the map changed and so many that were
-- taken, and what was recorded follows. What was made stands where the next cell is made.
pub record PutsShown (old new : Mutator) (graph : Graph) (map key : ℕ) (weak : WeakObject) (number : ℕ) (value : Held)
    (what : Value) : Type 0 where
  pub shows : MainShows old graph
  pub is : IsWeakAt old graph map weak
  pub is_key : IsKeyAt old graph key number
  pub is_held : IsValueHeld old graph value what
  pub sizes : AreWithin old.seat.space.sizes old.seat.space.variables
  pub table : Table
  pub is_table : IsTableAt (heap_of old) map table
  pub few : IsMapFull (map_room old map weak) weak number → ⊥
  pub puts : PutsAt old new map key value
  pub cell : Cell
  pub others : List Cell
  pub made : List Cell
  pub stands : cell.at ≡ map
  pub refills : RefillsWeak (heap_of old) (heap_of new) cell others made
  pub takes : TakesRun old new made
  pub stores : StoresOn old new
  pub remembers : Remembers old new (cell ∷ others) (cell ∷ others) made
  pub one : PutsOne (heap_of old) (heap_of new) refills.pairs number (Some what)
  pub need : ℕ
  pub capacity : ℕ
  pub changes : ChangesObjectUsing old new need map capacity
  pub counted : CountsPut (heap_of old) map weak.entries number refills.pairs.now

module _ {old new : Mutator} {graph : Graph} {map key : ℕ} {weak : WeakObject} {number : ℕ} {value : Held}
    {what : Value} (puts : PutsShown old new graph map key weak number value what) where
  -- the pairs before and after
  abbrev before : List Pair
  before = puts.refills.pairs.before

  abbrev after : List Pair
  after = puts.refills.pairs.now

  -- the pair that was put
  abbrev put : Pair
  put = (puts.one.shown what refl).0

  -- what refers to the key's object has the word of the key
  key_word : (pair : Pair) → RefersToPlace (heap_of old) pair.key number → pair.key ≡ reference_word key
  key_word pair refers =
      refers.refers ∙ ap reference_word (one_place refers.at puts.shows puts.is_key refers.place)

  -- and the other way round
  refers_now : (pair : Pair) → pair.key ≡ reference_word key → RefersToPlace (heap_of new) pair.key number
  refers_now pair is =
      record { at = key; refers = is; place = puts.changes.stays number key puts.is_key.place }

  -- the pair has the key
  put_key : put.key ≡ reference_word key
  put_key =
      let refers = (puts.one.shown what refl).2.key in
      key_word put (record {
        at = refers.at;
        refers = refers.refers;
        place = puts.changes.none_made number refers.at refers.place;
      })

  -- so it is the pair of the word of the key
  put_filled : IsFilledAt after puts.refills.pairs.refills.one (record { key = reference_word key; value = put.value })
  put_filled =
      let same : put ≡ record { key = reference_word key; value = put.value } =
      ap (λ k. record { key = k; value = put.value }) put_key in
      subst (IsFilledAt after puts.refills.pairs.refills.one) same (puts.one.shown what refl).1

  -- each other pair stood before
  was_there : (at : ℕ) (pair : Pair) → IsFilledAt after at pair → at ≢ puts.refills.pairs.refills.one
      → IsFilledAt before (puts.refills.pairs.refills.origin at) pair
  was_there at pair filled apart = elim (puts.refills.pairs.each_pair at pair filled) [
    | ShowsPair.kept was none ↦ was
    | ShowsPair.put n same is ↦ absurd (apart same)
  ]

  -- so the pairs are those before with that which was put
  are_with : AreWith before after (reference_word key) put.value
  are_with = record {
    place = puts.refills.pairs.refills.one;
    put = put_filled;
    origin = puts.refills.pairs.refills.origin;
    from = λ at pair filled apart. (
      was_there at pair filled apart,
      λ is. apart (puts.one.own at pair filled (refers_now pair is)).0,
    );
    apart = λ at other pair another filled filled_too not_put not_put_too same.
        puts.refills.pairs.refills.apart at other pair.value another.value (pair, filled, refl) (
          another,
          filled_too,
          refl,
        )
        same;
    kept = λ at pair filled other. puts.one.kept at pair filled (λ refers. other (key_word pair refers));
  }

  -- the word of its value stands for what is held
  put_stands : ShownValuesAreHeld → WordStandsFor (heap_of new) put.value value
  put_stands held =
      let heap = heap_of new in
      let shown = (puts.one.shown what refl).2.value in
      let space : AreWithin heap.space.sizes heap.space.variables =
      subst (λ (s : Space). AreWithin s.sizes s.variables) (sym puts.refills.writes.same_space) puts.sizes in
      let by = held heap put.value what space puts.refills.writes.sized shown in
      record {
        class = by.class;
        is_class = by.is_class;
        bits = by.bits;
        stands = same_held new (held_of_class heap by.class) value what puts.shows puts.changes.none_made
            puts.is_held.reached (held_by (held_of_class heap by.class) what by.shows)
            (held_by value what puts.is_held.shows);
      }

  -- the map has these pairs
  abbrev has_after : HasPairsAt (heap_of new) map after
  has_after =
      let cells = (written_own_keeps_cells weak_owns puts.refills.whole puts.refills.writes).1 in
      record {
        cell = puts.cell;
        words = words_of_cell (heap_of new) puts.cell;
        has = cells.comes puts.cell (first_in puts.cell (puts.others ++ puts.made));
        stands = puts.stands;
        of_kind = puts.refills.writes.of_kind;
        are = puts.refills.pairs.are;
      }

  -- so many of them hold something as it counts
  pub count_after : count_at (heap_of new) map ≡ count_filled after
  count_after =
      ap (λ n. count_at (heap_of new) n) (sym puts.stands)
      ∙ ap (λ found. unwrap_or found 0)
      (word_stands count_offset (count_filled after) has_after.has puts.refills.pairs.counted)

  -- it had those before
  has_before : HasPairsAt (heap_of old) map before
  has_before = record {
    cell = puts.cell;
    words = words_of_cell (heap_of old) puts.cell;
    has = puts.refills.writes.stood;
    stands = puts.stands;
    of_kind = puts.refills.writes.of_kind;
    are = puts.refills.pairs.were;
  }

  -- the map as it was shown, and known with its table
  abbrev shown : WeakShown old graph map weak
  shown = weak_shown puts.shows puts.is

  abbrev known : KnownMap old map puts.table
  known = shown_known puts.shows puts.is puts.sizes puts.is_table

  -- the pairs that were shown are those before
  same_shown : shown.shows.pairs ≡ before
  same_shown = pairs_shown known shown has_before

  -- they are as many as before where a pair had the key
  as_many : (place : ℕ) (pair : Pair) → IsPairOf before (reference_word key) place pair
      → count_at (heap_of new) map ≡ count_at (heap_of old) map
  as_many place pair its = elim puts.counted [
    | CountsPut.there earlier is same ↦ count_after ∙ same
    | CountsPut.fresh none more ↦ absurd (lacks_pair shown puts.is_key same_shown none place pair its)
  ]

  -- and one more where none had it
  one_more : LacksPair before (reference_word key)
      → count_at (heap_of new) map ≡ count_at (heap_of old) map + 1
  one_more lacks = elim puts.counted [
    | CountsPut.there earlier is same ↦
        let its = has_pair shown puts.is_key same_shown puts.shows earlier is in
        absurd (lacks its.0 its.1 its.2)
    | CountsPut.fresh none more ↦ count_after ∙ more
  ]

  -- so the pair was put
  pub has_put_pair : ShownValuesAreHeld → (pairs : List Pair) → HasPairsAt (heap_of old) map pairs
      → HasPutPair old new map key value pairs
  has_put_pair held pairs has =
      let put_there : HasPutPair old new map key value before = record {
        few = few_lacking known puts.shows puts.is puts.is_key has_before puts.few;
        puts = puts.puts;
        after = after;
        are = has_after;
        word = put.value;
        stands = put_stands held;
        with_it = are_with;
        as_many = as_many;
        one_more = one_more;
      } in
      subst (HasPutPair old new map key value) (sym same_shown ∙ pairs_shown known shown has) put_there
