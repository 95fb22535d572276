-- A weak map to which an entry came in a table that was made is refilled.
use Rattle.std.proofs.Common.{◌≡◌, ℕ, ◌+◌, ◌<◌, inl, inr, List, [], ◌∷◌, drop, Some, false, slice_get, refl}
use Rattle.std.proofs.Common.{sym, ◌∙◌, ap, subst, arith}
use Rattle.std.proofs.lemmas.Bool.{cases_lt}
use Rattle.std.proofs.lemmas.Option.{same_Some}
use Rattle.tagged_word.specs.declared.layout.Kind.TheVariants as kind
use Rattle.tagged_word.specs.Cells.{store_head, store_slot}
use Rattle.tagged_word.specs.Readings.{reference_in}
use Rattle.tagged_word.proofs.Members.{first_in}
use Rattle.tagged_word.proofs.Readings.{reference_to}
use Rattle.heap_model.specs.Types.{Value, Cell, Held}
use Rattle.object_graph.specs.declared.value.Rep.TheVariants as rep
use Rattle.object_graph.specs.Values.{rep_of}
use Rattle.object_graph.specs.Invariants.{IsValue}
use Rattle.write_barrier.specs.Seats.{heap_words}
use Rattle.heap_model.specs.Heaps.{words_of_cell}
use Rattle.heap_model.specs.Slots.{reference_word, RefersToPlace, IsPlace}
use Rattle.heap_model.specs.Kinds.{HasWord, Pair, HasTable, IsFilledPair, pairs_in, count_offset}
use Rattle.heap_model.specs.Kinds.{IsPowerOfTwo}
use Rattle.heap_model.proofs.BoundHeaps.{none_in}
use Rattle.write_barrier.specs.MutatorState.{Mutator, heap_of}
use Rattle.object_cells.specs.Contents.{next_at}
use Rattle.object_cells.specs.Made.{store_content, content_word}
use Rattle.object_cells.proofs.HeldContents.{HoldsValue}
use Rattle.object_cells.proofs.FilledRuns.{filled_named}
use Rattle.object_cells.proofs.MadeBoxes.{made_boxes}
use Rattle.object_cells.proofs.OwnerWrites.{weak_owns}
use Rattle.object_cells.proofs.TakenValues as taken
use Rattle.object_cells.proofs.TakenValues.{TakesValue, filled_takes}
use Rattle.object_cells.proofs.SlotsNow.{word_at_offset}
use Rattle.object_cells.proofs.WordsTold.{cell_fits}
use Rattle.object_cells.proofs.FieldWords.{value_word}
use Rattle.ephemeron_table.proofs.PairComes.{PairComes, value_comes, pair_shows}
use Rattle.weak_pairs.specs.Pairs.{HasPairs, IsFilledAt}
use Rattle.ephemeron_table.specs.PairWrites.{RefillsPairs, HasValue}
use Rattle.ephemeron_table.specs.PairLaws.{RefillsWeak}
use Rattle.weak_pairs.specs.declared.table.Table.{Table}
use Rattle.weak_pairs.proofs.CountedPairs.{count_filled}
use Rattle.ephemeron_table.proofs.GrownPairs.{before, after, place, origin, origin_other, all_apart, all_found, moved}
use Rattle.ephemeron_table.proofs.GrownPairs.{one_more, NowFilled, now_filled}
use Rattle.ephemeron_table.proofs.GrownWords.{GrowsTable, pair, made_table, other, box, capacity, count_word, filled}
use Rattle.ephemeron_table.proofs.GrownWords.{fits_new}
use Rattle.weak_pairs.proofs.GrownPowers.{first_power, grown_power}
use Rattle.weak_pairs.proofs.PairLists.{pairs_are}
use Rattle.ephemeron_table.proofs.TablesRead.{found_table, pairs_stand}
use Rattle.ephemeron_table.proofs.KnownTables.{are_before, KnownMap, cell, of_map, found, other_long}
use Rattle.object_cells.specs.OwnSlots.{ComesFrom}
use Rattle.ephemeron_table.proofs.StayingTables as staying
use Rattle.ephemeron_table.proofs.StayingTables.{WritesMap}
use Rattle.std.proofs.Common.{◌≡◌, ℕ, ◌+◌, ◌<◌, false, List, [], ◌∷◌, Some}
use Rattle.std.proofs.Common.{slice_get, refl, sym, ◌∙◌, ap, subst, arith}
use Rattle.std.proofs.lemmas.Option.{none-some, same_Some, slice_get_within}
use Rattle.tagged_word.specs.Cells.{store_head}
use Rattle.heap_model.specs.Types.{Value, Held}
use Rattle.heap_model.specs.Slots.{RefersToPlace}
use Rattle.heap_model.specs.Kinds.{Pair}
use Rattle.heap_model.specs.Showing.{ShowsEntry}
use Rattle.write_barrier.specs.MutatorState.{Mutator, heap_of}
use Rattle.weak_pairs.specs.Pairs.{IsFilledAt}
use Rattle.ephemeron_table.specs.PairLaws.{PutsOne}
use Rattle.ephemeron_table.proofs.GrownPairs.{before, origin_other, moved, moved_apart, moved_stands, NowFilled}
use Rattle.ephemeron_table.proofs.GrownPairs.{now_filled, one_stands}
use Rattle.ephemeron_table.proofs.GrownWords.{GrowsTable, pair}
use Rattle.ephemeron_table.proofs.KnownTables.{KnownMap, pairs_long}

-- An entry whose key is new comes to a map in a table that is made: the key's object, and the value.
pub record GrowsEntry (old new : Mutator) (map key count earlier number : ℕ) (table : Table) (value : Held)
    (what : Value) : Type 0 where
  pub grows : GrowsTable old new map key count earlier table value
  pub objects : ℕ
  pub key_place : IsPlace (heap_of old) number key
  pub holds : HoldsValue (heap_of old) false rep.Small (rep_of what) what (store_content value)
  pub fits : IsValue objects what
  pub counted : count ≡ count_filled (before grows) + 1

module _ {old new : Mutator} {map key count earlier number : ℕ} {table : Table} {value : Held} {what : Value}
    (entry : GrowsEntry old new map key count earlier number table value what) where
  abbrev grows : GrowsTable old new map key count earlier table value
  grows = entry.grows

  abbrev known : KnownMap old map table
  known = grows.known

  abbrev map_cell : Cell
  map_cell = cell known

  abbrev pub table_made : Cell
  table_made = other grows

  abbrev pub boxes_made : List Cell
  boxes_made = made_boxes (store_content value) (box grows)

  abbrev pub all_made : List Cell
  all_made = table_made ∷ boxes_made

  abbrev pairs_after : List Pair
  pairs_after = after grows

  -- the map takes the value
  pub takes : TakesValue kind.Weak kind.Table (heap_of old) (heap_of new) map_cell map_cell [] (table_made ∷ [])
      (store_content value) (box grows) what (reference_word (next_at old))
  takes = filled_takes entry.objects weak_owns refl (filled grows) entry.fits entry.holds

  -- words of the map's own cell were written, and cells were made
  abbrev written : WritesMap old new map table known [] all_made
  written = record { writes = takes.writes; belong = takes.belong; kinds = taken.made_kinds takes }

  -- what refers to an object did so before
  pub refers_back : (word another : ℕ) → RefersToPlace (heap_of new) word another
      → RefersToPlace (heap_of old) word another
  refers_back = staying.refers_back known written

  -- the word of the map refers to the table
  pub slot_now : HasWord (words_of_cell (heap_of new) map_cell) store_slot (reference_word (next_at old))
  slot_now =
      let size = of_map known 1 (omega arith) in
      taken.slot_is takes (omega (arith, size.below, known.there.stands)) (filled_named (filled grows))

  -- and its count is one more
  pub count_now : HasWord (words_of_cell (heap_of new) map_cell) count_offset (count_filled pairs_after)
  count_now =
      let size = of_map known 2 (omega arith) in
      let more : count ≡ count_filled pairs_after = entry.counted ∙ sym (one_more grows) in
      word_at_offset count_offset (taken.came_has takes) (omega (arith, size.below, known.there.stands))
      ∙ ap (λ n. slice_get (heap_words new.seat) (n + count_offset)) known.there.stands
      ∙ count_word grows ∙ ap (λ n. Some n) more

  -- so many pairs are a power of two
  power : IsPowerOfTwo (capacity grows)
  power = elim (cases_lt 0 table.capacity) [
    | inl some ↦
        grown_power table.capacity (subst IsPowerOfTwo (other_long known some) (found known some).power)
    | inr none ↦ first_power table.capacity (omega (arith, none))
  ]

  -- the table has the pairs
  pub table_now : HasTable (heap_of new) (reference_word (next_at old)) pairs_after
  table_now =
      let word : ℕ = reference_word (next_at old) in
      let words = words_of_cell (heap_of new) table_made in
      let pairs = pairs_in (drop store_head words) in
      let has : HasTable (heap_of new) word pairs =
      HasTable.table word table_made words
      (record { refers = refl; has = taken.made_has takes table_made (first_in table_made boxes_made) })
      refl power in
      let now = found_table word pairs (next_at old) has refl in
      let length_now : now.cell.length ≡ capacity grows =
      same_Some now.cell.length (capacity grows) (sym now.counted ∙ (filled grows).fills.counted) in
      let same : pairs_after ≡ pairs =
      pairs_are (heap_words new.seat) (made_table grows) pairs (fits_new grows)
      (pairs_stand word pairs (next_at old) (capacity grows) now length_now) in
      subst (HasTable (heap_of new) word) (sym same) has

  abbrev pub are_after : HasPairs (heap_of new) (words_of_cell (heap_of new) map_cell) pairs_after
  are_after = record { store = reference_word (next_at old); slot = slot_now; table = table_now }

  -- the key is what the word refers to
  pub key_refers : reference_in (reference_word key) ≡ Some key
  key_refers =
      reference_to (reference_word key) key
      (subst (λ n. n < 4294967296) entry.key_place.stands
      (cell_fits known.whole.sized known.sizes entry.key_place.has)) refl

  -- the pair that was put shows a key and a value
  pair_filled : IsFilledPair (heap_of new) (pair grows) number
  pair_filled = record {
    key = record { at = key; refers = refl; place = taken.places takes number key entry.key_place };
    value = value_word _ what (taken.value_shows takes);
  }

  -- each pair comes from where it may
  pub comes : (at : ℕ) (one : Pair) → IsFilledAt pairs_after at one
      → PairComes (heap_of new) (before grows) [] all_made (origin grows at)
      (place grows) at one
  comes at one is = elim (now_filled grows at one is) [
    | NowFilled.here same put_is ↦
        subst (PairComes (heap_of new) (before grows) [] all_made (origin grows at)
        (place grows) at) put_is
        (PairComes.put number same pair_filled
        (subst (λ n. ComesFrom (heap_of new) (HasValue (before grows)) all_made (origin grows at) n at
        (content_word (store_content value) (box grows))) same
        (taken.value_comes takes (HasValue (before grows)) (origin grows at) at)))
    | NowFilled.elsewhere apart now ↦
        PairComes.kept
        (subst (λ n. IsFilledAt (before grows) n one) (sym (origin_other grows at apart))
        ((moved grows).from at one now).0)
        (λ other among box same. none_in other among)
  ]

  -- so the map is refilled
  abbrev pub refills : RefillsPairs (heap_of old) (heap_of new) map_cell [] all_made
  refills = record {
    before = before grows;
    were = are_before known;
    now = pairs_after;
    are = are_after;
    counted = count_now;
    refills = record {
      origin = origin grows;
      apart = λ at other word another one two. all_apart grows at other one.0 two.0 one.1 two.1;
      one = place grows;
      each_slot = λ at word there. subst (ComesFrom (heap_of new) (HasValue (before grows)) all_made
          (origin grows at) (place grows) at) there.2 (value_comes (comes at there.0 there.1));
      store = reference_word (next_at old);
      has_store = slot_now;
      store_comes = inr (table_made, first_in table_made boxes_made, refl, refl);
      belong = takes.belong;
      kinds = taken.made_kinds takes;
      stores = taken.stores_told takes;
      boxes = taken.boxes_told takes;
    };
    each_pair = λ at one is. pair_shows (comes at one is);
    probed = staying.probed known written pairs_after (all_found grows key_refers);
  }

  abbrev pub refills_weak : RefillsWeak (heap_of old) (heap_of new) map_cell [] all_made
  refills_weak = record {
    whole = known.whole;
    writes = takes.writes;
    paths = (filled grows).paths;
    pairs = refills;
  }

module _ {old new : Mutator} {map key count earlier number : ℕ} {table : Table} {value : Held} {what : Value}
    (entry : GrowsEntry old new map key count earlier number table value what)
    (none : (at : ℕ) (one : Pair) → IsFilledAt (before entry.grows) at one
    → RefersToPlace (heap_of old) one.key number → ⊥) where
  -- the pair that was put shows the entry
  entry_shows : (put : Value) → ◌≡◌ {A = Value} what put
      → ShowsEntry (heap_of new) (pair (grows entry)) (record { key = number; value = put })
  entry_shows put same =
      subst (λ v. ShowsEntry (heap_of new) (pair (grows entry)) (record { key = number; value = v })) same (record {
        key = record { at = key; refers = refl; place = taken.places (takes entry) number key entry.key_place };
        value = taken.value_shows (takes entry);
      })

  -- all pairs before are kept, and it is the one of its key
  pub puts_one : PutsOne (heap_of old) (heap_of new) (refills_weak entry).pairs number (Some what)
  puts_one = record {
    kept = λ at one is other.
        let below : at < table.capacity =
        omega (arith, slice_get_within (before (grows entry)) at one is.stands, pairs_long (grows entry).known) in
        let kept = (moved (grows entry)).kept at one is below in
        let apart = moved_apart (grows entry) kept.0 one kept.1 in
        (kept.0, moved_stands (grows entry) kept.0 one kept.1, origin_other (grows entry) kept.0 apart ∙ kept.2, apart);
    own = λ at one is refers. elim (now_filled (grows entry) at one is) [
      | NowFilled.here same put_is ↦ (same, refl)
      | NowFilled.elsewhere apart now ↦
          absurd (none ((moved (grows entry)).origin at) one ((moved (grows entry)).from at one now).0
          (refers_back entry one.key number refers))
    ];
    shown = λ put is. (pair (grows entry), one_stands (grows entry), entry_shows put (same_Some what put is));
    none_put = λ is. absurd (none-some what (sym is));
  }
