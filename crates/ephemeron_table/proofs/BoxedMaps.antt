-- The integer of an entry's value is put into the box to which the pair refers: so the entry has the value.
use Rattle.std.specs.Prelude.{ℤ}
use Rattle.std.proofs.Common.{◌≡◌, ◌≢◌, ℕ, ◌+◌, inl, inr, List, [], ◌∷◌, length, Some, false, slice_get, refl, sym, ◌∙◌}
use Rattle.std.proofs.Common.{ap, subst}
use Rattle.std.proofs.lemmas.Bool.{cases_eq}
use Rattle.std.proofs.lemmas.Option.{same_Some}
use Rattle.tagged_word.specs.declared.layout.Kind.TheVariants as kind
use Rattle.tagged_word.proofs.Members.{one_in}
use Rattle.object_graph.specs.declared.value.Rep.TheVariants as rep
use Rattle.object_graph.specs.Values.{rep_of}
use Rattle.object_graph.specs.Graphs.{Graph, WeakObject}
use Rattle.object_graph.specs.Invariants.{IsValue}
use Rattle.write_barrier.specs.Seats.{heap_words}
use Rattle.heap_model.specs.Types.{Value, Cell, Held}
use Rattle.heap_model.specs.Heaps.{words_of_cell}
use Rattle.tagged_word.specs.Cells.{is_object_kind}
use Rattle.heap_model.specs.Slots.{reference_word, raw_word, RefersTo}
use Rattle.heap_model.specs.Kinds.{HasWord, Pair, IsFilledPair, HasTable, count_offset}
use Rattle.heap_model.specs.Showing.{ShowsValue}
use Rattle.heap_model.specs.Wholeness.{NamesFrom, IsOwnedKind}
use Rattle.heap_model.proofs.WordsStay.{PlacesStay, refers_to_place_stays}
use Rattle.write_barrier.specs.MutatorState.{Mutator, heap_of, with_word}
use Rattle.object_cells.specs.declared.content.SlotContent.TheVariants as content
use Rattle.object_cells.specs.Contents.{next_at}
use Rattle.object_cells.specs.Made.{store_content}
use Rattle.object_cells.specs.OwnSlots.{IsNoBoxOf}
use Rattle.object_cells.proofs.ContentValues.{box_shows}
use Rattle.object_cells.proofs.FieldWords.{value_word}
use Rattle.object_cells.proofs.FilledSlots.{set_there}
use Rattle.object_cells.proofs.HeldContents.{HoldsValue}
use Rattle.object_cells.proofs.IntegerTouches.{integer_remembers}
use Rattle.object_cells.proofs.MadeBoxes.{boxed_integer, row_of_none}
use Rattle.object_cells.proofs.NothingUsed.{room_for_none}
use Rattle.object_cells.proofs.OwnIntegers as integer
use Rattle.object_cells.proofs.OwnIntegers.{PutsInteger}
use Rattle.object_cells.proofs.OwnerWrites.{weak_owns}
use Rattle.object_cells.proofs.SlotBoxes.{IsBoxOf}
use Rattle.object_cells.proofs.TakenRuns.{takes_none}
use Rattle.weak_pairs.specs.Pairs.{IsFilledAt}
use Rattle.weak_pairs.specs.Tables.{pairs_of}
use Rattle.weak_pairs.specs.declared.table.Table.{Table}
use Rattle.weak_pairs.proofs.CountedPairs.{count_filled}
use Rattle.weak_pairs.proofs.PairWords.{IsValueAt, ValueSlot, value_slot_at, one_value}
use Rattle.ephemeron_table.specs.PairWrites.{RefillsPairs, HasValue, ShowsPair}
use Rattle.ephemeron_table.proofs.EntryPairs.{HasEntryPair, known, entry_filled, entry_refers}
use Rattle.ephemeron_table.proofs.KnownTables.{are_before, cell, cell_has, sound, slot_there, finds_all, pairs_same}
use Rattle.ephemeron_table.proofs.ReplacedValues.{ReplacesValue}
use Rattle.ephemeron_table.proofs.StayingTables as staying
use Rattle.ephemeron_table.proofs.StayingTables.{WritesMap}

module _ {old new : Mutator} {graph : Graph} {map key : ℕ} {weak : WeakObject} {number place : ℕ} {table : Table}
    {what : Value} {box : ℕ} (v : ℤ) (value : Held) (has : HasEntryPair old graph map key weak number place table)
    (box_of : IsBoxOf (heap_of old) has.told.pair.value box)
    (puts_it : new ≡ with_word old (box + 1) (raw_word v))
    (holds : HoldsValue (heap_of old) false rep.Small (rep_of what) what (store_content value))
    (value_fits : IsValue (length graph.objects) what) (boxed : store_content value ≡ content.Boxed v) where
  -- the map's cell, and the box alone beside it
  abbrev map_cell : Cell
  map_cell = cell (known has)

  abbrev others : List Cell
  others = box_of.cell ∷ []

  -- the pairs stay
  abbrev pairs : List Pair
  pairs = pairs_of (heap_words old.seat) table

  -- a value that refers to the box names it
  pub names : (at : ℕ) (pair : Pair) → IsFilledAt pairs at pair
      → RefersTo (heap_of old) pair.value box_of.cell box_of.words
      → (slot : ValueSlot (heap_of old) map_cell (words_of_cell (heap_of old) map_cell) at pair.value)
      × NamesFrom (heap_of old) map_cell slot.place box_of.cell.at
  names at pair filled refers =
      let slot = value_slot_at {cell = map_cell} at pair (are_before (known has)) filled.stands in (
        slot,
        record {
          words = words_of_cell (heap_of old) map_cell;
          has = cell_has (known has);
          object = ap is_object_kind (known has).there.of_kind;
          word = pair.value;
          of_owner = slot.slot;
          cell = box_of.cell;
          others = box_of.words;
          refers = refers;
          owned = subst IsOwnedKind (sym box_of.box) tt;
          at = refl;
        },
      )

  -- the integer is put into a box of the map
  abbrev put_it : PutsInteger kind.Weak kind.Table old new map_cell has.told.pair.value box v
  put_it =
      let named = names place has.told.pair (entry_filled has) box_of.refers in
      record {
        owns = weak_owns;
        tied = (known has).tied;
        whole = (known has).whole;
        has = cell_has (known has);
        of_kind = (known has).there.of_kind;
        box_of = box_of;
        named = (named.0.place, named.1);
        fits = boxed_integer (length graph.objects) v holds value_fits boxed;
        puts_it = puts_it;
      }

  -- no other pair refers to it
  no_box : (at : ℕ) (pair : Pair) → at ≢ place → IsFilledAt pairs at pair → IsNoBoxOf others pair.value
  no_box at pair apart filled one among is_box same =
      let here = names place has.told.pair (entry_filled has) box_of.refers in
      let second = names at pair filled (record {
        refers = same ∙ ap (λ (c : Cell). reference_word c.at) (sym (one_in box_of.cell one among));
        has = box_of.refers.has;
      }) in
      let one_slot : second.0.place ≡ here.0.place =
      (known has).whole.owned map_cell map_cell second.0.place here.0.place box_of.cell.at second.1 here.1 in
      apart (one_value at place here.0.place
      (subst (λ n. IsValueAt (heap_of old) (words_of_cell (heap_of old) map_cell) at n) one_slot second.0.stands)
      here.0.stands)

  -- so words of the map's own cells were written
  abbrev written : WritesMap old new map table (known has) others []
  written =
      let all = integer.beside put_it in
      record { writes = all.writes; belong = all.belong; kinds = all.kinds }

  -- objects keep their places
  places : PlacesStay (heap_of old) (heap_of new)
  places = staying.places (known has) written

  -- its table has the pairs that it had
  table_stays : {store : ℕ} {all : List Pair} → HasTable (heap_of old) store all → HasTable (heap_of new) store all
  table_stays HasTable.none = HasTable.none
  table_stays (HasTable.table store one words refers is power) =
      HasTable.table store one words
      (record { refers = refers.refers; has = integer.owned_stays put_it refers.has is }) is power

  -- and the pair of the entry shows the value
  shows_value : ShowsValue (heap_of new) has.told.pair.value what
  shows_value = box_shows has.told.pair.value v holds boxed (integer.refers_to_box put_it)

  pair_shows : (at : ℕ) (one : Pair) → IsFilledAt pairs at one → ShowsPair (heap_of new) pairs others at place at one
  pair_shows at one is = elim (cases_eq at place) [
    | inl same ↦
        let entry : has.told.pair ≡ one =
        same_Some has.told.pair one
        (sym (entry_filled has).stands ∙ ap (slice_get pairs) (sym same) ∙ is.stands) in
        ShowsPair.put number same (subst (λ (p : Pair). IsFilledPair (heap_of new) p number) entry (record {
          key = refers_to_place_stays places (entry_refers has);
          value = value_word has.told.pair.value what shows_value;
        }))
    | inr apart ↦ ShowsPair.kept is (no_box at one apart is)
  ]

  -- so the map is refilled
  abbrev refills : RefillsPairs (heap_of old) (heap_of new) map_cell others []
  refills =
      let same = pairs_same (known has) in
      let were = are_before (known has) in
      let all = integer.refills put_it (HasValue pairs) place were.store were.slot in
      record {
        before = pairs;
        were = were;
        now = pairs;
        are = record { store = were.store; slot = all.has_store; table = table_stays were.table };
        counted = integer.word_now put_it count_offset (count_filled pairs)
            (subst (λ words. HasWord words count_offset (count_filled pairs)) (sym (known has).there.has.words_are)
            ((sound (known has)).counted ∙ ap (λ all. Some (count_filled all)) (sym same)));
        refills = all;
        each_pair = pair_shows;
        probed = staying.probed (known has) written pairs (finds_all (known has));
      }

  -- and the entry has the value
  pub box_replaces : ReplacesValue old new (known has) place key what 0
  box_replaces = record {
    others = others;
    made = [];
    refills = record {
      whole = (known has).whole;
      writes = integer.writes put_it;
      paths = ap (λ (m : Mutator). m.paths) puts_it;
      pairs = refills;
    };
    takes = takes_none (integer.rest_stays put_it) (room_for_none old (known has).tied (known has).whole)
        (integer.same_young put_it);
    row = row_of_none (heap_of new) (next_at old);
    remembers = integer_remembers put_it;
    now = has.told.pair;
    before_is = refl;
    now_is = sym (set_there pairs place has.told.pair (entry_filled has).stands);
    origin_is = λ at. refl;
    one_is = refl;
    key_is = has.told.key_is;
    shows = shows_value;
    places = places;
    back = staying.refers_back (known has) written;
    slot_stays = integer.slot_stays put_it (slot_there (known has));
    room = room_for_none old (known has).tied (known has).whole;
    beside = integer.rest_stays put_it;
    young = integer.same_young put_it;
  }
