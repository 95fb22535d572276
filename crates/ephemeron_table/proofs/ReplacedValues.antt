-- The pair of an entry came to have another value: so the entry is put.
use Rattle.std.proofs.Common.{◌≡◌, ◌≢◌, ℕ, ◌+◌, inl, inr, List, ◌∷◌, Some}
use Rattle.std.proofs.Common.{slice_get, refl, sym, ◌∙◌, ap, subst}
use Rattle.std.specs.Prelude.{slice_set}
use Rattle.std.proofs.lemmas.Bool.{cases_eq}
use Rattle.std.proofs.lemmas.Option.{none-some, same_Some, slice_get_within}
use Rattle.tagged_word.specs.Cells.{store_slot}
use Rattle.nursery.specs.Young.{HasRoom, bumped}
use Rattle.heap_model.specs.Types.{Value, Cell}
use Rattle.object_graph.specs.Graphs.{Graph, WeakObject}
use Rattle.object_graph.proofs.Lists.{slice_get-set_same}
use Rattle.cell_layout.specs.Cells.{IsRow}
use Rattle.write_barrier.specs.Seats.{heap_words, RestStays}
use Rattle.heap_model.specs.Slots.{reference_word, RefersToPlace}
use Rattle.heap_model.specs.Kinds.{Pair}
use Rattle.heap_model.specs.Showing.{ShowsValue}
use Rattle.heap_model.specs.Needs.{capacity_at, count_at}
use Rattle.heap_model.proofs.WordsStay.{PlacesStay}
use Rattle.write_barrier.specs.MutatorState.{Mutator, heap_of}
use Rattle.write_barrier.specs.Recording.{Remembers}
use Rattle.object_cells.specs.Capacities.{ChangesObjectUsing}
use Rattle.object_cells.specs.Contents.{next_at}
use Rattle.object_cells.specs.Uses.{TakesRun}
use Rattle.ephemeron_table.proofs.KeptTables.{tables_stay}
use Rattle.weak_pairs.specs.Pairs.{IsFilledAt}
use Rattle.ephemeron_table.specs.PairLaws.{RefillsWeak, PutsOne}
use Rattle.weak_pairs.specs.Tables.{pairs_of}
use Rattle.weak_pairs.specs.declared.table.Table.{Table}
use Rattle.weak_pairs.proofs.CountedPairs.{count_filled, count_kept}
use Rattle.ephemeron_table.proofs.EntryPairs.{HasEntryPair, known, entry_filled, entry_refers, entry_only}
use Rattle.ephemeron_table.proofs.KeysFound.{key_filled}
use Rattle.ephemeron_table.proofs.KnownTables.{KnownMap, cell, count_is}
use Rattle.weak_pairs.proofs.FilledPairs.{filled_elsewhere, still_filled, same_filled}

-- Words of the map's own cells were written, so that the pair at the place came to have the value; so many words were
-- reserved for it, and what was recorded follows.
pub record ReplacesValue (old new : Mutator) {map : ℕ} {table : Table} (known : KnownMap old map table) (place key : ℕ)
    (what : Value) (need : ℕ) : Type 0 where
  pub others : List Cell
  pub made : List Cell
  pub refills : RefillsWeak (heap_of old) (heap_of new) (cell known) others made
  pub takes : TakesRun old new made
  pub row : IsRow new.seat.space (heap_words new.seat) (next_at old) (next_at old + need) made
  pub remembers : Remembers old new (cell known ∷ others) (cell known ∷ others) made
  pub now : Pair
  pub before_is : refills.pairs.before ≡ pairs_of (heap_words old.seat) table
  pub now_is : refills.pairs.now ≡ slice_set (pairs_of (heap_words old.seat) table) place now
  pub origin_is : (at : ℕ) → refills.pairs.refills.origin at ≡ at
  pub one_is : refills.pairs.refills.one ≡ place
  pub key_is : now.key ≡ reference_word key
  pub shows : ShowsValue (heap_of new) now.value what
  pub places : PlacesStay (heap_of old) (heap_of new)
  pub back : (word number : ℕ) → RefersToPlace (heap_of new) word number → RefersToPlace (heap_of old) word number
  pub slot_stays : slice_get (heap_words new.seat) ((cell known).at + store_slot)
      ≡ slice_get (heap_words old.seat) ((cell known).at + store_slot)
  pub room : HasRoom old.young need
  pub beside : RestStays old.seat new.seat
  pub young : new.young ≡ bumped old.young need

module _ {old new : Mutator} {graph : Graph} {map key : ℕ} {weak : WeakObject} {number place : ℕ} {table : Table}
    {what : Value} {need : ℕ} (has : HasEntryPair old graph map key weak number place table)
    (replaces : ReplacesValue old new (known has) place key what need) where
  abbrev before : List Pair
  before = pairs_of (heap_words old.seat) table

  now_filled : IsFilledAt replaces.refills.pairs.now place replaces.now
  now_filled =
      subst (λ all. IsFilledAt all place replaces.now) (sym replaces.now_is) (record {
        stands = slice_get-set_same before place replaces.now
            (slice_get_within before place has.told.pair (entry_filled has).stands);
        filled = key_filled replaces.now key replaces.key_is;
      })

  -- all pairs but that of the entry are kept
  pub puts_one : PutsOne (heap_of old) (heap_of new) replaces.refills.pairs number (Some what)
  puts_one = record {
    kept = λ at pair filled other.
        let was : IsFilledAt before at pair = subst (λ all. IsFilledAt all at pair) replaces.before_is filled in
        let apart : at ≢ place = λ same. other (subst (λ (p : Pair). RefersToPlace (heap_of old) p.key number)
        (same_filled before place at has.told.pair pair (sym same) (entry_filled has) was) (entry_refers has)) in (
          at,
          subst (λ all. IsFilledAt all at pair) (sym replaces.now_is)
              (still_filled before place at replaces.now pair apart was),
          replaces.origin_is at,
          λ same. apart (same ∙ replaces.one_is),
        );
    own = λ at pair filled refers.
        let is : IsFilledAt (slice_set before place replaces.now) at pair =
        subst (λ all. IsFilledAt all at pair) replaces.now_is filled in
        let same : at ≡ replaces.refills.pairs.refills.one = elim (cases_eq at place) [
          | inl same ↦ same ∙ sym replaces.one_is
          | inr apart ↦ absurd (apart (entry_only has at pair
              (filled_elsewhere before place at replaces.now pair apart is) (replaces.back pair.key number refers)))
        ] in
        (same, refl);
    shown = λ value is. (
      replaces.now,
      subst (λ n. IsFilledAt replaces.refills.pairs.now n replaces.now) (sym replaces.one_is) now_filled,
      record {
        key = record { at = key; refers = replaces.key_is; place = replaces.places number key has.is_key.place };
        value = subst (ShowsValue (heap_of new) replaces.now.value) (same_Some what value is) replaces.shows;
      },
    );
    none_put = λ is. absurd (none-some what (sym is));
  }

  -- as many pairs hold something as before
  pub filled_as_many : count_filled replaces.refills.pairs.now ≡ count_at (heap_of old) map
  filled_as_many =
      ap count_filled replaces.now_is
      ∙ count_kept before place has.told.pair replaces.now (entry_filled has).stands (entry_filled has).filled
      (key_filled replaces.now key replaces.key_is)
      ∙ sym (count_is (known has))

  -- only words of the map have changed, and its table stays
  pub changes : ChangesObjectUsing old new need map (capacity_at (heap_of old) map)
  changes =
      subst (λ at. ChangesObjectUsing old new need at (capacity_at (heap_of old) at)) (known has).there.stands
      (tables_stay replaces.refills replaces.row replaces.slot_stays)
