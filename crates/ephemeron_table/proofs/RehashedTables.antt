-- The pairs of a table come to another one, as their words are read and put.
use Rattle.std.proofs.Common.{◌≡◌, ℕ, ◌+◌, ◌*◌, ◌≤◌, ◌<◌, List, length, Option, Some, None, slice_get, unwrap_or, sym}
use Rattle.std.proofs.Common.{◌∙◌, ap, subst, arith}
use Rattle.std.specs.Prelude.{slice_set, option_map}
use Rattle.std.specs.Option.{option_and_then}
use Rattle.std.proofs.lemmas.Option.{none-some, same_Some}
use Rattle.heap_model.specs.Types.{Header}
use Rattle.tagged_word.specs.Cells.{store_head}
use Rattle.tagged_word.specs.Readings.{reference_in, header_in}
use Rattle.tagged_word.proofs.Readings.{reference_from}
use Rattle.page_space.specs.Extents.{Space, marks_start}
use Rattle.write_barrier.specs.Seats.{heap_words}
use Rattle.heap_model.specs.Kinds.{Pair}
use Rattle.heap_model.specs.Slots.{reference_word}
use Rattle.write_barrier.specs.MutatorState.{Mutator, heap_of}
use Rattle.weak_pairs.specs.Rehashing.{AreRehashed}
use Rattle.weak_pairs.specs.Pairs.{HoldNothing}
use Rattle.weak_pairs.specs.Tables.{TablesDisjoint, KeysMovable, number_at, IsKeyOutside, made_pair, pairs_of}
use Rattle.ephemeron_table.specs.Rehashing.{RehashesPairs}
use Rattle.weak_pairs.specs.Probes.{HasFree}
use Rattle.ephemeron_table.specs.Puttings.{InsertsRehashed}
use Rattle.weak_pairs.specs.declared.table.Table.{Table}
use Rattle.weak_pairs.proofs.PairNumbers.{ReadsPair, reads_pair, keyed_filled, number_place}
use Rattle.ephemeron_table.proofs.ChangedPairs.{nothing_changed, pair_changed}
use Rattle.weak_pairs.proofs.Rehashing.{rehashed_begins, rehashed_passes, rehashed_puts}
use Rattle.weak_pairs.proofs.PairLists.{pairs_stay}
use Rattle.weak_pairs.proofs.KeyedPairs.{HaveKeys, free_without}
use Rattle.weak_pairs.proofs.InsertedPairs.{has_free, inserted_below, inserted_free}
use Rattle.ephemeron_table.proofs.RehashedPairs.{rehashed_pairs, rehashed_found}

-- it begins with a table that holds nothing
pub rehashing_begins : (main : Mutator) (from to : Table) → HoldNothing (pairs_of (heap_words main.seat) to)
    → RehashesPairs main main from to 0
rehashing_begins main from to nothing = record {
  changes = nothing_changed main to;
  moved = rehashed_begins (pairs_of (heap_words main.seat) from) (pairs_of (heap_words main.seat) to) nothing;
  found = λ at number holds.
      let here = number_place (heap_of main) (pairs_of (heap_words main.seat) to) at (Some number) holds in
      absurd (none-some number (ap (λ (p : Pair). option_map (number_at (heap_of main)) (reference_in p.key))
      (sym (nothing at here.0 here.1)) ∙ here.2));
}

module _ {old now : Mutator} {from to : Table} {at : ℕ}
    (within_from : from.at + (store_head + 2 * from.capacity) ≤ length (heap_words old.seat))
    (within : to.at + (store_head + 2 * to.capacity) ≤ length (heap_words old.seat))
    (more : from.capacity < to.capacity) (apart : TablesDisjoint from to) (keys : KeysMovable (heap_of old) from to)
    (moves : RehashesPairs old now from to at) (below : at < from.capacity) where
  -- the pairs of the one table, and those of the other that are done
  abbrev before : List Pair
  before = pairs_of (heap_words old.seat) from

  abbrev far : List Pair
  far = pairs_of (heap_words now.seat) to

  within_now : to.at + (store_head + 2 * to.capacity) ≤ length (heap_words now.seat)
  within_now = omega (arith, within, moves.changes.long)

  within_from_now : from.at + (store_head + 2 * from.capacity) ≤ length (heap_words now.seat)
  within_from_now = omega (arith, within_from, moves.changes.long)

  -- some pair is free
  pub rehashing_free : HasFree (heap_of now) to
  rehashing_free = has_free (heap_of now) to within_now (omega (arith, moves.moved.few, more, below))

  -- each that came has its key
  have_keys : HaveKeys far
  have_keys place pair filled =
      let key = keys (moves.moved.origin place) pair (moves.moved.from place pair filled).0 in (key.0, key.1)

  had_keys : HaveKeys before
  had_keys place pair filled = let key = keys place pair filled in (key.0, key.1)

  -- the pairs of the one table stay
  before_stays : pairs_of (heap_words now.seat) from ≡ before
  before_stays =
      pairs_stay (heap_words old.seat) (heap_words now.seat) from within_from moves.changes.long
      (λ a from_it under. moves.changes.beside a (apart a from_it under))

  -- the next pair
  pub next_read : ReadsPair (heap_of now) from at
  next_read = reads_pair (heap_of now) from at within_from_now below

  there : slice_get before at ≡ Some next_read.pair
  there = ap (λ all. slice_get all at) (sym before_stays) ∙ next_read.there

  -- one without a key is passed
  pub rehashing_passes : reference_in next_read.pair.key ≡ None → RehashesPairs old now from to (at + 1)
  rehashing_passes none = record {
    changes = moves.changes;
    moved = rehashed_passes moves.moved next_read.pair there
        (free_without before at next_read.pair had_keys there none);
    found = moves.found;
  }

  module _ (key : ℕ) (refers : reference_in next_read.pair.key ≡ Some key) where
    key_beside : IsKeyOutside (heap_of old) to key
    key_beside =
        let known = keys at next_read.pair
        (record { stands = there; filled = keyed_filled next_read.pair key refers }) in
        subst (IsKeyOutside (heap_of old) to) (same_Some known.0 key (sym known.1 ∙ refers)) known.2

    -- its key is before the marks
    pub rehashing_key : key < marks_start now.seat.space
    rehashing_key = subst (λ (space : Space). key < marks_start space) (sym moves.changes.rest.space) key_beside.within

    number_same : number_at (heap_of now) key ≡ number_at (heap_of old) key
    number_same =
        ap (λ (found : Option ℕ). unwrap_or (option_map (λ (header : Header). header.object)
        (option_and_then header_in found)) 0) (moves.changes.beside key key_beside.beside)

    -- one with a key comes to the other table
    pub rehashing_inserts : {new : Mutator} (value : ℕ) → value ≡ next_read.pair.value
        → InsertsRehashed now new to key value
        → RehashesPairs old new from to (at + 1)
    rehashing_inserts {new} value value_is inserts =
        let key_is : next_read.pair.key ≡ reference_word key = (reference_from next_read.pair.key key refers).1 in
        let pair : made_pair (reference_word key) value ≡ next_read.pair =
        ap (λ v. made_pair (reference_word key) v) value_is ∙ ap (λ k. made_pair k next_read.pair.value) (sym key_is) in
        let pairs : pairs_of (heap_words new.seat) to ≡ slice_set far inserts.place next_read.pair =
        rehashed_pairs within_now have_keys inserts ∙ ap (slice_set far inserts.place) pair in
        record {
          changes = pair_changed to inserts.place (made_pair (reference_word key) value) moves.changes
              (inserted_below within_now have_keys inserts.first) inserts.words inserts.touches
              inserts.stores;
          moved = subst (λ all. AreRehashed before all (at + 1)) (sym pairs)
              (rehashed_puts moves.moved next_read.pair there inserts.place
              (inserted_free within_now have_keys inserts.first) (keyed_filled next_read.pair key refers));
          found = rehashed_found (heap_of old) within_now have_keys inserts number_same moves.found
              (ap reference_in (sym key_is) ∙ refers);
        }
