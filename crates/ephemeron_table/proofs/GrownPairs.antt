-- The pairs of a table that was made: those of the one before, and a new one.
use Rattle.std.proofs.Common.{◌≡◌, ◌≢◌, ℕ, zero, suc, ◌+◌, ◌≤◌, ◌<◌, inl, inr, Bool, true, false, List, [], ◌∷◌}
use Rattle.std.proofs.Common.{length, drop, Option, Some, slice_get, unwrap_or, refl, sym, ◌∙◌, ap, subst, arith}
use Rattle.std.proofs.Common.{◌==◌}
use Rattle.std.specs.Prelude.{slice_set, option_map}
use Rattle.std.specs.Option.{option_and_then}
use Rattle.std.proofs.lemmas.Bool.{cases_eq, eq-eqb, ne_eqb}
use Rattle.std.proofs.lemmas.Option.{slice_get_within}
use Rattle.heap_model.specs.Types.{Header, Held}
use Rattle.tagged_word.specs.Readings.{reference_in, header_in}
use Rattle.object_graph.proofs.Lists.{slice_get-set_same}
use Rattle.linear_probing.specs.Tables.{FindsAll}
use Rattle.write_barrier.specs.Seats.{heap_words}
use Rattle.heap_model.specs.Heaps.{Heap}
use Rattle.heap_model.specs.Slots.{reference_word}
use Rattle.heap_model.specs.Kinds.{Pair, free_pair}
use Rattle.write_barrier.specs.MutatorState.{Mutator, heap_of}
use Rattle.object_cells.specs.Contents.{next_at}
use Rattle.object_cells.specs.Made.{store_content, content_need}
use Rattle.weak_pairs.specs.Rehashing.{AreRehashed}
use Rattle.ephemeron_table.specs.Rehashing.{IsUsed}
use Rattle.weak_pairs.specs.Pairs.{IsFilledAt}
use Rattle.weak_pairs.specs.Tables.{number_at, numbers, key_number, pairs_of}
use Rattle.weak_pairs.specs.declared.table.Table.{Table}
use Rattle.weak_pairs.proofs.CountedPairs.{count_filled, count_put}
use Rattle.ephemeron_table.proofs.GrowingTables.{boxed_pairs, grown_pairs_stay}
use Rattle.ephemeron_table.proofs.GrownWords.{GrowsTable, pair, made_table, need, keys_boxed, fits_boxed}
use Rattle.ephemeron_table.proofs.GrownWords.{begun_stays, boxed_stays, run_word, fits_new, inserted_as_long}
use Rattle.ephemeron_table.proofs.KeysFound.{key_filled}
use Rattle.ephemeron_table.proofs.KnownTables.{pairs_long}
use Rattle.weak_pairs.proofs.PairsPut.{at_place}
use Rattle.weak_pairs.proofs.PairLists.{pairs_stay}
use Rattle.weak_pairs.proofs.KeyedPairs.{free_or_filled}
use Rattle.ephemeron_table.proofs.RehashedPairs.{rehashed_found, rehashed_pairs}
use Rattle.ephemeron_table.proofs.UsedWords.{used_not_next}
use Rattle.weak_pairs.proofs.InsertedPairs.{inserted_free}
use Rattle.weak_pairs.proofs.FilledPairs.{filled_elsewhere, free_not_filled, still_filled}

-- behind the last pair none is counted
none_behind : (pairs : List Pair) (n : ℕ) → length pairs ≤ n → count_filled (drop n pairs) ≡ 0
none_behind [] zero all = refl
none_behind [] (suc n) all = refl
none_behind (first ∷ pairs) zero all = absurd (omega (arith, all))
none_behind (first ∷ pairs) (suc n) all = none_behind pairs n (omega (arith, all))

-- pairs whose keys have the same numbers in two heaps
numbers_same : (heap other : Heap) (pairs : List Pair)
    → ((place : ℕ) (pair : Pair) → slice_get pairs place ≡ Some pair → key_number heap pair ≡ key_number other pair)
    → numbers heap pairs ≡ numbers other pairs
numbers_same heap other [] same = refl
numbers_same heap other (first ∷ pairs) same =
    ap (λ one. one ∷ numbers heap pairs) (same 0 first refl)
    ∙ ap (λ rest. key_number other first ∷ rest)
    (numbers_same heap other pairs (λ place pair there. same (suc place) pair there))

-- where a word stays, so does the number that is read
number_stays : (heap other : Heap) (at : ℕ) → slice_get heap.words at ≡ slice_get other.words at
    → number_at heap at ≡ number_at other at
number_stays heap other at same =
    ap (λ (found : Option ℕ). unwrap_or (option_map (λ (header : Header). header.object)
    (option_and_then header_in found)) 0) same

-- by a test, the one place or the other
abbrev origin_by : Bool → ℕ → ℕ → ℕ
origin_by true here there = here
origin_by false here there = there

module _ {old new : Mutator} {map key count earlier : ℕ} {table : Table} {value : Held}
    (grows : GrowsTable old new map key count earlier table value) where
  -- the pairs before, those that were moved, and those after
  abbrev pub before : List Pair
  before = pairs_of (heap_words old.seat) table

  abbrev far : List Pair
  far = pairs_of (heap_words grows.puts.moved.seat) (made_table grows)

  abbrev pub after : List Pair
  after = pairs_of (heap_words new.seat) (made_table grows)

  abbrev pub place : ℕ
  place = grows.puts.inserts.place

  abbrev one : Pair
  one = pair grows

  boxed_same : pairs_of (heap_words grows.puts.boxed.seat) (made_table grows) ≡ far
  boxed_same =
      boxed_pairs grows.can grows.known.whole.sized.words (content_need (store_content value)) grows.puts.room
      (λ some. refl) refl refl grows.puts.begins (store_content value) grows.puts.moves grows.puts.boxes

  inserted_are : pairs_of (heap_words grows.puts.inserted.seat) (made_table grows) ≡ slice_set far place one
  inserted_are =
      rehashed_pairs (fits_boxed grows) (keys_boxed grows) grows.puts.inserts
      ∙ ap (λ pairs. slice_set pairs place one) boxed_same

  -- the pairs after are those that were moved, with the new one
  pub after_is : after ≡ slice_set far place one
  after_is =
      sym (pairs_stay (heap_words new.seat) (heap_words grows.puts.inserted.seat) (made_table grows)
      (fits_new grows) (inserted_as_long grows)
      (λ a from below. sym (run_word grows a (omega (arith, from)) (omega (arith, below)))))
      ∙ inserted_are

  -- its place was free
  place_free : slice_get far place ≡ Some free_pair
  place_free =
      ap (λ all. slice_get all place) (sym boxed_same)
      ∙ inserted_free (fits_boxed grows) (keys_boxed grows) grows.puts.inserts.first

  one_filled : one ≢ free_pair
  one_filled = key_filled one key refl

  -- the others are those of the map's table
  pub moved : AreRehashed before far table.capacity
  moved =
      subst (λ all. AreRehashed all far table.capacity)
      (grown_pairs_stay grows.can grows.known.whole.sized.words (content_need (store_content value)) grows.puts.room
      (λ some. refl) refl refl grows.puts.begins) grows.puts.moves.moved

  -- what is filled is the new pair, or was moved
  pub data NowFilled (at : ℕ) (found : Pair) : Type 0 where
    here : at ≡ place → one ≡ found → NowFilled at found
    elsewhere : at ≢ place → IsFilledAt far at found → NowFilled at found

  pub now_filled : (at : ℕ) (found : Pair) → IsFilledAt after at found → NowFilled at found
  now_filled at found filled =
      let now = subst (λ pairs. IsFilledAt pairs at found) after_is filled in
      elim (cases_eq at place) [
        | inl same ↦
            NowFilled.here same (at_place far place one found
            (ap (slice_get (slice_set far place one)) (sym same) ∙ now.stands))
        | inr apart ↦ NowFilled.elsewhere apart (filled_elsewhere far place at one found apart now)
      ]

  -- the new pair stands at its place, and one that was moved at its own
  pub one_stands : IsFilledAt after place one
  one_stands =
      subst (λ pairs. IsFilledAt pairs place one) (sym after_is) (record {
        stands = slice_get-set_same far place one (slice_get_within far place free_pair place_free);
        filled = one_filled;
      })

  pub moved_apart : (at : ℕ) (found : Pair) → IsFilledAt far at found → at ≢ place
  moved_apart at found filled same =
      free_not_filled far place found place_free (subst (λ n. IsFilledAt far n found) same filled)

  pub moved_stands : (at : ℕ) (found : Pair) → IsFilledAt far at found → IsFilledAt after at found
  moved_stands at found filled =
      subst (λ pairs. IsFilledAt pairs at found) (sym after_is)
      (still_filled far place at one found (moved_apart at found filled) filled)

  -- from where each comes; the new one from none of the places before
  abbrev pub origin : ℕ → ℕ
  origin at = origin_by (at == place) table.capacity (moved.origin at)

  pub origin_here : (at : ℕ) → at ≡ place → origin at ≡ table.capacity
  origin_here at same = ap (λ test. origin_by test table.capacity (moved.origin at)) (eq-eqb at place same)

  pub origin_other : (at : ℕ) → at ≢ place → origin at ≡ moved.origin at
  origin_other at other = ap (λ test. origin_by test table.capacity (moved.origin at)) (ne_eqb at place other)

  -- no two come from one
  apart_by : (at other : ℕ) (found another : Pair) → NowFilled at found → NowFilled other another
      → origin at ≡ origin other
      → at ≡ other
  apart_by at other found another (NowFilled.here same is) (NowFilled.here same_too is_too) from = same ∙ sym same_too
  apart_by at other found another (NowFilled.here same is) (NowFilled.elsewhere apart now) from =
      absurd (omega (arith, (moved.from other another now).1, from, origin_here at same, origin_other other apart))
  apart_by at other found another (NowFilled.elsewhere apart now) (NowFilled.here same is) from =
      absurd (omega (arith, (moved.from at found now).1, from, origin_here other same, origin_other at apart))
  apart_by at other found another (NowFilled.elsewhere apart now) (NowFilled.elsewhere apart_too too) from =
      moved.apart at other found another now too (sym (origin_other at apart) ∙ from ∙ origin_other other apart_too)

  pub all_apart : (at other : ℕ) (found another : Pair) → IsFilledAt after at found → IsFilledAt after other another
      → origin at ≡ origin other → at ≡ other
  all_apart at other found another is too from =
      apart_by at other found another (now_filled at found is) (now_filled other another too) from

  -- one more holds something
  pub one_more : count_filled after ≡ count_filled before + 1
  one_more =
      omega (
        arith,
        ap count_filled after_is,
        count_put far place one place_free one_filled,
        moved.counted,
        none_behind before table.capacity (omega (arith, pairs_long grows.known)),
      )

  -- what is used was not reserved
  used_not_new : (a : ℕ) → IsUsed old a → next_at old ≤ a → a < next_at old + need grows → ⊥
  used_not_new a used from below =
      used_not_next (need grows) grows.can.tied grows.can.whole grows.puts.room used from below

  -- the numbers of the keys are those in the heap before
  far_numbers : numbers (heap_of grows.puts.begun) far ≡ numbers (heap_of old) far
  far_numbers = numbers_same (heap_of grows.puts.begun) (heap_of old) far
      (λ at found there. elim (free_or_filled found) [
        | inl free ↦
            ap (key_number (heap_of grows.puts.begun)) free ∙ sym (ap (key_number (heap_of old)) free)
        | inr filled ↦
            let known_key = grows.can.keys (moved.origin at) found
            (moved.from at found (record { stands = there; filled = filled })).0 in
            ap (option_map (number_at (heap_of grows.puts.begun))) known_key.1
            ∙ ap (λ n. Some n) (number_stays (heap_of grows.puts.begun) (heap_of old) known_key.0
            (begun_stays grows known_key.0 (used_not_new known_key.0 known_key.3)))
            ∙ sym (ap (option_map (number_at (heap_of old))) known_key.1)
      ])

  -- probing finds each
  pub all_found : reference_in (reference_word key) ≡ Some key → FindsAll (numbers (heap_of old) after)
  all_found refers =
      let boxed_number = number_stays (heap_of grows.puts.boxed) (heap_of old) key
      (boxed_stays grows key (used_not_new key grows.can.key_used)) in
      let far_found : FindsAll (numbers (heap_of old) far) = subst FindsAll far_numbers grows.puts.moves.found in
      let boxed_found = subst (λ pairs. FindsAll (numbers (heap_of old) pairs)) (sym boxed_same) far_found in
      let inserted = rehashed_found (heap_of old) (fits_boxed grows) (keys_boxed grows) grows.puts.inserts
      boxed_number boxed_found refers in
      subst (λ pairs. FindsAll (numbers (heap_of old) pairs)) (inserted_are ∙ sym after_is) inserted
