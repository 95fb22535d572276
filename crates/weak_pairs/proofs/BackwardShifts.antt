-- How far the removal of a pair has come, as the words of the pairs are read.
use Rattle.std.proofs.Common.{◌≡◌, ◌≢◌, ℕ, ◌+◌, ◌*◌, ◌≤◌, ◌<◌, inl, inr, List, length, get_or, Option, Some}
use Rattle.std.proofs.Common.{None, slice_get, unwrap_or, sym, ◌∙◌, ap, subst, arith}
use Rattle.std.specs.Prelude.{slice_set, option_map}
use Rattle.std.specs.Option.{option_and_then}
use Rattle.std.proofs.lemmas.Bool.{cases_lt}
use Rattle.std.proofs.lemmas.List.{map-set, set-set}
use Rattle.std.proofs.lemmas.Option.{same_Some, slice_get_within, none-some}
use Rattle.heap_model.specs.Types.{Header}
use Rattle.tagged_word.specs.Cells.{store_head}
use Rattle.tagged_word.specs.Readings.{reference_in, header_in}
use Rattle.object_graph.proofs.Lists.{slice_get-set_same, slice_get-set_other}
use Rattle.linear_probing.specs.Tables.{place_after, steps_to, FindsAll}
use Rattle.linear_probing.proofs.Rounds.{place_after_apart, place_after_within, place_after-steps_to}
use Rattle.linear_probing.proofs.Rounds.{place_after_none, steps_to_few}
use Rattle.linear_probing.proofs.Removals.{IsRemoval, removal_begins, left}
use Rattle.linear_probing.proofs.Turns.{IsTurn, turn_passes, turn_moves, turn_left, ends_at_none}
use Rattle.heap_model.specs.Heaps.{Heap}
use Rattle.heap_model.specs.Kinds.{Pair, free_pair}
use Rattle.weak_pairs.specs.Pairs.{IsFilledAt}
use Rattle.weak_pairs.specs.Removals.{IsRemoved, StaysBelow}
use Rattle.weak_pairs.specs.Tables.{key_in, value_in, number_at, KeysOutsidePairs, IsKeyOutside, IsOutsidePairs}
use Rattle.weak_pairs.specs.Tables.{numbers}
use Rattle.weak_pairs.specs.Tables.{key_number, pairs_of, with_pair, made_pair}
use Rattle.weak_pairs.specs.declared.table.Table.{Table}
use Rattle.weak_pairs.proofs.FirstRounds.{IsFirstRound, IsFreeAfter, round_begins, round_passes, round_moves}
use Rattle.weak_pairs.proofs.PairLists.{pairs_read}
use Rattle.weak_pairs.proofs.PairNumbers.{length-numbers, number_read, ReadsPair, reads_pair, keyed_filled}
use Rattle.weak_pairs.proofs.PairsPut.{pairs_now}
use Rattle.weak_pairs.proofs.Removals.{removed_begins, removed_moves}

-- What the pairs are with the hole free, and that where one was free the removal goes round less than once.
pub record IsGoing (before after : List Pair) (place hole passed : ℕ) : Type 0 where
  pub removed : IsRemoved before after place
  pub within : place < length before
  pub round : (distance : ℕ) → IsFreeAfter (length before) before place distance
      → IsFirstRound (length before) before after place hole passed distance removed

-- How far the removal of the pair at a place has come: the hole is to be free, and so many pairs behind it stay.
pub record HasShifted (heap : Heap) (before now : List Pair) (place hole passed : ℕ) : Type 0 where
  pub removal : IsRemoval (numbers heap before) place (numbers heap now) hole passed
  pub going : IsGoing before (slice_set now hole free_pair) place hole passed

-- the removal begins at the place
pub shift_begins : (heap : Heap) (pairs : List Pair) (place : ℕ) → place < length pairs
    → HasShifted heap pairs pairs place place 0
shift_begins heap pairs place within = record {
  removal = removal_begins (numbers heap pairs) place (omega (arith, within, length-numbers heap pairs));
  going = record {
    removed = removed_begins pairs place;
    within = within;
    round = λ distance free. round_begins (length pairs) pairs place distance within free;
  };
}

module _ (old now : Heap) (table : Table) {place hole passed : ℕ}
    (within : table.at + (store_head + 2 * table.capacity) ≤ length old.words)
    (long : length now.words ≡ length old.words)
    (shifting : HasShifted old (pairs_of old.words table) (pairs_of now.words table) place hole passed) where
  -- the pairs before, and those that are done
  abbrev before : List Pair
  before = pairs_of old.words table

  abbrev far : List Pair
  far = pairs_of now.words table

  within_now : table.at + (store_head + 2 * table.capacity) ≤ length now.words
  within_now = omega (arith, within, long)

  -- there are as many pairs as ever
  pub far_long : length far ≡ table.capacity
  far_long = (pairs_read now.words table within_now).long

  pub numbers_long : length (numbers old far) ≡ table.capacity
  numbers_long = length-numbers old far ∙ far_long

  pub hole_below : hole < table.capacity
  hole_below = omega (arith, shifting.removal.within, numbers_long)

  -- what stands below the place stood below it, where a pair was free
  pub stays_below : (free : ℕ) → slice_get before free ≡ Some free_pair → (one : Pair) → IsFilledAt before place one
      → StaysBelow shifting.going.removed
  stays_below free is_free one filled =
      let free_within : free < length before = slice_get_within before free free_pair is_free in
      let distance : ℕ = steps_to (length before) place free in
      let leads : place_after (length before) place distance ≡ free =
      place_after-steps_to (length before) place free free_within in
      let some : 0 < distance = elim (cases_lt 0 distance) [
        | inl more ↦ more
        | inr none ↦
            let zero_steps : distance ≡ 0 = omega (arith, none) in
            let same : free ≡ place =
            sym leads ∙ ap (place_after (length before) place) zero_steps
            ∙ place_after_none (length before) place shifting.going.within in
            absurd (filled.filled
            (same_Some one free_pair (sym filled.stands ∙ ap (slice_get before) (sym same) ∙ is_free)))
      ] in
      (shifting.going.round distance (record {
        some = some;
        less = steps_to_few (length before) place free (omega (arith, free_within));
        free = ap (slice_get before) leads ∙ is_free;
      })).below

  module _ (next : ℕ) (few : passed + 1 < table.capacity)
      (next_is : next ≡ place_after table.capacity hole (passed + 1)) where
    pub next_below : next < table.capacity
    next_below = omega (arith, next_is, place_after_within table.capacity hole (passed + 1) (omega arith))

    next_apart : hole ≢ next
    next_apart same =
        place_after_apart table.capacity hole (passed + 1) hole_below (omega arith) few (sym next_is ∙ sym same)

    -- the pair at the next place
    pub read : ReadsPair now table next
    read = reads_pair now table next within_now next_below

    turn : IsTurn (numbers old far) table.capacity hole passed next
    turn = record { as_long = numbers_long; few = few; next_is = next_is }

    still_there : slice_get (slice_set far hole free_pair) next ≡ Some read.pair
    still_there = slice_get-set_other far hole next free_pair (λ same. next_apart (sym same)) ∙ read.there

    before_long : length before ≡ table.capacity
    before_long = (pairs_read old.words table within).long

    next_before : next ≡ place_after (length before) hole (passed + 1)
    next_before = next_is ∙ ap (λ n. place_after n hole (passed + 1)) (sym before_long)

    free_hole : slice_get (slice_set far hole free_pair) hole ≡ Some free_pair
    free_hole = slice_get-set_same far hole free_pair (omega (arith, hole_below, far_long))

    -- the hole may be free where the next pair has no key
    pub ends_here : reference_in read.pair.key ≡ None → FindsAll (numbers old before)
        → FindsAll (slice_set (numbers old far) hole None)
    ends_here none =
        ends_at_none (numbers old before) (numbers old far) place table.capacity hole passed next
        shifting.removal turn (λ number is. none-some number
        (sym (ap (option_map (number_at old)) none)
        ∙ sym (number_read old far next read.pair read.there) ∙ is))

    module _ (beside : (at : ℕ) → IsOutsidePairs table at → slice_get now.words at ≡ slice_get old.words at) (key : ℕ)
        (refers : reference_in read.pair.key ≡ Some key) (keys : KeysOutsidePairs old table) where
      -- the pair stood in the table before
      pub key_beside : IsKeyOutside old table key
      key_beside =
          let filled : IsFilledAt (slice_set far hole free_pair) next read.pair =
          record { stands = still_there; filled = keyed_filled read.pair key refers } in
          let from = shifting.going.removed.from next read.pair filled in
          keys (shifting.going.removed.origin next) key read.pair from.0.stands refers

      pub number_same : number_at now key ≡ number_at old key
      number_same =
          ap (λ (found : Option ℕ). unwrap_or (option_map (λ (header : Header). header.object)
          (option_and_then header_in found)) 0) (beside key key_beside.beside)

      module _ (number steps : ℕ) (number_is : number ≡ number_at now key)
          (steps_is : steps ≡ steps_to table.capacity number next) where
        holds : ◌≡◌ {A = Option ℕ} (get_or (numbers old far) next None) (Some number)
        holds =
            number_read old far next read.pair read.there ∙ ap (option_map (number_at old)) refers
            ∙ ap Some (sym number_same ∙ sym number_is)

        -- the next pair stays where probing does not pass the hole
        pub passes_on : steps ≤ passed → HasShifted old before far place hole (passed + 1)
        passes_on near = record {
          removal = turn_passes (numbers old before) (numbers old far) place table.capacity hole passed next number
              steps shifting.removal turn holds steps_is near;
          going = record {
            removed = shifting.going.removed;
            within = shifting.going.within;
            round = λ distance free. round_passes shifting.going.within free (shifting.going.round distance free) next
                read.pair next_before still_there (keyed_filled read.pair key refers);
          };
        }

        -- the next pair moves to the hole where probing passes that
        module _ {new : List ℕ} (far_from : passed < steps)
            (puts : new ≡ with_pair now.words table.at hole
            (made_pair (key_in now table.at next) (value_in now table.at next))) where
          same_pair : made_pair (key_in now table.at next) (value_in now table.at next) ≡ read.pair
          same_pair =
              ap (λ k. made_pair k (value_in now table.at next)) read.key
              ∙ ap (λ v. made_pair read.pair.key v) read.value

          pairs_new : pairs_of new table ≡ slice_set far hole read.pair
          pairs_new =
              ap (λ all. pairs_of all table) puts
              ∙ ap (λ pair. pairs_of (with_pair now.words table.at hole pair) table) same_pair
              ∙ pairs_now now.words table hole read.pair within_now hole_below

          numbers_new : numbers old (pairs_of new table) ≡ slice_set (numbers old far) hole (Some number)
          numbers_new =
              ap (numbers old) pairs_new ∙ map-set (key_number old) far hole read.pair
              ∙ ap (λ item. slice_set (numbers old far) hole item)
              (sym (number_read old far next read.pair read.there) ∙ holds)

          pub moves_on : HasShifted old before (pairs_of new table) place next 0
          moves_on = record {
            removal = subst (λ table. IsRemoval (numbers old before) place table next 0) (sym numbers_new)
                (turn_moves (numbers old before) (numbers old far) place table.capacity hole passed next number steps
                shifting.removal turn holds steps_is far_from);
            going = subst (λ pairs. IsGoing before pairs place next 0)
                (ap (λ pairs. slice_set pairs next free_pair)
                (set-set far hole free_pair read.pair ∙ sym pairs_new)) (record {
                  removed = removed_moves shifting.going.removed hole next read.pair free_hole still_there
                      (keyed_filled read.pair key refers) next_apart;
                  within = shifting.going.within;
                  round = λ distance free. round_moves shifting.going.within free (shifting.going.round distance free)
                      next read.pair next_before still_there (keyed_filled read.pair key refers) free_hole next_apart;
                });
          }

          pub less_left : left (numbers old (pairs_of new table)) next 0 < left (numbers old far) hole passed
          less_left =
              subst (λ table. left table next 0 < left (numbers old far) hole passed) (sym numbers_new)
              (turn_left (numbers old before) (numbers old far) place table.capacity hole passed next number steps
              shifting.removal turn holds steps_is far_from)
