-- The pairs of a table, and the numbers that probing finds, once a pair was inserted at the first free place.
use Rattle.std.proofs.Common.{◌≡◌, ◌≢◌, ℕ, ◌+◌, ◌*◌, ◌≤◌, ◌<◌, List, length, Some, None, slice_get, unwrap_or}
use Rattle.std.proofs.Common.{sym, ◌∙◌, ap, subst, arith}
use Rattle.std.specs.Prelude.{slice_set, option_map}
use Rattle.std.proofs.lemmas.List.{map-set}
use Rattle.std.proofs.lemmas.Option.{none-some, slice_get_within}
use Rattle.tagged_word.specs.Cells.{store_head}
use Rattle.tagged_word.specs.Readings.{reference_in}
use Rattle.linear_probing.specs.Tables.{place_after, FindsAll, IsFree}
use Rattle.linear_probing.specs.Tables as probing
use Rattle.linear_probing.proofs.Findings.{put_is_probed}
use Rattle.linear_probing.proofs.Rounds.{place_after_within}
use Rattle.heap_model.specs.Heaps.{Heap}
use Rattle.heap_model.specs.Kinds.{Pair, free_pair}
use Rattle.weak_pairs.specs.Probes.{HasFree, IsFirstFree}
use Rattle.weak_pairs.specs.Tables.{key_in, number_at, numbers, key_number, pairs_of}
use Rattle.weak_pairs.specs.declared.table.Table.{Table}
use Rattle.weak_pairs.proofs.CountedPairs.{count_filled}
use Rattle.weak_pairs.proofs.FreePairs.{one_is_free}
use Rattle.weak_pairs.proofs.KeyedPairs.{HaveKeys, free_without}
use Rattle.weak_pairs.proofs.PairLists.{pairs_read}
use Rattle.weak_pairs.proofs.PairNumbers.{ReadsPair, reads_pair, length-numbers, number_place}

-- one pair of a table is free where fewer than all hold something
pub has_free : (heap : Heap) (table : Table) → table.at + (store_head + 2 * table.capacity) ≤ length heap.words
    → count_filled (pairs_of heap.words table) < table.capacity → HasFree heap table
has_free heap table within fewer =
    let pairs = pairs_of heap.words table in
    let read = pairs_read heap.words table within in
    let free = one_is_free pairs (omega (arith, fewer, read.long)) in (
      free.0,
      omega (arith, slice_get_within pairs free.0 free_pair free.1, read.long),
      ap (λ found. unwrap_or found 0) (read.keys free.0 free_pair free.1),
    )

module _ {now : Heap} {table : Table} {number place : ℕ}
    (within : table.at + (store_head + 2 * table.capacity) ≤ length now.words)
    (keys : HaveKeys (pairs_of now.words table)) (first : IsFirstFree now table number place) where
  -- the pairs that are done
  abbrev far : List Pair
  far = pairs_of now.words table

  far_long : length far ≡ table.capacity
  far_long = (pairs_read now.words table within).long

  -- the place is one of the table
  pub inserted_below : place < table.capacity
  inserted_below =
      omega (arith, first.comes, place_after_within table.capacity number first.steps (omega (arith, first.few)))

  -- the pair at the place is free
  pub inserted_free : slice_get far place ≡ Some free_pair
  inserted_free =
      let read : ReadsPair now table place = reads_pair now table place within inserted_below in
      read.there ∙ ap (λ p. Some p)
      (free_without far place read.pair keys read.there (ap reference_in (sym read.key ∙ first.free)))

  module _ (heap : Heap) where
    -- a pair on the way holds something
    filled_on_way : (before : ℕ) → before < first.steps
        → IsFree (numbers heap far) (place_after table.capacity number before) → ⊥
    filled_on_way before few free =
        let at : ℕ = place_after table.capacity number before in
        let here = number_place heap far at None free in
        let word : key_in now table.at at ≡ here.0.key =
        ap (λ found. unwrap_or found 0) ((pairs_read now.words table within).keys at here.0 here.1) in
        let filled : here.0 ≢ free_pair = λ is. first.filled before few (word ∙ ap (λ (p : Pair). p.key) is) in
        let known = keys at here.0 (record { stands = here.1; filled = filled }) in
        none-some (number_at heap known.0) (sym here.2 ∙ ap (option_map (number_at heap)) known.1)

    -- probing for the number comes there
    inserted_probed : probing.IsProbed None (numbers heap far) number place
    inserted_probed =
        let long : length (numbers heap far) ≡ table.capacity = length-numbers heap far ∙ far_long in
        let way = λ (steps : ℕ). ap (λ n. place_after n number steps) (sym long) in
        record {
          steps = first.steps;
          within = omega (arith, first.few, long);
          comes = first.comes ∙ way first.steps;
          filled = λ before few free.
              filled_on_way before few (ap (slice_get (numbers heap far)) (way before) ∙ free);
        }

    -- probing finds all again once the pair stands there
    pub inserted_found : (pair : Pair) → key_number heap pair ≡ Some number → FindsAll (numbers heap far)
        → FindsAll (numbers heap (slice_set far place pair))
    inserted_found pair is all =
        let numbers_new : numbers heap (slice_set far place pair) ≡ slice_set (numbers heap far) place (Some number) =
        map-set (key_number heap) far place pair ∙ ap (λ item. slice_set (numbers heap far) place item) is in
        subst FindsAll (sym numbers_new) (put_is_probed (numbers heap far) number place all inserted_probed
        (omega (arith, inserted_below, far_long, length-numbers heap far)))
