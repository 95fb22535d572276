-- What waits stays so while more cells are marked, and more pairs come to wait.
use Rattle.std.proofs.Common.{◌≡◌, ℕ, ◌+◌, ◌<◌, ◌≤◌, inl, inr, Some, Contains, slice_get}
use Rattle.std.proofs.Common.{length, sym, ◌∙◌, ap, subst, arith}
use Rattle.std.proofs.lemmas.Bool.{cases_lt}
use Rattle.std.proofs.lemmas.Option.{same_Some, slice_get_within}
use Rattle.heap_model.specs.Types.{Cell}
use Rattle.heap_model.specs.Heaps.{Heap}
use Rattle.live_cells.specs.Live.{IsLive}
use Rattle.cell_list.specs.Listing.{Listing}
use Rattle.write_barrier.specs.MutatorState.{Mutator, heap_of}
use Rattle.ephemeron_mark.specs.Marked.{IsLiveFrom}
use Rattle.ephemeron_mark.specs.Pairs.{Waits, WaitsFor, IsLastOf}
use Rattle.ephemeron_mark.specs.Progress.{HoldsReference, HasGrown, IsMarkedPair, AreWaiting, WaitsMore}
use Rattle.ephemeron_mark.specs.Progress.{IsMarkedOrWaits}
use Rattle.ephemeron_mark.proofs.LiveStands.{refers_to_one}
use Rattle.ephemeron_mark.proofs.GrownLists.{stays_marked}
use Rattle.ephemeron_mark.proofs.LiveAgain.{live_at_once}
use Rattle.ephemeron_mark.proofs.PairSlots.{IsPairAt}

module _ {main : Mutator} {old new : Listing} (grown : HasGrown main old new) where
  -- a pair of a marked table is one still
  pair_stays : (of_key of_value : ℕ) → IsMarkedPair (heap_of main) old of_key of_value
      → IsMarkedPair (heap_of main) new of_key of_value
  pair_stays of_key of_value pair = record {
    table = pair.table;
    marked = stays_marked pair.table grown pair.marked;
    within = pair.within;
    next = pair.next;
    entry = pair.entry;
  }

  -- so what waits are pairs of marked tables still
  pub waiting_stays : {waits : Waits} → AreWaiting (heap_of main) old waits → AreWaiting (heap_of main) new waits
  waiting_stays waiting = record {
    bound = waiting.bound;
    each = λ key slot waits_for.
        let one = waiting.each key slot waits_for in
        record { of_key = one.of_key; refers = one.refers; pair = pair_stays one.of_key slot one.pair };
  }

  -- a value that is marked or waits does so still
  pub marked_or_waits_stays : {before after : Waits} (key value : ℕ)
      → ((key slot : ℕ) → WaitsFor before key slot → WaitsFor after key slot)
      → IsMarkedOrWaits (heap_of main) old before key value → IsMarkedOrWaits (heap_of main) new after key value
  marked_or_waits_stays key value kept (inl marked) = inl (stays_marked value grown marked)
  marked_or_waits_stays key value kept (inr waits) =
      inr (record { slot = waits.slot; waits_for = kept key waits.slot waits.waits_for; refers = waits.refers })

  -- and again more wait, for keys that were not marked before
  pub waits_again : {first mid last : Waits} → WaitsMore old first mid → WaitsMore new mid last
      → WaitsMore old first last
  waits_again before after = record {
    kept = λ key slot waits_for. after.kept key slot (before.kept key slot waits_for);
    fresh = λ key slot waits_for. elim (after.fresh key slot waits_for) [
      | inl earlier ↦ before.fresh key slot earlier
      | inr none ↦ inr (λ marked. none (stays_marked key grown marked))
    ];
  }

  -- with the next pair's value, those of all before and its own are marked or wait
  pub next_pair : {first last : Waits} (cell : Cell) (next : ℕ)
      → ((key slot : ℕ) → WaitsFor first key slot → WaitsFor last key slot)
      → ((place key value : ℕ) → place < next → IsPairAt (heap_of main) cell place key value
      → IsMarkedOrWaits (heap_of main) old first key value)
      → ((key value : ℕ) → IsPairAt (heap_of main) cell next key value
      → IsMarkedOrWaits (heap_of main) new last key value)
      → (place key value : ℕ) → place < next + 1 → IsPairAt (heap_of main) cell place key value
      → IsMarkedOrWaits (heap_of main) new last key value
  next_pair cell next kept before own place key value below at =
      elim (cases_lt place next) [
        | inl earlier ↦ marked_or_waits_stays key value kept (before place key value earlier at)
        | inr last ↦
            let same : place ≡ next = omega (arith, last, below) in
            own key value (subst (λ (one : ℕ). IsPairAt (heap_of main) cell one key value) same at)
      ]

-- no more pairs wait
pub waits_no_more : {cells : Listing} {waits : Waits} → WaitsMore cells waits waits
waits_no_more = record { kept = λ key slot waits_for. waits_for; fresh = λ key slot waits_for. inl waits_for }

-- a pair that waits has its key in the word before its value's
pub waits_for_one : {heap : Heap} {cells : Listing} {waits : Waits} (of_key key other : ℕ)
    → AreWaiting heap cells waits → HoldsReference heap of_key key → WaitsFor waits other (of_key + 1) → other ≡ key
waits_for_one {heap} of_key key other waiting refers waits_for =
    let one = waiting.each other (of_key + 1) waits_for in
    let same : one.of_key ≡ of_key = omega (arith, one.pair.next) in
    refers_to_one heap of_key other key (subst (λ (at : ℕ). HoldsReference heap at other) same one.refers) refers

-- the value of a pair of a marked table is live where its key is marked
pub value_is_live : {heap : Heap} {cells : Listing} (of_key of_value key value : ℕ)
    → IsMarkedPair heap cells of_key of_value → HoldsReference heap of_key key
    → HoldsReference heap of_value value → Contains cells.addresses key → IsLiveFrom heap cells.addresses value
value_is_live of_key of_value key value pair refers value_refers marked =
    IsLive.entry pair.table key value (live_at_once pair.table pair.marked) (live_at_once key marked)
    (pair.entry key value refers value_refers)

-- the pairs that wait for the key, from a place on, have their values marked
abbrev pub AreWoken : Heap → Waits → ℕ → Listing → ℕ → Type 0
AreWoken heap waits key cells from =
    (place slot value : ℕ) → slice_get waits.keys place ≡ Some key → slice_get waits.slots place ≡ Some slot
    → HoldsReference heap slot value → from ≤ place → Contains cells.addresses value

-- none waits behind the last
pub woken_behind : (heap : Heap) (waits : Waits) (cells : Listing) (key last : ℕ)
    → IsLastOf waits.keys (length waits.keys) key last → AreWoken heap waits key cells last
woken_behind heap waits cells key last is place slot value of_key of_slot refers from =
    absurd (omega (arith, is.behind place (slice_get_within waits.keys place key of_key) of_key, from))

-- with the value of one that waits, those from the one before it on are marked
pub woken_before : {main : Mutator} {old new : Listing} (waits : Waits) (key here earlier slot : ℕ)
    → HasGrown main old new → AreWoken (heap_of main) waits key old (here + 1)
    → slice_get waits.slots here ≡ Some slot → IsLastOf waits.keys here key earlier
    → ((value : ℕ) → HoldsReference (heap_of main) slot value → Contains new.addresses value)
    → AreWoken (heap_of main) waits key new earlier
woken_before {main} {new = new} waits key here earlier slot grown woken own_slot is own place at value of_key of_slot
    refers from =
    elim (cases_lt place here) [
      | inl less ↦ absurd (omega (arith, is.behind place less of_key, from))
      | inr past ↦ elim (cases_lt here place) [
        | inl later ↦ stays_marked value grown (woken place at value of_key of_slot refers (omega (arith, later)))
        | inr upto ↦
            let same : here ≡ place = omega (arith, past, upto) in
            let slot_is : at ≡ slot =
            same_Some at slot (sym of_slot ∙ ap (slice_get waits.slots) (sym same) ∙ own_slot) in
            own value (subst (λ (one : ℕ). HoldsReference (heap_of main) one value) slot_is refers)
      ]
    ]
