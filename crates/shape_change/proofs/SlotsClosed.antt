-- Slots of a plain object that moved down by one, in the object and in its store.
use Rattle.std.proofs.Common.{◌≡◌, ◌≢◌, ℕ, suc, ◌+◌, ◌-◌, ◌<◌, ◌≤◌, ◌⊎◌, inl, inr, slice_get, sym, ◌∙◌, ap, arith}
use Rattle.std.specs.Prelude.{nat_lt}
use Rattle.std.proofs.lemmas.Bool.{cases_lt, lt-ltb, le-ltb}
use Rattle.tagged_word.specs.Cells.{plain_head, store_head}
use Rattle.write_barrier.specs.Seats.{heap_words}
use Rattle.heap_model.specs.Types.{Path}
use Rattle.heap_model.specs.Slots.{hole_word}
use Rattle.heap_model.specs.Remembered.{Touch}
use Rattle.write_barrier.specs.MutatorState.{Mutator}
use Rattle.write_barrier.specs.Storing.{StoresOn}
use Rattle.write_barrier.proofs.SureStores.{surely_then}
use Rattle.write_barrier.specs.Recording.{touched_again, touched_then}
use Rattle.write_barrier.proofs.Recording.{then_touch}
use Rattle.object_cells.proofs.TouchedCells.{again_behind}
use Rattle.shape_change.specs.Shifts.{ClosesGap, ClosesSlots, slot_at}
use Rattle.shape_change.specs.Shifts.{field_touch, own_touch, beside_touch, touched_by}
use Rattle.shape_change.proofs.SlotAddresses.{slot_at-own, slot_at-beside}
use Rattle.shape_change.proofs.SlotTouches.{by_inside, by_outside, own_touch_at}
use Rattle.shape_change.proofs.WordsMoved.{rest_then}

-- what is none of so many addresses is before or behind them
outside : (at base first last : ℕ) → ((k : ℕ) → first ≤ k → k ≤ last → base + k ≢ at)
    → (at < base + first) ⊎ (base + last + 1 ≤ at)
outside at base first last out = elim (cases_lt at (base + first)) [
  | inl before ↦ inl before
  | inr from ↦ elim (cases_lt at (base + last + 1)) [
    | inl among ↦ absurd (out (at - base) (omega arith) (omega arith) (omega arith))
    | inr behind ↦ inr behind
  ]
]

-- what is none of the slots that move is none of those in the object
outside_own : (object cap store slot last end at : ℕ) → end < cap → end ≤ last
    → ((one : ℕ) → slot ≤ one → one ≤ last → slot_at object cap store one ≢ at)
    → (at < object + (plain_head + slot)) ⊎ (object + (plain_head + end) + 1 ≤ at)
outside_own object cap store slot last end at own few out =
    let base : ℕ = object + plain_head in
    let apart : (k : ℕ) → slot ≤ k → k ≤ end → base + k ≢ at = λ k low high same.
    out k low (omega arith) (slot_at-own object cap store k (omega arith) ∙ omega (arith, same)) in
    elim (outside at base slot end apart) [ inl before ↦ inl (omega arith) | inr behind ↦ inr (omega arith) ]

-- and none of those in the store
outside_beside : (object cap store slot last first at : ℕ) → cap ≤ last → slot ≤ cap + first
    → ((one : ℕ) → slot ≤ one → one ≤ last → slot_at object cap store one ≢ at)
    → (at < store + (store_head + first)) ⊎ (store + (store_head + (last - cap)) + 1 ≤ at)
outside_beside object cap store slot last first at some order out =
    let base : ℕ = store + store_head in
    let apart : (k : ℕ) → first ≤ k → k ≤ last - cap → base + k ≢ at = λ k low high same.
    out (cap + k) (omega arith) (omega arith)
    (slot_at-beside object cap store (cap + k) (omega arith) ∙ omega (arith, same)) in
    elim (outside at base first (last - cap) apart) [ inl before ↦ inl (omega arith) | inr behind ↦ inr (omega arith) ]

-- a slot that moved in the object was touched as its field says
own_touched : (path : Path) (object cap store slot end one : ℕ) → slot ≤ one → one ≤ end → one < cap
    → touched_by (own_touch path object) (object + (plain_head + slot)) (object + (plain_head + end) + 1)
    (slot_at object cap store one)
    ≡ field_touch (nat_lt one cap) (slice_get path.fields one)
own_touched path object cap store slot end one low high own =
    let from : ℕ = object + (plain_head + slot) in
    let to : ℕ = object + (plain_head + end) + 1 in
    ap (touched_by (own_touch path object) from to) (slot_at-own object cap store one own)
    ∙ by_inside (own_touch path object) from to (object + (plain_head + one)) (omega (arith, low)) (omega (arith, high))
    ∙ own_touch_at path object one
    ∙ ap (λ test. field_touch test (slice_get path.fields one)) (sym (lt-ltb one cap own))

-- and one in the store as a slot
beside_touched : (path : Path) (object cap store first last one : ℕ) → cap ≤ one → first ≤ one - cap → one ≤ last
    → touched_by beside_touch (store + (store_head + first)) (store + (store_head + (last - cap)) + 1)
    (slot_at object cap store one)
    ≡ field_touch (nat_lt one cap) (slice_get path.fields one)
beside_touched path object cap store first last one behind low high =
    let from : ℕ = store + (store_head + first) in
    let to : ℕ = store + (store_head + (last - cap)) + 1 in
    ap (touched_by beside_touch from to) (slot_at-beside object cap store one behind)
    ∙ by_inside beside_touch from to (store + (store_head + (one - cap))) (omega (arith, low))
    (omega (arith, high, behind))
    ∙ ap (λ test. field_touch test (slice_get path.fields one)) (sym (le-ltb one cap behind))

-- Where all slots that move stand in the object, they are closed once the gap between their words is.
pub own_closed : (old new : Mutator) (path : Path) (object cap store slot last first : ℕ) → slot ≤ last → last < cap
    → ClosesGap old new (object + (plain_head + slot)) (object + (plain_head + last)) hole_word (own_touch path object)
    → ClosesSlots old new object cap store slot last first path
own_closed old new path object cap store slot last first order own gap = record {
  rest = gap.rest;
  moved = λ one low high apart.
      let next : object + (plain_head + one) + 1 ≡ object + (plain_head + suc one) = omega arith in
      ap (slice_get (heap_words new.seat)) (slot_at-own object cap store one (omega arith))
      ∙ gap.moved (object + (plain_head + one)) (omega arith) (omega arith)
      ∙ ap (slice_get (heap_words old.seat)) (next ∙ sym (slot_at-own object cap store (suc one) (omega arith)));
  drawn_in = λ one low high same. absurd (omega (arith, same));
  hole = ap (slice_get (heap_words new.seat)) (slot_at-own object cap store last own) ∙ gap.filled;
  beside = λ at out. gap.beside at (outside_own object cap store slot last last at own (omega arith) out);
  touch = touched_by (own_touch path object) (object + (plain_head + slot)) (object + (plain_head + last) + 1);
  touches = gap.touches;
  surely = gap.surely;
  slot_touches = λ one low high. own_touched path object cap store slot last one low high (omega (arith, high, own));
  others_touch = λ at out. by_outside (own_touch path object) (object + (plain_head + slot))
      (object + (plain_head + last) + 1) at (outside_own object cap store slot last last at own (omega arith) out);
}

-- where all of them stand in the store, likewise
pub beside_closed : (old new : Mutator) (path : Path) (object cap store slot last first : ℕ) → cap ≤ slot → slot ≤ last
    → ClosesGap old new (store + (store_head + (slot - cap))) (store + (store_head + (last - cap))) hole_word
    beside_touch
    → ClosesSlots old new object cap store slot last first path
beside_closed old new path object cap store slot last first behind order gap = record {
  rest = gap.rest;
  moved = λ one low high apart.
      let next : store + (store_head + (one - cap)) + 1 ≡ store + (store_head + (suc one - cap)) = omega arith in
      ap (slice_get (heap_words new.seat)) (slot_at-beside object cap store one (omega arith))
      ∙ gap.moved (store + (store_head + (one - cap))) (omega arith) (omega arith)
      ∙ ap (slice_get (heap_words old.seat)) (next ∙ sym (slot_at-beside object cap store (suc one) (omega arith)));
  drawn_in = λ one low high same. absurd (omega (arith, same));
  hole = ap (slice_get (heap_words new.seat)) (slot_at-beside object cap store last (omega arith)) ∙ gap.filled;
  beside = λ at out.
      gap.beside at (outside_beside object cap store slot last (slot - cap) at (omega arith) (omega arith) out);
  touch = touched_by beside_touch (store + (store_head + (slot - cap))) (store + (store_head + (last - cap)) + 1);
  touches = gap.touches;
  surely = gap.surely;
  slot_touches = λ one low high. beside_touched path object cap store (slot - cap) last one (omega (arith, behind, low))
      (omega arith) high;
  others_touch = λ at out. by_outside beside_touch (store + (store_head + (slot - cap)))
      (store + (store_head + (last - cap)) + 1) at
      (outside_beside object cap store slot last (slot - cap) at (omega arith) (omega arith) out);
}

-- the words of the object and those of its store have no address in common
abbrev pub RangesDisjoint : ℕ → ℕ → ℕ → ℕ → Type 0
RangesDisjoint object cap store last =
    (object + (plain_head + cap) ≤ store) ⊎ (store + (store_head + (last - cap)) < object)

-- an in-object slot is none of the store
own_is_not_beside : (object cap store last one : ℕ) → RangesDisjoint object cap store last → one < cap
    → (object + (plain_head + one) < store + (store_head + 0))
    ⊎ (store + (store_head + (last - cap)) + 1 ≤ object + (plain_head + one))
own_is_not_beside object cap store last one apart own = grind (arith, apart)

-- and a slot of the store none of the object
pub beside_is_not_own : (object cap store last slot one : ℕ) → RangesDisjoint object cap store last → 0 < cap
    → one ≤ last - cap
    → (store + (store_head + one) < object + (plain_head + slot))
    ⊎ (object + (plain_head + (cap - 1)) + 1 ≤ store + (store_head + one))
beside_is_not_own object cap store last slot one apart some few = grind (arith, apart)

-- Where some stand in the object and some in the store, both gaps are closed, and the first of the store comes into the
-- object as this word.
pub both_closed : (old mid new : Mutator) (path : Path) (object cap store slot last first : ℕ) → slot < cap → cap ≤ last
    → StoresOn mid new → RangesDisjoint object cap store last
    → ClosesGap old mid (object + (plain_head + slot)) (object + (plain_head + (cap - 1))) first (own_touch path object)
    → ClosesGap mid new (store + (store_head + 0)) (store + (store_head + (last - cap))) hole_word beside_touch
    → ClosesSlots old new object cap store slot last first path
both_closed old mid new path object cap store slot last first own some stores apart gap then = record {
  rest = rest_then old mid new gap.rest then.rest;
  moved = λ one low high other. elim (cases_lt one cap) [
    | inl below ↦
        let next : object + (plain_head + one) + 1 ≡ object + (plain_head + suc one) = omega arith in
        ap (slice_get (heap_words new.seat)) (slot_at-own object cap store one below)
        ∙ then.beside (object + (plain_head + one)) (own_is_not_beside object cap store last one apart below)
        ∙ gap.moved (object + (plain_head + one)) (omega arith) (omega arith)
        ∙ ap (slice_get (heap_words old.seat)) (next ∙ sym (slot_at-own object cap store (suc one) (omega arith)))
    | inr behind ↦
        let next : store + (store_head + (one - cap)) + 1 ≡ store + (store_head + (suc one - cap)) = omega arith in
        ap (slice_get (heap_words new.seat)) (slot_at-beside object cap store one behind)
        ∙ then.moved (store + (store_head + (one - cap))) (omega arith) (omega arith)
        ∙ ap (slice_get (heap_words mid.seat)) next
        ∙ gap.beside (store + (store_head + (suc one - cap)))
        (beside_is_not_own object cap store last slot (suc one - cap) apart (omega arith) (omega arith))
        ∙ ap (slice_get (heap_words old.seat)) (sym (slot_at-beside object cap store (suc one) (omega arith)))
  ];
  drawn_in = λ one low high same.
      let is : one ≡ cap - 1 = omega (arith, same) in
      ap (slice_get (heap_words new.seat)) (slot_at-own object cap store one (omega (arith, same)))
      ∙ then.beside (object + (plain_head + one))
      (own_is_not_beside object cap store last one apart (omega (arith, same)))
      ∙ ap (λ n. slice_get (heap_words mid.seat) (object + (plain_head + n))) is ∙ gap.filled;
  hole = ap (slice_get (heap_words new.seat)) (slot_at-beside object cap store last some) ∙ then.filled;
  beside = λ at out.
      then.beside at (outside_beside object cap store slot last 0 at some (omega arith) out)
      ∙ gap.beside at (outside_own object cap store slot last (cap - 1) at (omega arith) (omega arith) out);
  touch = touched_then
      (touched_by (own_touch path object) (object + (plain_head + slot)) (object + (plain_head + (cap - 1)) + 1))
      (touched_by beside_touch (store + (store_head + 0)) (store + (store_head + (last - cap)) + 1));
  touches = then_touch gap.touches then.touches;
  surely = surely_then gap.surely then.touches stores then.surely;
  slot_touches = λ one low high. elim (cases_lt one cap) [
    | inl below ↦
        let at : ℕ = object + (plain_head + one) in
        let from : ℕ = object + (plain_head + slot) in
        let end : ℕ = object + (plain_head + (cap - 1)) + 1 in
        let own_touches = touched_by (own_touch path object) from end in
        let store_from : ℕ = store + (store_head + 0) in
        let store_end : ℕ = store + (store_head + (last - cap)) + 1 in
        let out = own_is_not_beside object cap store last one apart below in
        ap (touched_then own_touches (touched_by beside_touch store_from store_end))
        (slot_at-own object cap store one below)
        ∙ ap (touched_again (own_touches at)) (by_outside beside_touch store_from store_end at out)
        ∙ ap own_touches (sym (slot_at-own object cap store one below))
        ∙ own_touched path object cap store slot (cap - 1) one low (omega (arith, below)) below
    | inr behind ↦
        let at : ℕ = store + (store_head + (one - cap)) in
        let from : ℕ = object + (plain_head + slot) in
        let end : ℕ = object + (plain_head + (cap - 1)) + 1 in
        let own_touches = touched_by (own_touch path object) from end in
        let store_touches = touched_by beside_touch (store + (store_head + 0))
        (store + (store_head + (last - cap)) + 1) in
        let out =
        beside_is_not_own object cap store last slot (one - cap) apart (omega (arith, own)) (omega (arith, high)) in
        ap (touched_then own_touches store_touches) (slot_at-beside object cap store one behind)
        ∙ ap (λ (t : Touch). touched_again t (store_touches at)) (by_outside (own_touch path object) from end at out)
        ∙ again_behind (store_touches at)
        ∙ ap store_touches (sym (slot_at-beside object cap store one behind))
        ∙ beside_touched path object cap store 0 last one behind (omega arith) high
  ];
  others_touch = λ at out.
      let own_touches = touched_by (own_touch path object) (object + (plain_head + slot))
      (object + (plain_head + (cap - 1)) + 1) in
      ap (touched_again (own_touches at)) (by_outside beside_touch (store + (store_head + 0))
      (store + (store_head + (last - cap)) + 1) at
      (outside_beside object cap store slot last 0 at some (omega arith) out))
      ∙ by_outside (own_touch path object) (object + (plain_head + slot)) (object + (plain_head + (cap - 1)) + 1) at
      (outside_own object cap store slot last (cap - 1) at (omega arith) (omega arith) out);
}
