-- The offsets of slots, as the lists of them and the tests of the code tell.
use Rattle.std.proofs.Common.{ℕ, ◌<◌, ◌≤◌, ◌+◌, ◌-◌, ◌≡◌, ◌∷◌, Bool, true, false, not, arith, ⊎_elim}
use Rattle.std.proofs.lemmas.Bool.{not-true, not_from_false}
use Rattle.std.specs.List.{Contains, range_with_len}
use Rattle.tagged_word.specs.declared.layout.LayoutWord.{LayoutWord}
use Rattle.tagged_word.specs.Layouts.{is_raw}
use Rattle.tagged_word.specs.Cells.{in_object_offsets, plain_head, store_slot, proto_slot}
use Rattle.tagged_word.proofs.Members.{in_range, range_bounds, filter_from, filter_true, in_filter, in_map, map_from}
use Rattle.tagged_word.proofs.Members.{first_in, rest_in, in_cases}

-- what an offset of an in-object slot is that is used and not raw
pub record IsInObject (layout : LayoutWord) (offset : ℕ) : Type 0 where
  pub behind : plain_head ≤ offset
  pub used : offset - plain_head < layout.used
  pub tagged : is_raw layout (offset - plain_head) ≡ false

-- such an offset is in the list of in-object slots
pub in_object_in : (layout : LayoutWord) (offset : ℕ) → IsInObject layout offset →
    Contains (in_object_offsets layout) offset
in_object_in layout offset place =
    let slot : ℕ = offset - plain_head in
    let low : 0 ≤ slot = omega arith in
    let high : slot < 0 + layout.used = omega (arith, place.used) in
    let test : ℕ → Bool = λ s. not (is_raw layout s) in
    let t : test slot ≡ true = not_from_false _ place.tagged in
    let e : plain_head + slot ≡ offset = omega (arith, place.behind) in
    let run = in_range 0 layout.used slot low high in
    let h = in_map (λ s. plain_head + s) _ slot (in_filter test (range_with_len 0 layout.used) slot t run) in
    rw e at h

-- it is such a one where its slot is used and not raw
in_object_at : (layout : LayoutWord) (offset slot : ℕ) → plain_head + slot ≡ offset → slot < layout.used →
    is_raw layout slot ≡ false → IsInObject layout offset
in_object_at layout offset slot e u t =
    let is : slot ≡ offset - plain_head = omega arith in
    record { behind = omega arith; used = omega arith; tagged = rw is at t }

-- and every offset in it is such a one
pub in_object_is : (layout : LayoutWord) (offset : ℕ) → Contains (in_object_offsets layout) offset →
    IsInObject layout offset
in_object_is layout offset c =
    let test : ℕ → Bool = λ s. not (is_raw layout s) in
    let m = map_from (λ s. plain_head + s) _ offset c in
    let slot : ℕ = m.0 in
    let b = range_bounds 0 layout.used slot (filter_from test _ slot m.1) in
    let used : slot < layout.used = omega (arith, b.1) in
    in_object_at layout offset slot m.2 used (not-true _ (filter_true test _ slot m.1))

-- What an offset of a plain cell's slots is: that of its store, that of its prototype, or that of an in-object slot.
pub data IsPlainSlot (layout : LayoutWord) (offset : ℕ) : Type 0 where
  store : store_slot ≡ offset → IsPlainSlot layout offset
  proto : proto_slot ≡ offset → IsPlainSlot layout offset
  own : IsInObject layout offset → IsPlainSlot layout offset

-- each offset in the list of a plain cell's slots is such a one
pub plain_slot_is : (layout : LayoutWord) (offset : ℕ) →
    Contains (store_slot ∷ proto_slot ∷ in_object_offsets layout) offset → IsPlainSlot layout offset
plain_slot_is layout offset among =
    ⊎_elim (λ first. IsPlainSlot.store first)
    (λ later. ⊎_elim (λ next. IsPlainSlot.proto next) (λ last. IsPlainSlot.own (in_object_is layout offset last))
    (in_cases proto_slot (in_object_offsets layout) offset later))
    (in_cases store_slot (proto_slot ∷ in_object_offsets layout) offset among)

-- the slot of the store is in that list
pub plain_has_store : (layout : LayoutWord) → Contains (store_slot ∷ proto_slot ∷ in_object_offsets layout) store_slot
plain_has_store layout = first_in store_slot (proto_slot ∷ in_object_offsets layout)

-- the slot of the prototype is in it
pub plain_has_proto : (layout : LayoutWord) → Contains (store_slot ∷ proto_slot ∷ in_object_offsets layout) proto_slot
plain_has_proto layout =
    rest_in store_slot (proto_slot ∷ in_object_offsets layout) proto_slot
    (first_in proto_slot (in_object_offsets layout))

-- each in-object slot that is used and not raw is in it
pub plain_has_own : (layout : LayoutWord) (offset : ℕ) → Contains (in_object_offsets layout) offset →
    Contains (store_slot ∷ proto_slot ∷ in_object_offsets layout) offset
plain_has_own layout offset among =
    rest_in store_slot (proto_slot ∷ in_object_offsets layout) offset
    (rest_in proto_slot (in_object_offsets layout) offset among)
