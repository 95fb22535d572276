-- The next slot of a plain cell, by the mask of its raw ones.
use Rattle.std.proofs.Common.{◌≡◌, ◌∙◌, ℕ, ◌+◌, ◌-◌, ◌/◌, ◌%◌, ◌^◌, ◌≤◌, ◌<◌, ◌==◌, ◌∷◌, true, false, arith, ap}
use Rattle.std.proofs.Common.{sym, ⊎_elim}
use Rattle.std.specs.Int.{w32, bit_at, trailing_ones}
use Rattle.std.specs.List.{All, Contains}
use Rattle.std.proofs.lemmas.Bool.{cases_lt, false≢true}
use Rattle.std.proofs.lemmas.Nat.{shr-shr, shr_le}
use Rattle.std.proofs.lemmas.Nat.Bits.{bit_at-trailing_ones}
use Rattle.tagged_word.specs.declared.layout.LayoutWord.{LayoutWord}
use Rattle.tagged_word.specs.Layouts.{HasInObjectSlots, is_raw}
use Rattle.tagged_word.specs.Cells.{store_slot, proto_slot, in_object_offsets, plain_head}
use Rattle.tagged_word.proofs.Masks.{eight_bits}
use Rattle.tagged_word.proofs.Offsets.{IsInObject, IsPlainSlot, plain_slot_is, in_object_in}
use Rattle.tagged_word.proofs.Offsets.{plain_has_store, plain_has_proto, plain_has_own}
use Rattle.cell_layout.specs.Slots.{IsLeastFrom}
use Rattle.cell_layout.proofs.NextSlots.{all_below}

-- the in-object slots from one on are raw up to another
pub record AreRaw (layout : LayoutWord) (slot next : ℕ) : Type 0 where
  pub raw : (one : ℕ) → slot ≤ one → one < next → is_raw layout one ≡ true

-- no slot is from one on to itself
pub none_are_raw : (layout : LayoutWord) (slot next : ℕ) → next ≤ slot → AreRaw layout slot next
none_are_raw layout slot next none = record { raw = λ one from below. absurd (omega arith) }

-- so many of them are raw, and the next is not
pub record IsRawRun (layout : LayoutWord) (slot many : ℕ) : Type 0 where
  pub all : AreRaw layout slot (slot + many)
  pub ends : is_raw layout (slot + many) ≡ false
  pub few : many < 32

-- the mask ends with as many bits as such slots stand next
pub raw_run : (layout : LayoutWord) (slot : ℕ) → HasInObjectSlots layout →
    IsRawRun layout slot (trailing_ones w32 (layout.raw / 2 ^ slot))
raw_run layout slot has =
    let mask = layout.raw / 2 ^ slot in
    let small = eight_bits layout.raw layout.used (omega (arith, has.cap, has.used)) has.raw in
    let run = bit_at-trailing_ones w32 mask (omega (arith, small, shr_le layout.raw slot)) in
    let bit : (one : ℕ) → bit_at layout.raw (slot + one) ≡ bit_at mask one =
    λ one. ap (λ n. n % 2) (sym (shr-shr layout.raw slot one)) in
    record {
      few = run.0;
      ends = ap (λ n. n == 1) (bit (trailing_ones w32 mask) ∙ run.1);
      all = record {
        raw = λ one from below.
            let place : slot + (one - slot) ≡ one = omega arith in
            let is = ap (λ n. n == 1) (bit (one - slot) ∙ run.2 (one - slot) (omega arith)) in
            rw place at is;
      };
    }

-- what is visited after the prototype's slot is an in-object slot
after_proto : (layout : LayoutWord) (from other : ℕ) → proto_slot < from →
    Contains (store_slot ∷ proto_slot ∷ in_object_offsets layout) other → from ≤ other → IsInObject layout other
after_proto layout from other past among at = elim (plain_slot_is layout other among) [
  | IsPlainSlot.store same ↦ absurd (omega (arith, same, past, at))
  | IsPlainSlot.proto same ↦ absurd (omega (arith, same, past, at))
  | IsPlainSlot.own inside ↦ inside
]

-- and so none of those that are raw
past_raw : (layout : LayoutWord) (from next other : ℕ) → proto_slot < from → AreRaw layout (from - plain_head) next →
    Contains (store_slot ∷ proto_slot ∷ in_object_offsets layout) other → from ≤ other →
    (plain_head + next ≤ other) × (other < plain_head + layout.used)
past_raw layout from next other past raw among at =
    let slot = after_proto layout from other past among at in
    let used : other < plain_head + layout.used = omega (arith, slot.used, slot.behind) in
    ⊎_elim
    (λ less.
    absurd (false≢true (sym slot.tagged ∙ raw.raw (other - plain_head) (omega arith)
    (omega (arith, less, slot.behind)))))
    (λ not_less. (omega arith, used))
    (cases_lt other (plain_head + next))

-- no slot of a plain cell stands before that of its store
at_store_least : (layout : LayoutWord) (other : ℕ) →
    Contains (store_slot ∷ proto_slot ∷ in_object_offsets layout) other → store_slot ≤ other
at_store_least layout other among = elim (plain_slot_is layout other among) [
  | IsPlainSlot.store same ↦ omega (arith, same)
  | IsPlainSlot.proto same ↦ omega (arith, same)
  | IsPlainSlot.own inside ↦ omega (arith, inside.behind)
]

-- the slot of the store is the first from its offset or one before it
pub first_is_store : (layout : LayoutWord) (from : ℕ) → from ≤ store_slot →
    IsLeastFrom (store_slot ∷ proto_slot ∷ in_object_offsets layout) from store_slot
first_is_store layout from before = record {
  among = plain_has_store layout;
  reached = before;
  least = λ other has at. at_store_least layout other has;
}

-- no slot after that of the store stands before that of the prototype
at_proto_least : (layout : LayoutWord) (from other : ℕ) → store_slot < from →
    Contains (store_slot ∷ proto_slot ∷ in_object_offsets layout) other → from ≤ other → proto_slot ≤ other
at_proto_least layout from other past among at = elim (plain_slot_is layout other among) [
  | IsPlainSlot.store same ↦ absurd (omega (arith, same, past, at))
  | IsPlainSlot.proto same ↦ omega (arith, same)
  | IsPlainSlot.own inside ↦ omega (arith, inside.behind)
]

-- after it the slot of the prototype is the first from its offset
pub first_is_proto : (layout : LayoutWord) (from : ℕ) → store_slot < from → from ≤ proto_slot →
    IsLeastFrom (store_slot ∷ proto_slot ∷ in_object_offsets layout) from proto_slot
first_is_proto layout from past before = record {
  among = plain_has_proto layout;
  reached = before;
  least = λ other has at. at_proto_least layout from other past has at;
}

-- after that the first is the slot that a run of raw ones ends at
pub first_of_plain : (layout : LayoutWord) (from many next : ℕ) → proto_slot < from →
    IsRawRun layout (from - plain_head) many → next ≡ (from - plain_head) + many → next < layout.used →
    IsLeastFrom (store_slot ∷ proto_slot ∷ in_object_offsets layout) from (plain_head + next)
first_of_plain layout from many next past run is used =
    let place : (from - plain_head) + many ≡ (plain_head + next) - plain_head = omega (arith, is) in
    let ends = run.ends in
    let slot : IsInObject layout (plain_head + next) =
    record { behind = omega arith; used = omega arith; tagged = rw place at ends } in
    record {
      among = plain_has_own layout (plain_head + next) (in_object_in layout (plain_head + next) slot);
      reached = omega (arith, is);
      least = λ other has at.
          omega (arith, is, (past_raw layout from ((from - plain_head) + many) other past run.all has at).0);
    }

-- where all that are used are raw, none is left
pub none_of_plain : (layout : LayoutWord) (from next : ℕ) → proto_slot < from →
    AreRaw layout (from - plain_head) next → layout.used ≤ next →
    All (λ offset. offset < from) (store_slot ∷ proto_slot ∷ in_object_offsets layout)
none_of_plain layout from next past raw used =
    all_below (store_slot ∷ proto_slot ∷ in_object_offsets layout) from
    (λ other has.
    ⊎_elim (λ less. less)
    (λ not_less. let place = past_raw layout from next other past raw has (omega arith) in
    absurd (omega (arith, place.0, place.1, used)))
    (cases_lt other from))
