-- What following the slots of a copy leaves of what a worker has done.
use Rattle.std.proofs.Common.{◌≡◌, ◌≢◌, ◌∙◌, ◌↔◌, ℕ, ◌+◌, ◌-◌, ◌<◌, ◌≤◌, inl, inr, Bool, true, false, if◌then◌else◌}
use Rattle.std.proofs.Common.{List, [], ◌∷◌, ◌++◌, length, set, refl, sym, ap, subst, arith}
use Rattle.std.specs.List.{Contains}
use Rattle.std.proofs.lemmas.Bool.{cases_lt, false≢true}
use Rattle.std.proofs.lemmas.List.{length-append, length-set, get_or-set_same, get_or-set_other}
use Rattle.std.proofs.lemmas.List.Elements.{Contains-append_left, Contains-push, Contains-push_cases}
use Rattle.shared_table.specs.Owned.{Own}
use Rattle.scav_copy.specs.declared.places.Home.{Home}
use Rattle.claims.specs.Sides.{SeatSide}
use Rattle.eden_copies.specs.Eden.{Deal, word_at, size_in, slots_in}
use Rattle.eden_copies.specs.Sides.{WorkerSide, end_of, room_word, is_of_survivor, with_slot}
use Rattle.eden_copies.specs.Copied.{AreTiled, IsCopying, IsFollowed, IsSurvivorSlot}
use Rattle.eden_copies.proofs.Tiles.{tile_within, one_tile}
use Rattle.eden_copies.proofs.Growing.{slot_below}

-- a slot that is left is one as more of them are followed
still_left : (own : Own) (copies : List Home) (front next slot : ℕ) → front ≤ next
    → IsSurvivorSlot own copies front slot → IsSurvivorSlot own copies next slot
still_left own copies front next slot more is = record {
  home = is.home;
  offset = is.offset;
  among = is.among;
  visited = is.visited;
  stands = is.stands;
  passed = omega (arith, is.passed, more);
  survives = is.survives;
}

-- and was one before, where it is one of these
was_left : (own : Own) (copies : List Home) (front next slot : ℕ) → slot < front
    → IsSurvivorSlot own copies next slot → IsSurvivorSlot own copies front slot
was_left own copies front next slot less is = record {
  home = is.home;
  offset = is.offset;
  among = is.among;
  visited = is.visited;
  stands = is.stands;
  passed = less;
  survives = is.survives;
}

module _ (own : Own) (deal : Deal) (home : Home) (offset : ℕ) (worker : WorkerSide) (seat : SeatSide)
    (copying : IsCopying own deal (home.to + offset) worker seat) (among : Contains worker.copies home)
    (low : offset < size_in own home.from) (next : ℕ) (is_next : next ≡ home.to + offset + 1) where
  -- the address is of this copy alone
  this_copy : (one : Home) (second : ℕ) → Contains worker.copies one → second < size_in own one.from
      → one.to + second ≡ home.to + offset → (home ≡ one) × (offset ≡ second)
  this_copy one second has small same =
      let is : home ≡ one =
      one_tile own worker.start (end_of worker) worker.copies home one offset second copying.tiled among has low small
      (sym same) in
      let to : home.to ≡ one.to = ap (λ (h : Home). h.to) is in
      (is, omega (arith, to, same))

  -- it is one of the room's
  pub slot_within : (worker.start ≤ home.to + offset) × (home.to + offset < end_of worker)
  slot_within =
      let inside = tile_within own worker.start (end_of worker) worker.copies home copying.tiled among in
      (omega (arith, inside.0), omega (arith, inside.1, low))

  -- a slot before the next address is this one, or was before this one
  at_or_before : (one : Home) (second : ℕ) → one.to + second < next → one.to + second ≢ home.to + offset
      → one.to + second < home.to + offset
  at_or_before one second before other =
      elim (cases_lt (one.to + second) (home.to + offset)) [
        | inl less ↦ less
        | inr more ↦ absurd (other (omega (arith, more, before, is_next)))
      ]

  -- an offset that is no slot is passed over
  pub passes_offset : (Contains (slots_in own home.from) offset → ⊥) → IsCopying own deal next worker seat
  passes_offset none =
      let apart : (one : Home) (second : ℕ) → Contains worker.copies one → Contains (slots_in own one.from) second
      → one.to + second ≢ home.to + offset =
      λ one second has visited same.
      let this = this_copy one second has (slot_below own one.from second visited) same in
      none (subst (Contains (slots_in own home.from)) (sym this.1)
      (subst (λ (h : Home). Contains (slots_in own h.from) second) (sym this.0) visited)) in
      record {
        claimed = copying.claimed;
        known = copying.known;
        tiled = copying.tiled;
        one_each = copying.one_each;
        led = copying.led;
        copied = copying.copied;
        followed = λ one second has visited before.
            copying.followed one second has visited
            (at_or_before one second before (apart one second has visited));
        left = λ slot. (
          (λ has. still_left own worker.copies (home.to + offset) next slot (omega (arith, is_next))
              ((copying.left slot).0 has)),
          (λ is. (copying.left slot).1 (was_left own worker.copies (home.to + offset) next slot
              (subst (λ (n : ℕ). n < home.to + offset) is.stands
              (at_or_before is.home is.offset (omega (arith, is.stands, is.passed))
              (apart is.home is.offset is.among is.visited))) is)),
        );
        left_few = omega (arith, copying.left_few, is_next);
        reached = omega (arith, slot_within.1, is_next);
      }

  module _ (visited : Contains (slots_in own home.from) offset) (now : ℕ)
      (follows : IsFollowed own seat.seen (word_at own (home.from + offset)) now) where
    -- a word elsewhere in the room stays
    other_word : (one : Home) (second : ℕ) → Contains worker.copies one → one.to + second ≢ home.to + offset
        → room_word (with_slot own worker (home.from + offset) (home.to + offset) now) (one.to + second)
        ≡ room_word worker (one.to + second)
    other_word one second has other =
        let inside = tile_within own worker.start (end_of worker) worker.copies one copying.tiled has in
        get_or-set_other worker.room (home.to + offset - worker.start) (one.to + second - worker.start) now 0
        (λ same. other (omega (arith, same, inside.0, slot_within.0)))

    -- the slot has the new one
    this_word : room_word (with_slot own worker (home.from + offset) (home.to + offset) now) (home.to + offset) ≡ now
    this_word =
        get_or-set_same worker.room (home.to + offset - worker.start) now 0
        (omega (arith, slot_within.0, slot_within.1))

    -- a slot before the next address was followed
    slot_followed : (one : Home) (second : ℕ) → Contains worker.copies one → Contains (slots_in own one.from) second
        → one.to + second < next
        → IsFollowed own seat.seen (word_at own (one.from + second))
        (room_word (with_slot own worker (home.from + offset) (home.to + offset) now) (one.to + second))
    slot_followed one second has visits before =
        let word : ℕ = word_at own (one.from + second) in
        elim (cases_lt (one.to + second) (home.to + offset)) [
          | inl less ↦
              subst (IsFollowed own seat.seen word) (sym (other_word one second has (omega (arith, less))))
              (copying.followed one second has visits less)
          | inr more ↦
              let same : one.to + second ≡ home.to + offset = omega (arith, more, before, is_next) in
              let this = this_copy one second has (slot_below own one.from second visits) same in
              let from : home.from ≡ one.from = ap (λ (h : Home). h.from) this.0 in
              let place : home.from + offset ≡ one.from + second = omega (arith, from, this.1) in
              subst (λ (n : ℕ). IsFollowed own seat.seen word
              (room_word (with_slot own worker (home.from + offset) (home.to + offset) now) n)) (sym same)
              (subst (IsFollowed own seat.seen word) (sym this_word)
              (subst (λ (n : ℕ). IsFollowed own seat.seen (word_at own n) now) place follows))
        ]

    -- a survivor's slot before the next address is this one or was one before
    now_left : (test : Bool) → is_of_survivor own (word_at own (home.from + offset)) ≡ test → (slot : ℕ)
        → Contains (if test then worker.left ++ (home.to + offset) ∷ [] else worker.left) slot
        ↔ IsSurvivorSlot own worker.copies next slot
    now_left true e slot = (
      (λ has.
          elim (Contains-push_cases worker.left (home.to + offset) slot has) [
            | inl there ↦
                still_left own worker.copies (home.to + offset) next slot (omega (arith, is_next))
                ((copying.left slot).0 there)
            | inr is ↦ record {
              home = home;
              offset = offset;
              among = among;
              visited = visited;
              stands = is;
              passed = omega (arith, is, is_next);
              survives = e;
            }
          ]),
      (λ is.
          elim (cases_lt slot (home.to + offset)) [
            | inl less ↦
                Contains-append_left worker.left ((home.to + offset) ∷ []) slot
                ((copying.left slot).1 (was_left own worker.copies (home.to + offset) next slot less is))
            | inr more ↦
                let same : home.to + offset ≡ slot = omega (arith, more, is.passed, is_next) in
                subst (Contains (worker.left ++ (home.to + offset) ∷ [])) same
                (Contains-push worker.left (home.to + offset))
          ]),
    )
    now_left false e slot = (
      (λ has.
          still_left own worker.copies (home.to + offset) next slot (omega (arith, is_next)) ((copying.left slot).0
          has)),
      (λ is.
          elim (cases_lt slot (home.to + offset)) [
            | inl less ↦
                (copying.left slot).1 (was_left own worker.copies (home.to + offset) next slot less is)
            | inr more ↦
                let same : is.home.to + is.offset ≡ home.to + offset =
                omega (arith, is.stands, more, is.passed, is_next) in
                let this = this_copy is.home is.offset is.among (slot_below own is.home.from is.offset is.visited)
                same in
                let from : home.from ≡ is.home.from = ap (λ (h : Home). h.from) this.0 in
                let place : home.from + offset ≡ is.home.from + is.offset = omega (arith, from, this.1) in
                let yes : is_of_survivor own (word_at own (home.from + offset)) ≡ true =
                ap (λ (n : ℕ). is_of_survivor own (word_at own n)) place ∙ is.survives in
                absurd (false≢true (sym e ∙ yes))
          ]),
    )

    -- at most one more is left
    few_left : (test : Bool)
        → length (if test then worker.left ++ (home.to + offset) ∷ [] else worker.left) ≤ length worker.left + 1
    few_left true = omega (arith, length-append worker.left ((home.to + offset) ∷ []))
    few_left false = omega arith

    -- the slot was followed
    pub puts_slot : IsCopying own deal next (with_slot own worker (home.from + offset) (home.to + offset) now) seat
    puts_slot =
        let test : Bool = is_of_survivor own (word_at own (home.from + offset)) in
        let long : length (set worker.room (home.to + offset - worker.start) now) ≡ length worker.room =
        length-set worker.room (home.to + offset - worker.start) now in
        record {
          claimed = copying.claimed;
          known = copying.known;
          tiled = subst (AreTiled own worker.start worker.copies) (ap (λ (n : ℕ). worker.start + n) (sym long))
              copying.tiled;
          one_each = copying.one_each;
          led = copying.led;
          copied = λ one second has small none.
              other_word one second has
              (λ same. let this = this_copy one second has small same in
              none (subst (Contains (slots_in own one.from)) this.1
              (subst (λ (h : Home). Contains (slots_in own h.from) offset) this.0 visited)))
              ∙ copying.copied one second has small none;
          followed = slot_followed;
          left = now_left test refl;
          left_few = omega (arith, copying.left_few, few_left test, is_next);
          reached = omega (arith, slot_within.1, is_next, long);
        }
