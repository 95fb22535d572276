-- Words that are put in a row, where a cell is made: its header, its slot for a store, and what is behind them.
use Rattle.std.proofs.Common.{◌≡◌, ℕ, ◌+◌, ◌≤◌, inl, inr, List, ◌∷◌, ◌∙◌, refl, sym, ap, subst, arith}
use Rattle.std.proofs.lemmas.Bool.{cases_eq, cases_lt}
use Rattle.std.proofs.Common.{length, length-set, slice_get}
use Rattle.std.specs.Prelude.{slice_set}
use Rattle.page_space.specs.Extents.{Space, eden_start, marks_start}
use Rattle.tagged_word.specs.Cells.{store_slot}
use Rattle.mark_barrier.specs.CycleSteps.{sure_of_target}
use Rattle.mark_world.specs.Cycles.{Cycle}
use Rattle.mark_world.specs.declared.event.Event.{Event}
use Rattle.write_barrier.specs.Seats.{Seat, heap_words}
use Rattle.write_barrier.specs.Marking.{MayPut}
use Rattle.write_barrier.specs.Storing.{IsMadeYoung}
use Rattle.heap_model.specs.Remembered.{Touch}
use Rattle.write_barrier.specs.MutatorState.{Mutator, forgets, with_slot, with_table, with_word}
use Rattle.write_barrier.specs.Recording.{Touches, touched, touched_again, touched_one, touched_then}
use Rattle.write_barrier.specs.Values.{with_range}
use Rattle.write_barrier.proofs.JudgedSlots.{wiped_bound}
use Rattle.write_barrier.proofs.SlotCycles.{cycle_behind, cycle_idle}
use Rattle.write_barrier.proofs.PutWords.{judged_keeps}
use Rattle.write_barrier.proofs.PutRanges.{with_range-put, with_range_before, with_range_behind}
use Rattle.write_barrier.proofs.Recording.{then_touch, touch_alike, wiped_touch, word_touch}
use Rattle.write_barrier.proofs.TouchedRanges.{touched_inside, touched_outside, touched_other}
use Rattle.object_cells.proofs.TouchedCells.{touched_cases}
use Rattle.object_cells.proofs.TouchedWords.{then_stored}
use Rattle.mutator.specs.Making.{head_touch}

-- the seat with other words in the table
abbrev with_words : Seat → List ℕ → Seat
with_words seat table = record seat { table = table }

-- there are as many words after one was put
pub counted_after : (main mid : Mutator) (at word : ℕ) → mid ≡ with_word main at word
    → heap_words mid.seat ≡ slice_set (heap_words main.seat) at word
    → length (heap_words main.seat) ≡ marks_start main.seat.space
    → length (heap_words mid.seat) ≡ marks_start mid.seat.space
counted_after main mid at word is heap counted =
    ap length heap ∙ length-set (heap_words main.seat) at word ∙ counted
    ∙ sym (ap (λ (now : Mutator). marks_start now.seat.space) is)

-- behind the start of a cell that is young where a cycle is open, nothing is asked of a step
pub young_may : (main : Mutator) {now : Mutator} {at place : ℕ} {of : Event} → now.seat.space ≡ main.seat.space
    → now.seat.phase ≡ main.seat.phase → at ≤ place → IsMadeYoung main at → MayPut now place of
young_may main space phase after young of_page mark =
    let from = young (sym phase ∙ mark) in
    absurd (omega (arith, from, of_page, after, ap (λ (one : Space). eden_start one) space))

-- a slot that is stored there leaves what is known of the cycle
pub young_slot_keeps : (main : Mutator) {now : Mutator} {place : ℕ} (word : ℕ)
    → main.recorded.bound ≡ eden_start main.seat.space → IsMadeYoung main place → now ≡ with_slot main place word → now.cycle ≡ main.cycle
young_slot_keeps main {now} {place} word bounded young is =
    let next : Cycle = sure_of_target (eden_start main.seat.space) main.cycle word in
    ap (λ (one : Mutator). one.cycle) is
    ∙ elim (cases_lt place main.recorded.bound) [
      | inl below ↦ cycle_idle main place next (λ mark. absurd (omega (arith, young mark, below, bounded)))
      | inr behind ↦ cycle_behind main place next behind
    ]

-- A word was put that is no slot's, and behind it one that is.
pub record PutsTwo (main mid next : Mutator) (at first second : ℕ) : Type 0 where
  pub one : mid ≡ with_word main at first
  pub two : next ≡ with_slot mid (at + store_slot) second
  pub counted : length (heap_words mid.seat) ≡ marks_start mid.seat.space
  pub within : at + 2 ≤ marks_start main.seat.space

module _ {main mid next : Mutator} {at first second : ℕ} (puts : PutsTwo main mid next at first second) where
  -- the seat after both
  pub two_seat : next.seat ≡ (with_table main (slice_set (slice_set main.seat.table at first) (at + 1) second)).seat
  two_seat =
      ap (λ (now : Mutator). now.seat) puts.two
      ∙ ap (λ (seat : Seat). with_words seat (slice_set seat.table (at + 1) second))
      (ap (λ (now : Mutator). now.seat) puts.one)

  -- there are as many words, and as many addresses before the marks, as before
  pub two_counted : (length (heap_words next.seat) ≡ marks_start next.seat.space)
      × (marks_start next.seat.space ≡ marks_start main.seat.space)
  two_counted =
      let one : marks_start mid.seat.space ≡ marks_start main.seat.space =
      ap (λ (now : Mutator). marks_start now.seat.space) puts.one in
      let two : marks_start next.seat.space ≡ marks_start mid.seat.space =
      ap (λ (now : Mutator). marks_start now.seat.space) puts.two in (
        ap (λ (now : Mutator). length (heap_words now.seat)) puts.two
            ∙ length-set (heap_words mid.seat) (at + store_slot) second ∙ puts.counted ∙ sym two,
        two ∙ one,
      )

  -- paths and young generation are as they were
  pub two_paths : next.paths ≡ main.paths
  two_paths = ap (λ (now : Mutator). now.paths) puts.two ∙ ap (λ (now : Mutator). now.paths) puts.one

  pub two_young : next.young ≡ main.young
  two_young = ap (λ (now : Mutator). now.young) puts.two ∙ ap (λ (now : Mutator). now.young) puts.one

  -- regions and phase are too
  pub two_space : next.seat.space ≡ main.seat.space
  two_space = ap (λ (seat : Seat). seat.space) two_seat

  pub two_phase : next.seat.phase ≡ main.seat.phase
  two_phase = ap (λ (seat : Seat). seat.phase) two_seat

  -- what is recorded is of pages
  pub two_bound : main.recorded.bound ≡ eden_start main.seat.space
      → next.recorded.bound ≡ eden_start next.seat.space
  two_bound bounded =
      ap (λ (now : Mutator). now.recorded.bound) puts.two ∙ judged_keeps mid.recorded (at + store_slot) second
      ∙ ap (λ (now : Mutator). now.recorded.bound) puts.one ∙ wiped_bound main.recorded at (at + 1) ∙ bounded
      ∙ ap eden_start (sym two_space)

  -- so is what is known of a cycle, where the words are those of a cell that is young where one is open
  pub two_cycle : main.recorded.bound ≡ eden_start main.seat.space → IsMadeYoung main at → next.cycle ≡ main.cycle
  two_cycle bounded young =
      let space : mid.seat.space ≡ main.seat.space = ap (λ (now : Mutator). now.seat.space) puts.one in
      let phase : mid.seat.phase ≡ main.seat.phase = ap (λ (now : Mutator). now.seat.phase) puts.one in
      let bound : mid.recorded.bound ≡ eden_start mid.seat.space =
      ap (λ (now : Mutator). now.recorded.bound) puts.one ∙ wiped_bound main.recorded at (at + 1) ∙ bounded
      ∙ ap eden_start (sym space) in
      young_slot_keeps mid second bound
      (λ mark.
      let from = young (sym phase ∙ mark) in
      subst (λ (one : Space). eden_start one ≤ at + store_slot) (sym space) (omega (arith, from))) puts.two
      ∙ ap (λ (now : Mutator). now.cycle) puts.one

  -- how records are touched
  pub two_touch : Touches main next (head_touch 2 at)
  two_touch =
      let mid_space : marks_start mid.seat.space ≡ marks_start main.seat.space =
      ap (λ (now : Mutator). marks_start now.seat.space) puts.one in
      let header : Touches main mid (touched_one Touch.Wiped at) =
      subst (λ (now : Mutator). Touches main now (touched_one Touch.Wiped at)) (sym puts.one)
      (word_touch main at first (omega (arith, puts.within))) in
      let end : at + store_slot + 1 ≡ at + 2 = omega arith in
      subst (λ to. Touches main next (touched_then (touched_one Touch.Wiped at) (touched Touch.Stored (at + store_slot)
      to))) end
      (then_stored (at + store_slot) second header puts.two puts.counted (omega (arith, puts.within, mid_space)))

  -- where others are put in a row behind them, all are a row
  pub row_seat : (new : Mutator) (others : List ℕ) → at + 2 + length others ≤ length main.seat.table
      → new.seat ≡ (with_table next (with_range next.seat.table (at + 2) others)).seat
      → new.seat ≡ (with_table main (with_range main.seat.table at (first ∷ second ∷ others))).seat
  row_seat new others long rest =
      let headed : List ℕ = slice_set main.seat.table at first in
      rest
      ∙ ap (λ (seat : Seat). with_words seat (with_range seat.table (at + 2) others)) two_seat
      ∙ ap (with_words main.seat)
      (ap (λ place. with_range (slice_set headed (at + 1) second) place others) (omega arith)
      ∙ with_range-put headed others (at + 1) second (omega (arith, long, length-set main.seat.table at first))
      ∙ with_range-put main.seat.table (second ∷ others) at first (omega (arith, long)))

-- what was touched twice and then once more was touched once and then twice
touched_thrice : (first next last : Touch)
    → touched_again (touched_again first next) last ≡ touched_again first (touched_again next last)
touched_thrice first next Touch.Kept = refl
touched_thrice first next Touch.Stored = refl
touched_thrice first next Touch.Wiped = refl

-- slots that were put, and then the one behind them, are slots that were put
stored_more : (from to at : ℕ) → from ≤ to
    → touched_then (touched Touch.Stored from to) (touched_one Touch.Stored to) at
    ≡ touched Touch.Stored from (to + 1) at
stored_more from to at begins = elim (cases_eq at to) [
  | inl same ↦
      ap (touched_again (touched Touch.Stored from to at))
      (touched_inside Touch.Stored to (to + 1) at (omega (arith, same)) (omega (arith, same)))
      ∙ sym (touched_inside Touch.Stored from (to + 1) at (omega (arith, same)) (omega (arith, same)))
  | inr apart ↦
      let longer : touched Touch.Stored from to at ≡ touched Touch.Stored from (to + 1) at =
      elim (touched_cases Touch.Stored from to at) [
        | inl inside ↦ inside.2 ∙ sym (touched_inside Touch.Stored from (to + 1) at inside.0 (omega (arith, inside.1)))
        | inr outside ↦
            outside.1
            ∙ sym (touched_outside Touch.Stored from (to + 1) at (elim outside.0 [
              | inl before ↦ inl before
              | inr behind ↦ inr (omega (arith, behind, apart))
            ]))
      ] in
      ap (touched_again (touched Touch.Stored from to at)) (touched_other Touch.Stored to at apart) ∙ longer
]

-- where the head of a cell was put, and then one slot behind it, a longer head was put
pub head_grows : {main mid new : Mutator} (head at : ℕ) → store_slot ≤ head → Touches main mid (head_touch head at)
    → Touches mid new (touched_one Touch.Stored (at + head)) → Touches main new (head_touch (head + 1) at)
head_grows {main} {mid} {new} head at some first next =
    let end : at + head + 1 ≡ at + (head + 1) = omega arith in
    subst (λ to. Touches main new (touched_then (touched_one Touch.Wiped at) (touched Touch.Stored (at + store_slot)
    to))) end
    (touch_alike (λ a below. touched_thrice (touched_one Touch.Wiped at a)
    (touched Touch.Stored (at + store_slot) (at + head) a) (touched_one Touch.Stored (at + head) a)
    ∙ ap (touched_again (touched_one Touch.Wiped at a)) (stored_more (at + store_slot) (at + head) a (omega (
      arith,
      some,
    )))) (then_touch first next))

-- words that are forgotten and become others are wiped
pub others_wiped : {next new : Mutator} (from to : ℕ) (table others : List ℕ) → from + length others ≡ to
    → from ≤ length (heap_words next.seat) → new ≡ with_table (forgets next from to) table
    → heap_words new.seat ≡ with_range (heap_words next.seat) from others
    → Touches next new (touched Touch.Wiped from to)
others_wiped {next} {new} from to table others ends within is heap =
    wiped_touch next new from to (ap (λ (now : Mutator). now.free) is) (ap (λ (now : Mutator). now.recorded) is)
    (λ a below out. ap (λ words. slice_get words a) heap ∙ elim out [
      | inl before ↦ with_range_before (heap_words next.seat) others from a within before
      | inr behind ↦ with_range_behind (heap_words next.seat) others from a within (omega (arith, ends, behind))
    ])
