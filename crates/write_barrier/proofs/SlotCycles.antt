-- What is known of the cycle where a word is stored in a slot.
use Rattle.std.proofs.Common.{◌≡◌, ℕ, ◌<◌, ◌≤◌, inl, inr, Bool, refl, sym, ◌∙◌, ap, subst}
use Rattle.std.specs.Prelude.{if◌then◌else◌}
use Rattle.std.proofs.lemmas.Bool.{cases_lt, lt-ltb, le-ltb}
use Rattle.page_space.specs.Extents.{eden_start}
use Rattle.remembered_set.specs.Recorded.{Recorded}
use Rattle.mark_world.specs.Cycles.{Cycle}
use Rattle.mark_barrier.specs.CycleSteps.{sure_of_target}
use Rattle.heap_table.specs.Phases.{Phase, Quiet, Mark, Paused}
use Rattle.write_barrier.specs.MutatorState.{Mutator, put_word, judged, while_open, cycle_after, with_slot, with_weak}
use Rattle.mark_world.specs.declared.event.Event.{Event}
use Rattle.write_barrier.specs.Marking.{MayPut}
use Rattle.write_barrier.proofs.JudgedSlots.{judged_behind}

-- behind all pages nothing changes of what is known of the cycle
pub cycle_behind : (main : Mutator) (at : ℕ) (next : Cycle) → main.recorded.bound ≤ at
    → cycle_after main at next ≡ main.cycle
cycle_behind main at next behind =
    ap (λ (test : Bool). if test then while_open main.seat.phase main.cycle next else main.cycle)
    (le-ltb at main.recorded.bound behind)

-- in a page it does, while the cycle is open
pub cycle_inside : (main : Mutator) (at : ℕ) (next : Cycle) → at < main.recorded.bound
    → cycle_after main at next ≡ while_open main.seat.phase main.cycle next
cycle_inside main at next below =
    ap (λ (test : Bool). if test then while_open main.seat.phase main.cycle next else main.cycle)
    (lt-ltb at main.recorded.bound below)

-- while a cycle is open it does
pub open_mark : (phase : Phase) (was next : Cycle) → phase ≡ Mark → while_open phase was next ≡ next
open_mark phase was next mark = ap (λ (one : Phase). while_open one was next) mark

-- while no cycle is open nothing changes
pub open_idle : (phase : Phase) (was next : Cycle) → (phase ≡ Mark → ⊥) → while_open phase was next ≡ was
open_idle Mark was next idle = absurd (idle refl)
open_idle Quiet was next idle = refl
open_idle Paused was next idle = refl

-- a step leaves what is known of a cycle where none is open
pub cycle_idle : (main : Mutator) (at : ℕ) (next : Cycle) → (main.seat.phase ≡ Mark → ⊥)
    → cycle_after main at next ≡ main.cycle
cycle_idle main at next idle = elim (cases_lt at main.recorded.bound) [
  | inl below ↦ cycle_inside main at next below ∙ open_idle main.seat.phase main.cycle next idle
  | inr behind ↦ cycle_behind main at next behind
]

-- a word of a slot of the young generation is put alone
pub young_slot : (main : Mutator) (at word : ℕ) → main.recorded.bound ≤ at
    → with_slot main at word ≡ put_word main at word
young_slot main at word behind =
    let next : Cycle = sure_of_target (eden_start main.seat.space) main.cycle word in
    ap (λ (one : Recorded). put_word (record main { recorded = one; cycle = cycle_after main at next }) at word)
    (judged_behind main.recorded at word behind)
    ∙ ap (λ (one : Cycle). put_word (record main { cycle = one }) at word)
    (cycle_behind main at next behind)

-- and that of a slot which marking does not visit
pub young_weak : (main : Mutator) (at word : ℕ) → main.recorded.bound ≤ at
    → with_weak main at word ≡ put_word main at word
young_weak main at word behind =
    ap (λ (one : Recorded). put_word (record main { recorded = one }) at word)
    (judged_behind main.recorded at word behind)

-- the word of a slot of a page is put, and what is known of the cycle with it
pub page_slot : (main : Mutator) (at word : ℕ) → at < main.recorded.bound
    → put_word (record main {
      recorded = judged main.recorded at word;
      cycle = while_open main.seat.phase main.cycle (sure_of_target (eden_start main.seat.space) main.cycle word);
    }) at word ≡ with_slot main at word
page_slot main at word below =
    let next : Cycle = sure_of_target (eden_start main.seat.space) main.cycle word in
    sym (ap (λ (one : Cycle). put_word (record main { recorded = judged main.recorded at word; cycle = one }) at word)
    (cycle_inside main at next below))

-- while no cycle is open, a slot is one that marking does not visit
pub weak_is_slot : (main : Mutator) (at word : ℕ) → (main.seat.phase ≡ Mark → ⊥)
    → with_weak main at word ≡ with_slot main at word
weak_is_slot main at word idle =
    let next : Cycle = sure_of_target (eden_start main.seat.space) main.cycle word in
    sym (ap (λ (one : Cycle). record (with_weak main at word) { cycle = one }) (cycle_idle main at next idle))

-- where a step changes nothing but what is known of the cycle: behind the pages nothing changes
pub cycle_kept : (main : Mutator) (at : ℕ) (next : Cycle) → main.recorded.bound ≤ at
    → main ≡ record main { cycle = cycle_after main at next }
cycle_kept main at next behind =
    sym (ap (λ (one : Cycle). record main { cycle = one }) (cycle_behind main at next behind))

-- in a page it does while the cycle is open
pub cycle_changed : (main : Mutator) (at : ℕ) (next : Cycle) → at < main.recorded.bound
    → record main { cycle = while_open main.seat.phase main.cycle next }
    ≡ record main { cycle = cycle_after main at next }
cycle_changed main at next below =
    sym (ap (λ (one : Cycle). record main { cycle = one }) (cycle_inside main at next below))

-- and else nothing does
pub cycle_same : (main : Mutator) (at : ℕ) (next : Cycle) → (main.seat.phase ≡ Mark → ⊥)
    → record main { cycle = cycle_after main at next } ≡ main
cycle_same main at next idle = ap (λ (one : Cycle). record main { cycle = one }) (cycle_idle main at next idle)

-- in Quiet no cycle is open
abbrev is_quiet : Phase → Type 0
is_quiet Quiet = Unit {0}
is_quiet Mark = ⊥
is_quiet Paused = ⊥

-- a quiet phase is not that of an open cycle
pub quiet_idle : {phase : Phase} → phase ≡ Quiet → phase ≡ Mark → ⊥
quiet_idle quiet mark = subst is_quiet (sym quiet ∙ mark) tt

-- so any step may be made
pub quiet_may : {main : Mutator} {at : ℕ} {of : Event} → main.seat.phase ≡ Quiet → MayPut main at of
quiet_may quiet page mark = absurd (quiet_idle quiet mark)
