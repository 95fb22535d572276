-- Whether a heap lacks room for a command, by whether the young generation has it: where cells are made in eden.
use Rattle.std.proofs.Common.{◌≡◌, ℕ, ◌+◌, ◌≤◌, Bool, true, false, ap, sym, subst, arith, IsTrue, inl, inr}
use Rattle.std.proofs.lemmas.Bool.{cases_lt}
use Rattle.std.proofs.lemmas.Bool.Decides.{nat_tests}
use Rattle.page_space.specs.Extents.{Space}
use Rattle.nursery.specs.Young.{HasRoom, HasRoomBy, in_eden}
use Rattle.heap_model.specs.Needs.{lacks_room}
use Rattle.write_barrier.specs.MutatorState.{Mutator, heap_of, IsTied}

-- where the young generation has room for so many words, the heap does not lack it
pub not_lacking : (main : Mutator) (need : ℕ) → IsTied main → in_eden main.young ≡ true → HasRoom main.young need
    → lacks_room (heap_of main) need ≡ false
not_lacking main need tied ungranted room =
    let same : main.young.space.sizes.young ≡ main.seat.space.sizes.young =
    ap (λ (space : Space). space.sizes.young) tied.space in
    let fits : main.young.survivors + main.young.used + need ≤ main.young.space.sizes.young =
    subst (λ (b : Bool). HasRoomBy b main.young need) ungranted room in
    elim (cases_lt main.seat.space.sizes.young (main.young.survivors + main.young.used + need)) [
      | inl over ↦ absurd (omega (arith, same, over, fits))
      | inr within ↦ grind (arith, nat_tests)
    ]

-- where the young generation has no room for so many words, the heap is full for them
pub full_for : (main : Mutator) (need : ℕ) → IsTied main → in_eden main.young ≡ true → (HasRoom main.young need → ⊥)
    → IsTrue (lacks_room (heap_of main) need)
full_for main need tied ungranted refused =
    let same : main.young.space.sizes.young ≡ main.seat.space.sizes.young =
    ap (λ (space : Space). space.sizes.young) tied.space in
    elim (cases_lt main.seat.space.sizes.young (main.young.survivors + main.young.used + need)) [
      | inl over ↦ grind (arith, nat_tests)
      | inr within ↦
          let fits : main.young.survivors + main.young.used + need ≤ main.young.space.sizes.young =
          omega (arith, same, within) in
          absurd (refused (subst (λ (b : Bool). HasRoomBy b main.young need) (sym ungranted) fits))
    ]
