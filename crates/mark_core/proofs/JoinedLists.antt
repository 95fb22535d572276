-- Lists that others join, as far as a walk along these has come.
use Rattle.std.proofs.Common.{ℕ, ◌<◌, ◌+◌, ◌≡◌, List, length, get_or, drop, ap, sym, drop-cons, add-one, map}
use Rattle.std.proofs.Common.{subst, arith}
use Rattle.std.proofs.lemmas.List.{length-map, get_or-map}
use Rattle.mark_laws.specs.Types.{SnapSlot}
use Rattle.core_parts.specs.Boards.{joined_by}
use Rattle.mark_world.specs.Pages.{target, targets_joined}

-- and so does the target of the next word
pub next_target_joins : (old : ℕ) (list items : List ℕ) (i : ℕ) → i < length items
    → targets_joined old (joined_by list (target old (get_or items i 0))) (drop (i + 1) items)
    ≡ targets_joined old list (drop i items)
next_target_joins old list items i l = rw (add-one i) (ap (targets_joined old list) (sym (drop-cons items i 0 l)))

-- and the target of the next slot's word
pub next_slot_joins : (old : ℕ) (list : List ℕ) (slots : List SnapSlot) (i : ℕ) (d : SnapSlot) → i < length slots
    → targets_joined old (joined_by list (target old (get_or slots i d).word))
    (drop (i + 1) (map (λ slot. slot.word) slots))
    ≡ targets_joined old list (drop i (map (λ slot. slot.word) slots))
next_slot_joins old list slots i d l =
    let word : SnapSlot → ℕ = λ slot. slot.word in
    let within : i < length (map word slots) = omega (arith, length-map slots word) in
    let same : get_or (map word slots) i 0 ≡ (get_or slots i d).word = get_or-map word slots i d 0 l in
    subst (λ w. targets_joined old (joined_by list (target old w)) (drop (i + 1) (map word slots))
    ≡ targets_joined old list (drop i (map word slots))) same (next_target_joins old list (map word slots) i within)
