-- How many words a field of a new name needs, and how many slots the property store has then.
use Rattle.std.proofs.Common.{◌≡◌, ℕ, ◌+◌, ◌-◌, ◌≤◌, ◌<◌, true, false, cond, nat_lt, ◌∙◌, ap, sym, arith}
use Rattle.std.proofs.lemmas.Bool.Decides.{nat_tests}
use Rattle.tagged_word.specs.Cells.{store_head}
use Rattle.heap_model.specs.Types.{Held}
use Rattle.heap_model.specs.Needs.{store_need, box_need, grown}
use Rattle.heap_model.specs.Rooms.{new_field_need, new_field_capacity}
use Rattle.object_cells.proofs.HeldNeeds.{content_need_is}
use Rattle.object_cells.specs.Made.{is_wide_held, content_need, store_content}

-- none in the object itself
pub need_own : (capacity cap fields : ℕ) (value : Held) → fields < cap
    → new_field_need capacity cap fields (is_wide_held value) ≡ 0
need_own capacity cap fields value own =
    let test : nat_lt fields cap ≡ true = grind (arith, nat_tests) in
    ap (λ t. cond t 0 (store_need capacity (fields - cap) + box_need (is_wide_held value))) test

-- beside it those of a new store, if there is one, and of a box
need_beside : (capacity cap fields : ℕ) (value : Held) → cap ≤ fields
    → new_field_need capacity cap fields (is_wide_held value)
    ≡ store_need capacity (fields - cap) + content_need (store_content value)
need_beside capacity cap fields value behind =
    let test : nat_lt fields cap ≡ false = grind (arith, nat_tests) in
    ap (λ t. cond t 0 (store_need capacity (fields - cap) + box_need (is_wide_held value))) test
    ∙ ap (λ n. store_need capacity (fields - cap) + n) (sym (content_need_is value))

-- a box alone, where the store has room
pub need_to_store : (capacity cap fields : ℕ) (value : Held) → cap ≤ fields → fields - cap < capacity
    → new_field_need capacity cap fields (is_wide_held value) ≡ content_need (store_content value)
need_to_store capacity cap fields value behind room =
    let test : nat_lt (fields - cap) capacity ≡ true = grind (arith, nat_tests) in
    need_beside capacity cap fields value behind
    ∙ ap (λ t. cond t 0 (store_head + grown capacity) + content_need (store_content value)) test ∙ omega arith

-- a store and a box, where it is full
pub need_to_new_store : (capacity cap fields : ℕ) (value : Held) → cap ≤ fields → fields - cap ≡ capacity
    → new_field_need capacity cap fields (is_wide_held value)
    ≡ store_head + grown capacity + content_need (store_content value)
need_to_new_store capacity cap fields value behind full =
    let test : nat_lt (fields - cap) capacity ≡ false = grind (arith, nat_tests) in
    need_beside capacity cap fields value behind
    ∙ ap (λ t. cond t 0 (store_head + grown capacity) + content_need (store_content value)) test

-- the capacity is as before, where the object itself has a slot for the field
pub capacity_own : (capacity cap fields : ℕ) → fields < cap → new_field_capacity capacity cap fields ≡ capacity
capacity_own capacity cap fields own =
    let test : nat_lt fields cap ≡ true = grind (arith, nat_tests) in
    ap (λ t. cond t capacity (cond (nat_lt (fields - cap) capacity) capacity (grown capacity))) test

-- or where the store has room
pub capacity_to_store : (capacity cap fields : ℕ) → cap ≤ fields → fields - cap < capacity
    → new_field_capacity capacity cap fields ≡ capacity
capacity_to_store capacity cap fields behind room =
    let test : nat_lt fields cap ≡ false = grind (arith, nat_tests) in
    let has_room : nat_lt (fields - cap) capacity ≡ true = grind (arith, nat_tests) in
    ap (λ t. cond t capacity (cond (nat_lt (fields - cap) capacity) capacity (grown capacity))) test
    ∙ ap (λ t. cond t capacity (grown capacity)) has_room

-- and it grows where the store is full
pub capacity_to_new_store : (capacity cap fields : ℕ) → cap ≤ fields → fields - cap ≡ capacity
    → new_field_capacity capacity cap fields ≡ grown capacity
capacity_to_new_store capacity cap fields behind full =
    let test : nat_lt fields cap ≡ false = grind (arith, nat_tests) in
    let has_none : nat_lt (fields - cap) capacity ≡ false = grind (arith, nat_tests) in
    ap (λ t. cond t capacity (cond (nat_lt (fields - cap) capacity) capacity (grown capacity))) test
    ∙ ap (λ t. cond t capacity (grown capacity)) has_none
