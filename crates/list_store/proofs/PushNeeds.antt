-- How many words a push needs.
use Rattle.std.proofs.Common.{◌≡◌, ◌≢◌, ℕ, ◌+◌, ◌==◌, true, false, cond, length, Some, sym, ◌∙◌, ap, arith}
use Rattle.std.proofs.lemmas.Bool.Decides.{nat_tests}
use Rattle.tagged_word.specs.Cells.{store_head}
use Rattle.heap_model.specs.Types.{Held, Value}
use Rattle.object_graph.specs.Graphs.{ListObject}
use Rattle.heap_model.specs.Heaps.{Heap}
use Rattle.heap_model.specs.Showing.{ShowsHeld}
use Rattle.heap_model.specs.Rooms.{push_need}
use Rattle.heap_model.specs.Needs.{box_need, grown_list, list_store_need}
use Rattle.object_cells.specs.Made.{is_wide_held, content_need, store_content}
use Rattle.object_cells.proofs.HeldNeeds.{content_need_is, wide_is}

-- a box alone, where the store has room
pub need_to_store : (capacity count : ℕ) (value : Held) → count ≢ capacity
    → list_store_need capacity count + box_need (is_wide_held value) ≡ content_need (store_content value)
need_to_store capacity count value apart =
    let test : (count == capacity) ≡ false = grind (arith, nat_tests) in
    ap (λ t. cond t (store_head + grown_list count) 0 + box_need (is_wide_held value)) test ∙ omega arith
    ∙ sym (content_need_is value)

-- a store and a box, where it is full
pub need_to_new_store : (capacity count : ℕ) (value : Held) → count ≡ capacity
    → list_store_need capacity count + box_need (is_wide_held value)
    ≡ store_head + grown_list count + content_need (store_content value)
need_to_new_store capacity count value full =
    let test : (count == capacity) ≡ true = grind (arith, nat_tests) in
    ap (λ t. cond t (store_head + grown_list count) 0 + box_need (is_wide_held value)) test
    ∙ ap (λ n. store_head + grown_list count + n) (sym (content_need_is value))

-- those are what the command needs, by the elements and the value
pub push_need_is : {heap : Heap} {what : Value} (list : ListObject) (capacity count : ℕ) (value : Held)
    → ShowsHeld heap value (Some what) → count ≡ length list.elements
    → list_store_need capacity count + box_need (is_wide_held value) ≡ push_need capacity list what
push_need_is {what = what} list capacity count value shows is =
    ap (λ n. list_store_need capacity n + box_need (is_wide_held value)) is
    ∙ ap (λ wide. list_store_need capacity (length list.elements) + box_need wide) (wide_is value what shows)
