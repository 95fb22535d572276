-- The store and the box that are made stand in the words that were reserved.
use Rattle.std.proofs.Common.{◌≡◌, ℕ, ◌+◌, ◌<◌, ◌≤◌, refl, sym, ap, ◌∙◌, subst, arith, rules}
use Rattle.tagged_word.specs.Cells.{store_head, store_slot}
use Rattle.page_space.specs.Extents.{Space, marks_start}
use Rattle.object_graph.specs.Meaning.{list_most}
use Rattle.heap_model.specs.Kinds.{count_offset}
use Rattle.heap_model.specs.Needs.{grown_list}
use Rattle.heap_model.specs.Remembered.{Touch}
use Rattle.write_barrier.specs.Seats.{RestStays}
use Rattle.write_barrier.specs.Staying.{rest_stays_again}
use Rattle.write_barrier.specs.MutatorState.{Mutator, heap_of}
use Rattle.write_barrier.specs.Recording.{Touches, touched_one, touched_then}
use Rattle.write_barrier.proofs.Recording.{then_touch}
use Rattle.object_cells.specs.Made.{content_need, content_touch, store_content, store_touch}
use Rattle.object_cells.specs.declared.content.SlotContent.{SlotContent}
use Rattle.object_cells.proofs.FilledTouches.{reserved_touch}
use Rattle.object_cells.proofs.TouchedWords.{rest_counted, then_stored, then_wiped}
use Rattle.object_cells.proofs.RestOfWords.{put_rest, reserved_rest}
use Rattle.object_cells.proofs.UnusedWords.{IsUnusedRun, next_run, run_before_layouts, run_before_marks, run_apart}
use Rattle.object_cells.proofs.UnusedWords.{marks_fit}
use Rattle.object_cells.proofs.ListCells.{count_within, slot_within}
use Rattle.heap_model.specs.Slots.{reference_word}
use Rattle.write_barrier.specs.Storing.{MayHold}
use Rattle.write_barrier.specs.SureStores.{StoresSurely}
use Rattle.write_barrier.proofs.StoresOn.{may_change_stays, stores_on_again}
use Rattle.write_barrier.proofs.SureStores.{surely_then}
use Rattle.object_cells.proofs.ListsInCycle.{count_may_put, link_may_put, list_in_cells}
use Rattle.list_store.proofs.PushSteps.{content_surely, counted_on, element_on, link_holds, linked_on, made_on}
use Rattle.list_store.proofs.PushSteps.{made_surely}
use Rattle.list_store.proofs.PushSteps.{then_put_surely, then_wiped_surely, used_on, young_may_put, young_then}
use Rattle.list_store.proofs.pushing.push_to_new_store.Goals as goal

-- the store that is made has as many slots as the one before, or more
more_slots : (count capacity slots : ℕ) → count ≡ capacity → count < list_most → slots ≡ grown_list count
    → capacity ≤ slots
more_slots count capacity slots full few grown = omega arith

pub begin_store-requires-clause-more : goal.begin_store-requires-clause-more
begin_store-requires-clause-more c =
    more_slots c.args.count c.args.store.capacity c.grown-capacity.result c.requires.full c.requires.few
    c.grown-capacity.ensures

pub begin_store-requires-clause-few : goal.begin_store-requires-clause-few
begin_store-requires-clause-few c = c.requires.can.is.small

pub begin_store-requires-clause-within : goal.begin_store-requires-clause-within
begin_store-requires-clause-within c =
    let need = 2 + c.grown-capacity.result + c.need_of.result in
    let space = ap (λ (main : Mutator). main.seat.space) c.in_ok-at.ensures.reserved in
    let before = run_before_layouts c.args.main.now need c.in_ok-at.at c.room_for.new.main.seat.space
    c.requires.can.ready.tied c.in_ok-at.ensures.room (c.in_ok-at.ensures.at (omega arith)) space in
    omega (arith, before)

pub begin_store-requires-clause-other : goal.begin_store-requires-clause-other
begin_store-requires-clause-other c =
    let space = ap (λ (main : Mutator). main.seat.space) c.in_ok-at.ensures.reserved in
    omega (arith, ap (λ (s : Space). marks_start s) space, c.requires.can.is.within)

pub begin_store-requires-clause-apart : goal.begin_store-requires-clause-apart
begin_store-requires-clause-apart c =
    let need = 2 + c.grown-capacity.result + c.need_of.result in
    let old : Mutator = c.args.main.now in
    let ready = c.requires.can.ready in
    let run = subst (λ at. IsUnusedRun (heap_of old) at need) (sym (c.in_ok-at.ensures.at (omega arith)))
    (next_run old need ready.tied ready.whole.rows c.in_ok-at.ensures.room) in
    run_apart c.args.list c.args.store run c.requires.can.is
    (omega (arith, c.grown-capacity.ensures, c.requires.few, c.requires.full))

pub begin_store-requires-clause-young : goal.begin_store-requires-clause-young
begin_store-requires-clause-young c =
    young_then c.in_ok-at.at (omega (arith, c.in_ok-at.ensures.at (omega arith))) c.requires.may.young
    (used_on c.args.main.now (2 + c.grown-capacity.result + c.need_of.result) c.in_ok-at.ensures.reserved)

pub boxed_word-word-requires-clause-young : goal.boxed_word-word-requires-clause-young
boxed_word-word-requires-clause-young c v boxed =
    let need = 2 + c.grown-capacity.result + c.need_of.result in
    young_then (c.in_ok-at.at + (2 + c.grown-capacity.result)) (omega (arith, c.in_ok-at.ensures.at (omega arith)))
    c.requires.may.young
    (stores_on_again (used_on c.args.main.now need c.in_ok-at.ensures.reserved) c.begin_store.ensures.stores)

pub store-requires-clause-may_store : goal.store-requires-clause-may_store
store-requires-clause-may_store c =
    let on = made_on c.args.main.now (2 + c.grown-capacity.result + c.need_of.result) c.in_ok-at.ensures.reserved
    c.begin_store.ensures.stores c.boxed_word-word.ensures.stores in
    young_may_put c.in_ok-at.at (c.in_ok-at.at + (2 + c.args.count)) c.boxed_word-word.result.0
    (young_then c.in_ok-at.at (omega (arith, c.in_ok-at.ensures.at (omega arith))) c.requires.may.young on)
    (omega arith)

-- the store has a slot for the element
slot_taken : (count slots box : ℕ) → count < list_most → slots ≡ grown_list count → 2 + count < 2 + slots + box
slot_taken count slots box few is = omega (arith, few, is)

pub store-requires-2-clause-may_store : goal.store-requires-2-clause-may_store
store-requires-2-clause-may_store c =
    let old : Mutator = c.args.main.now in
    let need = 2 + c.grown-capacity.result + c.need_of.result in
    let tied = c.requires.can.ready.tied in
    let same = c.in_ok-at.ensures.at (omega arith) in
    let on = made_on old need c.in_ok-at.ensures.reserved c.begin_store.ensures.stores
    c.boxed_word-word.ensures.stores in
    let put = element_on c.in_ok-at.at c.args.count c.boxed_word-word.result.0 need tied c.in_ok-at.ensures.room same
    c.requires.may.young on (slot_taken c.args.count c.grown-capacity.result c.need_of.result c.requires.few
    c.grown-capacity.ensures) c.store.ensures.stored in
    let all = stores_on_again on put in
    link_may_put c.args.list _ (may_change_stays all c.requires.may.of_list)
    (subst (MayHold c.store.new.self) (sym c.reference.ensures)
    (link_holds c.in_ok-at.at need tied c.in_ok-at.ensures.room same c.requires.may.young
    c.addresses_fit.ensures.fit all))

pub write_slot-requires-clause-may_store : goal.write_slot-requires-clause-may_store
write_slot-requires-clause-may_store c =
    let old : Mutator = c.args.main.now in
    let need = 2 + c.grown-capacity.result + c.need_of.result in
    let ready = c.requires.can.ready in
    let same = c.in_ok-at.ensures.at (omega arith) in
    let on = made_on old need c.in_ok-at.ensures.reserved c.begin_store.ensures.stores
    c.boxed_word-word.ensures.stores in
    let put = element_on c.in_ok-at.at c.args.count c.boxed_word-word.result.0 need ready.tied c.in_ok-at.ensures.room
    same c.requires.may.young on (slot_taken c.args.count c.grown-capacity.result c.need_of.result c.requires.few
    c.grown-capacity.ensures) c.store.ensures.stored in
    let all = stores_on_again on put in
    let link = linked_on c.args.list (reference_word c.in_ok-at.at) c.requires.may
    (list_in_cells ready.whole ready.there) all
    (link_holds c.in_ok-at.at need ready.tied c.in_ok-at.ensures.room same c.requires.may.young
    c.addresses_fit.ensures.fit all) (rw c.reference.ensures at c.store-2.ensures.stored) in
    count_may_put c.args.list _ (may_change_stays (stores_on_again all link) c.requires.may.of_list)

pub boxed_word-word-requires-clause-within : goal.boxed_word-word-requires-clause-within
boxed_word-word-requires-clause-within c v boxed =
    let need = 2 + c.grown-capacity.result + c.need_of.result in
    let two : c.need_of.result ≡ 2 = c.need_of.ensures ∙ ap content_need boxed in
    let space = c.begin_store.ensures.puts.beside.space
    ∙ ap (λ (main : Mutator). main.seat.space) c.in_ok-at.ensures.reserved in
    let before = run_before_layouts c.args.main.now need c.in_ok-at.at c.begin_store.new.main.seat.space
    c.requires.can.ready.tied c.in_ok-at.ensures.room (c.in_ok-at.ensures.at (omega arith)) space in
    omega (arith, before, two)

pub store-requires-clause-within : goal.store-requires-clause-within
store-requires-clause-within c =
    let need = 2 + c.grown-capacity.result + c.need_of.result in
    let space = c.boxed_word-word.ensures.made.beside.space ∙ c.begin_store.ensures.puts.beside.space
    ∙ ap (λ (main : Mutator). main.seat.space) c.in_ok-at.ensures.reserved in
    let before = run_before_marks c.args.main.now need c.in_ok-at.at c.boxed_word-word.new.main.seat.space
    c.requires.can.ready.tied c.in_ok-at.ensures.room (c.in_ok-at.ensures.at (omega arith)) space in
    omega (arith, before, c.grown-capacity.ensures, c.requires.few)

pub overflow_add-at : goal.overflow_add-at
overflow_add-at c =
    let need = 2 + c.grown-capacity.result + c.need_of.result in
    let space = c.args.main.now.seat.space in
    let before = run_before_marks c.args.main.now need c.in_ok-at.at space c.requires.can.ready.tied
    c.in_ok-at.ensures.room (c.in_ok-at.ensures.at (omega arith)) refl in
    omega (arith, before, marks_fit space c.addresses_fit.ensures.within)

pub store-requires-2-clause-within : goal.store-requires-2-clause-within
store-requires-2-clause-within c =
    let within = slot_within c.requires.can.ready.whole c.requires.can.ready.there in
    let space = ap (λ (main : Mutator). main.seat.space) c.store.ensures.stored
    ∙ c.boxed_word-word.ensures.made.beside.space
    ∙ c.begin_store.ensures.puts.beside.space ∙ ap (λ (main : Mutator). main.seat.space) c.in_ok-at.ensures.reserved in
    omega (arith, within, ap (λ (s : Space). marks_start s) space)

pub write_slot-requires-clause-within : goal.write_slot-requires-clause-within
write_slot-requires-clause-within c =
    let within = count_within c.requires.can.ready.whole c.requires.can.ready.there in
    let space = ap (λ (main : Mutator). main.seat.space) c.store-2.ensures.stored
    ∙ ap (λ (main : Mutator). main.seat.space) c.store.ensures.stored ∙ c.boxed_word-word.ensures.made.beside.space
    ∙ c.begin_store.ensures.puts.beside.space ∙ ap (λ (main : Mutator). main.seat.space) c.in_ok-at.ensures.reserved in
    omega (arith, within, ap (λ (s : Space). marks_start s) space)

-- how addresses are touched where the value comes to a store that is made at an address
abbrev begun_touch : (at count : ℕ) → SlotContent → ℕ → Touch
begun_touch at count holds =
    let box = at + (store_head + grown_list count) in
    let made = touched_then (store_touch (grown_list count) at) (content_touch holds box) in
    touched_then made (touched_one Touch.Stored (at + (store_head + count)))

-- and then words of the list's cell are put
abbrev linked_touch : (at list count : ℕ) → SlotContent → ℕ → Touch
linked_touch at list count holds =
    let linked = touched_then (begun_touch at count holds) (touched_one Touch.Stored (list + store_slot)) in
    touched_then linked (touched_one Touch.Wiped (list + count_offset))

-- the words of the store and of the box were wiped
store_made : (c : goal.After-write_slot)
    → Touches c.args.main.now c.boxed_word-word.new.main
    (touched_then (store_touch (grown_list c.args.count) c.in_ok-at.at)
    (content_touch (store_content c.args.value) (c.in_ok-at.at + (store_head + grown_list c.args.count))))
store_made c =
    let old : Mutator = c.args.main.now in
    let begun : Mutator = c.begin_store.new.main in
    let boxed : Mutator = c.boxed_word-word.new.main in
    let at : ℕ = c.in_ok-at.at in
    let capacity : ℕ = c.grown-capacity.result in
    let holds = c.content_for-content.result in
    let first : Touches old begun (store_touch capacity at) =
    reserved_touch (2 + capacity + c.need_of.result)
    (subst (λ (main : Mutator). Touches main begun (store_touch capacity at)) c.in_ok-at.ensures.reserved
    c.begin_store.ensures.touches) in
    let P : ℕ → SlotContent → Type 0 = λ slots told. Touches old boxed
    (touched_then (store_touch slots at) (content_touch told (at + (store_head + slots)))) in
    subst (P (grown_list c.args.count)) c.content_for-content.ensures
    (subst (λ slots. P slots holds) c.grown-capacity.ensures (then_touch first c.boxed_word-word.ensures.touches))

-- no slot of a page was put by them
made_surely_told : (c : goal.After-write_slot)
    → StoresSurely c.boxed_word-word.new.main
    (touched_then (store_touch (grown_list c.args.count) c.in_ok-at.at)
    (content_touch (store_content c.args.value) (c.in_ok-at.at + (store_head + grown_list c.args.count))))
made_surely_told c =
    let boxed : Mutator = c.boxed_word-word.new.main in
    let at : ℕ = c.in_ok-at.at in
    let capacity : ℕ = c.grown-capacity.result in
    let holds = c.content_for-content.result in
    let same = c.in_ok-at.ensures.at (omega arith) in
    let begun_on = stores_on_again
    (used_on c.args.main.now (2 + capacity + c.need_of.result) c.in_ok-at.ensures.reserved)
    c.begin_store.ensures.stores in
    let begun = made_surely {main = c.begin_store.new.main} capacity at
    (young_then at (omega (arith, same)) c.requires.may.young begun_on) in
    let all = surely_then begun c.boxed_word-word.ensures.touches c.boxed_word-word.ensures.stores
    (content_surely boxed holds (at + (2 + capacity))) in
    let P : ℕ → SlotContent → Type 0 = λ slots told. StoresSurely boxed
    (touched_then (store_touch slots at) (content_touch told (at + (store_head + slots)))) in
    subst (P (grown_list c.args.count)) c.content_for-content.ensures
    (subst (λ slots. P slots holds) c.grown-capacity.ensures all)

pub returns-clause-ok : goal.returns-clause-ok
returns-clause-ok c =
    let old : Mutator = c.args.main.now in
    let begun : Mutator = c.begin_store.new.main in
    let boxed : Mutator = c.boxed_word-word.new.main in
    let put : Mutator = c.store.new.self in
    let linked : Mutator = c.store-2.new.self in
    let at = c.in_ok-at.at in
    let need = 2 + c.grown-capacity.result + c.need_of.result in
    let ready = c.requires.can.ready in
    let first : RestStays old.seat boxed.seat =
    rest_stays_again old.seat begun.seat boxed.seat
    (rest_stays_again old.seat c.room_for.new.main.seat begun.seat (reserved_rest old _ c.in_ok-at.ensures.reserved)
    c.begin_store.ensures.puts.beside) c.boxed_word-word.ensures.made.beside in
    let before = run_before_marks old need at boxed.seat.space ready.tied c.in_ok-at.ensures.room
    (c.in_ok-at.ensures.at (omega arith)) first.space in
    let place : ℕ = at + (2 + c.args.count) in
    let place_within : place < marks_start boxed.seat.space =
    omega (arith, before, c.grown-capacity.ensures, c.requires.few) in
    let filled : RestStays old.seat put.seat =
    put_rest place c.boxed_word-word.result.0 first (ap (λ (main : Mutator). main.seat) c.store.ensures.stored)
    place_within in
    let slot_before : c.args.list + 1 < marks_start put.seat.space =
    omega (arith, slot_within ready.whole ready.there, ap (λ (s : Space). marks_start s) filled.space) in
    let named : RestStays old.seat linked.seat =
    put_rest (c.args.list + 1) _ filled (ap (λ (main : Mutator). main.seat) c.store-2.ensures.stored) slot_before in
    let count_before : c.args.list + 2 < marks_start linked.seat.space =
    omega (arith, count_within ready.whole ready.there, ap (λ (s : Space). marks_start s) named.space) in
    let counted = c.addresses_fit.ensures.heap_counted in
    let is_told : Touches old put (begun_touch at c.args.count (store_content c.args.value)) =
    then_stored place c.boxed_word-word.result.0 (store_made c) c.store.ensures.stored
    (rest_counted first counted) place_within in
    let holds = store_content c.args.value in
    let is_named = then_stored (c.args.list + 1) _ is_told c.store-2.ensures.stored (rest_counted filled counted)
    slot_before in
    let same = c.in_ok-at.ensures.at (omega arith) in
    let made_all = made_on old need c.in_ok-at.ensures.reserved c.begin_store.ensures.stores
    c.boxed_word-word.ensures.stores in
    let put_on = element_on at c.args.count c.boxed_word-word.result.0 need ready.tied c.in_ok-at.ensures.room same
    c.requires.may.young made_all (slot_taken c.args.count c.grown-capacity.result c.need_of.result c.requires.few
    c.grown-capacity.ensures) c.store.ensures.stored in
    let put_all = stores_on_again made_all put_on in
    let list_before = list_in_cells ready.whole ready.there in
    let holds_link = link_holds at need ready.tied c.in_ok-at.ensures.room same c.requires.may.young
    c.addresses_fit.ensures.fit put_all in
    let link_on = linked_on c.args.list (reference_word at) c.requires.may list_before put_all holds_link
    (rw c.reference.ensures at c.store-2.ensures.stored) in
    let linked_all = stores_on_again put_all link_on in
    let count_on = counted_on c.args.list _ c.requires.may list_before linked_all c.write_slot.ensures.written in
    let sure_put = then_put_surely place c.boxed_word-word.result.0 (made_surely_told c) (rest_counted first counted)
    place_within put_on c.store.ensures.stored in
    let sure_named = then_put_surely (c.args.list + 1) _ sure_put (rest_counted filled counted) slot_before link_on
    c.store-2.ensures.stored in
    record {
      room = search rules;
      stores = stores_on_again linked_all count_on;
      surely = subst (λ n. StoresSurely c.write_slot.new.self (linked_touch n c.args.list c.args.count holds)) same
          (then_wiped_surely (c.args.list + 2) _ sure_named count_before count_on c.write_slot.ensures.written);
      words = record {
        beside = put_rest (c.args.list + 2) _ named
            (ap (λ (main : Mutator). main.seat) c.write_slot.ensures.written) count_before;
        paths = search rules;
        young = search rules;
        heap = search rules;
      };
      touches = subst (λ n. Touches old c.write_slot.new.self (linked_touch n c.args.list c.args.count holds))
          (c.in_ok-at.ensures.at (omega arith))
          (then_wiped (c.args.list + 2) _ is_named c.write_slot.ensures.written count_before);
    }
