-- The box that is made stands in the words that were reserved, and the length in the list's cell.
use Rattle.std.proofs.Common.{◌≡◌, ℕ, ◌+◌, ◌<◌, length, sym, ap, ◌∙◌, subst, arith, rules}
use Rattle.page_space.specs.Extents.{Space, marks_start}
use Rattle.write_barrier.specs.Seats.{RestStays, heap_words}
use Rattle.write_barrier.specs.Staying.{rest_stays_again}
use Rattle.write_barrier.specs.MutatorState.{Mutator}
use Rattle.write_barrier.specs.Storing.{IsMadeYoung}
use Rattle.write_barrier.proofs.StoresOn.{made_young_stays, may_change_stays, stores_on_again}
use Rattle.write_barrier.specs.Recording.{Touches}
use Rattle.object_cells.specs.Contents.{next_at}
use Rattle.object_cells.specs.Made.{content_need, content_touch, store_content}
use Rattle.object_cells.proofs.ListsInCycle.{count_may_put, list_in_cells}
use Rattle.list_store.proofs.PushSteps.{content_surely, counted_on, element_may_put, stored_on, then_put_surely}
use Rattle.list_store.proofs.PushSteps.{then_wiped_surely, used_on, word_may_hold}
use Rattle.object_cells.proofs.MadeBoxes.{length-with_content}
use Rattle.object_cells.proofs.TouchedWords.{content_reserved, then_stored, then_wiped}
use Rattle.object_cells.proofs.RestOfWords.{put_rest, reserved_rest}
use Rattle.object_cells.proofs.UnusedWords.{run_before_layouts}
use Rattle.object_cells.proofs.ListCells.{count_within}
use Rattle.list_store.proofs.pushing.push_to_store.Goals as goal

pub boxed_word-word-requires-clause-young : goal.boxed_word-word-requires-clause-young
boxed_word-word-requires-clause-young c v boxed =
    let need : c.need_of.result ≡ 2 = c.need_of.ensures ∙ ap content_need boxed in
    made_young_stays (used_on c.args.main.now c.need_of.result c.in_ok-at.ensures.reserved)
    (subst (IsMadeYoung c.args.main.now) (sym (c.in_ok-at.ensures.at (omega (arith, need)))) c.requires.may.young)

pub boxed_word-word-requires-clause-within : goal.boxed_word-word-requires-clause-within
boxed_word-word-requires-clause-within c v boxed =
    let need : c.need_of.result ≡ 2 = c.need_of.ensures ∙ ap content_need boxed in
    let space = ap (λ (main : Mutator). main.seat.space) c.in_ok-at.ensures.reserved in
    let before = run_before_layouts c.args.main.now c.need_of.result c.in_ok-at.at c.room_for.new.main.seat.space
    c.requires.can.ready.tied c.in_ok-at.ensures.room (c.in_ok-at.ensures.at (omega arith)) space in
    omega (arith, before, need)

pub store-requires-clause-may_store : goal.store-requires-clause-may_store
store-requires-clause-may_store c =
    let store = c.args.store in
    let old : Mutator = c.args.main.now in
    let on = stores_on_again (used_on c.args.main.now c.need_of.result c.in_ok-at.ensures.reserved)
    c.boxed_word-word.ensures.stores in
    element_may_put store.at store.capacity c.args.count c.boxed_word-word.result.0
    (may_change_stays on (c.requires.may.of_store store c.requires.can.is (omega (arith, c.requires.room))))
    c.requires.room
    (word_may_hold c.need_of.result c.in_ok-at.at c.requires.may c.requires.can.ready.tied c.in_ok-at.ensures.room
    c.content_for-content.ensures c.boxed_word-word.ensures.word c.need_of.ensures c.in_ok-at.ensures.at
    c.addresses_fit.ensures.fit on)

pub write_slot-requires-clause-may_store : goal.write_slot-requires-clause-may_store
write_slot-requires-clause-may_store c =
    let old : Mutator = c.args.main.now in
    let on = stores_on_again (used_on c.args.main.now c.need_of.result c.in_ok-at.ensures.reserved)
    c.boxed_word-word.ensures.stores in
    let holds = word_may_hold c.need_of.result c.in_ok-at.at c.requires.may c.requires.can.ready.tied
    c.in_ok-at.ensures.room c.content_for-content.ensures c.boxed_word-word.ensures.word c.need_of.ensures
    c.in_ok-at.ensures.at c.addresses_fit.ensures.fit on in
    let put = stored_on c.args.store c.requires.can c.requires.may c.requires.room on holds c.store.ensures.stored in
    count_may_put c.args.list _ (may_change_stays (stores_on_again on put) c.requires.may.of_list)

pub write_slot-requires-clause-within : goal.write_slot-requires-clause-within
write_slot-requires-clause-within c =
    let within = count_within c.requires.can.ready.whole c.requires.can.ready.there in
    let space = ap (λ (main : Mutator). main.seat.space) c.store.ensures.stored
    ∙ c.boxed_word-word.ensures.made.beside.space
    ∙ ap (λ (main : Mutator). main.seat.space) c.in_ok-at.ensures.reserved in
    omega (arith, within, ap (λ (s : Space). marks_start s) space)

-- there are as many words with the box
box_counted : (c : goal.After-write_slot)
    → length (heap_words c.boxed_word-word.new.main.seat) ≡ marks_start c.boxed_word-word.new.main.seat.space
box_counted c =
    let run : Mutator = c.room_for.new.main in
    let made = c.boxed_word-word.ensures.made in
    ap length made.heap ∙ length-with_content (heap_words run.seat) c.content_for-content.result c.in_ok-at.at
    ∙ ap (λ (main : Mutator). length (heap_words main.seat)) c.in_ok-at.ensures.reserved
    ∙ c.requires.can.ready.whole.sized.words
    ∙ sym (ap (λ (main : Mutator). marks_start main.seat.space) c.in_ok-at.ensures.reserved)
    ∙ sym (ap (λ (s : Space). marks_start s) made.beside.space)

-- its words were wiped
box_made : (c : goal.After-write_slot)
    → Touches c.args.main.now c.boxed_word-word.new.main
    (content_touch (store_content c.args.value) (next_at c.args.main.now))
box_made c =
    let old : Mutator = c.args.main.now in
    subst (λ one. Touches old c.boxed_word-word.new.main (content_touch one (next_at old)))
    c.content_for-content.ensures
    (content_reserved c.content_for-content.result c.in_ok-at.at c.need_of.result c.in_ok-at.ensures.reserved
    (λ some. c.in_ok-at.ensures.at (omega (arith, some, c.need_of.ensures))) c.boxed_word-word.ensures.touches)

pub returns-clause-ok : goal.returns-clause-ok
returns-clause-ok c =
    let old : Mutator = c.args.main.now in
    let boxed : Mutator = c.boxed_word-word.new.main in
    let put : Mutator = c.store.new.self in
    let store = c.args.store in
    let ready = c.requires.can.ready in
    let first : RestStays old.seat boxed.seat =
    rest_stays_again old.seat c.room_for.new.main.seat boxed.seat (reserved_rest old _ c.in_ok-at.ensures.reserved)
    c.boxed_word-word.ensures.made.beside in
    let place : ℕ = store.at + (2 + c.args.count) in
    let place_within : place < marks_start boxed.seat.space =
    omega (arith, c.requires.can.is.within, c.requires.room, ap (λ (s : Space). marks_start s) first.space) in
    let filled : RestStays old.seat put.seat =
    put_rest place c.boxed_word-word.result.0 first (ap (λ (main : Mutator). main.seat) c.store.ensures.stored)
    place_within in
    let count_before : c.args.list + 2 < marks_start put.seat.space =
    omega (arith, count_within ready.whole ready.there, ap (λ (s : Space). marks_start s) filled.space) in
    let stored = then_stored place c.boxed_word-word.result.0 (box_made c) c.store.ensures.stored (box_counted c)
    place_within in
    let on = stores_on_again (used_on c.args.main.now c.need_of.result c.in_ok-at.ensures.reserved)
    c.boxed_word-word.ensures.stores in
    let holds = word_may_hold c.need_of.result c.in_ok-at.at c.requires.may ready.tied c.in_ok-at.ensures.room
    c.content_for-content.ensures c.boxed_word-word.ensures.word c.need_of.ensures c.in_ok-at.ensures.at
    c.addresses_fit.ensures.fit on in
    let put_on = stored_on store c.requires.can c.requires.may c.requires.room on holds c.store.ensures.stored in
    let on_put = stores_on_again on put_on in
    let list_before = list_in_cells ready.whole ready.there in
    let count_on = counted_on c.args.list _ c.requires.may list_before on_put c.write_slot.ensures.written in
    let sure = then_put_surely place c.boxed_word-word.result.0
    (content_surely boxed (store_content c.args.value) (next_at old)) (box_counted c) place_within put_on
    c.store.ensures.stored in
    record {
      room = search rules;
      stores = stores_on_again on_put count_on;
      surely = then_wiped_surely (c.args.list + 2) _ sure count_before count_on c.write_slot.ensures.written;
      words = record {
        beside = put_rest (c.args.list + 2) _ filled
            (ap (λ (main : Mutator). main.seat) c.write_slot.ensures.written) count_before;
        paths = search rules;
        young = search rules;
        heap = search rules;
      };
      touches = then_wiped (c.args.list + 2) _ stored c.write_slot.ensures.written count_before;
    }
