-- The box that is made stands in the words that were reserved.
use Rattle.page_space.specs.Extents.{Space, marks_start}
use Rattle.heap_model.specs.Wholeness.{HasSizes}
use Rattle.heap_model.specs.Remembered.{Touch}
use Rattle.write_barrier.specs.MutatorState.{Mutator, heap_of}
use Rattle.write_barrier.specs.Recording.{Touches, touched_one, touched_then}
use Rattle.object_cells.proofs.UnusedWords.{run_before_layouts}
use Rattle.object_cells.proofs.RestOfWords.{put_rest}
use Rattle.object_cells.proofs.MadeBoxes.{length-with_content}
use Rattle.object_cells.proofs.TouchedWords.{content_touch_at, then_stored, then_wiped}
use Rattle.object_cells.specs.Contents.{content_of, next_at}
use Rattle.object_cells.specs.Made.{content_need, content_touch, store_content}
use Rattle.std.proofs.Common.{◌≡◌, ◌+◌, ◌-◌, ◌<◌, false, length, ap, sym, subst, ◌∙◌, arith, rules}
use Rattle.shape_change.proofs.StoreFieldOn.{next_stays_young, reserved_path_on}
use Rattle.shape_change.proofs.StoreSteps.{BoxMade, field_on, field_surely, head_may, slot_may}
use Rattle.write_barrier.specs.SureStores.{StoresSurely}
use Rattle.write_barrier.specs.Seats.{heap_words}
use Rattle.shape_change.proofs.add_in_store.add_to_store.Goals as goal
use Rattle.shape_change.specs.Additions.{behind_cap}

pub step_to-next-requires-clause-sized : goal.step_to-next-requires-clause-sized
step_to-next-requires-clause-sized c =
    let sized = c.requires.can.whole.sized in
    subst (λ (main : Mutator). HasSizes (heap_of main)) (sym c.in_ok-at.ensures.reserved)
    (record { words = sized.words; shapes = sized.shapes; layouts = sized.layouts })

pub boxed_word-word-requires-clause-within : goal.boxed_word-word-requires-clause-within
boxed_word-word-requires-clause-within c v boxed =
    let need : c.need_of.result ≡ 2 = c.need_of.ensures ∙ ap content_need boxed in
    let space = c.step_to-next.ensures.beside.space
    ∙ ap (λ (main : Mutator). main.seat.space) c.in_ok-at.ensures.reserved in
    let before = run_before_layouts c.args.main.now c.need_of.result c.in_ok-at.at c.step_to-next.new.main.seat.space
    c.requires.can.tied c.in_ok-at.ensures.room (c.in_ok-at.ensures.at (omega arith)) space in
    omega (arith, before, need)

pub boxed_word-word-requires-clause-young : goal.boxed_word-word-requires-clause-young
boxed_word-word-requires-clause-young c v boxed =
    let need : c.need_of.result ≡ 2 = c.need_of.ensures ∙ ap content_need boxed in
    next_stays_young c.requires.can.shown.shows
    (reserved_path_on c.need_of.result c.in_ok-at.ensures.reserved c.step_to-next.ensures)
    (c.in_ok-at.ensures.at (omega (arith, need)))

pub store-requires-clause-may_store : goal.store-requires-clause-may_store
store-requires-clause-may_store c =
    let steps : BoxMade c.args.main.now c.step_to-next.new.main c.boxed_word-word.new.main c.args.object c.args.header
    c.args.new.field.name c.args.new.value c.args.store (c.args.new.slot - c.args.new.cap) c.in_ok-at.at
    c.step_to-next.result c.content_of-content.result c.boxed_word-word.result.0 = record {
      can = c.requires.can;
      is = c.requires.is;
      behind = c.requires.behind;
      room = omega (arith, c.requires.room, c.requires.new.slot, c.requires.new.cap);
      holds_is = c.content_of-content.ensures
          ∙ ap (λ rep. content_of false rep c.args.new.value) c.requires.new.rep;
      has_room = search rules;
      at_is = λ some. c.in_ok-at.ensures.at (omega (arith, some, c.need_of.ensures));
      path = search rules;
      made = c.boxed_word-word.ensures.made;
      touches = c.boxed_word-word.ensures.touches;
      on = c.boxed_word-word.ensures.stores;
      word_is = c.boxed_word-word.ensures.word;
    } in
    slot_may steps

pub set_shape-requires-clause-may : goal.set_shape-requires-clause-may
set_shape-requires-clause-may c =
    let steps : BoxMade c.args.main.now c.step_to-next.new.main c.boxed_word-word.new.main c.args.object c.args.header
    c.args.new.field.name c.args.new.value c.args.store (c.args.new.slot - c.args.new.cap) c.in_ok-at.at
    c.step_to-next.result c.content_of-content.result c.boxed_word-word.result.0 = record {
      can = c.requires.can;
      is = c.requires.is;
      behind = c.requires.behind;
      room = omega (arith, c.requires.room, c.requires.new.slot, c.requires.new.cap);
      holds_is = c.content_of-content.ensures
          ∙ ap (λ rep. content_of false rep c.args.new.value) c.requires.new.rep;
      has_room = search rules;
      at_is = λ some. c.in_ok-at.ensures.at (omega (arith, some, c.need_of.ensures));
      path = search rules;
      made = c.boxed_word-word.ensures.made;
      touches = c.boxed_word-word.ensures.touches;
      on = c.boxed_word-word.ensures.stores;
      word_is = c.boxed_word-word.ensures.word;
    } in
    head_may steps c.store.ensures.stored

pub store-requires-clause-within : goal.store-requires-clause-within
store-requires-clause-within c =
    let space = c.boxed_word-word.ensures.made.beside.space ∙ c.step_to-next.ensures.beside.space
    ∙ ap (λ (main : Mutator). main.seat.space) c.in_ok-at.ensures.reserved in
    omega (
      arith,
      ap (λ (s : Space). marks_start s) space,
      c.requires.is.within,
      c.requires.room,
      c.requires.new.slot,
      c.requires.new.cap,
    )

-- the box that the field needs was made
box_made : (c : goal.After-set_shape) → Touches c.step_to-next.new.main c.boxed_word-word.new.main
    (content_touch (store_content c.args.new.value) (next_at c.args.main.now))
box_made c =
    let mid : Mutator = c.step_to-next.new.main in
    let boxed : Mutator = c.boxed_word-word.new.main in
    let holds = c.content_of-content.result in
    let is : holds ≡ store_content c.args.new.value =
    c.content_of-content.ensures ∙ ap (λ rep. content_of false rep c.args.new.value) c.requires.new.rep in
    let same = content_touch_at holds c.in_ok-at.at (next_at c.args.main.now)
    (λ some. c.in_ok-at.ensures.at (omega (arith, some, c.need_of.ensures))) in
    subst (Touches mid boxed) (same ∙ ap (λ one. content_touch one (next_at c.args.main.now)) is)
    c.boxed_word-word.ensures.touches

pub returns-clause-ok : goal.returns-clause-ok
returns-clause-ok c =
    let mid : Mutator = c.step_to-next.new.main in
    let boxed : Mutator = c.boxed_word-word.new.main in
    let put : Mutator = c.store.new.self in
    let new : Mutator = c.set_shape.new.main in
    let made = c.boxed_word-word.ensures.made in
    let space = made.beside.space ∙ c.step_to-next.ensures.beside.space
    ∙ ap (λ (main : Mutator). main.seat.space) c.in_ok-at.ensures.reserved in
    let place = c.args.store.at + (2 + (c.args.new.slot - c.args.new.cap)) in
    let below : place < marks_start boxed.seat.space =
    omega (
      arith,
      ap (λ (s : Space). marks_start s) space,
      c.requires.is.within,
      c.requires.room,
      c.requires.new.slot,
      c.requires.new.cap,
    ) in
    let head_below : c.args.object < marks_start put.seat.space =
    omega (
      arith,
      ap (λ (main : Mutator). marks_start main.seat.space) c.store.ensures.stored,
      ap (λ (s : Space). marks_start s) space,
      c.requires.can.within,
    ) in
    let counted : length (heap_words boxed.seat) ≡ marks_start boxed.seat.space =
    ap length made.heap ∙ length-with_content (heap_words mid.seat) c.content_of-content.result c.in_ok-at.at
    ∙ c.step_to-next.ensures.sized.words ∙ ap (λ (s : Space). marks_start s) (sym made.beside.space) in
    let slot : c.args.new.slot - c.args.new.cap ≡ behind_cap c.args.main.now.paths c.args.header.shape =
    omega (arith, c.requires.new.slot, c.requires.new.cap) in
    let stored = then_stored place c.boxed_word-word.result.0 (box_made c) c.store.ensures.stored counted below in
    record {
      room = search rules;
      next = c.step_to-next.result;
      mid = mid;
      path = search rules;
      words = record {
        beside = put_rest c.args.object _
            (put_rest place c.boxed_word-word.result.0 made.beside
            (ap (λ (main : Mutator). main.seat) c.store.ensures.stored) below)
            (ap (λ (main : Mutator). main.seat) c.set_shape.ensures.put) head_below;
        paths = search rules;
        young = search rules;
        heap = search rules;
      };
      touches = subst (λ n. Touches mid new (touched_then
          (touched_then (content_touch (store_content c.args.new.value) (next_at c.args.main.now))
          (touched_one Touch.Stored (c.args.store.at + (2 + n)))) (touched_one Touch.Wiped c.args.object))) slot
          (then_wiped c.args.object _ stored c.set_shape.ensures.put head_below);
      stores =
          let steps : BoxMade c.args.main.now c.step_to-next.new.main c.boxed_word-word.new.main c.args.object
          c.args.header
          c.args.new.field.name c.args.new.value c.args.store (c.args.new.slot - c.args.new.cap) c.in_ok-at.at
          c.step_to-next.result c.content_of-content.result c.boxed_word-word.result.0 = record {
            can = c.requires.can;
            is = c.requires.is;
            behind = c.requires.behind;
            room = omega (arith, c.requires.room, c.requires.new.slot, c.requires.new.cap);
            holds_is = c.content_of-content.ensures
                ∙ ap (λ rep. content_of false rep c.args.new.value) c.requires.new.rep;
            has_room = search rules;
            at_is = λ some. c.in_ok-at.ensures.at (omega (arith, some, c.need_of.ensures));
            path = search rules;
            made = c.boxed_word-word.ensures.made;
            touches = c.boxed_word-word.ensures.touches;
            on = c.boxed_word-word.ensures.stores;
            word_is = c.boxed_word-word.ensures.word;
          } in
          field_on steps c.store.ensures.stored c.set_shape.ensures.put;
      surely =
          let holds = c.content_of-content.result in
          let is : holds ≡ store_content c.args.new.value =
          c.content_of-content.ensures ∙ ap (λ rep. content_of false rep c.args.new.value) c.requires.new.rep in
          let same : content_touch holds c.in_ok-at.at ≡ content_touch (store_content c.args.new.value)
          (next_at c.args.main.now)
          = content_touch_at holds c.in_ok-at.at (next_at c.args.main.now)
          (λ some. c.in_ok-at.ensures.at (omega (arith, some, c.need_of.ensures)))
          ∙ ap (λ one. content_touch one (next_at c.args.main.now)) is in
          let steps : BoxMade c.args.main.now c.step_to-next.new.main c.boxed_word-word.new.main c.args.object
          c.args.header
          c.args.new.field.name c.args.new.value c.args.store (c.args.new.slot - c.args.new.cap) c.in_ok-at.at
          c.step_to-next.result c.content_of-content.result c.boxed_word-word.result.0 = record {
            can = c.requires.can;
            is = c.requires.is;
            behind = c.requires.behind;
            room = omega (arith, c.requires.room, c.requires.new.slot, c.requires.new.cap);
            holds_is = c.content_of-content.ensures
                ∙ ap (λ rep. content_of false rep c.args.new.value) c.requires.new.rep;
            has_room = search rules;
            at_is = λ some. c.in_ok-at.ensures.at (omega (arith, some, c.need_of.ensures));
            path = search rules;
            made = c.boxed_word-word.ensures.made;
            touches = c.boxed_word-word.ensures.touches;
            on = c.boxed_word-word.ensures.stores;
            word_is = c.boxed_word-word.ensures.word;
          } in
          subst (λ n. StoresSurely new (touched_then
          (content_touch (store_content c.args.new.value) (next_at c.args.main.now))
          (touched_one Touch.Stored (c.args.store.at + (2 + n))))) slot
          (subst (λ touch. StoresSurely new (touched_then touch (touched_one Touch.Stored place))) same
          (field_surely steps c.store.ensures.stored c.set_shape.ensures.put));
    }
