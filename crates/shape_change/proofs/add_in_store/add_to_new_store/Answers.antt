-- The store and the box that are made stand in the words that were reserved.
use Rattle.page_space.specs.Extents.{Space, layouts_start, marks_start}
use Rattle.object_cells.proofs.CellsRead.{cell_before_layouts}
use Rattle.object_cells.proofs.SlotsNow.{plain_cell_size}
use Rattle.write_barrier.specs.Staying.{rest_stays_again}
use Rattle.write_barrier.specs.Seats.{RestStays}
use Rattle.heap_model.specs.Wholeness.{HasSizes}
use Rattle.write_barrier.specs.MutatorState.{Mutator, heap_of}
use Rattle.write_barrier.specs.SureStores.{StoresSurely}
use Rattle.write_barrier.proofs.StoresOn.{made_young_stays}
use Rattle.shape_change.proofs.StoreFieldOn.{young_behind}
use Rattle.shape_change.proofs.NewStoreSteps.{StoreNeeds, link_may, new_head_may, new_slot_may, new_store_on}
use Rattle.shape_change.proofs.NewStoreSteps.{new_store_surely}
use Rattle.shape_change.proofs.NewStoreSteps.{store_young}
use Rattle.write_barrier.specs.Recording.{Touches, touched_one, touched_then}
use Rattle.write_barrier.proofs.Recording.{then_touch}
use Rattle.object_cells.proofs.RestOfWords.{put_rest}
use Rattle.object_cells.proofs.UnusedWords.{next_run, run_before_layouts, run_before_marks, run_apart}
use Rattle.object_cells.proofs.TouchedWords.{rest_counted, then_stored, then_wiped}
use Rattle.object_cells.specs.declared.content.SlotContent.{SlotContent}
use Rattle.object_cells.specs.Contents.{content_of, next_at}
use Rattle.object_cells.specs.Made.{content_need, content_touch, store_content, store_touch}
use Rattle.std.proofs.Common.{◌≡◌, ℕ, ◌+◌, ◌<◌, false, inl, inr, ap, sym, subst, ◌∙◌, arith, rules}
use Rattle.tagged_word.specs.Cells.{store_head, store_slot}
use Rattle.heap_model.specs.Needs.{grown}
use Rattle.heap_model.specs.Remembered.{Touch}
use Rattle.shape_change.proofs.add_in_store.add_to_new_store.Goals as goal

pub step_to-next-requires-clause-sized : goal.step_to-next-requires-clause-sized
step_to-next-requires-clause-sized c =
    let sized = c.requires.can.whole.sized in
    subst (λ (main : Mutator). HasSizes (heap_of main)) (sym c.in_ok-at.ensures.reserved)
    (record { words = sized.words; shapes = sized.shapes; layouts = sized.layouts })

pub make_store-requires-clause-within : goal.make_store-requires-clause-within
make_store-requires-clause-within c =
    let need = 2 + c.grown-capacity.result + c.need_of.result in
    let space = c.step_to-next.ensures.beside.space
    ∙ ap (λ (main : Mutator). main.seat.space) c.in_ok-at.ensures.reserved in
    let before = run_before_layouts c.args.main.now need c.in_ok-at.at c.step_to-next.new.main.seat.space
    c.requires.can.tied
    c.in_ok-at.ensures.room (c.in_ok-at.ensures.at (omega arith)) space in
    omega (arith, before, c.grown-capacity.ensures)

pub make_store-requires-clause-apart : goal.make_store-requires-clause-apart
make_store-requires-clause-apart c =
    let old : Mutator = c.args.main.now in
    let need = 2 + c.grown-capacity.result + c.need_of.result in
    let run = next_run old need c.requires.can.tied c.requires.can.whole.rows c.in_ok-at.ensures.room in
    let at : c.in_ok-at.at ≡ next_at old = c.in_ok-at.ensures.at (omega arith) in
    elim (run_apart c.args.object c.args.store run c.requires.is (omega (arith, c.grown-capacity.ensures))) [
      | inl before ↦ inl (omega (arith, before, at))
      | inr behind ↦ inr (omega (arith, behind, at))
    ]

pub boxed_word-word-requires-clause-within : goal.boxed_word-word-requires-clause-within
boxed_word-word-requires-clause-within c v boxed =
    let need = 2 + c.grown-capacity.result + c.need_of.result in
    let two : c.need_of.result ≡ 2 = c.need_of.ensures ∙ ap content_need boxed in
    let space = c.make_store.ensures.puts.beside.space ∙ c.step_to-next.ensures.beside.space
    ∙ ap (λ (main : Mutator). main.seat.space) c.in_ok-at.ensures.reserved in
    let before = run_before_layouts c.args.main.now need c.in_ok-at.at c.make_store.new.main.seat.space
    c.requires.can.tied
    c.in_ok-at.ensures.room (c.in_ok-at.ensures.at (omega arith)) space in
    omega (arith, before, two)

pub make_store-requires-clause-named : goal.make_store-requires-clause-named
make_store-requires-clause-named c =
    let there = c.requires.can.there in
    let space = c.step_to-next.ensures.beside.space
    ∙ ap (λ (main : Mutator). main.seat.space) c.in_ok-at.ensures.reserved in
    omega (
      arith,
      ap (λ (s : Space). layouts_start s) space,
      cell_before_layouts c.requires.can.whole there.has,
      plain_cell_size there.has there.plain,
      there.stands,
    )

pub make_store-requires-clause-young : goal.make_store-requires-clause-young
make_store-requires-clause-young c =
    let needs : StoreNeeds c.args.main.now c.step_to-next.new.main c.args.object c.args.header
    c.args.new.field.name c.args.new.value c.args.store c.grown-capacity.result c.in_ok-at.at c.step_to-next.result
    = record {
      capacity_is = c.grown-capacity.ensures;
      full = omega (arith, c.grown-capacity.ensures);
      can = c.requires.can;
      behind = c.requires.behind;
      has_room = search rules;
      at_is = c.in_ok-at.ensures.at (omega arith);
      path = search rules;
    } in
    store_young needs

pub make_store-requires-clause-may : goal.make_store-requires-clause-may
make_store-requires-clause-may c =
    let needs : StoreNeeds c.args.main.now c.step_to-next.new.main c.args.object c.args.header
    c.args.new.field.name c.args.new.value c.args.store c.grown-capacity.result c.in_ok-at.at c.step_to-next.result
    = record {
      capacity_is = c.grown-capacity.ensures;
      full = omega (arith, c.grown-capacity.ensures);
      can = c.requires.can;
      behind = c.requires.behind;
      has_room = search rules;
      at_is = c.in_ok-at.ensures.at (omega arith);
      path = search rules;
    } in
    link_may needs

pub boxed_word-word-requires-clause-young : goal.boxed_word-word-requires-clause-young
boxed_word-word-requires-clause-young c v boxed =
    let needs : StoreNeeds c.args.main.now c.step_to-next.new.main c.args.object c.args.header
    c.args.new.field.name c.args.new.value c.args.store c.grown-capacity.result c.in_ok-at.at c.step_to-next.result
    = record {
      capacity_is = c.grown-capacity.ensures;
      full = omega (arith, c.grown-capacity.ensures);
      can = c.requires.can;
      behind = c.requires.behind;
      has_room = search rules;
      at_is = c.in_ok-at.ensures.at (omega arith);
      path = search rules;
    } in
    young_behind c.make_store.new.main c.in_ok-at.at (2 + c.grown-capacity.result)
    (made_young_stays c.make_store.ensures.stores (store_young needs))

pub store-requires-clause-may_store : goal.store-requires-clause-may_store
store-requires-clause-may_store c =
    let needs : StoreNeeds c.args.main.now c.step_to-next.new.main c.args.object c.args.header
    c.args.new.field.name c.args.new.value c.args.store c.grown-capacity.result c.in_ok-at.at c.step_to-next.result
    = record {
      capacity_is = c.grown-capacity.ensures;
      full = omega (arith, c.grown-capacity.ensures);
      can = c.requires.can;
      behind = c.requires.behind;
      has_room = search rules;
      at_is = c.in_ok-at.ensures.at (omega arith);
      path = search rules;
    } in
    new_slot_may needs c.make_store.ensures.puts c.make_store.ensures.touches c.make_store.ensures.stores
    (c.content_of-content.ensures ∙ ap (λ rep. content_of false rep c.args.new.value) c.requires.new.rep)
    c.boxed_word-word.ensures.made c.boxed_word-word.ensures.touches c.boxed_word-word.ensures.stores
    c.boxed_word-word.result.0

pub set_shape-requires-clause-may : goal.set_shape-requires-clause-may
set_shape-requires-clause-may c =
    let needs : StoreNeeds c.args.main.now c.step_to-next.new.main c.args.object c.args.header
    c.args.new.field.name c.args.new.value c.args.store c.grown-capacity.result c.in_ok-at.at c.step_to-next.result
    = record {
      capacity_is = c.grown-capacity.ensures;
      full = omega (arith, c.grown-capacity.ensures);
      can = c.requires.can;
      behind = c.requires.behind;
      has_room = search rules;
      at_is = c.in_ok-at.ensures.at (omega arith);
      path = search rules;
    } in
    new_head_may needs c.make_store.ensures.puts c.make_store.ensures.touches c.make_store.ensures.stores
    (c.content_of-content.ensures ∙ ap (λ rep. content_of false rep c.args.new.value) c.requires.new.rep)
    c.boxed_word-word.ensures.made c.boxed_word-word.ensures.touches c.boxed_word-word.ensures.stores
    (rest_counted (rest_stays_again c.args.main.now.seat c.step_to-next.new.main.seat c.boxed_word-word.new.main.seat
    (subst (λ (main : Mutator). RestStays main.seat c.step_to-next.new.main.seat) c.in_ok-at.ensures.reserved
    c.step_to-next.ensures.beside) (rest_stays_again c.step_to-next.new.main.seat c.make_store.new.main.seat
    c.boxed_word-word.new.main.seat c.make_store.ensures.puts.beside c.boxed_word-word.ensures.made.beside))
    c.addresses_fit.ensures.heap_counted) c.boxed_word-word.result.0 c.store.ensures.stored

pub store-requires-clause-within : goal.store-requires-clause-within
store-requires-clause-within c =
    let need = 2 + c.grown-capacity.result + c.need_of.result in
    let space = c.boxed_word-word.ensures.made.beside.space ∙ c.make_store.ensures.puts.beside.space
    ∙ c.step_to-next.ensures.beside.space
    ∙ ap (λ (main : Mutator). main.seat.space) c.in_ok-at.ensures.reserved in
    let before = run_before_marks c.args.main.now need c.in_ok-at.at c.boxed_word-word.new.main.seat.space
    c.requires.can.tied c.in_ok-at.ensures.room (c.in_ok-at.ensures.at (omega arith)) space in
    omega (arith, before, c.grown-capacity.ensures)

-- the store was made, and the box that the field needs
all_made : (c : goal.After-set_shape) → Touches c.step_to-next.new.main c.boxed_word-word.new.main
    (touched_then (touched_then (store_touch (grown c.args.store.capacity) (next_at c.args.main.now))
    (touched_one Touch.Stored (c.args.object + store_slot)))
    (content_touch (store_content c.args.new.value)
    (next_at c.args.main.now + (store_head + grown c.args.store.capacity))))
all_made c =
    let mid : Mutator = c.step_to-next.new.main in
    let boxed : Mutator = c.boxed_word-word.new.main in
    let holds = c.content_of-content.result in
    let next : ℕ = next_at c.args.main.now in
    let is : holds ≡ store_content c.args.new.value =
    c.content_of-content.ensures ∙ ap (λ rep. content_of false rep c.args.new.value) c.requires.new.rep in
    let at : c.in_ok-at.at ≡ next = c.in_ok-at.ensures.at (omega arith) in
    let named = touched_one Touch.Stored (c.args.object + store_slot) in
    let made = λ (one : SlotContent) (slots from : ℕ).
    touched_then (touched_then (store_touch slots from) named) (content_touch one (from + (store_head + slots))) in
    let first : Touches mid boxed (made holds c.grown-capacity.result c.in_ok-at.at) =
    then_touch c.make_store.ensures.touches c.boxed_word-word.ensures.touches in
    subst (λ one. Touches mid boxed (made one (grown c.args.store.capacity) next)) is
    (subst (λ from. Touches mid boxed (made holds (grown c.args.store.capacity) from)) at
    (subst (λ slots. Touches mid boxed (made holds slots c.in_ok-at.at)) c.grown-capacity.ensures first))

pub returns-clause-ok : goal.returns-clause-ok
returns-clause-ok c =
    let mid : Mutator = c.step_to-next.new.main in
    let stored : Mutator = c.make_store.new.main in
    let boxed : Mutator = c.boxed_word-word.new.main in
    let put : Mutator = c.store.new.self in
    let new : Mutator = c.set_shape.new.main in
    let need = 2 + c.grown-capacity.result + c.need_of.result in
    let made = rest_stays_again mid.seat stored.seat boxed.seat c.make_store.ensures.puts.beside
    c.boxed_word-word.ensures.made.beside in
    let space = made.space ∙ c.step_to-next.ensures.beside.space
    ∙ ap (λ (main : Mutator). main.seat.space) c.in_ok-at.ensures.reserved in
    let before = run_before_marks c.args.main.now need c.in_ok-at.at boxed.seat.space
    c.requires.can.tied c.in_ok-at.ensures.room (c.in_ok-at.ensures.at (omega arith)) space in
    let place = c.in_ok-at.at + (2 + c.args.store.capacity) in
    let below : place < marks_start boxed.seat.space = omega (arith, before, c.grown-capacity.ensures) in
    let head_below : c.args.object < marks_start put.seat.space =
    omega (
      arith,
      ap (λ (main : Mutator). marks_start main.seat.space) c.store.ensures.stored,
      ap (λ (s : Space). marks_start s) space,
      c.requires.can.within,
    ) in
    let from_old = rest_stays_again c.args.main.now.seat mid.seat boxed.seat
    (subst (λ (main : Mutator). RestStays main.seat mid.seat) c.in_ok-at.ensures.reserved
    c.step_to-next.ensures.beside) made in
    let all = then_stored place c.boxed_word-word.result.0 (all_made c) c.store.ensures.stored
    (rest_counted from_old c.addresses_fit.ensures.heap_counted) below in
    record {
      room = search rules;
      next = c.step_to-next.result;
      mid = mid;
      path = search rules;
      words = record {
        beside = put_rest c.args.object _
            (put_rest place c.boxed_word-word.result.0 made (ap (λ (main : Mutator). main.seat) c.store.ensures.stored)
            below) (ap (λ (main : Mutator). main.seat) c.set_shape.ensures.put) head_below;
        paths = search rules;
        young = search rules;
        heap = search rules;
      };
      touches = subst (λ from. Touches mid new (touched_then
          (touched_then (touched_then (touched_then
          (store_touch (grown c.args.store.capacity) (next_at c.args.main.now))
          (touched_one Touch.Stored (c.args.object + store_slot)))
          (content_touch (store_content c.args.new.value)
          (next_at c.args.main.now + (store_head + grown c.args.store.capacity))))
          (touched_one Touch.Stored (from + (2 + c.args.store.capacity)))) (touched_one Touch.Wiped c.args.object)))
          (c.in_ok-at.ensures.at (omega arith))
          (then_wiped c.args.object _ all c.set_shape.ensures.put head_below);
      stores =
          let needs : StoreNeeds c.args.main.now c.step_to-next.new.main c.args.object c.args.header
          c.args.new.field.name c.args.new.value c.args.store c.grown-capacity.result c.in_ok-at.at
          c.step_to-next.result = record {
            capacity_is = c.grown-capacity.ensures;
            full = omega (arith, c.grown-capacity.ensures);
            can = c.requires.can;
            behind = c.requires.behind;
            has_room = search rules;
            at_is = c.in_ok-at.ensures.at (omega arith);
            path = search rules;
          } in
          new_store_on needs c.make_store.ensures.puts c.make_store.ensures.touches c.make_store.ensures.stores
          (c.content_of-content.ensures ∙ ap (λ rep. content_of false rep c.args.new.value) c.requires.new.rep)
          c.boxed_word-word.ensures.made c.boxed_word-word.ensures.touches c.boxed_word-word.ensures.stores
          (rest_counted (rest_stays_again c.args.main.now.seat c.step_to-next.new.main.seat
          c.boxed_word-word.new.main.seat
          (subst (λ (main : Mutator). RestStays main.seat c.step_to-next.new.main.seat) c.in_ok-at.ensures.reserved
          c.step_to-next.ensures.beside) (rest_stays_again c.step_to-next.new.main.seat c.make_store.new.main.seat
          c.boxed_word-word.new.main.seat c.make_store.ensures.puts.beside c.boxed_word-word.ensures.made.beside))
          c.addresses_fit.ensures.heap_counted) c.boxed_word-word.result.0 c.store.ensures.stored
          c.set_shape.ensures.put;
      surely =
          let needs : StoreNeeds c.args.main.now c.step_to-next.new.main c.args.object c.args.header
          c.args.new.field.name c.args.new.value c.args.store c.grown-capacity.result c.in_ok-at.at
          c.step_to-next.result = record {
            capacity_is = c.grown-capacity.ensures;
            full = omega (arith, c.grown-capacity.ensures);
            can = c.requires.can;
            behind = c.requires.behind;
            has_room = search rules;
            at_is = c.in_ok-at.ensures.at (omega arith);
            path = search rules;
          } in
          let named = touched_one Touch.Stored (c.args.object + store_slot) in
          let all_of = λ (one : SlotContent) (slots from : ℕ). touched_then (touched_then
          (touched_then (store_touch slots from) named) (content_touch one (from + (store_head + slots))))
          (touched_one Touch.Stored (from + (store_head + c.args.store.capacity))) in
          subst (λ one. StoresSurely new (all_of one (grown c.args.store.capacity) (next_at c.args.main.now)))
          (c.content_of-content.ensures ∙ ap (λ rep. content_of false rep c.args.new.value) c.requires.new.rep)
          (subst (λ from. StoresSurely new (all_of c.content_of-content.result (grown c.args.store.capacity) from))
          needs.at_is
          (subst (λ slots. StoresSurely new (all_of c.content_of-content.result slots c.in_ok-at.at))
          c.grown-capacity.ensures
          (new_store_surely needs c.make_store.ensures.puts c.make_store.ensures.touches c.make_store.ensures.stores
          (c.content_of-content.ensures ∙ ap (λ rep. content_of false rep c.args.new.value) c.requires.new.rep)
          c.boxed_word-word.ensures.made c.boxed_word-word.ensures.touches c.boxed_word-word.ensures.stores
          (rest_counted (rest_stays_again c.args.main.now.seat c.step_to-next.new.main.seat
          c.boxed_word-word.new.main.seat
          (subst (λ (main : Mutator). RestStays main.seat c.step_to-next.new.main.seat) c.in_ok-at.ensures.reserved
          c.step_to-next.ensures.beside) (rest_stays_again c.step_to-next.new.main.seat c.make_store.new.main.seat
          c.boxed_word-word.new.main.seat c.make_store.ensures.puts.beside c.boxed_word-word.ensures.made.beside))
          c.addresses_fit.ensures.heap_counted) c.boxed_word-word.result.0 c.store.ensures.stored
          c.set_shape.ensures.put)));
    }
