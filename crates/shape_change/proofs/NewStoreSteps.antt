-- The steps by which a field comes to a store that is made for an object, while a cycle is open.
use Rattle.shape_change.proofs.SureTouches.{content_surely, range_never, surely_headed, then_never}
use Rattle.std.specs.Prelude.{nat_lt}
use Rattle.std.proofs.Common.{◌≡◌, ℕ, ◌+◌, ◌^◌, ◌<◌, ◌≤◌, inl, inr, false, Contains, Option, IfSome, length, slice_get}
use Rattle.std.proofs.Common.{refl, sym}
use Rattle.std.proofs.Common.{◌∙◌, ap, subst, arith, length-set}
use Rattle.std.specs.Option.{option_and_then}
use Rattle.std.proofs.lemmas.Bool.{cases_eq, le-ltb}
use Rattle.tagged_word.specs.declared.layout.Kind.TheVariants as kind
use Rattle.tagged_word.specs.Cells.{store_head, store_slot}
use Rattle.tagged_word.specs.Readings.{given}
use Rattle.tagged_word.proofs.Readings.{reference_to}
use Rattle.page_space.specs.Extents.{Space, eden_start, layouts_start, marks_start}
use Rattle.page_space.proofs.Starts.{layouts_start_is, marks_start_is}
use Rattle.mark_world.specs.declared.event.Event.TheVariants as event
use Rattle.mark_world.specs.Pages.{OfTarget, target}
use Rattle.cycle_state.specs.Claims.{is_head_in}
use Rattle.nursery.specs.Young.{HasRoom}
use Rattle.object_graph.proofs.Lists.{slice_get-set_same}
use Rattle.heap_model.specs.Needs.{grown}
use Rattle.heap_model.specs.Types.{Header, Held}
use Rattle.heap_model.specs.Slots.{reference_word}
use Rattle.heap_model.specs.Remembered.{Touch}
use Rattle.write_barrier.specs.Marking.{MayPut, MayPutHeader}
use Rattle.write_barrier.specs.MutatorState.{Mutator, reserved, with_slot, with_word}
use Rattle.write_barrier.specs.Recording.{Touches, touched, touched_one, touched_then}
use Rattle.write_barrier.specs.Seats.{heap_words}
use Rattle.write_barrier.specs.Storing.{IsMadeYoung, IsSureAt, MayChange, StoresOn}
use Rattle.write_barrier.specs.SureStores.{StoresSurely}
use Rattle.write_barrier.proofs.MayPuts.{may_put_slot}
use Rattle.write_barrier.proofs.SlotStores.{header_stores_on, reserved_stores_on, slot_stores_on}
use Rattle.write_barrier.proofs.StoresOn.{cell_may_change, made_young_stays, may_change_stays, stores_on_again}
use Rattle.write_barrier.proofs.SureStores.{page_word, surely_then}
use Rattle.write_barrier.proofs.Recording.{then_touch}
use Rattle.object_cells.specs.declared.content.SlotContent.{SlotContent}
use Rattle.object_cells.specs.declared.stores.Store.{Store}
use Rattle.object_cells.specs.Contents.{next_at}
use Rattle.object_cells.specs.Made.{PutsWords, begun_store, content_need, content_touch, store_content, store_touch}
use Rattle.object_cells.specs.Made.{with_content}
use Rattle.object_cells.specs.Made.{with_store}
use Rattle.object_cells.proofs.CellsRead.{cell_before_layouts}
use Rattle.object_cells.proofs.FittingCells.{content_kept}
use Rattle.object_cells.proofs.HoldableWords.{young_may_hold}
use Rattle.object_cells.proofs.SlotsNow.{plain_cell_size}
use Rattle.object_cells.proofs.TouchedCells.{then_next, touched_cases}
use Rattle.object_cells.proofs.TouchedWords.{then_stored}
use Rattle.object_cells.proofs.UnusedWords.{marks_fit, run_before_layouts}
use Rattle.shape_change.specs.Additions.{AddsPath, CanAdd, ComesBehind, added_path}
use Rattle.shape_change.specs.Deletions.{shaped_bits}
use Rattle.shape_change.proofs.MayMove.{slot_put_surely}
use Rattle.shape_change.proofs.SlotTouches.{slot_put}
use Rattle.shape_change.proofs.StoreFieldOn.{field_may_head, next_stays_young, object_below}
use Rattle.shape_change.proofs.StoreFieldOn.{object_beside, young_behind}

-- a reference to a young cell has no target in a page
young_no_target : (P : ℕ → Type 0) (eden at : ℕ) → at < 2 ^ 32 → eden ≤ at → OfTarget eden (reference_word at) P
young_no_target P eden at fits young =
    let none : target eden (reference_word at) ≡ given (nat_lt at eden) at =
    ap (option_and_then (λ to. given (nat_lt to eden) to)) (reference_to (reference_word at) at fits refl) in
    subst (λ (to : Option ℕ). IfSome to P)
    (sym (none ∙ ap (λ test. given test at) (le-ltb at eden young))) tt

-- what is kept was not stored
kept_no_store : Touch.Kept ≡ Touch.Stored → ⊥
kept_no_store is = cc

-- an address that is none of a range is kept by it
range_kept : (how : Touch) (from to at : ℕ) → (from ≤ at → at < to → ⊥) → touched how from to at ≡ Touch.Kept
range_kept how from to at out = elim (touched_cases how from to at) [
  | inl inside ↦ absurd (out inside.0 inside.1)
  | inr beside ↦ beside.1
]

-- the store's slot is no head of a plain object
store_slot_is_no_head : is_head_in kind.Plain store_slot ≡ false
store_slot_is_no_head = refl

-- A path was added once words were reserved, where a store is to be made for the object.
pub record StoreNeeds (old mid : Mutator) (object : ℕ) (header : Header) (name : ℕ) (value : Held) (store : Store)
    (capacity at next : ℕ) : Type 0 where
  pub capacity_is : capacity ≡ grown store.capacity
  pub full : store.capacity < capacity
  pub can : CanAdd old object header name value
  pub behind : ComesBehind old.paths header.shape
  pub has_room : HasRoom old.young (store_head + grown store.capacity + content_need (store_content value))
  pub at_is : at ≡ next_at old
  pub path : AddsPath (reserved old (store_head + grown store.capacity + content_need (store_content value))) mid
      (added_path old.paths header.shape name value) next

module _ {old mid : Mutator} {object : ℕ} {header : Header} {name : ℕ} {value : Held} {store : Store}
    {capacity at next : ℕ} (n : StoreNeeds old mid object header name value store capacity at next) where
  -- how many words are needed
  abbrev all : ℕ
  all = store_head + grown store.capacity + content_need (store_content value)

  -- words were stored up to then
  mid_on : StoresOn old mid
  mid_on = stores_on_again (reserved_stores_on old all) n.path.stores

  -- what is made is young
  pub store_young : IsMadeYoung mid at
  store_young = next_stays_young n.can.shown.shows mid_on n.at_is

  -- all of it stands before the layout words
  ends : at + all ≤ layouts_start old.seat.space
  ends = run_before_layouts old all at old.seat.space n.can.tied n.has_room n.at_is refl

  -- its address has 32 bits
  at_fits : at < 2 ^ 32
  at_fits =
      let sp = old.seat.space in
      omega (arith, ends, marks_fit sp n.can.sizes, layouts_start_is sp, marks_start_is sp)

  -- the store may be linked
  pub link_may : MayPut mid (object + store_slot) (event.StoreSlot (object + store_slot) (reference_word at))
  link_may =
      let there = n.can.there in
      let change : MayChange old object there.cell.size kind.Plain =
      subst (λ a. MayChange old a there.cell.size kind.Plain) there.stands
      (subst (MayChange old there.cell.at there.cell.size) there.plain (cell_may_change n.can.shown.shows there.has)) in
      may_put_slot store_slot (reference_word at) (may_change_stays mid_on change)
      (omega (arith, plain_cell_size there.has there.plain)) store_slot_is_no_head
      (young_may_hold at at_fits store_young)

  module _ {stored boxed : Mutator} {holds : SlotContent} (puts : PutsWords mid stored
      (with_store (heap_words mid.seat) object store (capacity) at))
      (made_touches : Touches mid stored (touched_then (store_touch (capacity) at)
      (touched_one Touch.Stored (object + store_slot)))) (made_on : StoresOn mid stored)
      (holds_is : holds ≡ store_content value)
      (boxes : PutsWords stored boxed (with_content (heap_words stored.seat) holds
      (at + (store_head + capacity))))
      (box_touches : Touches stored boxed (content_touch holds (at + (store_head + capacity))))
      (box_on : StoresOn stored boxed) where
    -- where the box is made
    abbrev box_at : ℕ
    box_at = at + (store_head + capacity)

    -- where the slot stands
    abbrev place : ℕ
    place = at + (store_head + store.capacity)

    -- words were stored up to then
    boxed_on : StoresOn old boxed
    boxed_on = stores_on_again (stores_on_again mid_on made_on) box_on

    -- the slot is a young one
    slot_young : IsMadeYoung boxed place
    slot_young =
        young_behind boxed at (store_head + store.capacity)
        (made_young_stays (stores_on_again made_on box_on) store_young)

    -- so any word may be put there
    pub new_slot_may : (word : ℕ) → MayPut boxed place (event.StoreSlot place word)
    new_slot_may word below mark = absurd (omega (arith, below, slot_young mark))

    -- before the layout words
    place_laid : place < layouts_start boxed.seat.space
    place_laid = omega (arith, ends, n.full, n.capacity_is, ap (λ (sp : Space). layouts_start sp) boxed_on.space)

    place_below : place < marks_start boxed.seat.space
    place_below = omega (arith, place_laid, layouts_start_is boxed.seat.space, marks_start_is boxed.seat.space)

    module _ (counted : length (heap_words boxed.seat) ≡ marks_start boxed.seat.space)
        {put : Mutator} (word : ℕ) (is : put ≡ with_slot boxed place word) where
      -- it is stored there
      slot_on : StoresOn boxed put
      slot_on = subst (StoresOn boxed) (sym is) (slot_stores_on place word place_laid (new_slot_may word))

      -- what was touched
      abbrev linked : ℕ → Touch
      linked = touched_then (store_touch (capacity) at) (touched_one Touch.Stored (object + store_slot))

      abbrev with_box : ℕ → Touch
      with_box = touched_then linked (content_touch holds box_at)

      put_touches : Touches mid put (touched_then with_box (touched_one Touch.Stored place))
      put_touches = then_stored place word (then_touch made_touches box_touches) is counted place_below

      -- the object's header is none of the run
      out : at ≤ object → object < at + all → ⊥
      out low high =
          object_beside all n.can.tied n.can.whole n.has_room n.can.there (omega (arith, low, n.at_is))
          (omega (arith, high, n.at_is))

      -- so it was kept
      header_kept : touched_then with_box (touched_one Touch.Stored place) object ≡ Touch.Kept
      header_kept =
          then_next with_box (touched_one Touch.Stored place) object
          (then_next linked (content_touch holds box_at) object
          (then_next (store_touch capacity at) (touched_one Touch.Stored (object + store_slot)) object
          (then_next (touched Touch.Wiped at (at + store_head))
          (touched Touch.Stored (at + store_head) (at + (store_head + capacity))) object
          (range_kept Touch.Wiped at (at + store_head) object (λ low high. out low (omega (arith, high))))
          ∙ range_kept Touch.Stored (at + store_head) (at + (store_head + capacity)) object
          (λ low high. out (omega (arith, low)) (omega (arith, high, n.capacity_is))))
          ∙ range_kept Touch.Stored (object + store_slot) (object + store_slot + 1) object
          (λ low high. omega (arith, low)))
          ∙ content_kept holds box_at (box_at + content_need holds) box_at object (omega arith) (omega arith)
          (λ low high. out (omega (arith, low)) (omega (arith, high, n.capacity_is, ap content_need holds_is))))
          ∙ range_kept Touch.Stored place (place + 1) object
          (λ low high. out (omega (arith, low)) (omega (arith, high, n.full, n.capacity_is)))

      -- the header may be put
      pub new_head_may : MayPutHeader put object (shaped_bits header next)
      new_head_may =
          field_may_head all n.can refl n.path (stores_on_again boxed_on slot_on)
          (ap (λ (main : Mutator). main.paths) is ∙ boxes.paths ∙ puts.paths)
          (ap (λ (main : Mutator). length (heap_words main.seat)) is ∙ length-set (heap_words boxed.seat) place word
          ∙ counted ∙ sym (ap (λ (main : Mutator). marks_start main.seat.space) is))
          put_touches header_kept n.behind

      -- the words had the link's address
      begun_counted : object + store_slot < length (begun_store (heap_words mid.seat) store capacity at)
      begun_counted =
          let there = n.can.there in
          omega (
            arith,
            ap length puts.heap,
            length-set (begun_store (heap_words mid.seat) store capacity at) (object + store_slot) (reference_word at),
            puts.beside.count,
            n.path.sized.words,
            ap (λ (sp : Space). marks_start sp) mid_on.space,
            cell_before_layouts n.can.whole there.has,
            plain_cell_size there.has there.plain,
            there.stands,
            layouts_start_is old.seat.space,
            marks_start_is old.seat.space,
          )

      -- the link was put surely: it refers to a young store, and no other word of a page was put
      linked_surely : StoresSurely stored linked
      linked_surely = record {
        sure = λ mark one below bound touch.
            let young : eden_start stored.seat.space ≤ at =
            made_young_stays made_on store_young mark in
            elim (cases_eq one (object + store_slot)) [
              | inl same ↦ subst (IsSureAt stored) (sym same)
                  (subst (λ w. OfTarget (eden_start stored.seat.space) w (Contains stored.cycle.sure))
                  (sym (page_word stored (object + store_slot) (reference_word at) (omega (arith, below, same))
                  (ap (λ words. slice_get words (object + store_slot)) puts.heap
                  ∙ slice_get-set_same (begun_store (heap_words mid.seat) store capacity at) (object + store_slot)
                  (reference_word at) begun_counted)))
                  (young_no_target (Contains stored.cycle.sure) (eden_start stored.seat.space) at at_fits young))
              | inr apart ↦ absurd (then_never (store_touch capacity at)
                  (touched_one Touch.Stored (object + store_slot))
                  one
                  (then_never (touched Touch.Wiped at (at + store_head))
                  (touched Touch.Stored (at + store_head) (at + (store_head + capacity))) one
                  (range_never Touch.Wiped at (at + store_head) one (λ low high. omega (arith, low, below, young)))
                  (range_never Touch.Stored (at + store_head) (at + (store_head + capacity)) one
                  (λ low high. omega (arith, low, below, young))))
                  (range_never Touch.Stored (object + store_slot) (object + store_slot + 1) one
                  (λ low high. apart (omega (arith, low, high)))) touch)
            ];
      }

      module _ {new : Mutator} (headed : new ≡ with_word put object (shaped_bits header next)) where
        -- all words are stored then
        pub new_store_on : StoresOn old new
        new_store_on =
            let below : object < layouts_start put.seat.space =
            omega (
              arith,
              object_below old n.can.whole n.can.there,
              ap (λ (sp : Space). layouts_start sp) (slot_on.space ∙ boxed_on.space),
            ) in
            stores_on_again (stores_on_again boxed_on slot_on)
            (subst (StoresOn put) (sym headed) (header_stores_on object (shaped_bits header next) below new_head_may))

        -- and surely
        pub new_store_surely : StoresSurely new (touched_then with_box (touched_one Touch.Stored place))
        new_store_surely =
            surely_headed object (shaped_bits header next) headed
            (λ is_stored. kept_no_store (sym header_kept ∙ is_stored))
            (surely_then (surely_then linked_surely box_touches box_on (content_surely boxed holds box_at))
            (slot_put place word is counted place_below) slot_on
            (slot_put_surely boxed place word is counted place_laid))
