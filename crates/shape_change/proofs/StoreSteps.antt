-- The steps by which a field comes to a slot of the property store that an object has, while a cycle is open.
use Rattle.shape_change.proofs.SureTouches.{content_never, content_surely, range_never, surely_headed, then_never}
use Rattle.std.proofs.Common.{◌≡◌, ℕ, ◌+◌, ◌<◌, length, refl, sym, ◌∙◌, ap, subst, arith, length-set}
use Rattle.tagged_word.specs.Cells.{store_head}
use Rattle.page_space.specs.Extents.{Space, layouts_start, marks_start}
use Rattle.page_space.proofs.Starts.{layouts_start_is, marks_start_is}
use Rattle.mark_world.specs.declared.event.Event.TheVariants as event
use Rattle.nursery.specs.Young.{HasRoom}
use Rattle.heap_model.specs.Types.{Header, Held}
use Rattle.heap_model.specs.Remembered.{Touch}
use Rattle.write_barrier.specs.Marking.{MayPut, MayPutHeader}
use Rattle.write_barrier.specs.MutatorState.{Mutator, heap_of, reserved, with_slot, with_word}
use Rattle.write_barrier.specs.Recording.{Touches, touched_one, touched_then}
use Rattle.write_barrier.specs.Seats.{heap_words}
use Rattle.write_barrier.specs.Storing.{MayHold, StoresOn}
use Rattle.write_barrier.specs.SureStores.{StoresSurely}
use Rattle.write_barrier.proofs.SlotStores.{header_stores_on, reserved_stores_on}
use Rattle.write_barrier.proofs.StoresOn.{stores_on_again}
use Rattle.write_barrier.proofs.SureStores.{surely_then}
use Rattle.write_barrier.proofs.TouchedRanges.{touched_other}
use Rattle.object_cells.specs.declared.content.SlotContent.{SlotContent}
use Rattle.object_cells.specs.declared.stores.Store.{Store}
use Rattle.object_cells.specs.Contents.{held_rep, next_at}
use Rattle.object_cells.specs.Made.{IsStoreAt, PutsWords, content_need, content_touch, content_word, store_content}
use Rattle.object_cells.specs.Made.{with_content}
use Rattle.object_cells.proofs.FittingCells.{content_kept}
use Rattle.object_cells.proofs.MadeBoxes.{length-with_content}
use Rattle.object_cells.proofs.TouchedCells.{then_next}
use Rattle.object_cells.proofs.TouchedWords.{then_stored}
use Rattle.object_cells.proofs.UnusedWords.{marks_fit, run_before_layouts}
use Rattle.shape_change.specs.Additions.{AddsPath, CanAdd, ComesBehind, added_path}
use Rattle.shape_change.specs.Deletions.{shaped_bits}
use Rattle.shape_change.proofs.MayMove.{beside_slot_may, beside_slot_on, slot_put_surely, store_stays}
use Rattle.shape_change.proofs.SlotTouches.{slot_put}
use Rattle.shape_change.proofs.StoreFieldOn.{field_may_head, next_stays_young, object_below}
use Rattle.shape_change.proofs.StoreFieldOn.{object_beside}
use Rattle.shape_change.proofs.StoreFieldOn.{put_word_holds, store_apart, store_below, store_may}

-- A path was added once words were reserved, and a box was made that the field needs.
pub record BoxMade (old mid boxed : Mutator) (object : ℕ) (header : Header) (name : ℕ) (value : Held) (store : Store)
    (number at next : ℕ) (holds : SlotContent) (word : ℕ) : Type 0 where
  pub can : CanAdd old object header name value
  pub is : IsStoreAt (heap_of old) object store
  pub behind : ComesBehind old.paths header.shape
  pub room : number < store.capacity
  pub holds_is : holds ≡ store_content value
  pub has_room : HasRoom old.young (content_need (store_content value))
  pub at_is : 0 < content_need holds → at ≡ next_at old
  pub path : AddsPath (reserved old (content_need (store_content value))) mid
      (added_path old.paths header.shape name value) next
  pub made : PutsWords mid boxed (with_content (heap_words mid.seat) holds at)
  pub touches : Touches mid boxed (content_touch holds at)
  pub on : StoresOn mid boxed
  pub word_is : word ≡ content_word holds at

module _ {old mid boxed : Mutator} {object : ℕ} {header : Header} {name : ℕ} {value : Held} {store : Store}
    {number at next : ℕ} {holds : SlotContent} {word : ℕ}
    (s : BoxMade old mid boxed object header name value store number at next holds word) where
  -- words were stored up to then
  boxed_on : StoresOn old boxed
  boxed_on =
      stores_on_again (stores_on_again (reserved_stores_on old (content_need (store_content value))) s.path.stores) s.on

  -- the regions are the same
  space_is : boxed.seat.space ≡ old.seat.space
  space_is = boxed_on.space

  -- where the slot stands
  abbrev place : ℕ
  place = store.at + (store_head + number)

  -- before the layout words
  place_laid : place < layouts_start boxed.seat.space
  place_laid =
      omega (
        arith,
        store_below number s.can.shown.shows s.can.there s.is s.room,
        ap (λ (sp : Space). layouts_start sp) space_is,
      )

  -- and before the marks
  place_below : place < marks_start boxed.seat.space
  place_below =
      omega (arith, place_laid, layouts_start_is boxed.seat.space, marks_start_is boxed.seat.space)

  -- there are as many words as addresses
  counted : length (heap_words boxed.seat) ≡ marks_start boxed.seat.space
  counted =
      ap length s.made.heap ∙ length-with_content (heap_words mid.seat) holds at
      ∙ s.path.sized.words ∙ ap (λ (sp : Space). marks_start sp) (sym s.made.beside.space)

  -- the word may be held
  word_may : MayHold boxed word
  word_may =
      put_word_holds (held_rep value) at s.can boxed_on s.holds_is s.word_is (λ v is_box.
      let need : 0 < content_need holds = omega (arith, ap content_need is_box) in
      let sp = old.seat.space in
      let before = run_before_layouts old (content_need (store_content value)) at sp s.can.tied s.has_room
      (s.at_is need)
      refl in (
        omega (arith, before, marks_fit sp s.can.sizes, layouts_start_is sp, marks_start_is sp),
        next_stays_young s.can.shown.shows boxed_on (s.at_is need),
      ))

  -- so it may be put in the slot
  pub slot_may : MayPut boxed place (event.StoreSlot place word)
  slot_may =
      beside_slot_may number word
      (store_stays boxed_on (store_may s.can.shown.shows s.can.there s.is (omega (arith, s.room)))) s.room word_may

  module _ {put : Mutator} (stored : put ≡ with_slot boxed place word) where
    -- it is stored there
    slot_on : StoresOn boxed put
    slot_on =
        beside_slot_on number word stored
        (store_stays boxed_on (store_may s.can.shown.shows s.can.there s.is (omega (arith, s.room)))) s.room word_may
        place_laid

    -- what was touched
    put_touches : Touches mid put (touched_then (content_touch holds at) (touched_one Touch.Stored place))
    put_touches = then_stored place word s.touches stored counted place_below

    -- the header was not
    header_kept : touched_then (content_touch holds at) (touched_one Touch.Stored place) object ≡ Touch.Kept
    header_kept =
        then_next (content_touch holds at) (touched_one Touch.Stored place) object
        (content_kept holds at (at + content_need holds) at object (omega arith) (omega arith) (λ low high.
        object_beside (content_need (store_content value)) s.can.tied s.can.whole s.has_room s.can.there
        (omega (arith, low, s.at_is (omega (arith, low, high))))
        (omega (arith, high, s.at_is (omega (arith, low, high)), ap content_need s.holds_is))))
        ∙ touched_other Touch.Stored place object (store_apart number s.can.shown.shows s.can.there s.is s.room)

    -- so it may be put
    pub head_may : MayPutHeader put object (shaped_bits header next)
    head_may =
        field_may_head (content_need (store_content value)) s.can refl s.path (stores_on_again boxed_on slot_on)
        (ap (λ (main : Mutator). main.paths) stored ∙ s.made.paths)
        (ap (λ (main : Mutator). length (heap_words main.seat)) stored ∙ length-set (heap_words boxed.seat) place word
        ∙ counted ∙ sym (ap (λ (main : Mutator). marks_start main.seat.space) stored))
        put_touches header_kept s.behind

    module _ {new : Mutator} (headed : new ≡ with_word put object (shaped_bits header next)) where
      -- all words are stored then
      pub field_on : StoresOn old new
      field_on =
          let below : object < layouts_start put.seat.space =
          omega (
            arith,
            object_below old s.can.whole s.can.there,
            ap (λ (sp : Space). layouts_start sp)
                (slot_on.space ∙ space_is),
          ) in
          stores_on_again (stores_on_again boxed_on slot_on)
          (subst (StoresOn put) (sym headed) (header_stores_on object (shaped_bits header next) below head_may))

      -- and surely
      pub field_surely : StoresSurely new (touched_then (content_touch holds at) (touched_one Touch.Stored place))
      field_surely =
          surely_headed object (shaped_bits header next) headed
          (then_never (content_touch holds at) (touched_one Touch.Stored place) object (content_never holds at object)
          (range_never Touch.Stored place (place + 1) object (λ low high.
          store_apart number s.can.shown.shows s.can.there s.is s.room (omega (arith, low, high)))))
          (surely_then (content_surely boxed holds at) (slot_put place word stored counted place_below) slot_on
          (slot_put_surely boxed place word stored counted place_laid))
