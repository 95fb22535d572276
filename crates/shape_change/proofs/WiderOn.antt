-- A field gets a wider representation where a cycle of marking is open: its object is made black, then the slot is
-- filled, and the header put.
use Rattle.std.proofs.Common.{◌≡◌, ℕ, ◌+◌, ◌<◌, true, Contains, nat_lt, sym, ◌∙◌}
use Rattle.std.proofs.Common.{subst, arith}
use Rattle.std.proofs.lemmas.Bool.Decides.{nat_tests}
use Rattle.tagged_word.specs.Cells.{plain_head}
use Rattle.page_space.specs.Extents.{Space, eden_start, layouts_start}
use Rattle.page_space.specs.Sizes.{AreWithin}
use Rattle.mark_world.specs.declared.event.Event.TheVariants as event
use Rattle.mark_world.specs.Cycles.{Cycle}
use Rattle.object_graph.specs.Graphs.{Graph, PlainObject}
use Rattle.heap_table.specs.Phases.{Mark}
use Rattle.heap_model.specs.Types.{Value}
use Rattle.heap_model.specs.Heaps.{words_of_cell}
use Rattle.heap_model.specs.Slots.{IsPlace}
use Rattle.heap_model.proofs.CellsApart.{first_of_cell}
use Rattle.cycle_state.specs.Cycles.{words_of_pages}
use Rattle.write_barrier.specs.Marking.{MayPut, MayPutHeader, with_blackened}
use Rattle.write_barrier.specs.MutatorState.{Mutator, heap_of, with_word}
use Rattle.write_barrier.specs.Storing.{MayChange, IsReadable, StoresOn}
use Rattle.write_barrier.specs.SureStores.{StoresBlack}
use Rattle.write_barrier.proofs.BlackenedOn.{black_is_mine, may_change_black}
use Rattle.write_barrier.proofs.MayPuts.{may_put_black, may_put_mine, may_put_own_header}
use Rattle.write_barrier.proofs.SlotStores.{header_stores_on}
use Rattle.write_barrier.proofs.StoresOn.{cell_may_change, may_change_stays, readable_stays, shown_is_readable}
use Rattle.write_barrier.proofs.StoresOn.{stores_on_again}
use Rattle.object_cells.specs.declared.content.SlotContent.{SlotContent}
use Rattle.object_cells.specs.declared.content.SlotContent.TheVariants as content
use Rattle.object_cells.specs.declared.content.SlotWrite.{SlotWrite}
use Rattle.object_cells.specs.Contents.{AllocatesBox, IsBeforeLayouts, box_in, filled, filling_at, next_at}
use Rattle.object_cells.proofs.ContentsHeld.{reached_born}
use Rattle.object_cells.proofs.FillsOn.{CanFill, fill_on}
use Rattle.object_cells.proofs.NumberedSlots.{IsNumbered}
use Rattle.heap_model.specs.Needs.{word_at}
use Rattle.shape_change.proofs.FilledFields.{head_below, slot_below}
use Rattle.shape_change.proofs.FillsButRaw.{RawMayPut, but_raw_black, but_raw_stays, can_with_raw, no_raw_box}
use Rattle.shape_change.proofs.Settings.{Setting}
use Rattle.shape_change.proofs.SettingFills.{can_fill, fill_room, raw_is}
use Rattle.shape_change.proofs.SetShown.{FillsAt}

module _ {old : Mutator} {graph : Graph} {object slot : ℕ} {plain : PlainObject} {what : Value} {name : ℕ}
    (s : Setting old graph object slot plain what name) {laid : Mutator} (before : StoresOn old laid) where
  -- the object's cell may be changed once words were stored
  own_may_change : MayChange laid s.cell.at s.cell.size s.cell.layout.kind
  own_may_change = may_change_stays before (cell_may_change s.shows s.has)

  -- helpers may read cells then
  may_be_read : laid.seat.phase ≡ Mark → IsReadable laid
  may_be_read mark = readable_stays before (λ was. shown_is_readable s.shows was) mark

  -- and it may be made black, since the object can be reached
  pub wider_may_blacken : MayPut laid s.cell.at (event.Blacken s.cell.at)
  wider_may_blacken =
      may_put_black own_may_change (λ page mark.
      let place = subst (IsPlace (heap_of old) plain.number) (sym s.stands) s.is.place in
      let born = reached_born plain.number s.cell.at s.shows s.is.reached place (sym before.phase ∙ mark)
      (subst (λ (space : Space). s.cell.at < eden_start space) before.space page) in
      subst (λ (c : Cycle). Contains c.born s.cell.at) (sym before.cycle) born)

  -- the object's cell was made black
  abbrev pub black : Mutator
  black = with_blackened laid s.cell.at

  -- it may be changed as before
  black_may_change : MayChange black s.cell.at s.cell.size s.cell.layout.kind
  black_may_change = may_change_black s.cell.at wider_may_blacken own_may_change

  -- and it is one of those that the mutator made black
  is_mine : s.cell.at < eden_start black.seat.space → black.seat.phase ≡ Mark → Contains black.cycle.mine s.cell.at
  is_mine page mark = black_is_mine s.cell.at (may_be_read mark) page mark

  -- so a raw word may be stored in its slot
  raw_may_put : (at put : ℕ) → IsNumbered (heap_of old) s.cell (words_of_cell (heap_of old) s.cell) slot at
      → nat_lt slot s.cell.layout.cap ≡ true → MayPut black at (event.StoreOwned at put)
  raw_may_put at put (IsNumbered.own below is of_cell) own =
      subst (λ (a : ℕ). MayPut black a (event.StoreOwned a put)) (sym is)
      (may_put_mine (plain_head + slot) put black_may_change (omega (arith, of_cell.below, is)) is_mine)
  raw_may_put at put (IsNumbered.beside store k other others holds refers of_kind counts is of_cell) own =
      let below : slot < s.cell.layout.cap = grind (arith, nat_tests, own) in
      absurd (omega (arith, below, counts))

  module _ (within : AreWithin old.seat.space.sizes old.seat.space.variables) {at word : ℕ} {holds : SlotContent}
      (fills : FillsAt s at word holds) (between : Mutator)
      (allocates : AllocatesBox old between (filling_at old at holds)) where
    -- how the slot is filled
    abbrev pub fill : SlotWrite
    fill = filling_at old at holds

    -- what it comes to hold may be a raw word
    black_raw : (one : SlotContent) → FillsAt s at word one → RawMayPut black at (filling_at old at one)
    black_raw (content.Tagged put) fills_so = tt
    black_raw (content.Raw put) fills_so = raw_may_put at put fills_so.numbered (raw_is put fills_so.comes).0
    black_raw (content.Boxed v) fills_so =
        no_raw_box black v (box_in (heap_of old) (word_at (heap_of old) at)) (next_at old) at

    -- so the slot can be filled
    pub wider_can : CanFill black at fill
    wider_can =
        can_with_raw black at fill (but_raw_black laid s.cell.at at fill wider_may_blacken
        (but_raw_stays old laid at fill before (can_fill s within between holds fills allocates)))
        (black_raw holds fills)

    -- the slot stands before the layout words, and so does its box
    below : at < layouts_start black.seat.space
    below = subst (λ (space : Space). at < layouts_start space) (sym before.space) (slot_below s at fills.numbered)

    box_room : IsBeforeLayouts black.seat.space fill
    box_room =
        subst (λ (space : Space). IsBeforeLayouts space fill) (sym before.space)
        (fill_room s fills between allocates)

    -- words are stored there
    pub filled_on : StoresOn black (filled black at fill)
    filled_on = fill_on at fill wider_can below box_room

    -- then any header may be put
    pub wider_may_head : (head : ℕ) → MayPutHeader (filled black at fill) s.cell.at head
    wider_may_head head =
        may_put_own_header head (may_change_stays filled_on black_may_change)
        (omega (arith, (first_of_cell s.has).below)) (λ page mark.
        let mine = is_mine (subst (λ (space : Space). s.cell.at < eden_start space) filled_on.space page)
        (sym filled_on.phase ∙ mark) in
        subst (λ (c : Cycle). Contains c.mine s.cell.at) (sym filled_on.cycle) mine)

    -- and it is stored
    head_on : (head : ℕ) → StoresOn (filled black at fill) (with_word (filled black at fill) s.cell.at head)
    head_on head =
        header_stores_on s.cell.at head
        (subst (λ (space : Space). s.cell.at < layouts_start space) (sym (filled_on.space ∙ before.space))
        (head_below s))
        (wider_may_head head)

    -- so words were stored once the cell was black
    pub wider_stores : {new : Mutator} (head : ℕ)
        → words_of_pages (heap_of laid) ≡ words_of_pages (heap_of old)
        → new ≡ with_word (filled black at fill) s.cell.at head → StoresBlack old new s.cell.at
    wider_stores head same is = record {
      mid = laid;
      before = before;
      words = same;
      may = wider_may_blacken;
      after = subst (StoresOn black) (sym is) (stores_on_again filled_on (head_on head));
    }
