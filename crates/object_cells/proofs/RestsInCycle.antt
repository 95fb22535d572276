-- The heap rests in an open cycle again where a command has changed cells and kept the cycle.
use Rattle.std.proofs.Common.{◌≡◌, ℕ, ◌<◌, ◌≤◌, inl, inr, List, ◌++◌, Contains, Some}
use Rattle.std.proofs.Common.{refl, sym, ◌∙◌, ap, subst, arith}
use Rattle.std.proofs.lemmas.List.Elements.{All-contains, Contains-append_cases, Contains-append_left}
use Rattle.std.proofs.lemmas.Option.{same_Some}
use Rattle.tagged_word.specs.Cells.{tagged_offsets}
use Rattle.page_space.specs.Extents.{Space, eden_start}
use Rattle.nursery.specs.Young.{Young}
use Rattle.cell_layout.specs.Cells.{reading_of}
use Rattle.object_graph.specs.Graphs.{Graph}
use Rattle.heap_model.specs.Types.{Cell}
use Rattle.heap_model.specs.Heaps.{HasCell, words_of_cell}
use Rattle.heap_model.specs.Kinds.{HasWord}
use Rattle.heap_model.specs.Showing.{Shows}
use Rattle.heap_model.specs.Changes.{CellsChange, IsOwnChange, IsGraphChange, IsFilledIn}
use Rattle.heap_model.proofs.CellsApart.{one_at}
use Rattle.heap_model.proofs.CellWords.{word_there}
use Rattle.heap_table.specs.Phases.{Mark}
use Rattle.mark_world.specs.Pages.{OfTarget, slots_of, target}
use Rattle.mark_world.specs.Soundness.{AreIn}
use Rattle.mark_world.specs.Coverage.{EachSlot, cell_of}
use Rattle.mark_world.specs.BetweenCommands.{HasSureTarget, Settled}
use Rattle.mark_laws.specs.Types.{Reading}
use Rattle.mark_laws.proofs.Joins.{all_from, of_slot, of_target}
use Rattle.mark_laws.proofs.Slots.{each_slot, slot_inside, some_from}
use Rattle.cycle_state.specs.Keeping.{KeepsClosed}
use Rattle.cycle_state.specs.Resting.{IsPageCell}
use Rattle.cycle_state.proofs.PageCells.{page_cells_are_read, page_words_are_read}
use Rattle.cycle_laws.proofs.ChangedCells.{changes_keep_closed}
use Rattle.cycle_laws.specs.RestsAgain.{DidNotGo}
use Rattle.cycle_laws.proofs.RestingAgain.{commands_rest}
use Rattle.write_barrier.specs.MutatorState.{Mutator, heap_of, world_of, MainShows, RestsInCycle}
use Rattle.object_cells.specs.CycleChanges.{KeepsCycle}
use Rattle.object_cells.specs.Uses.{TakesRun}
use Rattle.object_cells.proofs.TakenRuns.{Taking, taking}

-- the word of a tagged slot of a cell of a page
pub record PageSlot (main : Mutator) (cell : Cell) (offset : ℕ) : Type 0 where
  pub word : ℕ
  pub has : HasWord (words_of_cell (heap_of main) cell) offset word
  pub visited : Contains (tagged_offsets cell.layout cell.length) offset

-- what marking reads at a cell of a page has the slots of the cell
pub page_slot : (main : Mutator) {cell : Cell} {words : List ℕ} (read : Reading) (offset : ℕ)
    → HasCell (heap_of main) cell words → cell.at < eden_start main.seat.space
    → cell_of (world_of main) cell.at ≡ Some read → Contains (slots_of read) offset → PageSlot main cell offset
page_slot main {cell} {words} read offset has of_page is there =
    let same : read ≡ reading_of cell =
    same_Some read (reading_of cell) (sym is ∙ page_cells_are_read (heap_of main) cell words has of_page) in
    let inside = slot_inside (world_of main) cell.at read offset is there in
    let within : offset < cell.size = omega (arith, inside.1, ap (λ (one : Reading). one.size) same) in
    let word = word_there offset has within in
    record {
      word = word.0;
      has = subst (λ all. HasWord all offset word.0) (sym has.words_are) word.1;
      visited = subst (λ (one : Reading). Contains (slots_of one) offset) same there;
    }

-- where the mutator is sure of the word of each slot of a cell of a page, it is sure of what marking reads there
pub sure_as_read : (main : Mutator) {cell : Cell} {words : List ℕ} → HasCell (heap_of main) cell words
    → cell.at < eden_start main.seat.space
    → ((offset word : ℕ) → Contains (tagged_offsets cell.layout cell.length) offset
    → HasWord (words_of_cell (heap_of main) cell) offset word
    → OfTarget (eden_start main.seat.space) word (Contains main.cycle.sure))
    → EachSlot (world_of main) cell.at (λ offset. HasSureTarget (world_of main))
sure_as_read main {cell} {words} has of_page each =
    each_slot (world_of main) cell.at (λ offset. HasSureTarget (world_of main)) (λ read is offset there.
    let slot = page_slot main read offset has of_page is there in
    let stands = subst (λ all. HasWord all offset slot.word) has.words_are slot.has in
    subst (λ word. OfTarget (eden_start main.seat.space) word (Contains main.cycle.sure))
    (sym (page_words_are_read (heap_of main) cell words offset slot.word has of_page stands))
    (each offset slot.word slot.visited slot.has))

-- and the other way round
pub sure_from_read : (main : Mutator) {cell : Cell} {words : List ℕ} (offset word : ℕ)
    → HasCell (heap_of main) cell words → cell.at < eden_start main.seat.space
    → EachSlot (world_of main) cell.at (λ offset. HasSureTarget (world_of main))
    → Contains (tagged_offsets cell.layout cell.length) offset → HasWord words offset word
    → OfTarget (eden_start main.seat.space) word (Contains main.cycle.sure)
sure_from_read main {cell} {words} offset word has of_page each visited stands =
    subst (λ one. OfTarget (eden_start main.seat.space) one (Contains main.cycle.sure))
    (page_words_are_read (heap_of main) cell words offset word has of_page stands)
    (of_slot (world_of main) cell.at offset (reading_of cell) (λ offset. HasSureTarget (world_of main))
    (page_cells_are_read (heap_of main) cell words has of_page) visited each)

-- a word with no target or one of a list has none or one of a list that has grown
sure_grows : (old word : ℕ) (list longer : List ℕ) → AreIn longer list → OfTarget old word (Contains list)
    → OfTarget old word (Contains longer)
sure_grows old word list longer grows is =
    some_from (Contains longer) (target old word) (λ at found.
    All-contains (Contains longer) list at grows (of_target old word at (Contains list) found is))

module _ {old new : Mutator} {before after : Graph} {gone came made : List Cell} (shows : MainShows old before)
    (mark : old.seat.phase ≡ Mark) (shown : Shows (heap_of new) after)
    (cells : CellsChange (heap_of old) (heap_of new) gone came made)
    (own : IsOwnChange (heap_of old) (heap_of new) gone came made)
    (graphs : IsGraphChange (heap_of old) (heap_of new) before after gone came made) (takes : TakesRun old new made)
    (keeps : KeepsCycle old new after gone came made) where
  -- it rested before
  abbrev rested : RestsInCycle old before
  rested = shows.calm mark

  -- what is kept is closed
  closed : KeepsClosed (heap_of new) new.cycle
  closed =
      changes_keep_closed (heap_of old) (heap_of new) before after old.cycle new.cycle gone came made shows.shows shown
      cells own graphs rested.counted keeps.joins keeps.refers rested.rests.keeps

  -- a cell of a page that did not go stands as before
  stands_still : {cell : Cell} {words : List ℕ} (at : ℕ) → HasCell (heap_of old) cell words → cell.at ≡ at
      → at < eden_start old.seat.space → DidNotGo gone at → HasCell (heap_of new) cell words
  stands_still {cell} {words} at has stands of_page still =
      cells.kept cell words has (λ went. still cell went stands) (λ (filled : IsFilledIn made cell).
      let young = subst (λ (space : Space). eden_start space ≤ filled.begins.other.at) takes.space
      (keeps.joins.young filled.begins.other filled.begins.among) in
      omega (arith, filled.begins.from, stands, of_page, young))

  -- a cell of a page stands where the mutator made one black
  black_stands : (at : ℕ) → Contains new.cycle.mine at → IsPageCell (heap_of new) at
  black_stands at black = elim (keeps.lists.mine at black) [
    | inr there ↦ there
    | inl was ↦
        let there = All-contains (IsPageCell (heap_of old)) old.cycle.mine at rested.rests.mine was.0 in record {
          cell = there.cell;
          words = there.words;
          has = stands_still at there.has there.stands there.of_page was.1;
          stands = there.stands;
          of_page = subst (λ (space : Space). at < eden_start space) (sym takes.space) there.of_page;
          part = there.part;
        }
  ]

  -- the mutator was sure of the slots of a cell that it had made black, and that stands as it stood
  stood_sure : {cell : Cell} {words : List ℕ} → HasCell (heap_of old) cell words → HasCell (heap_of new) cell words
      → cell.at < eden_start new.seat.space → Contains old.cycle.mine cell.at
      → EachSlot (world_of new) cell.at (λ offset. HasSureTarget (world_of new))
  stood_sure {cell} {words} was is of_page black =
      let settled = rested.rests.settled in
      let each = All-contains (λ at. EachSlot (world_of old) at (λ offset. HasSureTarget (world_of old)))
      old.cycle.mine cell.at settled.sure black in
      let before_eden = subst (λ (space : Space). cell.at < eden_start space) takes.space of_page in
      sure_as_read new is of_page (λ offset word visited stands.
      let here = subst (λ all. HasWord all offset word) is.words_are stands in
      sure_grows (eden_start new.seat.space) word old.cycle.sure new.cycle.sure keeps.sure
      (subst (λ (space : Space). OfTarget (eden_start space) word (Contains old.cycle.sure)) (sym takes.space)
      (sure_from_read old offset word was before_eden each visited here)))

  -- it is sure of those of one that came, which it made black
  came_sure : (cell : Cell) → Contains (came ++ made) cell → cell.at < eden_start new.seat.space
      → Contains new.cycle.mine cell.at → EachSlot (world_of new) cell.at (λ offset. HasSureTarget (world_of new))
  came_sure cell there of_page black = elim (Contains-append_cases came made cell there) [
    | inl comes ↦ sure_as_read new (cells.comes cell there) of_page (keeps.slots cell comes of_page black)
    | inr makes ↦ absurd (omega (arith, keeps.joins.young cell makes, of_page))
  ]

  -- so it is of those of each cell that it made black
  black_sure : (cell : Cell) (words : List ℕ) → HasCell (heap_of new) cell words → cell.at < eden_start new.seat.space
      → Contains new.cycle.mine cell.at → EachSlot (world_of new) cell.at (λ offset. HasSureTarget (world_of new))
  black_sure cell words has of_page black = elim (cells.back cell words has) [
    | inl comes ↦ came_sure cell comes of_page black
    | inr stood ↦ elim (keeps.black cell.at black) [
      | inl was ↦ stood_sure stood.0 has of_page was
      | inr one ↦
          let among = Contains-append_left came made one.0 one.1 in
          let same : one.0 ≡ cell = one_at (cells.comes one.0 among) has one.2 in
          came_sure cell (subst (Contains (came ++ made)) same among) of_page black
    ]
  ]

  -- the mutator's part is done
  settled : Settled (world_of new)
  settled = record {
    owed = refl;
    sure = all_from (λ at. EachSlot (world_of new) at (λ offset. HasSureTarget (world_of new))) new.cycle.mine
        (λ at black.
        let there = black_stands at black in
        subst (λ one. EachSlot (world_of new) one (λ offset. HasSureTarget (world_of new))) there.stands
        (black_sure there.cell there.words there.has (omega (arith, there.of_page, there.stands))
        (subst (Contains new.cycle.mine) (sym there.stands) black)));
  }

  -- no word is granted
  none_granted : new.young.granted.words ≡ 0
  none_granted = elim (taking old.young takes.need takes.room) [
    | Taking.of_eden one ↦
        ap (λ (young : Young). young.granted.words) (takes.young ∙ one.bumps) ∙ rested.granted
    | Taking.of_granted one ↦ absurd (omega (arith, one.some, rested.granted))
  ]

  -- so the heap rests in the cycle
  pub cycle_rests : RestsInCycle new after
  cycle_rests = record {
    view = keeps.view;
    rests = commands_rest (heap_of old) (heap_of new) old.cycle new.cycle gone came made cells keeps.joins keeps.lists
        rested.rests closed settled;
    granted = none_granted;
    counted = omega (arith, keeps.joins.counted, rested.counted, graphs.few);
  }
