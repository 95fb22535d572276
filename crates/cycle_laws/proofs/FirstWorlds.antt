-- The world in which a cycle begins is fresh.
use Rattle.std.proofs.Common.{◌≡◌, ◌≢◌, ℕ, ◌+◌, ◌*◌, ◌%◌, ◌<◌, ◌≤◌, false, List, length, All, Contains, Option}
use Rattle.std.proofs.Common.{Some, IsSome, IsTrue, slice_index, drop, refl, sym, ◌∙◌, ap, subst, arith}
use Rattle.std.proofs.Common.{length-take, length-drop}
use Rattle.std.proofs.lemmas.List.Elements.{All-nil}
use Rattle.std.proofs.lemmas.Option.{same_Some}
use Rattle.tagged_word.specs.declared.reading.Reading.{Reading}
use Rattle.tagged_word.specs.Cells.{tagged_offsets}
use Rattle.tagged_word.specs.Shapes.{shapes_most}
use Rattle.page_space.specs.Sizes.{page_words}
use Rattle.page_space.specs.Extents.{eden_start, layouts_start}
use Rattle.page_space.specs.RegionLaws.{IsSpace}
use Rattle.page_space.proofs.Starts.{roots_start_is, layouts_start_is, marks_start_is}
use Rattle.cell_layout.specs.Cells.{layouts_in, reading_of}
use Rattle.cell_layout.proofs.OneCell.{slots_lie_within}
use Rattle.object_graph.specs.Graphs.{Graph}
use Rattle.heap_model.specs.Types.{Cell}
use Rattle.heap_model.specs.Heaps.{Heap, HasCell}
use Rattle.heap_model.specs.Wholeness.{HasSizes}
use Rattle.heap_model.specs.Showing.{Shows}
use Rattle.heap_model.proofs.CellsApart.{first_of_cell, has_is_cell}
use Rattle.heap_model.proofs.CellWords.{word_there}
use Rattle.live_cells.specs.Live.{HasSlotTo}
use Rattle.live_cells.proofs.ReachedClosed.{reached_slots_lead_on}
use Rattle.live_cells.proofs.Slots.{marking_slots}
use Rattle.mark_world.specs.declared.world.World.{World}
use Rattle.mark_world.specs.Pages.{OfTarget, cell_at, is_free, is_inside, slots_of, target}
use Rattle.mark_laws.specs.PageWords.{MainSound}
use Rattle.mark_laws.specs.Types.{MainView, Note}
use Rattle.mark_laws.proofs.Joins.{all_from}
use Rattle.mark_laws.proofs.Slots.{some_from}
use Rattle.mark_world.specs.Cycles.{Cycle}
use Rattle.cycle_state.specs.Cycles.{main_of, words_of_pages}
use Rattle.cycle_state.proofs.PageCells.{page_cells_are_read, page_words_are_read}
use Rattle.cycle_laws.specs.Openings.{Opens, FirstWorldsAreFresh}
use Rattle.cycle_laws.specs.Steps.{IsPageWord}
use Rattle.cycle_laws.proofs.KeptTargets.{target_refers}
use Rattle.cycle_laws.proofs.FreeStarts.{outside_other}
use Rattle.cycle_laws.proofs.WhiteWorlds.{white_fresh}

-- there are as many layout words as shapes
pub layouts_count : (heap : Heap) → HasSizes heap → length (layouts_in heap.space heap.words) ≡ shapes_most
unfolding layouts_in
layouts_count heap sized =
    let rest : List ℕ = drop (layouts_start heap.space) heap.words in
    omega (
      arith,
      length-take shapes_most rest,
      length-drop (layouts_start heap.space) heap.words,
      sized.words,
      marks_start_is heap.space,
    )

-- the pages are whole ones
whole_pages : (pages : ℕ) → page_words * pages % page_words ≡ 0
whole_pages pages = omega arith

-- the pages end before the words do
pub pages_before : (heap : Heap) → HasSizes heap → eden_start heap.space ≤ length heap.words
pages_before heap sized =
    omega (
      arith,
      sized.words,
      marks_start_is heap.space,
      layouts_start_is heap.space,
      roots_start_is heap.space,
    )

module _ {heap : Heap} {graph : Graph} {cycle : Cycle} (space : IsSpace heap.space) (shows : Shows heap graph)
    (opens : Opens heap graph cycle) where
  -- what marking reads at an address of a page
  abbrev read_at : ℕ → Option Reading
  read_at start = cell_at (eden_start heap.space) (words_of_pages heap) (layouts_in heap.space heap.words) start

  -- a free start is read
  free_reads : (start : ℕ) → IsTrue (is_free (main_of cycle) start)
      → (cell : Cell) × (words : List ℕ) × HasCell heap cell words × (cell.at ≡ start)
      × (cell.at < eden_start heap.space) × (read_at start ≡ Some (reading_of cell))
  free_reads start free =
      let there = opens.rests.free start free in
      let of_page : there.cell.at < eden_start heap.space =
      subst (λ at. at < eden_start heap.space) (sym there.stands) there.of_page in (
        there.cell,
        there.words,
        there.has,
        there.stands,
        of_page,
        subst (λ at. read_at at ≡ Some (reading_of there.cell)) there.stands
            (page_cells_are_read heap there.cell there.words there.has of_page),
      )

  -- and no other begins in its cell
  free_apart : (start : ℕ) → IsTrue (is_free (main_of cycle) start) → (other : ℕ)
      → IsTrue (is_free (main_of cycle) other) → start ≢ other → is_inside start (read_at start) other ≡ false
  free_apart start free other free_too apart =
      let there = free_reads other free_too in
      let cell : Cell = there.0 in
      let first : IsPageWord heap cell 0 = record {
        words = there.1;
        has = there.2;
        of_page = there.4;
        within = (let of = first_of_cell there.2 in omega (arith, of.below));
      } in
      let here : cell.at + 0 ≡ other = omega (arith, there.3) in
      subst (λ at. is_inside start (read_at start) at ≡ false) here
      (outside_other shows.whole opens.rests first start free (λ is. apart (is ∙ there.3)))

  -- what a slot of a published cell refers to is born
  slot_born : (start : ℕ) → IsTrue (is_free (main_of cycle) start) → Contains cycle.born start → (reading : Reading)
      → read_at start ≡ Some reading → (offset : ℕ) → Contains (slots_of reading) offset → (at : ℕ)
      → target (eden_start heap.space) (slice_index (words_of_pages heap) (start + offset)) ≡ Some at
      → Contains cycle.born at
  slot_born start free counts reading reads offset there at refers =
      let found = free_reads start free in
      let cell : Cell = found.0 in
      let same : reading ≡ reading_of cell = same_Some reading (reading_of cell) (sym reads ∙ found.5) in
      let visited : Contains (tagged_offsets cell.layout cell.length) offset =
      subst (λ (one : Reading). Contains (slots_of one) offset) same there in
      let in_cell = slots_lie_within heap.space heap.words cell offset (has_is_cell found.2)
      (marking_slots cell.layout.kind cell.layout cell.length offset visited) in
      let word = word_there offset found.2 in_cell.within in
      let is : slice_index (words_of_pages heap) (start + offset) ≡ word.0 =
      subst (λ n. slice_index (words_of_pages heap) (n + offset) ≡ word.0) found.3
      (page_words_are_read heap cell found.1 offset word.0 found.2 found.4 word.1) in
      let to = target_refers (eden_start heap.space) (slice_index (words_of_pages heap) (start + offset)) at refers in
      let slot : HasSlotTo heap start at = record {
        cell = cell;
        words = found.1;
        has = found.2;
        stands = found.3;
        offset = offset;
        visited = visited;
        holds = word.1 ∙ ap (λ one. Some one) (sym is ∙ to);
      } in
      (opens.born at).1 (reached_slots_lead_on heap graph start at shows ((opens.born start).0 counts) slot)

  -- so the mutator's view is sound
  pub opened_sound : MainSound (eden_start heap.space) (words_of_pages heap) (layouts_in heap.space heap.words)
      (main_of cycle)
  opened_sound = record {
    pages = whole_pages heap.space.sizes.pages;
    addresses = omega (arith, space.pages);
    within = omega (
      arith,
      pages_before heap shows.whole.sized,
      length-take (eden_start heap.space) heap.words,
    );
    shapes = layouts_count heap shows.whole.sized;
    read = λ start free.
        subst (λ (found : Option Reading). IsSome found) (sym (free_reads start free).5) refl;
    apart = free_apart;
    born = all_from (Contains cycle.starts) cycle.born
        (λ at there. subst (λ list. Contains list at) (sym opens.starts) there);
    mine = subst (λ list. All (Contains cycle.starts) list) (sym opens.mine) (All-nil (Contains cycle.starts));
    mine_born = subst (λ list. All (Contains cycle.born) list) (sym opens.mine) (All-nil (Contains cycle.born));
    mine_old = subst (λ list. All (λ at. at < eden_start heap.space) list) (sym opens.mine)
        (All-nil (λ at. at < eden_start heap.space));
    sure_born = subst (λ list. All (Contains cycle.born) list) (sym opens.sure) (All-nil (Contains cycle.born));
    owed_born = All-nil (Contains cycle.born);
    slots = λ start free counts.
        some_from (λ (reading : Reading). All (λ offset. OfTarget (eden_start heap.space)
        (slice_index (words_of_pages heap) (start + offset)) (Contains cycle.born)) (slots_of reading)) (read_at start)
        (λ reading reads. all_from (λ offset. OfTarget (eden_start heap.space)
        (slice_index (words_of_pages heap) (start + offset)) (Contains cycle.born)) (slots_of reading)
        (λ offset there. some_from (Contains cycle.born)
        (target (eden_start heap.space) (slice_index (words_of_pages heap) (start + offset)))
        (slot_born start free counts reading reads offset there)));
  }

-- grey cells and the log tell it nothing
any_grey_and_log : {old : ℕ} {words layouts : List ℕ} {main : MainView} (grey : List ℕ) (log : List Note)
    → MainSound old words layouts main → MainSound old words layouts (record main { grey = grey; log = log })
any_grey_and_log grey log sound = record {
  pages = sound.pages;
  addresses = sound.addresses;
  within = sound.within;
  shapes = sound.shapes;
  read = sound.read;
  apart = sound.apart;
  born = sound.born;
  mine = sound.mine;
  mine_born = sound.mine_born;
  mine_old = sound.mine_old;
  sure_born = sound.sure_born;
  owed_born = sound.owed_born;
  slots = sound.slots;
}

-- so the world is fresh
pub first_worlds_are_fresh : FirstWorldsAreFresh
first_worlds_are_fresh heap graph cycle world space shows opens first =
    let is = first.of.is in
    white_fresh (record {
      sound = subst (λ (one : World). MainSound one.old one.words one.layouts one.main) (sym is)
          (any_grey_and_log world.main.grey world.main.log (opened_sound space shows opens));
      count = first.count ∙ sym (ap (λ (one : World). one.old) is);
      colours = first.colours;
      board = first.board;
      none_out = first.none_out;
      empty = first.empty;
      mine = ap (λ (one : World). one.main.mine) is ∙ opens.mine;
      sure = ap (λ (one : World). one.main.sure) is ∙ opens.sure;
      owed = ap (λ (one : World). one.main.owed) is;
      grey = first.grey;
      log = first.log;
    })
