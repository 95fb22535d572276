-- Where words of an object's own cells were stored in an open cycle, the mutator is sure of the slots of those that it
-- made black.
use Rattle.std.proofs.Common.{◌≡◌, ◌≢◌, ℕ, ◌+◌, ◌<◌, inl, inr, List, ◌∷◌, Contains, All}
use Rattle.std.proofs.Common.{IfSome, Option, slice_get, slice_index, refl, sym, ◌∙◌, ap, subst, arith}
use Rattle.std.proofs.lemmas.List.Elements.{All-contains, All-contains_itself, Contains-append_left}
use Rattle.std.proofs.lemmas.Option.{slice_get_within}
use Rattle.tagged_word.specs.declared.layout.Kind.TheVariants as kind
use Rattle.tagged_word.specs.declared.layout.Kind.{Kind}
use Rattle.tagged_word.specs.declared.layout.LayoutWord.{LayoutWord}
use Rattle.tagged_word.specs.declared.reading.Reading.{Reading}
use Rattle.tagged_word.specs.Cells.{tagged_offsets, tagged_offsets_of, scavenge_offsets, is_object_kind}
use Rattle.tagged_word.proofs.Cells.{same_offsets, slot_within, tagged_is_scavenged}
use Rattle.tagged_word.proofs.Members.{first_in, in_cases, rest_in}
use Rattle.page_space.specs.Extents.{eden_start}
use Rattle.cell_layout.specs.Cells.{reading_of}
use Rattle.object_graph.specs.Graphs.{Graph}
use Rattle.mark_world.specs.Cycles.{Cycle}
use Rattle.mark_world.specs.Pages.{OfTarget, slots_of, target}
use Rattle.mark_world.specs.BetweenCommands.{HasSureTarget}
use Rattle.mark_world.specs.Coverage.{EachSlot}
use Rattle.mark_world.specs.Soundness.{AreIn}
use Rattle.cycle_state.specs.Cycles.{words_of_pages}
use Rattle.cycle_state.proofs.PageCells.{page_cells_are_read, page_words_are_read}
use Rattle.heap_table.specs.Phases.{Mark}
use Rattle.heap_model.specs.Types.{Cell}
use Rattle.heap_model.specs.Heaps.{Heap, HasCell, words_of_cell}
use Rattle.heap_model.specs.Kinds.{HasWord}
use Rattle.heap_model.specs.Wholeness.{HasRows, IsOwnedKind}
use Rattle.heap_model.specs.Changes.{CellsChange}
use Rattle.heap_model.specs.Remembered.{IsSlotOf, Touch, IsRecordedBy, TouchesBeside, TouchesMade}
use Rattle.heap_model.proofs.BoundHeaps.{none_in}
use Rattle.heap_model.proofs.CellOutcomes.{object_is_no_filler, owned_is_no_filler}
use Rattle.heap_model.proofs.CellsApart.{IsOfCell, cells_apart, first_of_cell, has_is_cell}
use Rattle.heap_model.proofs.CellWords.{words_are_size}
use Rattle.write_barrier.specs.Seats.{heap_words}
use Rattle.write_barrier.specs.MutatorState.{Mutator, heap_of, world_of, MainShows}
use Rattle.write_barrier.specs.Recording.{Touches}
use Rattle.write_barrier.specs.SureStores.{StoresSurely}
use Rattle.write_barrier.specs.Storing.{StoresOn}
use Rattle.write_barrier.proofs.StoresOn.{shown_is_readable, cell_may_change}
use Rattle.write_barrier.proofs.SureStores.{page_word, target_so}
use Rattle.object_cells.specs.CellWrites.{Owns, WritesOwnCells}
use Rattle.object_cells.specs.CycleChanges.{HasSureSlots, KeepsCellsOpen}
use Rattle.object_cells.specs.SureCells.{RemembersSurely}
use Rattle.object_cells.proofs.CellsRead.{word_stands}
use Rattle.object_cells.proofs.OwnerWrites.{writes_own, written_own_keeps_cells}
use Rattle.object_cells.proofs.SlotsNow.{word_at_offset}
use Rattle.object_cells.proofs.TouchedCells.{IsBeside}

-- Each tagged slot of a cell of the old heap had a word with no target, or one that the mutator is sure of now
abbrev pub WereSure : Mutator → Mutator → Cell → Type 0
WereSure old new cell =
    (offset word : ℕ) → Contains (tagged_offsets cell.layout cell.length) offset
    → HasWord (words_of_cell (heap_of old) cell) offset word
    → OfTarget (eden_start old.seat.space) word (Contains new.cycle.sure)

-- a table has no tagged slots
table_has_none : (k : Kind) (layout : LayoutWord) (long offset : ℕ) → k ≡ kind.Table
    → Contains (tagged_offsets_of k layout long) offset → ⊥
table_has_none k layout long offset is there =
    none_in offset (subst (λ (one : Kind). Contains (tagged_offsets_of one layout long) offset) is there)

-- each target of a tagged slot of a cell that the mutator made black is one that it is sure of, as the heap rests
pub settled_before : {old : Mutator} {graph : Graph} {cell : Cell} {words : List ℕ} (sure : List ℕ)
    → MainShows old graph → old.seat.phase ≡ Mark → HasCell (heap_of old) cell words
    → cell.at < eden_start old.seat.space → Contains old.cycle.mine cell.at → AreIn sure old.cycle.sure
    → (offset word : ℕ) → Contains (tagged_offsets cell.layout cell.length) offset → HasWord words offset word
    → OfTarget (eden_start old.seat.space) word (Contains sure)
settled_before {old} {cell = cell} {words} sure shows mark has below mine grows offset word tagged there =
    let settled = (shows.calm mark).rests.settled in
    let each : EachSlot (world_of old) cell.at (λ k. HasSureTarget (world_of old)) =
    All-contains (λ at. EachSlot (world_of old) at (λ k. HasSureTarget (world_of old))) old.cycle.mine cell.at
    settled.sure mine in
    let slots = subst (λ (one : Option Reading). IfSome one (λ read.
    All (λ k. HasSureTarget (world_of old) (slice_index (words_of_pages (heap_of old)) (cell.at + k))) (slots_of read)))
    (page_cells_are_read (heap_of old) cell words has below) each in
    let one = All-contains (λ k. HasSureTarget (world_of old)
    (slice_index (words_of_pages (heap_of old)) (cell.at + k))) (slots_of (reading_of cell)) offset slots tagged in
    let eden : ℕ = eden_start old.seat.space in
    target_so (target eden word) (λ to in_it. All-contains (Contains sure) old.cycle.sure to grows in_it)
    (subst (λ w. OfTarget eden w (Contains old.cycle.sure))
    (page_words_are_read (heap_of old) cell words offset word has below there) one)

-- a cell that went stood where this one came, with as many words of the same kind
record WasCell (gone : List Cell) (came : Cell) : Type 0 where
  was : Cell
  among : Contains gone was
  at : was.at ≡ came.at
  size : was.size ≡ came.size
  of_kind : was.layout.kind ≡ came.layout.kind

-- a slot of a cell is one of its words
slot_of_cell : {heap : Heap} {cell : Cell} {words : List ℕ} {at : ℕ} → HasCell heap cell words → IsSlotOf cell at
    → IsOfCell cell at
slot_of_cell {heap} {cell} has slot =
    let reads = (has_is_cell has).reads in
    let within = slot_within cell.layout cell.length cell.size slot.offset reads.is_layout reads.sized slot.visited in
    record { from = omega (arith, slot.stands); below = omega (arith, slot.stands, within.1) }

module _ {owner owned : Kind} {old new : Mutator} {graph : Graph} {cell came : Cell} {others made : List Cell}
    (owns : Owns owner owned) (shows : MainShows old graph)
    (writes : WritesOwnCells owner owned (heap_of old) (heap_of new) cell came others made)
    (r : RemembersSurely old new (cell ∷ others) (came ∷ others) made) (mark : old.seat.phase ≡ Mark)
    (stays : new.seat.phase ≡ old.seat.phase) where
  -- the cells that went
  abbrev gone : List Cell
  gone = cell ∷ others

  -- rows stand
  rows : HasRows (heap_of old)
  rows = shows.shows.whole.rows

  -- how cells change
  change : CellsChange (heap_of old) (heap_of new) gone (came ∷ others) made
  change = (written_own_keeps_cells owns shows.shows.whole writes).1

  -- the region of pages is the same
  eden_same : eden_start new.seat.space ≡ eden_start old.seat.space
  eden_same = ap eden_start writes.same_space

  -- each cell that came stands where one of those that went stood
  was_of : (one : Cell) → Contains (came ∷ others) one → WasCell gone one
  was_of one there = elim (in_cases came others one there) [
    | inl first ↦
        let own = writes_own owns shows.shows.whole writes in
        record {
          was = cell;
          among = first_in cell others;
          at = sym own.place ∙ ap (λ (c : Cell). c.at) first;
          size = sym own.size ∙ ap (λ (c : Cell). c.size) first;
          of_kind = sym own.same_kind ∙ ap (λ (c : Cell). c.layout.kind) first;
        }
    | inr rest ↦ record { was = one; among = rest_in cell others one rest; at = refl; size = refl; of_kind = refl }
  ]

  -- none of them is a filler
  no_filler : (one : Cell) → Contains gone one → one.layout.kind ≢ kind.Filler
  no_filler one there = elim (in_cases cell others one there) [
    | inl first ↦
        object_is_no_filler one.layout.kind
        (ap (λ (c : Cell). is_object_kind c.layout.kind) (sym first) ∙ ap is_object_kind writes.of_kind ∙ owns.object)
    | inr rest ↦ elim (writes.beside one rest).of_kind [
      | inl of_kind ↦ owned_is_no_filler one.layout.kind (subst IsOwnedKind (sym of_kind) owns.belongs)
      | inr box ↦ owned_is_no_filler one.layout.kind (subst IsOwnedKind (sym box) tt)
    ]
  ]

  -- so no word of theirs is of the run in which cells were made
  beside_run : (one : Cell) (at : ℕ) → Contains gone one → IsOfCell one at → at < eden_start old.seat.space
      → IsBeside r.remembers.cells.from r.remembers.cells.to at
  beside_run one at there of_one below begins ends =
      let filler = r.remembers.cells.of_made.fillers at below begins ends in
      let same : filler.cell ≡ one =
      cells_apart at rows filler.has (change.went one there)
      (subst (IsOfCell filler.cell) filler.stands (first_of_cell filler.has)) of_one in
      no_filler one there (ap (λ (c : Cell). c.layout.kind) (sym same) ∙ filler.filler)

  -- the address of a word of a cell that came is one of the cell before
  of_was : (one : Cell) (offset word at : ℕ) (was : WasCell gone one) → Contains (came ∷ others) one
      → HasWord (words_of_cell (heap_of new) one) offset word → one.at + offset ≡ at → IsOfCell was.was at
  of_was one offset word at was among there is =
      let has = change.comes one (Contains-append_left (came ∷ others) made one among) in
      let below = slice_get_within (words_of_cell (heap_of new) one) offset word there in
      let size = words_are_size has in
      record {
        from = omega (arith, was.at, is);
        below = omega (arith, was.at, was.size, is, below, size);
      }

  -- the mutator is sure of the word of a slot, however it was touched, where it was sure of those of the cell before
  one_sure : (one : Cell) (offset word at : ℕ) (was : WasCell gone one) (among : Contains (came ∷ others) one)
      → Contains (tagged_offsets one.layout one.length) offset
      → HasWord (words_of_cell (heap_of new) one) offset word → one.at + offset ≡ at
      → at < eden_start old.seat.space → WereSure old new was.was → (how : Touch) → r.remembers.touch at ≡ how
      → OfTarget (eden_start new.seat.space) word (Contains new.cycle.sure)
  one_sure one offset word at was among tagged there is below were Touch.Stored touched =
      let has = change.comes one (Contains-append_left (came ∷ others) made one among) in
      let stands = ap (slice_get (heap_words new.seat)) (sym is) ∙ word_stands offset word has there in
      let below_new : at < eden_start new.seat.space = omega (arith, below, eden_same) in
      let bound : at < new.recorded.bound = omega (arith, below, shows.bounded, r.remembers.touches.bound) in
      subst (λ w. OfTarget (eden_start new.seat.space) w (Contains new.cycle.sure))
      (page_word new at word below_new stands)
      (r.surely.sure (stays ∙ mark) at below_new bound touched)
  one_sure one offset word at was among tagged there is below were Touch.Wiped touched =
      let in_was = of_was one offset word at was among there is in
      absurd (r.remembers.cells.beside.wiped at below (beside_run was.was at was.among in_was below) touched
      (record {
        cell = one;
        among = among;
        slot = record {
          offset = offset;
          visited = tagged_is_scavenged one.layout one.length offset tagged;
          stands = is;
        };
      }))
  one_sure one offset word at was among tagged there is below were Touch.Kept touched =
      let has = change.comes one (Contains-append_left (came ∷ others) made one among) in
      let in_was = of_was one offset word at was among there is in
      let slot = (r.remembers.cells.beside.kept at below (beside_run was.was at was.among in_was below) touched).1
      (record {
        cell = one;
        among = among;
        slot = record {
          offset = offset;
          visited = tagged_is_scavenged one.layout one.length offset tagged;
          stands = is;
        };
      }) in
      let same : slot.cell ≡ was.was =
      cells_apart at rows (change.went slot.cell slot.among) (change.went was.was was.among)
      (slot_of_cell (change.went slot.cell slot.among) slot.slot) in_was in
      let visited = slot.slot.visited in
      let begins = ap (λ (c : Cell). c.at) same ∙ was.at in
      let offsets : slot.slot.offset ≡ offset = omega (arith, slot.slot.stands, is, begins) in
      let of_was_slot = subst (λ (c : Cell). Contains (scavenge_offsets c.layout c.length) slot.slot.offset) same
      visited in
      let no_table : was.was.layout.kind ≢ kind.Table = λ table.
      table_has_none one.layout.kind one.layout one.length offset (sym was.of_kind ∙ table) tagged in
      let was_tagged = subst (Contains (tagged_offsets was.was.layout was.was.length)) offsets
      (subst (λ list. Contains list slot.slot.offset) (same_offsets was.was.layout was.was.length no_table)
      of_was_slot) in
      let by = subst (IsRecordedBy old.recorded.bound (heap_words old.seat) (heap_words new.seat)
      old.recorded.slots new.recorded.slots at) touched
      (r.remembers.touches.records.each at (omega (arith, below, shows.bounded))) in
      let word_there : HasWord (words_of_cell (heap_of old) was.was) offset word =
      word_at_offset offset (change.went was.was was.among)
      (omega (arith, in_was.from, in_was.below, is, was.at))
      ∙ ap (λ n. slice_get (heap_words old.seat) (n + offset)) was.at ∙ ap (slice_get (heap_words old.seat)) is
      ∙ sym by.0 ∙ ap (slice_get (heap_words new.seat)) (sym is) ∙ word_stands offset word has there in
      subst (λ bound. OfTarget bound word (Contains new.cycle.sure)) (sym eden_same)
      (were offset word was_tagged word_there)

  -- so it is sure of the slots of each cell that came, if it was of those of the cell before
  pub slots_sure : (one : Cell) → Contains (came ∷ others) one → one.at < eden_start old.seat.space
      → ((was : Cell) → Contains gone was → was.at ≡ one.at → WereSure old new was) → HasSureSlots new one
  slots_sure one among below were offset word tagged there =
      let was = was_of one among in
      let in_was = of_was one offset word (one.at + offset) was among there refl in
      let owned_page = (cell_may_change shows (change.went was.was was.among) (omega (arith, was.at, below)) mark).claims.page in
      one_sure one offset word (one.at + offset) was among tagged there refl
      (omega (arith, in_was.below, owned_page)) (were was.was was.among was.at)
      (r.remembers.touch (one.at + offset)) refl

-- A change of an object's own cells by stores alone leaves an open cycle as it has to be.
pub stores_keep_cells : {owner owned : Kind} {old new : Mutator} {graph : Graph} {cell came : Cell}
    {others made : List Cell} → Owns owner owned → MainShows old graph
    → WritesOwnCells owner owned (heap_of old) (heap_of new) cell came others made
    → RemembersSurely old new (cell ∷ others) (came ∷ others) made → StoresOn old new
    → KeepsCellsOpen old new came others
stores_keep_cells {old = old} {new} owns shows writes r stores mark =
    let mine = ap (λ (one : Cycle). one.mine) stores.cycle in
    record {
      view = (stores.readable mark (shown_is_readable shows mark)).view;
      cycle = stores.cycle
          ∙ ap (λ (list : List ℕ). record old.cycle { mine = list; sure = new.cycle.sure }) (sym mine);
      sure = stores.sure;
      stays = subst (λ (list : List ℕ). AreIn list old.cycle.mine) (sym mine) (All-contains_itself old.cycle.mine);
      mine = λ at there. inl (subst (λ (list : List ℕ). Contains list at) mine there);
      slots = λ one among below in_mine.
          let below_old : one.at < eden_start old.seat.space =
          omega (arith, below, ap eden_start stores.space) in
          slots_sure owns shows writes r mark stores.phase one among below_old (λ was gone at.
          settled_before new.cycle.sure shows mark ((written_own_keeps_cells owns shows.shows.whole writes).1.went was gone)
          (omega (arith, at, below_old))
          (subst (Contains old.cycle.mine) (sym at) (subst (λ (list : List ℕ). Contains list one.at) mine in_mine))
          stores.sure);
    }

-- what is recorded follows a change of cells, where the words were put surely
pub remembers_surely : {old new : Mutator} {gone came made : List Cell} {from to : ℕ} (touch : ℕ → Touch)
    → Touches old new touch → TouchesBeside (eden_start old.seat.space) from to gone came touch
    → TouchesMade (heap_of old) from to made touch → StoresSurely new touch → RemembersSurely old new gone came made
remembers_surely {from = from} {to} touch touches beside of_made surely = record {
  remembers = record {
    touch = touch;
    touches = touches;
    cells = record { from = from; to = to; beside = beside; of_made = of_made };
  };
  surely = surely;
}
