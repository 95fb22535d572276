-- A trim of a list leaves an open cycle of marking as commands do.
use Rattle.std.proofs.Common.{◌≡◌, ℕ, ◌+◌, ◌<◌, inl, inr, List, [], ◌∷◌, Contains, All, Option}
use Rattle.std.proofs.Common.{IfSome, IsTrue, slice_get, slice_index, sym, ◌∙◌, ap, subst, arith}
use Rattle.std.proofs.lemmas.List.Elements.{All-contains}
use Rattle.tagged_word.specs.declared.layout.Kind.TheVariants as kind
use Rattle.tagged_word.specs.Cells.{store_slot, tagged_offsets, tagged_offsets_of}
use Rattle.tagged_word.proofs.Members.{rest_in, one_in}
use Rattle.page_space.specs.Extents.{eden_start}
use Rattle.cell_layout.specs.Cells.{reading_of}
use Rattle.object_graph.specs.Graphs.{Graph}
use Rattle.object_graph.specs.Reach.{is_marked, reach}
use Rattle.heap_model.specs.Types.{Kind, Value, Cell}
use Rattle.heap_model.specs.Heaps.{words_of_cell}
use Rattle.heap_model.specs.Kinds.{HasWord}
use Rattle.mark_laws.specs.Types.{Reading}
use Rattle.mark_world.specs.Pages.{OfTarget, slots_of}
use Rattle.cycle_state.specs.Cycles.{words_of_pages}
use Rattle.cycle_state.proofs.PageCells.{page_cells_are_read, page_words_are_read}
use Rattle.heap_table.specs.Phases.{Mark}
use Rattle.write_barrier.specs.MutatorState.{Mutator, heap_of, MainShows}
use Rattle.object_cells.specs.CycleChanges.{BlackAreSure, HasSureSlots, KeepsCycle, KeepsOpenCycle}
use Rattle.array_trim.specs.TrimSteps.{PublishesStore, BlackensStore}
use Rattle.array_trim.proofs.TrimmedCells.{Trimming}
use Rattle.array_trim.proofs.KeptLists.{trim_joins, trim_lists}
use Rattle.array_trim.proofs.KeptTargets.{trim_refers}
use Rattle.array_trim.proofs.TrimmedPieces.{which, free_no_slot, first_piece, slot_word_was, lists_apart, came_apart}
use Rattle.array_trim.proofs.StoreMarks.{MarksStore, began, eden_same, rests, shifted_marks, truncated_marks}

-- The steps of a trim: the store is made black, and one that begins in it published, if that begins later.
pub data TrimMarks (old new : Mutator) (list store start : ℕ) : Type 0 where
  shifted : store < start → PublishesStore old new list store start → TrimMarks old new list store start
  truncated : start ≡ store → BlackensStore old new store → TrimMarks old new list store start

module _ (old new : Mutator) {graph : Graph} {cell store came : Cell} {pieces : List Cell} {before after : List Value}
    {from : ℕ} (shows : MainShows old graph)
    (trim : Trimming (heap_of old) (heap_of new) cell store came pieces before after from)
    (mark : old.seat.phase ≡ Mark) where
  module _ (marks : MarksStore old new cell store came) where
    -- a tagged slot of the store had a word of whose target the mutator is sure
    was_sure : store.at < eden_start old.seat.space → (offset word : ℕ)
        → Contains (tagged_offsets store.layout store.length) offset
        → HasWord (words_of_cell (heap_of old) store) offset word
        → OfTarget (eden_start old.seat.space) word (Contains new.cycle.sure)
    was_sure page offset word tagged there =
        let P : ℕ → Type 0 = λ w. OfTarget (eden_start old.seat.space) w (Contains new.cycle.sure) in
        let words : List ℕ = words_of_pages (heap_of old) in
        let slots = subst (λ (one : Option Reading). IfSome one (λ read.
        All (λ k. P (slice_index words (store.at + k))) (slots_of read)))
        (page_cells_are_read (heap_of old) store (words_of_cell (heap_of old) store) trim.refers.has page)
        (marks.slots page) in
        subst P
        (page_words_are_read (heap_of old) store (words_of_cell (heap_of old) store) offset word trim.refers.has page
        there)
        (All-contains (λ k. P (slice_index words (store.at + k))) (slots_of (reading_of store)) offset slots tagged)

    -- the store is one of a page where what came of it is
    store_page : came.at < eden_start new.seat.space → store.at < eden_start old.seat.space
    store_page page = omega (arith, page, began old new shows trim mark, eden_same old new shows trim mark)

    -- the list's cell was black where it is
    list_was_black : Contains new.cycle.mine cell.at → Contains old.cycle.mine cell.at
    list_was_black there = elim (marks.lists.mine_from cell.at there) [
      | inl was ↦ was
      | inr (inl same, page) ↦ absurd (lists_apart trim (sym same))
      | inr (inr same, page) ↦ absurd (came_apart trim (sym same))
    ]

    -- so it is sure of the slots of what came, where that is black
    slots_sure : BlackAreSure new (cell ∷ pieces)
    slots_sure one there page mine = elim (which trim one there) [
      | inr (inr free) ↦ λ offset word tagged holds. absurd (free_no_slot free tagged)
      | inr (inl same) ↦ subst (HasSureSlots new) same (λ offset word tagged holds.
          let was = slot_word_was trim offset word tagged holds in
          let came_page : came.at < eden_start new.seat.space =
          subst (λ (c : Cell). c.at < eden_start new.seat.space) (sym same) page in
          subst (λ n. OfTarget n word (Contains new.cycle.sure)) (sym (eden_same old new shows trim mark))
          (was_sure (store_page came_page) was.offset word was.tagged was.holds))
      | inl same ↦ subst (HasSureSlots new) same (λ offset word tagged holds.
          let offsets : Contains (tagged_offsets_of kind.List cell.layout cell.length) offset =
          subst (λ (k : Kind). Contains (tagged_offsets_of k cell.layout cell.length) offset) trim.shown.of_kind tagged
          in
          let is : store_slot ≡ offset = one_in store_slot offset offsets in
          let list_page : cell.at < eden_start old.seat.space =
          omega (
            arith,
            subst (λ (c : Cell). c.at < eden_start new.seat.space) (sym same) page,
            eden_same old new shows trim mark,
          ) in
          let list_mine = subst (λ (c : Cell). Contains new.cycle.mine c.at) (sym same) mine in
          subst (λ n. OfTarget n word (Contains new.cycle.sure)) (sym (eden_same old new shows trim mark))
          (marks.linked list_page (list_was_black list_mine) word
          (ap (slice_get (words_of_cell (heap_of new) cell)) is ∙ holds)))
    ]

    -- so an open cycle is kept
    trim_keeps_cycle : (graph_now : Graph) → IsTrue (is_marked (reach graph_now) cell.header.object)
        → KeepsCycle old new graph_now (cell ∷ store ∷ []) (cell ∷ pieces) []
    trim_keeps_cycle graph_now reached = record {
      view = marks.readable.view;
      sure = marks.sure;
      black = λ at there. elim (marks.lists.mine_from at there) [
        | inl was ↦ inl was
        | inr (inl same, page) ↦
            let piece = first_piece trim pieces trim.row in
            inr (piece.0, rest_in cell pieces piece.0 piece.1, piece.2 ∙ sym same)
        | inr (inr same, page) ↦ inr (came, rest_in cell pieces came trim.among, sym same)
      ];
      slots = slots_sure;
      joins = trim_joins trim (rests old new shows trim mark).rests marks.lists;
      lists = trim_lists trim (rests old new shows trim mark).rests marks.lists;
      refers = trim_refers trim graph_now reached;
    }

-- so it is where the steps were those of a trim
marks_of : {old new : Mutator} {graph : Graph} {cell store came : Cell} {pieces : List Cell}
    {before after : List Value} {from : ℕ} → MainShows old graph
    → Trimming (heap_of old) (heap_of new) cell store came pieces before after from → old.seat.phase ≡ Mark
    → TrimMarks old new cell.at store.at came.at → MarksStore old new cell store came
marks_of {old} {new} shows trim mark (TrimMarks.shifted later marks) = shifted_marks old new shows trim mark marks later
marks_of {old} {new} shows trim mark (TrimMarks.truncated same marks) =
    truncated_marks old new shows trim mark marks same

-- the cycle is kept
pub trim_keeps_open_cycle : {old new : Mutator} {graph : Graph} {cell store came : Cell} {pieces : List Cell}
    {before after : List Value} {from : ℕ} (now : Graph) → MainShows old graph
    → Trimming (heap_of old) (heap_of new) cell store came pieces before after from
    → TrimMarks old new cell.at store.at came.at → IsTrue (is_marked (reach now) cell.header.object)
    → KeepsOpenCycle old new now (cell ∷ store ∷ []) (cell ∷ pieces) []
trim_keeps_open_cycle {old} {new} now shows trim marks reached mark =
    trim_keeps_cycle old new shows trim mark (marks_of shows trim mark marks) now reached
