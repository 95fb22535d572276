-- Where an object's cell was made black and words of its own cells were stored then, the cycle is as it has to be.
use Rattle.std.proofs.Common.{◌≡◌, ℕ, ◌+◌, ◌<◌, ◌⊎◌, inl, inr, Some, List, ◌∷◌, Contains, All, IfSome, IsTrue, Option}
use Rattle.std.proofs.Common.{slice_index}
use Rattle.std.proofs.Common.{sym, ◌∙◌, ap, subst, arith}
use Rattle.std.proofs.lemmas.List.Elements.{All-contains}
use Rattle.tagged_word.specs.declared.layout.Kind.{Kind}
use Rattle.tagged_word.specs.declared.reading.Reading.{Reading}
use Rattle.tagged_word.specs.Cells.{tagged_offsets}
use Rattle.tagged_word.proofs.Members.{first_in}
use Rattle.page_space.specs.Extents.{eden_start}
use Rattle.cell_layout.specs.Cells.{reading_of}
use Rattle.object_graph.specs.Graphs.{Graph}
use Rattle.mark_laws.proofs.Joins.{all_from}
use Rattle.mark_laws.proofs.Starts.{free_or_mine}
use Rattle.mark_laws.proofs.Stores.{free_is}
use Rattle.mark_world.specs.Cycles.{Cycle}
use Rattle.mark_world.specs.Pages.{OfTarget, is_free, slots_of, target}
use Rattle.mark_world.specs.Coverage.{cell_of}
use Rattle.mark_world.specs.BetweenCommands.{HasSureTarget}
use Rattle.mark_world.specs.Soundness.{AreIn}
use Rattle.cycle_state.specs.Cycles.{main_of, words_of_pages}
use Rattle.cycle_state.proofs.PageCells.{page_cells_are_read, page_words_are_read}
use Rattle.heap_table.specs.Phases.{Mark}
use Rattle.heap_model.specs.Types.{Cell}
use Rattle.heap_model.specs.Heaps.{HasCell}
use Rattle.heap_model.specs.Kinds.{HasWord}
use Rattle.write_barrier.specs.Marking.{with_blackened}
use Rattle.write_barrier.specs.MutatorState.{Mutator, heap_of, world_of, MainShows}
use Rattle.write_barrier.specs.Storing.{IsReadable}
use Rattle.write_barrier.specs.SureStores.{StoresBlack}
use Rattle.write_barrier.proofs.StoresOn.{shown_is_readable}
use Rattle.write_barrier.proofs.BlackenedOn.{black_readable, black_cycle, black_sure_grows, black_mine_from}
use Rattle.write_barrier.proofs.BlackenedOn.{black_mine_grows}
use Rattle.write_barrier.proofs.BlackenedOn.{black_free_slots_are_sure}
use Rattle.write_barrier.proofs.SureStores.{target_so}
use Rattle.object_cells.specs.CellWrites.{Owns, WritesOwnCells}
use Rattle.object_cells.specs.CycleChanges.{KeepsCellsOpen}
use Rattle.object_cells.specs.SureCells.{RemembersSurely}
use Rattle.object_cells.proofs.OwnerWrites.{writes_own, written_own_keeps_cells}
use Rattle.object_cells.proofs.SureCells.{settled_before, slots_sure}

-- what is in a list is in one that has all of another which has all of the first
in_both : (first next last : List ℕ) → AreIn next first → AreIn last next → AreIn last first
in_both first next last one two =
    all_from (Contains last) first (λ at there.
    All-contains (Contains last) next at two (All-contains (Contains next) first at one there))

module _ {old new : Mutator} {graph : Graph} {at : ℕ} (shows : MainShows old graph) (black : StoresBlack old new at)
    (mark : old.seat.phase ≡ Mark) where
  -- the mutator before the cell is made black
  abbrev mid : Mutator
  mid = black.mid

  -- and once it was
  abbrev dark : Mutator
  dark = with_blackened black.mid at

  -- the cycle is open then
  mark_mid : mid.seat.phase ≡ Mark
  mark_mid = black.before.phase ∙ mark

  -- helpers may read cells
  readable_mid : IsReadable mid
  readable_mid = black.before.readable mark (shown_is_readable shows mark)

  -- also once the cell is black
  readable_dark : IsReadable dark
  readable_dark = black_readable at black.may mark_mid readable_mid

  -- and in the end
  readable_new : IsReadable new
  readable_new = black.after.readable mark_mid readable_dark

  -- the mutator is sure of no fewer cells
  sure_grows : AreIn new.cycle.sure old.cycle.sure
  sure_grows =
      in_both old.cycle.sure dark.cycle.sure new.cycle.sure
      (in_both old.cycle.sure mid.cycle.sure dark.cycle.sure black.before.sure (black_sure_grows mid at))
      black.after.sure

  -- those that it made black are those of then
  mine_dark : new.cycle.mine ≡ dark.cycle.mine
  mine_dark = ap (λ (one : Cycle). one.mine) black.after.cycle

  -- of which it made the others black before
  mine_mid : mid.cycle.mine ≡ old.cycle.mine
  mine_mid = ap (λ (one : Cycle). one.mine) black.before.cycle

  -- and it made no fewer black
  mine_grows : AreIn new.cycle.mine old.cycle.mine
  mine_grows =
      subst (λ (list : List ℕ). AreIn new.cycle.mine list) mine_mid
      (subst (λ (list : List ℕ). AreIn list mid.cycle.mine) (sym mine_dark) (black_mine_grows mid at))

  -- nothing else is known of the cycle
  cycle_is : new.cycle ≡ record old.cycle { mine = new.cycle.mine; sure = new.cycle.sure }
  cycle_is =
      black.after.cycle
      ∙ ap (λ (one : Cycle). record one { sure = new.cycle.sure }) (black_cycle mid at)
      ∙ ap (λ (one : Cycle). record one { mine = dark.cycle.mine; sure = new.cycle.sure }) black.before.cycle
      ∙ ap (λ (list : List ℕ). record old.cycle { mine = list; sure = new.cycle.sure }) (sym mine_dark)

  -- a cell that it made black is one of before, or this one
  mine_from : (one : ℕ) → Contains new.cycle.mine one
      → Contains old.cycle.mine one ⊎ ((one ≡ at) × (at < eden_start old.seat.space))
  mine_from one there =
      elim (black_mine_from at one readable_mid (subst (λ (list : List ℕ). Contains list one) mine_dark there)) [
        | inl was ↦ inl (subst (λ (list : List ℕ). Contains list one) mine_mid was)
        | inr it ↦ inr (it.0, omega (arith, it.1, ap eden_start black.before.space))
      ]

  -- the mutator is sure of the slots of the cell that it made black, where that was a free start
  free_sure : {cell : Cell} {words : List ℕ} → HasCell (heap_of old) cell words → cell.at ≡ at
      → at < eden_start old.seat.space → Contains mid.cycle.born at → IsTrue (is_free (main_of mid.cycle) at)
      → (offset word : ℕ) → Contains (tagged_offsets cell.layout cell.length) offset → HasWord words offset word
      → OfTarget (eden_start old.seat.space) word (Contains new.cycle.sure)
  free_sure {cell} {words} has is below born free offset word tagged there =
      let eden : ℕ = eden_start old.seat.space in
      let same = ap eden_start black.before.space in
      let reads = (black.before.goes mark (shown_is_readable shows mark)).reads at free (reading_of cell)
      (subst (λ n. cell_of (world_of old) n ≡ Some (reading_of cell)) is
      (page_cells_are_read (heap_of old) cell words has (omega (arith, is, below)))) in
      let each = black_free_slots_are_sure at readable_mid mark_mid (omega (arith, below, same)) born
      (free_is (main_of mid.cycle) at free).1 in
      let slots = subst (λ (one : Option Reading). IfSome one (λ read. All (λ k. HasSureTarget (world_of dark)
      (slice_index (words_of_pages (heap_of mid)) (at + k))) (slots_of read))) reads.is each in
      let now : Contains (slots_of reads.cell) offset =
      All-contains (Contains (slots_of reads.cell)) (slots_of (reading_of cell)) offset reads.widens.slots tagged in
      let one = All-contains (λ k. HasSureTarget (world_of dark) (slice_index (words_of_pages (heap_of mid)) (at + k)))
      (slots_of reads.cell) offset slots now in
      let read : slice_index (words_of_pages (heap_of mid)) (at + offset) ≡ word =
      ap (λ all. slice_index all (at + offset)) black.words
      ∙ ap (λ n. slice_index (words_of_pages (heap_of old)) (n + offset)) (sym is)
      ∙ page_words_are_read (heap_of old) cell words offset word has (omega (arith, is, below)) there in
      let of_old = subst (λ bound. OfTarget bound word (Contains dark.cycle.sure)) same
      (subst (λ w. OfTarget (eden_start mid.seat.space) w (Contains dark.cycle.sure)) read one) in
      target_so (target eden word)
      (λ to in_it. All-contains (Contains new.cycle.sure) dark.cycle.sure to black.after.sure in_it) of_old

  -- or whatever it was
  pub black_was_sure : {cell : Cell} {words : List ℕ} → HasCell (heap_of old) cell words → cell.at ≡ at
      → at < eden_start old.seat.space
      → (offset word : ℕ) → Contains (tagged_offsets cell.layout cell.length) offset → HasWord words offset word
      → OfTarget (eden_start old.seat.space) word (Contains new.cycle.sure)
  black_was_sure {cell} {words} has is below =
      let same = ap eden_start black.before.space in
      let born : Contains mid.cycle.born at = (black.may (omega (arith, below, same)) mark_mid).may in
      elim (free_or_mine (world_of mid) at
      (All-contains (Contains mid.cycle.starts) mid.cycle.born at readable_mid.view.born born)) [
        | inl free ↦ free_sure has is below born free
        | inr mine ↦
            settled_before new.cycle.sure shows mark has (omega (arith, is, below))
            (subst (Contains old.cycle.mine) (sym is) (subst (λ (list : List ℕ). Contains list at) mine_mid mine))
            sure_grows
      ]

-- A change of an object's own cells leaves an open cycle as it has to be where the object's cell is made black before
-- words of pages are stored.
pub black_keeps_cells : {owner owned : Kind} {old new : Mutator} {graph : Graph} {cell came : Cell}
    {others made : List Cell} → Owns owner owned → MainShows old graph
    → WritesOwnCells owner owned (heap_of old) (heap_of new) cell came others made
    → RemembersSurely old new (cell ∷ others) (came ∷ others) made → StoresBlack old new cell.at
    → KeepsCellsOpen old new came others
black_keeps_cells {old = old} {new} {cell = cell} {came} {others} owns shows writes r black mark =
    let whole = shows.shows.whole in
    let phase = black.after.phase ∙ black.before.phase in
    let space = black.after.space ∙ black.before.space in
    let change = (written_own_keeps_cells owns whole writes).1 in
    record {
      view = (readable_new shows black mark).view;
      cycle = cycle_is shows black mark;
      sure = sure_grows shows black mark;
      stays = mine_grows shows black mark;
      mine = λ at there. elim (mine_from shows black mark at there) [
        | inl was ↦ inl was
        | inr it ↦
            inr (
              came,
              first_in came others,
              (writes_own owns whole writes).place ∙ sym it.0,
              omega (arith, it.0, it.1, ap eden_start space),
            )
      ];
      slots = λ one among below in_mine.
          let below_old : one.at < eden_start old.seat.space = omega (arith, below, ap eden_start space) in
          slots_sure owns shows writes r mark phase one among below_old (λ was gone at.
          elim (mine_from shows black mark one.at in_mine) [
            | inl before ↦
                settled_before new.cycle.sure shows mark (change.went was gone) (omega (arith, at, below_old))
                (subst (Contains old.cycle.mine) (sym at) before) (sure_grows shows black mark)
            | inr it ↦
                black_was_sure shows black mark (change.went was gone) (at ∙ it.0) it.1
          ]);
    }
