-- The words of an object that a command may change where a cycle of marking is open.
use Rattle.std.proofs.Common.{◌≡◌, ℕ, ◌+◌, ◌<◌, ◌≤◌, ◌==◌, ◌&&◌, ◌||◌, not, Bool, true, false, IsTrue, List, Contains, Some}
use Rattle.std.proofs.Common.{refl, sym, ◌∙◌, ap, subst, arith}
use Rattle.std.proofs.lemmas.Bool.Decides.{nat_tests}
use Rattle.std.proofs.lemmas.Option.{same_Some}
use Rattle.core_parts.specs.Lists.{is_in}
use Rattle.core_parts.proofs.Joining.{not_found}
use Rattle.tagged_word.specs.declared.layout.Kind.TheVariants as kind
use Rattle.tagged_word.specs.Cells.{has_length, length_offset, plain_head, store_head, tagged_offsets, tagged_offsets_of}
use Rattle.page_space.specs.Extents.{eden_start}
use Rattle.mark_world.specs.declared.event.Event.TheVariants as event
use Rattle.mark_world.specs.Pages.{is_free, is_quiet, slots_of}
use Rattle.mark_world.specs.Coverage.{cell_of}
use Rattle.mark_laws.specs.Types.{Reading}
use Rattle.cell_layout.specs.Cells.{reading_of}
use Rattle.cycle_state.specs.Claims.{is_head_in}
use Rattle.cycle_state.specs.Cycles.{main_of}
use Rattle.cycle_state.proofs.PageCells.{page_cells_are_read}
use Rattle.heap_model.specs.Types.{Kind, Cell}
use Rattle.heap_model.specs.Heaps.{HasCell}
use Rattle.heap_table.specs.Phases.{Mark}
use Rattle.object_graph.specs.Graphs.{Graph}
use Rattle.write_barrier.specs.Marking.{MayPut}
use Rattle.write_barrier.specs.MutatorState.{Mutator, heap_of, world_of, MainShows}
use Rattle.write_barrier.specs.Storing.{MayChange, MayHold, StoresOn}
use Rattle.write_barrier.proofs.MayPuts.{may_put_slot, may_put_word}
use Rattle.write_barrier.proofs.StoresOn.{cell_may_change, may_change_stays}
use Rattle.object_cells.proofs.NumberedSlots.{IsNumbered}

-- The word at the address stands behind the head of a cell, of which the mutator may change the words.
pub record MayChangeAt (main : Mutator) (at : ℕ) : Type 0 where
  pub start : ℕ
  pub size : ℕ
  pub kind : Kind
  pub offset : ℕ
  pub may : MayChange main start size kind
  pub below : offset < size
  pub no_head : is_head_in kind offset ≡ false
  pub stands : start + offset ≡ at

-- an offset behind the header of a cell with no length is none of its head
no_head_of : (of : Kind) (offset : ℕ) → has_length of ≡ false → 0 < offset → is_head_in of offset ≡ false
no_head_of of offset short behind = grind (arith, nat_tests, short)

-- nor is one of a store's slots of its head
no_head_beside : (k : ℕ) → is_head_in kind.Store (store_head + k) ≡ false
no_head_beside k = grind (arith, nat_tests)

-- so it is with a word of a cell that has no length, but its header
pub own_may_change : {main : Mutator} {graph : Graph} {cell : Cell} {words : List ℕ} (offset : ℕ)
    → MainShows main graph → HasCell (heap_of main) cell words → has_length cell.layout.kind ≡ false → 0 < offset
    → offset < cell.size → MayChangeAt main (cell.at + offset)
own_may_change {cell = cell} offset shows has short behind below = record {
  start = cell.at;
  size = cell.size;
  kind = cell.layout.kind;
  offset = offset;
  may = cell_may_change shows has;
  below = below;
  no_head = no_head_of cell.layout.kind offset short behind;
  stands = refl;
}

-- and with the slot of a number of a plain object or a list
pub numbered_may_change : {main : Mutator} {graph : Graph} {cell : Cell} {words : List ℕ} {slot at : ℕ}
    → MainShows main graph → HasCell (heap_of main) cell words → has_length cell.layout.kind ≡ false
    → IsNumbered (heap_of main) cell words slot at → MayChangeAt main at
numbered_may_change {main} {cell = cell} {slot = slot} shows has short (IsNumbered.own below is of_cell) =
    subst (MayChangeAt main) (sym is)
    (own_may_change (plain_head + slot) shows has short (omega arith) (omega (arith, of_cell.below, is)))
numbered_may_change {main} shows has short
    (IsNumbered.beside store k other others slot refers of_kind counts is of_cell) = record {
      start = other.at;
      size = other.size;
      kind = kind.Store;
      offset = store_head + k;
      may = subst (MayChange main other.at other.size) of_kind (cell_may_change shows refers.has);
      below = omega (arith, of_cell.below, is);
      no_head = no_head_beside k;
      stands = sym is;
    }

-- it stays so where words are stored
pub change_at_stays : {old new : Mutator} {at : ℕ} → StoresOn old new → MayChangeAt old at → MayChangeAt new at
change_at_stays stores change = record {
  start = change.start;
  size = change.size;
  kind = change.kind;
  offset = change.offset;
  may = may_change_stays stores change.may;
  below = change.below;
  no_head = change.no_head;
  stands = change.stands;
}

-- a word that may be held may be stored there
pub slot_may_put : {main : Mutator} {at : ℕ} (word : ℕ) → MayChangeAt main at → MayHold main word
    → MayPut main at (event.StoreSlot at word)
slot_may_put {main} word change hold =
    subst (λ (a : ℕ). MayPut main a (event.StoreSlot a word)) change.stands
    (may_put_slot change.offset word change.may change.below change.no_head hold)

-- an offset that is none of a cell's tagged ones is quiet
pub offset_is_quiet : (cell : Reading) (offset : ℕ) → has_length cell.layout.kind ≡ false → 0 < offset
    → (Contains (slots_of cell) offset → ⊥) → is_quiet cell offset ≡ true
offset_is_quiet cell offset short behind out =
    ap (λ (test : Bool). not test && not (is_in (slots_of cell) offset))
    (no_head_of cell.layout.kind offset short behind)
    ∙ ap not (not_found (slots_of cell) offset out)

-- a word may be stored in a word of a cell that is no tagged slot
pub quiet_may_put : {main : Mutator} {graph : Graph} {cell : Cell} {words : List ℕ} (offset word : ℕ)
    → MainShows main graph → HasCell (heap_of main) cell words → has_length cell.layout.kind ≡ false → 0 < offset
    → offset < cell.size → (Contains (tagged_offsets cell.layout cell.length) offset → ⊥)
    → MayPut main (cell.at + offset) (event.StoreOwned (cell.at + offset) word)
quiet_may_put {main} {cell = cell} {words} offset word shows has short behind below out =
    may_put_word offset word (cell_may_change shows has) below (λ page mark free read is.
    let same : reading_of cell ≡ read =
    same_Some (reading_of cell) read (sym (page_cells_are_read (heap_of main) cell words has page) ∙ is) in
    subst (λ (r : Reading). is_quiet r offset ≡ true) same (offset_is_quiet (reading_of cell) offset short behind out))

-- a box has no tagged slots
none_in_box : (cell : Reading) (offset : ℕ) → Contains (slots_of cell) offset → cell.layout.kind ≡ kind.Boxed → ⊥
none_in_box cell offset among boxed =
    let there = subst (λ (k : Kind). Contains (tagged_offsets_of k cell.layout cell.length) offset) boxed among in
    omega (arith, there.1)

-- and in the integer of a box
pub box_may_put : {main : Mutator} (at word : ℕ) → MayChange main at 2 kind.Boxed
    → MayPut main (at + 1) (event.StoreOwned (at + 1) word)
box_may_put {main} at word may =
    may_put_word 1 word may (omega arith) (λ page mark free read is.
    let own = (may page mark).claims.own free in
    let same : own.cell ≡ read = same_Some own.cell read (sym own.is ∙ is) in
    let boxed : read.layout.kind ≡ kind.Boxed = ap (λ (r : Reading). r.layout.kind) (sym same) ∙ own.kind_is in
    offset_is_quiet read 1 (ap has_length boxed) (omega arith)
    (λ among. none_in_box read 1 among boxed))
