-- A cell that was made and refers to nothing.
use Rattle.std.proofs.Common.{◌≡◌, ℕ, List, [], ◌∷◌, Contains, IsTrue, sym, subst}
use Rattle.tagged_word.specs.Cells.{store_slot, is_object_kind}
use Rattle.tagged_word.proofs.Members.{one_in}
use Rattle.heap_model.specs.Types.{Cell}
use Rattle.heap_model.specs.Heaps.{Heap, HasCell, words_of_cell}
use Rattle.heap_model.specs.Slots.{reference_word}
use Rattle.heap_model.specs.Kinds.{IsSoundCell}
use Rattle.heap_model.specs.Wholeness.{HasSlotAt, NamesFrom}
use Rattle.heap_model.specs.Laws.{RefersToNothing, MadeCellsAreOwn}
use Rattle.heap_model.proofs.CellsApart.{one_words}
use Rattle.heap_model.proofs.ObjectSlots.{store_slot_in}
use Rattle.heap_model.proofs.BoundHeaps.{none_in}

-- no slot of an object that refers to nothing refers to a cell
no_slot_refers : {heap : Heap} {cell : Cell} {words : List ℕ} {slot word : ℕ} (at : ℕ) → RefersToNothing cell words
    → IsTrue (is_object_kind cell.layout.kind) → HasSlotAt heap cell words slot word → word ≡ reference_word at → ⊥
no_slot_refers at nothing object (HasSlotAt.own offset word there stands) refers =
    nothing offset word at there stands refers
no_slot_refers {cell = cell} at nothing object
    (HasSlotAt.beside store other others offset word slot target there stands) refers =
    let here = store_slot_in cell.layout.kind cell.layout cell.length object in
    nothing store_slot store other.at here slot target.refers

-- so it names nothing
pub names_nothing : {heap : Heap} {cell : Cell} {words : List ℕ} {slot named : ℕ} → HasCell heap cell words
    → RefersToNothing cell words → NamesFrom heap cell slot named → ⊥
names_nothing {heap} {cell} {slot = slot} has nothing names =
    let at = subst (λ all. HasSlotAt heap cell all slot names.word) (one_words names.has has) names.of_owner in
    no_slot_refers names.cell.at nothing names.object at names.refers.refers

-- a cell that was made, is sound and refers to nothing is a change of its own
pub made_cells_are_own : MadeCellsAreOwn
made_cells_are_own old new cell sound nothing change =
    let no_names = λ (owner : Cell) (slot at : ℕ) (there : Contains (cell ∷ []) owner)
    (names : NamesFrom new owner slot at).
    let same : owner ≡ cell = sym (one_in cell owner there) in
    let names_cell = subst (λ (one : Cell). NamesFrom new one slot at) same names in
    let has : HasCell new cell (words_of_cell new cell) =
    subst (λ (one : Cell). HasCell new one (words_of_cell new one)) same (change.comes owner there) in
    names_nothing has nothing names_cell in
    record {
      own = λ one there. absurd (none_in one there);
      objects_stay = λ one there. absurd (none_in one there);
      objects_stood = λ one there. absurd (none_in one there);
      boxes_stay = λ one there. absurd (none_in one there);
      sound = λ one there. subst (λ (c : Cell). IsSoundCell new c (words_of_cell new c)) (one_in cell one there) sound;
      named = λ owner slot at there names. absurd (no_names owner slot at there names);
      once = λ owner another slot other at there there_too names names_too. absurd (no_names owner slot at there names);
    }
