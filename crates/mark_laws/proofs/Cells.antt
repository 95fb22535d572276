-- Each free start reads its cell as before, through each step of the mutator but a store of its own header.
use Rattle.std.proofs.Common.{ℕ, ◌+◌, ◌≤◌, ◌≡◌, ◌≢◌, ◌&&◌, ◌||◌, ◌∙◌, ◌⊎◌, inl, inr}
use Rattle.std.proofs.Common.{Bool, true, false, not, IsTrue, List, min, slice_set, slice_get, Option, Some, refl, sym}
use Rattle.std.proofs.Common.{ap, subst, arith}
use Rattle.std.proofs.lemmas.Bool.Decides.{nat_tests}
use Rattle.mark_laws.specs.Types.{Reading, Event, World}
use Rattle.tagged_word.specs.Layouts.{layout_bits}
use Rattle.tagged_word.specs.Readings.{read_cell}
use Rattle.tagged_word.proofs.Cells.{some_same}
use Rattle.tagged_word.proofs.CellReadings.{cell_from, cell_to}
use Rattle.tagged_word.proofs.Layouts.{kind_number-some}
use Rattle.core_parts.specs.Lists.{is_in}
use Rattle.mark_world.specs.declared.event.Event.TheVariants as event
use Rattle.mark_world.specs.Pages.{EachFree, cell_at, is_free, is_head, is_head_of, is_inside, leaves_alone}
use Rattle.mark_world.specs.Pages.{offset_in, page_end, slots_of}
use Rattle.mark_world.specs.Conditions.{MayMain}
use Rattle.mark_world.specs.AfterEvents.{after_main}
use Rattle.mark_world.specs.Coverage.{cell_of}
use Rattle.mark_world.specs.Soundness.{HasCells}
use Rattle.mark_laws.specs.Cells.{StoresHeader}
use Rattle.mark_laws.proofs.Reading.{slice_get_other, store_keeps}
use Rattle.mark_laws.proofs.Slots.{outside_no_head}
use Rattle.mark_laws.proofs.Stores.{header_outside}

-- what is not inside, or quiet, is no head
quiet_no_head : (inside head slot : Bool) → (not inside || (not head && not slot)) ≡ true → (inside && head) ≡ false
quiet_no_head true true true e = cc
quiet_no_head true true false e = cc
quiet_no_head true false slot e = refl
quiet_no_head false head slot e = refl

-- a store that leaves a cell alone goes to no head of it
pub alone_no_head : (start : ℕ) (cell : Reading) (at : ℕ) → leaves_alone start (Some cell) at ≡ true
    → is_head_of start (Some cell) at ≡ false
alone_no_head start cell at e =
    quiet_no_head (is_inside start (Some cell) at) (is_head cell (offset_in start at))
    (is_in (slots_of cell) (offset_in start at)) e

-- behind the cell's end no word is inside
behind_outside : (start : ℕ) (cell : Reading) (at : ℕ) → start + cell.size ≤ at
    → is_inside start (Some cell) at ≡ false
behind_outside start cell at behind = grind (arith, nat_tests)

-- a layout word that goes where 0 stands leaves each cell
pub layout_keeps : (words layouts : List ℕ) (start bound shape word : ℕ) (cell : Reading)
    → slice_get layouts shape ≡ Some 0
    → read_cell words layouts start bound ≡ Some cell
    → read_cell words (slice_set layouts shape word) start bound ≡ Some cell
layout_keeps words layouts start bound shape word cell unused e =
    let reads = cell_from words layouts start bound cell e in
    let other : cell.header.shape ≢ shape = λ same.
    let bits : 0 ≡ layout_bits cell.layout = some_same unused (sym (ap (slice_get layouts) same) ∙ reads.of_shape) in
    absurd (omega (arith, bits, kind_number-some cell.layout.kind)) in
    cell_to words (slice_set layouts shape word) start bound cell record {
      is_header = reads.is_header;
      first = reads.first;
      known = reads.known;
      is_layout = reads.is_layout;
      of_shape = slice_get_other layouts shape cell.header.shape word other ∙ reads.of_shape;
      second = reads.second;
      sized = reads.sized;
      ends = reads.ends;
      there = reads.there;
    }

-- a word that goes where no helper visits is no head
pub owned_no_head : (world : World) (at start : ℕ) → IsTrue (is_free world.main start) → (cell : Reading)
    → cell_of world start ≡ Some cell
    → (world.old ≤ at) ⊎ EachFree world.main
    (λ s. leaves_alone s (cell_at world.old world.words world.layouts s) at ≡ true)
    → is_head_of start (Some cell) at ≡ false
owned_no_head world at start free cell e (inl young) =
    let ends : start + cell.size ≤ min world.old (page_end start) =
    (cell_from world.words world.layouts start (min world.old (page_end start)) cell e).ends in
    outside_no_head start cell at
    (behind_outside start cell at (omega (arith, ends, young)))
owned_no_head world at start free cell e (inr alone) =
    alone_no_head start cell at (subst (λ (c : Option Reading). leaves_alone start c at ≡ true) e (alone start free))

-- a cell is read as before through a step of the mutator but a store of its header
pub main_cells : (world : World) (of : Event) → HasCells world
    → MayMain world.old world.words world.layouts world.main of
    → (start : ℕ) → (StoresHeader of start → ⊥) → IsTrue (is_free world.main start) → (cell : Reading)
    → cell_of world start ≡ Some cell → cell_of (after_main world of) start ≡ Some cell
main_cells world (event.StoreSlot at word) cells may start other free cell e =
    store_keeps world.words world.layouts start (min world.old (page_end start)) at word cell e
    (subst (λ (c : Option Reading). is_head_of start c at ≡ false) e (may.no_head start free))
main_cells world (event.StoreOwned at word) cells may start other free cell e =
    store_keeps world.words world.layouts start (min world.old (page_end start)) at word cell e
    (owned_no_head world at start free cell e may.alone)
main_cells world (event.StoreHeader at word) cells may start other free cell e =
    store_keeps world.words world.layouts start (min world.old (page_end start)) at word cell e
    (outside_no_head start cell at
    (header_outside world at word start cell cells may free e (λ same. other (sym same))))
main_cells world (event.AddLayout shape word) cells may start other free cell e =
    layout_keeps world.words world.layouts start (min world.old (page_end start)) shape word cell may.unused e
main_cells world _ cells may start other free cell e = e
