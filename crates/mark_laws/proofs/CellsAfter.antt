-- Each free start reads its cell as before through every event, or a wider one of the same size.
use Rattle.std.proofs.Common.{ℕ, ◌≡◌, ◌∙◌, inl, inr, IsTrue, Option, Some, IsSomeAnd, slice_get, refl, sym, subst}
use Rattle.std.proofs.lemmas.List.Elements.{All-contains_itself}
use Rattle.mark_laws.specs.Types.{Reading, Event, Actor, World}
use Rattle.mark_world.specs.declared.event.Event.TheVariants as event
use Rattle.mark_world.specs.Pages.{is_free, slots_of}
use Rattle.mark_world.specs.Steps.{actor}
use Rattle.mark_world.specs.Conditions.{MayMain}
use Rattle.mark_world.specs.AfterEvents.{after, after_main, after_step, Possible, PossibleStep}
use Rattle.mark_world.specs.Coverage.{cell_of}
use Rattle.mark_world.specs.Soundness.{HasCells}
use Rattle.mark_laws.specs.Cells.{StoresHeader, Widens}
use Rattle.mark_laws.proofs.SafeChanges.{header_widens}
use Rattle.mark_laws.proofs.Cells.{main_cells}
use Rattle.mark_laws.proofs.SamePages.{helper_pages, return_pages, same_cells}
use Rattle.mark_laws.proofs.Waiting.{one_or_other}

-- every step leaves each free start's cell, but a store of its header
pub step_cells : (world : World) (of : Event) (by : Actor) → HasCells world → PossibleStep world of by
    → (start : ℕ) → (StoresHeader of start → ⊥) → IsTrue (is_free world.main start) → (cell : Reading)
    → cell_of world start ≡ Some cell → cell_of (after_step world of by) start ≡ Some cell
step_cells world of Actor.Mutator cells may start other free cell e =
    main_cells world of cells may start other free cell e
step_cells world of (Actor.Helper number) cells may start other free cell e =
    same_cells world (after_step world of (Actor.Helper number))
    (helper_pages world number of (slice_get world.helpers number))
    start ∙ e
step_cells world of Actor.Lends cells may start other free cell e = e
step_cells world of (Actor.Returns number) cells may start other free cell e =
    same_cells world (after_step world of (Actor.Returns number))
    (return_pages world number (slice_get world.helpers number))
    start ∙ e

-- every event does
pub cells_stay : (world : World) (of : Event) → HasCells world → Possible world of → (start : ℕ)
    → (StoresHeader of start → ⊥) → IsTrue (is_free world.main start) → (cell : Reading)
    → cell_of world start ≡ Some cell → cell_of (after world of) start ≡ Some cell
cells_stay world of = step_cells world of (actor of)

-- a store of its header leaves a cell of the same size, with at least its tagged slots
pub headers_keep_sizes : (world : World) (start word : ℕ) → Possible world (event.StoreHeader start word)
    → (cell : Reading) → cell_of world start ≡ Some cell
    → IsSomeAnd (cell_of (after world (event.StoreHeader start word)) start) (Widens cell)
headers_keep_sizes world start word may cell e =
    header_widens world start word cell e may.safe

-- a cell has its own size and slots
same_widens : (cell : Reading) → Widens cell cell
same_widens cell = record { size = refl; slots = All-contains_itself (slots_of cell) }

-- a cell that is read as before is no narrower
read_widens : (later : Option Reading) (cell : Reading) → later ≡ Some cell → IsSomeAnd later (Widens cell)
read_widens later cell e = subst (λ (o : Option Reading). IsSomeAnd o (Widens cell)) (sym e) (same_widens cell)

-- a step of the mutator leaves each free start's cell, or widens it
main_widens : (world : World) (of : Event) → HasCells world → MayMain world.old world.words world.layouts world.main of
    → (start : ℕ) → IsTrue (is_free world.main start) → (cell : Reading) → cell_of world start ≡ Some cell
    → IsSomeAnd (cell_of (after_main world of) start) (Widens cell)
main_widens world (event.StoreHeader at word) cells may start free cell e = elim (one_or_other at start) [
  | inl same ↦ subst (λ (s : ℕ). cell_of world s ≡ Some cell
      → IsSomeAnd (cell_of (after_main world (event.StoreHeader at word)) s) (Widens cell)) same
      (headers_keep_sizes world at word may cell) e
  | inr other ↦ read_widens (cell_of (after_main world (event.StoreHeader at word)) start) cell
      (main_cells world (event.StoreHeader at word) cells may start other free cell e)
]
main_widens world of cells may start free cell e =
    read_widens (cell_of (after_main world of) start) cell
    (main_cells world of cells may start (λ stores. absurd stores) free cell e)

-- every step does
pub step_widens : (world : World) (of : Event) (by : Actor) → HasCells world → PossibleStep world of by
    → (start : ℕ) → IsTrue (is_free world.main start) → (cell : Reading) → cell_of world start ≡ Some cell
    → IsSomeAnd (cell_of (after_step world of by) start) (Widens cell)
step_widens world of Actor.Mutator cells may start free cell e = main_widens world of cells may start free cell e
step_widens world of (Actor.Helper number) cells may start free cell e =
    read_widens (cell_of (after_step world of (Actor.Helper number)) start) cell
    (same_cells world (after_step world of (Actor.Helper number))
    (helper_pages world number of (slice_get world.helpers number))
    start ∙ e)
step_widens world of Actor.Lends cells may start free cell e = read_widens (cell_of world start) cell e
step_widens world of (Actor.Returns number) cells may start free cell e =
    read_widens (cell_of (after_step world of (Actor.Returns number)) start) cell
    (same_cells world (after_step world of (Actor.Returns number))
    (return_pages world number (slice_get world.helpers number))
    start ∙ e)
