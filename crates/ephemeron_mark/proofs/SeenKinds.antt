-- A cell that is neither a weak map nor a table has no pairs. What it leads to is marked, where it was given as seen.
use Rattle.std.proofs.Common.{◌≡◌, ℕ, List, Contains, sym, ◌∙◌}
use Rattle.tagged_word.specs.declared.layout.Kind.TheVariants as kind
use Rattle.heap_model.specs.Types.{Kind, Cell}
use Rattle.heap_model.specs.Heaps.{HasCell}
use Rattle.heap_model.specs.Slots.{IsWeakCellAt}
use Rattle.heap_model.proofs.CellsApart.{has_is_cell}
use Rattle.live_cells.specs.Live.{HasSlotTo}
use Rattle.cell_list.specs.Listing.{Listing}
use Rattle.heap_walk.specs.Standing.{StandsAt}
use Rattle.write_barrier.specs.Seats.{heap_words}
use Rattle.write_barrier.specs.MutatorState.{Mutator, heap_of}
use Rattle.ephemeron_mark.specs.Pairs.{Waits, WaitsFor}
use Rattle.ephemeron_mark.specs.Progress.{IsCellOf, IsVisited, noted}
use Rattle.ephemeron_mark.proofs.KindTests.{not_noted}

module _ (main : Mutator) (at : ℕ) (k : Kind) (no_map : k ≡ kind.Weak → ⊥) (no_table : k ≡ kind.Table → ⊥)
    (told : (cell : Cell) → StandsAt main.seat.space (heap_words main.seat) at cell → k ≡ cell.layout.kind) where
  -- the cell that stands there is of the kind that was read
  of_kind_read : {cell : Cell} {words : List ℕ} → HasCell (heap_of main) cell words → cell.at ≡ at
      → k ≡ cell.layout.kind
  of_kind_read {cell} has stands = told cell (record { is_cell = has_is_cell has; stands = stands })

  -- it is not noted as a map
  pub none_to_note : (maps : List ℕ) (cell : Cell) → IsCellOf (heap_of main) cell → cell.at ≡ at
      → maps ≡ noted cell.layout.kind maps at
  none_to_note maps cell is stands =
      sym (not_noted cell.layout.kind maps at (λ weak. no_map (of_kind_read is.1 stands ∙ weak)))

  -- and it is visited where its slots lead to marked cells, and no pair waits for it
  pub seen_is_visited : {cells : Listing} {waits : Waits}
      → ((IsWeakCellAt (heap_of main) at → ⊥) → (to : ℕ) → HasSlotTo (heap_of main) at to → Contains cells.addresses to)
      → ((slot : ℕ) → WaitsFor waits at slot → ⊥) → IsVisited (heap_of main) cells waits at
  seen_is_visited leads awaited = record {
    slots = leads (λ map. no_map (of_kind_read map.has map.stands ∙ map.of_kind));
    pairs = λ key value entry. absurd (no_table (of_kind_read entry.has entry.stands ∙ entry.of_kind));
    woken = λ value waits. absurd (awaited waits.slot waits.waits_for);
  }
