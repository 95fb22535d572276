-- What a run is given before its first command.
use Rattle.std.specs.Prelude.{◌≡◌, ℕ, Bool, true, false, []}
use Rattle.object_graph.specs.Graphs.{start}
use Rattle.heap_model.specs.Types.{Sizes}
use Rattle.page_space.specs.Extents.{Space}
use Rattle.write_barrier.specs.MutatorState.{IsOpened}
use Rattle.collector.specs.States.{HeapShows}
use Rattle.heap_script.specs.declared.inspecting.Inspection.{Inspection}
use Rattle.heap_script.specs.declared.inspecting.Inspection.TheVariants as inspection
use Rattle.heap_run.specs.declared.opened.Inspects.{Inspects}
use Rattle.heap_run.specs.declared.opened.Inspects.TheVariants.{Nothing, Counts, Checks}
use Rattle.heap_run.specs.declared.opened.Opened.{Opened}

-- how the heap of a run is inspected: by a checker where a check is asked for, and else not at all
abbrev pub inspects_for : Bool → Inspects
inspects_for false = Nothing
inspects_for true = Checks

-- the heap of these regions is inspected so: not at all, by a census, or by a checker for the regions
abbrev pub inspection_for : Inspects → Space → Inspection Space
inspection_for Nothing space = inspection.Nothing
inspection_for Counts space = inspection.Counts
inspection_for Checks space = inspection.Checks space

-- A run is ready to begin: its heap, of these sizes and with so many variables, has no object and no variable that is
-- bound, no cycle is open, the heap is inspected as was asked, and nothing waits in the output.
pub record IsReady (inspects : Inspects) (sizes : Sizes) (variables : ℕ) (run : Opened) : Type 0 where
  pub shown : HeapShows run.heap start
  pub empty : IsOpened run.heap.main
  pub closed : run.heap.rest.in_cycle ≡ false
  pub space : run.heap.main.seat.space ≡ record { sizes = sizes; variables = variables }
  pub inspected : run.inspection ≡ inspection_for inspects run.heap.main.seat.space
  pub quiet : run.out ≡ []
