-- How the heap of a run is inspected that is ready to begin.
use Rattle.std.proofs.Common.{◌≡◌, Bool, true, false, refl, sym, ap, subst}
use Rattle.page_space.specs.Extents.{Space}
use Rattle.collector.specs.States.{HeapState}
use Rattle.heap_script.specs.declared.inspecting.Inspection.{Inspection}
use Rattle.heap_script.specs.Inspecting.{counts_at_end, plan_of, IsFor}
use Rattle.heap_script.specs.Inspectors.{same_space}
use Rattle.heap_run.specs.declared.opened.Inspects.{Inspects}
use Rattle.heap_run.specs.declared.opened.Inspects.TheVariants.{Nothing, Counts, Checks}
use Rattle.heap_run.specs.Opening.{inspects_for, inspection_for}

-- it is counted at the end just where a check was asked for
pub counts_asked : (checks : Bool) (space : Space) (inspection : Inspection Space)
    → inspection ≡ inspection_for (inspects_for checks) space → counts_at_end inspection ≡ checks
counts_asked false space inspection is = ap counts_at_end is
counts_asked true space inspection is = ap counts_at_end is

-- so it is at the end of a soak
pub counts_soaked : (space : Space) (inspection : Inspection Space) → inspection ≡ inspection_for Counts space
    → counts_at_end inspection ≡ true
counts_soaked space inspection is = ap counts_at_end is

-- a checker, if there is one, is for the regions of the heap
is_for_space : (heap : HeapState) (inspects : Inspects)
    → IsFor heap (plan_of same_space (inspection_for inspects heap.main.seat.space))
is_for_space heap Nothing = tt
is_for_space heap Counts = tt
is_for_space heap Checks = refl

-- so is that of each inspection of which this is known
pub is_for_heap : (heap : HeapState) (inspects : Inspects) (inspection : Inspection Space)
    → inspection ≡ inspection_for inspects heap.main.seat.space → IsFor heap (plan_of same_space inspection)
is_for_heap heap inspects inspection is =
    subst (λ (one : Inspection Space). IsFor heap (plan_of same_space one)) (sym is) (is_for_space heap inspects)
