-- All marked cells are visited, so each one is marked that is live from those that were given and from variables.
use Rattle.std.proofs.Common.{ℕ, ◌↔◌, List, Contains, sym, ap, subst}
use Rattle.heap_model.specs.Heaps.{Heap}
use Rattle.heap_model.specs.Slots.{IsWeakCellAt}
use Rattle.cell_list.specs.Listing.{Listing}
use Rattle.live_cells.specs.Marked.{HasRootTargets}
use Rattle.write_barrier.specs.MutatorState.{heap_of}
use Rattle.ephemeron_mark.specs.Marked.{Marked, IsLiveFrom}
use Rattle.ephemeron_mark.proofs.GrownLists.{grows_again, stays_marked}
use Rattle.ephemeron_mark.proofs.LiveAgain.{live_again}
use Rattle.ephemeron_mark.proofs.SeenCells.{among_first}
use Rattle.ephemeron_mark.proofs.VisitedCells.{among_before, as_many_still}
use Rattle.ephemeron_mark.proofs.EndMarks.{live_is_marked, maps_are_live}
use Rattle.ephemeron_mark.proofs.visits.mark_given.Goals as goal

pub visit_seen-requires-clause-leads : goal.visit_seen-requires-clause-leads
visit_seen-requires-clause-leads c from to among none slot =
    let given : List ℕ = c.marking.inside.cells.addresses in
    let seen : ℕ = c.marking.inside.seen in
    let first = among_before c.mark_roots.ensures.grown seen from c.marking.invariant.seen among in
    let in_seen = subst (λ (all : List ℕ). Contains all from) (ap (λ (one : Marked). one.seen) c.marking.view_is)
    (among_first given seen first.place from first.below first.there) in
    stays_marked to c.mark_roots.ensures.grown
    (subst (λ (all : List ℕ). Contains all to) (sym (ap (λ (one : Marked). one.cells) c.marking.view_is))
    (c.requires.seen from to in_seen none slot))

pub visit_seen-requires-clause-within : goal.visit_seen-requires-clause-within
visit_seen-requires-clause-within c =
    as_many_still c.mark_roots.ensures.grown c.marking.inside.seen c.marking.invariant.seen

pub visit_all-requires-clause-within : goal.visit_all-requires-clause-within
visit_all-requires-clause-within c =
    as_many_still (grows_again c.mark_roots.ensures.grown c.visit_seen.ensures.grown) c.marking.inside.seen
    c.marking.invariant.seen

pub returns-clause-marked : goal.returns-clause-marked
returns-clause-marked c =
    let heap : Heap = heap_of c.args.main.now in
    let given : List ℕ = c.marking.inside.cells.addresses in
    let cells : Listing = c.visit_all.new.cells in
    let more = c.visit_all.ensures.more in
    let grown = grows_again c.mark_roots.ensures.grown c.visit_seen.ensures.grown in
    let live : (at : ℕ) → Contains cells.addresses at → IsLiveFrom heap given at =
    λ at there. live_again grown.live at (more.live at there) in
    let targets : HasRootTargets heap (Contains cells.addresses) = λ one target.
    more.kept one (stays_marked one c.visit_seen.ensures.grown (c.mark_roots.ensures.targets one target)) in
    let kept : (at : ℕ) → Contains given at → Contains cells.addresses at =
    λ at there. more.kept at (stays_marked at grown there) in
    subst (λ (all : List ℕ). (at : ℕ) → Contains cells.addresses at ↔ IsLiveFrom heap all at)
    (ap (λ (one : Marked). one.cells) c.marking.view_is)
    (λ at. (live at, live_is_marked targets kept c.visit_all.ensures.visited at))

pub returns-clause-maps : goal.returns-clause-maps
returns-clause-maps c =
    let heap : Heap = heap_of c.args.main.now in
    let given : List ℕ = c.marking.inside.cells.addresses in
    let cells : Listing = c.visit_all.new.cells in
    let more = c.visit_all.ensures.more in
    let grown = grows_again c.mark_roots.ensures.grown c.visit_seen.ensures.grown in
    let live : (at : ℕ) → Contains cells.addresses at → IsLiveFrom heap given at =
    λ at there. live_again grown.live at (more.live at there) in
    let targets : HasRootTargets heap (Contains cells.addresses) = λ one target.
    more.kept one (stays_marked one c.visit_seen.ensures.grown (c.mark_roots.ensures.targets one target)) in
    let kept : (at : ℕ) → Contains given at → Contains cells.addresses at =
    λ at there. more.kept at (stays_marked at grown there) in
    subst (λ (all : List ℕ). (at : ℕ) → Contains c.visit_all.new.maps.items at
    ↔ (IsLiveFrom heap all at × IsWeakCellAt heap at)) (ap (λ (one : Marked). one.cells) c.marking.view_is)
    (maps_are_live targets kept c.visit_all.ensures.visited live c.visit_all.ensures.maps)
