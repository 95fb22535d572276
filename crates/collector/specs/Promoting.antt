-- What a scavenge promotes, as an open cycle of marking has to know it.
use Rattle.std.specs.Prelude.{◌≡◌, ℕ, Bool, List, [], ◌∷◌, Some, All, nat_lt, if◌then◌else◌}
use Rattle.page_space.specs.Extents.{eden_start}
use Rattle.page_space.specs.RegionLaws.{IsSpace}
use Rattle.free_runs.specs.FreeRuns.{AreFree}
use Rattle.object_graph.specs.Graphs.{Graph}
use Rattle.mark_world.specs.Cycles.{Cycle}
use Rattle.mark_world.specs.Pages.{EachFree}
use Rattle.cycle_state.specs.Cycles.{main_of}
use Rattle.cycle_state.specs.Resting.{Rests}
use Rattle.cycle_laws.specs.DeadWords.{NoRunHas, PromotesIntoRuns}
use Rattle.cycle_laws.specs.Scavenges.{PromotesTo}
use Rattle.write_barrier.specs.MutatorState.{Mutator, heap_of, MainShows}
use Rattle.scav_copy.specs.declared.places.Home.{Home}
use Rattle.scavenger.specs.Starts.{start_of}
use Rattle.scavenger.specs.Scavenged.{Scavenges, place_after}

-- the addresses of the homes before an address
abbrev pub homes_before : ℕ → List Home → List ℕ
homes_before end [] = []
homes_before end (home ∷ more) =
    if nat_lt home.to end then home.to ∷ homes_before end more else homes_before end more

-- the addresses of pages to which a scavenge promoted cells
abbrev pub promoted_by : {old new : Mutator} {all : Bool} → Scavenges old new all → List ℕ
promoted_by {old} scavenged = homes_before (eden_start old.seat.space) scavenged.homes

-- A scavenge of a heap that shows a graph promotes cells to these addresses, into words of free runs alone.
abbrev pub ScavengesPromote : Type 0
ScavengesPromote =
    (old new : Mutator) (graph : Graph) (all : Bool) → IsSpace old.seat.space → MainShows old graph
    → (scavenged : Scavenges old new all)
    → PromotesTo (heap_of old) (heap_of new) (place_after (start_of old) scavenged.homes) (promoted_by scavenged)
    × PromotesIntoRuns (heap_of new) (promoted_by scavenged) old.free new.free

-- Where the heap rests in a cycle, each free start stays where it stands, and so does each cell that the mutator made
-- black itself, if no free run has the address of one of these.
abbrev pub ScavengesKeepStarts : Type 0
ScavengesKeepStarts =
    (old new : Mutator) (graph : Graph) (all : Bool) (cycle : Cycle) → MainShows old graph → AreFree old.free
    → Rests (heap_of old) cycle → NoRunHas old.free cycle.mine → (scavenged : Scavenges old new all)
    → EachFree (main_of cycle) (λ at. place_after (start_of old) scavenged.homes at ≡ Some at)
    × All (λ at. place_after (start_of old) scavenged.homes at ≡ Some at) cycle.mine
