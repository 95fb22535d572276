-- A heap on which a command is tried: it is as it was, or room was made for the command.
use Rattle.std.proofs.Common.{◌≡◌, ◌∙◌, ℕ, ◌≤◌, List, false, length, Ok}
use Rattle.std.proofs.Common.{ap, sym, subst, refl}
use Rattle.heap_model.specs.Types.{Command, FaultWord}
use Rattle.heap_command.specs.declared.command.FaultWord.TheVariants.{WeakFull}
use Rattle.object_graph.specs.Graphs.{Graph}
use Rattle.object_graph.specs.Limits.{ideal_limits}
use Rattle.object_graph.specs.Meaning.{meaning, fault}
use Rattle.heap_model.proofs.ShownRooms.{shown_objects_have_rooms}
use Rattle.nursery.specs.Young.{HasRoom}
use Rattle.live_cells.specs.Counts.{ExactMapsAreFull}
use Rattle.live_cells.specs.Exact.{Fits}
use Rattle.live_cells.specs.Fitting.{NoRunFitsNone}
use Rattle.write_barrier.specs.MutatorState.{Mutator, heap_of, MainShows}
use Rattle.scavenger.specs.Laws.{KeepsGraphs}
use Rattle.collector.specs.Collected.{CollectsAll}
use Rattle.collector.specs.Making.{IsOutOfRoom, Serves, MakesRoom}
use Rattle.collector.specs.States.{HeapState, HeapShows}
use Rattle.heap_script.specs.declared.making_room.Attempt.{Attempt}
use Rattle.heap_script.specs.declared.making_room.Attempt.TheVariants.{Once, Scavenged, Collected, Granted}
use Rattle.heap_script.specs.Collecting.{IsApart, IsSound, LacksWords, FindsPairs, CollectsFully}
use Rattle.mutator.specs.CarriesOut.{Carries}
use Rattle.heap_script.proofs.Carrying.{never_faults, pairs_fault}
use Rattle.heap_script.proofs.Lacking.{full_for}

-- What became of the heap, by what was done for the command.
pub data Stands (names : List (List ℕ)) (old now : Mutator) (graph : Graph) (command : Command) : Attempt → Type 0 where
  once : now ≡ old → Stands names old now graph command Once
  scavenged : (need : ℕ) → IsApart command → IsSound names graph command → LacksWords old graph command need
      → MakesRoom old now false need → HasRoom now.young need → KeepsGraphs old now
      → Stands names old now graph command Scavenged
  collected : IsApart command → CollectsFully names old now graph command
      → Stands names old now graph command Collected
  granted : (last : Mutator) (need : ℕ) → IsApart command → IsSound names graph command
      → CollectsFully names old last graph command → LacksWords last graph command need → Serves last now need
      → HasRoom now.young need → KeepsGraphs last now → Stands names old now graph command Granted

-- The heap at a try, which had so many objects: it shows what was shown, and has the same rest.
pub record IsReady (names : List (List ℕ)) (old now : HeapState) (objects : ℕ) (command : Command) (tried : Attempt)
    : Type 0 where
  pub shows : (graph : Graph) → HeapShows old graph → HeapShows now graph
  pub rest : now.rest ≡ old.rest
  pub stands : (graph : Graph) → HeapShows old graph → objects ≡ length graph.objects
      → Stands names old.main now.main graph command tried

-- how many more tries there may be
abbrev pub tries_left : Attempt → ℕ
tries_left Once = 3
tries_left Scavenged = 2
tries_left Collected = 1
tries_left Granted = 0

-- at first the heap is as it was
pub ready_first : (names : List (List ℕ)) (heap : HeapState) (objects : ℕ) (command : Command)
    → IsReady names heap heap objects command Once
ready_first names heap objects command = record {
  shows = λ graph shown. shown;
  rest = refl;
  stands = λ graph shown made. Stands.once refl;
}

-- a command that was carried out leaves the regions as they were
pub carried_space : (names : List (List ℕ)) {old new : Mutator} {graph : Graph} {command : Command} {text : List ℕ}
    → MainShows old graph → Carries names old new graph command text (Ok tt) → new.seat.space ≡ old.seat.space
carried_space names {old} {new} {graph} shows carried =
    let (rooms, has) = shown_objects_have_rooms (heap_of old) graph shows.shows in
    (carried.takes rooms has).uses.beside.space

-- so does a free run that serves words
pub served_space : {old new : Mutator} {need : ℕ} → Serves old new need → new.seat.space ≡ old.seat.space
served_space (Serves.eden room same) = ap (λ (main : Mutator). main.seat.space) same
served_space (Serves.granted lacks grants keeps) = grants.beside.space

-- and a full collection that comes for a command
pub fully_space : {names : List (List ℕ)} {old new : Mutator} {graph : Graph} {command : Command}
    → CollectsFully names old new graph command → new.seat.space ≡ old.seat.space
fully_space (CollectsFully.for_room mid need sound lacks scavenges keeps out collects) =
    collects.seat.space ∙ scavenges.seat.space
fully_space (CollectsFully.for_pairs entries finds collects) = collects.seat.space

-- and whatever was done for a command
stands_space : {names : List (List ℕ)} {old now : Mutator} {graph : Graph} {command : Command} {tried : Attempt}
    → Stands names old now graph command tried → now.seat.space ≡ old.seat.space
stands_space (Stands.once same) = ap (λ (main : Mutator). main.seat.space) same
stands_space (Stands.scavenged need apart sound lacks makes room keeps) =
    served_space makes.serves ∙ makes.scavenges.seat.space
stands_space (Stands.collected apart fully) = fully_space fully
stands_space (Stands.granted last need apart sound fully lacks serves room keeps) =
    served_space serves ∙ fully_space fully

-- a heap at a try has the regions that there were
pub ready_space : {names : List (List ℕ)} {old now : HeapState} {objects : ℕ} {command : Command} {tried : Attempt}
    → IsReady names old now objects command tried
    → (graph : Graph) × HeapShows old graph × (objects ≡ length graph.objects)
    → now.main.seat.space ≡ old.main.seat.space
ready_space ready (graph, shown, made) = stands_space (ready.stands graph shown made)

-- a full collection came last
pub fully_collects : {names : List (List ℕ)} {old new : Mutator} {graph : Graph} {command : Command}
    → CollectsFully names old new graph command → (mid : Mutator) × CollectsAll mid new graph
fully_collects (CollectsFully.for_room mid need sound lacks scavenges keeps out collects) = (mid, collects)
fully_collects {old = old} (CollectsFully.for_pairs entries finds collects) = (old, collects)

-- behind it a command has no other fault than `weakfull`
pub fully_faults : (names : List (List ℕ)) {old new : Mutator} {graph : Graph} {command : Command} (word : FaultWord)
    → MainShows old graph → CollectsFully names old new graph command
    → meaning ideal_limits names graph command ≡ fault word → word ≡ WeakFull
fully_faults names word shows (CollectsFully.for_room mid need sound lacks scavenges keeps out collects) faults =
    never_faults sound faults
fully_faults names word shows (CollectsFully.for_pairs entries finds collects) faults =
    pairs_fault names finds shows.shows faults

-- no command lacks words where room was made for those that it lacked
pub no_more : {A : Type 0} {main now : Mutator} {graph : Graph} {command : Command} {need other : ℕ}
    → MainShows main graph → LacksWords main graph command need → KeepsGraphs main now → HasRoom now.young need
    → LacksWords now graph command other → A
no_more {main = main} {now} {graph} {command} {need} {other} shows lacks keeps room again =
    let shown = (keeps.shows graph shows).shows in
    let (rooms, has) = shown_objects_have_rooms (heap_of now) graph shown in
    let same : other ≡ need =
    again.needs rooms has ∙ sym (lacks.needs rooms ((keeps.rooms graph rooms shows).1 has)) in
    absurd (again.lacks (subst (HasRoom now.young) (sym same) room))

-- a command that finds its map full of pairs is a fault, on a heap that keeps exactly what can be reached, and on one
-- that keeps the same
pub pairs_are_full : (names : List (List ℕ)) {main now : Mutator} {graph : Graph} {command : Command} {entries : ℕ}
    {mid : Mutator} → ExactMapsAreFull → CollectsAll mid main graph → KeepsGraphs main now
    → FindsPairs (heap_of now) graph command entries → meaning ideal_limits names graph command ≡ fault WeakFull
pairs_are_full names {main} {now} {graph} {command} {entries} maps collects keeps finds =
    let shows = collects.shows in
    let (rooms, has) = shown_objects_have_rooms (heap_of main) graph shows.shows in
    maps (heap_of main) graph rooms names command entries shows.is_graph collects.leaves.exact has
    (finds rooms ((keeps.rooms graph rooms shows).0 has))

-- where a full collection leaves no room for words, they fit nowhere
pub nowhere : {mid main : Mutator} {graph : Graph} {need : ℕ} → NoRunFitsNone → 1 ≤ need → CollectsAll mid main graph
    → IsOutOfRoom main need → Fits (heap_of main) need → ⊥
nowhere {main = main} {need = need} runs some collects out =
    let leaves = collects.leaves in
    runs (heap_of main) main.free need some leaves.apart leaves.dead out.runs
    (full_for main need collects.shows.tied out.ungranted out.lacks)
