-- What the heap notes of full collections while a command is tried, and once it came out.
use Rattle.std.proofs.Common.{◌≡◌, ◌≢◌, ◌∙◌, ◌||◌, ℕ, Bool, true, false, List, Some, None, Ok, Err, refl, subst}
use Rattle.heap_model.specs.Types.{Command, FaultWord}
use Rattle.heap_command.specs.declared.command.FaultWord.TheVariants.{WeakFull}
use Rattle.object_graph.specs.Graphs.{Graph}
use Rattle.write_barrier.specs.MutatorState.{Mutator}
use Rattle.collector.specs.States.{HeapState, HeapShows}
use Rattle.mutator.specs.declared.stop.Stop.{Stop}
use Rattle.mutator.specs.declared.stop.Stop.TheVariants.{Fault, NoRoom, NoClear}
use Rattle.mutator.specs.CarriesOut.{Carries, AsksWhereFull}
use Rattle.heap_script.specs.declared.making_room.Attempt.{Attempt}
use Rattle.heap_script.specs.declared.making_room.Attempt.TheVariants.{Once, Scavenged, Collected, Granted}
use Rattle.heap_script.specs.Collecting.{Collects, Tries}
use Rattle.heap_script.specs.MakingRoom.{FindsFirst, FindsLast, MakesRoomFor, noted_by}
use Rattle.heap_script.specs.Noting.{found_fully, faults_fully, stops_fully, NotesAtLast}
use Rattle.heap_script.proofs.Carrying.{never_faults}
use Rattle.heap_script.proofs.FullMaps.{faults_otherwise}
use Rattle.heap_script.proofs.Retrying.{Stands, fully_faults, no_more}
use Rattle.heap_script.proofs.Stopping.{sound_lacking, nothing_done}

-- what is noted at a try, by what was noted before the first one
abbrev pub noted_at : Bool → Attempt → Bool
noted_at noted Once = noted
noted_at noted Scavenged = noted
noted_at noted Collected = true
noted_at noted Granted = true

-- it is noted where room is made for the first time
first_noted : {now made : HeapState} (need : ℕ) (next : Attempt) (noted : Bool) → FindsFirst now made need next
    → noted_by noted (Some next) ≡ noted_at noted next
first_noted need next noted (FindsFirst.scavenges is makes room keeps) = rw is refl
first_noted need next noted (FindsFirst.collects mid is scavenges keeps out still collects) = rw is refl

-- it stays noted where words are granted after that
last_noted : {now made : HeapState} (need : ℕ) (next : Attempt) (noted : Bool) → FindsLast now made need (Some next)
    → noted_by true (Some next) ≡ noted_at noted next
last_noted need next noted (FindsLast.serves is serves room keeps) =
    let same : next ≡ Granted = cc in
    rw same refl
last_noted need next noted (FindsLast.lacks nothing lacked none) = nothing_done nothing

-- so it is noted at the next try
pub next_noted : (now made : HeapState) (tried : Attempt) (stop : Stop) (next : Attempt) (noted : Bool)
    → MakesRoomFor now made tried stop (Some next) → noted_by (noted_at noted tried) (Some next) ≡ noted_at noted next
next_noted now made tried (Fault word) next noted way = nothing_done way
next_noted now made Once (NoRoom need) next noted (one, is, first) =
    let same : one ≡ next = cc in
    subst (λ one. noted_by noted (Some one) ≡ noted_at noted one) same (first_noted need one noted first)
next_noted now made Once (NoClear entries) next noted (one, is, (all, collects)) =
    let same : Collected ≡ next = cc in
    subst (λ one. noted_by noted (Some one) ≡ noted_at noted one) same refl
next_noted now made Scavenged (NoRoom need) next noted way = nothing_done way
next_noted now made Scavenged (NoClear entries) next noted way = absurd way
next_noted now made Collected (NoRoom need) next noted way = last_noted need next noted way
next_noted now made Collected (NoClear entries) next noted way = nothing_done way
next_noted now made Granted (NoRoom need) next noted way = nothing_done way
next_noted now made Granted (NoClear entries) next noted way = nothing_done way

-- what a command finds of the heap, by what was done for it, with what is noted then
found_at : {names : List (List ℕ)} {old now : Mutator} {graph : Graph} {command : Command} {tried : Attempt}
    (noted : Bool) → Stands names old now graph command tried
    → (collects : Collects names old now graph command) × (noted_at noted tried ≡ (found_fully collects || noted))
found_at noted (Stands.once same) = (Collects.unchanged same, refl)
found_at noted (Stands.scavenged need apart sound lacks makes room keeps) =
    (Collects.scavenged need sound lacks makes, refl)
found_at noted (Stands.collected apart fully) = (Collects.collected fully, refl)
found_at noted (Stands.granted last need apart sound fully lacks serves room keeps) =
    (Collects.granted last need fully lacks serves, refl)

-- a command that was carried out at whichever try was carried out on what it found
pub carried_at : {names : List (List ℕ)} {old now new : HeapState} {graph : Graph} {command : Command}
    {text : List ℕ} {tried : Attempt} → Stands names old.main now.main graph command tried → HeapShows now graph
    → Tries names now.main new.main graph command text (Ok tt) → new.collected ≡ noted_at old.collected tried
    → NotesAtLast names old new graph command text (Ok tt)
carried_at {old = old} {now = now} stands shows tries noted =
    let (collects, is) = found_at old.collected stands in
    record {
      carries = record {
        found = now.main;
        apart = tries.apart;
        collects = collects;
        shows = shows.main;
        unfull = tries.asks;
        carries = tries.carries;
      };
      noted = noted ∙ is;
    }

-- no full collection comes before a fault, but before `weakfull`
other_fault : (word : FaultWord) → word ≢ WeakFull → faults_fully word ≡ false
other_fault WeakFull other = absurd (other refl)
other_fault _ other = refl

module _ (names : List (List ℕ)) (old now later made : HeapState) (after : Mutator) (graph : Graph)
    (command : Command) (text : List ℕ) (shown : HeapShows old graph) (shows : HeapShows now graph) where
  -- what is noted where a command faults
  noted_fault : (tried : Attempt) (word : FaultWord) (noted : Bool)
      → Stands names old.main now.main graph command tried
      → Carries names now.main after graph command text (Err (Fault word))
      → AsksWhereFull now.main graph command (Err (Fault word)) → noted_at noted tried ≡ (faults_fully word || noted)
  noted_fault Once word noted (Stands.once same) carries asks =
      rw (other_fault word (faults_otherwise names shows.main command word asks carries.0)) refl
  noted_fault Scavenged word noted (Stands.scavenged need none sound lacks makes room keeps) carries asks =
      never_faults sound carries.0
  noted_fault Collected word noted (Stands.collected none fully) carries asks =
      rw (fully_faults names word shown.main fully carries.0) refl
  noted_fault Granted word noted (Stands.granted last need none sound fully lacks serves room keeps) carries asks =
      never_faults sound carries.0

  -- what is noted where it stops for good, and nothing more is done
  pub noted_stop : (tried : Attempt) (stop : Stop) (noted : Bool)
      → Stands names old.main now.main graph command tried
      → Carries names now.main after graph command text (Err stop)
      → AsksWhereFull now.main graph command (Err stop) → MakesRoomFor later made tried stop None
      → noted_at noted tried ≡ (stops_fully stop || noted)
  noted_stop tried (Fault word) noted stands carries asks way = noted_fault tried word noted stands carries asks
  noted_stop Once (NoRoom need) noted stands carries asks (one, is, first) = absurd (cc)
  noted_stop Scavenged (NoRoom need) noted (Stands.scavenged had none sound lacks makes room keeps) carries asks way =
      no_more shown.main lacks keeps room (sound_lacking names now.main after graph command text need carries asks).1
  noted_stop Collected (NoRoom need) noted stands carries asks way = refl
  noted_stop Granted (NoRoom need) noted stands carries asks way = refl
  noted_stop Once (NoClear entries) noted stands carries asks (one, is, rest) = absurd (cc)
  noted_stop Scavenged (NoClear entries) noted stands carries asks way = absurd way
  noted_stop Collected (NoClear entries) noted stands carries asks way = refl
  noted_stop Granted (NoClear entries) noted stands carries asks way = refl
