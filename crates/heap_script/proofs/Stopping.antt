-- A command that stopped: what becomes of the heap where room is made for it, and how it stops for good.
use Rattle.std.proofs.Common.{◌≡◌, ◌∙◌, ℕ, List, length, Some, None, Err, ap, sym, subst}
use Rattle.heap_model.specs.Types.{Command, FaultWord}
use Rattle.heap_command.specs.Commands.{IsWithin}
use Rattle.object_graph.specs.Graphs.{Graph}
use Rattle.live_cells.specs.Counts.{ExactMapsAreFull}
use Rattle.live_cells.specs.Fitting.{NoRunFitsNone}
use Rattle.write_barrier.specs.MutatorState.{Mutator, heap_of, MainShows}
use Rattle.collector.specs.Making.{IsOutOfRoom}
use Rattle.collector.specs.States.{HeapState, HeapShows}
use Rattle.collector.proofs.Keeping.{same_heap, keeps_itself}
use Rattle.mutator.specs.declared.stop.Stop.{Stop}
use Rattle.mutator.proofs.StoppedBy.{same_stopped}
use Rattle.mutator.specs.declared.stop.Stop.TheVariants.{Fault, NoRoom, NoClear}
use Rattle.mutator.specs.CarriesOut.{Carries, AsksWhereFull, field_numbers}
use Rattle.heap_script.specs.declared.making_room.Attempt.{Attempt}
use Rattle.heap_script.specs.declared.making_room.Attempt.TheVariants.{Once, Scavenged, Collected, Granted}
use Rattle.heap_script.specs.Collecting.{IsApart, IsSound, LacksWords, FindsPairs, CollectsFully, Tries, FaultsOn}
use Rattle.heap_script.specs.Collecting.{StopsAt}
use Rattle.heap_script.specs.MakingRoom.{IsServable, IsClearable, DoesNothing, FindsFirst, FindsLast, MakesRoomFor}
use Rattle.heap_script.proofs.Carrying.{wants_some, refused, never_faults, unfull_behind}
use Rattle.heap_script.proofs.FullMaps.{faults_otherwise}
use Rattle.heap_script.proofs.Retrying.{Stands, IsReady, fully_collects, fully_faults, no_more}
use Rattle.heap_script.proofs.Retrying.{pairs_are_full, nowhere}

-- a command that stopped for want of room is no fault, and lacks the words
pub sound_lacking : (names : List (List ℕ)) (main after : Mutator) (graph : Graph) (command : Command) (text : List ℕ)
    (need : ℕ) → Carries names main after graph command text (Err (NoRoom need))
    → AsksWhereFull main graph command (Err (NoRoom need))
    → IsSound names graph command × LacksWords main graph command need
sound_lacking names main after graph command text need (next, written, does-is, needs, lacks, same) unfull = (
  record { after = next; written = written; is = does-is },
  record { needs = needs; lacks = lacks; unfull = unfull },
)

-- one for which the heap was scavenged does not find its weak map full of pairs
unfull_once : {A : Type 0} {names : List (List ℕ)} {old now : Mutator} {graph : Graph} {command : Command}
    {entries : ℕ} → MainShows old graph → Stands names old now graph command Scavenged
    → FindsPairs (heap_of now) graph command entries → A
unfull_once {entries = entries} shows (Stands.scavenged need none sound lacks makes room keeps) finds =
    absurd (unfull_behind keeps shows lacks.unfull entries finds)

-- where something was done, something was
pub nothing_done : {A : Type 0} {old new : HeapState} {next : Attempt} → DoesNothing old new (Some next) → A
nothing_done (none, same) = absurd (cc)

module _ (names : List (List ℕ)) (old now made : HeapState) (after : Mutator) (graph : Graph) (command : Command)
    (text : List ℕ) (shown : HeapShows old graph) (shows : HeapShows now graph) (apart : IsApart command) where
  -- at first a scavenge makes room for the words that a command lacks, or a full collection comes
  first_room : (need : ℕ) (next : Attempt) → Carries names now.main after graph command text (Err (NoRoom need))
      → AsksWhereFull now.main graph command (Err (NoRoom need))
      → FindsFirst now made need next → Stands names now.main made.main graph command next
  first_room need next carries asks (FindsFirst.scavenges is makes room keeps) =
      let (sound, lacks) = sound_lacking names now.main after graph command text need carries asks in
      subst (Stands names now.main made.main graph command) (sym is)
      (Stands.scavenged need apart sound lacks makes room keeps)
  first_room need next carries asks (FindsFirst.collects mid is scavenges keeps out still collects) =
      let (sound, lacks) = sound_lacking names now.main after graph command text need carries asks in
      subst (Stands names now.main made.main graph command) (sym is)
      (Stands.collected apart
      (CollectsFully.for_room mid.main need sound lacks scavenges keeps out (collects graph (still graph shows))))

  -- behind a full collection there is room for the words that it lacks still
  last_room : (need : ℕ) (next : Attempt) → CollectsFully names old.main now.main graph command
      → Carries names now.main after graph command text (Err (NoRoom need))
      → AsksWhereFull now.main graph command (Err (NoRoom need)) → FindsLast now made need (Some next)
      → Stands names old.main made.main graph command next
  last_room need next fully carries asks (FindsLast.serves is serves room keeps) =
      let (sound, lacks) = sound_lacking names now.main after graph command text need carries asks in
      let same : Granted ≡ next = cc in
      subst (Stands names old.main made.main graph command) same
      (Stands.granted now.main need apart sound fully lacks serves room keeps)
  last_room need next fully carries asks (FindsLast.lacks nothing lacked none) = nothing_done nothing

  -- so it is with what stands, by what was done before
  stands_next : (tried : Attempt) (stop : Stop) (next : Attempt) → Stands names old.main now.main graph command tried
      → Carries names now.main after graph command text (Err stop)
      → AsksWhereFull now.main graph command (Err stop) → MakesRoomFor now made tried stop (Some next)
      → Stands names old.main made.main graph command next
  stands_next tried (Fault word) next stands carries asks way = nothing_done way
  stands_next Once (NoRoom need) next (Stands.once same) carries asks (one, is, first) =
      let it : one ≡ next = cc in
      subst (λ main. Stands names main made.main graph command next) same
      (subst (Stands names now.main made.main graph command) it (first_room need one carries asks first))
  stands_next Once (NoClear entries) next (Stands.once same) (finds, still) asks
      (one, is, (all, collects)) =
      let it : Collected ≡ next = cc in
      subst (λ main. Stands names main made.main graph command next) same
      (subst (Stands names now.main made.main graph command) it
      (Stands.collected apart (CollectsFully.for_pairs entries finds (collects graph shows))))
  stands_next Scavenged (NoRoom need) next stands carries asks way = nothing_done way
  stands_next Scavenged (NoClear entries) next stands carries asks way = absurd way
  stands_next Collected (NoRoom need) next (Stands.collected none fully) carries asks way =
      last_room need next fully carries asks way
  stands_next Collected (NoClear entries) next stands carries asks way = nothing_done way
  stands_next Granted (NoRoom need) next stands carries asks way = nothing_done way
  stands_next Granted (NoClear entries) next stands carries asks way = nothing_done way

  -- a command that faults does so on the heap as it was, or behind a full collection
  faults_at : (tried : Attempt) (word : FaultWord) → Stands names old.main now.main graph command tried
      → Carries names now.main after graph command text (Err (Fault word))
      → AsksWhereFull now.main graph command (Err (Fault word)) → FaultsOn names old.main now.main graph command word
  faults_at Once word (Stands.once same) carries asks =
      FaultsOn.unchanged (faults_otherwise names shows.main command word asks carries.0) same
  faults_at Scavenged word (Stands.scavenged need none sound lacks makes room keeps) carries asks =
      never_faults sound carries.0
  faults_at Collected word (Stands.collected none fully) carries asks =
      FaultsOn.collected (fully_faults names word shown.main fully carries.0) fully
  faults_at Granted word (Stands.granted last need none sound fully lacks serves room keeps) carries asks =
      never_faults sound carries.0

  -- one for which there is no room behind a full collection has no place
  full_at : (need : ℕ) → NoRunFitsNone → CollectsFully names old.main now.main graph command
      → Carries names now.main after graph command text (Err (NoRoom need))
      → AsksWhereFull now.main graph command (Err (NoRoom need)) → FindsLast now made need None
      → StopsAt names old.main now.main graph command (NoRoom need)
  full_at need runs fully carries asks (FindsLast.serves is serves room keeps) = absurd (cc)
  full_at need runs fully carries asks (FindsLast.lacks nothing lacked none) =
      let (sound, lacks) = sound_lacking names now.main after graph command text need carries asks in
      let (mid, collects) = fully_collects fully in
      let out : IsOutOfRoom now.main need =
      record { ungranted = collects.ungranted; lacks = lacked; runs = none } in
      let some = wants_some now.main graph need shows.main lacked in (
        sound,
        fully,
        record { lacks = lacks; out = out; nowhere = nowhere runs some collects out },
      )

  -- how it stops for good, where nothing more is done
  stops_at : (tried : Attempt) (stop : Stop) → ExactMapsAreFull → NoRunFitsNone
      → Stands names old.main now.main graph command tried
      → Carries names now.main after graph command text (Err stop)
      → AsksWhereFull now.main graph command (Err stop) → MakesRoomFor now made tried stop None
      → StopsAt names old.main now.main graph command stop
  stops_at tried (Fault word) maps runs stands carries asks way =
      (carries.0, faults_at tried word stands carries asks)
  stops_at Once (NoRoom need) maps runs stands carries asks (one, is, first) = absurd (cc)
  stops_at Scavenged (NoRoom need) maps runs (Stands.scavenged had none sound lacks makes room keeps) carries asks
      way =
      no_more shown.main lacks keeps room (sound_lacking names now.main after graph command text need carries asks).1
  stops_at Collected (NoRoom need) maps runs (Stands.collected none fully) carries asks way =
      full_at need runs fully carries asks way
  stops_at Granted (NoRoom need) maps runs (Stands.granted last had none sound fully lacks serves room keeps) carries
      asks way =
      let (mid, collects) = fully_collects fully in
      let again = (sound_lacking names now.main after graph command text need carries asks).1 in
      no_more collects.shows lacks keeps room again
  stops_at Once (NoClear entries) maps runs stands carries asks (one, is, rest) = absurd (cc)
  stops_at Scavenged (NoClear entries) maps runs stands carries asks way = absurd way
  stops_at Collected (NoClear entries) maps runs (Stands.collected none fully) (finds, still) asks way =
      let (mid, collects) = fully_collects fully in
      (pairs_are_full names maps collects (keeps_itself now.main) finds, fully)
  stops_at Granted (NoClear entries) maps runs (Stands.granted last had none sound fully lacks serves room keeps)
      (finds, still) asks way =
      let (mid, collects) = fully_collects fully in
      never_faults sound (pairs_are_full names maps collects keeps finds)

-- where a full collection leaves no room, nothing changes
no_room : {now made : HeapState} {need : ℕ} → FindsLast now made need None → made ≡ now
no_room (FindsLast.serves is serves room keeps) = absurd (cc)
no_room (FindsLast.lacks nothing lacked none) = nothing.1

-- so it is where no room is made
no_way : (now made : HeapState) (tried : Attempt) (stop : Stop) → MakesRoomFor now made tried stop None → made ≡ now
no_way now made tried (Fault word) way = way.1
no_way now made Once (NoRoom need) (one, is, first) = absurd (cc)
no_way now made Scavenged (NoRoom need) way = way.1
no_way now made Collected (NoRoom need) way = no_room way
no_way now made Granted (NoRoom need) way = way.1
no_way now made Once (NoClear entries) (one, is, rest) = absurd (cc)
no_way now made Scavenged (NoClear entries) way = absurd way
no_way now made Collected (NoClear entries) way = way.1
no_way now made Granted (NoClear entries) way = way.1

-- What is known of a command that was tried on a heap at a try, and stopped: which heap there was at first, how many
-- objects it had, and what was told of the try on whichever graph.
module _ (names : List (List ℕ)) {old now : HeapState} (after : HeapState) {objects counted : ℕ} {command : Command}
    {stop : Stop} {tried : Attempt} {Rest : Type 0} (ready : IsReady names old now objects command tried)
    (same : counted ≡ objects) (rest : after.rest ≡ now.rest) (noted : after.collected ≡ now.collected)
    (some : (graph : Graph) × HeapShows old graph × (objects ≡ length graph.objects))
    (carried : (graph : Graph) → HeapShows now graph → counted ≡ length graph.objects
    → (text : List ℕ) × Tries names now.main after.main graph command text (Err stop) × Rest) where
  -- it is none of the collector's, and stopped on the heap as it was, which it tells of a map that is full, and of no
  -- other
  stopped_on : (graph : Graph) → HeapShows old graph → objects ≡ length graph.objects
      → (text : List ℕ) × IsApart command × Carries names now.main after.main graph command text (Err stop)
      × AsksWhereFull now.main graph command (Err stop)
  stopped_on graph shown made =
      let (text, tries, rest) = carried graph (ready.shows graph shown) (same ∙ made) in
      (text, tries.apart, tries.carries, tries.asks)

  -- the heap is as it was at the try
  pub unchanged : after ≡ now
  unchanged =
      let (graph, shown, made) = some in
      let (text, apart, carries, asks) = stopped_on graph shown made in
      same_heap now after (same_stopped names now.main after.main graph command text stop carries) rest noted

  -- room may be made for it
  pub servable : IsWithin old.main.seat.space.variables field_numbers command → IsServable stop
  servable within need is =
      let (graph, shown, made) = some in
      let (text, apart, carries, asks) = stopped_on graph shown made in
      refused names now.main after.main graph old.main.seat.space.variables field_numbers command text need
      (ready.shows graph shown).main within
      (subst (λ one. Carries names now.main after.main graph command text (Err one)) is carries)

  -- it was not scavenged for, if its weak map is full of pairs
  pub clearable : IsClearable stop tried
  clearable entries is scavenged =
      let (graph, shown, made) = some in
      let (text, apart, carries, asks) = stopped_on graph shown made in
      let finds = (subst (λ one. Carries names now.main after.main graph command text (Err one)) is carries).0 in
      unfull_once shown.main
      (subst (Stands names old.main now.main graph command) scavenged (ready.stands graph shown made)) finds

  module _ {made : HeapState} (space : (graph : Graph) → HeapShows after graph → HeapShows made graph)
      (kept : made.rest ≡ after.rest) where
    -- so the heap is at a try again, where way was made
    pub ready_next : {next : Attempt} → MakesRoomFor after made tried stop (Some next)
        → IsReady names old made objects command next
    ready_next {next} way = record {
      shows = λ graph shown.
          space graph (subst (λ one. HeapShows one graph) (sym unchanged) (ready.shows graph shown));
      rest = kept ∙ rest ∙ ready.rest;
      stands = λ graph shown counted_so.
          let (text, apart, carries, asks) = stopped_on graph shown counted_so in
          stands_next names old now made after.main graph command text shown (ready.shows graph shown) apart tried stop
          next (ready.stands graph shown counted_so) carries asks
          (subst (λ one. MakesRoomFor one made tried stop (Some next)) unchanged way);
    }

    -- and where none was made, the command stopped for good
    pub stops : ExactMapsAreFull → NoRunFitsNone → MakesRoomFor after made tried stop None → (graph : Graph)
        → HeapShows old graph → objects ≡ length graph.objects → StopsAt names old.main made.main graph command stop
    stops maps runs way graph shown counted_so =
        let (text, apart, carries, asks) = stopped_on graph shown counted_so in
        let there = subst (λ one. MakesRoomFor one made tried stop None) unchanged way in
        let is = ap (λ (heap : HeapState). heap.main) (no_way now made tried stop there) in
        subst (λ main. StopsAt names old.main main graph command stop) (sym is)
        (stops_at names old now made after.main graph command text shown (ready.shows graph shown) apart tried stop maps
        runs (ready.stands graph shown counted_so) carries asks there)
