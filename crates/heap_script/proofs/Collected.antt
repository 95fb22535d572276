-- A run on a heap that was collected between two lines, for the next command.
use Rattle.std.proofs.Common.{◌≡◌, ◌∙◌, ℕ, ◌<◌, Bool, true, false, List, length, Some}
use Rattle.std.proofs.Common.{refl, sym, ap, subst, arith}
use Rattle.heap_model.specs.Types.{Command}
use Rattle.object_graph.specs.Graphs.{Graph}
use Rattle.object_graph.specs.Run.{Told, lines_most}
use Rattle.script_text.specs.Scripts.{ScriptText}
use Rattle.script_text.specs.Unrolled.{executed, executed_lines}
use Rattle.script_text.specs.Left.{Goes}
use Rattle.page_space.specs.Extents.{Space}
use Rattle.free_runs.specs.FreeRuns.{FitsNowhere}
use Rattle.heap_model.specs.Heaps.{Heap}
use Rattle.heap_model.specs.Rooms.{need_of}
use Rattle.heap_model.specs.Showing.{Shows}
use Rattle.nursery.specs.Young.{Young, HasRoom, in_eden}
use Rattle.write_barrier.specs.MutatorState.{Mutator, heap_of, IsTied, MainShows}
use Rattle.scavenger.specs.Scavenged.{Scavenges}
use Rattle.scavenger.specs.Laws.{KeepsGraphs}
use Rattle.scavenger.proofs.Tight.{scavenges_are_tight, scavenges_fill_pages}
use Rattle.scavenger.proofs.TakenWords.{scavenges_take_words}
use Rattle.collector.specs.Born.{BeginsCycle}
use Rattle.collector.specs.Collected.{CollectsAll}
use Rattle.collector.specs.Making.{IsOutOfRoom}
use Rattle.collector.specs.States.{HeapState}
use Rattle.collector.proofs.Keeping.{still_shows}
use Rattle.heap_script.specs.Collecting.{IsSound, LacksWords, FindsPairs, CollectsFully}
use Rattle.heap_script.specs.Stages.{Collections, uncollected, scavenged, fully_collected, stage_of}
use Rattle.heap_script.specs.Reached.{left_after, RanTo}
use Rattle.heap_script.specs.Spending.{Spends, IsCollected, HasBegun, WantsRoom, LacksAllRoom, WantsClearing}
use Rattle.heap_script.proofs.Lacking.{full_for}
use Rattle.heap_script.proofs.Carrying.{unfull_behind}
use Rattle.heap_script.proofs.GoingOn.{goes-on}
use Rattle.heap_script.specs.Between.{Running}
use Rattle.heap_script.proofs.Running.{next_at}

-- what a scavenge leaves of a heap that shows a graph, whose objects have the rooms that they had
pub collected_by : {old new : Mutator} {all : Bool} {graph : Graph} → Scavenges old new all → KeepsGraphs old new
    → MainShows old graph → IsCollected (stage_of old) (stage_of new) all graph
collected_by {old} {new} {all} {graph} scavenges keeps shows =
    let survivors = ap (λ (young : Young). young.survivors) scavenges.young in
    let (words, promotes, stays, places) = scavenges_take_words old new graph all shows scavenges in
    record {
      space = scavenges.seat.space;
      rooms = λ rooms. keeps.rooms graph rooms shows;
      emptied = ap (λ (young : Young). young.used) scavenges.young;
      few = omega (arith, survivors, scavenges.few);
      tight = scavenges_are_tight old new graph all shows scavenges;
      pages = scavenges_fill_pages old new graph all shows scavenges;
      words = words;
      promotes = promotes;
      stays = stays;
      places = places;
      backs = scavenges.backs;
      free = (keeps.shows graph shows).free;
      apart = scavenges.apart;
    }

-- what a `mark` leaves that opens a cycle
pub begun_by : {old new : Mutator} {graph : Graph} → BeginsCycle old new graph → MainShows old graph
    → HasBegun (stage_of old) (stage_of new) graph
begun_by (BeginsCycle.promotes_all scavenges keeps none) shows =
    HasBegun.promotes_all (collected_by scavenges keeps shows) none
begun_by (BeginsCycle.collects_all mid scavenges keeps some collects) shows =
    HasBegun.collects_all (stage_of mid) (collected_by scavenges keeps shows) some collects.leaves

-- the run has come as far on another heap with these regions, which shows the graph
abbrev pub reached_on : {script : ScriptText} {old mid : Heap} {n : ℕ} → (r : RanTo script old n)
    → mid.space ≡ old.space → Shows mid r.so_far.graph → RanTo script mid n
reached_on r space shows = record {
  within = r.within;
  few = r.few;
  variables = ap (λ (space : Space). space.variables) space ∙ r.variables;
  so_far = r.so_far;
  said = r.said;
  shown = shows;
}

-- What follows for a heap that shows the graph. Where it has no room in eden for the words that the next command needs,
-- which is no fault, the line wants room; and if no free run has the words, it lacks all room. Where the command finds
-- its map full of pairs, the line wants them cleared.
pub record Wants (script : ScriptText) (n : ℕ) (so_far : Told) (command : Command) : Type 0 where
  pub room : (main : Mutator) (need : ℕ) → IsTied main → in_eden main.young ≡ true
      → IsSound script.fields so_far.graph command → LacksWords main so_far.graph command need
      → WantsRoom script (heap_of main) n so_far
  pub all : (main : Mutator) (need : ℕ) → IsTied main → in_eden main.young ≡ true
      → IsSound script.fields so_far.graph command → LacksWords main so_far.graph command need
      → FitsNowhere main.free need → LacksAllRoom script (stage_of main) n so_far
  pub clearing : (main : Mutator) (entries : ℕ) → FindsPairs (heap_of main) so_far.graph command entries
      → WantsClearing script (heap_of main) n so_far

module _ {script : ScriptText} {at' n number : ℕ} {ts' : List ℕ} {command : Command} (so_far : Told)
    (below : n < lines_most)
    (goes : Goes script.lines at' ts' (left_after script n) (executed number (Some command))) where
  -- where the run goes on at the command, its line wants room
  abbrev wants_room : (main : Mutator) (need : ℕ) → IsTied main → in_eden main.young ≡ true
      → IsSound script.fields so_far.graph command → LacksWords main so_far.graph command need
      → WantsRoom script (heap_of main) n so_far
  wants_room main need tied ungranted sound lacks = record {
    goes_on = goes-on script so_far.graph sound.after sound.written at' n number ts' command below goes sound.is;
    line = executed number (Some command);
    next = next_at (executed_lines script.lines) n (executed number (Some command)) goes.rest goes.is;
    lacks = λ rooms has.
        full_for main (need_of so_far.graph rooms command) tied ungranted
        (λ room. lacks.lacks (subst (HasRoom main.young) (sym (lacks.needs rooms has)) room));
    unfull = λ (entries, finds). lacks.unfull entries finds;
  }

  -- it lacks all, if no free run has the words; and where the command finds its map full of pairs, they are to be
  -- cleared
  pub wants : Wants script n so_far command
  wants = record {
    room = wants_room;
    all = λ main need tied ungranted sound lacks none. record {
      wants = wants_room main need tied ungranted sound lacks;
      runs = λ rooms has. subst (FitsNowhere main.free) (lacks.needs rooms has) none;
    };
    clearing = λ main entries finds. record {
      few = below;
      line = executed number (Some command);
      next = next_at (executed_lines script.lines) n (executed number (Some command)) goes.rest goes.is;
      full = (entries, finds);
    };
  }

-- a scavenge drops what was granted
pub ungranted_by : {old new : Mutator} {all : Bool} → Scavenges old new all → in_eden new.young ≡ true
ungranted_by scavenges = ap in_eden scavenges.young

-- a command lacks as many words on a heap that was collected for them and has no room
pub lacks_behind : {old mid : Mutator} {graph : Graph} {command : Command} {need : ℕ} → KeepsGraphs old mid
    → MainShows old graph → LacksWords old graph command need → IsOutOfRoom mid need
    → LacksWords mid graph command need
lacks_behind {graph = graph} keeps shows lacks out = record {
  needs = λ rooms has. lacks.needs rooms ((keeps.rooms graph rooms shows).1 has);
  lacks = out.lacks;
  unfull = unfull_behind keeps shows lacks.unfull;
}

-- the heap with another mutator's side
abbrev pub heap_with : HeapState → Mutator → HeapState
heap_with heap main = record heap { main = main }

-- Where a heap came to be another one between two lines, which shows a graph: it has the same regions, the same phase
-- and as many rows of free runs, and nothing is granted.
pub record IsBetween (old new : Mutator) (graph : Graph) : Type 0 where
  pub space : new.seat.space ≡ old.seat.space
  pub phase : new.seat.phase ≡ old.seat.phase
  pub rows : length new.free ≡ length old.free
  pub ungranted : in_eden new.young ≡ true
  pub shows : MainShows new graph

-- a full collection leads to such a heap
fully_between : {start old new : Mutator} {graph : Graph} → CollectsAll old new graph
    → old.seat.space ≡ start.seat.space → old.seat.phase ≡ start.seat.phase → length old.free ≡ length start.free
    → IsBetween start new graph
fully_between collects space phase rows = record {
  space = collects.seat.space ∙ space;
  phase = collects.seat.phase ∙ phase;
  rows = collects.rows ∙ rows;
  ungranted = collects.ungranted;
  shows = collects.shows;
}

-- so does a `mark` that opens a cycle
pub begun_between : {old new : Mutator} {graph : Graph} → BeginsCycle old new graph → MainShows old graph
    → IsBetween old new graph
begun_between {graph = graph} (BeginsCycle.promotes_all scavenges keeps none) shows = record {
  space = scavenges.seat.space;
  phase = scavenges.seat.phase;
  rows = scavenges.rows;
  ungranted = ungranted_by scavenges;
  shows = keeps.shows graph shows;
}
begun_between (BeginsCycle.collects_all mid scavenges keeps some collects) shows =
    fully_between collects scavenges.seat.space scavenges.seat.phase scavenges.rows

-- between two lines, on that heap, by what was spent
abbrev Running-collected : {script : ScriptText} {heap : HeapState} {mid : Mutator} {objects : ℕ} {waiting : List ℕ}
    {old new : List ℕ → Type 0} {at : ℕ} {ts : List ℕ} {n : ℕ} {before behind : Collections}
    → (r : Running script heap objects waiting old new at ts n before)
    → IsBetween heap.main mid r.reached.so_far.graph
    → (RanTo script (heap_of mid) n → Spends script (stage_of mid) n behind r.opened)
    → Running script (heap_with heap mid) objects waiting old new at ts n behind
Running-collected {heap = heap} {mid} r between spends =
    let reached = reached_on r.reached between.space between.shows.shows in
    record {
      reached = reached;
      opened = r.opened;
      spends = spends reached;
      ungranted = between.ungranted;
      shown = still_shows heap (heap_with heap mid) r.reached.so_far.graph r.shown refl between.space between.phase
          between.rows between.shows;
      left = r.left;
      handed = r.handed;
      made = r.made;
      few = r.few;
      cycle = r.cycle;
      since = r.since;
    }

-- behind the scavenge for the words that the next command needs, which promotes survivors
abbrev pub Running-once : {script : ScriptText} {heap : HeapState} {mid : Mutator} {objects : ℕ} {waiting : List ℕ}
    {old new : List ℕ → Type 0} {at : ℕ} {ts : List ℕ} {n : ℕ} {command : Command} {need : ℕ}
    → (r : Running script heap objects waiting old new at ts n uncollected) → Wants script n r.reached.so_far command
    → IsSound script.fields r.reached.so_far.graph command
    → LacksWords heap.main r.reached.so_far.graph command need → Scavenges heap.main mid false
    → KeepsGraphs heap.main mid → Running script (heap_with heap mid) objects waiting old new at ts n scavenged
Running-once {heap = heap} {mid} {n = n} {need = need} r wanted sound lacks scavenges keeps =
    Running-collected r
    (record {
      space = scavenges.seat.space;
      phase = scavenges.seat.phase;
      rows = scavenges.rows;
      ungranted = ungranted_by scavenges;
      shows = keeps.shows r.reached.so_far.graph r.shown.main;
    })
    (λ reached.
    Spends.once (stage_of heap.main) (stage_of mid) n r.opened r.spends r.reached
    (wanted.room heap.main need r.shown.main.tied r.ungranted sound lacks) reached
    (collected_by scavenges keeps r.shown.main))

-- a full collection for the next command, whatever it came for, leads to such a heap
pub between_fully : {names : List (List ℕ)} {old new : Mutator} {graph : Graph} {command : Command}
    → CollectsFully names old new graph command → IsBetween old new graph
between_fully (CollectsFully.for_room mid need sound lacks scavenges keeps out collects) =
    fully_between collects scavenges.seat.space scavenges.seat.phase scavenges.rows
between_fully (CollectsFully.for_pairs entries finds collects) = fully_between collects refl refl refl

-- and is one of the collections that may come between two lines: no free run has the words that the command lacks, nor
-- eden, or its map is full of pairs
pub spends_fully : {script : ScriptText} {heap : HeapState} {last : Mutator} {objects : ℕ} {waiting : List ℕ}
    {old new : List ℕ → Type 0} {at : ℕ} {ts : List ℕ} {n : ℕ} {command : Command}
    → (r : Running script heap objects waiting old new at ts n uncollected) → Wants script n r.reached.so_far command
    → CollectsFully script.fields heap.main last r.reached.so_far.graph command → RanTo script (heap_of last) n
    → Spends script (stage_of last) n fully_collected r.opened
spends_fully {last = last} {n = n} r wanted
    (CollectsFully.for_room mid need sound lacks scavenges keeps out collects) reached =
    let once = Running-once r wanted sound lacks scavenges keeps in
    let still = lacks_behind keeps r.shown.main lacks out in
    Spends.twice (stage_of mid) (stage_of last) n r.opened once.spends once.reached
    (wanted.all mid need once.shown.main.tied once.ungranted sound still out.runs) reached collects.leaves
spends_fully {heap = heap} {last} {n = n} r wanted (CollectsFully.for_pairs entries finds collects) reached =
    Spends.cleared (stage_of heap.main) (stage_of last) n r.opened r.spends r.reached
    (wanted.clearing heap.main entries finds) reached collects.leaves

-- so a run goes on behind it
abbrev pub Running-fully : {script : ScriptText} {heap : HeapState} {last : Mutator} {objects : ℕ} {waiting : List ℕ}
    {old new : List ℕ → Type 0} {at : ℕ} {ts : List ℕ} {n : ℕ} {command : Command}
    → (r : Running script heap objects waiting old new at ts n uncollected) → Wants script n r.reached.so_far command
    → CollectsFully script.fields heap.main last r.reached.so_far.graph command
    → Running script (heap_with heap last) objects waiting old new at ts n fully_collected
Running-fully r wanted fully = Running-collected r (between_fully fully) (spends_fully r wanted fully)
