-- A run behind a line that was executed, whose command may have found the heap collected, and words of a page granted.
use Rattle.std.proofs.Common.{◌≡◌, ◌∙◌, ℕ, ◌+◌, ◌<◌, Bool, false, List, ◌++◌, length, Option, Some, None}
use Rattle.std.proofs.Common.{Ok, refl, sym, ap, subst, add-zero, append-nil}
use Rattle.heap_model.specs.Types.{Command}
use Rattle.object_graph.specs.Graphs.{Graph}
use Rattle.object_graph.specs.Limits.{ideal_limits}
use Rattle.object_graph.specs.Meaning.{meaning, done}
use Rattle.object_graph.specs.Run.{Told, told_with, lines_most}
use Rattle.script_text.specs.Scripts.{ScriptText}
use Rattle.script_text.specs.Unrolled.{executed, executed_lines}
use Rattle.script_text.specs.Left.{Goes}
use Rattle.heap_model.specs.Heaps.{Heap}
use Rattle.nursery.specs.Young.{Young, in_eden}
use Rattle.write_barrier.specs.MutatorState.{Mutator, heap_of}
use Rattle.collector.specs.Making.{Serves, MakesRoom}
use Rattle.collector.specs.States.{HeapState, with_cycle, with_collected}
use Rattle.collector.proofs.BornHeaps.{exact_is_born}
use Rattle.collector.proofs.Keeping.{same_heap}
use Rattle.mutator.specs.CarriesOut.{Carries, FindsMapNotFull}
use Rattle.heap_script.specs.Cycles.{cycle_after_command, cycle_after_line, CollectsNothing}
use Rattle.heap_script.specs.Collecting.{IsApart, IsSound, LacksWords, CollectsFully, Collects, CarriesAsked}
use Rattle.heap_script.specs.Collecting.{CarriesCommand}
use Rattle.heap_script.specs.Stages.{Collections, uncollected, scavenged, fully_collected, stage_of}
use Rattle.heap_script.specs.Reached.{left_after, RanTo}
use Rattle.heap_script.specs.Spending.{LineAllocates}
use Rattle.heap_script.specs.Runs.{TellsAt, OutputHolds, waiting_of}
use Rattle.heap_script.specs.Progress.{objects_made, made_by, CarriesLine}
use Rattle.heap_script.proofs.Carrying.{unfull_behind}
use Rattle.heap_script.proofs.Asking.{rest_stays}
use Rattle.heap_script.proofs.Retrying.{fully_collects}
use Rattle.heap_script.proofs.Serving.{Served, Takes, served, allocated}
use Rattle.heap_script.specs.Between.{Running}
use Rattle.heap_script.proofs.Running.{Running-passed, Running-carried, Running-noted, next-drop, said-next}
use Rattle.heap_script.proofs.StayingLost.{none_began, one_began}
use Rattle.heap_script.proofs.Collected.{collected_by, begun_by, begun_between, Wants, wants, ungranted_by, heap_with}
use Rattle.heap_script.proofs.Collected.{Running-once, Running-fully}

-- a command was carried out that is none of the collector's, on what it found of the heap
Running-served : (script : ScriptText) (heap after : HeapState) (found : Mutator) (objects : ℕ) (waiting : List ℕ)
    (old new : List ℕ → Type 0) (at at' : ℕ) (ts ts' : List ℕ) (n number : ℕ) (command : Command) (text : List ℕ)
    {collections : Collections} → (r : Running script heap objects waiting old new at ts n collections) → n < lines_most
    → Goes script.lines at' ts' (left_after script n) (executed number (Some command))
    → after.rest ≡ heap.rest → IsApart command → Served heap.main found r.reached.so_far.graph collections command
    → FindsMapNotFull found r.reached.so_far.graph command
    → Carries script.fields found after.main r.reached.so_far.graph command text (Ok tt)
    → Running script after (objects + objects_made command) (waiting ++ text) old new at' ts' (n + 1) uncollected
Running-served script heap after found objects waiting old new at at' ts ts' n number command text r below goes rest
    apart served_so unfull carried =
    let takes : Takes found after.main r.reached.so_far.graph carried.after command =
    record { room = carried.takes; cells = carried.cells; free = carried.shows.free } in
    let done = allocated command r.shown.main r.ungranted served_so unfull takes in
    Running-carried script heap after objects waiting old new at at' ts ts' n number command text carried.after r below
    goes (rest ∙ sym (rest_stays heap.rest command apart)) done.allocates.space done.phase carried.means
    carried.shows (LineAllocates.allocates command apart done.allocates) done.ungranted done.rows

-- it was carried out once a scavenge had made room for the words that it lacked
Running-scavenged : (script : ScriptText) (heap after : HeapState) (found : Mutator) (objects : ℕ) (waiting : List ℕ)
    (old new : List ℕ → Type 0) (at at' : ℕ) (ts ts' : List ℕ) (n number : ℕ) (command : Command) (text : List ℕ)
    (need : ℕ) → (r : Running script heap objects waiting old new at ts n uncollected) → n < lines_most
    → Goes script.lines at' ts' (left_after script n) (executed number (Some command))
    → after.rest ≡ heap.rest → IsApart command → Wants script n r.reached.so_far command
    → IsSound script.fields r.reached.so_far.graph command
    → LacksWords heap.main r.reached.so_far.graph command need → MakesRoom heap.main found false need
    → FindsMapNotFull found r.reached.so_far.graph command
    → Carries script.fields found after.main r.reached.so_far.graph command text (Ok tt)
    → Running script after (objects + objects_made command) (waiting ++ text) old new at' ts' (n + 1) uncollected
Running-scavenged script heap after found objects waiting old new at at' ts ts' n number command text need r below goes
    rest apart wanted sound lacks makes unfull carries =
    let behind = Running-once r wanted sound lacks makes.scavenges makes.keeps in
    let empty = ap (λ (young : Young). young.used) makes.scavenges.young in
    Running-served script (heap_with heap makes.mid) after found objects waiting old new at at' ts ts' n number command
    text behind below goes rest apart
    (served makes.serves (λ (is : scavenged ≡ uncollected). cc)
    (λ rooms has. lacks.needs rooms ((makes.keeps.rooms r.reached.so_far.graph rooms r.shown.main).1 has))
    (unfull_behind makes.keeps r.shown.main lacks.unfull) empty)
    unfull carries

-- it was carried out with room for the words that it lacked behind a full collection
Running-granted : (script : ScriptText) (heap after : HeapState) (last found : Mutator) (objects : ℕ)
    (waiting : List ℕ) (old new : List ℕ → Type 0) (at at' : ℕ) (ts ts' : List ℕ) (n number : ℕ) (command : Command)
    (text : List ℕ) (need : ℕ) → (r : Running script heap objects waiting old new at ts n uncollected) → n < lines_most
    → Goes script.lines at' ts' (left_after script n) (executed number (Some command))
    → after.rest ≡ heap.rest → IsApart command → Wants script n r.reached.so_far command
    → CollectsFully script.fields heap.main last r.reached.so_far.graph command
    → LacksWords last r.reached.so_far.graph command need → Serves last found need
    → FindsMapNotFull found r.reached.so_far.graph command
    → Carries script.fields found after.main r.reached.so_far.graph command text (Ok tt)
    → Running script after (objects + objects_made command) (waiting ++ text) old new at' ts' (n + 1) uncollected
Running-granted script heap after last found objects waiting old new at at' ts ts' n number command text need r below
    goes rest apart wanted fully lacks serves unfull carries =
    let (mid, collects) = fully_collects fully in
    Running-served script (heap_with heap last) after found objects waiting old new at at' ts ts' n number command text
    (Running-fully r wanted fully) below goes rest apart
    (served serves (λ (is : fully_collected ≡ uncollected). cc) lacks.needs lacks.unfull collects.leaves.emptied) unfull
    carries

-- whichever a command finds that asks for no collection
Running-found : (script : ScriptText) (heap after : HeapState) (found : Mutator) (objects : ℕ) (waiting : List ℕ)
    (old new : List ℕ → Type 0) (at at' : ℕ) (ts ts' : List ℕ) (n number : ℕ) (command : Command) (text : List ℕ)
    → (r : Running script heap objects waiting old new at ts n uncollected) → n < lines_most
    → Goes script.lines at' ts' (left_after script n) (executed number (Some command))
    → after.rest ≡ heap.rest → IsApart command
    → Collects script.fields heap.main found r.reached.so_far.graph command
    → FindsMapNotFull found r.reached.so_far.graph command
    → Carries script.fields found after.main r.reached.so_far.graph command text (Ok tt)
    → Running script after (objects + objects_made command) (waiting ++ text) old new at' ts' (n + 1) uncollected
Running-found script heap after found objects waiting old new at at' ts ts' n number command text r below goes rest
    apart (Collects.unchanged same) unfull carries =
    Running-served script heap after found objects waiting old new at at' ts ts' n number command text r below goes
    rest apart (Served.as_it_is same) unfull carries
Running-found script heap after found objects waiting old new at at' ts ts' n number command text r below goes rest
    apart (Collects.scavenged need sound lacks makes) unfull carries =
    Running-scavenged script heap after found objects waiting old new at at' ts ts' n number command text need r below
    goes rest apart (wants r.reached.so_far below goes) sound lacks makes unfull carries
Running-found script heap after found objects waiting old new at at' ts ts' n number command text r below goes rest
    apart (Collects.collected fully) unfull carries =
    Running-served script (heap_with heap found) after found objects waiting old new at at' ts ts' n number command text
    (Running-fully r (wants r.reached.so_far below goes) fully) below goes rest apart (Served.as_it_is refl) unfull
    carries
Running-found script heap after found objects waiting old new at at' ts ts' n number command text r below goes rest
    apart (Collects.granted last need fully lacks serves) unfull carries =
    Running-granted script heap after last found objects waiting old new at at' ts ts' n number command text need r
    below goes rest apart (wants r.reached.so_far below goes) fully lacks serves unfull carries

-- a command of the collector's was carried out
Running-asked : (script : ScriptText) (heap after : HeapState) (objects : ℕ) (waiting : List ℕ)
    (old new : List ℕ → Type 0) (at at' : ℕ) (ts ts' : List ℕ) (n number : ℕ) (command : Command) (text : List ℕ)
    → (r : Running script heap objects waiting old new at ts n uncollected) → n < lines_most
    → Goes script.lines at' ts' (left_after script n) (executed number (Some command))
    → after.rest ≡ with_cycle heap.rest (cycle_after_command heap.rest.in_cycle command)
    → CarriesAsked script.fields heap.rest.in_cycle heap.main after.main r.reached.so_far.graph command text
    → Running script after (objects + objects_made command) (waiting ++ text) old new at' ts' (n + 1) uncollected
Running-asked script heap after objects waiting old new at at' ts ts' n number command text r below goes rest
    (CarriesAsked.scavenges is scavenges keeps carried) =
    let before = r.reached.so_far.graph in
    let Uses : Command → Type 0 =
    λ one. LineAllocates r.opened (stage_of heap.main) (stage_of after.main) before carried.after
    uncollected (Some one) in
    let uses : Uses command =
    subst Uses (sym is) (LineAllocates.scavenges (collected_by scavenges keeps r.shown.main)) in
    Running-carried script heap after objects waiting old new at at' ts ts' n number command text carried.after r below
    goes rest scavenges.seat.space scavenges.seat.phase carried.means carried.shows uses (ungranted_by scavenges)
    scavenges.rows
Running-asked script heap after objects waiting old new at at' ts ts' n number command text r below goes rest
    (CarriesAsked.begins is none begins carried) =
    let before = r.reached.so_far.graph in
    let between = begun_between begins r.shown.main in
    let Uses : Command → Type 0 =
    λ one. LineAllocates r.opened (stage_of heap.main) (stage_of after.main) before carried.after
    uncollected (Some one) in
    let uses : Uses command =
    subst Uses (sym is)
    (LineAllocates.begins (none_began r.opened (sym r.cycle ∙ none)) (begun_by begins r.shown.main)) in
    Running-carried script heap after objects waiting old new at at' ts ts' n number command text carried.after r below
    goes rest between.space between.phase carried.means carried.shows uses between.ungranted between.rows
Running-asked script heap after objects waiting old new at at' ts ts' n number command text r below goes rest
    (CarriesAsked.finishes is there collects carried) =
    let before = r.reached.so_far.graph in
    let (opening, began, stays) = one_began r.opened before (sym r.cycle ∙ there) r.since in
    let leaves = exact_is_born opening (heap_of heap.main) (heap_of after.main) after.main.free before stays
    r.shown.main.shows collects.leaves in
    let Uses : Command → Type 0 =
    λ one. LineAllocates r.opened (stage_of heap.main) (stage_of after.main) before carried.after
    uncollected (Some one) in
    let uses : Uses command = subst Uses (sym is) (LineAllocates.finishes opening began leaves) in
    Running-carried script heap after objects waiting old new at at' ts ts' n number command text carried.after r below
    goes rest collects.seat.space collects.seat.phase carried.means carried.shows uses collects.ungranted collects.rows
Running-asked script heap after objects waiting old new at at' ts ts' n number command text r below goes rest
    (CarriesAsked.collects_all asks collects carried) =
    Running-carried script heap after objects waiting old new at at' ts ts' n number command text carried.after r below
    goes rest collects.seat.space collects.seat.phase carried.means carried.shows
    (LineAllocates.collects_all command asks collects.leaves) collects.ungranted collects.rows
Running-asked script heap after objects waiting old new at at' ts ts' n number command text r below goes rest
    (CarriesAsked.collects_nothing none same carried) =
    Running-carried script heap after objects waiting old new at at' ts ts' n number command text carried.after r below
    goes rest (ap (λ (main : Mutator). main.seat.space) same) (ap (λ (main : Mutator). main.seat.phase) same)
    carried.means carried.shows
    (LineAllocates.collects_nothing command
    (subst (λ in_cycle. CollectsNothing in_cycle command) r.cycle none) (ap stage_of same))
    (ap (λ (main : Mutator). in_eden main.young) same ∙ r.ungranted) (ap (λ (main : Mutator). length main.free) same)

-- whichever the command is
Running-by : (script : ScriptText) (heap after : HeapState) (objects : ℕ) (waiting : List ℕ)
    (old new : List ℕ → Type 0) (at at' : ℕ) (ts ts' : List ℕ) (n number : ℕ) (command : Command) (text : List ℕ)
    → (r : Running script heap objects waiting old new at ts n uncollected) → n < lines_most
    → Goes script.lines at' ts' (left_after script n) (executed number (Some command))
    → after.rest ≡ with_cycle heap.rest (cycle_after_command heap.rest.in_cycle command)
    → CarriesCommand script.fields heap.rest.in_cycle heap.main after.main r.reached.so_far.graph command text (Ok tt)
    → Running script after (objects + objects_made command) (waiting ++ text) old new at' ts' (n + 1) uncollected
Running-by script heap after objects waiting old new at at' ts ts' n number command text r below goes rest
    (CarriesCommand.asked is asked) =
    Running-asked script heap after objects waiting old new at at' ts ts' n number command text r below goes rest asked
Running-by script heap after objects waiting old new at at' ts ts' n number command text r below goes rest
    (CarriesCommand.apart apart carried) =
    Running-found script heap after carried.found objects waiting old new at at' ts ts' n number command text r below
    goes (rest ∙ rest_stays heap.rest command apart) apart carried.collects carried.unfull carried.carries

-- a line was executed
pub Running-line : (script : ScriptText) (heap after : HeapState) (objects : ℕ) (waiting : List ℕ)
    (old new : List ℕ → Type 0) (at at' : ℕ) (ts ts' : List ℕ) (n number : ℕ) (command : Option Command)
    (text : List ℕ)
    → (r : Running script heap objects waiting old new at ts n uncollected) → n < lines_most
    → Goes script.lines at' ts' (left_after script n) (executed number command)
    → after.rest ≡ with_cycle heap.rest (cycle_after_line heap.rest.in_cycle command)
    → CarriesLine script.fields heap.rest.in_cycle heap.main after.main r.reached.so_far.graph command text (Ok tt)
    → Running script after (objects + made_by command) (waiting ++ text) old new at' ts' (n + 1) uncollected
Running-line script heap after objects waiting old new at at' ts ts' n number None text r below goes rest
    (same, nothing, is) =
    let kept = with_collected heap after.collected in
    let passed = Running-passed script kept objects waiting old new at at' ts ts' n number
    (Running-noted after.collected r) below goes in
    rw (nothing, append-nil, add-zero)
    (subst (λ one. Running script one objects waiting old new at' ts' (n + 1) uncollected)
    (sym (same_heap kept after same rest refl)) passed)
Running-line script heap after objects waiting old new at at' ts ts' n number (Some command) text r below goes rest
    carries =
    Running-by script heap after objects waiting old new at at' ts ts' n number command text r below goes rest carries

-- a command that was carried out is no fault
carried_means : {names : List (List ℕ)} {in_cycle : Bool} {old new : Mutator} {graph : Graph} {command : Command}
    {text : List ℕ} → CarriesCommand names in_cycle old new graph command text (Ok tt)
    → (after : Graph) × (meaning ideal_limits names graph command ≡ done after text)
carried_means (CarriesCommand.asked is (CarriesAsked.scavenges same scavenges keeps carried)) =
    (carried.after, carried.means)
carried_means (CarriesCommand.asked is (CarriesAsked.begins same none begins carried)) =
    (carried.after, carried.means)
carried_means (CarriesCommand.asked is (CarriesAsked.finishes same goes collects carried)) =
    (carried.after, carried.means)
carried_means (CarriesCommand.asked is (CarriesAsked.collects_all asks collects carried)) =
    (carried.after, carried.means)
carried_means (CarriesCommand.asked is (CarriesAsked.collects_nothing none same carried)) =
    (carried.after, carried.means)
carried_means (CarriesCommand.apart apart carried) = (carried.carries.after, carried.carries.means)

-- and it told its text
pub TellsAt-line : (script : ScriptText) (heap : Heap) (old new : Mutator) (at' : ℕ) (ts' : List ℕ) (n number : ℕ)
    (command : Option Command) (text : List ℕ) (in_cycle : Bool) → (r : RanTo script heap n)
    → Goes script.lines at' ts' (left_after script n) (executed number command)
    → CarriesLine script.fields in_cycle old new r.so_far.graph command text (Ok tt) → TellsAt script n text
TellsAt-line script heap old new at' ts' n number None text in_cycle r goes (same, nothing, is) =
    let line = executed number None in
    let next = next-drop (executed_lines script.lines) n line goes.rest goes.is in
    rw nothing
    (record {
      before = r.so_far;
      said_before = r.said;
      after = r.so_far;
      said_after = said-next script n r.so_far r.so_far line goes.rest next r.said refl;
      adds = sym (append-nil r.so_far.bytes);
    })
TellsAt-line script heap old new at' ts' n number (Some command) text in_cycle r goes carries =
    let (graph, does-is) = carried_means carries in
    let line = executed number (Some command) in
    let next = next-drop (executed_lines script.lines) n line goes.rest goes.is in
    let later : Told = record { graph = graph; bytes = r.so_far.bytes ++ text } in
    record {
      before = r.so_far;
      said_before = r.said;
      after = later;
      said_after = said-next script n r.so_far later line goes.rest next r.said (ap (told_with r.so_far) does-is);
      adds = refl;
    }

-- so the output holds that behind what waited
pub OutputHolds-line : (script : ScriptText) (heap : Heap) (old new : Mutator) (at' : ℕ) (ts' : List ℕ) (n number : ℕ)
    (command : Option Command) (text : List ℕ) (in_cycle : Bool) {held waiting : List ℕ} → (r : RanTo script heap n)
    → Goes script.lines at' ts' (left_after script n) (executed number command)
    → CarriesLine script.fields in_cycle old new r.so_far.graph command text (Ok tt) → waiting ≡ waiting_of held
    → OutputHolds script n held → OutputHolds script (n + 1) (waiting ++ text)
OutputHolds-line script heap old new at' ts' n number command text in_cycle {held} r goes carries waits holds =
    let tells = TellsAt-line script heap old new at' ts' n number command text in_cycle r goes carries in
    subst (λ (waiting : List ℕ). OutputHolds script (n + 1) (waiting ++ text)) (sym waits)
    (OutputHolds.one_more n held text holds tells)
