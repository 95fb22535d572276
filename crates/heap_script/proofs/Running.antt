-- What holds of a run between two of its lines, and how a line carries it on.
use Rattle.std.proofs.Common.{◌≡◌, ℕ, suc, zero, ◌+◌, ◌<◌, Bool, true, false, List, [], ◌∷◌, ◌++◌, length, take, drop}
use Rattle.std.proofs.Common.{Some}
use Rattle.std.proofs.Common.{None, refl, sym, ap, subst, ◌∙◌, add-one, arith}
use Rattle.std.specs.Prelude.{option_and_then, slice_get}
use Rattle.heap_model.specs.Types.{Command}
use Rattle.heap_command.specs.Executed.{Executed}
use Rattle.object_graph.specs.Graphs.{Graph, start}
use Rattle.object_graph.specs.Meaning.{meaning, done}
use Rattle.object_graph.specs.Run.{Told, untold, told_with, tell, run_of, lines_most}
use Rattle.object_graph.proofs.Runs.{run_of-push}
use Rattle.script_text.specs.Scripts.{ScriptText}
use Rattle.script_text.specs.Unrolled.{executed, executed_lines}
use Rattle.script_text.specs.Whole.{IsPaired}
use Rattle.script_text.specs.Left.{IsLeft, Goes}
use Rattle.script_text.proofs.Left.{begins}
use Rattle.object_graph.specs.Limits.{ideal_limits}
use Rattle.page_space.specs.Extents.{Space}
use Rattle.nursery.specs.Young.{Young, in_eden}
use Rattle.write_barrier.specs.MutatorState.{heap_of, MainShows, IsOpened}
use Rattle.collector.specs.States.{HeapState, HeapShows, Rest, with_cycle, with_collected}
use Rattle.collector.proofs.Keeping.{still_shows, cycled_shows, noted_shows}
use Rattle.heap_script.specs.Cycles.{cycle_after_command, opened_after}
use Rattle.heap_script.specs.Stages.{Collections, uncollected, stage_of}
use Rattle.heap_script.specs.Reached.{left_after, RanTo}
use Rattle.heap_script.specs.Spending.{Spends, LineAllocates}
use Rattle.heap_script.specs.Progress.{objects_made, Handed}
use Rattle.heap_script.specs.Between.{Running}
use Rattle.heap_script.proofs.Counts.{length-meaning, makes_one}
use Rattle.heap_script.proofs.StayingLost.{cycle_opened, since_behind}
use Rattle.heap_script.proofs.Handing.{Handed-none, Handed-more, Handed-told}

-- a list whose rest after the first n begins with an element
pub record Next {A : Type 0} (xs : List A) (n : ℕ) (x : A) (rest : List A) : Type 0 where
  pub within : n < length xs
  pub taken : take (suc n) xs ≡ take n xs ++ x ∷ []
  pub dropped : drop (suc n) xs ≡ rest

-- the same one element further
next_after : {A : Type 0} (first : A) (xs : List A) (n : ℕ) (x : A) (rest : List A) → Next xs n x rest
    → Next (first ∷ xs) (suc n) x rest
next_after first xs n x rest next = record {
  within = omega (arith, next.within);
  taken = ap (λ more. first ∷ more) next.taken;
  dropped = next.dropped;
}

-- past the end no element is left
nil_cons : {A : Type 0} (n : ℕ) (x : A) (rest : List A) → drop n [] ≡ x ∷ rest → ⊥
nil_cons zero x rest e = cc
nil_cons (suc n) x rest e = cc

-- of a rest that begins with an element, the element is the next one
pub next-drop : {A : Type 0} (xs : List A) (n : ℕ) (x : A) (rest : List A) → drop n xs ≡ x ∷ rest → Next xs n x rest
next-drop [] n x rest e = absurd (nil_cons n x rest e)
next-drop (first ∷ xs) zero x rest e =
    let same : first ≡ x = cc in
    let others : xs ≡ rest = cc in
    record { within = omega arith; taken = ap (λ y. y ∷ []) same; dropped = others }
next-drop (first ∷ xs) (suc n) x rest e = next_after first xs n x rest (next-drop xs n x rest e)

-- and it is at the place behind them
pub next_at : {A : Type 0} (xs : List A) (n : ℕ) (x : A) (rest : List A) → drop n xs ≡ x ∷ rest
    → slice_get xs n ≡ Some x
next_at [] n x rest e = absurd (nil_cons n x rest e)
next_at (first ∷ xs) zero x rest e = cc
next_at (first ∷ xs) (suc n) x rest e = next_at xs n x rest e

-- a script begins
pub Running-start : (script : ScriptText) (heap : HeapState) (old : List ℕ → Type 0) → IsPaired 0 script.lines
    → HeapShows heap start → IsOpened heap.main → heap.rest.in_cycle ≡ false
    → heap.main.seat.space.variables ≡ length script.variables
    → Running script heap 0 [] old old 0 [] 0 uncollected
Running-start script heap old placed shown opened none variables =
    let reached : RanTo script (heap_of heap.main) 0 = record {
      within = omega arith;
      few = omega arith;
      variables = variables;
      so_far = untold;
      said = refl;
      shown = shown.main.shows;
    } in
    record {
      reached = reached;
      opened = None;
      spends = Spends.none (stage_of heap.main) (ap (λ (young : Young). young.used) opened.young)
          (ap (λ (young : Young). young.survivors) opened.young) opened.free shown.main.free reached;
      ungranted = ap in_eden opened.young;
      shown = shown;
      left = begins script.lines placed;
      handed = Handed-none old;
      made = refl;
      few = omega arith;
      cycle = none;
      since = tt;
    }

-- what waits is handed on
pub Running-handed : (script : ScriptText) (heap : HeapState) (objects : ℕ) (waiting rest : List ℕ)
    (old mid new : List ℕ → Type 0) (at : ℕ) (ts : List ℕ) (n : ℕ) (collections : Collections)
    → Running script heap objects waiting old mid at ts n collections → Handed mid new rest waiting
    → Running script heap objects rest old new at ts n collections
Running-handed script heap objects waiting rest old mid new at ts n collections r h = record {
  reached = r.reached;
  opened = r.opened;
  spends = r.spends;
  ungranted = r.ungranted;
  shown = r.shown;
  left = r.left;
  handed = Handed-more r.handed h;
  made = r.made;
  few = r.few;
  cycle = r.cycle;
  since = r.since;
}

-- one line more is told: what the run tells after it
pub said-next : (script : ScriptText) (n : ℕ) (so_far later : Told) (line : Executed) (rest : List Executed)
    → Next (executed_lines script.lines) n line rest
    → run_of ideal_limits script.fields (take n (executed_lines script.lines)) ≡ Some so_far
    → tell ideal_limits script.fields so_far line.command ≡ Some later
    → run_of ideal_limits script.fields (take (n + 1) (executed_lines script.lines)) ≡ Some later
said-next script n so_far later line rest next said tells =
    let lines = executed_lines script.lines in
    ap (λ m. run_of ideal_limits script.fields (take m lines)) (add-one n)
    ∙ ap (run_of ideal_limits script.fields) next.taken
    ∙ run_of-push ideal_limits script.fields (take n lines) line
    ∙ ap (option_and_then (λ so_far. tell ideal_limits script.fields so_far line.command)) said
    ∙ tells

-- one line more is executed: what is left is the rest
dropped-next : (script : ScriptText) (n : ℕ) {line : Executed} {rest : List Executed}
    → Next (executed_lines script.lines) n line rest → left_after script (n + 1) ≡ rest
dropped-next script n next = ap (λ m. drop m (executed_lines script.lines)) (add-one n) ∙ next.dropped

-- a `repeat` or an `end` was executed
pub Running-passed : (script : ScriptText) (heap : HeapState) (objects : ℕ) (waiting : List ℕ)
    (old new : List ℕ → Type 0) (at at' : ℕ) (ts ts' : List ℕ) (n number : ℕ)
    → Running script heap objects waiting old new at ts n uncollected → n < lines_most
    → Goes script.lines at' ts' (left_after script n) (executed number None)
    → Running script heap objects waiting old new at' ts' (n + 1) uncollected
Running-passed script heap objects waiting old new at at' ts ts' n number r below goes =
    let so_far = r.reached.so_far in
    let line = executed number None in
    let next = next-drop (executed_lines script.lines) n line goes.rest goes.is in
    let reached : RanTo script (heap_of heap.main) (n + 1) = record {
      within = omega (arith, next.within);
      few = omega (arith, below);
      variables = r.reached.variables;
      so_far = so_far;
      said = said-next script n so_far so_far line goes.rest next r.reached.said refl;
      shown = r.reached.shown;
    } in
    record {
      reached = reached;
      opened = r.opened;
      spends = Spends.one_more (stage_of heap.main) (stage_of heap.main) n uncollected r.opened line r.spends
          (next_at (executed_lines script.lines) n line goes.rest goes.is) r.reached reached
          (LineAllocates.passes refl);
      ungranted = r.ungranted;
      shown = r.shown;
      left = subst (IsLeft script.lines at' ts') (sym (dropped-next script n next)) goes.left;
      handed = r.handed;
      made = r.made;
      few = omega (arith, r.few);
      cycle = r.cycle;
      since = r.since;
    }

-- a heap with a cycle open or not
abbrev cycled : HeapState → Bool → HeapState
cycled heap cycle = record heap { rest = with_cycle heap.rest cycle }

-- a command was carried out, did this with the heap, and left nothing granted
pub Running-carried : (script : ScriptText) (heap after : HeapState) (objects : ℕ) (waiting : List ℕ)
    (old new : List ℕ → Type 0) (at at' : ℕ) (ts ts' : List ℕ) (n number : ℕ) (command : Command) (text : List ℕ)
    (graph : Graph) {collections : Collections} → (r : Running script heap objects waiting old new at ts n collections)
    → n < lines_most
    → Goes script.lines at' ts' (left_after script n) (executed number (Some command))
    → after.rest ≡ with_cycle heap.rest (cycle_after_command heap.rest.in_cycle command)
    → after.main.seat.space ≡ heap.main.seat.space → after.main.seat.phase ≡ heap.main.seat.phase
    → meaning ideal_limits script.fields r.reached.so_far.graph command ≡ done graph text → MainShows after.main graph
    → LineAllocates r.opened (stage_of heap.main) (stage_of after.main) r.reached.so_far.graph graph collections
    (Some command)
    → in_eden after.main.young ≡ true → length after.main.free ≡ length heap.main.free
    → Running script after (objects + objects_made command) (waiting ++ text) old new at' ts' (n + 1) uncollected
Running-carried script heap after objects waiting old new at at' ts ts' n number command text graph {collections} r
    below goes rest space phase does-is shown uses ungranted rows =
    let so_far = r.reached.so_far in
    let later : Told = record { graph = graph; bytes = so_far.bytes ++ text } in
    let line = executed number (Some command) in
    let cycle = cycle_after_command heap.rest.in_cycle command in
    let next = next-drop (executed_lines script.lines) n line goes.rest goes.is in
    let reached : RanTo script (heap_of after.main) (n + 1) = record {
      within = omega (arith, next.within);
      few = omega (arith, below);
      variables = ap (λ (space : Space). space.variables) space ∙ r.reached.variables;
      so_far = later;
      said = said-next script n so_far later line goes.rest next r.reached.said (ap (told_with so_far) does-is);
      shown = shown.shows;
    } in
    record {
      reached = reached;
      opened = opened_after r.opened (Some command) (heap_of after.main) graph;
      spends = Spends.one_more (stage_of heap.main) (stage_of after.main) n collections r.opened line r.spends
          (next_at (executed_lines script.lines) n line goes.rest goes.is) r.reached reached uses;
      ungranted = ungranted;
      shown = still_shows (cycled heap cycle) after graph (cycled_shows heap cycle so_far.graph r.shown) rest space
          phase rows shown;
      left = subst (IsLeft script.lines at' ts') (sym (dropped-next script n next)) goes.left;
      handed = Handed-told text r.handed;
      made = ap (λ m. m + objects_made command) r.made
          ∙ sym (length-meaning ideal_limits script.fields so_far.graph graph command text does-is);
      few = omega (arith, r.few, makes_one command);
      cycle = ap (λ (one : Rest). one.in_cycle) rest ∙ ap (λ in_cycle. cycle_after_command in_cycle command) r.cycle
          ∙ sym (cycle_opened r.opened command (heap_of after.main) graph);
      since = since_behind script.fields r.opened command (heap_of after.main) so_far.graph graph text
          r.shown.main.is_graph does-is r.since;
    }

-- a run stands between two lines, whether a full collection is noted or not
abbrev pub Running-noted : {script : ScriptText} {heap : HeapState} {objects : ℕ} {waiting : List ℕ}
    {old new : List ℕ → Type 0} {at : ℕ} {ts : List ℕ} {n : ℕ} {collections : Collections} (collected : Bool)
    → Running script heap objects waiting old new at ts n collections
    → Running script (with_collected heap collected) objects waiting old new at ts n collections
Running-noted {heap = heap} collected r = record {
  reached = r.reached;
  opened = r.opened;
  spends = r.spends;
  ungranted = r.ungranted;
  shown = noted_shows heap collected r.reached.so_far.graph r.shown;
  left = r.left;
  handed = r.handed;
  made = r.made;
  few = r.few;
  cycle = r.cycle;
  since = r.since;
}
