-- A line that is executed, by what is left of the lines from it on.
use Rattle.std.proofs.Common.{◌≡◌, ◌∙◌, ◌==◌, ℕ, suc, ◌+◌, ◌-◌, ◌<◌, ◌≤◌, false, List, [], ◌∷◌, length, drop}
use Rattle.std.proofs.Common.{get_or, Some, None, Ok, refl, sym, ap, subst, add-zero, append-nil, arith}
use Rattle.std.proofs.lemmas.List.{length-drop, get_or-drop, drop-drop}
use Rattle.object_graph.specs.Run.{lines_most}
use Rattle.heap_model.specs.Types.{Command}
use Rattle.script_text.specs.declared.script.Line.{Line}
use Rattle.script_text.specs.declared.script.What.{What}
use Rattle.script_text.specs.declared.script.What.TheVariants.{Run, Repeat, End}
use Rattle.script_text.specs.Scripts.{ScriptText}
use Rattle.script_text.specs.Sound.{IsNumbered, IsMatched, what_at}
use Rattle.script_text.specs.Unrolled.{executed}
use Rattle.script_text.specs.Left.{Goes}
use Rattle.script_text.proofs.Left.{at_most_four}
use Rattle.write_barrier.specs.MutatorState.{heap_of}
use Rattle.collector.specs.States.{HeapState, with_cycle}
use Rattle.mutator.specs.CarriesOut.{field_numbers}
use Rattle.mutator.specs.declared.output.TheConstants.{OUTPUT_BYTES, ROOM}
use Rattle.heap_script.specs.Between.{Running, only, IsRest, RunsLines}
use Rattle.heap_script.specs.Cycles.{cycle_after_line}
use Rattle.heap_script.specs.LoopCounters.{Standing, standing_after, IsInside}
use Rattle.heap_script.specs.Noting.{NotesLine, Passes}
use Rattle.heap_script.specs.Progress.{made_by, command_in, CarriesLine}
use Rattle.heap_script.specs.Reached.{left_after}
use Rattle.heap_script.specs.Runs.{OutputHolds}
use Rattle.heap_script.specs.Stages.{uncollected}
use Rattle.heap_script.proofs.LineCarried.{Running-line, TellsAt-line}
use Rattle.heap_script.proofs.InspectedLines.{notes_next}
use Rattle.heap_script.proofs.Passing.{holds_on}
use Rattle.heap_script.proofs.Ways.{goes_on, goes_within, is_inside, past_end}

-- the place where the last of some lines begin
abbrev pub place_of : List Line → List Line → ℕ
place_of lines rest = length lines - length rest

-- where a run goes on behind the first of the last lines, which does this
abbrev pub behind : List Line → List Line → List ℕ → What → Standing
behind lines rest ts what = standing_after (place_of lines rest) ts what

-- the lines from a place on begin there
from_place : (lines : List Line) (at : ℕ) → at ≤ length lines → length lines - length (drop at lines) ≡ at
from_place lines at within = omega (arith, length-drop at lines, within)

-- the lines from a place on are the last ones
pub rest_from : (lines : List Line) (at : ℕ) → at ≤ length lines → IsRest lines (drop at lines)
rest_from lines at within = record {
  within = omega (arith, length-drop at lines);
  tail = ap (λ n. drop n lines) (sym (from_place lines at within));
}

-- the first of the last lines is the one where they begin
first_line : (lines rest : List Line) (default : Line) → IsRest lines rest
    → get_or rest 0 default ≡ get_or lines (length lines - length rest) default
first_line lines rest default is =
    let at = length lines - length rest in
    ap (λ (xs : List Line). get_or xs 0 default) is.tail ∙ get_or-drop at lines 0 default
    ∙ ap (λ n. get_or lines n default) (add-zero at)

-- the others are those from the next place on
pub behind_first : (lines rest : List Line) → IsRest lines rest
    → drop 1 rest ≡ drop (suc (length lines - length rest)) lines
behind_first lines rest is =
    let at = length lines - length rest in
    let next : at + 1 ≡ suc at = omega arith in
    ap (drop 1) is.tail ∙ drop-drop 1 at lines ∙ ap (λ n. drop n lines) next

-- lines that are not none
pub some_left : (rest : List Line) → (length rest == 0) ≡ false → 1 ≤ length rest
some_left [] none = absurd (cc)
some_left (line ∷ lines) none = omega arith

-- the first of them does what an index reads there
pub first_does : (rest : List Line) (what : What) → 1 ≤ length rest → (get_or rest 0 past_end).what ≡ what
    → what_at rest 0 ≡ Some what
first_does [] what some does = absurd (omega arith)
first_does (line ∷ lines) what some does = ap Some does

-- where the first of some lines does this, they are not none, and an index reads it
pub by_index : (rest : List Line) (what : What) → what_at rest 0 ≡ Some what
    → (1 ≤ length rest) × ((get_or rest 0 past_end).what ≡ what)
by_index [] what does = absurd (cc)
by_index (line ∷ lines) what does = (omega arith, cc)

-- behind the first of them there is one less
pub one_less : (spare : ℕ) (rest next : List Line) → 1 ≤ length rest → next ≡ drop 1 rest
    → spare + length next + 1 ≡ spare + length rest
one_less spare rest next some others =
    let less : length next ≡ length rest - 1 = ap length others ∙ length-drop 1 rest in
    omega (arith, less, some)

-- as many more as before may be executed but one, wherever the run goes on
pub one_spent : (spare all rest after : ℕ) → all ≤ spare → suc after ≤ all → 1 ≤ rest → rest ≤ all
    → spare + after - (all - rest) + (all - (after + 1)) + 1 ≡ spare + rest
one_spent spare all rest after enough within some last = omega arith

-- none is executed at first
pub none_spent : (n rest last : ℕ) → n ≤ last → rest ≤ last - n → last - (last - n - rest + rest) ≡ n
none_spent n rest last few enough = omega arith

-- a run that stands at a place after so many lines
pub standing : {script : ScriptText} {heap : HeapState} {objects at at' n n' : ℕ} {waiting ts : List ℕ}
    {old new : List ℕ → Type 0} → at' ≡ at → n' ≡ n → Running script heap objects waiting old new at ts n uncollected
    → Running script heap objects waiting old new at' ts n' uncollected
standing there executed running = rw (there, executed) running

-- lines are executed from the place of a run on, until so many were executed in all
pub RunsLines-start : {script : ScriptText} {heap : HeapState} {objects at n last : ℕ} {out taken ts : List ℕ}
    (rest : List Line) → IsNumbered script → IsMatched script.lines → length script.fields ≤ field_numbers
    → at ≤ length script.lines → rest ≡ drop at script.lines → n ≤ last → last ≤ lines_most
    → length rest ≤ last - n
    → Running script heap objects out (only []) (only taken) at ts n uncollected
    → RunsLines script heap objects out taken ts rest (last - n - length rest) last
RunsLines-start {script} {at = at} {n} {last} rest numbered matched fields within from begun few enough start =
    let place : length script.lines - length rest ≡ at =
    ap (λ (xs : List Line). length script.lines - length xs) from ∙ from_place script.lines at within in
    record {
      numbered = numbered;
      matched = matched;
      fields = fields;
      is = subst (IsRest script.lines) (sym from) (rest_from script.lines at within);
      most = omega (arith, enough);
      few = few;
      running = standing place (none_spent n (length rest) last begun enough) start;
    }

-- a line that is not one that runs a command runs none
pub no_command : (what : What) → ((command : Command) → what ≡ Run command → ⊥) → command_in what ≡ None
no_command (Run command) none = absurd (none command refl)
no_command (Repeat times end_at) none = refl
no_command (End repeat_at) none = refl

module _ {script : ScriptText} {heap : HeapState} {objects : ℕ} {out taken ts : List ℕ} {rest : List Line}
    {spare last : ℕ} (r : RunsLines script heap objects out taken ts rest spare last) (what : What)
    (does : what_at rest 0 ≡ Some what) where
  -- the run stands at one of the lines
  pub below : place_of script.lines rest < length script.lines
  below = omega (arith, r.is.within, (by_index rest what does).0)

  -- and that line does this
  pub reads : (get_or script.lines (place_of script.lines rest) past_end).what ≡ what
  reads =
      ap (λ (line : Line). line.what) (sym (first_line script.lines rest past_end r.is)) ∙ (by_index rest what does).1

  -- what it does is what is left to execute first
  pub goes_next : Goes script.lines (behind script.lines rest ts what).at (behind script.lines rest ts what).turns
      (left_after script (last - (spare + length rest)))
      (executed (get_or script.lines (place_of script.lines rest) past_end).number (command_in what))
  goes_next =
      let at = place_of script.lines rest in
      subst (λ (one : What).
      Goes script.lines (behind script.lines rest ts one).at (behind script.lines rest ts one).turns
      (left_after script (last - (spare + length rest)))
      (executed (get_or script.lines at past_end).number (command_in one))) reads
      (goes_on script.lines script.lines at ts _ refl below r.running.left)

  -- the run goes on among the lines, or at their end
  pub stays_within : (behind script.lines rest ts what).at ≤ length script.lines
  stays_within =
      subst (λ (one : What). (behind script.lines rest ts one).at ≤ length script.lines) reads
      (goes_within script.lines script.lines (place_of script.lines rest) ts refl below r.matched)

  -- an `end` stands in a block
  pub stands_inside : IsInside ts what
  stands_inside =
      subst (IsInside ts) reads
      (is_inside script.lines script.lines (place_of script.lines rest) ts _ refl below r.running.left)

  -- and behind it no more than four are open
  pub stays_shallow : length (behind script.lines rest ts what).turns ≤ 4
  stays_shallow = at_most_four script.lines _ _ _ r.matched goes_next.left

  module _ (after : HeapState) (next : List Line) (spare' : ℕ)
      (on : next ≡ drop (behind script.lines rest ts what).at script.lines)
      (count : spare' + length next + 1 ≡ spare + length rest)
      (stays : after.rest ≡ with_cycle heap.rest (cycle_after_line heap.rest.in_cycle (command_in what)))
      (carries : CarriesLine script.fields heap.rest.in_cycle heap.main after.main r.running.reached.so_far.graph
      (command_in what) [] (Ok tt)) where
    -- one line more is executed
    one_executed : last - (spare' + length next) ≡ last - (spare + length rest) + 1
    one_executed = omega (arith, count, r.most)

    -- a line was executed
    pub RunsLines-line : (objects' : ℕ) (ts' : List ℕ) → objects' ≡ objects + made_by (command_in what)
        → ts' ≡ (behind script.lines rest ts what).turns
        → RunsLines script after objects' out taken ts' next spare' last
    RunsLines-line objects' ts' made turned =
        let n = last - (spare + length rest) in
        let way = behind script.lines rest ts what in
        let there : length script.lines - length next ≡ way.at =
        ap (λ (xs : List Line). length script.lines - length xs) on ∙ from_place script.lines way.at stays_within in
        let few : n < lines_most = omega (arith, (by_index rest what does).0, r.most, r.few) in
        record {
          numbered = r.numbered;
          matched = r.matched;
          fields = r.fields;
          is = subst (IsRest script.lines) (sym on) (rest_from script.lines way.at stays_within);
          most = omega (arith, count, r.most);
          few = r.few;
          running = rw (there, one_executed, made, turned, ← append-nil out)
              (Running-line script heap after objects out (only []) (only taken) (place_of script.lines rest) way.at ts
              way.turns n (get_or script.lines (place_of script.lines rest) past_end).number (command_in what) []
              r.running few goes_next stays carries);
        }

    -- and led on, if no full collection is noted for it
    pub passes_line : {start : HeapState} {from : ℕ}
        → NotesLine script.fields heap after r.running.reached.so_far.graph (command_in what) [] (Ok tt)
        → after.collected ≡ false → Passes script start from heap (last - (spare + length rest))
        → Passes script start from after (last - (spare' + length next))
    passes_line {start} {from} notes none passed =
        let n = last - (spare + length rest) in
        let way = behind script.lines rest ts what in
        subst (λ (m : ℕ). Passes script start from after m) (sym one_executed)
        (Passes.one_more heap after n passed
        (notes_next script heap after way.at way.turns n
        (get_or script.lines (place_of script.lines rest) past_end).number (command_in what) [] (Ok tt)
        r.running.reached goes_next stays notes) none)

    -- and wrote nothing
    pub holds_line : length out + ROOM ≤ OUTPUT_BYTES → OutputHolds script (last - (spare + length rest)) out
        → OutputHolds script (last - (spare' + length next)) out
    holds_line room holds =
        let n = last - (spare + length rest) in
        rw (one_executed, ← append-nil out)
        (holds_on n out [] room holds
        (TellsAt-line script (heap_of heap.main) heap.main after.main (behind script.lines rest ts what).at
        (behind script.lines rest ts what).turns n
        (get_or script.lines (place_of script.lines rest) past_end).number (command_in what) [] heap.rest.in_cycle
        r.running.reached goes_next carries))
