-- How what is left to execute of a script changes from one line to the next.
use Rattle.std.proofs.Common.{◌≡◌, ℕ, suc, ◌+◌, ◌≤◌, List, [], ◌∷◌, ◌++◌, length, take, drop}
use Rattle.std.proofs.Common.{slice_get, Some, None, refl, sym, ap, ◌∙◌, subst, length-append, length-drop, arith}
use Rattle.heap_command.specs.declared.command.Command.{Command}
use Rattle.heap_command.specs.Executed.{Executed}
use Rattle.script_text.specs.declared.script.Line.{Line}
use Rattle.script_text.specs.Sound.{depth_of, IsMatched}
use Rattle.script_text.specs.Unrolled.{executed, turns, executed_lines}
use Rattle.script_text.specs.Whole.{run_line, repeat_line, end_line, IsPaired}
use Rattle.script_text.specs.Left.{IsLeft, Goes}
use Rattle.script_text.proofs.Depths.{drop-get, drop-end, depth_of-placed, depth-past, depth-next}
use Rattle.script_text.proofs.Placed.{AreBlocks-placed}
use Rattle.script_text.proofs.Unrolling.{unrolls_runs}
use Rattle.script_text.proofs.Holding.{holds, first_of, placed-run, placed-end, some_lines, no_end-run}
use Rattle.script_text.proofs.Turning.{turn_first, block_begins, block_ends}

-- all lines are left at the beginning
pub begins : (lines : List Line) → IsPaired 0 lines → IsLeft lines 0 [] (executed_lines lines)
begins lines placed = IsLeft.outside 0 lines refl refl placed

-- past the last line nothing is left
pub at_end : (lines : List Line) (at : ℕ) (ts : List ℕ) (left : List Executed) → IsLeft lines at ts left
    → slice_get lines at ≡ None → (ts ≡ []) × (left ≡ [])
at_end lines _ _ _ (IsLeft.outside at rest cut deep placed) e =
    let none : rest ≡ [] = sym cut ∙ drop-end lines at e in
    (refl, ap executed_lines none)
at_end lines _ _ _
    (IsLeft.inside at repeat_at turns_left last outer rest body after later cut deep placed around inner behind) e =
    absurd (some_lines rest (end_line last repeat_at) after (sym cut ∙ drop-end lines at e))

-- a command is a step, and the next line follows
pub past_command : (lines : List Line) (at : ℕ) (ts : List ℕ) (left : List Executed) (number : ℕ) (command : Command)
    → IsLeft lines at ts left → slice_get lines at ≡ Some (run_line number command)
    → Goes lines (suc at) ts left (executed number (Some command))
past_command lines at ts left number command h e =
    let here = holds lines at ts left h in
    let line = run_line number command in
    let from = drop-get lines at line e in
    let split =
    first_of here.rest here.more line (drop (suc at) lines) here.stops (no_end-run number command)
    (sym here.cut ∙ from) in
    let some = split.0 in
    let placed = placed-run at here.rest number command some here.placed split.1 in
    let count : suc at + length some ≡ at + length here.rest = omega (arith, ap length split.1) in
    record {
      rest = executed_lines some ++ here.tail;
      is =
          here.is ∙ ap (λ all. executed_lines all ++ here.tail) split.1
          ∙ ap (λ all. all ++ here.tail) (unrolls_runs number command some (AreBlocks-placed (suc at) some placed));
      left = here.again (suc at) some (sym split.2) (depth-next lines at line e ∙ here.deep) placed count;
    }

-- a `repeat` with turns is a step, and its first line follows
pub into_block : (lines : List Line) (at : ℕ) (ts : List ℕ) (left : List Executed) (number turns_left end_at : ℕ)
    → IsLeft lines at ts left → slice_get lines at ≡ Some (repeat_line number (suc turns_left) end_at)
    → Goes lines (suc at) (turns_left ∷ ts) left (executed number None)
into_block lines at ts left number turns_left end_at h e =
    let here = block_begins lines at ts left number (suc turns_left) end_at h e in
    let block = executed_lines here.body ++ (executed here.last None ∷ []) in
    let place : end_at ≡ suc at + length here.body = here.place ∙ omega arith in
    record {
      rest = executed_lines here.body ++ (executed here.last None ∷ (turns turns_left block ++ here.later));
      is =
          here.is ∙ ap (λ all. executed number None ∷ all)
          (turn_first (executed_lines here.body) (turns turns_left block) here.later (executed here.last None));
      left =
          IsLeft.inside (suc at) at turns_left here.last ts here.body here.body here.after here.later here.cut
          here.deep here.placed here.cut here.placed
          (subst (λ n. IsLeft lines (suc n) ts here.later) place here.behind);
    }

-- a `repeat` of no turn is a step, and the line behind its `end` follows
pub past_block : (lines : List Line) (at : ℕ) (ts : List ℕ) (left : List Executed) (number end_at : ℕ)
    → IsLeft lines at ts left → slice_get lines at ≡ Some (repeat_line number 0 end_at)
    → Goes lines (suc end_at) ts left (executed number None)
past_block lines at ts left number end_at h e =
    let here = block_begins lines at ts left number 0 end_at h e in
    record { rest = here.later; is = here.is; left = here.behind }

-- an `end` with a turn left is a step, and the first line of its block follows
pub back : (lines : List Line) (at turns_left : ℕ) (ts : List ℕ) (left : List Executed) (number repeat_at : ℕ)
    → IsLeft lines at (suc turns_left ∷ ts) left → slice_get lines at ≡ Some (end_line number repeat_at)
    → Goes lines (suc repeat_at) (turns_left ∷ ts) left (executed number None)
back lines at turns_left ts left number repeat_at h e =
    let here = block_ends lines at (suc turns_left) ts left number repeat_at h e in
    let end = end_line number repeat_at in
    let block = executed_lines here.body ++ (executed number None ∷ []) in
    let place : at ≡ suc repeat_at + length here.body =
    omega (
      arith,
      ap length here.cut,
      ap length here.around,
      length-append here.body
          (end ∷ here.after),
      length-drop at lines,
      length-drop (suc repeat_at) lines,
    ) in
    let deep : depth_of 0 (take (suc repeat_at) lines) ≡ suc (length ts) =
    sym (depth_of-placed (suc repeat_at) (depth_of 0 (take (suc repeat_at) lines)) here.body here.placed)
    ∙ sym (depth-past lines (suc repeat_at) here.body (end ∷ here.after) here.around)
    ∙ sym (ap (λ n. depth_of 0 (take n lines)) place) ∙ here.deep in
    record {
      rest = executed_lines here.body ++ (executed number None ∷ (turns turns_left block ++ here.later));
      is =
          here.is ∙ ap (λ all. executed number None ∷ all)
          (turn_first (executed_lines here.body) (turns turns_left block) here.later (executed number None));
      left =
          IsLeft.inside (suc repeat_at) repeat_at turns_left number ts here.body here.body here.after here.later
          here.around deep here.placed here.around here.placed
          (subst (λ n. IsLeft lines (suc n) ts here.later) place here.behind);
    }

-- an `end` with no turn left is a step, and the line behind it follows
pub out : (lines : List Line) (at : ℕ) (ts : List ℕ) (left : List Executed) (number repeat_at : ℕ)
    → IsLeft lines at (0 ∷ ts) left → slice_get lines at ≡ Some (end_line number repeat_at)
    → Goes lines (suc at) ts left (executed number None)
out lines at ts left number repeat_at h e =
    let here = block_ends lines at 0 ts left number repeat_at h e in
    record { rest = here.later; is = here.is; left = here.behind }

-- an `end` stands inside a block
pub inside_block : (lines : List Line) (at : ℕ) (left : List Executed) (number repeat_at : ℕ)
    → IsLeft lines at [] left → slice_get lines at ≡ Some (end_line number repeat_at) → ⊥
inside_block lines _ _ number repeat_at (IsLeft.outside at rest cut deep placed) e =
    placed-end at rest number repeat_at (drop (suc at) lines) placed
    (sym cut ∙ drop-get lines at (end_line number repeat_at) e)

-- for each open block there is a number of turns
pub depth : (lines : List Line) (at : ℕ) (ts : List ℕ) (left : List Executed) → IsLeft lines at ts left
    → depth_of 0 (take at lines) ≡ length ts
depth lines _ _ _ (IsLeft.outside at rest cut deep placed) = deep
depth lines _ _ _
    (IsLeft.inside at repeat_at turns_left last outer rest body after later cut deep placed around inner behind) =
    deep

-- at most four blocks are open
pub at_most_four : (lines : List Line) (at : ℕ) (ts : List ℕ) (left : List Executed) → IsMatched lines
    → IsLeft lines at ts left → length ts ≤ 4
at_most_four lines at ts left matched h = omega (arith, matched.nested at, depth lines at ts left h)
