-- The place and the turns that the interpreter goes on with are those of what is left to execute.
use Rattle.std.proofs.Common.{◌≡◌, ℕ, zero, suc, ◌<◌, ◌≤◌, List, [], ◌∷◌, length, get_or, Some, None, sym, ap, ◌∙◌}
use Rattle.std.proofs.Common.{inl, inr, arith}
use Rattle.std.specs.Prelude.{slice_get, option_map}
use Rattle.std.proofs.lemmas.Option.{slice_get-get_or, slice_get_within, slice_get_cases}
use Rattle.heap_command.specs.declared.command.Command.TheVariants.{New}
use Rattle.heap_command.specs.Executed.{Executed}
use Rattle.script_text.specs.declared.script.Line.{Line}
use Rattle.script_text.specs.declared.script.What.{What}
use Rattle.script_text.specs.declared.script.What.TheVariants.{Run, Repeat, End}
use Rattle.script_text.specs.Sound.{IsMatched, what_at}
use Rattle.script_text.specs.Unrolled.{executed}
use Rattle.script_text.specs.Left.{IsLeft, Goes}
use Rattle.script_text.proofs.Left.{past_command, into_block, past_block, back, out, inside_block}
use Rattle.heap_script.specs.LoopCounters.{standing_after, IsInside}
use Rattle.heap_script.specs.Progress.{command_in}

-- a line, by its parts
abbrev line_by : ℕ → What → Line
line_by number what = record { number = number; what = what }

-- where a run goes on after a line is a way on of what is left
goes-by : (lines : List Line) (at : ℕ) (ts : List ℕ) (left : List Executed) (number : ℕ) (what : What)
    → IsLeft lines at ts left → slice_get lines at ≡ Some (line_by number what)
    → Goes lines (standing_after at ts what).at (standing_after at ts what).turns left
    (executed number (command_in what))
goes-by lines at ts left number (Run command) is here = past_command lines at ts left number command is here
goes-by lines at ts left number (Repeat zero end_at) is here = past_block lines at ts left number end_at is here
goes-by lines at ts left number (Repeat (suc more) end_at) is here =
    into_block lines at ts left number more end_at is here
goes-by lines at [] left number (End repeat_at) is here = absurd (inside_block lines at left number repeat_at is here)
goes-by lines at (zero ∷ ts) left number (End repeat_at) is here = out lines at ts left number repeat_at is here
goes-by lines at (suc more ∷ ts) left number (End repeat_at) is here =
    back lines at more ts left number repeat_at is here

-- what stands past the end of the lines
abbrev pub past_end : Line
past_end = record { number = 0; what = Run (New 0 0) }

-- a line that an index reads stands there
here : (lines all : List Line) (at : ℕ) → lines ≡ all → at < length lines
    → slice_get all at ≡ Some (get_or lines at past_end)
here lines all at same within = ap (λ xs. slice_get xs at) (sym same) ∙ slice_get-get_or lines at past_end within

-- where a run goes on after the line that an index reads
pub goes_on : (lines all : List Line) (at : ℕ) (ts : List ℕ) (left : List Executed) → lines ≡ all → at < length lines
    → IsLeft all at ts left → let line = get_or lines at past_end in
    Goes all (standing_after at ts line.what).at (standing_after at ts line.what).turns left
    (executed line.number (command_in line.what))
goes_on lines all at ts left same within is =
    let line = get_or lines at past_end in
    goes-by all at ts left line.number line.what is (here lines all at same within)

-- an `end` stands in an open block
inside-by : (lines : List Line) (at : ℕ) (ts : List ℕ) (left : List Executed) (number : ℕ) (what : What)
    → IsLeft lines at ts left → slice_get lines at ≡ Some (line_by number what) → IsInside ts what
inside-by lines at ts left number (Run command) is here = tt
inside-by lines at ts left number (Repeat times end_at) is here = tt
inside-by lines at [] left number (End repeat_at) is here =
    absurd (inside_block lines at left number repeat_at is here)
inside-by lines at (turns ∷ ts) left number (End repeat_at) is here = omega arith

-- so does the line that an index reads, if it is one
pub is_inside : (lines all : List Line) (at : ℕ) (ts : List ℕ) (left : List Executed) → lines ≡ all → at < length lines
    → IsLeft all at ts left → IsInside ts (get_or lines at past_end).what
is_inside lines all at ts left same within is =
    let line = get_or lines at past_end in
    inside-by all at ts left line.number line.what is (here lines all at same within)

-- what the line that stands at a place does
stands : (lines : List Line) (at number : ℕ) (what : What) → slice_get lines at ≡ Some (line_by number what)
    → what_at lines at ≡ Some what
stands lines at number what is = ap (option_map (λ (line : Line). line.what)) is

-- where a run goes on after a line is no further than the end of the lines
within-by : (lines : List Line) (at : ℕ) (ts : List ℕ) (number : ℕ) (what : What) → IsMatched lines
    → slice_get lines at ≡ Some (line_by number what) → (standing_after at ts what).at ≤ length lines
within-by lines at ts number (Run command) matched is =
    omega (arith, slice_get_within lines at (line_by number (Run command)) is)
within-by lines at ts number (Repeat zero end_at) matched is =
    let ends = (matched.repeats at zero end_at (stands lines at number (Repeat zero end_at) is)).1 in
    elim ((slice_get_cases lines end_at).1) [
      | inl there ↦ omega (arith, there.1)
      | inr past ↦
          let none : None ≡ Some (End at) = sym (ap (option_map (λ (line : Line). line.what)) past.1) ∙ ends in
          absurd (cc)
    ]
within-by lines at ts number (Repeat (suc more) end_at) matched is =
    omega (arith, slice_get_within lines at (line_by number (Repeat (suc more) end_at)) is)
within-by lines at [] number (End repeat_at) matched is =
    omega (arith, slice_get_within lines at (line_by number (End repeat_at)) is)
within-by lines at (zero ∷ ts) number (End repeat_at) matched is =
    omega (arith, slice_get_within lines at (line_by number (End repeat_at)) is)
within-by lines at (suc more ∷ ts) number (End repeat_at) matched is =
    let begins = (matched.ends at repeat_at (stands lines at number (End repeat_at) is)).0 in
    omega (arith, begins, slice_get_within lines at (line_by number (End repeat_at)) is)

-- where a run goes on after the line that an index reads is no further than the end
pub goes_within : (lines all : List Line) (at : ℕ) (ts : List ℕ) → lines ≡ all → at < length lines → IsMatched all
    → (standing_after at ts (get_or lines at past_end).what).at ≤ length all
goes_within lines all at ts same within matched =
    let line = get_or lines at past_end in
    within-by all at ts line.number line.what matched (here lines all at same within)
