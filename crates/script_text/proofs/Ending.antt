-- The lines of statements, one after another: a `repeat` is told where it ends when its `end` is read.
use Rattle.std.proofs.Common.{◌≡◌, ℕ, zero, suc, ◌+◌, ◌-◌, ◌<◌, false, cond, eqb, List, [], ◌∷◌, ◌++◌, length}
use Rattle.std.proofs.Common.{set, slice_get, Some, get_or, append_assoc, refl, sym, ap, ◌∙◌, subst, arith}
use Rattle.std.proofs.lemmas.Bool.Decides.{nat_tests}
use Rattle.script_text.specs.declared.table.Keyword.{Keyword}
use Rattle.script_text.specs.declared.table.Keyword.TheVariants as keyword
use Rattle.script_text.specs.declared.script.Line.{Line}
use Rattle.script_text.specs.declared.statements.NumberedStatement.{NumberedStatement as StatedSlices}
use Rattle.script_text.specs.Statements.{RawOperand}
use Rattle.script_text.specs.Scripts.{NumberedStatement, line, end_after, what_in}
use Rattle.script_text.specs.Grammar.{lines_from, open_after, innermost_of}
use Rattle.script_text.specs.Blocks.{ended, with_end, closed_lines, AreBelow}
use Rattle.script_text.specs.Fitting.{MayStand}

-- a statement of this command
abbrev pub speaks : ℕ → Keyword → List RawOperand → NumberedStatement
speaks number keyword operands =
    record { number = number; statement = record { keyword = keyword; operands = operands } }

-- what stands for the statement past the last
abbrev pub no_stated : StatedSlices
no_stated = record { number = 0; statement = record { keyword = keyword.New; operands = [] } }

-- past an `end`, one `repeat` less is open
pub end_after-end : (inside at number : ℕ) (operands : List RawOperand) (more : List NumberedStatement)
    → end_after (suc inside) at (speaks number keyword.End operands ∷ more) ≡ end_after inside (suc at) more
end_after-end inside at number operands more =
    let test : eqb (suc inside) 0 ≡ false = grind (arith, nat_tests) in
    let less : suc inside - 1 ≡ inside = omega arith in
    ap (λ b. cond b at (end_after (suc inside - 1) (suc at) more)) test ∙ ap (λ n. end_after n (suc at) more) less

-- a line that is told where it ends stands in its place
pub with_end-set : (end_at at : ℕ) (lines : List Line) (none : Line) → at < length lines
    → set lines at (line (get_or lines at none).number (ended end_at (get_or lines at none).what))
    ≡ with_end end_at at lines
with_end-set end_at at [] none lt = absurd (omega (arith, lt))
with_end-set end_at zero (first ∷ lines) none lt = refl
with_end-set end_at (suc at) (first ∷ lines) none lt =
    ap (λ rest. first ∷ rest) (with_end-set end_at at lines none (omega (arith, lt)))

-- the first of some places that are below another
pub first_below : (most : ℕ) (places : List ℕ) (first : ℕ) → AreBelow most places → slice_get places 0 ≡ Some first
    → first < most
first_below most [] first below e = cc
first_below most (place ∷ places) first below e =
    let same : place ≡ first = cc in
    subst (λ n. n < most) same below.0

-- there are as many lines
pub length-with_end : (end_at at : ℕ) (lines : List Line) → length (with_end end_at at lines) ≡ length lines
length-with_end end_at at [] = refl
length-with_end end_at zero (first ∷ lines) = refl
length-with_end end_at (suc at) (first ∷ lines) = ap suc (length-with_end end_at at lines)

-- the lines after it stay
with_end-append : (end_at at : ℕ) (lines more : List Line) → at < length lines
    → with_end end_at at (lines ++ more) ≡ with_end end_at at lines ++ more
with_end-append end_at at [] more lt = absurd (omega (arith, lt))
with_end-append end_at zero (first ∷ lines) more lt = refl
with_end-append end_at (suc at) (first ∷ lines) more lt =
    ap (λ rest. first ∷ rest) (with_end-append end_at at lines more (omega (arith, lt)))

-- the last line is told where it ends
with_end-last : (end_at : ℕ) (lines : List Line) (last : Line)
    → with_end end_at (length lines) (lines ++ last ∷ []) ≡ lines ++ line last.number (ended end_at last.what) ∷ []
with_end-last end_at [] last = refl
with_end-last end_at (first ∷ lines) last = ap (λ rest. first ∷ rest) (with_end-last end_at lines last)

-- the lines, where each of the open `repeat`s, the innermost first, ends at its place
abbrev pub all_ended : (ℕ → ℕ) → List ℕ → List Line → List Line
all_ended ends [] lines = lines
all_ended ends (innermost ∷ outer) lines = all_ended (λ n. ends (suc n)) outer (with_end (ends 0) innermost lines)

-- only the places count where they end
all_ended-same : (open' : List ℕ) (ends others : ℕ → ℕ) (lines : List Line) → ((n : ℕ) → ends n ≡ others n)
    → all_ended ends open' lines ≡ all_ended others open' lines
all_ended-same [] ends others lines same = refl
all_ended-same (innermost ∷ outer) ends others lines same =
    ap (λ e. all_ended (λ n. ends (suc n)) outer (with_end e innermost lines)) (same 0)
    ∙ all_ended-same outer (λ n. ends (suc n)) (λ n. others (suc n)) (with_end (others 0) innermost lines)
    (λ n. same (suc n))

-- a line that none of them is stays
all_ended-append : (open' : List ℕ) (ends : ℕ → ℕ) (lines more : List Line) → AreBelow (length lines) open'
    → all_ended ends open' (lines ++ more) ≡ all_ended ends open' lines ++ more
all_ended-append [] ends lines more below = refl
all_ended-append (innermost ∷ outer) ends lines more below =
    ap (all_ended (λ n. ends (suc n)) outer) (with_end-append (ends 0) innermost lines more below.0)
    ∙ all_ended-append outer (λ n. ends (suc n)) (with_end (ends 0) innermost lines) more
    (subst (λ count. AreBelow count outer) (sym (length-with_end (ends 0) innermost lines)) below.1)

-- places are below the next place too
below_next : (at : ℕ) (places : List ℕ) → AreBelow at places → AreBelow (at + 1) places
below_next at [] below = tt
below_next at (place ∷ places) below = (omega (arith, below.0), below_next at places below.1)

-- the `repeat`s that are open after a command stand before the next place
pub below_after : (at : ℕ) (open' : List ℕ) (k : Keyword) → AreBelow at open'
    → AreBelow (at + 1) (open_after at open' k)
below_after at open' keyword.Repeat below = (omega arith, below_next at open' below)
below_after at [] keyword.End below = tt
below_after at (innermost ∷ outer) keyword.End below = below_next at outer below.1
below_after at open' other below = below_next at open' below

-- as many lines as before a command
pub length-closed_lines : (k : Keyword) (at : ℕ) (open' : List ℕ) (lines : List Line)
    → length (closed_lines k at open' lines) ≡ length lines
length-closed_lines keyword.End at [] lines = refl
length-closed_lines keyword.End at (innermost ∷ outer) lines = length-with_end at innermost lines
length-closed_lines other at open' lines = refl

-- a line that is written, and those of the rest
written_then : (open' : List ℕ) (ends : ℕ → ℕ) (lines : List Line) (next : Line) (rest : List Line)
    → AreBelow (length lines) open'
    → all_ended ends open' (lines ++ next ∷ []) ++ rest ≡ all_ended ends open' lines ++ (next ∷ rest)
written_then open' ends lines next rest below =
    ap (λ all. all ++ rest) (all_ended-append open' ends lines (next ∷ []) below)
    ∙ append_assoc (all_ended ends open' lines) (next ∷ []) rest

-- One statement more is a line. Its `repeat` is not told where it ends, and its `end` tells it its `repeat`.
pub lines-step : (k : Keyword) (variables fields : List (List ℕ)) (number : ℕ) (operands : List RawOperand)
    (open' : List ℕ) (lines : List Line) (more : List NumberedStatement)
    → AreBelow (length lines) open' → MayStand (length open') k
    → all_ended (λ n. end_after n (suc (length lines)) more) (open_after (length lines) open' k)
    (closed_lines k (length lines) open' lines ++ line number (what_in variables fields 0 (innermost_of open')
    (speaks number k operands).statement) ∷ [])
    ++ lines_from variables fields (suc (length lines)) (open_after (length lines) open' k) more
    ≡ all_ended (λ n. end_after n (length lines) (speaks number k operands ∷ more)) open' lines
    ++ lines_from variables fields (length lines) open' (speaks number k operands ∷ more)
lines-step keyword.Repeat variables fields number operands open' lines more below may =
    let at = length lines in
    let ends = λ (n : ℕ). end_after n (suc at) more in
    let what = what_in variables fields 0 (innermost_of open') (speaks number keyword.Repeat operands).statement in
    let rest = lines_from variables fields (suc at) (at ∷ open') more in
    ap (λ all. all_ended (λ n. ends (suc n)) open' all ++ rest) (with_end-last (ends 0) lines (line number what))
    ∙ written_then open' (λ n. ends (suc n)) lines (line number (ended (ends 0) what)) rest below
lines-step keyword.End variables fields number operands [] lines more below may = absurd (omega (arith, may))
lines-step keyword.End variables fields number operands (innermost ∷ outer) lines more below may =
    let at = length lines in
    let ends = λ (n : ℕ). end_after n (suc at) more in
    let all = speaks number keyword.End operands ∷ more in
    let what = what_in variables fields 0 innermost (speaks number keyword.End operands).statement in
    let rest = lines_from variables fields (suc at) outer more in
    let closed = with_end at innermost lines in
    written_then outer ends closed (line number what) rest
    (subst (λ count. AreBelow count outer) (sym (length-with_end at innermost lines)) below.1)
    ∙ ap (λ before. before ++ (line number what ∷ rest))
    (all_ended-same outer ends (λ n. end_after (suc n) at all) closed
    (λ n. sym (end_after-end n at number operands more)))
lines-step other variables fields number operands open' lines more below may =
    let at = length lines in
    let what = what_in variables fields 0 (innermost_of open') (speaks number other operands).statement in
    written_then open' (λ n. end_after n (suc at) more) lines (line number what)
    (lines_from variables fields (suc at) open' more) below
