-- The lines of a script that was read: each `repeat` has its `end`, and each of the two names the place of the other.
use Rattle.std.proofs.Common.{◌≡◌, ℕ, suc, ◌+◌, List, [], ◌∷◌, ◌++◌, length, refl, sym, ap, ◌∙◌}
use Rattle.std.proofs.Common.{subst, append_assoc, length-append, arith}
use Rattle.heap_command.specs.declared.command.Command.{Command}
use Rattle.script_text.specs.declared.table.Keyword.{Keyword}
use Rattle.script_text.specs.declared.table.Keyword.TheVariants as keyword
use Rattle.script_text.specs.declared.script.Line.{Line}
use Rattle.script_text.specs.Statements.{RawOperand}
use Rattle.script_text.specs.Scripts.{NumberedStatement, end_after}
use Rattle.script_text.specs.Grammar.{lines_from, open_after}
use Rattle.script_text.specs.Whole.{run_line, repeat_line, end_line, AreBlocks, IsPaired}
use Rattle.script_text.proofs.Ending.{speaks, end_after-end}
use Rattle.script_text.specs.Fitting.{AreStated, MayStand}
use Rattle.script_text.proofs.Nested.{later}

-- lines at their places are whole
pub AreBlocks-placed : (at : ℕ) (lines : List Line) → IsPaired at lines → AreBlocks lines
AreBlocks-placed _ _ (IsPaired.none at) = AreBlocks.none
AreBlocks-placed _ _ (IsPaired.run at number command lines h) =
    AreBlocks.run number command lines (AreBlocks-placed (suc at) lines h)
AreBlocks-placed _ _ (IsPaired.block at number times end_at last body rest place h k) =
    AreBlocks.block number times end_at last at body rest (AreBlocks-placed (suc at) body h)
    (AreBlocks-placed (suc end_at) rest k)

-- Lines at their places from this place on, and then the `end` of the innermost open `repeat`, at the place where that
-- `repeat` ends; then lines of this kind.
record ClosesThen (innermost end at : ℕ) (Rest : ℕ → List Line → Type 0) (lines : List Line) : Type 0 where
  body : List Line
  last : ℕ
  rest : List Line
  place : end ≡ at + length body
  placed : IsPaired at body
  after : Rest (suc (at + length body)) rest
  cut : body ++ (end_line last innermost ∷ rest) ≡ lines

-- lines from this place on that end the open `repeat`s, the innermost first, each at its place
abbrev Closes : List ℕ → (ℕ → ℕ) → ℕ → List Line → Type 0
Closes [] ends at lines = IsPaired at lines
Closes (innermost ∷ outer) ends at lines =
    ClosesThen innermost (ends 0) at (Closes outer (λ inside. ends (suc inside))) lines

-- only the places where open `repeat`s end matter
Closes-same : (open' : List ℕ) (ends others : ℕ → ℕ) (at : ℕ) (lines : List Line)
    → ((inside : ℕ) → ends inside ≡ others inside) → Closes open' ends at lines → Closes open' others at lines
Closes-same [] ends others at lines same h = h
Closes-same (innermost ∷ outer) ends others at lines same h = record {
  body = h.body;
  last = h.last;
  rest = h.rest;
  place = sym (same 0) ∙ h.place;
  placed = h.placed;
  after =
      Closes-same outer (λ inside. ends (suc inside)) (λ inside. others (suc inside))
      (suc (at + length h.body)) h.rest (λ inside. same (suc inside)) h.after;
  cut = h.cut;
}

-- lines that begin at an equal place
Closes-at : (open' : List ℕ) (ends : ℕ → ℕ) (at place : ℕ) (lines : List Line) → at ≡ place
    → Closes open' ends at lines → Closes open' ends place lines
Closes-at open' ends at place lines e h = subst (λ n. Closes open' ends n lines) e h

-- a line more that runs a command
Closes-run : (open' : List ℕ) (ends : ℕ → ℕ) (at number : ℕ) (command : Command) (lines : List Line)
    → Closes open' ends (suc at) lines → Closes open' ends at (run_line number command ∷ lines)
Closes-run [] ends at number command lines h = IsPaired.run at number command lines h
Closes-run (innermost ∷ outer) ends at number command lines h =
    let here : suc at + length h.body ≡ at + suc (length h.body) = omega arith in
    record {
      body = run_line number command ∷ h.body;
      last = h.last;
      rest = h.rest;
      place = h.place ∙ here;
      placed = IsPaired.run at number command h.body h.placed;
      after = Closes-at outer (λ inside. ends (suc inside)) _ _ h.rest (ap suc here) h.after;
      cut = ap (λ all. run_line number command ∷ all) h.cut;
    }

-- a block more, where its `end` stands here
Closes-block : (open' : List ℕ) (ends : ℕ → ℕ) (at number times end_at last : ℕ) (body rest : List Line)
    → end_at ≡ suc (at + length body) → IsPaired (suc at) body → Closes open' ends (suc end_at) rest
    → Closes open' ends at (repeat_line number times end_at ∷ (body ++ (end_line last at ∷ rest)))
Closes-block [] ends at number times end_at last body rest place placed h =
    IsPaired.block at number times end_at last body rest place placed h
Closes-block (innermost ∷ outer) ends at number times end_at last body rest place placed h =
    let first = repeat_line number times end_at in
    let end = end_line last at in
    let whole : List Line = first ∷ (body ++ (end ∷ h.body)) in
    let here : suc end_at + length h.body ≡ at + length whole =
    omega (arith, place, length-append body (end ∷ h.body)) in
    record {
      body = whole;
      last = h.last;
      rest = h.rest;
      place = h.place ∙ here;
      placed = IsPaired.block at number times end_at last body h.body place placed h.placed;
      after = Closes-at outer (λ inside. ends (suc inside)) _ _ h.rest (ap suc here) h.after;
      cut =
          ap (λ all. first ∷ all) (append_assoc body (end ∷ h.body) (end_line h.last innermost ∷ h.rest)
          ∙ ap (λ all. body ++ (end ∷ all)) h.cut);
    }

-- a `repeat` more, before lines that end it
Closes-repeat : (open' : List ℕ) (ends : ℕ → ℕ) (at number times : ℕ) (lines : List Line)
    → Closes (at ∷ open') ends (suc at) lines
    → Closes open' (λ inside. ends (suc inside)) at (repeat_line number times (ends 0) ∷ lines)
Closes-repeat open' ends at number times lines h =
    let place : ends 0 ≡ suc (at + length h.body) = h.place ∙ omega arith in
    subst (λ all. Closes open' (λ inside. ends (suc inside)) at (repeat_line number times (ends 0) ∷ all)) h.cut
    (Closes-block open' (λ inside. ends (suc inside)) at number times (ends 0) h.last h.body h.rest place h.placed
    (Closes-at open' (λ inside. ends (suc inside)) _ _ h.rest (ap suc (sym h.place)) h.after))

-- an `end` more, before lines that end the outer `repeat`s
Closes-end : (innermost : ℕ) (outer : List ℕ) (ends : ℕ → ℕ) (at number : ℕ) (lines : List Line) → ends 0 ≡ at
    → Closes outer (λ inside. ends (suc inside)) (suc at) lines
    → Closes (innermost ∷ outer) ends at (end_line number innermost ∷ lines)
Closes-end innermost outer ends at number lines place h =
    let here : at ≡ at + 0 = omega arith in
    record {
      body = [];
      last = number;
      rest = lines;
      place = place ∙ here;
      placed = IsPaired.none at;
      after = Closes-at outer (λ inside. ends (suc inside)) _ _ lines (ap suc here) h;
      cut = refl;
    }

-- a statement more that was read from a line
Closes-step : (variables fields : List (List ℕ)) (at : ℕ) (open' : List ℕ) (number : ℕ) (k : Keyword)
    (operands : List RawOperand) (more : List NumberedStatement) → MayStand (length open') k
    → Closes (open_after at open' k) (λ inside. end_after inside (suc at) more) (suc at)
    (lines_from variables fields (suc at) (open_after at open' k) more)
    → Closes open' (λ inside. end_after inside at (speaks number k operands ∷ more)) at
    (lines_from variables fields at open' (speaks number k operands ∷ more))
Closes-step variables fields at open' number keyword.Repeat operands more may h =
    Closes-repeat open' (λ inside. end_after inside (suc at) more) at number _
    (lines_from variables fields (suc at) (at ∷ open') more) h
Closes-step variables fields at [] number keyword.End operands more may h = absurd (omega (arith, may))
Closes-step variables fields at (innermost ∷ outer) number keyword.End operands more may h =
    let lines = lines_from variables fields (suc at) outer more in
    Closes-end innermost outer
    (λ inside. end_after inside at (speaks number keyword.End operands ∷ more)) at number lines refl
    (Closes-same outer (λ inside. end_after inside (suc at) more)
    (λ inside. end_after (suc inside) at (speaks number keyword.End operands ∷ more)) (suc at) lines
    (λ inside. sym (end_after-end inside at number operands more)) h)
Closes-step variables fields at open' number other operands more may h =
    Closes-run open' (λ inside. end_after inside (suc at) more) at number _
    (lines_from variables fields (suc at) open' more) h

-- the lines of statements that were read inside open `repeat`s end them at their places
lines_from-Closes :
    (variables fields : List (List ℕ)) (at : ℕ) (open' : List ℕ) (xs : List NumberedStatement)
    → AreStated (length open') xs
    → Closes open' (λ inside. end_after inside at xs) at (lines_from variables fields at open' xs)
lines_from-Closes variables fields at [] [] h = IsPaired.none at
lines_from-Closes variables fields at (innermost ∷ outer) [] h = absurd (omega (arith, h))
lines_from-Closes variables fields at open' (stated ∷ more) h =
    let k = stated.statement.keyword in
    Closes-step variables fields at open' stated.number k stated.statement.operands more h.1
    (lines_from-Closes variables fields (suc at) (open_after at open' k) more
    (later at open' k more h.2))

-- the lines of a script that was read stand at their places
pub lines_from-IsPlaced : (variables fields : List (List ℕ)) (xs : List NumberedStatement)
    → AreStated 0 xs → IsPaired 0 (lines_from variables fields 0 [] xs)
lines_from-IsPlaced variables fields xs h = lines_from-Closes variables fields 0 [] xs h
