-- What is left from a place on: the lines of the innermost open block, or those outside blocks, and what they begin
-- with.
use Rattle.std.proofs.Common.{◌≡◌, ℕ, suc, ◌+◌, List, [], ◌∷◌, ◌++◌, length, take, drop, None, refl, sym}
use Rattle.std.proofs.Common.{ap, ◌∙◌, subst}
use Rattle.std.proofs.lemmas.List.{append-nil}
use Rattle.heap_command.specs.declared.command.Command.{Command}
use Rattle.heap_command.specs.Executed.{Executed}
use Rattle.script_text.specs.declared.script.Line.{Line}
use Rattle.script_text.specs.declared.script.What.TheVariants.{Run, Repeat, End}
use Rattle.script_text.specs.Sound.{depth_of}
use Rattle.script_text.specs.Unrolled.{executed, turns, executed_lines}
use Rattle.script_text.specs.Whole.{run_line, repeat_line, end_line, IsPaired}
use Rattle.script_text.specs.Left.{IsLeft}

-- no line follows, or the first is an `end`
abbrev pub Stops : List Line → Type 0
Stops [] = Unit {0}
Stops (line ∷ lines) = (repeat_at : ℕ) × (line.what ≡ End repeat_at)

-- What is left from a place on, inside the innermost open block or outside blocks: lines at their places, and then a
-- tail that any lines at their places may stand before.
pub record ExecutesFrom (lines : List Line) (at : ℕ) (ts : List ℕ) (left : List Executed) : Type 0 where
  pub rest : List Line
  pub more : List Line
  pub tail : List Executed
  pub stops : Stops more
  pub cut : drop at lines ≡ rest ++ more
  pub deep : depth_of 0 (take at lines) ≡ length ts
  pub placed : IsPaired at rest
  pub is : left ≡ executed_lines rest ++ tail
  pub again : (from : ℕ) (some : List Line) → drop from lines ≡ some ++ more → depth_of 0 (take from lines) ≡ length ts
      → IsPaired from some
      → from + length some ≡ at + length rest → IsLeft lines from ts (executed_lines some ++ tail)

-- each of the two ways in which something is left
pub holds : (lines : List Line) (at : ℕ) (ts : List ℕ) (left : List Executed) → IsLeft lines at ts left
    → ExecutesFrom lines at ts left
holds lines _ _ _ (IsLeft.outside at rest cut deep placed) = record {
  rest = rest;
  more = [];
  tail = [];
  stops = tt;
  cut = cut ∙ sym (append-nil rest);
  deep = deep;
  placed = placed;
  is = sym (append-nil (executed_lines rest));
  again =
      λ from some cut deep placed same. subst (IsLeft lines from []) (sym (append-nil (executed_lines some)))
      (IsLeft.outside from some (cut ∙ append-nil some) deep placed);
}
holds lines _ _ _
    (IsLeft.inside at repeat_at turns_left last outer rest body after later cut deep placed around inner behind) =
    record {
      rest = rest;
      more = end_line last repeat_at ∷ after;
      tail = executed last None ∷ (turns turns_left (executed_lines body ++ (executed last None ∷ [])) ++ later);
      stops = (repeat_at, refl);
      cut = cut;
      deep = deep;
      placed = placed;
      is = refl;
      again = λ from some cut deep placed same.
          IsLeft.inside from repeat_at turns_left last outer some body after later cut deep placed around inner
          (subst (λ n. IsLeft lines n outer later) (ap suc (sym same)) behind);
    }

-- a line that is no `end` is the first of the lines that are left here
pub first_of : (rest more : List Line) (line : Line) (lines : List Line) → Stops more
    → ((repeat_at : ℕ) → line.what ≡ End repeat_at → ⊥) → rest ++ more ≡ line ∷ lines
    → (some : List Line) × (rest ≡ line ∷ some) × (some ++ more ≡ lines)
first_of [] [] line lines stops goes e = cc
first_of [] (end ∷ more) line lines stops goes e =
    let same : end ≡ line = cc in
    absurd (goes stops.0 (sym (ap (λ (l : Line). l.what) same) ∙ stops.1))
first_of (first ∷ rest) more line lines stops goes e =
    let same : first ≡ line = cc in
    let others : rest ++ more ≡ lines = cc in
    (rest, ap (λ l. l ∷ rest) same, others)

-- equal lines begin with a line that does the same
pub same_what : (first other : Line) (rest others : List Line) → first ∷ rest ≡ other ∷ others
    → first.what ≡ other.what
same_what first other rest others e =
    let same : first ≡ other = cc in
    ap (λ (l : Line). l.what) same

-- the lines at their places that follow a command
pub placed-run : (at : ℕ) (lines : List Line) (number : ℕ) (command : Command) (rest : List Line) → IsPaired at lines
    → lines ≡ run_line number command ∷ rest → IsPaired (suc at) rest
placed-run _ _ number command rest (IsPaired.none at) e = cc
placed-run _ _ number command rest (IsPaired.run at n c lines h) e =
    let same : lines ≡ rest = cc in
    subst (IsPaired (suc at)) same h
placed-run _ _ number command rest (IsPaired.block at n times end_at last body after place h k) e =
    let does : Repeat times end_at ≡ Run command = same_what _ _ _ _ e in
    cc

-- a block and what follows it
pub record Opens (at end_at : ℕ) (lines : List Line) : Type 0 where
  pub body : List Line
  pub last : ℕ
  pub after : List Line
  pub place : end_at ≡ suc (at + length body)
  pub placed : IsPaired (suc at) body
  pub behind : IsPaired (suc end_at) after
  pub cut : lines ≡ body ++ (end_line last at ∷ after)

-- the block that a `repeat` opens
pub placed-repeat : (at : ℕ) (lines : List Line) (number times end_at : ℕ) (rest : List Line) → IsPaired at lines
    → lines ≡ repeat_line number times end_at ∷ rest → Opens at end_at rest
placed-repeat _ _ number times end_at rest (IsPaired.none at) e = cc
placed-repeat _ _ number times end_at rest (IsPaired.run at n c lines h) e =
    let does : Run c ≡ Repeat times end_at = same_what _ _ _ _ e in
    cc
placed-repeat _ _ number times end_at rest (IsPaired.block at n t end last body after place h k) e =
    let does : Repeat t end ≡ Repeat times end_at = same_what _ _ _ _ e in
    let same : end ≡ end_at = cc in
    let cut : body ++ (end_line last at ∷ after) ≡ rest = cc in
    record {
      body = body;
      last = last;
      after = after;
      place = sym same ∙ place;
      placed = h;
      behind = subst (λ n. IsPaired (suc n) after) same k;
      cut = sym cut;
    }

-- no `end` is the first of lines at their places
pub placed-end : (at : ℕ) (lines : List Line) (number repeat_at : ℕ) (rest : List Line) → IsPaired at lines
    → lines ≡ end_line number repeat_at ∷ rest → ⊥
placed-end _ _ number repeat_at rest (IsPaired.none at) e = cc
placed-end _ _ number repeat_at rest (IsPaired.run at n c lines h) e =
    let does : Run c ≡ End repeat_at = same_what _ _ _ _ e in
    cc
placed-end _ _ number repeat_at rest (IsPaired.block at n t end last body after place h k) e =
    let does : Repeat t end ≡ End repeat_at = same_what _ _ _ _ e in
    cc

-- a command is no `end`
pub no_end-run : (number : ℕ) (command : Command) (repeat_at : ℕ) → (run_line number command).what ≡ End repeat_at → ⊥
no_end-run number command repeat_at e = cc

-- nor is a `repeat`
pub no_end-repeat : (number times end_at repeat_at : ℕ) → (repeat_line number times end_at).what ≡ End repeat_at → ⊥
no_end-repeat number times end_at repeat_at e = cc

-- lines with one among them are some
pub some_lines : (before : List Line) (line : Line) (after : List Line) → before ++ (line ∷ after) ≡ [] → ⊥
some_lines [] line after e = cc
some_lines (first ∷ before) line after e = cc
