-- The `repeat`s and `end`s of lines at their places name one another.
use Rattle.std.proofs.Common.{◌≡◌, ℕ, zero, suc, ◌+◌, ◌<◌, ◌≤◌, List, [], ◌∷◌, ◌++◌, length, take}
use Rattle.std.proofs.Common.{Some, sym, ap, ◌∙◌, subst, arith}
use Rattle.script_text.specs.declared.script.Line.{Line}
use Rattle.script_text.specs.declared.script.What.TheVariants.{Repeat, End}
use Rattle.script_text.specs.Limits.{open_most}
use Rattle.script_text.specs.Sound.{what_at, depth_of, IsMatched}
use Rattle.script_text.specs.Whole.{run_line, repeat_line, end_line, IsPaired}
use Rattle.script_text.proofs.Depths.{depth_of-placed}
use Rattle.script_text.proofs.Positions.{what_at-behind, what_at-within, IsNamed, IsNamed-behind, Stands, at_first}
use Rattle.script_text.proofs.Positions.{in_body, at_end, behind, stands, IsNamed-body, IsNamed-rest}

-- a line is below another
abbrev Below : ℕ → ℕ → Type 0
Below k further = k < further

-- a line is above another
abbrev Above : ℕ → ℕ → Type 0
Above k further = further < k

-- what is said of each `repeat` of lines from a place on: it names its `end`, below it
abbrev AreEnded : ℕ → List Line → Type 0
AreEnded at lines =
    (k times end_at : ℕ) → what_at lines k ≡ Some (Repeat times end_at) → IsNamed Below End at k end_at lines

-- so it is of a block and the lines behind it
ended-block : (at number turns end last : ℕ) (body rest : List Line) → end ≡ suc (at + length body)
    → AreEnded (suc at) body → AreEnded (suc end) rest
    → (k times end_at : ℕ) → Stands (repeat_line number turns end) (end_line last at) body rest (Repeat times end_at) k
    → IsNamed Below End at k end_at (repeat_line number turns end ∷ (body ++ (end_line last at ∷ rest)))
ended-block at number turns end last body rest place inner later _ times end_at (at_first e) =
    let same : end ≡ end_at = cc in
    let here : at ≡ at + 0 = omega arith in
    let count : length body ≡ length body + 0 = omega arith in
    record {
      further = suc (length body);
      order = omega arith;
      place = sym same ∙ place ∙ omega arith;
      line =
          ap (what_at (body ++ (end_line last at ∷ rest))) count ∙ what_at-behind body (end_line last at ∷ rest) 0
          ∙ ap (λ n. Some (End n)) here;
    }
ended-block at number turns end last body rest place inner later _ times end_at (in_body k e) =
    IsNamed-body Below End (λ n k further lt. omega arith) (repeat_line number turns end)
    (end_line last at) body rest at k end_at (inner k times end_at e)
ended-block at number turns end last body rest place inner later _ times end_at (at_end e) = cc
ended-block at number turns end last body rest place inner later _ times end_at (behind k e) =
    IsNamed-rest Below End (λ n k further lt. omega arith) (repeat_line number turns end)
    (end_line last at) body rest at k end_at
    (subst (λ n. IsNamed Below End (suc n) k end_at rest) place (later k times end_at e))

-- each `repeat` of lines at their places names its `end`
ended : (at : ℕ) (lines : List Line) → IsPaired at lines → AreEnded at lines
ended _ _ (IsPaired.none at) k times end_at e = cc
ended _ _ (IsPaired.run at number command lines h) zero times end_at e = cc
ended _ _ (IsPaired.run at number command lines h) (suc k) times end_at e =
    let next : 1 + k ≡ suc k = omega arith in
    subst (λ n. IsNamed Below End at n end_at (run_line number command ∷ lines)) next
    (IsNamed-behind Below End (λ n k further lt. omega arith) (run_line number command ∷ []) lines at
    (suc at) k end_at (omega arith)
    (ended (suc at) lines h k times end_at e))
ended _ _ (IsPaired.block at number turns end last body rest place h l) k times end_at e =
    ended-block at number turns end last body rest place (ended (suc at) body h) (ended (suc end) rest l) k times end_at
    (stands (repeat_line number turns end) (end_line last at) body rest (Repeat times end_at) k e)

-- the line is named by its `repeat`, above it
record IsBegun (at k repeat_at : ℕ) (lines : List Line) : Type 0 where
  times : ℕ
  named : IsNamed Above (Repeat times) at k repeat_at lines

-- what is said of each `end` of lines from a place on
abbrev AreBegun : ℕ → List Line → Type 0
AreBegun at lines = (k repeat_at : ℕ) → what_at lines k ≡ Some (End repeat_at) → IsBegun at k repeat_at lines

-- so it is of a block and the lines behind it
begun-block : (at number turns end last : ℕ) (body rest : List Line) → end ≡ suc (at + length body)
    → AreBegun (suc at) body → AreBegun (suc end) rest
    → (k repeat_at : ℕ) → Stands (repeat_line number turns end) (end_line last at) body rest (End repeat_at) k
    → IsBegun at k repeat_at (repeat_line number turns end ∷ (body ++ (end_line last at ∷ rest)))
begun-block at number turns end last body rest place inner later _ repeat_at (at_first e) = cc
begun-block at number turns end last body rest place inner later _ repeat_at (in_body k e) =
    let there = inner k repeat_at e in
    record {
      times = there.times;
      named =
          IsNamed-body Above (Repeat there.times) (λ n k further lt. omega arith) (repeat_line number turns end)
          (end_line last at) body rest at k repeat_at
          there.named;
    }
begun-block at number turns end last body rest place inner later _ repeat_at (at_end e) =
    let same : at ≡ repeat_at = cc in
    let count : end ≡ at + (1 + length body) = place ∙ omega arith in
    record {
      times = turns;
      named =
          record {
            further = 0;
            order = omega arith;
            place = sym same
                ∙ omega arith;
            line = ap (λ n. Some (Repeat turns n)) count;
          };
    }
begun-block at number turns end last body rest place inner later _ repeat_at (behind k e) =
    let there = later k repeat_at e in
    record {
      times = there.times;
      named =
          IsNamed-rest Above (Repeat there.times) (λ n k further lt. omega arith) (repeat_line number turns end)
          (end_line last at) body rest at k repeat_at
          (subst (λ n. IsNamed Above (Repeat there.times) (suc n) k repeat_at rest) place there.named);
    }

-- each `end` of lines at their places names its `repeat`
begun : (at : ℕ) (lines : List Line) → IsPaired at lines → AreBegun at lines
begun _ _ (IsPaired.none at) k repeat_at e = cc
begun _ _ (IsPaired.run at number command lines h) zero repeat_at e = cc
begun _ _ (IsPaired.run at number command lines h) (suc k) repeat_at e =
    let next : 1 + k ≡ suc k = omega arith in
    let there = begun (suc at) lines h k repeat_at e in
    subst (λ n. IsBegun at n repeat_at (run_line number command ∷ lines)) next (record {
      times = there.times;
      named =
          IsNamed-behind Above (Repeat there.times) (λ n k further lt. omega arith)
          (run_line number command ∷ []) lines at (suc at) k repeat_at (omega arith)
          there.named;
    })
begun _ _ (IsPaired.block at number turns end last body rest place h l) k repeat_at e =
    begun-block at number turns end last body rest place (begun (suc at) body h) (begun (suc end) rest l) k repeat_at
    (stands (repeat_line number turns end) (end_line last at) body rest (End repeat_at) k e)

-- what is said of two `repeat`s of lines from a place on: one that begins inside the other ends inside it
abbrev AreInside : ℕ → List Line → Type 0
AreInside at lines =
    (k times end_at inner inner_times inner_end : ℕ) → what_at lines k ≡ Some
    (Repeat times end_at) → what_at lines inner ≡ Some (Repeat inner_times inner_end)
    → k < inner → at + inner < end_at → inner_end < end_at

-- so it is of a block and the lines behind it
inside-block : (at number turns end last : ℕ) (body rest : List Line) → end ≡ suc (at + length body)
    → IsPaired (suc at) body
    → AreInside (suc at) body → AreInside (suc end) rest → (k times end_at inner inner_times inner_end : ℕ)
    → Stands (repeat_line number turns end) (end_line last at) body rest (Repeat times end_at) k
    → Stands (repeat_line number turns end) (end_line last at) body rest (Repeat inner_times inner_end) inner
    → k < inner → at + inner < end_at → inner_end < end_at
inside-block at number turns end last body rest place h one two _ times end_at _ inner_times inner_end (at_first e)
    (at_first f) lt below =
    absurd (omega arith)
inside-block at number turns end last body rest place h one two _ times end_at _ inner_times inner_end (at_first e)
    (in_body j f) lt below =
    let same : end ≡ end_at = cc in
    let there = ended (suc at) body h j inner_times inner_end f in
    let within = what_at-within body there.further _ there.line in
    omega (arith, there.place, within)
inside-block at number turns end last body rest place h one two _ times end_at _ inner_times inner_end (at_first e)
    (behind j f) lt below =
    let same : end ≡ end_at = cc in
    absurd (omega arith)
inside-block at number turns end last body rest place h one two _ times end_at _ inner_times inner_end (in_body k e)
    (in_body j f) lt below =
    one k times end_at j inner_times inner_end e f (omega arith) (omega arith)
inside-block at number turns end last body rest place h one two _ times end_at _ inner_times inner_end (in_body k e)
    (behind j f) lt below =
    let there = ended (suc at) body h k times end_at e in
    let within = what_at-within body there.further _ there.line in
    absurd (omega (arith, there.place, within))
inside-block at number turns end last body rest place h one two _ times end_at _ inner_times inner_end (behind k e)
    (behind j f) lt below =
    two k times end_at j inner_times inner_end e f (omega arith) (omega arith)
inside-block at number turns end last body rest place h one two _ times end_at _ inner_times inner_end
    (at_end e) other lt below =
    cc
inside-block at number turns end last body rest place h one two _ times end_at _ inner_times inner_end other
    (at_end f) lt below =
    cc
inside-block at number turns end last body rest place h one two _ times end_at _ inner_times inner_end (in_body k e)
    (at_first f) lt below =
    absurd (omega arith)
inside-block at number turns end last body rest place h one two _ times end_at _ inner_times inner_end (behind k e)
    (at_first f) lt below =
    absurd (omega arith)
inside-block at number turns end last body rest place h one two _ times end_at _ inner_times inner_end (behind k e)
    (in_body j f) lt below =
    let within = what_at-within body j (Repeat inner_times inner_end) f in
    absurd (omega (arith, within))

-- a `repeat` that begins inside another one ends inside it
inside : (at : ℕ) (lines : List Line) → IsPaired at lines → AreInside at lines
inside _ _ (IsPaired.none at) k times end_at inner inner_times inner_end e f lt below = cc
inside _ _ (IsPaired.run at number command lines h) zero times end_at inner inner_times inner_end e f lt below = cc
inside _ _ (IsPaired.run at number command lines h) (suc k) times end_at zero inner_times inner_end e f lt below =
    absurd (omega arith)
inside _ _ (IsPaired.run at number command lines h) (suc k) times end_at (suc inner) inner_times
    inner_end e f lt below =
    inside (suc at) lines h k times end_at inner inner_times inner_end e f (omega arith) (omega arith)
inside _ _ (IsPaired.block at number turns end last body rest place h l) k times end_at inner inner_times
    inner_end e f lt below =
    let first = repeat_line number turns end in
    let close = end_line last at in
    inside-block at number turns end last body rest place h (inside (suc at) body h)
    (inside (suc end) rest l) k times end_at inner inner_times inner_end
    (stands first close body rest (Repeat times end_at) k e)
    (stands first close body rest (Repeat inner_times inner_end) inner f) lt below

-- the blocks of lines at their places are matched, where at most so many are open
pub IsMatched-placed : (lines : List Line) → IsPaired 0 lines → ((at : ℕ) → depth_of 0 (take at lines) ≤ open_most)
    → IsMatched lines
IsMatched-placed lines h few = record {
  repeats = λ at times end_at e. repeats at end_at (ended 0 lines h at times end_at e);
  ends = λ at repeat_at e. ends at repeat_at (begun 0 lines h at repeat_at e);
  inside =
      λ at times end_at inner inner_times inner_end e f lt below. inside 0 lines h at times end_at inner inner_times
      inner_end e f lt (omega (arith, below));
  nested = few;
  closed = depth_of-placed 0 0 lines h;
}
  where
    repeats : (k end_at : ℕ) → IsNamed Below End 0 k end_at lines → (k < end_at) × (what_at lines end_at ≡ Some (End k))
    repeats k end_at there =
        let place : there.further ≡ end_at = sym (there.place ∙ omega arith) in
        let here : 0 + k ≡ k = omega arith in
        (omega (arith, there.order), sym (ap (what_at lines) place) ∙ there.line ∙ ap (λ n. Some (End n)) here)

    ends : (k repeat_at : ℕ) → IsBegun 0 k repeat_at lines
        → (repeat_at < k) × ((times : ℕ) × (what_at lines repeat_at ≡ Some (Repeat times k)))
    ends k repeat_at there =
        let place : there.named.further ≡ repeat_at = sym (there.named.place ∙ omega arith) in
        let here : 0 + k ≡ k = omega arith in (
          omega (arith, there.named.order),
          (
            there.times,
            sym (ap (what_at lines) place) ∙ there.named.line
                ∙ ap (λ n. Some (Repeat there.times n)) here,
          ),
        )
