-- The block whose `repeat` or `end` is the next line.
use Rattle.std.proofs.Common.{◌≡◌, ℕ, suc, ◌+◌, List, [], ◌∷◌, ◌++◌, length, take, drop, slice_get, Some}
use Rattle.std.proofs.Common.{None, refl, sym, ap, ◌∙◌, subst, append_assoc, length-append, arith}
use Rattle.heap_command.specs.Executed.{Executed}
use Rattle.script_text.specs.declared.script.Line.{Line}
use Rattle.script_text.specs.declared.script.What.TheVariants.{End}
use Rattle.script_text.specs.Sound.{depth_of}
use Rattle.script_text.specs.Unrolled.{executed, turns, executed_lines}
use Rattle.script_text.specs.Whole.{repeat_line, end_line, IsPaired}
use Rattle.script_text.specs.Left.{IsLeft}
use Rattle.script_text.proofs.Depths.{drop-get, drop-past, depth_of-placed, depth-past, depth-next}
use Rattle.script_text.proofs.Placed.{AreBlocks-placed}
use Rattle.script_text.proofs.Unrolling.{unrolls_blocks}
use Rattle.script_text.proofs.Holding.{ExecutesFrom, holds, first_of, same_what, Opens, placed-repeat, placed-end}
use Rattle.script_text.proofs.Holding.{no_end-repeat}

-- one turn of a block, and then what follows it
pub turn_first : (body turns_left later : List Executed) (end : Executed)
    → ((body ++ (end ∷ [])) ++ turns_left) ++ later ≡ body ++ (end ∷ (turns_left ++ later))
turn_first body turns_left later end = simp append_assoc

-- The block of the `repeat` here: the lines that are left begin with it.
pub record Begins (lines : List Line) (at : ℕ) (ts : List ℕ) (left : List Executed)
    (number times end_at : ℕ) : Type 0 where
  pub body : List Line
  pub last : ℕ
  pub after : List Line
  pub later : List Executed
  pub place : end_at ≡ suc (at + length body)
  pub placed : IsPaired (suc at) body
  pub cut : drop (suc at) lines ≡ body ++ (end_line last at ∷ after)
  pub deep : depth_of 0 (take (suc at) lines) ≡ suc (length ts)
  pub is : left ≡ executed number None ∷ (turns times (executed_lines body ++ (executed last None ∷ [])) ++ later)
  pub behind : IsLeft lines (suc end_at) ts later

-- what is left behind the block at a place
behind_block : (lines : List Line) (at : ℕ) (ts : List ℕ) (left : List Executed) (number times end_at : ℕ)
    (here : ExecutesFrom lines at ts left) (some : List Line) → here.rest ≡ repeat_line number times end_at ∷ some
    → (opens : Opens at end_at some) → IsLeft lines (suc end_at) ts (executed_lines opens.after ++ here.tail)
behind_block lines at ts left number times end_at here some e opens =
    let first = repeat_line number times end_at in
    let whole : List Line = first ∷ (opens.body ++ (end_line opens.last at ∷ [])) in
    let placed : IsPaired at whole =
    IsPaired.block at number times end_at opens.last opens.body [] opens.place opens.placed
    (IsPaired.none (suc end_at)) in
    let grouped : (first ∷ (opens.body ++ (end_line opens.last at ∷ opens.after))) ++ here.more ≡ whole ++
    (opens.after ++ here.more) =
    simp append_assoc in
    let from : drop at lines ≡ whole ++ (opens.after ++ here.more) =
    here.cut ∙ ap (λ all. all ++ here.more) (e ∙ ap (λ all. first ∷ all) opens.cut) ∙ grouped in
    let count : at + length whole ≡ suc end_at =
    omega (arith, opens.place, length-append opens.body (end_line opens.last at ∷ [])) in
    let same : suc end_at + length opens.after ≡ at + length here.rest =
    omega (
      arith,
      opens.place,
      ap length e,
      ap length opens.cut,
      length-append opens.body (end_line opens.last at ∷ opens.after),
    ) in
    let cut : drop (suc end_at) lines ≡ opens.after ++ here.more =
    sym (ap (λ n. drop n lines) count) ∙ drop-past lines at whole (opens.after ++ here.more) from in
    let deep : depth_of 0 (take (suc end_at) lines) ≡ length ts =
    sym (ap (λ n. depth_of 0 (take n lines)) count) ∙ depth-past lines at whole (opens.after ++ here.more) from
    ∙ depth_of-placed at (depth_of 0 (take at lines)) whole placed ∙ here.deep in
    here.again (suc end_at) opens.after cut deep opens.behind same

-- what a block is executed as, and what is left behind it
unrolled_block : (at number times end_at : ℕ) (rest some : List Line) → rest ≡ repeat_line number times end_at ∷ some
    → (opens : Opens at end_at some)
    → executed_lines rest ≡ executed number None ∷
    (turns times (executed_lines opens.body ++ (executed opens.last None ∷ [])) ++ executed_lines opens.after)
unrolled_block at number times end_at rest some e opens =
    ap executed_lines (e ∙ ap (λ all. repeat_line number times end_at ∷ all) opens.cut)
    ∙ unrolls_blocks number times end_at opens.last at opens.body opens.after
    (AreBlocks-placed (suc at) opens.body opens.placed) (AreBlocks-placed (suc end_at) opens.after opens.behind)

-- the lines that are left at a `repeat` begin with its block
block_holds : (lines : List Line) (at : ℕ) (ts : List ℕ) (left : List Executed) (number times end_at : ℕ)
    (here : ExecutesFrom lines at ts left) (some : List Line)
    → slice_get lines at ≡ Some (repeat_line number times end_at) → here.rest ≡ repeat_line number times end_at ∷ some
    → some ++ here.more ≡ drop (suc at) lines
    → (opens : Opens at end_at some) → Begins lines at ts left number times end_at
block_holds lines at ts left number times end_at here some e first others opens =
    let block = executed_lines opens.body ++ (executed opens.last None ∷ []) in
    record {
      body = opens.body;
      last = opens.last;
      after = opens.after ++ here.more;
      later = executed_lines opens.after ++ here.tail;
      place = opens.place;
      placed = opens.placed;
      cut =
          sym others ∙ ap (λ all. all ++ here.more) opens.cut
          ∙ append_assoc opens.body (end_line opens.last at ∷ opens.after) here.more;
      deep = depth-next lines at (repeat_line number times end_at) e ∙ ap suc here.deep;
      is =
          here.is ∙ ap (λ all. all ++ here.tail) (unrolled_block at number times end_at here.rest some first opens)
          ∙ ap (λ all. executed number None ∷ all)
          (append_assoc (turns times block) (executed_lines opens.after) here.tail);
      behind = behind_block lines at ts left number times end_at here some first opens;
    }

-- so they do in each of the two ways in which something is left
pub block_begins : (lines : List Line) (at : ℕ) (ts : List ℕ) (left : List Executed) (number times end_at : ℕ)
    → IsLeft lines at ts left
    → slice_get lines at ≡ Some (repeat_line number times end_at) → Begins lines at ts left number times end_at
block_begins lines at ts left number times end_at h e =
    let here = holds lines at ts left h in
    let line = repeat_line number times end_at in
    let split =
    first_of here.rest here.more line (drop (suc at) lines) here.stops (no_end-repeat number times end_at) (sym here.cut
    ∙ drop-get lines at line e) in
    block_holds lines at ts left number times end_at here split.0 e split.1 split.2
    (placed-repeat at here.rest number times end_at split.0 here.placed split.1)

-- The block that the `end` here ends: nothing else of it is left in this turn.
pub record Ends
    (lines : List Line) (at turns_left : ℕ) (ts : List ℕ) (left : List Executed) (number repeat_at : ℕ)
    : Type 0 where
  pub body : List Line
  pub after : List Line
  pub later : List Executed
  pub cut : drop at lines ≡ end_line number repeat_at ∷ after
  pub deep : depth_of 0 (take at lines) ≡ suc (length ts)
  pub around : drop (suc repeat_at) lines ≡ body ++ (end_line number repeat_at ∷ after)
  pub placed : IsPaired (suc repeat_at) body
  pub is : left ≡ executed number None
      ∷ (turns turns_left (executed_lines body ++ (executed number None ∷ [])) ++ later)
  pub behind : IsLeft lines (suc at) ts later

-- the lines that are left at an `end` begin with it, inside its block
pub block_ends : (lines : List Line) (at turns_left : ℕ) (ts : List ℕ) (left : List Executed) (number repeat_at : ℕ)
    → IsLeft lines at (turns_left ∷ ts) left → slice_get lines at ≡ Some (end_line number repeat_at)
    → Ends lines at turns_left ts left number repeat_at
block_ends lines _ _ _ _ number block_at
    (IsLeft.inside at repeat_at turns_left last outer [] body after later cut deep placed around inner behind) e =
    let left = executed last None ∷ (turns turns_left (executed_lines body ++ (executed last None ∷ [])) ++ later) in
    let from : end_line last repeat_at ∷ after ≡ end_line number block_at ∷ drop (suc at) lines =
    sym cut ∙ drop-get lines at (end_line number block_at) e in
    let same : end_line last repeat_at ≡ end_line number block_at = cc in
    let does : End repeat_at ≡ End block_at = same_what _ _ _ _ from in
    let block : repeat_at ≡ block_at = cc in
    let here : at + 0 ≡ at = omega arith in
    subst (λ n. Ends lines at turns_left outer left n block_at) (ap (λ (l : Line). l.number) same)
    (subst (λ n. Ends lines at turns_left outer left last n) block (record {
      body = body;
      after = after;
      later = later;
      cut = cut;
      deep = deep;
      around = around;
      placed = inner;
      is = refl;
      behind = subst (λ n. IsLeft lines (suc n) outer later) here behind;
    }))
block_ends lines _ _ _ _ number block_at
    (IsLeft.inside at repeat_at turns_left last outer (first ∷ rest) body after later cut deep placed
    around inner behind) e =
    let from : first ∷ (rest ++ (end_line last repeat_at ∷ after)) ≡ end_line number block_at ∷ drop (suc at) lines =
    sym cut ∙ drop-get lines at (end_line number block_at) e in
    let same : first ≡ end_line number block_at = cc in
    absurd (placed-end at (first ∷ rest) number block_at rest placed (ap (λ l. l ∷ rest) same))
