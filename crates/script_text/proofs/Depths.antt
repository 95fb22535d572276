-- How many blocks are open at a place of some lines, and the lines from there on.
use Rattle.std.proofs.Common.{◌≡◌, ℕ, zero, suc, ◌+◌, ◌-◌, List, [], ◌∷◌, ◌++◌, length, take, drop}
use Rattle.std.proofs.Common.{slice_get, Some, None, refl, sym, ap, ◌∙◌, arith}
use Rattle.std.proofs.lemmas.List.{drop-drop}
use Rattle.std.proofs.Math.Seq.{take-add, take-append_seam, drop-append_seam}
use Rattle.script_text.specs.declared.script.Line.{Line}
use Rattle.script_text.specs.Sound.{depth_after, depth_of}
use Rattle.script_text.specs.Whole.{end_line, IsPaired}

-- the lines from a place on begin with the line there
pub drop-get : (lines : List Line) (at : ℕ) (line : Line) → slice_get lines at ≡ Some line
    → drop at lines ≡ line ∷ drop (suc at) lines
drop-get [] at line e = cc
drop-get (first ∷ lines) zero line e = cc
drop-get (first ∷ lines) (suc at) line e = drop-get lines at line e

-- past the last line there are none
pub drop-end : (lines : List Line) (at : ℕ) → slice_get lines at ≡ None → drop at lines ≡ []
drop-end [] zero e = refl
drop-end [] (suc at) e = refl
drop-end (first ∷ lines) zero e = cc
drop-end (first ∷ lines) (suc at) e = drop-end lines at e

-- behind some lines stands what follows them
pub drop-past : (lines : List Line) (at : ℕ) (body more : List Line) → drop at lines ≡ body ++ more
    → drop (at + length body) lines ≡ more
drop-past lines at body more e =
    sym (drop-drop (length body) at lines) ∙ ap (drop (length body)) e ∙ drop-append_seam body more

-- lines behind others begin with as many open blocks as those leave open
depth_of-append : (depth : ℕ) (xs ys : List Line) → depth_of depth (xs ++ ys) ≡ depth_of (depth_of depth xs) ys
depth_of-append depth [] ys = refl
depth_of-append depth (line ∷ xs) ys = depth_of-append (depth_after depth line.what) xs ys

-- lines at their places leave as many blocks open
pub depth_of-placed : (at depth : ℕ) (lines : List Line) → IsPaired at lines → depth_of depth lines ≡ depth
depth_of-placed _ depth _ (IsPaired.none at) = refl
depth_of-placed _ depth _ (IsPaired.run at number command lines h) = depth_of-placed (suc at) depth lines h
depth_of-placed _ depth _ (IsPaired.block at number times end_at last body rest place h k) =
    let less : suc depth - 1 ≡ depth = omega arith in
    depth_of-append (suc depth) body (end_line last at ∷ rest)
    ∙ ap (λ n. depth_of n (end_line last at ∷ rest)) (depth_of-placed (suc at) (suc depth) body h)
    ∙ ap (λ n. depth_of n rest) less
    ∙ depth_of-placed (suc end_at) depth rest k

-- how many blocks are open behind some lines
pub depth-past : (lines : List Line) (at : ℕ) (body more : List Line) → drop at lines ≡ body ++ more
    → depth_of 0 (take (at + length body) lines) ≡ depth_of (depth_of 0 (take at lines)) body
depth-past lines at body more e =
    ap (depth_of 0) (take-add at (length body) lines)
    ∙ depth_of-append 0 (take at lines) (take (length body) (drop at lines))
    ∙ ap (depth_of (depth_of 0 (take at lines))) (ap (take (length body)) e ∙ take-append_seam body more)

-- how many blocks are open behind the line at a place
pub depth-next : (lines : List Line) (at : ℕ) (line : Line) → slice_get lines at ≡ Some line
    → depth_of 0 (take (suc at) lines) ≡ depth_after (depth_of 0 (take at lines)) line.what
depth-next lines at line e =
    let next : suc at ≡ at + length (line ∷ []) = omega arith in
    ap (λ n. depth_of 0 (take n lines)) next
    ∙ depth-past lines at (line ∷ []) (drop (suc at) lines) (drop-get lines at line e)
