-- How many `repeat`s are open in lines that were read.
use Rattle.std.proofs.Common.{◌≡◌, ℕ, zero, suc, ◌≤◌, List, [], ◌∷◌, length, take, refl, sym, subst, arith}
use Rattle.script_text.specs.declared.table.Keyword.{Keyword}
use Rattle.script_text.specs.declared.table.Keyword.TheVariants as keyword
use Rattle.script_text.specs.Limits.{open_most}
use Rattle.script_text.specs.Statements.{RawOperand}
use Rattle.script_text.specs.Scripts.{NumberedStatement}
use Rattle.script_text.specs.Grammar.{lines_from, open_after}
use Rattle.script_text.specs.Sound.{depth_of}
use Rattle.script_text.proofs.Ending.{speaks}
use Rattle.script_text.specs.Fitting.{AreStated, deeper, MayStand}

-- as many `repeat`s are open after a command
length-open_after : (at : ℕ) (open' : List ℕ) (k : Keyword) → length (open_after at open' k) ≡ deeper (length open') k
length-open_after at open' keyword.Repeat = refl
length-open_after at [] keyword.End = refl
length-open_after at (innermost ∷ outer) keyword.End = omega arith
length-open_after at open' other = refl

-- the statements after a command were read inside as many `repeat`s as are open after it
pub later : (at : ℕ) (open' : List ℕ) (k : Keyword) (more : List NumberedStatement)
    → AreStated (deeper (length open') k) more → AreStated (length (open_after at open' k)) more
later at open' k more h = subst (λ depth. AreStated depth more) (sym (length-open_after at open' k)) h

-- a command that may stand leaves at most four open
few-deeper : (depth : ℕ) (k : Keyword) → depth ≤ open_most → MayStand depth k → deeper depth k ≤ open_most
few-deeper depth keyword.Repeat h may = omega arith
few-deeper depth keyword.End h may = omega arith
few-deeper depth other h may = h

-- the depth after a line is that after its command
depth-line : (variables fields : List (List ℕ)) (at : ℕ) (open' : List ℕ) (number : ℕ) (k : Keyword)
    (operands : List RawOperand) (more : List NumberedStatement) (depth : ℕ) (n : ℕ)
    → depth_of depth (take (suc n) (lines_from variables fields at open' (speaks number k operands ∷ more)))
    ≡ depth_of (deeper depth k) (take n (lines_from variables fields (suc at) (open_after at open' k) more))
depth-line variables fields at open' number keyword.Repeat operands more depth n = refl
depth-line variables fields at open' number keyword.End operands more depth n = refl
depth-line variables fields at open' number other operands more depth n = refl

-- at most four `repeat`s are open
pub nested :
    (variables fields : List (List ℕ)) (at : ℕ) (open' : List ℕ) (xs : List NumberedStatement)
    (depth : ℕ)
    → depth ≤ open_most → AreStated depth xs → (n : ℕ)
    → depth_of depth (take n (lines_from variables fields at open' xs)) ≤ open_most
nested variables fields at open' xs depth few h zero = few
nested variables fields at open' [] depth few h (suc n) = few
nested variables fields at open' (stated ∷ more) depth few h (suc n) =
    let k = stated.statement.keyword in
    let there =
    nested variables fields (suc at) (open_after at open' k) more (deeper depth k)
    (few-deeper depth k few h.1) h.2 n in
    subst (λ d. d ≤ open_most)
    (sym (depth-line variables fields at open' stated.number k stated.statement.operands more depth n)) there
