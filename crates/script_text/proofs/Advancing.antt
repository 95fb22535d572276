-- One statement after another becomes a line, and its names get numbers.
use Rattle.std.proofs.Common.{◌≡◌, ℕ, ◌+◌, ◌≤◌, Bool, true, false, cond, ◌||◌, nat_lt, List, []}
use Rattle.std.proofs.Common.{◌∷◌, ◌++◌, length, map, fold, drop, Some, None}
use Rattle.std.proofs.Common.{append-nil, suc, length-append, refl, sym, ap, ◌∙◌, subst, arith}
use Rattle.std.specs.List.{flat_map}
use Rattle.std.proofs.lemmas.Bool.Decides.{nat_tests}
use Rattle.std.proofs.lemmas.List.{drop_all}
use Rattle.std.proofs.lemmas.List.Sums.{fold-append}
use Rattle.script_text.specs.declared.script.Line.{Line}
use Rattle.script_text.specs.declared.script.What.{What}
use Rattle.script_text.specs.declared.statements.NumberedStatement.{NumberedStatement as StatedSlices}
use Rattle.script_text.specs.Limits.{variable_names_most, field_names_most}
use Rattle.script_text.specs.Statements.{Statement}
use Rattle.script_text.specs.Names.{with_name, first_uses, variables_of, fields_of}
use Rattle.script_text.specs.Scripts.{NumberedStatement, line, argument_of, end_after, what_in}
use Rattle.script_text.specs.Grammar.{past_limit, lines_from, innermost_of, open_after, script_of}
use Rattle.script_text.specs.Blocks.{AreBelow, closed_lines}
use Rattle.script_text.specs.Fitting.{AreStated, MayStand}
use Rattle.script_text.specs.Shown.{statement_shown, stated_shown, are_too_many}
use Rattle.script_text.specs.Sound.{script_text}
use Rattle.script_text.proofs.Ending.{all_ended, below_after, length-closed_lines, lines-step}
use Rattle.script_text.proofs.Nested.{later}
use Rattle.script_text.proofs.Within.{AreIn, what_at_places}
use Rattle.script_text.proofs.Staying.{arguments-fold, AreIn-fold}

-- the names of variables that statements use
abbrev variables_in : List NumberedStatement → List (List ℕ)
variables_in xs = flat_map (λ s. variables_of s.statement) xs

-- the names of fields that statements use
abbrev fields_in : List NumberedStatement → List (List ℕ)
fields_in xs = flat_map (λ s. fields_of s.statement) xs

-- So many statements are lines: with those of the rest they are all lines, in which names have their last numbers. The
-- names of the rest come to those that have numbers.
pub record AreLines (stated : List StatedSlices) (i : ℕ) (variables fields : List (List ℕ)) (open' : List ℕ)
    (lines : List Line) : Type 0 where
  pub variables_are : fold with_name variables (variables_in (map stated_shown (drop i stated))) ≡ first_uses
      (variables_in (map stated_shown stated))
  pub fields_are : fold with_name fields (fields_in (map stated_shown (drop i stated))) ≡ first_uses
      (fields_in (map stated_shown stated))
  pub few_variables : length variables ≤ variable_names_most
  pub few_fields : length fields ≤ field_names_most
  pub within : past_limit variables fields (map stated_shown (drop i stated))
      ≡ past_limit [] [] (map stated_shown stated)
  pub count : length lines ≡ i
  pub below : AreBelow i open'
  pub blocks : AreStated (length open') (map stated_shown (drop i stated))
  -- where each open `repeat` ends is known from the rest
  pub all : all_ended (λ n. end_after n i (map stated_shown (drop i stated))) open' lines
      ++ lines_from (first_uses (variables_in (map stated_shown stated)))
      (first_uses (fields_in (map stated_shown stated))) i open' (map stated_shown (drop i stated))
      ≡ (script_of 1 (map stated_shown stated)).lines

-- What is known of the next statement: it stands here, and its names have got numbers.
pub record IsNext (stated : List StatedSlices) (i : ℕ) (x : StatedSlices)
    (variables fields variables' fields' : List (List ℕ)) : Type 0 where
  pub here : drop i stated ≡ x ∷ drop (i + 1) stated
  pub variables_are : variables' ≡ fold with_name variables (variables_of (statement_shown x.statement))
  pub fields_are : fields' ≡ fold with_name fields (fields_of (statement_shown x.statement))

-- the limit of names, from the next statement on
past_limit-next :
    (stated : List StatedSlices) (i : ℕ) (x : StatedSlices) (variables fields variables' fields' : List (List ℕ))
    → IsNext stated i x variables fields variables' fields'
    → past_limit variables fields (map stated_shown (drop i stated))
    ≡ cond (are_too_many variables' fields') (Some x.number)
    (past_limit variables' fields' (map stated_shown (drop (i + 1) stated)))
past_limit-next stated i x variables fields variables' fields' next =
    let rest = map stated_shown (drop (i + 1) stated) in
    ap (λ all. past_limit variables fields (map stated_shown all)) next.here
    ∙ ap (λ vs. cond (are_too_many vs (fold with_name fields (fields_of (statement_shown x.statement)))) (Some x.number)
    (past_limit vs (fold with_name fields (fields_of (statement_shown x.statement))) rest)) (sym next.variables_are)
    ∙ ap (λ fs. cond (are_too_many variables' fs) (Some x.number) (past_limit variables' fs rest)) (sym next.fields_are)

-- where a test of two parts fails, both parts do
neither : (a b : Bool) → (a || b) ≡ false → (a ≡ false) × (b ≡ false)
neither true b e = cc
neither false b e = (refl, e)

-- a count that is not past the most is at most that
at_most : (most n : ℕ) → nat_lt most n ≡ false → n ≤ most
at_most most n e = grind (arith, nat_tests)

-- the names of the rest come to those that have numbers with this statement
names-next :
    (names_of : Statement → List (List ℕ)) (stated : List StatedSlices) (i : ℕ) (x : StatedSlices)
    (names names' : List (List ℕ))
    → drop i stated ≡ x ∷ drop (i + 1) stated
    → names' ≡ fold with_name names (names_of (statement_shown x.statement))
    → fold with_name names' (flat_map (λ s. names_of s.statement) (map stated_shown (drop (i + 1) stated)))
    ≡ fold with_name names (flat_map (λ s. names_of s.statement) (map stated_shown (drop i stated)))
names-next names_of stated i x names names' here e =
    let rest = flat_map (λ (s : NumberedStatement). names_of s.statement) (map stated_shown (drop (i + 1) stated)) in
    ap (λ some. fold with_name some rest) e
    ∙ sym (fold-append with_name names (names_of (statement_shown x.statement)) rest)
    ∙ ap (λ all. fold with_name names (flat_map (λ s. names_of s.statement) (map stated_shown all))) (sym here)

-- what the statement is, in the end as now
what_in-stays : (stated : List StatedSlices) (i : ℕ) (x : StatedSlices)
    (variables fields variables' fields' : List (List ℕ)) (open' : List ℕ) (lines : List Line) (ends repeats : ℕ)
    → AreLines stated i variables fields open' lines → IsNext stated i x variables fields variables' fields'
    → what_in variables' fields' ends repeats (statement_shown x.statement)
    ≡ what_in (first_uses (variables_in (map stated_shown stated)))
    (first_uses (fields_in (map stated_shown stated))) ends repeats (statement_shown x.statement)
what_in-stays stated i x variables fields variables' fields' open' lines ends repeats h next =
    let statement = statement_shown x.statement in
    let rest = map stated_shown (drop (i + 1) stated) in
    let vs = names-next variables_of stated i x variables variables' next.here next.variables_are ∙ h.variables_are in
    let fs = names-next fields_of stated i x fields fields' next.here next.fields_are ∙ h.fields_are in
    let known_variables =
    subst (λ names. AreIn names (variables_of statement)) (sym next.variables_are)
    (AreIn-fold variables (variables_of statement)) in
    let known_fields =
    subst (λ names. AreIn names (fields_of statement)) (sym next.fields_are)
    (AreIn-fold fields (fields_of statement)) in
    ap (what_at_places ends repeats statement.keyword)
    (arguments-fold variables' fields' (variables_in rest) (fields_in rest) statement.operands known_variables
    known_fields
    ∙ ap (λ names. map (argument_of names (fold with_name fields' (fields_in rest))) statement.operands) vs
    ∙ ap (λ names. map (argument_of (first_uses (variables_in (map stated_shown stated))) names) statement.operands) fs)

-- the step to the next statement, where there are as many lines as statements were read
step-here : (stated : List StatedSlices) (i : ℕ) (x : StatedSlices) (vs fs : List (List ℕ)) (open' : List ℕ)
    (lines : List Line) → length lines ≡ i → AreBelow i open' → MayStand (length open') x.statement.keyword
    → all_ended (λ n. end_after n (i + 1) (map stated_shown (drop (i + 1) stated)))
    (open_after i open' x.statement.keyword)
    (closed_lines x.statement.keyword i open' lines ++ line x.number (what_in vs fs 0 (innermost_of open')
    (statement_shown x.statement)) ∷ [])
    ++ lines_from vs fs (i + 1) (open_after i open' x.statement.keyword) (map stated_shown (drop (i + 1) stated))
    ≡ all_ended (λ n. end_after n i (stated_shown x ∷ map stated_shown (drop (i + 1) stated))) open' lines
    ++ lines_from vs fs i open' (stated_shown x ∷ map stated_shown (drop (i + 1) stated))
step-here stated i x vs fs open' lines count below may =
    let k = x.statement.keyword in
    let operands = (statement_shown x.statement).operands in
    let more = map stated_shown (drop (i + 1) stated) in
    let here : suc i ≡ i + 1 = omega arith in
    let Step = λ (at next : ℕ).
    all_ended (λ n. end_after n next more) (open_after at open' k)
    (closed_lines k at open' lines
    ++ line x.number (what_in vs fs 0 (innermost_of open') (statement_shown x.statement)) ∷ [])
    ++ lines_from vs fs next (open_after at open' k) more
    ≡ all_ended (λ n. end_after n at (stated_shown x ∷ more)) open' lines
    ++ lines_from vs fs at open' (stated_shown x ∷ more) in
    subst (Step i) here (subst (λ at. Step at (suc at)) count
    (lines-step k vs fs x.number operands open' lines more (subst (λ at. AreBelow at open') (sym count) below) may))

-- the statement that stands here, and those of the rest
pub next-AreStated : (stated : List StatedSlices) (i : ℕ) (x : StatedSlices) (depth : ℕ)
    → drop i stated ≡ x ∷ drop (i + 1) stated → AreStated depth (map stated_shown (drop i stated))
    → AreStated depth (stated_shown x ∷ map stated_shown (drop (i + 1) stated))
next-AreStated stated i x depth here h = subst (λ all. AreStated depth (map stated_shown all)) here h

-- one more statement is a line
pub AreLines-more : (stated : List StatedSlices) (i : ℕ) (x : StatedSlices)
    (variables fields variables' fields' : List (List ℕ)) (open' inner : List ℕ) (lines pushed : List Line)
    → AreLines stated i variables fields open' lines → IsNext stated i x variables fields variables' fields'
    → are_too_many variables' fields' ≡ false → inner ≡ open_after i open' x.statement.keyword
    → pushed ≡ closed_lines x.statement.keyword i open' lines ++ line x.number
    (what_in variables' fields' 0 (innermost_of open') (statement_shown x.statement)) ∷ []
    → AreLines stated (i + 1) variables' fields' inner pushed
AreLines-more stated i x variables fields variables' fields' open' inner lines pushed h next few inner_is pushed_is =
    let vs = first_uses (variables_in (map stated_shown stated)) in
    let fs = first_uses (fields_in (map stated_shown stated)) in
    let k = x.statement.keyword in
    let more = map stated_shown (drop (i + 1) stated) in
    let both =
    neither (nat_lt variable_names_most (length variables')) (nat_lt field_names_most (length fields')) few in
    let is = next-AreStated stated i x (length open') next.here h.blocks in
    let same = what_in-stays stated i x variables fields variables' fields' open' lines 0 (innermost_of open') h next in
    let last = λ (what : What). closed_lines k i open' lines ++ line x.number what ∷ [] in
    let written = pushed_is ∙ ap last same in
    record {
      variables_are =
          names-next variables_of stated i x variables variables' next.here next.variables_are ∙ h.variables_are;
      fields_are = names-next fields_of stated i x fields fields' next.here next.fields_are ∙ h.fields_are;
      few_variables = at_most variable_names_most (length variables') both.0;
      few_fields = at_most field_names_most (length fields') both.1;
      within =
          let later = past_limit variables' fields' more in
          sym (past_limit-next stated i x variables fields variables' fields' next
          ∙ ap (λ past. cond past (Some x.number) later) few)
          ∙ h.within;
      count =
          ap length pushed_is ∙ length-append (closed_lines k i open' lines) _
          ∙ ap (λ n. n + 1) (length-closed_lines k i open' lines ∙ h.count);
      below = subst (AreBelow (i + 1)) (sym inner_is) (below_after i open' k h.below);
      blocks = subst (λ deep. AreStated (length deep) more) (sym inner_is) (later i open' k more is.2);
      all =
          ap (λ deep. all_ended (λ n. end_after n (i + 1) more) deep pushed ++ lines_from vs fs (i + 1) deep more)
          inner_is
          ∙ ap (λ all. all_ended (λ n. end_after n (i + 1) more) (open_after i open' k) all
          ++ lines_from vs fs (i + 1) (open_after i open' k) more) written
          ∙ step-here stated i x vs fs open' lines h.count h.below is.1
          ∙ ap (λ all. all_ended (λ n. end_after n i (map stated_shown all)) open' lines
          ++ lines_from vs fs i open' (map stated_shown all)) (sym next.here)
          ∙ h.all;
    }

-- All statements are lines.
pub record AreAll (stated : List StatedSlices) (variables fields : List (List ℕ)) (lines : List Line) : Type 0 where
  pub script : (version : ℕ) → script_of version (map stated_shown stated) ≡ script_text version lines variables fields
  pub within : past_limit [] [] (map stated_shown stated) ≡ None

-- no `repeat` is open after the last statement
no_open : (open' : List ℕ) → length open' ≡ 0 → open' ≡ []
no_open [] e = refl
no_open (innermost ∷ outer) e = absurd (omega (arith, e))

-- past the last statement, all are
pub AreLines-all : (stated : List StatedSlices) (i : ℕ) (variables fields : List (List ℕ)) (open' : List ℕ)
    (lines : List Line) → length stated ≤ i → AreLines stated i variables fields open' lines
    → AreAll stated variables fields lines
AreLines-all stated i variables fields open' lines past h =
    let end = drop_all i stated past in
    let all = script_of 1 (map stated_shown stated) in
    let vs : variables ≡ all.variables =
    sym (ap (λ rest. fold with_name variables (variables_in (map stated_shown rest))) end) ∙ h.variables_are in
    let fs : fields ≡ all.fields =
    sym (ap (λ rest. fold with_name fields (fields_in (map stated_shown rest))) end) ∙ h.fields_are in
    let none = no_open open' (subst (λ rest. AreStated (length open') (map stated_shown rest)) end h.blocks) in
    let rest_of = λ (rest : List StatedSlices) (deep : List ℕ).
    all_ended (λ n. end_after n i (map stated_shown rest)) deep lines
    ++ lines_from all.variables all.fields i deep (map stated_shown rest) in
    let ls : lines ≡ all.lines =
    sym (ap (λ rest. rest_of rest open') end ∙ ap (rest_of []) none ∙ append-nil lines) ∙ h.all in
    record {
      script =
          λ version. sym (ap (λ some. script_text version some variables fields) ls
          ∙ ap (λ names. script_text version all.lines names fields) vs
          ∙ ap (script_text version all.lines all.variables) fs);
      within =
          sym h.within ∙ ap (λ rest. past_limit variables fields (map stated_shown rest)) end;
    }
