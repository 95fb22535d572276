-- A script in canonical form has the lines of its statements, and these are read again.
use Rattle.std.proofs.Common.{◌≡◌, ℕ, zero, suc, ◌+◌, ◌≤◌, List, [], ◌∷◌, ◌++◌, length, map, pos, codes, slice_get}
use Rattle.std.proofs.Common.{unwrap_or, None, Result, Ok, Err, refl, sym, ap, ◌∙◌, subst, arith}
use Rattle.std.specs.List.{flat_map}
use Rattle.script_text.specs.declared.script.BadScript.{BadScript}
use Rattle.script_text.specs.declared.script.Line.{Line}
use Rattle.script_text.specs.Lines.{lines_of}
use Rattle.script_text.specs.Table.{keyword_text, places_of}
use Rattle.script_text.specs.Statements.{Statement, RawOperand, variable, field, bound}
use Rattle.script_text.specs.Names.{number_of_name, variable_in, field_in, variables_of, fields_of, first_uses}
use Rattle.script_text.specs.Scripts.{NumberedStatement, argument_of, argument_at, what_in, end_after}
use Rattle.script_text.specs.Grammar.{past_limit, lines_from, open_after, innermost_of, script_of}
use Rattle.script_text.specs.Grammar.{within_limit, script_or_stop, reading_from, reading}
use Rattle.script_text.specs.Versions.{version_most, version_word, version_in, Opening, unsaid, opening_with}
use Rattle.script_text.specs.Versions.{opening_from}
use Rattle.script_text.specs.declared.script.Why.{Why}
use Rattle.script_laws.specs.Canonical.{spaced, ended, written_token, statement_text, token_of, arguments_in, what_text}
use Rattle.script_laws.specs.Canonical.{version_lines, printed, ParsesAs, PrintedIsReadAgain}
use Rattle.script_text.specs.Fitting.{AllFit, AreStated, deeper}
use Rattle.script_text.proofs.Speaking.{stated_from-AreStated}
use Rattle.script_text.proofs.Openings.{openings}
use Rattle.script_text.proofs.Reading.{reading-parts}
use Rattle.script_text.proofs.Numbers.{Contains-first_uses}
use Rattle.script_laws.proofs.Naming.{slice_get-number_of}
use Rattle.script_text.proofs.Within.{AreIn, AreIn-left, AreIn-right}
use Rattle.script_laws.proofs.Standing.{keyword_of-what_of, AllStand-arguments, arguments_in-what}
use Rattle.script_laws.specs.Openings.{Begin, empty, other, said}
use Rattle.script_laws.proofs.Begins.{versions_stand_first, opening-statement}
use Rattle.script_laws.proofs.Integers.{integers_are_written}
use Rattle.script_laws.proofs.Spacing.{AllAvoid, is_feed}
use Rattle.script_laws.proofs.Feeds.{lines_of-ended, feed-lines_of}
use Rattle.script_laws.proofs.Again.{AreReadAgain, statement_lines, renumbered, stated_from-AreReadAgain}
use Rattle.script_laws.proofs.Again.{feed-statement_lines, stated_from-again, past_limit-renumbered}
use Rattle.script_laws.proofs.Again.{script_of-renumbered}

-- a name comes back by its number
name_back : (names : List (List ℕ)) (token : List ℕ) → AreIn names (token ∷ [])
    → unwrap_or (slice_get names (number_of_name names token)) [] ≡ token
name_back names token h =
    ap (λ found. unwrap_or found []) (slice_get-number_of names token (h.each token (0, omega arith, refl)))

-- the token of an argument is that of its operand
token_of-argument_of : (variables fields : List (List ℕ)) (written : RawOperand) → AreIn variables (variable_in written)
    → AreIn fields (field_in written)
    → token_of variables fields (argument_of variables fields written) ≡ written_token written
token_of-argument_of variables fields (variable token) vs fs = name_back variables token vs
token_of-argument_of variables fields (field token) vs fs = name_back fields token fs
token_of-argument_of variables fields (bound token) vs fs = name_back variables token vs
token_of-argument_of variables fields written vs fs = refl

-- so are the tokens of arguments
tokens-arguments : (variables fields : List (List ℕ)) (operands : List RawOperand)
    → AreIn variables (flat_map variable_in operands) → AreIn fields (flat_map field_in operands)
    → map (token_of variables fields) (map (argument_of variables fields) operands) ≡ map written_token operands
tokens-arguments variables fields [] vs fs = refl
tokens-arguments variables fields (written ∷ operands) vs fs =
    let vs_more = flat_map variable_in operands in
    let fs_more = flat_map field_in operands in
    ap (λ token. token ∷ map (token_of variables fields) (map (argument_of variables fields) operands))
    (token_of-argument_of variables fields written (AreIn-left variables (variable_in written) vs_more vs)
    (AreIn-left fields (field_in written) fs_more fs))
    ∙ ap (λ tokens. written_token written ∷ tokens)
    (tokens-arguments variables fields operands (AreIn-right variables (variable_in written) vs_more vs)
    (AreIn-right fields (field_in written) fs_more fs))

-- what a statement does is printed as the statement
what_text-statement_text : (variables fields : List (List ℕ)) (ends repeats : ℕ) (statement : Statement)
    → AllFit (places_of statement.keyword) statement.operands
    → AreIn variables (variables_of statement) → AreIn fields (fields_of statement)
    → what_text variables fields (what_in variables fields ends repeats statement) ≡ statement_text statement
what_text-statement_text variables fields ends repeats statement fits vs fs =
    let k = statement.keyword in
    let arguments = map (argument_of variables fields) statement.operands in
    let what = what_in variables fields ends repeats statement in
    ap (λ kw. spaced (keyword_text kw ∷ map (token_of variables fields) (arguments_in what)))
    (keyword_of-what_of ends repeats k (argument_at arguments 0) (argument_at arguments 1) (argument_at arguments 2))
    ∙ ap (λ os. spaced (keyword_text k ∷ map (token_of variables fields) os))
    (arguments_in-what ends repeats k arguments
    (AllStand-arguments variables fields (places_of k) statement.operands fits))
    ∙ ap (λ tokens. spaced (keyword_text k ∷ tokens)) (tokens-arguments variables fields statement.operands vs fs)

-- the lines of statements are printed as the statements
what_texts-statement_lines :
    (depth : ℕ) (variables fields : List (List ℕ)) (at : ℕ) (open' : List ℕ) (all : List NumberedStatement)
    → AreStated depth all → AreIn variables (flat_map (λ s. variables_of s.statement) all)
    → AreIn fields (flat_map (λ s. fields_of s.statement) all)
    → map (λ line. what_text variables fields line.what) (lines_from variables fields at open' all)
    ≡ statement_lines all
what_texts-statement_lines depth variables fields at open' [] h vs fs = refl
what_texts-statement_lines depth variables fields at open' (stated ∷ more) h vs fs =
    let statement = stated.statement in
    let vs_more = flat_map (λ (s : NumberedStatement). variables_of s.statement) more in
    let fs_more = flat_map (λ (s : NumberedStatement). fields_of s.statement) more in
    let vs_here = AreIn-left variables (variables_of statement) vs_more vs in
    let fs_here = AreIn-left fields (fields_of statement) fs_more fs in
    let vs_later = AreIn-right variables (variables_of statement) vs_more vs in
    let fs_later = AreIn-right fields (fields_of statement) fs_more fs in
    let later =
    map (λ (line : Line). what_text variables fields line.what)
    (lines_from variables fields (suc at) (open_after at open' statement.keyword) more) in
    ap (λ first. first ∷ later) (what_text-statement_text variables fields (end_after 0 (suc at) more)
    (innermost_of open') statement h.0.fitting vs_here fs_here)
    ∙ ap (λ rest. statement_text statement ∷ rest) (what_texts-statement_lines
    (deeper depth statement.keyword) variables fields (suc at)
    (open_after at open' statement.keyword) more h.2 vs_later fs_later)

-- a script of statements that were read is printed as its version and the statements
printed-script_of : (version : ℕ) (all : List NumberedStatement) → AreStated 0 all
    → printed (script_of version all) ≡ ended (version_lines version ++ statement_lines all)
printed-script_of version all h =
    let vs = flat_map (λ (s : NumberedStatement). variables_of s.statement) all in
    let fs = flat_map (λ (s : NumberedStatement). fields_of s.statement) all in
    ap (λ lines. ended (version_lines version ++ lines))
    (what_texts-statement_lines 0 (first_uses vs) (first_uses fs) 0 [] all h
    (record { each = Contains-first_uses vs }) (record { each = Contains-first_uses fs }))

-- behind the line of its version, if there is one, the commands of that version begin
record OpensAs (version : ℕ) (lines : List (List ℕ)) : Type 0 where
  number : ℕ
  is : opening_from 1 (version_lines version ++ lines)
      ≡ Ok (record { version = version; number = number; lines = lines })
  feed : AllAvoid is_feed (version_lines version ++ lines)

-- statements of the first version need no line before them
first-opens : (all : List NumberedStatement) → AreReadAgain 1 all
    → opening_from 1 (statement_lines all) ≡ Ok (unsaid 1 (statement_lines all))
first-opens [] again = refl
first-opens (stated ∷ more) again =
    opening-statement 1 1 (statement_text stated.statement) (statement_lines more) stated.statement again.0.read

-- the line of the second version
second-line : version_lines 2 ≡ codes "version 2" ∷ []
second-line =
    ap (λ digits. spaced (version_word ∷ digits ∷ []) ∷ []) (sym (integers_are_written (codes "2") (pos 2) refl).0)

-- the statements of a version are opened as such
statements-open : (version : ℕ) (all : List NumberedStatement) → 1 ≤ version → version ≤ version_most
    → AreReadAgain version all → OpensAs version (statement_lines all)
statements-open zero all least most again = absurd (omega (arith, least))
statements-open (suc zero) all least most again = record {
  number = 1;
  is = first-opens all again;
  feed = feed-statement_lines 1 all again;
}
statements-open (suc (suc zero)) all least most again =
    let lines = statement_lines all in
    record {
      number = 2;
      is = ap (λ before. opening_from 1 (before ++ lines)) second-line;
      feed = subst (λ before. AllAvoid is_feed (before ++ lines)) (sym second-line) (
        (refl, (refl, (refl, (refl, (refl, (refl, (refl, (refl, (refl, tt))))))))),
        feed-statement_lines 2 all again,
      );
    }
statements-open (suc (suc (suc more))) all least most again = absurd (omega (arith, most))

-- a script that is printed is read as the same statements, one on each line
reading-printed : (version : ℕ) (all : List NumberedStatement) → AreStated 0 all → AreReadAgain version all
    → past_limit [] [] all ≡ None → (opens : OpensAs version (statement_lines all))
    → reading (printed (script_of version all)) ≡ Ok (script_of version (renumbered opens.number all))
reading-printed version all h again few opens =
    let number = opens.number in
    ap reading (printed-script_of version all h)
    ∙ ap (λ lines. reading_from (opening_from 1 lines))
    (lines_of-ended (version_lines version ++ statement_lines all) opens.feed)
    ∙ ap reading_from opens.is
    ∙ ap (script_or_stop version) (stated_from-again version all number [] h again)
    ∙ ap (within_limit version (renumbered number all)) (past_limit-renumbered [] [] all number few)

-- the script of statements that were read is read again
ParsesAs-script_of : (version : ℕ) (all : List NumberedStatement) → 1 ≤ version → version ≤ version_most
    → AreStated 0 all → AreReadAgain version all → past_limit [] [] all ≡ None
    → ParsesAs (printed (script_of version all)) (script_of version all)
ParsesAs-script_of version all least most h again few =
    let opens = statements-open version all least most again in
    let same = script_of-renumbered version all opens.number in
    record {
      again = script_of version (renumbered opens.number all);
      read = reading-printed version all h again few opens;
      version = same.version;
      lines = same.lines;
      variables = same.variables;
      fields = same.fields;
    }

-- the lines behind others have no line feed where none has
feed-behind : (before after : List (List ℕ)) → AllAvoid is_feed (before ++ after) → AllAvoid is_feed after
feed-behind [] after h = h
feed-behind (line ∷ before) after h = feed-behind before after h.1

-- the lines where the commands begin have none
feed-begun : (lines : List (List ℕ)) (opened : Result Opening BadScript) (opening : Opening) → Begin 1 lines opened
    → opened ≡ Ok opening → AllAvoid is_feed lines → AllAvoid is_feed opening.lines
feed-begun lines opened opening (empty silent e) o h =
    let made : Ok (unsaid (1 + length lines) []) ≡ Ok opening = sym e ∙ o in
    let same : unsaid (1 + length lines) [] ≡ opening = cc in
    subst (λ one. AllAvoid is_feed one.lines) same tt
feed-begun lines opened opening (other before line after cut silent is e) o h =
    let made : Ok (unsaid (1 + length before) (line ∷ after)) ≡ Ok opening = sym e ∙ o in
    let same : unsaid (1 + length before) (line ∷ after) ≡ opening = cc in
    subst (λ one. AllAvoid is_feed one.lines) same
    (feed-behind before (line ∷ after) (subst (AllAvoid is_feed) cut h))
feed-begun lines opened opening (said before line after tokens cut silent says e) o h =
    with_version (version_in tokens) (sym e ∙ o)
    (feed-behind before (line ∷ after) (subst (AllAvoid is_feed) cut h)).1
  where
    with_version : (read : Result ℕ Why) → opening_with (1 + length before) after read ≡ Ok opening
        → AllAvoid is_feed after → AllAvoid is_feed opening.lines
    with_version (Err reason) made rest = cc
    with_version (Ok version) made rest =
        let one : Opening = record { version = version; number = suc (1 + length before); lines = after } in
        let same : one ≡ opening = cc in
        subst (λ some. AllAvoid is_feed some.lines) same rest

-- a script that was read is read again from its canonical form
pub printed_is_read_again : PrintedIsReadAgain
printed_is_read_again source script e =
    let lines = lines_of source in
    let parts = reading-parts (opening_from 1 lines) script e in
    let o = parts.opening in
    let read = parts.all in
    let known = (openings 1 lines o parts.is).known in
    let begin = versions_stand_first 1 lines in
    let feed = feed-begun lines (opening_from 1 lines) o begin parts.is (feed-lines_of source) in
    subst (λ s. ParsesAs (printed s) s) read.same
    (ParsesAs-script_of o.version read.stated known.0 known.1
    (stated_from-AreStated o.version o.number [] o.lines read.stated read.is)
    (stated_from-AreReadAgain o.version o.number [] o.lines read.stated feed read.is) read.within)
