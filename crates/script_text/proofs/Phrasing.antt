-- The statement of a line whose first token is a command.
use Rattle.std.proofs.Common.{◌≡◌, ℕ, ◌≤◌, false, cond, nat_lt, List, [], ◌∷◌, drop, slice_get, length}
use Rattle.std.proofs.Common.{Some, Err, sym, ap, ◌∙◌, arith}
use Rattle.std.proofs.lemmas.Bool.Decides.{nat_tests}
use Rattle.script_text.specs.declared.table.Keyword.{Keyword}
use Rattle.script_text.specs.declared.script.Why.TheVariants as why
use Rattle.script_text.specs.Limits.{line_bytes_most}
use Rattle.script_text.specs.Lines.{tokens_of}
use Rattle.script_text.specs.Table.{keywords_of, keyword_among}
use Rattle.script_text.specs.Statements.{statement_of, statement_of_line, if_command, with_operands}

-- a list begins with the first of its items
pub first-rest : (tokens : List (List ℕ)) (first : List ℕ) → Some first ≡ slice_get tokens 0
    → tokens ≡ first ∷ drop 1 tokens
first-rest [] first e = cc
first-rest (token ∷ tokens) first e =
    let same : first ≡ token = cc in
    ap (λ t. t ∷ tokens) (sym same)

-- the statement of a line that is not too long, by its first token and the others
pub statement-of_line : (version : ℕ) (line first : List ℕ) (k : Keyword) (tokens rest : List (List ℕ))
    → length line ≤ line_bytes_most
    → tokens ≡ tokens_of line → Some first ≡ slice_get tokens 0 → rest ≡ drop 1 tokens
    → Some k ≡ keyword_among (keywords_of version) first → statement_of_line version line ≡ with_operands k rest
statement-of_line version line first k tokens rest short cut taken others found =
    let fits : nat_lt line_bytes_most (length line) ≡ false = grind (arith, nat_tests) in
    ap (λ long. cond long (Err why.Long) (statement_of version (tokens_of line))) fits
    ∙ ap (statement_of version) (sym cut ∙ first-rest tokens first taken ∙ ap (λ ts. first ∷ ts) (sym others))
    ∙ ap (if_command rest) (sym found)
