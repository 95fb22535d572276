use Rattle.std.proofs.Common.{◌∙◌, arith}
use Rattle.std.proofs.lemmas.Result.{err_from_is_err_and}
use Rattle.script_text.proofs.Phrasing.{statement-of_line}
use Rattle.script_text.proofs.statement.statement_of_line.Goals as goal

pub returns-in_err-with_operands-clause-refused : goal.returns-in_err-with_operands-clause-refused
returns-in_err-with_operands-clause-refused c =
    let stop = err_from_is_err_and c.from_residual.result c.from_residual.ensures.1 in
    rw (stop.1, stop.2)
    (statement-of_line c.args.version c.args.line.now c.in-Some.first.now c.in-Some-keyword_of.keyword
    c.of-tokens.result _ (omega arith) c.of-tokens.ensures c.in-Some.ensures.taken c.in-Some.ensures.rest
    c.in-Some-keyword_of.ensures
    ∙ c.in_err-with_operands.ensures.refused)

pub returns-clause-statement : goal.returns-clause-statement
returns-clause-statement c =
    statement-of_line c.args.version c.args.line.now c.in-Some.first.now c.in-Some-keyword_of.keyword
    c.of-tokens.result _ (omega arith) c.of-tokens.ensures c.in-Some.ensures.taken c.in-Some.ensures.rest
    c.in-Some-keyword_of.ensures
    ∙ c.in_ok-with_operands.ensures.statement
