-- The parser is simple, so its clauses are exact.
use Rattle.std.proofs.Common.{rules, map}
use Rattle.clap.specs.Walk.{rows_of}
use Rattle.clap.specs.Matches.{found_of}
use Rattle.clap.specs.Simple.{app_of}
use Rattle.command_line.proofs.ParserCalls.{rows_parsed, none_parsed}
use Rattle.command_line.proofs.options.matches_of.Goals as goal

pub returns-in_err-try_get_matches_from-clause-refused : goal.returns-in_err-try_get_matches_from-clause-refused
returns-in_err-try_get_matches_from-clause-refused g c = λ bad.
    none_parsed (app_of c.in_ok-parser.parser) (map g.S.AsStr.text c.args.words.now)
    c.in_err-try_get_matches_from.field-0.0
    c.in_ok-parser.ensures c.in_err-try_get_matches_from.ensures.kinds (search rules)

pub returns-clause-rows : goal.returns-clause-rows
returns-clause-rows g c =
    rows_parsed (app_of c.in_ok-parser.parser) (map g.S.AsStr.text c.args.words.now)
    (rows_of (found_of c.in_ok-try_get_matches_from.field-0)) c.in_ok-parser.ensures
    (λ simple. (c.in_ok-try_get_matches_from.ensures.matches simple).0)
    c.in_ok-try_get_matches_from.ensures.kinds
