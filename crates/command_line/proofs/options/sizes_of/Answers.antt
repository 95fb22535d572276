-- What the parser finds gives the sizes that the words mean.
use Rattle.std.proofs.Common.{rules, map, Some, None}
use Rattle.command_line.proofs.ParserCalls.{sizes_found, sizes_missing}
use Rattle.command_line.proofs.options.sizes_of.Goals as goal

pub returns-in_err-matches-clause-refused : goal.returns-in_err-matches-clause-refused
returns-in_err-matches-clause-refused g c = λ bad.
    sizes_missing (map g.S.AsStr.text c.args.words.now) (c.in_err-matches.ensures.refused (search rules))

pub returns-in-Some-clause-sizes : goal.returns-in-Some-clause-sizes
returns-in-Some-clause-sizes g c =
    sizes_found (map g.S.AsStr.text c.args.words.now) c.in_ok-matches.matches (Some c.in-Some.sizes)
    c.in_ok-matches.ensures.rows (search rules)

pub returns-clause-refused : goal.returns-clause-refused
returns-clause-refused g c = λ bad.
    sizes_found (map g.S.AsStr.text c.args.words.now) c.in_ok-matches.matches None
    c.in_ok-matches.ensures.rows (search rules)
