use Rattle.std.proofs.Common.{◌≡◌, drop}
use Rattle.script_text.specs.Table.{keywords_of, keyword_among}
use Rattle.script_text.proofs.Keywords.{known_among}
use Rattle.script_text.proofs.table.keyword_of.Given as goal

abbrev pub invariant-loop-keyword : goal.invariant-loop-keyword
invariant-loop-keyword l =
    known_among l.version (drop l.keyword-index l.keyword-items) l.token ≡ keyword_among (keywords_of l.version) l.token
