-- The commands of the table are tried one after another.
use Rattle.script_text.specs.declared.table.Keyword.TheVariants.{New}
use Rattle.script_text.specs.Table.{keywords_of, keyword_among}
use Rattle.script_text.proofs.Keywords.{known_among-all, found, passed, past}
use Rattle.script_text.proofs.table.keyword_of.Goals as goal

pub loop-keyword-init : goal.loop-keyword-init
loop-keyword-init c =
    known_among-all c.args.version c.keywords-keyword-items.result.now c.args.token.now c.keywords-keyword-items.ensures

pub returns-then-is_written : goal.returns-then-is_written
returns-then-is_written c =
    found c.args.version c.keywords-keyword-items.result.now c.loop-keyword.keyword-index New c.args.token.now
    c.is_written.result (keyword_among (keywords_of c.args.version) c.args.token.now) c.loop-keyword-test.true
    c.loop-keyword.invariant c.is_written.ensures c.if-is_written.true

pub loop-keyword-preserved : goal.loop-keyword-preserved
loop-keyword-preserved c =
    passed c.args.version c.keywords-keyword-items.result.now c.loop-keyword.keyword-index New c.args.token.now
    c.is_written.result (keyword_among (keywords_of c.args.version) c.args.token.now) c.loop-keyword-test.true
    c.loop-keyword.invariant c.is_written.ensures c.if-is_written.false

pub returns : goal.returns
returns c =
    past c.args.version c.keywords-keyword-items.result.now c.loop-keyword.keyword-index c.args.token.now
    (keyword_among (keywords_of c.args.version) c.args.token.now) c.loop-keyword-test.false c.loop-keyword.invariant
