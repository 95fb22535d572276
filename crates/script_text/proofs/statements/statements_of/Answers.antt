-- The lines are few, and the commands begin in them.
use Rattle.std.proofs.Common.{ap, length, map, arith}
use Rattle.script_text.specs.Shown.{stated_shown, IsBad}
use Rattle.script_text.proofs.Begun.{rest-count, begun, begun-IsReadAs, begun-IsBad}
use Rattle.script_text.proofs.Reading.{lines-few, reading-stated}
use Rattle.script_text.proofs.Refusing.{handed_on}
use Rattle.script_text.proofs.statements.statements_of.Goals as goal

pub opening_of-requires : goal.opening_of-requires
opening_of-requires c =
    let few = lines-few c.args.source.now c.in_ok-lines.lines.items c.in_ok-lines.ensures in
    omega (arith, few, c.requires, ap length c.deref.ensures.value)

pub statements_of_lines-requires : goal.statements_of_lines-requires
statements_of_lines-requires c =
    let lines = c.in_ok-lines.lines.items in
    let few = lines-few c.args.source.now lines c.in_ok-lines.ensures in
    let count = rest-count lines c.deref-2.result.now c.in_ok-opening.opening.skipped c.deref-2.ensures.value
    (omega (
      arith,
      c.in_ok-opening.ensures.within,
      ap length c.deref.ensures.value,
      ap length c.deref-2.ensures.value,
    )) in
    omega (arith, few, c.requires, count)

pub returns-in_err-stated-clause-refused : goal.returns-in_err-stated-clause-refused
returns-in_err-stated-clause-refused c =
    let lines = c.in_ok-lines.lines.items in
    let opening = c.in_ok-opening.opening in
    handed_on (IsBad _) _ c.from_residual-in_err-stated.result c.from_residual-in_err-stated.ensures.1
    (begun-IsBad c.args.source.now lines c.deref-2.result.now opening c.in_err-stated.field-0.0 c.in_ok-lines.ensures
    c.deref-2.ensures.value (begun c.args.source.now lines c.deref.result.now opening c.in_ok-lines.ensures
    c.deref.ensures.value c.in_ok-opening.ensures.opened) c.in_err-stated.ensures.refused)

pub returns-clause-stated : goal.returns-clause-stated
returns-clause-stated c =
    let lines = c.in_ok-lines.lines.items in
    let opening = c.in_ok-opening.opening in
    begun-IsReadAs c.args.source.now lines c.deref-2.result.now opening (map stated_shown c.in_ok-stated.stated.items)
    c.in_ok-lines.ensures c.deref-2.ensures.value (begun c.args.source.now lines c.deref.result.now opening
    c.in_ok-lines.ensures c.deref.ensures.value c.in_ok-opening.ensures.opened) c.in_ok-stated.ensures.stated

pub returns-clause-read : goal.returns-clause-read
returns-clause-read c =
    reading-stated _ c.in_ok-opening.opening.version (map stated_shown c.in_ok-stated.stated.items)
    (returns-clause-stated c)
