use Rattle.std.proofs.Common.{◌+◌, get_or, map, drop, sym, ap, ◌∙◌, subst}
use Rattle.script_text.specs.Blocks.{AreBelow}
use Rattle.script_text.specs.Grammar.{past_limit}
use Rattle.script_text.specs.Shown.{stated_shown, IsPast}
use Rattle.script_text.proofs.Ending.{no_stated}
use Rattle.script_text.proofs.Lining.{drop-index}
use Rattle.script_text.proofs.Refusing.{handed_on}
use Rattle.script_text.proofs.Advancing.{IsNext, AreLines-more, AreLines-all, next-AreStated}
use Rattle.script_text.proofs.numbering.with_numbers.Goals as goal

pub add-requires-clause-fits : goal.add-requires-clause-fits
add-requires-clause-fits c =
    let here = drop-index c.args.stated.now c.loop-i.i no_stated c.loop-i-test.true in
    (next-AreStated c.args.stated.now c.loop-i.i _ _ here c.loop-i.invariant.blocks).0

pub add-requires-clause-below : goal.add-requires-clause-below
add-requires-clause-below c =
    let h = c.loop-i.invariant in
    subst (λ count. AreBelow count c.loop-i.all.opened) (sym h.count) h.below

pub returns-in_err-add-clause-refused : goal.returns-in_err-add-clause-refused
returns-in_err-add-clause-refused c =
    let xs = c.args.stated.now in
    let names = c.loop-i.all.names in
    let here = ap (λ all. past_limit names.variables names.fields (map stated_shown all))
    (drop-index xs c.loop-i.i no_stated c.loop-i-test.true) in
    handed_on (IsPast _) _ c.from_residual-in_err-add.result c.from_residual-in_err-add.ensures.1
    (subst (λ past. IsPast past c.in_err-add.field-0.0) (sym here ∙ c.loop-i.invariant.within)
    (c.in_err-add.ensures.refused (map stated_shown (drop (c.loop-i.i + 1) xs))))

pub loop-i-preserved : goal.loop-i-preserved
loop-i-preserved c =
    let xs = c.args.stated.now in
    let x = get_or xs c.loop-i.i no_stated in
    let old = c.loop-i.all in
    let new = c.add.new.self in
    let next : IsNext xs c.loop-i.i x old.names.variables old.names.fields new.names.variables new.names.fields =
    record {
      here = drop-index xs c.loop-i.i no_stated c.loop-i-test.true;
      variables_are = c.in_ok-add.ensures.variables;
      fields_are = c.in_ok-add.ensures.fields;
    } in
    AreLines-more xs c.loop-i.i x _ _ _ _ old.opened new.opened old.lines.items new.lines.items
    c.loop-i.invariant next c.in_ok-add.ensures.few c.in_ok-add.ensures.opened c.in_ok-add.ensures.line

pub returns-clause-script : goal.returns-clause-script
returns-clause-script c =
    (AreLines-all c.args.stated.now c.loop-i.i _ _ _ _ c.loop-i-test.false c.loop-i.invariant).script

pub returns-clause-few_variables : goal.returns-clause-few_variables
returns-clause-few_variables c = c.loop-i.invariant.few_variables

pub returns-clause-few_fields : goal.returns-clause-few_fields
returns-clause-few_fields c = c.loop-i.invariant.few_fields

pub returns-clause-within : goal.returns-clause-within
returns-clause-within c =
    (AreLines-all c.args.stated.now c.loop-i.i _ _ _ _ c.loop-i-test.false c.loop-i.invariant).within
