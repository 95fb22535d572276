-- The operands of the statement are entered one after another.
use Rattle.std.proofs.Common.{◌≤◌, length, take, arith}
use Rattle.std.proofs.lemmas.List.{length-map, length-take}
use Rattle.script_text.specs.Table.{places_of}
use Rattle.script_text.specs.Shown.{shown, statement_shown}
use Rattle.script_text.proofs.Staying.{few_places, entered_arguments, three_enter}
use Rattle.script_text.proofs.numbering.Numbering.arguments.Goals as goal

pub returns : goal.returns
returns c =
    let k = c.args.statement.now.keyword in
    let operands = (statement_shown c.args.statement.now).operands in
    let some = take (length (places_of k)) c.args.statement.now.operands in
    let few : length operands ≤ 3 =
    omega (
      arith,
      few_places k,
      length-map some shown,
      length-take (length (places_of k)) c.args.statement.now.operands,
    ) in
    let all = three_enter operands _ _ _ _ _ _ _ _ c.in_ok-a.a c.in_ok-b.b c.in_ok-c.c few
    (record {
      variables_are = c.in_ok-a.ensures.variables;
      fields_are = c.in_ok-a.ensures.fields;
      argument_is = c.in_ok-a.ensures.argument;
    })
    (record {
      variables_are = c.in_ok-b.ensures.variables;
      fields_are = c.in_ok-b.ensures.fields;
      argument_is = c.in_ok-b.ensures.argument;
    })
    (record {
      variables_are = c.in_ok-c.ensures.variables;
      fields_are = c.in_ok-c.ensures.fields;
      argument_is = c.in_ok-c.ensures.argument;
    }) in
    record {
      variables = all.variables_are;
      fields = all.fields_are;
      arguments = entered_arguments (places_of k) operands _ _ _ _ c.in_ok-a.a c.in_ok-b.b c.in_ok-c.c few
          c.requires.fits.fitting all;
    }
