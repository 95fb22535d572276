-- The entry has the value, or there is no room.
use Rattle.std.proofs.Common.{rules}
use Rattle.handle_roots.specs.Roots.{FitsHeld}
use Rattle.ephemeron_table.proofs.EntryPairs.{entry_pair, known}
use Rattle.ephemeron_table.proofs.PutKeys.{value_refused, has_put_value, puts_value_pair}
use Rattle.ephemeron_table.proofs.PutRefusals.{both_refused}
use Rattle.ephemeron_table.proofs.PutShown.{has_put_pair}
use Rattle.ephemeron_table.proofs.replacing.put_there.Goals as goal

pub returns : goal.returns
returns c map key graph weak number what shows is is_key held is_table read =
    let fits : FitsHeld c.args.value = search rules in
    let has = entry_pair c.args.table c.args.place shows is is_key c.addresses_fit.ensures.within is_table
    c.requires.place read in
    record {
      entry = has_put_value c.args.value what has fits held c.laws_of_entries.ensures.show c.in_ok-put_value.ensures;
      pairs = has_put_pair
          (puts_value_pair c.args.value what has fits held c.in_ok-put_value.ensures) c.laws_of_values.ensures;
    }

pub returns-in_err-put_value : goal.returns-in_err-put_value
returns-in_err-put_value c map key graph weak number what shows is is_key held is_table read =
    let has = entry_pair c.args.table c.args.place shows is is_key c.addresses_fit.ensures.within is_table
    c.requires.place read in
    let room = c.in_err-put_value.field-0.0 in
    let refused =
    value_refused has c.args.value what room held c.in_err-put_value.ensures.0 c.in_err-put_value.ensures.1 in
    both_refused (known has) shows is is_key c.from_residual.result room c.from_residual.ensures.1 held refused
