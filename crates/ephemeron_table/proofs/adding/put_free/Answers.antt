-- The entry is put, or there is no room.
use Rattle.std.proofs.Common.{rules}
use Rattle.handle_roots.specs.Roots.{FitsHeld}
use Rattle.object_cells.proofs.HeldNeeds.{held_is_value}
use Rattle.ephemeron_table.proofs.NewEntries.{ends_free, free_key_pair, free_key_put, free_key_refused}
use Rattle.ephemeron_table.proofs.KnownTables.{shown_known}
use Rattle.ephemeron_table.proofs.PutRefusals.{both_refused}
use Rattle.ephemeron_table.proofs.PutShown.{has_put_pair}
use Rattle.ephemeron_table.proofs.adding.put_free.Goals as goal

pub returns : goal.returns
returns c graph weak number what shows is is_key held is_table counted comes free =
    let fits : FitsHeld c.args.value = search rules in
    let ends = ends_free shows is is_key held (held_is_value c.args.value what shows fits held.shows)
    c.addresses_fit.ensures.within is_table (comes, free) counted c.requires.few c.requires.half in
    record {
      entry = free_key_put ends c.in_ok-put_in_table.ensures.ok c.laws_of_entries.ensures.show;
      pairs = has_put_pair (free_key_pair ends c.in_ok-put_in_table.ensures.ok) c.laws_of_values.ensures;
    }

pub returns-in_err-put_in_table : goal.returns-in_err-put_in_table
returns-in_err-put_in_table c graph weak number what shows is is_key held is_table counted comes free =
    let fits : FitsHeld c.args.value = search rules in
    let ends = ends_free shows is is_key held (held_is_value c.args.value what shows fits held.shows)
    c.addresses_fit.ensures.within is_table (comes, free) counted c.requires.few c.requires.half in
    let room = c.in_err-put_in_table.field-0.0 in
    let refused = free_key_refused ends room c.in_err-put_in_table.ensures.refused in
    let known = shown_known shows is c.addresses_fit.ensures.within is_table in
    both_refused known shows is is_key c.from_residual.result room c.from_residual.ensures.1 held refused
