-- The entry is put in a table that is made, or there is no room.
use Rattle.std.proofs.Common.{◌+◌, rules, sym, subst, arith}
use Rattle.handle_roots.specs.Roots.{FitsHeld}
use Rattle.ephemeron_table.specs.Rehashing.{PutsInNewTable}
use Rattle.ephemeron_table.proofs.FullTables.{put_known}
use Rattle.ephemeron_table.proofs.GrowableMaps.{can_grow}
use Rattle.ephemeron_table.proofs.KnownClaims.{known_map_may, shown_may_change}
use Rattle.write_barrier.proofs.StoresOn.{next_is_young}
use Rattle.ephemeron_table.proofs.NewTableEntries.{IsGrowing, growing_refused, grown_entry, grown_pair}
use Rattle.ephemeron_table.proofs.KnownTables.{shown_known}
use Rattle.ephemeron_table.proofs.PutRefusals.{both_refused}
use Rattle.ephemeron_table.proofs.PutShown.{has_put_pair}
use Rattle.ephemeron_table.proofs.adding.put_grown.Goals as goal

pub put_in_new_table-requires : goal.put_in_new_table-requires
put_in_new_table-requires c =
    let shown = c.requires.shown in
    record {
      can = can_grow (put_known shown c.addresses_fit.ensures.within c.requires.table) c.args.key c.args.count
          shown.is_key.place (next_is_young shown.shows)
          (known_map_may (put_known shown c.addresses_fit.ensures.within c.requires.table)
          (shown_may_change shown.shows)) c.requires.few c.requires.over;
    }

pub returns : goal.returns
returns c graph weak number what shows is is_key held fresh =
    let growing : IsGrowing c.args.main.now graph c.args.map c.args.key weak number c.args.table = record {
      lacks = record {
        shows = shows;
        is = is;
        is_key = is_key;
        sizes = c.addresses_fit.ensures.within;
        is_table = c.requires.table;
        fresh = fresh;
      };
      few = omega (arith, c.requires.counted, c.requires.few);
      over = omega (arith, c.requires.counted, c.requires.over);
    } in
    let fits : FitsHeld c.args.value = search rules in
    let puts = subst (λ n. PutsInNewTable c.args.main.now c.put_in_new_table.new.main c.args.map c.args.table c.args.key
    (n + 1) c.args.value) (sym c.requires.counted) c.in_ok-put_in_new_table.ensures.ok in
    record {
      entry = grown_entry growing fits held puts c.laws_of_entries.ensures.show;
      pairs = has_put_pair (grown_pair growing fits held puts) c.laws_of_values.ensures;
    }

pub returns-in_err-put_in_new_table : goal.returns-in_err-put_in_new_table
returns-in_err-put_in_new_table c graph weak number what shows is is_key held fresh =
    let growing : IsGrowing c.args.main.now graph c.args.map c.args.key weak number c.args.table = record {
      lacks = record {
        shows = shows;
        is = is;
        is_key = is_key;
        sizes = c.addresses_fit.ensures.within;
        is_table = c.requires.table;
        fresh = fresh;
      };
      few = omega (arith, c.requires.counted, c.requires.few);
      over = omega (arith, c.requires.counted, c.requires.over);
    } in
    let room = c.in_err-put_in_new_table.field-0.0 in
    let refused =
    growing_refused growing c.args.value what room held c.in_err-put_in_new_table.ensures.refused in
    let known = shown_known shows is c.addresses_fit.ensures.within c.requires.table in
    both_refused known shows is is_key c.from_residual.result room c.from_residual.ensures.1 held refused
