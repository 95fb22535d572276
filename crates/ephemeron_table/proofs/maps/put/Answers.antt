-- An entry is put: where the key is there, in its pair.
use Rattle.std.proofs.Common.{◌∙◌, arith}
use Rattle.object_cells.proofs.CellsRead.{place_before_marks}
use Rattle.ephemeron_table.proofs.KeysFound.{weak_shown, shown_there}
use Rattle.ephemeron_table.proofs.KeysProbed.{comes_within}
use Rattle.ephemeron_table.proofs.EntryPairs.{entry_pair}
use Rattle.ephemeron_table.proofs.KnownClaims.{known_pairs_may, shown_box_may, shown_may_change}
use Rattle.ephemeron_table.proofs.KnownTables.{shown_known}
use Rattle.ephemeron_table.proofs.PutKeys.{value_before}
use Rattle.ephemeron_table.proofs.maps.put.Goals as goal

pub table_of-table-requires-clause-there : goal.table_of-table-requires-clause-there
table_of-table-requires-clause-there c = shown_there (weak_shown c.requires.shown.shows c.requires.shown.is)

pub number_at-requires : goal.number_at-requires
number_at-requires c =
    place_before_marks c.requires.shown.shows.shows.whole.sized c.requires.shown.is_key.place

pub put_there-requires-clause-held : goal.put_there-requires-clause-held
put_there-requires-clause-held c =
    let shown = c.requires.shown in
    let has = entry_pair c.table_of-table.result c.in-Key.place shown.shows shown.is shown.is_key
    c.addresses_fit.ensures.within c.table_of-table.ensures (comes_within c.in-Key.ensures.0)
    (c.in-Key.ensures.1 ∙ c.reference.ensures) in
    value_before has c.args.value

pub put_there-requires-clause-may : goal.put_there-requires-clause-may
put_there-requires-clause-may c =
    let shown = c.requires.shown in
    let below = comes_within c.in-Key.ensures.0 in
    known_pairs_may (shown_known shown.shows shown.is c.addresses_fit.ensures.within c.table_of-table.ensures)
    (shown_may_change shown.shows) (omega (arith, below))

pub put_there-requires-clause-boxed : goal.put_there-requires-clause-boxed
put_there-requires-clause-boxed c =
    let shown = c.requires.shown in
    let has = entry_pair c.table_of-table.result c.in-Key.place shown.shows shown.is shown.is_key
    c.addresses_fit.ensures.within c.table_of-table.ensures (comes_within c.in-Key.ensures.0)
    (c.in-Key.ensures.1 ∙ c.reference.ensures) in
    shown_box_may _ _ shown.shows (value_before has c.args.value)

pub returns-in-Key : goal.returns-in-Key
returns-in-Key c =
    let asked = c.requires.shown in
    let read = c.in-Key.ensures.1 ∙ c.reference.ensures in
    let is_table = c.table_of-table.ensures in
    record {
      entry = λ graph weak number what shows is is_key held.
          (c.put_there.ensures c.args.map c.args.key graph weak number what shows is is_key held is_table read).entry;
      pairs = (c.put_there.ensures c.args.map c.args.key asked.graph asked.weak asked.number asked.value asked.shows
          asked.is asked.is_key asked.is_held is_table read).pairs;
    }

pub returns-in-Free : goal.returns-in-Free
returns-in-Free c =
    let asked = c.requires.shown in
    record {
      entry = λ graph weak number what shows is is_key held.
          (c.put_new.ensures graph weak number what shows is is_key held).entry;
      pairs = (c.put_new.ensures asked.graph asked.weak asked.number asked.value asked.shows asked.is asked.is_key
          asked.is_held).pairs;
    }

pub returns-in-Nowhere : goal.returns-in-Nowhere
returns-in-Nowhere c =
    let asked = c.requires.shown in
    record {
      entry = λ graph weak number what shows is is_key held.
          (c.put_new-in-Nowhere.ensures graph weak number what shows is is_key held).entry;
      pairs = (c.put_new-in-Nowhere.ensures asked.graph asked.weak asked.number asked.value asked.shows asked.is
          asked.is_key asked.is_held).pairs;
    }
