-- The pair of the entry is removed.
use Rattle.std.proofs.Common.{◌∙◌, arith}
use Rattle.object_cells.proofs.CellsRead.{place_before_marks}
use Rattle.ephemeron_table.proofs.EntryPairs.{entry_counted, entry_pair}
use Rattle.ephemeron_table.proofs.KeysFound.{weak_shown, shown_there, key_told}
use Rattle.ephemeron_table.proofs.KeysProbed.{comes_within, none_at_free, none_passed}
use Rattle.ephemeron_table.proofs.KnownClaims.{known_map_may, known_pairs_may, shown_may_change}
use Rattle.ephemeron_table.proofs.KnownTables.{keys_beside, map_beside, shown_known}
use Rattle.ephemeron_table.proofs.TablesRead.{count_within}
use Rattle.ephemeron_table.proofs.DeletedPairs.{deletes_nothing, deletes_pair}
use Rattle.ephemeron_table.proofs.DeletedEntries.{deletes_entry, IsDeleting}
use Rattle.ephemeron_table.proofs.deleting.delete.Goals as goal

pub table_of-table-requires-clause-there : goal.table_of-table-requires-clause-there
table_of-table-requires-clause-there c = shown_there (weak_shown c.requires.shown.shows c.requires.shown.is)

pub number_at-requires : goal.number_at-requires
number_at-requires c =
    place_before_marks c.requires.shown.shows.shows.whole.sized c.requires.shown.is_key.place

pub remove_pair-requires-clause-place : goal.remove_pair-requires-clause-place
remove_pair-requires-clause-place c = comes_within c.in-Key.ensures.0

pub remove_pair-requires-clause-may : goal.remove_pair-requires-clause-may
remove_pair-requires-clause-may c =
    let shown = c.requires.shown in
    let below = comes_within c.in-Key.ensures.0 in
    known_pairs_may (shown_known shown.shows shown.is c.addresses_fit.ensures.within c.table_of-table.ensures)
    (shown_may_change shown.shows) (omega (arith, below))

pub remove_pair-requires-clause-counts : goal.remove_pair-requires-clause-counts
remove_pair-requires-clause-counts c =
    let shown = c.requires.shown in
    known_map_may (shown_known shown.shows shown.is c.addresses_fit.ensures.within c.table_of-table.ensures)
    (shown_may_change shown.shows)

pub remove_pair-requires-clause-keys : goal.remove_pair-requires-clause-keys
remove_pair-requires-clause-keys c =
    let shown = c.requires.shown in
    let known = shown_known shown.shows shown.is c.addresses_fit.ensures.within c.table_of-table.ensures in
    let below = comes_within c.in-Key.ensures.0 in
    keys_beside known (omega (arith, below))

pub remove_pair-requires-clause-map : goal.remove_pair-requires-clause-map
remove_pair-requires-clause-map c =
    let shown = c.requires.shown in
    count_within shown.shows.shows.whole (shown_there (weak_shown shown.shows shown.is))

pub remove_pair-requires-clause-beside : goal.remove_pair-requires-clause-beside
remove_pair-requires-clause-beside c =
    let shown = c.requires.shown in
    let known = shown_known shown.shows shown.is c.addresses_fit.ensures.within c.table_of-table.ensures in
    let below = comes_within c.in-Key.ensures.0 in
    map_beside known (omega (arith, below)) 2 (omega arith)

pub remove_pair-requires-clause-some : goal.remove_pair-requires-clause-some
remove_pair-requires-clause-some c =
    let shown = c.requires.shown in
    entry_counted (entry_pair c.table_of-table.result c.in-Key.place shown.shows shown.is shown.is_key
    c.addresses_fit.ensures.within c.table_of-table.ensures (comes_within c.in-Key.ensures.0)
    (c.in-Key.ensures.1 ∙ c.reference.ensures))

pub returns-in-Key : goal.returns-in-Key
returns-in-Key c =
    let table = c.table_of-table.result in
    let place = c.in-Key.place in
    let within = comes_within c.in-Key.ensures.0 in
    let key_read = c.in-Key.ensures.1 ∙ c.reference.ensures in
    let sizes = c.addresses_fit.ensures.within in
    let is_table = c.table_of-table.ensures in
    let asked = c.requires.shown in
    record {
      entry = λ graph weak number shows is is_key.
          let has = entry_pair table place shows is is_key sizes is_table within key_read in
          let deleting : IsDeleting c.args.main.now c.remove_pair.new.main graph c.args.map c.args.key weak number place
          table = record { has = has; removes = c.remove_pair.ensures } in
          deletes_entry deleting c.laws_of_entries.ensures.show;
      pairs = λ before has_pairs.
          let told = key_told table place (weak_shown asked.shows asked.is) asked.is_key is_table within key_read in
          deletes_pair asked.shows asked.is asked.is_key sizes is_table told has_pairs c.remove_pair.ensures
          c.laws_of_pairs.ensures.own;
    }

-- where no entry has the key, nothing changes
pub returns-in-Free : goal.returns-in-Free
returns-in-Free c =
    let is_table = c.table_of-table.ensures in
    let left = deletes_nothing c.requires.shown c.addresses_fit.ensures.within is_table
    (λ graph weak number shows is is_key.
    none_at_free _ _ shows (weak_shown shows is) is_key is_table c.number_at.ensures c.reference.ensures
    c.in-Free.ensures) in
    record { entry = left.0; pairs = left.1 }

pub returns-in-Nowhere : goal.returns-in-Nowhere
returns-in-Nowhere c =
    let is_table = c.table_of-table.ensures in
    let left = deletes_nothing c.requires.shown c.addresses_fit.ensures.within is_table
    (λ graph weak number shows is is_key.
    none_passed _ _ shows (weak_shown shows is) is_key is_table c.number_at.ensures c.reference.ensures
    c.in-Nowhere.ensures) in
    record { entry = left.0; pairs = left.1 }
