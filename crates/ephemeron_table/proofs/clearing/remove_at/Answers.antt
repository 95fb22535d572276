-- The pair is removed, and the heap is whole again.
use Rattle.std.proofs.Common.{arith}
use Rattle.ephemeron_table.proofs.KnownClaims.{idle_may_change_each, known_map_may, known_pairs_may}
use Rattle.ephemeron_table.proofs.KnownTables.{keys_beside, map_beside}
use Rattle.ephemeron_table.proofs.TablesRead.{count_within}
use Rattle.ephemeron_table.proofs.RemovedPairs.{known_map, place_below, counts_some, removes_pair}
use Rattle.ephemeron_table.proofs.clearing.remove_at.Goals as goal

pub remove_pair-requires-clause-place : goal.remove_pair-requires-clause-place
remove_pair-requires-clause-place c =
    let there = c.requires.there in
    place_below c.table_of-table.result c.table_of-table.ensures there.2 there.3

pub remove_pair-requires-clause-may : goal.remove_pair-requires-clause-may
remove_pair-requires-clause-may c =
    let there = c.requires.there in
    let known = known_map c.table_of-table.result c.requires.whole c.requires.tied
    c.addresses_fit.ensures.within there.2 c.table_of-table.ensures in
    let below = place_below c.table_of-table.result c.table_of-table.ensures there.2 there.3 in
    known_pairs_may known (idle_may_change_each c.requires.may_store) (omega (arith, below))

pub remove_pair-requires-clause-counts : goal.remove_pair-requires-clause-counts
remove_pair-requires-clause-counts c =
    let there = c.requires.there in
    let known = known_map c.table_of-table.result c.requires.whole c.requires.tied
    c.addresses_fit.ensures.within there.2 c.table_of-table.ensures in
    known_map_may known (idle_may_change_each c.requires.may_store)

pub remove_pair-requires-clause-keys : goal.remove_pair-requires-clause-keys
remove_pair-requires-clause-keys c =
    let there = c.requires.there in
    let known = known_map c.table_of-table.result c.requires.whole c.requires.tied
    c.addresses_fit.ensures.within there.2 c.table_of-table.ensures in
    let below = place_below c.table_of-table.result c.table_of-table.ensures there.2 there.3 in
    keys_beside known (omega (arith, below))

pub remove_pair-requires-clause-map : goal.remove_pair-requires-clause-map
remove_pair-requires-clause-map c =
    let there = c.requires.there in
    let known = known_map c.table_of-table.result c.requires.whole c.requires.tied
    c.addresses_fit.ensures.within there.2 c.table_of-table.ensures in
    count_within known.whole known.there

pub remove_pair-requires-clause-beside : goal.remove_pair-requires-clause-beside
remove_pair-requires-clause-beside c =
    let there = c.requires.there in
    let known = known_map c.table_of-table.result c.requires.whole c.requires.tied
    c.addresses_fit.ensures.within there.2 c.table_of-table.ensures in
    let below = place_below c.table_of-table.result c.table_of-table.ensures there.2 there.3 in
    map_beside known (omega (arith, below)) 2 (omega arith)

pub remove_pair-requires-clause-some : goal.remove_pair-requires-clause-some
remove_pair-requires-clause-some c =
    let there = c.requires.there in
    let known = known_map c.table_of-table.result c.requires.whole c.requires.tied
    c.addresses_fit.ensures.within there.2 c.table_of-table.ensures in
    counts_some known there.2 there.3

pub returns : goal.returns
returns c before has =
    let there = c.requires.there in
    let known = known_map c.table_of-table.result c.requires.whole c.requires.tied
    c.addresses_fit.ensures.within there.2 c.table_of-table.ensures in
    removes_pair known before has there.2 there.3 c.remove_pair.ensures
    c.laws_of_pairs.ensures.own
