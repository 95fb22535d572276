-- The entry of a key that is new is put.
use Rattle.std.proofs.Common.{◌≡◌, Some, unwrap_or, ap, subst, arith}
use Rattle.heap_model.specs.Needs.{count_at}
use Rattle.heap_model.specs.Slots.{reference_word}
use Rattle.write_barrier.specs.MutatorState.{heap_of}
use Rattle.weak_pairs.specs.Tables as tables
use Rattle.ephemeron_table.specs.Probes.{EndsNew}
use Rattle.ephemeron_table.proofs.FullTables.{put_known, over_nowhere, counted_within}
use Rattle.write_barrier.proofs.StoresOn.{next_is_young}
use Rattle.ephemeron_table.proofs.KeysProbed.{comes_within}
use Rattle.ephemeron_table.proofs.KnownClaims.{known_map_may, known_pairs_may, shown_may_change}
use Rattle.ephemeron_table.proofs.KeysFound.{weak_shown, shown_there, number_is}
use Rattle.ephemeron_table.proofs.NewEntries.{refuses_entry, refuses_pair}
use Rattle.ephemeron_table.proofs.NewKeys.{lacks_new}
use Rattle.ephemeron_table.proofs.TablesRead.{count_within}
use Rattle.ephemeron_table.proofs.maps.put_new.Goals as goal

pub slot-count-requires : goal.slot-count-requires
slot-count-requires c =
    let shown = c.requires.shown in
    count_within shown.shows.shows.whole (shown_there (weak_shown shown.shows shown.is))

pub overflow_cast-count : goal.overflow_cast-count
overflow_cast-count c =
    let read : count_at (heap_of c.args.main.now) c.args.map ≡ c.slot-count.result =
    ap (λ found. unwrap_or found 0) c.slot-count.ensures.of_heap in
    let within = counted_within (put_known c.requires.shown c.addresses_fit.ensures.within c.requires.table) in
    omega (arith, read, within, c.requires.table.small)

pub returns-then-count-ge-ENTRIES_MOST : goal.returns-then-count-ge-ENTRIES_MOST
returns-then-count-ge-ENTRIES_MOST c graph weak number what shows is is_key held =
    let heap = heap_of c.args.main.now in
    let read : count_at heap c.args.map ≡ c.slot-count.result =
    ap (λ found. unwrap_or found 0) c.slot-count.ensures.of_heap in
    let ends = subst (λ n. EndsNew heap c.args.table n (reference_word c.args.key) c.args.place)
    (number_is is_key.place) c.requires.ends in
    let lacks = lacks_new c.args.place shows is is_key c.addresses_fit.ensures.within c.requires.table ends in
    let many = c.if-count-ge-ENTRIES_MOST.true in
    record {
      entry = refuses_entry what c.slot-count.result lacks read many;
      pairs = λ before has. refuses_pair c.args.value c.slot-count.result lacks read many has;
    }

pub put_free-requires-clause-may : goal.put_free-requires-clause-may
put_free-requires-clause-may c =
    let shown = c.requires.shown in
    let ends = subst (EndsNew (heap_of c.args.main.now) c.args.table
    (tables.number_at (heap_of c.args.main.now) c.args.key) (reference_word c.args.key)) c.in-Some.is c.requires.ends in
    let below = comes_within ends.0 in
    known_pairs_may (put_known shown c.addresses_fit.ensures.within c.requires.table) (shown_may_change shown.shows)
    (omega (arith, below))

pub put_free-requires-clause-counts : goal.put_free-requires-clause-counts
put_free-requires-clause-counts c =
    let shown = c.requires.shown in
    known_map_may (put_known shown c.addresses_fit.ensures.within c.requires.table) (shown_may_change shown.shows)

pub put_free-requires-clause-young : goal.put_free-requires-clause-young
put_free-requires-clause-young c = next_is_young c.requires.shown.shows

pub put_free-requires-clause-map : goal.put_free-requires-clause-map
put_free-requires-clause-map c =
    let shown = c.requires.shown in
    count_within shown.shows.shows.whole (shown_there (weak_shown shown.shows shown.is))

pub put_grown-requires-in-None-clause-over : goal.put_grown-requires-in-None-clause-over
put_grown-requires-in-None-clause-over c =
    let heap = heap_of c.args.main.now in
    let read : count_at heap c.args.map ≡ c.slot-count.result =
    ap (λ found. unwrap_or found 0) c.slot-count.ensures.of_heap in
    let number = tables.number_at heap c.args.key in
    let passes = subst (EndsNew heap c.args.table number (reference_word c.args.key)) c.in-None.is c.requires.ends in
    let over = over_nowhere (put_known c.requires.shown c.addresses_fit.ensures.within c.requires.table) number
    (reference_word c.args.key) passes in
    omega (arith, over, read)

pub returns-then-count-table : goal.returns-then-count-table
returns-then-count-table c graph weak number what shows is is_key held =
    let heap = heap_of c.args.main.now in
    let ends = subst (λ n. EndsNew heap c.args.table n (reference_word c.args.key) (Some c.in-Some.at))
    (number_is is_key.place)
    (subst (EndsNew heap c.args.table (tables.number_at heap c.args.key) (reference_word c.args.key)) c.in-Some.is
    c.requires.ends) in
    c.put_free.ensures graph weak number what shows is is_key held c.requires.table
    (ap (λ found. unwrap_or found 0) c.slot-count.ensures.of_heap) ends.0 ends.1

pub returns-else-count-table : goal.returns-else-count-table
returns-else-count-table c graph weak number what shows is is_key held =
    let heap = heap_of c.args.main.now in
    let ends = subst (λ n. EndsNew heap c.args.table n (reference_word c.args.key) c.args.place)
    (number_is is_key.place) c.requires.ends in
    let lacks = lacks_new c.args.place shows is is_key c.addresses_fit.ensures.within c.requires.table ends in
    c.put_grown.ensures graph weak number what shows is is_key held lacks.fresh

pub returns-in-None : goal.returns-in-None
returns-in-None c graph weak number what shows is is_key held =
    let heap = heap_of c.args.main.now in
    let ends = subst (λ n. EndsNew heap c.args.table n (reference_word c.args.key) c.args.place)
    (number_is is_key.place) c.requires.ends in
    let lacks = lacks_new c.args.place shows is is_key c.addresses_fit.ensures.within c.requires.table ends in
    c.put_grown-in-None.ensures graph weak number what shows is is_key held lacks.fresh
