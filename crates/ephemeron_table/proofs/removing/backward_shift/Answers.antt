-- Pairs move back, one after the other, until the hole may be free.
use Rattle.std.proofs.Common.{◌≡◌, ℕ, ◌+◌, ◌<◌, Some, None, refl, sym, ◌∙◌, ap, subst, arith}
use Rattle.page_space.specs.Extents.{Space, marks_start}
use Rattle.write_barrier.specs.Seats.{heap_words}
use Rattle.tagged_word.specs.Readings.{reference_in}
use Rattle.linear_probing.proofs.Turns.{ends_at_last}
use Rattle.write_barrier.specs.MutatorState.{heap_of}
use Rattle.object_cells.proofs.CellsRead.{fits_address}
use Rattle.weak_pairs.specs.Tables.{numbers, pairs_of}
use Rattle.weak_pairs.proofs.PairLists.{pairs_read}
use Rattle.ephemeron_table.proofs.ChangedPairs.{nothing_changed, pair_changed}
use Rattle.ephemeron_table.proofs.ClaimedMaps.{pairs_may_still}
use Rattle.weak_pairs.proofs.BackwardShifts.{shift_begins, read, key_beside, numbers_long, hole_below, stays_below}
use Rattle.weak_pairs.proofs.BackwardShifts.{ends_here, passes_on, moves_on, less_left}
use Rattle.ephemeron_table.proofs.TableBounds.{none_from_not_some, table_within}
use Rattle.ephemeron_table.proofs.removing.backward_shift.Goals as goal

pub loop-passed-init : goal.loop-passed-init
loop-passed-init c =
    let within = table_within c.args.main.now c.args.table c.requires.within c.addresses_fit.ensures.heap_counted in
    record {
      changes = nothing_changed c.args.main.now c.args.table;
      cycle = refl;
      shifting = shift_begins (heap_of c.args.main.now)
          (pairs_of (heap_words c.args.main.now.seat) c.args.table) c.args.at
          (omega (arith, c.requires.place, (pairs_read (heap_words c.args.main.now.seat) c.args.table within).long));
    }

pub overflow_add-passed : goal.overflow_add-passed
overflow_add-passed c =
    let within = table_within c.args.main.now c.args.table c.requires.within c.addresses_fit.ensures.heap_counted in
    let far = c.loop-passed.invariant in
    let below : c.loop-passed.passed + 1 < marks_start c.args.main.now.seat.space =
    omega (
      arith,
      far.shifting.removal.few,
      numbers_long (heap_of c.args.main.now) (heap_of c.loop-passed.main)
          c.args.table within far.changes.long far.shifting,
      c.requires.within,
    ) in
    fits_address below c.addresses_fit.ensures.within

pub returns-in_default : goal.returns-in_default
returns-in_default c =
    let within = table_within c.args.main.now c.args.table c.requires.within c.addresses_fit.ensures.heap_counted in
    let far = c.loop-passed.invariant in
    let few = c.loop-passed-test.true in
    let next : ℕ = c.place-next.result in
    let one = read (heap_of c.args.main.now) (heap_of c.loop-passed.main) c.args.table within far.changes.long
    far.shifting next few c.place-next.ensures in
    let none : reference_in one.pair.key ≡ None =
    sym (c.address.ensures ∙ ap reference_in (c.key_of.ensures ∙ one.key))
    ∙ none_from_not_some c.address.result c.in_default.not-Some in
    record {
      changes = far.changes;
      cycle = far.cycle;
      within = hole_below (heap_of c.args.main.now) (heap_of c.loop-passed.main) c.args.table within far.changes.long
          far.shifting;
      removed = far.shifting.going.removed;
      below = stays_below (heap_of c.args.main.now) (heap_of c.loop-passed.main) c.args.table within far.changes.long
          far.shifting;
      found = ends_here (heap_of c.args.main.now) (heap_of c.loop-passed.main) c.args.table within far.changes.long
          far.shifting next few c.place-next.ensures none;
    }

pub number_at-number-requires : goal.number_at-number-requires
number_at-number-requires c =
    let within = table_within c.args.main.now c.args.table c.requires.within c.addresses_fit.ensures.heap_counted in
    let far = c.loop-passed.invariant in
    let few = c.loop-passed-test.true in
    let next : ℕ = c.place-next.result in
    let one = read (heap_of c.args.main.now) (heap_of c.loop-passed.main) c.args.table within far.changes.long
    far.shifting next few c.place-next.ensures in
    let refers : reference_in one.pair.key ≡ Some c.in-Some.key =
    sym (c.address.ensures ∙ ap reference_in (c.key_of.ensures ∙ one.key)) ∙ c.in-Some.is in
    let beside = key_beside (heap_of c.args.main.now) (heap_of c.loop-passed.main) c.args.table within
    far.changes.long far.shifting next few c.place-next.ensures far.changes.beside c.in-Some.key refers
    c.requires.keys in
    subst (λ (space : Space). c.in-Some.key < marks_start space) (sym far.changes.rest.space) beside.within

pub loop-passed-preserved-then-steps-passed : goal.loop-passed-preserved-then-steps-passed
loop-passed-preserved-then-steps-passed c =
    let within = table_within c.args.main.now c.args.table c.requires.within c.addresses_fit.ensures.heap_counted in
    let far = c.loop-passed.invariant in
    let few = c.loop-passed-test.true in
    let next : ℕ = c.place-next.result in
    let one = read (heap_of c.args.main.now) (heap_of c.loop-passed.main) c.args.table within far.changes.long
    far.shifting next few c.place-next.ensures in
    let refers : reference_in one.pair.key ≡ Some c.in-Some.key =
    sym (c.address.ensures ∙ ap reference_in (c.key_of.ensures ∙ one.key)) ∙ c.in-Some.is in
    record {
      changes = far.changes;
      cycle = far.cycle;
      shifting = passes_on (heap_of c.args.main.now) (heap_of c.loop-passed.main) c.args.table within far.changes.long
          far.shifting next few c.place-next.ensures far.changes.beside c.in-Some.key refers
          c.requires.keys
          c.number_at-number.result c.steps.result c.number_at-number.ensures c.steps.ensures c.if-steps-passed.true;
    }

pub copy_pair-requires-clause-may : goal.copy_pair-requires-clause-may
copy_pair-requires-clause-may c = pairs_may_still c.loop-passed.invariant.changes.stores c.requires.may

pub copy_pair-requires-clause-to : goal.copy_pair-requires-clause-to
copy_pair-requires-clause-to c =
    let within = table_within c.args.main.now c.args.table c.requires.within c.addresses_fit.ensures.heap_counted in
    hole_below (heap_of c.args.main.now) (heap_of c.loop-passed.main) c.args.table within
    c.loop-passed.invariant.changes.long c.loop-passed.invariant.shifting

pub loop-passed-smaller : goal.loop-passed-smaller
loop-passed-smaller c =
    let within = table_within c.args.main.now c.args.table c.requires.within c.addresses_fit.ensures.heap_counted in
    let far = c.loop-passed.invariant in
    let few = c.loop-passed-test.true in
    let next : ℕ = c.place-next.result in
    let one = read (heap_of c.args.main.now) (heap_of c.loop-passed.main) c.args.table within far.changes.long
    far.shifting next few c.place-next.ensures in
    let refers : reference_in one.pair.key ≡ Some c.in-Some.key =
    sym (c.address.ensures ∙ ap reference_in (c.key_of.ensures ∙ one.key)) ∙ c.in-Some.is in
    less_left (heap_of c.args.main.now) (heap_of c.loop-passed.main) c.args.table within far.changes.long far.shifting
    next few c.place-next.ensures far.changes.beside c.in-Some.key refers c.requires.keys
    c.number_at-number.result c.steps.result c.number_at-number.ensures c.steps.ensures c.if-steps-passed.false
    c.copy_pair.ensures.puts.heap

pub loop-passed-preserved : goal.loop-passed-preserved
loop-passed-preserved c =
    let within = table_within c.args.main.now c.args.table c.requires.within c.addresses_fit.ensures.heap_counted in
    let far = c.loop-passed.invariant in
    let few = c.loop-passed-test.true in
    let next : ℕ = c.place-next.result in
    let one = read (heap_of c.args.main.now) (heap_of c.loop-passed.main) c.args.table within far.changes.long
    far.shifting next few c.place-next.ensures in
    let refers : reference_in one.pair.key ≡ Some c.in-Some.key =
    sym (c.address.ensures ∙ ap reference_in (c.key_of.ensures ∙ one.key)) ∙ c.in-Some.is in
    record {
      changes = pair_changed c.args.table c.loop-passed.hole _ far.changes (hole_below (heap_of c.args.main.now)
          (heap_of c.loop-passed.main) c.args.table within far.changes.long far.shifting)
          c.copy_pair.ensures.puts c.copy_pair.ensures.touches c.copy_pair.ensures.stores;
      cycle = c.copy_pair.ensures.cycle ∙ far.cycle;
      shifting = moves_on (heap_of c.args.main.now) (heap_of c.loop-passed.main) c.args.table within far.changes.long
          far.shifting next few c.place-next.ensures far.changes.beside c.in-Some.key refers c.requires.keys
          c.number_at-number.result c.steps.result c.number_at-number.ensures c.steps.ensures c.if-steps-passed.false
          c.copy_pair.ensures.puts.heap;
    }

pub returns : goal.returns
returns c =
    let within = table_within c.args.main.now c.args.table c.requires.within c.addresses_fit.ensures.heap_counted in
    let far = c.loop-passed.invariant in
    let long = numbers_long (heap_of c.args.main.now) (heap_of c.loop-passed.main) c.args.table within
    far.changes.long far.shifting in
    record {
      changes = far.changes;
      cycle = far.cycle;
      within = hole_below (heap_of c.args.main.now) (heap_of c.loop-passed.main) c.args.table within far.changes.long
          far.shifting;
      removed = far.shifting.going.removed;
      below = stays_below (heap_of c.args.main.now) (heap_of c.loop-passed.main) c.args.table within far.changes.long
          far.shifting;
      found = ends_at_last (numbers (heap_of c.args.main.now) (pairs_of (heap_words c.args.main.now.seat) c.args.table))
          (numbers (heap_of c.args.main.now) (pairs_of (heap_words c.loop-passed.main.seat) c.args.table)) c.args.at
          c.args.table.capacity c.loop-passed.hole c.loop-passed.passed far.shifting.removal long
          c.loop-passed-test.false;
    }
