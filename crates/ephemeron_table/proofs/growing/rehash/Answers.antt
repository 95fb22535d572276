-- Pair by pair comes to the other table.
use Rattle.std.proofs.Common.{◌+◌, unwrap_or, sym, ◌∙◌, ap, subst}
use Rattle.tagged_word.specs.Readings.{reference_in}
use Rattle.write_barrier.specs.MutatorState.{Mutator}
use Rattle.ephemeron_table.specs.Rehashing.{RehashesPairs}
use Rattle.ephemeron_table.proofs.ClaimedMaps.{pairs_may_still}
use Rattle.ephemeron_table.proofs.RehashedTables.{rehashing_begins, rehashing_free, rehashing_key, rehashing_passes}
use Rattle.ephemeron_table.proofs.RehashedTables.{rehashing_inserts}
use Rattle.ephemeron_table.proofs.RehashedTables.{next_read}
use Rattle.ephemeron_table.proofs.TableBounds.{none_from_not_some, table_within}
use Rattle.ephemeron_table.proofs.growing.rehash.Goals as goal
use Rattle.ephemeron_table.proofs.growing.rehash.Goals.{in-Some, in_default}

pub loop-at-init : goal.loop-at-init
loop-at-init c = rehashing_begins c.args.main.now c.args.from c.args.to c.requires.empty

pub insert_rehashed-requires-clause-may : goal.insert_rehashed-requires-clause-may
insert_rehashed-requires-clause-may c = pairs_may_still c.loop-at.invariant.changes.stores c.requires.may

pub insert_rehashed-requires-clause-key : goal.insert_rehashed-requires-clause-key
insert_rehashed-requires-clause-key c =
    let counted = c.addresses_fit.ensures.heap_counted in
    let within_from = table_within c.args.main.now c.args.from c.requires.from counted in
    let within = table_within c.args.main.now c.args.to c.requires.to counted in
    let read = next_read within_from within c.requires.more c.requires.apart c.requires.keys c.loop-at.invariant
    c.loop-at-test.true in
    rehashing_key within_from within c.requires.more c.requires.apart c.requires.keys c.loop-at.invariant
    c.loop-at-test.true
    c.in-Some.key (sym (c.address.ensures ∙ ap reference_in (c.key_of.ensures ∙ read.key)) ∙ c.in-Some.is)

pub insert_rehashed-requires-clause-free : goal.insert_rehashed-requires-clause-free
insert_rehashed-requires-clause-free c =
    let counted = c.addresses_fit.ensures.heap_counted in
    let within_from = table_within c.args.main.now c.args.from c.requires.from counted in
    let within = table_within c.args.main.now c.args.to c.requires.to counted in
    rehashing_free within_from within c.requires.more c.requires.apart c.requires.keys c.loop-at.invariant
    c.loop-at-test.true

pub loop-at-preserved : goal.loop-at-preserved
loop-at-preserved c =
    let counted = c.addresses_fit.ensures.heap_counted in
    let within_from = table_within c.args.main.now c.args.from c.requires.from counted in
    let within = table_within c.args.main.now c.args.to c.requires.to counted in
    let read = next_read within_from within c.requires.more c.requires.apart c.requires.keys c.loop-at.invariant
    c.loop-at-test.true in
    let address = c.address.ensures ∙ ap reference_in (c.key_of.ensures ∙ read.key) in
    let now = λ (main : Mutator).
    RehashesPairs c.args.main.now main c.args.from c.args.to (c.loop-at.at + 1) in
    elim c.match-address.branch [
      | in-Some w ↦ subst now (sym w.main-is)
          (rehashing_inserts within_from within c.requires.more c.requires.apart c.requires.keys c.loop-at.invariant
          c.loop-at-test.true w.in-Some.key (sym address ∙ w.in-Some.is) w.slot.result
          (ap (λ found. unwrap_or found 0) (sym w.slot.ensures.of_heap) ∙ read.value) w.insert_rehashed.ensures)
      | in_default w ↦ subst now (sym w.main-is)
          (rehashing_passes within_from within c.requires.more c.requires.apart c.requires.keys c.loop-at.invariant
          c.loop-at-test.true (sym address ∙ none_from_not_some c.address.result w.in_default.not-Some))
    ]
