-- A 0 is put behind the copies, or nothing changes.
use Rattle.std.proofs.Common.{◌≢◌, ◌+◌, ◌<◌, ◌∙◌, ℕ, List, length, slice_get, ap, arith, length-set}
use Rattle.object_graph.proofs.Lists.{slice_get-set_same, slice_get-set_other}
use Rattle.write_barrier.specs.Seats.{heap_words}
use Rattle.write_barrier.specs.MutatorState.{Mutator}
use Rattle.write_barrier.proofs.JudgedSlots.{wiped_behind}
use Rattle.scavenger.proofs.emptying.end_copies.Goals as goal

pub returns-then-fill-end-clause-ends : goal.returns-then-fill-end-clause-ends
returns-then-fill-end-clause-ends c =
    let words : List ℕ = heap_words c.args.main.now.seat in
    let fill : ℕ = c.args.fill in
    let is = c.write.ensures.heap in
    let within : fill < length words =
    omega (arith, c.if-fill-end.true, c.requires.within, c.addresses_fit.ensures.heap_counted) in
    record {
      count = ap length is ∙ length-set words fill 0;
      behind = λ more. ap (λ (all : List ℕ). slice_get all fill) is ∙ slice_get-set_same words fill 0 within;
      others = λ at not_fill.
          let apart : at ≢ fill = λ same. not_fill (same, c.if-fill-end.true) in
          ap (λ (all : List ℕ). slice_get all at) is ∙ slice_get-set_other words fill at 0 apart;
    }

pub returns-then-fill-end-clause-recorded : goal.returns-then-fill-end-clause-recorded
returns-then-fill-end-clause-recorded c behind =
    ap (λ (main : Mutator). main.recorded) c.write.ensures.written
    ∙ wiped_behind c.args.main.now.recorded c.args.fill (c.args.fill + 1) behind
