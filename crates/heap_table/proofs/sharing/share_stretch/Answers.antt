-- One address more agrees after each turn.
use Rattle.std.proofs.Common.{◌≡◌, ◌+◌, ◌<◌, ℕ, get_or, ap, sym, subst, ◌∙◌, arith}
use Rattle.std.proofs.lemmas.Option.{get_or_from_slice_get}
use Rattle.mark_laws.specs.Types.{Spot}
use Rattle.shared_table.specs.Seats.{Side}
use Rattle.shared_table.specs.Spots.{with_spot}
use Rattle.shared_table.specs.Owned.{Own}
use Rattle.heap_table.specs.Sharing.{AgreesOutside}
use Rattle.heap_table.proofs.SharedStretches.{agrees_all, besides_stay, next_page}
use Rattle.heap_table.proofs.sharing.share_stretch.Goals as goal

pub store_owned-requires-clause-may : goal.store_owned-requires-clause-may
store_owned-requires-clause-may c =
    λ marks. absurd (c.requires.idle (sym (ap (λ (side : Side). side.main.phase) c.loop-a.invariant.same) ∙ marks))

pub loop-a-preserved : goal.loop-a-preserved
loop-a-preserved c =
    let own : Own = c.args.own.now in
    let side : Side = c.loop-a.side in
    let a : ℕ = c.loop-a.a in
    let word : c.word.result ≡ get_or own.words a 0 =
    sym (get_or_from_slice_get own.words a c.word.result 0 c.word.ensures.of_heap) in
    let below : a < side.main.old =
    omega (
      arith,
      c.loop-a-test.true,
      c.min-a-end.ensures,
      c.counts.ensures.old,
      ap (λ (one : Side). one.main.old) c.loop-a.invariant.same,
    ) in
    let now : AgreesOutside own (a + 1) c.args.to (with_spot side.main (Spot.Heap a) c.word.result) =
    next_page own a c.args.to side.main c.word.result c.loop-a.invariant.outside word below in
    record {
      same = besides_stay c.args.side.now side c.store_owned.new.self a c.word.result c.loop-a.invariant.same
          c.store_owned.ensures.put;
      outside = subst (λ (one : Side). AgreesOutside own (a + 1) c.args.to one.main) (sym c.store_owned.ensures.put)
          now;
    }

pub returns : goal.returns
returns c = record {
  agrees = agrees_all c.args.own.now c.loop-a.a c.args.to c.loop-a.side.main
      (omega (arith, c.loop-a-test.false, c.min-a-end.ensures, c.counts.ensures.old, c.requires.outside.old))
      c.words_fit.ensures.counted c.loop-a.invariant.outside;
  rest = c.loop-a.invariant.same;
}
