-- No cycle is open, and each word is one of the page.
use Rattle.std.proofs.Common.{◌≡◌, sym, ap, subst, ◌∙◌, arith}
use Rattle.page_space.specs.Extents.{Space, eden_start}
use Rattle.shared_table.specs.declared.phase.Phase.TheVariants.{Quiet}
use Rattle.heap_table.specs.Seats.{Seat}
use Rattle.table_tests.specs.BareSeats.{IsBareSeat}
use Rattle.table_tests.proofs.PutSeats.{bare_put}
use Rattle.table_tests.proofs.barrier.fill_page.Goals as goal

pub store_owned-requires-clause-may : goal.store_owned-requires-clause-may
store_owned-requires-clause-may c = λ marks.
    let quiet : c.loop-a.seat.phase ≡ Quiet = c.loop-a.invariant.bare.bare.phase in
    absurd cc

pub store_owned-requires-clause-within : goal.store_owned-requires-clause-within
store_owned-requires-clause-within c =
    let page : eden_start c.loop-a.seat.space ≡ 2048 =
    ap (λ (s : Space). eden_start s) c.loop-a.invariant.space ∙ c.requires.page in
    omega (arith, page, c.loop-a-test.true)

pub loop-a-preserved : goal.loop-a-preserved
loop-a-preserved c = record {
  bare = subst IsBareSeat (sym c.store_owned.ensures.put) (bare_put c.loop-a.seat c.loop-a.a c.word_at.result
      c.loop-a.invariant.bare);
  space = ap (λ (s : Seat). s.space) c.store_owned.ensures.put ∙ c.loop-a.invariant.space;
}
