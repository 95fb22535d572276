-- One header more is put.
use Rattle.std.proofs.Common.{ℕ, ◌<◌, List, length, ap, arith}
use Rattle.std.specs.List.{Contains}
use Rattle.std.proofs.lemmas.Option.{get_or_from_slice_get}
use Rattle.page_space.specs.Extents.{marks_start}
use Rattle.write_barrier.specs.Seats.{heap_words}
use Rattle.remembered_set.specs.Recorded.{Recorded}
use Rattle.scav_copy.specs.declared.places.Home.{Home}
use Rattle.handed_rooms.proofs.Putting.{no_refs, one_ref_more, put_stays, stays_again, stays_itself}
use Rattle.handed_rooms.proofs.taking.put_headers.Goals as goal

pub loop-number-init : goal.loop-number-init
loop-number-init c = record {
  headers = no_refs c.args.copies.now (heap_words c.args.main.now.seat);
  beside = stays_itself c.args.main.now;
}

pub write-requires-clause-within : goal.write-requires-clause-within
write-requires-clause-within c =
    let copies : List Home = c.args.copies.now in
    let home : Home = c.copy_at-home.result in
    let number : ℕ = c.loop-number.number in
    let among : Contains copies home =
    (number, c.loop-number-test.true, get_or_from_slice_get copies number home home c.copy_at-home.ensures) in
    omega (
      arith,
      (c.requires.cells home among).1,
      ap marks_start c.loop-number.invariant.beside.seat.space,
    )

pub loop-number-preserved : goal.loop-number-preserved
loop-number-preserved c =
    let copies : List Home = c.args.copies.now in
    let number : ℕ = c.loop-number.number in
    let home : Home = c.copy_at-home.result in
    let inv = c.loop-number.invariant in
    let among : Contains copies home =
    (number, c.loop-number-test.true, get_or_from_slice_get copies number home home c.copy_at-home.ensures) in
    let between = c.requires.cells home among in
    let inside : home.from < length (heap_words c.loop-number.main.seat) =
    omega (arith, between.1, inv.beside.seat.count, c.addresses_fit.ensures.heap_counted) in
    let bound = ap (λ (one : Recorded). one.bound) inv.beside.recorded in
    record {
      headers = one_ref_more copies number c.reference.result.0 home (heap_words c.args.main.now.seat)
          (heap_words c.loop-number.main.seat) (heap_words c.write.new.self.seat) c.requires.one_each inv.headers
          c.copy_at-home.ensures c.write.ensures.heap c.reference.ensures inside;
      beside = stays_again inv.beside
          (put_stays home.from c.reference.result.0 c.write.ensures.written (omega (arith, bound, between.0)));
    }
