-- One word more of the room is put.
use Rattle.std.proofs.Common.{ℕ, ◌+◌, ◌<◌, refl, ap, length, arith}
use Rattle.page_space.specs.Extents.{marks_start}
use Rattle.write_barrier.specs.Seats.{heap_words}
use Rattle.remembered_set.specs.Recorded.{Recorded}
use Rattle.handed_rooms.proofs.Putting.{no_room, one_word_more, put_stays, stays_again, stays_itself}
use Rattle.handed_rooms.proofs.taking.put_room.Goals as goal

pub write-requires-clause-within : goal.write-requires-clause-within
write-requires-clause-within c =
    omega (
      arith,
      c.requires.within,
      c.loop-offset-test.true,
      ap marks_start c.loop-offset.invariant.beside.seat.space,
    )

pub loop-offset-init : goal.loop-offset-init
loop-offset-init c = record {
  room = no_room c.args.start c.args.room.now (heap_words c.args.main.now.seat);
  beside = stays_itself c.args.main.now;
}

pub loop-offset-preserved : goal.loop-offset-preserved
loop-offset-preserved c =
    let offset : ℕ = c.loop-offset.offset in
    let start : ℕ = c.args.start in
    let inv = c.loop-offset.invariant in
    let inside : start + offset < length (heap_words c.loop-offset.main.seat) =
    omega (
      arith,
      c.requires.within,
      c.loop-offset-test.true,
      inv.beside.seat.count,
      c.addresses_fit.ensures.heap_counted,
    ) in
    let bound = ap (λ (one : Recorded). one.bound) inv.beside.recorded in
    record {
      room = one_word_more start c.args.room.now offset _ (heap_words c.args.main.now.seat)
          (heap_words c.loop-offset.main.seat) (heap_words c.write.new.self.seat) inv.room c.write.ensures.heap
          refl inside;
      beside = stays_again inv.beside
          (put_stays (start + offset) _ c.write.ensures.written (omega (arith, bound, c.requires.behind)));
    }
