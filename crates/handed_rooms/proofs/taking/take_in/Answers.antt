-- The room is put, the 0 behind it, and the headers.
use Rattle.std.proofs.Common.{◌≡◌, ◌∙◌, ℕ, ◌+◌, List, length, ap, subst, arith}
use Rattle.std.specs.List.{Contains}
use Rattle.page_space.specs.Extents.{marks_start}
use Rattle.remembered_set.specs.Recorded.{Recorded}
use Rattle.write_barrier.specs.Seats.{heap_words}
use Rattle.scav_copy.specs.declared.places.Home.{Home}
use Rattle.eden_copies.specs.Sides.{end_of}
use Rattle.handed_rooms.specs.Taken.{EndsRoom, HasRefs, HasRoom}
use Rattle.handed_rooms.proofs.Putting.{stays_again}
use Rattle.handed_rooms.proofs.TakenIn.{taken_by}
use Rattle.handed_rooms.proofs.taking.take_in.Goals as goal

pub put_headers-requires-clause-cells : goal.put_headers-requires-clause-cells
put_headers-requires-clause-cells c = λ home there.
    let can = c.requires.can in
    let among = subst (λ (copies : List Home). Contains copies home) c.copies.ensures there in
    let between = can.cells home among in
    let recorded = c.end_room.ensures.beside.recorded ∙ c.put_room.ensures.beside.recorded in
    let space = c.end_room.ensures.beside.seat.space ∙ c.put_room.ensures.beside.seat.space in (
      omega (arith, between.0, ap (λ (one : Recorded). one.bound) recorded),
      omega (arith, between.1, can.within, ap marks_start space),
    )

pub returns : goal.returns
returns c =
    let worker = c.args.worker.now in
    let can = c.requires.can in
    let old : List ℕ = heap_words c.args.main.now.seat in
    let mid : List ℕ = heap_words c.put_room.new.main.seat in
    let late : List ℕ = heap_words c.end_room.new.main.seat in
    let new : List ℕ = heap_words c.put_headers.new.main.seat in
    let room : HasRoom worker.start worker.room (length worker.room) old mid =
    subst (λ (start : ℕ). HasRoom start worker.room (length worker.room) old mid) c.start-start.ensures
    (subst (λ (words : List ℕ). HasRoom c.start-start.result words (length words) old mid) c.room.ensures
    c.put_room.ensures.room) in
    let end : c.start-start.result + c.most.result ≡ worker.start + worker.most =
    omega (arith, c.start-start.ensures, c.most.ensures) in
    let ends : EndsRoom (end_of worker) (worker.start + worker.most) mid late =
    subst (λ (at : ℕ). EndsRoom at (worker.start + worker.most) mid late) c.end-behind.ensures
    (subst (λ (to : ℕ). EndsRoom c.end-behind.result to mid late) end c.end_room.ensures.ends) in
    let refs : HasRefs worker.copies (length worker.copies) late new =
    subst (λ (copies : List Home). HasRefs copies (length copies) late new) c.copies.ensures
    c.put_headers.ensures.headers in
    record {
      taken = taken_by worker old mid late new can.fits (λ home there. (can.cells home there).1) room ends refs;
      beside = stays_again (stays_again c.put_room.ensures.beside c.end_room.ensures.beside)
          c.put_headers.ensures.beside;
    }
