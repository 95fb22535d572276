-- A 0 is put behind the room, or nothing changes.
use Rattle.std.proofs.Common.{◌∙◌, ◌≢◌, ℕ, ◌<◌, List, length, get_or, refl, ap, arith, length-set}
use Rattle.std.proofs.lemmas.List.{get_or-set_same}
use Rattle.write_barrier.specs.Seats.{heap_words}
use Rattle.scav_copy.proofs.Spots.{elsewhere}
use Rattle.handed_rooms.proofs.Putting.{put_stays, stays_itself}
use Rattle.handed_rooms.proofs.taking.end_room.Goals as goal

pub returns-then-at-end-clause-ends : goal.returns-then-at-end-clause-ends
returns-then-at-end-clause-ends c =
    let words : List ℕ = heap_words c.args.main.now.seat in
    let at : ℕ = c.args.at in
    let is = c.write.ensures.heap in
    let inside : at < length words =
    omega (arith, c.if-at-end.true, c.requires.within, c.addresses_fit.ensures.heap_counted) in
    record {
      long = ap length is ∙ length-set words at 0;
      put = λ more. ap (λ (all : List ℕ). get_or all at 0) is ∙ get_or-set_same words at 0 0 inside;
      others = λ other out.
          let apart : other ≢ at = λ same. out (same, c.if-at-end.true) in
          ap (λ (all : List ℕ). get_or all other 0) is ∙ elsewhere words at 0 other apart;
    }

pub returns-then-at-end-clause-beside : goal.returns-then-at-end-clause-beside
returns-then-at-end-clause-beside c = put_stays c.args.at 0 c.write.ensures.written c.requires.behind

pub returns-else-at-end-clause-ends : goal.returns-else-at-end-clause-ends
returns-else-at-end-clause-ends c = record {
  long = refl;
  put = λ less. absurd (omega (arith, less, c.if-at-end.false));
  others = λ other out. refl;
}

pub returns-else-at-end-clause-beside : goal.returns-else-at-end-clause-beside
returns-else-at-end-clause-beside c = stays_itself c.args.main.now
