-- The cell lies in eden, its copy fits behind the words of the room, and where the claim is made the copy counts.
use Rattle.std.proofs.Common.{◌≡◌, ◌∙◌, ℕ, ◌-◌, ◌++◌, ◌∷◌, [], List, length, take, drop, ap, arith}
use Rattle.std.proofs.Math.Seq.{take-append_seam}
use Rattle.claims.specs.Claimed.{claim_of}
use Rattle.claims.specs.Sides.{SeatSide, saw, won}
use Rattle.eden_copies.specs.Eden.{size_in}
use Rattle.eden_copies.specs.Sides.{WorkerSide}
use Rattle.eden_copies.specs.Steps.{HasHome}
use Rattle.eden_copies.proofs.KnownCells.{eden_before_marks}
use Rattle.eden_copies.proofs.following.copy_cell.Goals as goal

pub overflow_sub-place : goal.overflow_sub-place
overflow_sub-place g c = omega (arith, c.eden_at.ensures.at, c.requires.can.stands.from)

pub copy_words-requires-clause-there : goal.copy_words-requires-clause-there
copy_words-requires-clause-there g c =
    omega (arith, c.known_cell-cell.ensures.size, c.requires.can.stands.ends, eden_before_marks c.args.words.now.space)

pub copy_words-requires-clause-fits : goal.copy_words-requires-clause-fits
copy_words-requires-clause-fits g c =
    omega (arith, c.known_cell-cell.ensures.size, c.requires.can.words_fit c.requires.unseen)

pub claim-claimed-requires-clause-within : goal.claim-claimed-requires-clause-within
claim-claimed-requires-clause-within g c =
    omega (
      arith,
      c.eden_at.ensures.at,
      c.requires.can.stands.from,
      c.requires.can.stands.below,
      c.requires.ready.places,
    )

pub returns-in-Ok : goal.returns-in-Ok
returns-in-Ok g c =
    let own = c.args.words.now in
    let worker : WorkerSide = c.args.worker.now in
    let at : ℕ = c.args.at in
    let to : ℕ = c.end-to.result in
    let made : ℕ → ℕ → WorkerSide =
    λ count home. record worker {
      room = worker.room ++ take count (drop at own.words);
      copies = worker.copies ++ record { from = at; to = home } ∷ [];
    } in
    let seat : SeatSide = c.args.seat.now in
    HasHome.made c.requires.unseen c.end-to.ensures
    (c.keep.ensures
    ∙ (ap (λ (side : WorkerSide). record side { copies = side.copies ++ record { from = at; to = to } ∷ [] })
    c.copy_words.ensures
    ∙ (ap (λ (count : ℕ). made count to) c.known_cell-cell.ensures.size
    ∙ ap (λ (home : ℕ). made (size_in own at) home) c.end-to.ensures)))
    (c.in-Ok.ensures.claimed ∙ ap (λ (eden : ℕ). won seat (claim_of (at - eden) to)) c.eden_at.ensures.at)

pub undo-requires : goal.undo-requires
undo-requires g c =
    omega (arith, ap (λ (side : WorkerSide). side.start) c.copy_words.ensures, c.end-to.ensures)

pub returns-in-Err : goal.returns-in-Err
returns-in-Err g c =
    let own = c.args.words.now in
    let worker : WorkerSide = c.args.worker.now in
    let to : ℕ = c.end-to.result in
    let words : List ℕ = take c.known_cell-cell.result.size (drop c.args.at own.words) in
    let kept : to - worker.start ≡ length worker.room = omega (arith, c.end-to.ensures) in
    let room : take (to - worker.start) (worker.room ++ words) ≡ worker.room =
    ap (λ (n : ℕ). take n (worker.room ++ words)) kept ∙ take-append_seam worker.room words in
    HasHome.found
    (c.undo.ensures
    ∙ (ap (λ (side : WorkerSide). record side { room = take (to - side.start) side.room }) c.copy_words.ensures
    ∙ ap (λ (words : List ℕ). record worker { room = words }) room))
    (c.in-Err.ensures.claimed
    ∙ ap (λ (eden : ℕ). saw c.args.seat.now (claim_of (c.args.at - eden) c.in-Err.home)) c.eden_at.ensures.at)
