-- All that was dealt was followed, and then all slots of the room, which is never too short.
use Rattle.std.proofs.Common.{◌≡◌, ◌∙◌, ap}
use Rattle.eden_copies.specs.Eden.{Deal, deal_of}
use Rattle.eden_copies.specs.Sides.{WorkerSide, end_of}
use Rattle.eden_copies.proofs.DealtSlots.{ends}
use Rattle.eden_copies.proofs.Stepping.{room_fits}
use Rattle.eden_copies.proofs.worker.Worker.run.Goals as goal

pub returns-clause-copied : goal.returns-clause-copied
returns-clause-copied g c =
    let own = c.args.words.now in
    let deal : Deal = deal_of c.args.recorded.now.slots c.args.first c.args.every in
    ends own deal c.follow_recorded.new.worker c.scan.new.worker c.follow_recorded.new.seat c.scan.new.seat
    c.follow_recorded.ensures.dealing.dealt c.scan.ensures.goes
    (c.scan.ensures.copying deal c.requires.may c.follow_recorded.ensures.dealing.copying)

pub returns-clause-fits : goal.returns-clause-fits
returns-clause-fits g c =
    let own = c.args.words.now in
    let deal : Deal = deal_of c.args.recorded.now.slots c.args.first c.args.every in
    let copying = c.scan.ensures.copying deal c.requires.may c.follow_recorded.ensures.dealing.copying in
    let first = ap (λ (worker : WorkerSide). worker.most) c.empty.ensures in
    room_fits own deal (end_of c.scan.new.worker) c.scan.new.worker c.scan.new.seat c.requires.may
    c.count-count.ensures.counted
    (c.scan.ensures.goes.most ∙ c.follow_recorded.ensures.goes.most ∙ c.follow_roots.ensures.goes.most ∙ first
    ∙ c.requires.ready.most) copying
