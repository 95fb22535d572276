use Rattle.std.proofs.Common.{◌∙◌}
use Rattle.std.proofs.lemmas.Bool.{cases_eq}
use Rattle.heap_model.specs.Images.{image_heap}
use Rattle.heap_run.specs.Texts.{sink_fault_status}
use Rattle.heap_run.proofs.Checked.{checked_as_asked}
use Rattle.heap_run.proofs.Concluding.{IsKeepable, FinishesJudged, Runs-finished}
use Rattle.heap_run.proofs.Imaged.{laws_hold, finishes_imaged}
use Rattle.heap_run.proofs.Inspections.{counts_asked}
use Rattle.heap_run.proofs.program.run_opened.Goals as goal

pub returns : goal.returns
returns g c checks sizes bytes is ready =
    let ran = c.run-heap in
    let finished = ran.result.finished in
    let concluded = c.conclude-status.ensures in
    let script = c.args.script.now in
    let kept = c.keep.ensures in
    let image = c.keep.result.image in
    let opened = c.args.opened in
    let space = opened.heap.main.seat.space in
    let counts = counts_asked checks space opened.inspection ready.inspected in
    let (later, ended, inspected, finishes, ends) = rw counts at ran.ensures.finishes in
    let led = finishes_imaged checks finished _ _ _ _ laws_hold kept.image finishes in
    let judged : FinishesJudged checks script (image_heap image) finished.how finished.line finished.executed
    (g.K.Sink.HasTaken c.args.sink.now) (g.K.Sink.HasTaken ran.new.sink) (g.K.Sink.faults c.args.sink.now)
    (g.K.Sink.faults ran.new.sink) = record {
      finishes = led;
      judged = λ came comes.
          checked_as_asked checks opened.heap space opened.inspection later ran.result.heap.main script
          (image_heap image)
          led.led.last.rows led.led.collections finished.executed led.reached.so_far came finished.line ready.inspected
          ends comes;
    } in
    let keepable : IsKeepable sizes script image = record {
      regions = kept.image.space ∙ ran.ensures.space ∙ ready.space;
    } in
    rw (kept.need, kept.line, kept.executed)
    (Runs-finished checks sizes bytes script image finished.how finished.line
    finished.executed c.conclude-status.result
    _ _ _ _ _ _ is keepable judged
    (λ cut. (concluded.cut cut).0)
    (λ cut. rw (concluded.cut cut).1 judged)
    (λ other. record { written = concluded.written other; failed = concluded.failed other })
    (cases_eq c.conclude-status.result sink_fault_status))
