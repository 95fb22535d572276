use Rattle.std.proofs.Common.{◌∙◌, true}
use Rattle.std.proofs.lemmas.Bool.{cases_eq}
use Rattle.heap_run.specs.Texts.{sink_fault_status}
use Rattle.heap_run.proofs.Concluding.{IsKeepable}
use Rattle.heap_run.proofs.Imaged.{laws_hold, finishes_imaged}
use Rattle.heap_run.proofs.Inspections.{counts_soaked}
use Rattle.heap_run.proofs.SoakLines.{Soaks-finished}
use Rattle.heap_run.proofs.soaking.soak_opened.Goals as goal

pub returns : goal.returns
returns g c sizes seed forms is ready =
    let finished = c.run-heap.result.finished in
    let script = c.args.script.now in
    let kept = c.keep.ensures in
    let image = c.keep.result.image in
    let opened = c.args.opened in
    let counts = counts_soaked opened.heap.main.seat.space opened.inspection ready.inspected in
    let (later, ended, inspected, told, ends) = rw (counts, c.new-tally.ensures) at c.run-heap.ensures.finishes in
    let finishes = finishes_imaged true finished _ _ _ _ laws_hold kept.image told in
    let keepable : IsKeepable sizes script image = record {
      regions = kept.image.space ∙ c.run-heap.ensures.space ∙ ready.space;
    } in
    rw (kept.need, kept.line, kept.executed)
    (Soaks-finished sizes seed forms script image c.run-heap.new.sink finished.how finished.line
    finished.executed c.conclude-status.result c.of_soak.result _ _ _ _ is keepable finishes c.of_soak.ensures
    (record { written = c.conclude-status.ensures.written; failed = c.conclude-status.ensures.failed })
    (cases_eq c.conclude-status.result sink_fault_status))
