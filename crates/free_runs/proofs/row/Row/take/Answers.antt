use Rattle.std.proofs.Common.{◌≡◌, ◌<◌, ◌≤◌, ◌∙◌, refl, sym, arith, rules}
use Rattle.free_runs.specs.Standing.{StandsAt}
use Rattle.free_runs.specs.FreeRuns.{AreShort, longest_in}
use Rattle.free_runs.proofs.Bounds.{all_fewer, bounds}
use Rattle.free_runs.proofs.Cuts.{taken_whole, taken_front, whole_keeps_longest, front_keeps_longest}
use Rattle.free_runs.proofs.row.Row.take.Goals.{then-run-n, else-run-n, then-is_longest, else-is_longest}
use Rattle.free_runs.proofs.row.Row.take.Goals as goal

pub unreachable-requires : goal.unreachable-requires
unreachable-requires c =
    let fewer : AreShort c.args.self.now c.args.n =
    rw (← c.self.view_is, ← c.deref.ensures.value) c.in_default.ensures
    in
    omega (arith, c.requires.fits, all_fewer c.args.self.now c.args.n c.requires.some fewer)

pub returns : goal.returns
returns c =
    let runs = c.self.inside.runs.items in
    let place = c.in-Some.place in
    let run = c.index-run.result.now in
    let stands : StandsAt runs c.args.n place = rw (← c.deref.ensures.value) c.in-Some.ensures in
    elim c.if-run-n.branch [
      | then-run-n w ↦ rw (← c.self.view_is, w.self-inside-is, w.remove.ensures.by_index.2)
          (taken_whole runs c.args.n place run stands c.index-run.ensures w.if-run-n.true)
      | else-run-n w ↦ rw (← c.self.view_is, w.self-inside-is)
          (taken_front runs c.args.n place run stands c.index-run.ensures w.if-run-n.false)
    ]

pub invariant_of-self : goal.invariant_of-self
invariant_of-self c =
    let n = c.args.n in
    let runs = c.self.inside.runs.items in
    let place = c.in-Some.place in
    let run = c.index-run.result.now in
    let stands : StandsAt runs n place = rw (← c.deref.ensures.value) c.in-Some.ensures in
    let read = c.index-run.ensures in
    let stays : run.words < longest_in runs → longest_in c.if-run-n.self-inside.runs.items ≡ longest_in runs =
    λ shorter.
    elim c.if-run-n.branch [
      | then-run-n w ↦ rw (w.self-inside-is, w.remove.ensures.by_index.2)
          (whole_keeps_longest runs n place run stands read w.if-run-n.true shorter)
      | else-run-n w ↦ rw w.self-inside-is
          (front_keeps_longest runs n place run stands read w.if-run-n.false shorter)
    ]
    in
    let kept : c.if-run-n.self-inside.longest ≡ c.self.inside.longest =
    elim c.if-run-n.branch [ then-run-n w ↦ rw w.self-inside-is refl | else-run-n w ↦ rw w.self-inside-is refl ]
    in
    let most : run.words ≤ longest_in runs = rw read (bounds runs place run stands.there) in
    record {
      room = search rules;
      few = search rules;
      longest = elim c.if-is_longest.branch [
        | then-is_longest w ↦ search rules
        | else-is_longest w ↦ w.self-is ∙ kept ∙ c.self.invariant.longest
            ∙ sym (stays (omega (arith, most, c.self.invariant.longest, kept, w.if-is_longest.false)))
      ];
    }
