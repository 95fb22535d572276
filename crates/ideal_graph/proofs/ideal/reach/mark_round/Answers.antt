use Rattle.std.proofs.Common.{◌<◌, Bool, List, true, false, length, refl, sym, ◌∙◌, subst, arith}
use Rattle.std.proofs.lemmas.List.{get_or_default}
use Rattle.object_graph.specs.Reach.{links}
use Rattle.object_graph.specs.Marks.{MarksAlso}
use Rattle.object_graph.proofs.Marking.{MarksAlso-none}
use Rattle.ideal_graph.proofs.Holders.{Stands, links_more, links_all}
use Rattle.ideal_graph.proofs.ideal.reach.mark_round.Goals as goal
use Rattle.ideal_graph.proofs.ideal.reach.mark_round.Goals.{then-marks-holder, else-marks-holder}

pub loop-holder-preserved : goal.loop-holder-preserved
loop-holder-preserved c =
    let marks = c.args.marks.now in
    let objects = c.args.objects.now in
    let holder = c.loop-holder.holder in
    let object = c.index-objects-holder.result in
    let next = c.loop-holder.next in
    let long = c.requires.marks_of_all in
    let inside = c.loop-holder-test.true in
    let there = c.index-objects-holder.is in
    let within : holder < length marks = omega (arith, long, inside) in
    elim c.if-marks-holder.branch [
      | then-marks-holder w ↦
          let flag = get_or_default marks holder true false within ∙ w.if-marks-holder.true in
          let at : Stands marks objects holder true object =
          record { long = long; within = inside; marked = flag; there = there } in
          let linked = w.mark_links.ensures in
          let grown = subst (λ (now : List Bool). MarksAlso next now (links marks object)) (sym w.next-is) linked in
          links_more marks objects holder true object _ _ at c.loop-holder.invariant grown
      | else-marks-holder w ↦
          let at : Stands marks objects holder false object =
          record { long = long; within = inside; marked = w.if-marks-holder.false; there = there } in
          let kept = MarksAlso-none next (λ number. false) (λ _ _. refl) in
          let grown = subst (λ (now : List Bool). MarksAlso next now (λ number. false)) (sym w.next-is) kept in
          links_more marks objects holder false object _ _ at c.loop-holder.invariant grown
    ]

pub returns : goal.returns
returns c =
    let inside = c.loop-holder-test.false in
    links_all c.args.marks.now c.args.objects.now c.loop-holder.holder c.loop-holder.next inside c.loop-holder.invariant
