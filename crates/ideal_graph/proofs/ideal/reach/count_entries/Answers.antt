use Rattle.std.proofs.Common.{◌≡◌, ◌+◌, ◌<◌, false, length, get_or, sym, ap, ◌∙◌, arith, rules}
use Rattle.std.proofs.lemmas.List.{get_or_default}
use Rattle.object_graph.specs.Reach.{entries_if}
use Rattle.ideal_graph.proofs.Holders.{Stands, entries_more, entries_all}
use Rattle.ideal_graph.proofs.ideal.reach.count_entries.Goals as goal

pub loop-holder-preserved : goal.loop-holder-preserved
loop-holder-preserved c =
    let marks = c.args.marks.now in
    let objects = c.args.objects.now in
    let holder = c.loop-holder.holder in
    let object = c.index-objects-holder.result in
    let mark = get_or marks holder false in
    let within : holder < length marks = omega (arith, c.requires.marks_of_all, c.loop-holder-test.true) in
    let at : Stands marks objects holder mark object = record {
      long = c.requires.marks_of_all;
      within = c.loop-holder-test.true;
      marked = get_or_default marks holder mark false within;
      there = c.index-objects-holder.is;
    } in
    let sum : c.in_ok-count.count ≡ c.loop-holder.count + entries_if marks mark object = search rules in
    sum
    ∙ ap (λ n. n + entries_if marks mark object) c.loop-holder.invariant
    ∙ sym (entries_more marks objects holder mark object at)

pub returns-clause-counted : goal.returns-clause-counted
returns-clause-counted c =
    c.loop-holder.invariant
    ∙ entries_all c.args.marks.now c.args.objects.now c.loop-holder.holder c.loop-holder-test.false
