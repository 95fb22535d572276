-- The pairs whose keys are not marked are taken out, in passes down the table.
use Rattle.std.proofs.Common.{◌≤◌, length, subst, arith}
use Rattle.ephemeron_table.proofs.TableBounds.{none_from_not_some}
use Rattle.ephemeron_clear.specs.Marked.{FindsUnmarked}
use Rattle.ephemeron_clear.proofs.FilledKeys.{some_pairs}
use Rattle.ephemeron_clear.proofs.MapCounts.{count_few}
use Rattle.ephemeron_clear.proofs.Passes.{are_one, left_long, marked_all, one_cleared}
use Rattle.ephemeron_clear.proofs.TakenTwice.{takes_twice}
use Rattle.ephemeron_clear.proofs.Takings.{map_stays, may_go_on, takes_nothing}
use Rattle.ephemeron_clear.proofs.maps.clear_map.Goals as goal

pub loop-last-init : goal.loop-last-init
loop-last-init c = record {
  takes = takes_nothing c.args.main.now _ c.args.marked.now.addresses c.requires.whole c.requires.tied;
  counted = omega arith;
}

pub take_down-gone-requires-clause-there : goal.take_down-gone-requires-clause-there
take_down-gone-requires-clause-there c = map_stays c.loop-last.invariant.takes c.requires.there

pub take_down-gone-requires-clause-may_store : goal.take_down-gone-requires-clause-may_store
take_down-gone-requires-clause-may_store c = may_go_on c.loop-last.invariant.takes c.requires.may_store

pub take_down-gone-requires-clause-last : goal.take_down-gone-requires-clause-last
take_down-gone-requires-clause-last c pairs has = (c.in-Some.ensures pairs has).is

pub overflow_add-gone : goal.overflow_add-gone
overflow_add-gone c =
    let some = some_pairs c.requires.whole c.requires.there in
    omega (
      arith,
      c.loop-last.invariant.counted,
      c.take_down-gone.ensures.counted,
      count_few c.requires.whole some.are,
    )

pub loop-last-smaller : goal.loop-last-smaller
loop-last-smaller c = omega (arith, c.take_down-gone.ensures.counted, c.take_down-gone.ensures.some)

pub loop-last-preserved : goal.loop-last-preserved
loop-last-preserved c =
    let far = c.loop-last.invariant in
    record {
      takes = takes_twice c.requires.whole (are_one c.requires.there) far.takes c.take_down-gone.ensures.takes;
      counted = omega (arith, far.counted, c.take_down-gone.ensures.counted);
    }

pub returns-clause-cleared : goal.returns-clause-cleared
returns-clause-cleared c =
    let marked = c.args.marked.now.addresses in
    let takes = c.loop-last.invariant.takes in
    let some = some_pairs c.requires.whole c.requires.there in
    let capacity = c.table_of-capacity.result.capacity in
    one_cleared takes
    (λ pairs has.
    let long : length pairs ≤ capacity =
    omega (arith, left_long takes some.are has, (c.table_of-capacity.ensures.pairs some.pairs some.are).long) in
    marked_all long (subst (FindsUnmarked marked pairs capacity)
    (none_from_not_some c.last_unmarked.result c.in_default.not-Some) (c.last_unmarked.ensures pairs has)))
