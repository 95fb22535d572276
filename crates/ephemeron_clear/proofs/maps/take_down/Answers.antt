-- The pair at the place is taken out, and then each below it whose key is not marked.
use Rattle.std.proofs.Common.{arith}
use Rattle.ephemeron_clear.proofs.FilledKeys.{some_pairs}
use Rattle.ephemeron_clear.proofs.MapCounts.{count_few}
use Rattle.ephemeron_clear.proofs.Passes.{are_one, takes_at}
use Rattle.ephemeron_clear.proofs.TakenOnce.{takes_one}
use Rattle.ephemeron_clear.proofs.TakenTwice.{takes_twice}
use Rattle.ephemeron_clear.proofs.Takings.{map_stays, may_go_on}
use Rattle.ephemeron_clear.proofs.maps.take_down.Goals as goal

pub remove_at-requires-clause-there : goal.remove_at-requires-clause-there
remove_at-requires-clause-there c =
    let some = some_pairs c.requires.whole c.requires.there in
    let is = c.requires.last some.pairs some.are in
    (some.pairs, is.pair, some.are, is.filled)

pub loop-place-init : goal.loop-place-init
loop-place-init c =
    let some = some_pairs c.requires.whole c.requires.there in
    let removes = c.remove_at.ensures some.pairs some.are in
    record {
      takes = takes_one (takes_at c.requires.whole some.are (c.requires.last some.pairs some.are) removes);
      counted = omega (arith, removes.counted);
      some = omega arith;
    }

pub remove_at-requires-in-Some-clause-there : goal.remove_at-requires-in-Some-clause-there
remove_at-requires-in-Some-clause-there c =
    let takes = c.loop-place.invariant.takes in
    let some = some_pairs takes.whole (map_stays takes c.requires.there) in
    let is = (c.in-Some.ensures some.pairs some.are).is in
    (some.pairs, is.pair, some.are, is.filled)

pub remove_at-requires-in-Some-clause-may_store : goal.remove_at-requires-in-Some-clause-may_store
remove_at-requires-in-Some-clause-may_store c = may_go_on c.loop-place.invariant.takes c.requires.may_store

pub overflow_add-gone : goal.overflow_add-gone
overflow_add-gone c =
    let takes = c.loop-place.invariant.takes in
    let first = some_pairs c.requires.whole c.requires.there in
    let some = some_pairs takes.whole (map_stays takes c.requires.there) in
    let removes = c.remove_at-in-Some.ensures some.pairs some.are in
    omega (arith, c.loop-place.invariant.counted, removes.counted, count_few c.requires.whole first.are)

pub loop-place-smaller : goal.loop-place-smaller
loop-place-smaller c =
    let takes = c.loop-place.invariant.takes in
    let some = some_pairs takes.whole (map_stays takes c.requires.there) in
    let removes = c.remove_at-in-Some.ensures some.pairs some.are in
    omega (arith, removes.counted)

pub loop-place-preserved : goal.loop-place-preserved
loop-place-preserved c =
    let far = c.loop-place.invariant in
    let some = some_pairs far.takes.whole (map_stays far.takes c.requires.there) in
    let is = (c.in-Some.ensures some.pairs some.are).is in
    let removes = c.remove_at-in-Some.ensures some.pairs some.are in
    record {
      takes = takes_twice c.requires.whole (are_one c.requires.there) far.takes
          (takes_one (takes_at far.takes.whole some.are is removes));
      counted = omega (arith, far.counted, removes.counted);
      some = omega arith;
    }
