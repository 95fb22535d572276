-- The maps are cleared, one after the other.
use Rattle.std.proofs.Common.{get_or, arith}
use Rattle.std.proofs.lemmas.List.Elements.{Contains-get_or}
use Rattle.ephemeron_clear.proofs.MapCounts.{counts_few}
use Rattle.ephemeron_clear.proofs.MapsPassed.{all_passed, none_passed, one_passed}
use Rattle.ephemeron_clear.proofs.Takings.{map_stays, may_go_on}
use Rattle.ephemeron_clear.proofs.maps.clear.Goals as goal

pub loop-map-init : goal.loop-map-init
loop-map-init c =
    none_passed c.args.main.now c.args.maps.now c.args.marked.now.addresses c.requires.whole c.requires.tied

pub clear_map-gone-requires-clause-there : goal.clear_map-gone-requires-clause-there
clear_map-gone-requires-clause-there c =
    let at = c.loop-map.map-index in
    map_stays c.loop-map.invariant.takes (c.requires.maps (get_or c.args.maps.now at 0)
    (Contains-get_or c.args.maps.now at 0 c.loop-map-test.true))

pub clear_map-gone-requires-clause-may_store : goal.clear_map-gone-requires-clause-may_store
clear_map-gone-requires-clause-may_store c = may_go_on c.loop-map.invariant.takes c.requires.may_store

pub loop-map-preserved : goal.loop-map-preserved
loop-map-preserved c =
    one_passed c.requires.whole c.requires.maps c.requires.once c.loop-map.invariant c.loop-map-test.true
    c.clear_map-gone.ensures.cleared c.clear_map-gone.result c.clear_map-gone.ensures.counted

pub overflow_add-gone : goal.overflow_add-gone
overflow_add-gone c =
    let passed = one_passed c.requires.whole c.requires.maps c.requires.once c.loop-map.invariant
    c.loop-map-test.true c.clear_map-gone.ensures.cleared c.clear_map-gone.result c.clear_map-gone.ensures.counted in
    omega (
      arith,
      passed.counted,
      counts_few c.args.maps.now c.requires.whole c.addresses_fit.ensures.within c.requires.maps c.requires.once,
    )

pub returns-clause-cleared : goal.returns-clause-cleared
returns-clause-cleared c = all_passed c.loop-map.invariant c.loop-map-test.false
