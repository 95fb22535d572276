-- The search finds the object, ends, or goes on; and it never makes as many turns as there are words.
use Rattle.std.proofs.Common.{◌≡◌, ◌≢◌, suc, ◌+◌, sym, ap, subst, arith, rules}
use Rattle.page_space.specs.Extents.{words_count}
use Rattle.shape_change.proofs.RingSearch.{Sought, seeks_shown, found_ring, found_none, goes_on, turns_are_few}
use Rattle.shape_change.proofs.prototypes.would_ring.Goals as goal

pub returns-then-at-object : goal.returns-then-at-object
returns-then-at-object c graph one other shows is is_other =
    let same : c.loop-turn.at ≡ c.args.object = search rules in
    sym (found_ring shows is (c.loop-turn.invariant graph one other shows is is_other) same)

pub prototype-requires : goal.prototype-requires
prototype-requires c = record { shown = seeks_shown c.requires.shown c.loop-turn.invariant }

pub returns-in_default : goal.returns-in_default
returns-in_default c graph one other shows is is_other =
    let apart : c.loop-turn.at ≢ c.args.object = search rules in
    let sought = c.loop-turn.invariant graph one other shows is is_other in
    sym (found_none shows is sought apart (c.in_default.ensures graph sought.here shows sought.is))

pub loop-turn-preserved : goal.loop-turn-preserved
loop-turn-preserved c graph one other shows is is_other =
    let apart : c.loop-turn.at ≢ c.args.object = search rules in
    let sought = c.loop-turn.invariant graph one other shows is is_other in
    let turns : suc c.loop-turn._turn ≡ c.loop-turn._turn + 1 = omega arith in
    subst (λ turn. Sought c.args.main.now graph one other c.in-Some.next turn) turns
    (goes_on shows is sought apart (c.in-Some.ensures graph sought.here shows sought.is))

pub unreachable-requires : goal.unreachable-requires
unreachable-requires c =
    let are = c.requires.shown in
    let sought = c.loop-turn.invariant are.graph are.one are.other are.shows are.is are.is_other in
    omega (
      arith,
      turns_are_few are.shows are.is sought,
      c.loop-turn-test.false,
      c.count-words.ensures.counted,
      ap words_count c.regions.ensures.regions,
    )
