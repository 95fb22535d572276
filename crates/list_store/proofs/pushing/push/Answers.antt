-- A value is pushed, or refused.
use Rattle.std.proofs.Common.{◌<◌, length, refl, ◌∙◌, subst, rules, arith}
use Rattle.object_graph.specs.Meaning.{list_most}
use Rattle.nursery.specs.Young.{HasRoom}
use Rattle.handle_roots.specs.Roots.{FitsHeld}
use Rattle.write_barrier.specs.MutatorState.{heap_of}
use Rattle.heap_model.specs.Needs.{capacity_at}
use Rattle.object_cells.proofs.ListCells.{list_shown, shown_there, shown_ready, count_shown}
use Rattle.object_cells.proofs.ListChanging.{changing}
use Rattle.list_store.proofs.PushNeeds.{push_need_is}
use Rattle.list_store.proofs.PushSteps.{may_push}
use Rattle.list_store.proofs.PushOutcomes.{has_pushed}
use Rattle.list_store.proofs.pushing.push.Goals as goal

pub count_of-count-requires-clause-there : goal.count_of-count-requires-clause-there
count_of-count-requires-clause-there c = shown_there (list_shown c.requires.shows c.requires.is)

pub returns-then-count-ge-ELEMENTS_MOST : goal.returns-then-count-ge-ELEMENTS_MOST
returns-then-count-ge-ELEMENTS_MOST c graph one what shows is holds =
    (omega (arith, c.count_of-count.ensures.counted, count_shown (list_shown shows is)), refl)

pub push_value-requires-clause-ready : goal.push_value-requires-clause-ready
push_value-requires-clause-ready c =
    shown_ready c.requires.shows (list_shown c.requires.shows c.requires.is) c.count_of-count.ensures.counted

pub push_value-requires-clause-may : goal.push_value-requires-clause-may
push_value-requires-clause-may c =
    may_push c.requires.shows c.requires.is c.requires.is_held c.addresses_fit.ensures.fit

pub returns-in-Ok : goal.returns-in-Ok
returns-in-Ok c graph one what shows is holds =
    let shown = list_shown shows is in
    let fits : FitsHeld c.args.value = search rules in
    let counted = c.count_of-count.ensures.counted ∙ count_shown shown in
    has_pushed (changing c.args.value shows is holds fits) counted (omega (arith, counted))
    c.addresses_fit.ensures.within c.in-Ok.ensures.ok

pub returns-in-Err : goal.returns-in-Err
returns-in-Err c graph one what shows is holds =
    let counted = c.count_of-count.ensures.counted ∙ count_shown (list_shown shows is) in
    let refused = c.in-Err.ensures.refused in
    let few : length one.elements < list_most = omega (arith, counted) in (
      few,
      refused.need_is
          ∙ push_need_is one (capacity_at (heap_of c.args.main.now) c.args.list) c.count_of-count.result c.args.value
          holds.shows counted,
      λ room. refused.lacks (subst (HasRoom c.args.main.now.young) refused.need_is room),
      refused.same,
    )
