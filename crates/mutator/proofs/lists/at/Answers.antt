-- The variable is bound to the element.
use Rattle.std.proofs.Common.{Ok, refl, subst, ℤ, w64, SFits, rules}
use Rattle.std.proofs.lemmas.Int.{to_z-of_z}
use Rattle.heap_command.specs.declared.command.Operand.TheVariants.{Var}
use Rattle.list_store.specs.ListChanges.{HoldsElement}
use Rattle.mutator.proofs.IndexedLists.{indexed_read, indexed_shown}
use Rattle.mutator.proofs.ListMeanings.{at_done}
use Rattle.mutator.proofs.Rebinding.{binds_after, value_carried}
use Rattle.mutator.proofs.StillShown.{first_still}
use Rattle.mutator.proofs.lists.at.Goals as goal

pub find_list-requires : goal.find_list-requires
find_list-requires c =
    first_still (Var c.args.x) c.args.i c.operands.ensures.same c.requires.shown c.in_ok-target.ensures.found

pub hold_at-requires-clause-shown : goal.hold_at-requires-clause-shown
hold_at-requires-clause-shown c =
    let (graph, shows) = c.requires.shown in
    indexed_shown (indexed_read c.args.x c.args.i c.operands.ensures.same shows
    (c.in_ok-target.ensures.found graph shows) (c.in_ok-from.ensures graph)
    (c.in_ok-which.ensures c.operands.new.main graph))

pub returns-clause-carried : goal.returns-clause-carried
returns-clause-carried c graph names shows =
    let same = c.operands.ensures.same in
    let indexed = indexed_read c.args.x c.args.i same shows (c.in_ok-target.ensures.found graph shows)
    (c.in_ok-from.ensures graph) (c.in_ok-which.ensures c.operands.new.main graph) in
    let n = c.in_ok-which.which in
    let fits : SFits w64 n = search rules in
    let (held, (value, is, told), holds) =
    subst (λ (k : ℤ). HoldsElement c.operands.new.main c.hold_at.new.main c.args.y indexed.list k (Ok tt))
    (to_z-of_z w64 n fits) (c.in_ok-hold_at.ensures graph indexed.list indexed.shows indexed.stands) in
    value_carried names c.args.y held same indexed.shows
    (at_done names indexed.known indexed.index c.args.y is) refl tt c.requires.within.0 holds.fits told
    (record { held = holds.is; heap = holds.heap }) (λ rooms. (refl, λ number. refl))

pub returns-clause-binds : goal.returns-clause-binds
returns-clause-binds c =
    let (graph, shows) = c.requires.shown in
    let indexed = indexed_read c.args.x c.args.i c.operands.ensures.same shows
    (c.in_ok-target.ensures.found graph shows) (c.in_ok-from.ensures graph)
    (c.in_ok-which.ensures c.operands.new.main graph) in
    let (held, told, holds) = c.in_ok-hold_at.ensures graph indexed.list indexed.shows indexed.stands in
    binds_after c.args.y held c.operands.ensures.same holds.is
