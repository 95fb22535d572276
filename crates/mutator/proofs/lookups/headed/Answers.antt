-- A variable that refers to an address is bound to the object there, and its cell has the header.
use Rattle.std.proofs.Common.{sym, subst}
use Rattle.write_barrier.specs.MutatorState.{Mutator, heap_of}
use Rattle.write_barrier.specs.Reading.{HasHeader}
use Rattle.write_barrier.proofs.Headers.{has_header}
use Rattle.write_barrier.specs.Reading.{IsHeaderAt}
use Rattle.mutator.proofs.HeldValues.{is_root}
use Rattle.mutator.proofs.ObjectsAt.{referred_object, found_object}
use Rattle.mutator.proofs.lookups.headed.Goals as goal

pub referred-requires-clause-root : goal.referred-requires-clause-root
referred-requires-clause-root c = is_root c.args.x c.requires.shown.1 c.requires.within

pub header-requires : goal.header-requires
header-requires c =
    let at = c.in_ok-at.at in
    let (graph, shows) = c.requires.shown in
    let object = (referred_object c.args.x at shows c.requires.within c.in_ok-at.ensures.refers).object.object in
    subst (λ (main : Mutator). HasHeader (heap_of main) at) (sym c.referred.ensures.same)
    (has_header object.has object.stands)

pub returns-clause-found : goal.returns-clause-found
returns-clause-found c graph shows =
    let at = c.in_ok-at.at in
    let header = c.header.result in
    let to = referred_object c.args.x at shows c.requires.within c.in_ok-at.ensures.refers in
    let object = to.object.object in
    let headed = subst (λ (main : Mutator). IsHeaderAt (heap_of main) at header) c.referred.ensures.same
    c.header.ensures.of_cell in
    record {
      value = to.value;
      is = to.is;
      found = found_object header shows to.object (headed object.cell object.words object.has object.stands);
      headed = headed;
    }
