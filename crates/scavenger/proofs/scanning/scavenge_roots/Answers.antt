-- The roots are followed in order.
use Rattle.std.proofs.Common.{◌≡◌, ◌∙◌, ℕ, refl, sym, ap, subst, arith}
use Rattle.page_space.specs.Extents.{Space, roots_start, layouts_start}
use Rattle.page_space.proofs.LawsHold.{kinds_by_number}
use Rattle.handle_roots.specs.Roots.{root_at}
use Rattle.scav_copy.specs.Places.{StoodAt}
use Rattle.scavenger.specs.Walking.{Scavenging, at_root}
use Rattle.scavenger.proofs.LoopGoing.{same_spaces, same_young, changes_since, may_follow}
use Rattle.scavenger.proofs.LoopRoots.{root_here, root_is_live, roots_go_on}
use Rattle.scavenger.proofs.scanning.scavenge_roots.Goals as goal

pub loop-variable-init : goal.loop-variable-init
loop-variable-init c = record {
  scavenging = λ start handed all are state.
      let same = ap (λ (space : Space). roots_start space) state.changes.seat.space in
      let first : roots_start c.args.main.now.seat.space ≡ root_at start.seat.space 0 = omega (arith, same) in
      subst (λ (root : ℕ). Scavenging start handed c.args.main.now all c.args.worker.now.progress
      c.args.worker.now.list.items
      (at_root root)) first state;
  capacity = refl;
}

pub follow-requires-clause-quiet : goal.follow-requires-clause-quiet
follow-requires-clause-quiet c =
    let given = c.requires.scavenging in
    (c.loop-variable.invariant.scavenging given.0 given.1 given.2 given.3 given.4).quiet

pub follow-requires-clause-spaces : goal.follow-requires-clause-spaces
follow-requires-clause-spaces c =
    let given = c.requires.scavenging in
    let state = c.loop-variable.invariant.scavenging given.0 given.1 given.2 given.3 given.4 in
    let variable = c.loop-variable.variable in
    let here = root_here c.regions-regions.result c.args.main.now.seat.space given.0.seat.space variable
    c.variables-variable-end.result c.root_at.result c.regions-regions.ensures.regions given.4.changes.seat.space
    c.variables-variable-end.ensures c.loop-variable-test.true c.root_at.ensures.at in
    let place : ℕ = root_at given.0.seat.space variable in
    let stood = subst (λ (slot : ℕ). StoodAt state.fixed state.homes slot place) (sym here.1)
    (root_is_live state variable here.0) in (
      given.2,
      same_spaces c.args.spaces.now (changes_since given.4.changes state.changes) given.3,
      may_follow state c.root_at.result place stood,
    )

pub follow-requires-clause-room : goal.follow-requires-clause-room
follow-requires-clause-room c =
    let given = c.requires.scavenging in
    let state = c.loop-variable.invariant.scavenging given.0 given.1 given.2 given.3 given.4 in
    let same = same_young (changes_since given.4.changes state.changes) in
    omega (arith, same, c.requires.room, c.loop-variable.invariant.capacity)

pub loop-variable-preserved : goal.loop-variable-preserved
loop-variable-preserved c = record {
  scavenging = λ start handed all are begun.
      let state = c.loop-variable.invariant.scavenging start handed all are begun in
      let variable = c.loop-variable.variable in
      let here = root_here c.regions-regions.result c.args.main.now.seat.space start.seat.space variable
      c.variables-variable-end.result c.root_at.result c.regions-regions.ensures.regions begun.changes.seat.space
      c.variables-variable-end.ensures c.loop-variable-test.true c.root_at.ensures.at in
      let place : ℕ = root_at start.seat.space variable in
      let stood = subst (λ (slot : ℕ). StoodAt state.fixed state.homes slot place) (sym here.1)
      (root_is_live state variable here.0) in
      roots_go_on variable here.1 state
      (c.follow.ensures.followed start handed all (at_root place) state place
      (same_spaces c.args.spaces.now (changes_since begun.changes state.changes) are) stood);
  capacity = c.follow.ensures.capacity ∙ c.loop-variable.invariant.capacity;
}

pub returns-clause-scavenging : goal.returns-clause-scavenging
returns-clause-scavenging c start handed all are begun =
    let state = c.loop-variable.invariant.scavenging start handed all are begun in
    let kinds = kinds_by_number start.seat.space in
    let same : c.regions-regions.result ≡ start.seat.space =
    c.regions-regions.ensures.regions ∙ begun.changes.seat.space in
    let count = ap (λ (space : Space). space.variables) same in
    let ends = ap (λ (space : Space). layouts_start space) begun.changes.seat.space in
    let last : root_at start.seat.space c.loop-variable.variable ≡ layouts_start c.args.main.now.seat.space =
    omega (
      arith,
      c.loop-variable-test.false,
      c.loop-variable.auto.variable-end,
      c.variables-variable-end.ensures,
      count,
      ends,
      kinds.layouts,
    ) in
    subst (λ (root : ℕ). Scavenging start handed c.loop-variable.main all c.loop-variable.worker.progress
    c.loop-variable.worker.list.items (at_root root)) last state
