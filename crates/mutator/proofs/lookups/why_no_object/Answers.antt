-- A variable that holds no reference is bound to no object.
use Rattle.std.proofs.Common.{◌≡◌, ℕ, Some, inl, inr, refl, subst}
use Rattle.std.specs.FinMap.{get}
use Rattle.write_barrier.specs.MutatorState.{heap_of}
use Rattle.handle_roots.specs.declared.held.Held.TheVariants.{Ref}
use Rattle.handle_roots.specs.Roots.{Holds}
use Rattle.write_barrier.specs.Seats.{heap_words}
use Rattle.heap_model.specs.Types.{Held}
use Rattle.heap_model.specs.Showing.{ShowsHeld}
use Rattle.mutator.proofs.HeldValues.{is_root, held_shows, some_shown, none_shown, shows_by_kind, no_plain_shown}
use Rattle.mutator.proofs.lookups.why_no_object.Goals as goal

pub held-requires-clause-root : goal.held-requires-clause-root
held-requires-clause-root c = is_root c.args.x c.requires.shown.1 c.requires.within

pub returns-in-Unbound-clause-lacks : goal.returns-in-Unbound-clause-lacks
returns-in-Unbound-clause-lacks c graph shows =
    let shown = held_shows c.args.x c.held.result shows c.requires.within c.held.ensures.holds in
    inl (
      none_shown (get graph.bindings c.args.x)
          (subst (λ h. ShowsHeld (heap_of c.args.main.now) h (get graph.bindings c.args.x)) c.in-Unbound.is shown),
      refl,
    )

pub returns-in_default-clause-lacks : goal.returns-in_default-clause-lacks
returns-in_default-clause-lacks c graph shows =
    let one = c.held.result in
    let shown = held_shows c.args.x one shows c.requires.within c.held.ensures.holds in
    let some = some_shown one (get graph.bindings c.args.x) c.in_default.not-Unbound shown in
    let main = c.args.main.now in
    let apart : (at : ℕ) → one ≡ Ref at → ⊥ = λ at is. c.requires.none at
    (subst (λ (h : Held). Holds main.seat.space (heap_words main.seat) c.args.x h) is c.held.ensures.holds) in
    inr (
      some.value,
      some.is,
      no_plain_shown (heap_of main) graph one some.value apart (shows_by_kind one (Some some.value) some.shows),
      refl,
    )
