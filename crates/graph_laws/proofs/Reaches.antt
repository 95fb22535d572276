-- Reach has what variables are bound to, is closed, and is the least such.
use Rattle.std.proofs.Common.{◌≡◌, ℕ, zero, suc, ◌<◌, Bool, true, length, Some, refl, sym, ap, ◌∙◌, arith, inl}
use Rattle.std.proofs.Common.{inr}
use Rattle.std.proofs.lemmas.Bool.{or_cases, or_right}
use Rattle.object_graph.specs.declared.value.Value.TheVariants.{Ref}
use Rattle.object_graph.specs.Graphs.{Graph}
use Rattle.object_graph.specs.Reach.{is_marked, refers_to, is_linked, bound_marks, rounds, reach}
use Rattle.object_graph.proofs.BoundValues.{any_value-get, get-any_value}
use Rattle.object_graph.proofs.Rounds.{marked_within, is_marked-bound, is_marked-round, length-bound, length-rounds}
use Rattle.object_graph.proofs.Rounds.{round_keeps, round-reach}
use Rattle.graph_laws.specs.ReachLaws.{HasBound, IsClosed, ReachHasBound, ReachIsClosed, ReachIsLeast}
use Rattle.graph_laws.proofs.ReachedLinks.{Ref-refers_to, refers_to-Ref, links-LinksTo, LinksTo-links, is_linked-by}
use Rattle.graph_laws.proofs.ReachedLinks.{by-is_linked}

-- each round has what variables are bound to
rounds_have_bound : (graph : Graph) (n : ℕ) → HasBound graph (is_marked (rounds graph n))
rounds_have_bound graph zero x number within bound =
    let passes = refers_to-Ref number (Ref number) refl in
    is_marked-bound graph number within ∙ any_value-get (refers_to number) graph.bindings x (Ref number) passes bound
rounds_have_bound graph (suc n) x number within bound =
    let marked = rounds_have_bound graph n x number within bound in
    round_keeps graph (rounds graph n) (length-rounds graph n) number marked

-- reach has what variables are bound to
pub reach_has_bound : ReachHasBound
reach_has_bound graph = rounds_have_bound graph (length graph.objects)

-- reach has what its objects link to
pub reach_closed : ReachIsClosed
reach_closed graph holder object number there inside within linked =
    let links = links-LinksTo (reach graph) object number linked in
    let by = is_linked-by graph.objects (reach graph) holder number object there inside links in
    ap (λ marks. is_marked marks number) (sym (round-reach graph))
    ∙ is_marked-round graph (reach graph) number within
    ∙ or_right (is_marked (reach graph) number) (is_linked graph.objects (reach graph) number) by

-- each round is within whatever has what variables are bound to and what its objects link to
rounds_within : (graph : Graph) (inside : ℕ → Bool) → HasBound graph inside → IsClosed graph inside
    → (n number : ℕ) → is_marked (rounds graph n) number ≡ true → inside number ≡ true
rounds_within graph inside bound closed zero number marked =
    let within : number < length graph.objects =
    omega (arith, marked_within (bound_marks graph) number marked, length-bound graph) in
    let passes = sym (is_marked-bound graph number within) ∙ marked in
    let at = get-any_value (refers_to number) graph.bindings passes in
    bound at.0 number within (at.2 ∙ ap (λ v. Some v) (Ref-refers_to number at.1 at.3))
rounds_within graph inside bound closed (suc n) number marked =
    let marks = rounds graph n in
    let linked = is_linked graph.objects marks number in
    let within : number < length graph.objects =
    omega (arith, marked_within (rounds graph (suc n)) number marked, length-rounds graph (suc n)) in
    let before = rounds_within graph inside bound closed n in
    elim (or_cases (is_marked marks number) linked (sym (is_marked-round graph marks number within) ∙ marked)) [
      | inl old ↦ before number old
      | inr linked ↦
          let by = by-is_linked graph.objects marks number linked in
          closed by.0 by.1 number by.2 (before by.0 by.3) within (LinksTo-links marks inside before by.1 number by.4)
    ]

-- reach is the least such
pub reach_least : ReachIsLeast
reach_least graph inside bound closed number marked =
    rounds_within graph inside bound closed (length graph.objects) number marked
