use Rattle.std.proofs.Common.{◌++◌, ◌∷◌, [], sym, ap, ◌∙◌, append_assoc, subst, refl, arith}
use Rattle.std.specs.Map.Iter.{deref}
use Rattle.std.specs.Cmp.{nat_cmp_total}
use Rattle.std.specs.FinMap.{get-from_entries}
use Rattle.std.proofs.lemmas.Bool.{false≢true}
use Rattle.std.proofs.lemmas.List.{append-nil}
use Rattle.std.proofs.lemmas.Map.Iter.{rest_more, rest_all}
use Rattle.ideal_parts.proofs.BoundFrom.{AreBelow, AreBelow-push, unbound_from, bound_at}
use Rattle.ideal_parts.proofs.bindings.has_none_from.Goals as goal

pub loop-x-preserved : goal.loop-x-preserved
loop-x-preserved c =
    let seen = c.loop-x.invariant.0 in
    let x = c.in-Some.x in
    let left = c.next.new.self in
    let more = rest_more deref c.loop-x.x-iterator left c.next.result x c.in-Some.is c.next.ensures.steps in (
      seen ++ x.now ∷ [],
      append_assoc seen (x.now ∷ []) left ∙ ap (λ rest. seen ++ rest) (sym more) ∙ c.loop-x.invariant.1,
      AreBelow-push c.args.least seen x.now c.loop-x.invariant.2 (omega arith),
    )

pub returns-then-x-least : goal.returns-then-x-least
returns-then-x-least c =
    let entries = c.args.bindings.now.entries in
    let seen = c.loop-x.invariant.0 in
    let x = c.in-Some.x in
    let left = c.next.new.self in
    let more = rest_more deref c.loop-x.x-iterator left c.next.result x c.in-Some.is c.next.ensures.steps in (
      λ wrong. absurd (false≢true wrong),
      λ none. absurd
          (bound_at x.now entries seen left (ap (λ rest. seen ++ rest) (sym more) ∙ c.loop-x.invariant.1)
          (sym (get-from_entries nat_cmp_total entries x.now) ∙ none x.now (omega arith))),
    )

pub returns : goal.returns
returns c =
    let entries = c.args.bindings.now.entries in
    let seen = c.loop-x.invariant.0 in
    let steps = c.next.ensures.steps in
    let none = rest_all deref c.loop-x.x-iterator c.next.new.self c.next.result c.in-None.is steps in
    let all = sym (append-nil seen) ∙ ap (λ rest. seen ++ rest) (sym none) ∙ c.loop-x.invariant.1 in (
      λ done x from. get-from_entries nat_cmp_total entries x
          ∙ unbound_from c.args.least x entries (subst (AreBelow c.args.least) all c.loop-x.invariant.2) from,
      λ unbound. refl,
    )
