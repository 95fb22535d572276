use Rattle.std.proofs.Common.{◌++◌, ◌∷◌, [], sym, ap, ◌∙◌, append_assoc}
use Rattle.std.specs.List.{list_any}
use Rattle.std.specs.Map.Iter.{deref}
use Rattle.std.proofs.lemmas.List.{append-nil}
use Rattle.std.proofs.lemmas.Map.Iter.{rest_more, rest_all}
use Rattle.object_graph.specs.Reach.{refers_to}
use Rattle.object_graph.proofs.Marking.{MarksAlso-push, MarksAlso-agree}
use Rattle.object_graph.proofs.BoundValues.{values-from_entries}
use Rattle.ideal_graph.proofs.ideal.reach.mark_bound.Goals as goal

pub loop-value-preserved : goal.loop-value-preserved
loop-value-preserved c =
    let seen = c.loop-value.invariant.0 in
    let value = c.in-Some.value in
    let left = c.next.new.self in
    let steps = c.next.ensures.steps in
    let more = rest_more deref c.loop-value.value-iterator left c.next.result value c.in-Some.is steps in (
      seen ++ value.now ∷ [],
      append_assoc seen (value.now ∷ []) left ∙ ap (λ rest. seen ++ rest) (sym more) ∙ c.loop-value.invariant.1,
      MarksAlso-push refers_to seen value.now _ _ _ c.loop-value.invariant.2 c.mark.ensures,
    )

pub returns : goal.returns
returns c =
    let seen = c.loop-value.invariant.0 in
    let steps = c.next.ensures.steps in
    let none = rest_all deref c.loop-value.value-iterator c.next.new.self c.next.result c.in-None.is steps in
    let all = sym (append-nil seen) ∙ ap (λ rest. seen ++ rest) (sym none) ∙ c.loop-value.invariant.1 in
    let bound = values-from_entries c.args.bindings.now.entries c.values-value-items.ensures.ordered in
    MarksAlso-agree _ _ _ _ (λ number. ap (list_any (refers_to number)) (all ∙ sym bound)) c.loop-value.invariant.2
