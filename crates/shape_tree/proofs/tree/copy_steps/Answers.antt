-- Each entry of the other table is put in once.
use Rattle.std.proofs.Common.{◌≡◌, ◌+◌, ℕ, Bor, arith, map, subst, append-nil, sym, ◌∙◌, ap, ◌++◌}
use Rattle.std.specs.HashMap.{hash_map_len, spare}
use Rattle.std.specs.Map.Iter.{deref_pair}
use Rattle.std.proofs.lemmas.List.{map_push}
use Rattle.shape_tree.specs.declared.transition.Transition.{Transition}
use Rattle.shape_tree.proofs.CopiedSteps.{Copies, copies_more, left_more, copied_all, copied_len}
use Rattle.shape_tree.proofs.tree.copy_steps.Goals as goal

pub loop-step-preserved : goal.loop-step-preserved
loop-step-preserved c =
    let before = c.loop-step.invariant in
    let total = hash_map_len c.args.steps.now + spare c.args.steps.now in
    let item : Bor Transition × Bor ℕ = (c.in-Some.step, c.in-Some.shape) in
    let put = c.put_step.ensures in
    record {
      left = left_more deref_pair c.args.others.now.entries c.loop-step.step-iterator c.next.new.self
          c.loop-step.yielded item
          before.left c.in-Some.ensures.steps;
      copies = subst (λ so_far. Copies total so_far c.put_step.new.steps)
          (sym (map_push deref_pair c.loop-step.yielded item))
          (copies_more total (map deref_pair c.loop-step.yielded) c.loop-step.steps
          c.put_step.new.steps c.in-Some.step.now
          c.in-Some.shape.now before.copies put.put put.room put.unique);
    }

-- all entries were put in
copies_all : (c : goal.In-None)
    → Copies (hash_map_len c.args.steps.now + spare c.args.steps.now) c.args.others.now.entries c.loop-step.steps
copies_all c =
    let before = c.loop-step.invariant in
    let total = hash_map_len c.args.steps.now + spare c.args.steps.now in
    let none : map deref_pair c.loop-step.yielded ≡ c.args.others.now.entries =
    sym (append-nil (map deref_pair c.loop-step.yielded))
    ∙ ap (λ rest. map deref_pair c.loop-step.yielded ++ rest) (sym c.in-None.ensures.steps.0)
    ∙ before.left in
    subst (λ so_far. Copies total so_far c.loop-step.steps) none before.copies

pub returns-clause-copied : goal.returns-clause-copied
returns-clause-copied c =
    copied_all (hash_map_len c.args.steps.now + spare c.args.steps.now) c.loop-step.steps
    c.args.others.now (copies_all c)
    c.into_iter-step-iterator.ensures.into_iter_gives.4

pub returns-clause-len : goal.returns-clause-len
returns-clause-len c =
    copied_len (hash_map_len c.args.steps.now + spare c.args.steps.now) c.loop-step.steps
    c.args.others.now (copies_all c)
    c.into_iter-step-iterator.ensures.into_iter_gives.4

pub returns-clause-room : goal.returns-clause-room
returns-clause-room c = omega (arith, (copies_all c).room, returns-clause-len c)
