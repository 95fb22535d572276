use Rattle.std.proofs.Common.{ℕ, ◌<◌, false, length, replicate, arith, ◌∙◌, sym}
use Rattle.std.proofs.lemmas.Grind.{common_steps}
use Rattle.std.proofs.lemmas.List.{same_lists, get_or-replicate, length-replicate}
use Rattle.heap_check.proofs.checker.clear.Goals as goal

pub loop-at-preserved : goal.loop-at-preserved
loop-at-preserved c = λ k d below. grind (arith, common_steps, c.loop-at.invariant k d)

pub returns : goal.returns
returns c =
    let many : ℕ = length c.args.flags.now in
    let same = length-replicate many false in
    same_lists c.loop-at.flags (replicate many false) (omega (arith, same, c.loop-at.auto.flags)) (λ k d below.
    let within : k < many = omega (arith, c.loop-at.auto.flags) in
    c.loop-at.invariant k d (omega (arith, c.loop-at-test.false)) ∙ sym (get_or-replicate many k false d within))
