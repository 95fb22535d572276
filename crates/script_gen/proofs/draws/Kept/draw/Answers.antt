-- The state and the number are what two steps of 64 bits and a shift leave.
use Rattle.std.proofs.Common.{◌*◌, ◌/◌, ◌%◌, ◌^◌, ap}
use Rattle.std.proofs.Math.Nat.{mod-add-mod}
use Rattle.script_gen.specs.Draws.{next, drawn}
use Rattle.script_gen.proofs.draws.Kept.draw.Goals as goal

pub returns-clause-kept : goal.returns-clause-kept
unfolding next
returns-clause-kept c =
    let kept = c.args.self.now in
    let scaled = kept.state * 6364136223846793005 in
    let wraps = mod-add-mod scaled (2 ^ 64) 1442695040888963407 in
    ap (λ state. record kept { state = state }) wraps

pub returns-clause-number : goal.returns-clause-number
unfolding next drawn
returns-clause-number c =
    let scaled = c.args.self.now.state * 6364136223846793005 in
    ap (λ state. state / 2 ^ 33 % c.args.below) (mod-add-mod scaled (2 ^ 64) 1442695040888963407)
