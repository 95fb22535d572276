use Rattle.std.proofs.Common.{◌/◌, ◌%◌, get_or, false, ap, ◌==◌, arith, ℕ}
use Rattle.std.specs.Int.{w64}
use Rattle.std.proofs.lemmas.Nat.Bits.{bit_at_clear_same, bit_at_clear_other}
use Rattle.remembered_set.proofs.Words.{flags_of-set}
use Rattle.remembered_set.proofs.bits.unset.Goals as goal

pub returns : goal.returns
returns c =
    let word = get_or c.args.bits.now (c.args.place / 64) 0 in
    let bit = c.args.place % 64 in
    flags_of-set c.args.bits.now c.args.place _ false c.requires
    (ap (λ (n : ℕ). n == 1) (bit_at_clear_same w64 word bit (omega arith)))
    (λ other within differs. bit_at_clear_other w64 word bit (omega arith) other within differs)
