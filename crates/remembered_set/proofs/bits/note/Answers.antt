use Rattle.std.proofs.Common.{◌/◌, ◌%◌, get_or, true, arith}
use Rattle.std.specs.Int.{w64}
use Rattle.std.proofs.lemmas.Bool.{eq-eqb}
use Rattle.std.proofs.lemmas.Nat.Bits.{bit_at_set_same, bit_at_set_other}
use Rattle.remembered_set.proofs.Words.{get_or-flags_of, flags_of-set, bit_test}
use Rattle.remembered_set.proofs.bits.note.Goals as goal

pub returns-clause-was_clear : goal.returns-clause-was_clear
returns-clause-was_clear c =
    let word = get_or c.args.bits.now (c.args.place / 64) 0 in
    let bit = c.args.place % 64 in
    rw (get_or-flags_of c.args.bits.now c.args.place) (bit_test word bit (omega arith))

pub returns-clause-is_set : goal.returns-clause-is_set
returns-clause-is_set c =
    let word = get_or c.args.bits.now (c.args.place / 64) 0 in
    let bit = c.args.place % 64 in
    flags_of-set c.args.bits.now c.args.place _ true c.requires
    (eq-eqb _ 1 (bit_at_set_same w64 word bit (omega arith)))
    (λ other within differs. bit_at_set_other w64 word bit (omega arith) other differs)
