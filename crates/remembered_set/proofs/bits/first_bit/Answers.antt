use Rattle.std.proofs.Common.{ap, bit_and, arith}
use Rattle.std.specs.Int.Bits.{and_lt}
use Rattle.std.proofs.lemmas.Nat.Bits.{ones_shl}
use Rattle.remembered_set.proofs.Words.{no_bit, lowest_bit}
use Rattle.remembered_set.proofs.bits.first_bit.Goals as goal

pub returns-then-rest-eq0 : goal.returns-then-rest-eq0
returns-then-rest-eq0 c =
    let mask = ones_shl 64 c.args.from (omega (arith, c.requires)) in
    no_bit c.args.word c.args.from _ (ap (λ n. bit_and c.args.word n) mask) c.if-rest-eq0.true

pub returns : goal.returns
returns c =
    let mask = ones_shl 64 c.args.from (omega (arith, c.requires)) in
    lowest_bit c.args.word c.args.from _ (ap (λ n. bit_and c.args.word n) mask) (omega (arith, c.if-rest-eq0.false))
    (and_lt 64 c.args.word _ (omega (arith, c.ranges.word.fits)) (omega arith))
