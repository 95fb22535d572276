use Rattle.std.proofs.Common.{◌/◌, ◌%◌, get_or, arith}
use Rattle.remembered_set.proofs.Words.{get_or-flags_of, bit_left}
use Rattle.remembered_set.proofs.bits.is_set.Goals as goal

pub returns : goal.returns
returns c =
    let word = get_or c.args.bits.now (c.args.place / 64) 0 in
    let bit = c.args.place % 64 in
    rw (get_or-flags_of c.args.bits.now c.args.place) (bit_left word bit (omega arith))
