-- The bits of a header give its parts back.
use Rattle.std.proofs.Common.{◌/◌, ◌%◌, arith}
use Rattle.tagged_word.proofs.Headers.{same_made}
use Rattle.tagged_word.proofs.header.Header.of_bits.Goals as goal

pub returns : goal.returns
returns c header is bits =
    let word = c.args.word in
    same_made (word % 4294967296 / 4) header.shape (word / 4294967296) header.object (omega (arith, bits, is.shape))
    (omega (arith, bits, is.shape))
