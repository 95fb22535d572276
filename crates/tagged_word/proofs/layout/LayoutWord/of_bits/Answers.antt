-- The bits of a layout give its parts back.
use Rattle.std.proofs.Common.{◌/◌, ◌%◌, arith}
use Rattle.tagged_word.proofs.Layouts.{parts, fits, same_made}
use Rattle.tagged_word.proofs.layout.LayoutWord.of_bits.Goals as goal

pub of_known_number-requires : goal.of_known_number-requires
of_known_number-requires c =
    let (layout, is, bits) = c.requires in
    (layout.kind, (parts c.args.word layout is bits).number)

pub returns : goal.returns
returns c layout is bits =
    let word = c.args.word in
    let of_bits = parts word layout is bits in
    same_made c.of_known_number.result layout.kind (word / 16 % 16) layout.cap (word / 256 % 16) layout.used
    (word / 4096 % 256) layout.raw (c.of_known_number.ensures layout.kind of_bits.number) of_bits.cap of_bits.used
    (omega (arith, of_bits.raw, (fits layout is).raw))
