use Rattle.std.proofs.Common.{◌≡◌, ◌/◌, ◌%◌, true, false, arith}
use Rattle.tagged_word.specs.declared.header.Header.{Header}
use Rattle.tagged_word.specs.Headers.{IsHeader, header_bits}
use Rattle.tagged_word.proofs.header.Header.parse.Goals as goal

pub returns-then-header-lt-SHAPE_LIMIT-clause-none : goal.returns-then-header-lt-SHAPE_LIMIT-clause-none
returns-then-header-lt-SHAPE_LIMIT-clause-none c =
    let w = c.args.word.0 in
    let header : Header = record { shape = w % 4294967296 / 4; object = w / 4294967296 } in
    let is : IsHeader header = record { shape = omega arith; object = omega arith } in
    let bits : w ≡ header_bits header = omega arith in
    (λ (e : true ≡ false) h i b. cc, λ f. absurd (f header is bits))
