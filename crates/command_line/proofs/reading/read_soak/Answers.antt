-- The parts of the words ask for what the words ask for.
use Rattle.std.proofs.Common.{rules, ◌∙◌, Some, None, map, string_bytes, sym, ap}
use Rattle.command_line.proofs.Parts.{soak_asks, told, refused}
use Rattle.command_line.proofs.reading.read_soak.Goals as goal

pub returns-in_err-sizes-clause-refused : goal.returns-in_err-sizes-clause-refused
returns-in_err-sizes-clause-refused c = λ bad.
    soak_asks (map string_bytes c.args.words.now) (map (λ text. text.now) c.as_slice.result.now)
    (map (λ text. text.now) c.in_ok-parts.parts.positional.items) None
    (ap (map (λ text. text.now)) c.as_slice.ensures.value ∙ c.in_ok-parts.ensures.options)
    c.in_ok-parts.ensures.positional (c.in_err-sizes.ensures.refused (search rules))

pub returns : goal.returns
returns c =
    let same = soak_asks (map string_bytes c.args.words.now) (map (λ text. text.now) c.as_slice.result.now)
    (map (λ text. text.now) c.as_slice-2.result.now) (Some c.in_ok-sizes.sizes)
    (ap (map (λ text. text.now)) c.as_slice.ensures.value ∙ c.in_ok-parts.ensures.options)
    (ap (map (λ text. text.now)) c.as_slice-2.ensures.value ∙ c.in_ok-parts.ensures.positional)
    c.in_ok-sizes.ensures.sizes ∙ sym c.soak_of.ensures in
    record {
      invocation = told _ c.soak_of.result c.ok_or.result same c.ok_or.ensures.value;
      refused = refused _ c.soak_of.result c.ok_or.result same c.ok_or.ensures.value;
    }
