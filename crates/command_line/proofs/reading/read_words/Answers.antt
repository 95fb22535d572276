-- The first word is no command.
use Rattle.std.proofs.Common.{◌∙◌, string_bytes}
use Rattle.command_line.proofs.AskedCommands.{no_command}
use Rattle.command_line.proofs.reading.read_words.Goals as goal

pub returns-in_default-as_str-clause-refused : goal.returns-in_default-as_str-clause-refused
returns-in_default-as_str-clause-refused c = λ bad.
    let no = c.in_default-as_str in
    let bytes = c.as_str.ensures.value in
    no_command string_bytes c.args.words.now c.first-item.result c.in-len1-up.len_at_least c.first-item.is
    (λ e. no.not-run (bytes ∙ e)) (λ e. no.not-check (bytes ∙ e)) (λ e. no.not-soak (bytes ∙ e))
    (λ e. no.not-gen (bytes ∙ e))
