-- What is parted already, with the parts of the words that are left behind it, are the parts of all words.
use Rattle.std.proofs.Common.{◌≡◌, map, drop, string_bytes}
use Rattle.command_line.specs.declared.parting.Expected.TheVariants.{Value}
use Rattle.command_line.specs.Parted.{parts_of}
use Rattle.command_line.proofs.Parts.{with_behind}
use Rattle.command_line.proofs.parting.part_words.Given as goal

abbrev pub invariant-loop-word : goal.invariant-loop-word
invariant-loop-word l =
    with_behind (map (λ text. text.now) l.options.items) (map (λ text. text.now) l.positional.items)
    (parts_of l.expected (map string_bytes (drop l.word-index l.words)))
    ≡ parts_of Value (map string_bytes l.words)
