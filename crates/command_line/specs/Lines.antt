-- Command lines as they are typed.
use Rattle.std.specs.Prelude.{◌==◌, List}
use Rattle.std.specs.List.{slice_split}
use Rattle.command_line.specs.Given.{Text}

-- the words of a line, one space apart
abbrev pub words_of : Text → List Text
words_of line = slice_split (λ b. b == 32) line
