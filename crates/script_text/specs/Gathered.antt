-- The statements of lines, one line after another.
use Rattle.std.specs.Prelude.{List, ◌++◌, Result, Ok, Err}
use Rattle.script_text.specs.declared.script.BadScript.{BadScript}
use Rattle.script_text.specs.Scripts.{NumberedStatement}

-- statements, and then those of the rest
abbrev pub gathered : List NumberedStatement → Result (List NumberedStatement) BadScript
    → Result (List NumberedStatement) BadScript
gathered done (Ok more) = Ok (done ++ more)
gathered done (Err stop) = Err stop
