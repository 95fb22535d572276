-- The lines of a script that was read are whole.
use Rattle.std.proofs.Common.{[], subst}
use Rattle.std.specs.List.{flat_map}
use Rattle.script_text.specs.Lines.{lines_of}
use Rattle.script_text.specs.Names.{first_uses, variables_of, fields_of}
use Rattle.script_text.specs.Scripts.{NumberedStatement}
use Rattle.script_text.specs.Grammar.{lines_from}
use Rattle.script_text.specs.Versions.{opening_from}
use Rattle.script_text.specs.Whole.{AreBlocks}
use Rattle.script_laws.specs.Execution.{ScriptsAreWhole}
use Rattle.script_text.proofs.Speaking.{stated_from-AreStated}
use Rattle.script_text.proofs.Placed.{AreBlocks-placed, lines_from-IsPlaced}
use Rattle.script_text.proofs.Reading.{reading-parts}

-- the lines of a script that was read are whole
pub scripts_are_whole : ScriptsAreWhole
scripts_are_whole source script e =
    let opened = reading-parts (opening_from 1 (lines_of source)) script e in
    let opening = opened.opening in
    let parts = opened.all in
    let are = stated_from-AreStated opening.version opening.number [] opening.lines parts.stated parts.is in
    let vs = first_uses (flat_map (λ (s : NumberedStatement). variables_of s.statement) parts.stated) in
    let fs = first_uses (flat_map (λ (s : NumberedStatement). fields_of s.statement) parts.stated) in
    subst (λ s. AreBlocks s.lines) parts.same
    (AreBlocks-placed 0 (lines_from vs fs 0 [] parts.stated) (lines_from-IsPlaced vs fs parts.stated are))
