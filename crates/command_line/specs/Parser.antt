-- What the parser of options makes of words.
use Rattle.std.specs.Prelude.{true, List, [], ◌∷◌, Option, Some, None, codes}
use Rattle.clap.specs.Walk.{Row, Rule, Text}
use Rattle.clap.specs.Simple.{App, matches_of, new_app, new_rule, on_top, with_rule}
use Rattle.clap.specs.Faults.{fault_of}
use Rattle.clap.specs.Kinds.{Kinds}
use Rattle.clap.specs.declared.builder.action.ArgAction.TheVariants.{Set}

-- an option with one value
abbrev pub option_rule : Text → Rule
option_rule name = record (new_rule name) { long = Some name; action = Some Set }

-- the parser: three options and nothing else, no help either
abbrev pub parser : App
parser =
    with_rule (with_rule (with_rule (on_top (λ s. record s { disable_help_flag = true }) (new_app (codes "heaprun")))
    (option_rule (codes "pages"))) (option_rule (codes "young"))) (option_rule (codes "helpers"))

-- this, where there is no fault
abbrev pub where_no_fault : {X : Type 0} → Kinds → X → Option X
where_no_fault [] x = Some x
where_no_fault (kind ∷ kinds) x = None

-- the rows that the parser finds in words, of which it passes over the first; nothing where it refuses them
abbrev pub parsed_rows : List Text → Option (List Row)
parsed_rows words = where_no_fault (fault_of parser words) (matches_of parser words)
