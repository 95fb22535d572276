-- What the parser of options makes of words is how its walk over them ends.
use Rattle.std.proofs.Common.{◌≡◌, ◌∙◌, ◌||◌, Bool, true, false, List, [], ◌∷◌, map}
use Rattle.std.proofs.Common.{option_and_then, cond, drop, fold, refl, ap}
use Rattle.std.proofs.Common.{ap₂}
use Rattle.clap.specs.Walk.{Row, Text, finished, has_row, idle, nothing_held, walk, walk_from, with_default}
use Rattle.clap.specs.Simple.{matches_of, built}
use Rattle.clap.specs.Kinds.{Kinds, or_else}
use Rattle.clap.specs.Faults.{check_fault, default_fault, defaults_fault, fault_of, given_default_fault, level_fault}
use Rattle.clap.specs.Faults.{walk_fault}
use Rattle.clap.proofs.FaultLemmas.{leaf_fault}
use Rattle.command_line.specs.Given.{given_of, option_names}
use Rattle.command_line.specs.Sizes.{sizes_alone}
use Rattle.command_line.specs.Parser.{parsed_rows, parser, where_no_fault}
use Rattle.command_line.proofs.ParserRules.{top, top-rules, built_rule}
use Rattle.command_line.proofs.Turns.{held_fault, held_rows, outcome, walk_at}
use Rattle.command_line.proofs.Agreement.{sizes_read}
use Rattle.command_line.proofs.AwaitedAgreement.{walk_agrees}

-- an option has no default, so the rows stay
rows_stay : (rows : List Row) (name : Text) → with_default rows (built_rule name) ≡ rows
rows_stay rows name = go (has_row name rows)
  where
    go : (b : Bool) → cond b rows rows ≡ rows
    go true = refl
    go false = refl

-- so do they past all options
all_rows_stay : (rows : List Row) (names : List Text) → fold with_default rows (map built_rule names) ≡ rows
all_rows_stay rows [] = refl
all_rows_stay rows (name ∷ names) = ap (λ rs. fold with_default rs (map built_rule names)) (rows_stay rows name)
    ∙ all_rows_stay rows names

-- a default that is not there is not refused
default_passes : (rows : List Row) (name : Text) → default_fault rows (built_rule name) ≡ []
default_passes rows name = go (has_row name rows)
  where
    go : (b : Bool) → cond (b || true) [] (given_default_fault (built_rule name) []) ≡ []
    go true = refl
    go false = refl

-- so none is
defaults_pass : (rows : List Row) (names : List Text) → defaults_fault rows (map built_rule names) ≡ []
unfolding defaults_fault
defaults_pass rows [] = refl
defaults_pass rows (name ∷ names) =
    ap₂ (λ ks rs. or_else ks (defaults_fault rs (map built_rule names)))
    (default_passes rows name) (rows_stay rows name)
    ∙ defaults_pass rows names

-- no option is required
checks_pass : (rows : List Row) → check_fault top rows false ≡ []
unfolding top
checks_pass rows = refl

-- nothing comes after these kinds
or_nothing : (kinds : Kinds) → or_else kinds [] ≡ kinds
or_nothing [] = refl
or_nothing (kind ∷ kinds) = refl

-- why the walk over words is refused
abbrev walk_faults : List Text → Kinds
walk_faults words =
    or_else (walk_fault top [] (walk_from nothing_held) words) (held_fault (walk top.rules [] nothing_held words).held)

-- the last steps of a parse refuse nothing
level_is : (words : List Text) → level_fault top [] nothing_held words false [] ≡ walk_faults words
level_is words =
    let end = (walk top.rules [] nothing_held words).held in
    let words_fault = walk_fault top [] (walk_from nothing_held) words in
    let passes = λ (ks ls : Kinds). or_else words_fault (or_else (held_fault end) (or_else ks ls)) in
    ap₂ passes (ap (defaults_fault (held_rows end)) top-rules
    ∙ defaults_pass (held_rows end) option_names) (checks_pass (finished top.rules end))
    ∙ ap (or_else words_fault) (or_nothing (held_fault end))

-- a parse is refused as its walk is
faults_are : (words : List Text) → fault_of parser words ≡ walk_faults (drop 1 words)
unfolding top
faults_are words = leaf_fault (built parser) nothing_held (drop 1 words) refl ∙ level_is (drop 1 words)

-- its rows are those at the end of the walk
matches_are : (words : List Text)
    → matches_of parser words ≡ held_rows (walk top.rules [] nothing_held (drop 1 words)).held
unfolding top
matches_are words =
    let rows = held_rows (walk top.rules [] nothing_held (drop 1 words)).held in
    ap (fold with_default rows) top-rules ∙ all_rows_stay rows option_names

-- the parser's rows are how its walk ends
parsed_rows-outcome : (words : List Text) → parsed_rows words ≡ outcome (walk_at nothing_held idle) (drop 1 words)
parsed_rows-outcome words = ap₂ where_no_fault (faults_are words) (matches_are words)

-- the parser's rows give the sizes that the words after the first mean
pub parsed_rows-sizes : (words : List Text) → sizes_read (parsed_rows words)
    ≡ option_and_then sizes_alone (given_of (drop 1 words))
parsed_rows-sizes words = ap sizes_read (parsed_rows-outcome words)
    ∙ walk_agrees nothing_held (drop 1 words) (record { passes = refl; rows = refl; skip = refl })
