-- What a call of the parser of options tells of the words.
use Rattle.std.proofs.Common.{◌≡◌, ◌∙◌, true, List, [], ◌∷◌, Option, None, Some, option_and_then}
use Rattle.std.proofs.Common.{drop, refl, subst, ap, ap₂, sym}
use Rattle.std.proofs.Common.{inl, inr}
use Rattle.clap.specs.Walk.{Row, Text, rows_of}
use Rattle.clap.specs.Simple.{App, is_simple, matches_of}
use Rattle.clap.specs.Kinds.{HasKind, Kinds}
use Rattle.clap.specs.Faults.{fault_of, is_simple_and_free}
use Rattle.clap.specs.Values.{kind_of}
use Rattle.clap.specs.Matches.{first_value, found_of}
use Rattle.clap.specs.declared.error.Error.{Error}
use Rattle.clap.specs.declared.parser.matches.ArgMatches.{ArgMatches}
use Rattle.clap.proofs.WalkLemmas.{first_value-rows}
use Rattle.page_space.specs.declared.sizes.Sizes.{Sizes}
use Rattle.command_line.specs.declared.invocation.WordsStop.TheVariants.{BadWords, NoMemory}
use Rattle.command_line.specs.Given.{given_of}
use Rattle.command_line.specs.Sizes.{sizes_alone, sizes_by}
use Rattle.command_line.specs.Parser.{parsed_rows, parser, where_no_fault}
use Rattle.command_line.specs.Stops.{stop_of_kind}
use Rattle.command_line.proofs.Agreement.{sizes_read}
use Rattle.command_line.proofs.ParsedRows.{parsed_rows-sizes}

-- matches, as the rows
pub rows_parsed : (app : App) (words : List Text) (rows : List Row) → app ≡ parser
    → (is_simple app ≡ true → rows ≡ matches_of app words)
    → (is_simple_and_free app ≡ true → fault_of app words ≡ []) → parsed_rows words ≡ Some rows
rows_parsed app words rows is matches faults =
    ap₂ where_no_fault (ap (λ a. fault_of a words) (sym is)
    ∙ faults (ap is_simple_and_free is)) (ap (λ a. matches_of a words) (sym is) ∙ sym (matches (ap is_simple is)))

-- an error that is no want of memory, as no rows
pub none_parsed : (app : App) (words : List Text) (e : Error) → app ≡ parser
    → (is_simple_and_free app ≡ true → HasKind (fault_of app words) e)
    → stop_of_kind (kind_of e) ≡ BadWords → parsed_rows words ≡ None
none_parsed app words e is fails bad =
    go (fault_of parser words) (subst (λ a. HasKind (fault_of a words) e) is (fails (ap is_simple_and_free is)))
  where
    go : (kinds : Kinds) → HasKind kinds e → where_no_fault kinds (matches_of parser words) ≡ None
    go (kind ∷ kinds) h = refl
    go [] (inl memory) = let no : NoMemory ≡ BadWords = sym (ap stop_of_kind memory) ∙ bad in absurd (cc)
    go [] (inr among) = absurd among

-- the sizes that the texts of matches give are those that the words mean
pub sizes_found : (words : List Text) (m : ArgMatches) (sizes : Option Sizes)
    → parsed_rows words ≡ Some (rows_of (found_of m))
    → sizes ≡ sizes_by (first_value (found_of m)) → option_and_then sizes_alone (given_of (drop 1 words)) ≡ sizes
sizes_found words m sizes e is =
    sym (parsed_rows-sizes words) ∙ ap sizes_read e
    ∙ (λ i. sizes_by (λ name. sym (first_value-rows (found_of m) name) i))
    ∙ sym is

-- and where there are no matches, the words mean none
pub sizes_missing : (words : List Text) → parsed_rows words ≡ None
    → option_and_then sizes_alone (given_of (drop 1 words)) ≡ None
sizes_missing words e = sym (parsed_rows-sizes words) ∙ ap sizes_read e
