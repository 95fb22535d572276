-- What the parser of options has: its rules, and what it finds by a name.
use Rattle.std.proofs.Common.{◌≡◌, ◌∙◌, ℕ, ◌==◌, ◌&&◌, ◌||◌, not, is_some, Bool, true, false}
use Rattle.std.proofs.Common.{List, [], ◌∷◌, map, None}
use Rattle.std.proofs.Common.{Some, cond, find}
use Rattle.std.proofs.Common.{bytes_eq, refl, ap}
use Rattle.std.specs.List.{list_any}
use Rattle.std.specs.Option.{option_map_or}
use Rattle.std.proofs.lemmas.Slice.Eq.{bytes_eq-Decides}
use Rattle.clap.specs.Walk.{Rule, Text, arg_by_id, arg_by_index, arg_by_long, arg_by_short, has_long, has_short}
use Rattle.clap.specs.Simple.{Shape, built, filled}
use Rattle.command_line.specs.Given.{is_option_name, option_names}
use Rattle.command_line.specs.Parser.{option_rule, parser}

-- an option's rule once the parser is built
abbrev pub built_rule : Text → Rule
built_rule name = filled (option_rule name)

-- the parser, built
unfoldable pub top : Shape
top = (built parser).top

-- it has the rules of the options
pub top-rules : top.rules ≡ map built_rule option_names
unfolding top
top-rules = refl

-- a second use of an option does not replace the first
pub top-again : top.args_override_self ≡ false
unfolding top
top-again = refl

-- it has no subcommand
pub top-leaf : top.is_leaf ≡ true
unfolding top
top-leaf = refl

-- two texts with the same bytes are one
pub same_text : (a b : Text) → bytes_eq a b ≡ true → a ≡ b
same_text a b = (bytes_eq-Decides a b).0

-- a text has its own bytes
pub text_is_itself : (a : Text) → bytes_eq a a ≡ true
text_is_itself a = (bytes_eq-Decides a a).1 refl

-- a search for the rule of this name finds it where it is one of the names
found_among : (p : Rule → Bool) (name : Text) → ((known : Text) → p (built_rule known) ≡ bytes_eq known name)
    → (names : List Text)
    → find p (map built_rule names) ≡ cond (list_any (λ known. bytes_eq known name) names) (Some (built_rule name)) None
found_among p name tells [] = refl
found_among p name tells (known ∷ names) =
    ap (λ t. cond t (Some (built_rule known)) (find p (map built_rule names))) (tells known)
    ∙ go (bytes_eq known name) (same_text known name) (found_among p name tells names)
  where
    go : (t : Bool) → (t ≡ true → known ≡ name)
        → find p (map built_rule names) ≡ cond (list_any (λ k. bytes_eq k name) names) (Some (built_rule name)) None
        → cond t (Some (built_rule known)) (find p (map built_rule names))
        ≡ cond (t || list_any (λ k. bytes_eq k name) names) (Some (built_rule name)) None
    go true same rest = ap (λ n. Some (built_rule n)) (same refl)
    go false same rest = rest

-- a search that no option's rule passes finds nothing
none_among : (p : Rule → Bool) → ((known : Text) → p (built_rule known) ≡ false) → (names : List Text)
    → find p (map built_rule names) ≡ None
none_among p fails [] = refl
none_among p fails (known ∷ names) =
    ap (λ t. cond t (Some (built_rule known)) (find p (map built_rule names))) (fails known) ∙ none_among p fails names

-- nothing more than the test
or_false : (t : Bool) → (t || false) ≡ t
or_false true = refl
or_false false = refl

-- the test by which the parser finds a long name, and the one for a short name
abbrev has_name : Text → Rule → Bool
has_name name rule = not (is_some rule.index) && has_long rule name

-- whether the rule is of an option with this letter
abbrev has_letter : ℕ → Rule → Bool
has_letter x rule = not (is_some rule.index) && has_short rule x

-- what the parser finds by a long name
pub by_long : (name : Text) → arg_by_long top.rules name ≡ cond (is_option_name name) (Some (built_rule name)) None
by_long name = ap (λ rules. arg_by_long rules name) top-rules
    ∙ found_among (has_name name) name (λ known. or_false (bytes_eq known name)) option_names

-- what it finds by an id
pub by_id : (name : Text) → arg_by_id top.rules name ≡ cond (is_option_name name) (Some (built_rule name)) None
by_id name = ap (λ rules. arg_by_id rules name) top-rules
    ∙ found_among (λ rule. bytes_eq rule.id name) name (λ known. refl) option_names

-- no option is short
pub no_short : (x : ℕ) → arg_by_short top.rules x ≡ None
no_short x = ap (λ rules. arg_by_short rules x) top-rules ∙ none_among (has_letter x) (λ known. refl) option_names

-- no argument stands at a place
pub no_place : (i : ℕ) → arg_by_index top.rules i ≡ None
no_place i = ap (λ rules. arg_by_index rules i) top-rules
    ∙ none_among (λ rule. option_map_or (λ k. k == i) rule.index false) (λ known. refl) option_names
