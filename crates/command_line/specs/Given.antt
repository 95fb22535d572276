-- What stands in a command line after its command: the texts of the options, and the positional words.
use Rattle.std.specs.Prelude.{ℕ, Bool, not, ◌&&◌, ◌==◌, List, [], ◌∷◌, ◌++◌, Option, Some, None}
use Rattle.std.specs.Prelude.{option_and_then, drop, nat_eq}
use Rattle.std.specs.Prelude.{codes, bytes_eq, if◌then◌else◌}
use Rattle.std.specs.List.{list_any, starts_with, before_first, after_first}

-- a text, or a word, is the list of its bytes
abbrev pub Text : Type 0
Text = List ℕ

-- an option's name, and the text that the words give it
pub record Setting : Type 0 where
  pub name : Text
  pub text : Text

-- the settings of the options and the positional words, each in their order
pub record Given : Type 0 where
  pub settings : List Setting
  pub positional : List Text

-- this, unless something stands in the list
abbrev pub unless_any : {A B : Type 0} → List A → Option B → Option B
unless_any [] found = found
unless_any (some ∷ more) found = None

-- the names of the options
abbrev pub option_names : List Text
option_names = codes "pages" ∷ codes "young" ∷ codes "helpers" ∷ []

-- an option has this name
abbrev pub is_option_name : Text → Bool
is_option_name name = list_any (λ known. bytes_eq known name) option_names

-- the settings have one of this name
abbrev pub is_set : Text → List Setting → Bool
is_set name settings = list_any (λ setting. bytes_eq setting.name name) settings

-- One setting more. No option is set twice, and there is none of another name.
abbrev pub with_setting : Text → Text → Given → Option Given
with_setting name text given =
    if is_option_name name && not (is_set name given.settings)
    then Some (record given { settings = given.settings ++ record { name = name; text = text } ∷ [] }) else None

-- more positional words
abbrev pub with_positional : List Text → Given → Given
with_positional words given = record given { positional = given.positional ++ words }

-- What a word is where no value is awaited: `--name=value`; `--name`, after which a value is awaited; `--`; a
-- positional word; or another word with a hyphen first.
pub data Kind : Type 0 where
  valued : Text → Text → Kind
  named : Text → Kind
  ends_options : Kind
  plain : Kind
  stray : Kind

-- `=`
abbrev pub is_equals_sign : ℕ → Bool
is_equals_sign b = b == 61

-- the kind of an option's word, from what follows its two hyphens
abbrev pub option_kind : Text → Kind
option_kind word =
    if list_any is_equals_sign word then valued (before_first is_equals_sign word) (after_first is_equals_sign word)
    else named word

-- the kind of a word
abbrev pub kind_of : Text → Kind
kind_of word =
    if bytes_eq word (codes "--") then ends_options
    else (if starts_with nat_eq word (codes "--") then option_kind (drop 2 word)
    else (if starts_with nat_eq word (codes "-") then stray else plain))

-- What a word of this kind gives, with the words after it. `next` reads those words, from what is given by now and the
-- name, if any, that awaits its value.
abbrev pub given_by : Given → Text → List Text → Kind → (Given → Option Text → Option Given) → Option Given
given_by given word words (valued name text) next =
    option_and_then (λ more. next more None) (with_setting name text given)
given_by given word words (named name) next = next given (Some name)
given_by given word words ends_options next = Some (with_positional words given)
given_by given word words plain next = next (with_positional (word ∷ []) given) None
given_by given word words stray next = None

-- What is given by the end of these words, where this was given before them and this name, if any, awaits its value;
-- nothing where a word is refused.
abbrev pub given_after : Given → Option Text → List Text → Option Given
given_after given None [] = Some given
given_after given (Some name) [] = None
given_after given None (word ∷ words) =
    given_by given word words (kind_of word) (λ more awaited. given_after more awaited words)
given_after given (Some name) (word ∷ words) =
    option_and_then (λ more. given_after more None words) (with_setting name word given)

-- what the words after the command give; nothing is given before the first of them
abbrev pub given_of : List Text → Option Given
given_of words = given_after (record { settings = []; positional = [] }) None words
