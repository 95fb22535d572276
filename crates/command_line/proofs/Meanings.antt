-- What the definition makes of a setting, and of a word.
use Rattle.std.proofs.Common.{◌≡◌, ◌∙◌, Bool, true, false, List, [], ◌∷◌, Option, None, Some}
use Rattle.std.proofs.Common.{option_and_then, refl, ap}
use Rattle.page_space.specs.declared.sizes.Sizes.{Sizes}
use Rattle.command_line.specs.Given.{Text, Setting, Given, Kind, kind_of, given_after, given_by, with_setting}
use Rattle.command_line.specs.Given.{is_option_name, is_set}
use Rattle.command_line.specs.Sizes.{sizes_alone}
use Rattle.command_line.proofs.Hopeless.{and_setting, hopeless_after, hyphen_is_hopeless}

-- only settings of options are given
abbrev pub only : List Setting → Given
only settings = record { settings = settings; positional = [] }

-- the sizes that words mean after these settings, where a name may await its value
abbrev pub sizes_meant : List Setting → Option Text → List Text → Option Sizes
sizes_meant settings awaited words = option_and_then sizes_alone (given_after (only settings) awaited words)

-- there is no setting of another name
unknown_setting : (name text : Text) (settings : List Setting) → is_option_name name ≡ false
    → with_setting name text (only settings) ≡ None
unknown_setting name text settings unknown = rw unknown refl

-- there is no second setting of an option
second_setting : (name text : Text) (settings : List Setting) → is_option_name name ≡ true → is_set name settings ≡ true
    → with_setting name text (only settings) ≡ None
second_setting name text settings known twice = rw (known, twice) refl

-- the first setting of an option is given
first_setting : (name text : Text) (settings : List Setting) → is_option_name name ≡ true → is_set name settings ≡ false
    → with_setting name text (only settings) ≡ Some (only (and_setting settings name text))
first_setting name text settings known new = rw (known, new) refl

-- a setting leads on as far as it is one
setting_means : (name text : Text) (settings : List Setting) (words : List Text) (more : Option Given)
    → with_setting name text (only settings) ≡ more
    → sizes_meant settings (Some name) (text ∷ words)
    ≡ option_and_then sizes_alone (option_and_then (λ given. given_after given None words) more)
setting_means name text settings words more e =
    ap (λ o. option_and_then sizes_alone (option_and_then (λ given. given_after given None words) o)) e

-- the first setting of an option leads on
pub first_means : (name text : Text) (settings : List Setting) (words : List Text) → is_option_name name ≡ true
    → is_set name settings ≡ false
    → sizes_meant settings (Some name) (text ∷ words) ≡ sizes_meant (and_setting settings name text) None words
first_means name text settings words known new =
    setting_means name text settings words (Some (only (and_setting settings name text)))
    (first_setting name text settings known new)

-- a second one means nothing
pub second_means_none : (name text : Text) (settings : List Setting) (words : List Text) → is_option_name name ≡ true
    → is_set name settings ≡ true
    → sizes_meant settings (Some name) (text ∷ words) ≡ None
second_means_none name text settings words known twice =
    setting_means name text settings words None (second_setting name text settings known twice)

-- nor does a name that no option has
pub unknown_means_none : (name : Text) (settings : List Setting) (words : List Text) → is_option_name name ≡ false
    → sizes_meant settings (Some name) words ≡ None
unknown_means_none name settings [] unknown = refl
unknown_means_none name settings (word ∷ words) unknown =
    setting_means name word settings words None (unknown_setting name word settings unknown)

-- nor does a value with a hyphen first
pub hyphen_means_none : (name word rest : Text) (settings : List Setting) (words : List Text)
    → is_option_name name ≡ true → word ≡ 45 ∷ rest
    → sizes_meant settings (Some name) (word ∷ words) ≡ None
hyphen_means_none name word rest settings words known begins = by_setting (is_set name settings) refl
  where
    by_setting : (b : Bool) → is_set name settings ≡ b → sizes_meant settings (Some name) (word ∷ words) ≡ None
    by_setting true twice = second_means_none name word settings words known twice
    by_setting false new = first_means name word settings words known new
        ∙ hopeless_after sizes_alone words None (only (and_setting settings name word))
        (hyphen_is_hopeless (only settings) name word rest known new begins)

-- what is meant by a word of this kind, with the words after it
abbrev pub kind_meant : List Setting → Text → List Text → Kind → Option Sizes
kind_meant settings word words kind =
    option_and_then sizes_alone
    (given_by (only settings) word words kind (λ more awaited. given_after more awaited words))

-- a word means what its kind does
pub kind_means : (settings : List Setting) (word : Text) (words : List Text) (kind : Kind) → kind_of word ≡ kind
    → sizes_meant settings None (word ∷ words) ≡ kind_meant settings word words kind
kind_means settings word words kind e = ap (kind_meant settings word words) e
