-- What is given already can rule out sizes, or what a command asks for, whatever words follow.
use Rattle.std.proofs.Common.{◌≡◌, ◌∙◌, ℕ, ◌&&◌, ◌||◌, Bool, true, false, not, List, []}
use Rattle.std.proofs.Common.{◌∷◌, ◌++◌, Option, None, Some}
use Rattle.std.proofs.Common.{option_map, option_and_then, cond, find, bytes_eq, codes, refl, ap, ap₂, sym}
use Rattle.std.proofs.Common.{append-nil, append_assoc}
use Rattle.page_space.specs.declared.sizes.Sizes.{Sizes}
use Rattle.command_line.specs.Given.{Text, Setting, Given, Kind, valued, named, ends_options, plain, stray, kind_of}
use Rattle.command_line.specs.Given.{unless_any}
use Rattle.command_line.specs.Given.{given_after, given_by, with_setting, with_positional, is_option_name, is_set}
use Rattle.command_line.specs.Numbers.{number_or_default}
use Rattle.command_line.specs.Sizes.{sizes_alone, sizes_of, sizes_by, sizes_from, text_in}
use Rattle.command_line.specs.Sizes.{pages_limits, young_limits, helpers_limits}
use Rattle.command_line.proofs.ParserRules.{same_text, text_is_itself}

-- with more settings and more positional words
abbrev pub with_more : Given → List Setting → List Text → Given
with_more given settings words = record {
  settings = given.settings ++ settings;
  positional = given.positional ++ words;
}

-- the settings with one more
abbrev pub and_setting : List Setting → Text → Text → List Setting
and_setting settings name text = settings ++ record { name = name; text = text } ∷ []

-- what is judged of what is given: the sizes, or what a command asks for
module _ {X : Type 0} (judge : Given → Option X) where
  -- nothing comes of it, whatever more is given
  abbrev pub IsHopeless : Given → Type 0
  IsHopeless given = (settings : List Setting) (words : List Text) → judge (with_more given settings words) ≡ None

  -- nothing comes of it as it is
  hopeless_now : (given : Given) → IsHopeless given → judge given ≡ None
  hopeless_now given h =
      let alone = λ (all : List Setting) (words : List Text). judge (record { settings = all; positional = words }) in
      sym (ap₂ alone (append-nil given.settings) (append-nil given.positional)) ∙ h [] []

  -- one setting more does not help
  hopeless_setting : (given : Given) (name text : Text) → IsHopeless given
      → IsHopeless (record given { settings = and_setting given.settings name text })
  hopeless_setting given name text h settings words =
      let setting : Setting = record { name = name; text = text } in
      ap (λ all. judge (record { settings = all; positional = given.positional ++ words }))
      (append_assoc given.settings (setting ∷ []) settings) ∙ h (setting ∷ settings) words

  -- nor do positional words
  hopeless_words : (given : Given) (more : List Text) → IsHopeless given → IsHopeless (with_positional more given)
  hopeless_words given more h settings words =
      ap (λ all. judge (record { settings = given.settings ++ settings; positional = all }))
      (append_assoc given.positional more words) ∙ h settings (more ++ words)

  -- from here on nothing comes of what follows
  abbrev FailsOn : (Given → Option Given) → Type 0
  FailsOn next = (given : Given) → IsHopeless given → option_and_then judge (next given) ≡ None

  -- a setting, and what follows it
  fails_on_setting : (next : Given → Option Given) (name text : Text) (given : Given) → FailsOn next → IsHopeless given
      → option_and_then judge (option_and_then next (with_setting name text given)) ≡ None
  fails_on_setting next name text given rest h = go (is_option_name name && not (is_set name given.settings))
    where
      more : Given
      more = record given { settings = and_setting given.settings name text }

      go : (b : Bool) → option_and_then judge (option_and_then next (cond b (Some more) None)) ≡ None
      go true = rest more (hopeless_setting given name text h)
      go false = refl

  -- a word, and what follows it
  fails_on_kind : (given : Given) (word : Text) (words : List Text) (kind : Kind)
      (next : Given → Option Text → Option Given)
      → ((awaited : Option Text) → FailsOn (λ more. next more awaited)) → IsHopeless given
      → option_and_then judge (given_by given word words kind next) ≡ None
  fails_on_kind given word words (valued name text) next rest h =
      fails_on_setting (λ more. next more None) name text given (rest None) h
  fails_on_kind given word words (named name) next rest h = rest (Some name) given h
  fails_on_kind given word words ends_options next rest h =
      hopeless_now (with_positional words given) (hopeless_words given words h)
  fails_on_kind given word words plain next rest h =
      rest None (with_positional (word ∷ []) given) (hopeless_words given (word ∷ []) h)
  fails_on_kind given word words stray next rest h = refl

  -- nothing comes of the words that follow
  pub hopeless_after : (words : List Text) (awaited : Option Text) → FailsOn (λ given. given_after given awaited words)
  hopeless_after [] None given h = hopeless_now given h
  hopeless_after [] (Some name) given h = refl
  hopeless_after (word ∷ words) None given h =
      fails_on_kind given word words (kind_of word) (λ more awaited. given_after more awaited words)
      (hopeless_after words) h
  hopeless_after (word ∷ words) (Some name) given h =
      fails_on_setting (λ more. given_after more None words) name word given (hopeless_after words None) h

-- a positional word rules out sizes
pub positional_is_hopeless : (given : Given) (word : Text) (words : List Text) → given.positional ≡ word ∷ words
    → IsHopeless sizes_alone given
positional_is_hopeless given word words e settings more =
    ap (λ all. unless_any (all ++ more) (sizes_of (given.settings ++ settings))) e

-- the text of an option is that of its first setting
text_in-first : (settings more : List Setting) (name text : Text) → is_set name settings ≡ false
    → text_in (and_setting settings name text ++ more) name ≡ Some text
text_in-first [] more name text new = rw (text_is_itself name) refl
text_in-first (setting ∷ settings) more name text new =
    go (bytes_eq setting.name name) new (text_in-first settings more name text)
  where
    rest : List Setting
    rest = and_setting settings name text ++ more

    go : (b : Bool) → (b || is_set name settings) ≡ false
        → (is_set name settings ≡ false → text_in rest name ≡ Some text)
        → option_map (λ (s : Setting). s.text)
        (cond b (Some setting) (find (λ (s : Setting). bytes_eq s.name name) rest))
        ≡ Some text
    go true e later = cc
    go false e later = later e

-- an option has one of three names
data IsName (name : Text) : Type 0 where
  pages : codes "pages" ≡ name → IsName name
  young : codes "young" ≡ name → IsName name
  helpers : codes "helpers" ≡ name → IsName name

-- which one it has
name_cases : (name : Text) → is_option_name name ≡ true → IsName name
name_cases name e = go (bytes_eq (codes "pages") name) (bytes_eq (codes "young") name) (bytes_eq (codes "helpers") name)
    (same_text (codes "pages") name) (same_text (codes "young") name) (same_text (codes "helpers") name) e
  where
    go : (p y h : Bool) → (p ≡ true → codes "pages" ≡ name) → (y ≡ true → codes "young" ≡ name)
        → (h ≡ true → codes "helpers" ≡ name)
        → (p || (y || (h || false))) ≡ true → IsName name
    go true y h is_pages is_young is_helpers e = pages (is_pages refl)
    go false true h is_pages is_young is_helpers e = young (is_young refl)
    go false false true is_pages is_young is_helpers e = helpers (is_helpers refl)
    go false false false is_pages is_young is_helpers e = cc

-- without the second number there are no sizes
no_young : (a c : Option ℕ) → sizes_from a None c ≡ None
no_young None c = refl
no_young (Some a) c = refl

-- nor without the third
no_helpers : (a b : Option ℕ) → sizes_from a b None ≡ None
no_helpers None b = refl
no_helpers (Some a) None = refl
no_helpers (Some a) (Some b) = refl

-- a text with a hyphen first is no number, so no sizes come of it
hyphen_gives_none : (text_of : Text → Option Text) (name rest : Text) → is_option_name name ≡ true
    → text_of name ≡ Some (45 ∷ rest) → sizes_by text_of ≡ None
hyphen_gives_none text_of name rest known is =
    let pages_number : Option ℕ = number_or_default pages_limits (text_of (codes "pages")) in
    let young_number : Option ℕ = number_or_default young_limits (text_of (codes "young")) in
    let helpers_number : Option ℕ = number_or_default helpers_limits (text_of (codes "helpers")) in
    elim (name_cases name known) [
      | pages e ↦ ap (λ t. sizes_from (number_or_default pages_limits t) young_number
          helpers_number) (ap text_of e ∙ is)
      | young e ↦ ap (λ t. sizes_from pages_number (number_or_default young_limits t)
          helpers_number) (ap text_of e ∙ is)
          ∙ no_young pages_number helpers_number
      | helpers e ↦ ap (λ t. sizes_from pages_number young_number
          (number_or_default helpers_limits t)) (ap text_of e ∙ is)
          ∙ no_helpers pages_number young_number
    ]

-- sizes that are none stay none
no_sizes : (words : List Text) (sizes : Option Sizes) → sizes ≡ None → unless_any words sizes ≡ None
no_sizes [] sizes e = e
no_sizes (word ∷ words) sizes e = refl

-- a value with a hyphen first rules out sizes
pub hyphen_is_hopeless : (given : Given) (name text rest : Text) → is_option_name name ≡ true
    → is_set name given.settings ≡ false
    → text ≡ 45 ∷ rest → IsHopeless sizes_alone (record given { settings = and_setting given.settings name text })
hyphen_is_hopeless given name text rest known new e settings words =
    no_sizes _ _ (hyphen_gives_none (text_in (and_setting given.settings name text ++ settings)) name rest known
    (text_in-first given.settings settings name text new ∙ ap (λ t. Some t) e))
