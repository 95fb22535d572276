-- What the words of `gen` ask for, word by word.
use Rattle.std.proofs.Common.{◌≡◌, ◌∙◌, ℕ, ◌-◌, ◌^◌, ◌<◌, ◌≤◌, Bool, true, false, ◌&&◌, List, [], ◌∷◌, ◌++◌, length}
use Rattle.std.proofs.Common.{get_or, map}
use Rattle.std.proofs.Common.{Option, Some, None, option_and_then, option_map, cond, bytes_eq, refl, sym, ap}
use Rattle.std.proofs.Common.{ap₂, arith}
use Rattle.command_line.specs.declared.invocation.Invocation.{Invocation}
use Rattle.command_line.specs.declared.invocation.Invocation.TheVariants.{Gen}
use Rattle.command_line.specs.Given.{Text, Setting, Given, Kind}
use Rattle.command_line.specs.Given.{given_by, given_after, given_of, with_setting, is_option_name}
use Rattle.command_line.specs.Numbers.{number_in}
use Rattle.command_line.specs.Invocations.{gen, plan_from, invocation_by}
use Rattle.command_line.specs.Plans.{asked_of_two, asked_of_three}
use Rattle.command_line.proofs.Hopeless.{IsHopeless, hopeless_after}
use Rattle.command_line.proofs.WordKinds.{two_hyphens, attached_kind, dashes, option, hyphen}
use Rattle.command_line.proofs.WordKinds.{other, seen}

-- what `gen` asks for with this given
abbrev judged : Given → Option Invocation
judged given = invocation_by gen given

-- only positional words are given
abbrev only_words : List Text → Given
only_words words = record { settings = []; positional = words }

-- what `gen` asks for where these words were given and these follow
abbrev asked_after : List Text → List Text → Option Invocation
asked_after before words = option_and_then judged (given_after (only_words before) None words)

-- an option rules it out
option_is_hopeless : (setting : Setting) (words : List Text)
    → IsHopeless judged (record { settings = setting ∷ []; positional = words })
option_is_hopeless setting words more others = refl

-- so do three positional words
three_are_hopeless : (a b c : Text) → IsHopeless judged (only_words (a ∷ b ∷ c ∷ []))
three_are_hopeless a b c [] words = refl
three_are_hopeless a b c (setting ∷ settings) words = refl

-- nothing comes of a setting, whatever follows it
setting_is_hopeless : (before : List Text) (name text : Text) (words : List Text)
    → option_and_then judged
    (option_and_then (λ given. given_after given None words) (with_setting name text (only_words before)))
    ≡ None
setting_is_hopeless before name text words = go (is_option_name name)
  where
    setting : Setting
    setting = record { name = name; text = text }

    go : (known : Bool) → option_and_then judged
        (option_and_then (λ given. given_after given None words)
        (cond (known && true) (Some (record { settings = setting ∷ []; positional = before })) None)) ≡ None
    go true =
        hopeless_after judged words None (record { settings = setting ∷ []; positional = before })
        (option_is_hopeless setting before)
    go false = refl

-- What a word is: `--`; a word with a hyphen first, of which nothing comes; or a positional word.
data IsPlace (word : Text) : Type 0 where
  ends : word ≡ two_hyphens → IsPlace word
  rules_out : (rest : Text) → word ≡ 45 ∷ rest → bytes_eq word two_hyphens ≡ false
      → ((before words : List Text) → asked_after before (word ∷ words) ≡ None) → IsPlace word
  stands : bytes_eq word two_hyphens ≡ false
      → ((before words : List Text) → asked_after before (word ∷ words) ≡ asked_after (before ++ word ∷ []) words)
      → IsPlace word

-- what `gen` asks for where these words were given, by the kind of the next
abbrev asked_by_kind : List Text → Text → List Text → Kind → Option Invocation
asked_by_kind before word words kind =
    option_and_then judged
    (given_by (only_words before) word words kind (λ more awaited. given_after more awaited words))

-- nothing comes of an option
option_rules_out : (before : List Text) (word name : Text) (v : Option Text) (words : List Text)
    → asked_by_kind before word words (attached_kind name v) ≡ None
option_rules_out before word name None [] = refl
option_rules_out before word name None (text ∷ words) = setting_is_hopeless before name text words
option_rules_out before word name (Some text) words = setting_is_hopeless before name text words

-- each word is one of these
place : (word : Text) → IsPlace word
place word = elim (seen word) [
  | dashes e kind ↦ ends e
  | option begin name v begins is kind ↦ rules_out begin begins is.no_dashes (λ before words.
      ap (asked_by_kind before word words) kind ∙ option_rules_out before word name v words)
  | hyphen begin begins is kind ↦ rules_out begin begins is.no_dashes (λ before words.
      ap (asked_by_kind before word words) kind)
  | other is short kind ↦ stands is.no_dashes (λ before words. ap (asked_by_kind before word words) kind)
]

-- a word with a hyphen first is no seed
no_seed : (rest forms : Text) → asked_of_two (45 ∷ rest) forms ≡ None
no_seed rest forms = refl

-- and no number of forms
no_forms : (seed rest : Text) → asked_of_two seed (45 ∷ rest) ≡ None
no_forms seed rest = go (number_in 0 (2 ^ 64 - 1) seed)
  where
    go : (n : Option ℕ) → option_map (λ plan. Gen plan.seed plan.forms) (plan_from n None) ≡ None
    go None = refl
    go (Some n) = refl

-- one word asks for nothing
one_asks : (a : Text) → asked_after [] (a ∷ []) ≡ None
one_asks a = elim (place a) [
  | ends e ↦ ap (λ w. asked_after [] (w ∷ [])) e
  | rules_out rest e ne out ↦ out [] []
  | stands ne step ↦ step [] []
]

-- a second word, behind a positional one
second_asks : (a b : Text) → asked_after (a ∷ []) (b ∷ []) ≡ asked_of_two a b
second_asks a b = elim (place b) [
  | ends e ↦ ap (λ w. asked_after (a ∷ []) (w ∷ [])) e ∙ sym (ap (asked_of_two a) e ∙ no_forms a (45 ∷ []))
  | rules_out rest e ne out ↦ out (a ∷ []) [] ∙ sym (ap (asked_of_two a) e ∙ no_forms a rest)
  | stands ne step ↦ step (a ∷ []) []
]

-- two words ask for the script of a seed
two_ask : (a b : Text) → asked_after [] (a ∷ b ∷ []) ≡ asked_of_two a b
two_ask a b = elim (place a) [
  | ends e ↦ ap (λ w. asked_after [] (w ∷ b ∷ [])) e ∙ sym (ap (λ w. asked_of_two w b) e ∙ no_seed (45 ∷ []) b)
  | rules_out rest e ne out ↦ out [] (b ∷ []) ∙ sym (ap (λ w. asked_of_two w b) e ∙ no_seed rest b)
  | stands ne step ↦ step [] (b ∷ []) ∙ second_asks a b
]

-- what three words ask for, by which of them is `--`
abbrev chosen : Text → Text → Text → Bool → Bool → Bool → Option Invocation
chosen a b c x y z =
    cond x (asked_of_two b c) (cond y (asked_of_two a c) (cond z (asked_of_two a b) None))

-- a third word, behind two positional ones
third_asks : (a b c : Text)
    → asked_after (a ∷ b ∷ []) (c ∷ []) ≡ chosen a b c false false (bytes_eq c two_hyphens)
third_asks a b c = elim (place c) [
  | ends e ↦ ap (λ w. asked_after (a ∷ b ∷ []) (w ∷ [])) e
      ∙ sym (ap (λ w. chosen a b c false false (bytes_eq w two_hyphens)) e)
  | rules_out rest e ne out ↦ out (a ∷ b ∷ []) [] ∙ sym (ap (chosen a b c false false) ne)
  | stands ne step ↦ step (a ∷ b ∷ []) [] ∙ sym (ap (chosen a b c false false) ne)
]

-- nothing comes of either
neither : (x y : Bool) (p q : Option Invocation) → p ≡ None → q ≡ None → cond x p (cond y q None) ≡ None
neither true y p q e f = e
neither false true p q e f = f
neither false false p q e f = refl

-- two words behind a positional one
others_ask : (a b c : Text)
    → asked_after (a ∷ []) (b ∷ c ∷ []) ≡ chosen a b c false (bytes_eq b two_hyphens) (bytes_eq c two_hyphens)
others_ask a b c =
    let t = bytes_eq c two_hyphens in
    elim (place b) [
      | ends e ↦ ap (λ w. asked_after (a ∷ []) (w ∷ c ∷ [])) e
          ∙ sym (ap (λ w. chosen a b c false (bytes_eq w two_hyphens) t) e)
      | rules_out rest e ne out ↦ out (a ∷ []) (c ∷ []) ∙ sym (ap (λ y. chosen a b c false y t) ne
          ∙ neither false t None (asked_of_two a b) refl (ap (asked_of_two a) e ∙ no_forms a rest))
      | stands ne step ↦ step (a ∷ []) (c ∷ []) ∙ third_asks a b c ∙ sym (ap (λ y. chosen a b c false y t) ne)
    ]

-- three words ask for one where one of them is `--`
three_ask : (a b c : Text) → asked_after [] (a ∷ b ∷ c ∷ []) ≡ asked_of_three a b c
three_ask a b c =
    let u = bytes_eq b two_hyphens in
    let t = bytes_eq c two_hyphens in
    elim (place a) [
      | ends e ↦ ap (λ w. asked_after [] (w ∷ b ∷ c ∷ [])) e ∙ sym (ap (λ w. asked_of_three w b c) e)
      | rules_out rest e ne out ↦ out [] (b ∷ c ∷ []) ∙ sym (ap (λ x. chosen a b c x u t) ne
          ∙ neither u t (asked_of_two a c) (asked_of_two a b) (ap (λ w. asked_of_two w c) e ∙ no_seed rest c)
          (ap (λ w. asked_of_two w b) e ∙ no_seed rest b))
      | stands ne step ↦ step [] (b ∷ c ∷ []) ∙ others_ask a b c ∙ sym (ap (λ x. chosen a b c x u t) ne)
    ]

-- more words ask for nothing
many_ask : (a b c d : Text) (words : List Text) → asked_after [] (a ∷ b ∷ c ∷ d ∷ words) ≡ None
many_ask a b c d words = elim (place a) [
  | ends e ↦ ap (λ w. asked_after [] (w ∷ b ∷ c ∷ d ∷ words)) e
  | rules_out rest e ne out ↦ out [] (b ∷ c ∷ d ∷ words)
  | stands ne step ↦ step [] (b ∷ c ∷ d ∷ words) ∙ elim (place b) [
    | ends e ↦ ap (λ w. asked_after (a ∷ []) (w ∷ c ∷ d ∷ words)) e
    | rules_out rest e ne out ↦ out (a ∷ []) (c ∷ d ∷ words)
    | stands ne step ↦ step (a ∷ []) (c ∷ d ∷ words) ∙ elim (place c) [
      | ends e ↦ ap (λ w. asked_after (a ∷ b ∷ []) (w ∷ d ∷ words)) e
      | rules_out rest e ne out ↦ out (a ∷ b ∷ []) (d ∷ words)
      | stands ne step ↦ step (a ∷ b ∷ []) (d ∷ words)
          ∙ hopeless_after judged (d ∷ words) None (only_words (a ∷ b ∷ c ∷ [])) (three_are_hopeless a b c)
    ]
  ]
]

-- what words of some kind ask for, with their bytes
abbrev asked_of : {A : Type 0} → (A → Text) → List A → Option Invocation
asked_of text_of words = option_and_then judged (given_of (map text_of words))

-- a list of two
pub asked_of-two : {A : Type 0} (text_of : A → Text) (words : List A) (x y : A) → 2 ≤ length words → length words < 3
    → x ≡ get_or words 0 x → y ≡ get_or words 1 y → asked_of_two (text_of x) (text_of y) ≡ asked_of text_of words
asked_of-two text_of [] x y least most e f = absurd (omega arith)
asked_of-two text_of (a ∷ []) x y least most e f = absurd (omega arith)
asked_of-two text_of (a ∷ b ∷ []) x y least most e f =
    ap₂ (λ v w. asked_of_two (text_of v) (text_of w)) e f ∙ sym (two_ask (text_of a) (text_of b))
asked_of-two text_of (a ∷ b ∷ c ∷ words) x y least most e f = absurd (omega arith)

-- a list of three
pub asked_of-three : {A : Type 0} (text_of : A → Text) (words : List A) (x y z : A) → 3 ≤ length words
    → length words < 4 → x ≡ get_or words 0 x → y ≡ get_or words 1 y → z ≡ get_or words 2 z
    → asked_of_three (text_of x) (text_of y) (text_of z) ≡ asked_of text_of words
asked_of-three text_of [] x y z least most e f g = absurd (omega arith)
asked_of-three text_of (a ∷ []) x y z least most e f g = absurd (omega arith)
asked_of-three text_of (a ∷ b ∷ []) x y z least most e f g = absurd (omega arith)
asked_of-three text_of (a ∷ b ∷ c ∷ []) x y z least most e f g =
    ap₂ (λ v w. asked_of_three (text_of v) (text_of w) (text_of z)) e f
    ∙ ap (λ w. asked_of_three (text_of a) (text_of b) (text_of w)) g
    ∙ sym (three_ask (text_of a) (text_of b) (text_of c))
asked_of-three text_of (a ∷ b ∷ c ∷ d ∷ words) x y z least most e f g = absurd (omega arith)

-- a shorter list
pub asked_of-few : {A : Type 0} (text_of : A → Text) (words : List A) → length words < 2
    → None ≡ asked_of text_of words
asked_of-few text_of [] few = refl
asked_of-few text_of (a ∷ []) few = sym (one_asks (text_of a))
asked_of-few text_of (a ∷ b ∷ words) few = absurd (omega arith)

-- a longer one
pub asked_of-many : {A : Type 0} (text_of : A → Text) (words : List A) → 4 ≤ length words
    → None ≡ asked_of text_of words
asked_of-many text_of [] many = absurd (omega arith)
asked_of-many text_of (a ∷ []) many = absurd (omega arith)
asked_of-many text_of (a ∷ b ∷ []) many = absurd (omega arith)
asked_of-many text_of (a ∷ b ∷ c ∷ []) many = absurd (omega arith)
asked_of-many text_of (a ∷ b ∷ c ∷ d ∷ words) many =
    sym (many_ask (text_of a) (text_of b) (text_of c) (text_of d) (map text_of words))
