-- The parts of words ask `soak` for what the words ask for.
use Rattle.std.proofs.Common.{◌≡◌, ◌∙◌, Bool, true, false, not, ◌&&◌, List, [], ◌∷◌, ◌++◌, drop, Option, Some, None}
use Rattle.std.proofs.Common.{Result, Err, IfOk, option_map, option_and_then, cond, refl, subst, sym, ap, ap₂}
use Rattle.std.proofs.Common.{append-nil, append_assoc}
use Rattle.std.specs.Option.{ok_or}
use Rattle.page_space.specs.declared.sizes.Sizes.{Sizes}
use Rattle.command_line.specs.declared.invocation.Invocation.{Invocation}
use Rattle.command_line.specs.declared.invocation.Invocation.TheVariants.{Soak}
use Rattle.command_line.specs.declared.invocation.WordsStop.{WordsStop}
use Rattle.command_line.specs.declared.invocation.WordsStop.TheVariants.{BadWords}
use Rattle.command_line.specs.declared.parting.Expected.{Expected}
use Rattle.command_line.specs.declared.parting.Expected.TheVariants.{AnyWord, Value, PositionalWord}
use Rattle.command_line.specs.Given.{Text, Setting, Kind, valued, named, ends_options, plain, stray, kind_of}
use Rattle.command_line.specs.Given.{given_after, given_by, given_of, with_setting, is_option_name, is_set}
use Rattle.command_line.specs.Sizes.{sizes_alone}
use Rattle.command_line.specs.Invocations.{soak, plan_of, invocation_by}
use Rattle.command_line.specs.Parted.{Parted, part_of_kind, parted_by, parts_of}
use Rattle.command_line.proofs.Hopeless.{and_setting}
use Rattle.command_line.proofs.Meanings.{only, sizes_meant, kind_means}

-- parts, with other ones behind them
abbrev pub with_behind : List Text → List Text → Parted → Parted
with_behind options positional rest = record {
  options = options ++ rest.options;
  positional = positional ++ rest.positional;
}

-- what `soak` asks for with these sizes and positional words
abbrev pub soaked : Option Sizes → List Text → Option Invocation
soaked sizes positional =
    option_and_then (λ found. option_map (λ plan. Soak found plan.seed plan.forms) (plan_of positional)) sizes

-- what it asks for where this was given, and these words follow
abbrev asked_after : List Setting → List Text → Option Text → List Text → Option Invocation
asked_after settings before awaited words =
    option_and_then (invocation_by soak)
    (given_after (record { settings = settings; positional = before }) awaited words)

-- the same by the parts of the words
abbrev asked_by_parts : List Setting → List Text → Option Text → Parted → Option Invocation
asked_by_parts settings before awaited parts =
    soaked (sizes_meant settings awaited parts.options) (before ++ parts.positional)

-- what is expected of a word, where a name may await its value
abbrev expected_by : Option Text → Expected
expected_by None = AnyWord
expected_by (Some name) = Value

-- where only positional words are expected, all are
all_positional : (words : List Text) → parts_of PositionalWord words ≡ record { options = []; positional = words }
all_positional [] = refl
all_positional (word ∷ words) =
    ap {B = Parted} (λ (parts : Parted). record parts { positional = word ∷ parts.positional }) (all_positional words)

-- a word of some kind, before words whose parts ask for what they ask for
abbrev AgreesAt : List Setting → List Text → Text → List Text → Kind → Type 0
AgreesAt settings before word words kind =
    option_and_then (invocation_by soak) (given_by (record { settings = settings; positional = before }) word words kind
    (λ more awaited. given_after more awaited words))
    ≡ asked_by_parts settings before None (parted_by word (part_of_kind kind) (λ then. parts_of then words))

-- the parts of these words ask for what they ask for
abbrev Agrees : List Text → Type 0
Agrees words = (settings : List Setting) (before : List Text) (awaited : Option Text)
    → asked_after settings before awaited words
    ≡ asked_by_parts settings before awaited (parts_of (expected_by awaited) words)

-- a setting, and words whose parts agree
setting_agrees : (settings : List Setting) (before : List Text) (name text : Text) (words : List Text) → Agrees words
    → option_and_then (invocation_by soak) (option_and_then (λ more. given_after more None words)
    (with_setting name text (record { settings = settings; positional = before })))
    ≡ soaked (option_and_then sizes_alone (option_and_then
    (λ more. given_after more None (parts_of AnyWord words).options) (with_setting name text (only settings))))
    (before ++ (parts_of AnyWord words).positional)
setting_agrees settings before name text words rest = go (is_option_name name && not (is_set name settings))
  where
    more : List Setting
    more = and_setting settings name text

    go : (b : Bool) → option_and_then (invocation_by soak) (option_and_then (λ given. given_after given None words)
        (cond b (Some (record { settings = more; positional = before })) None))
        ≡ soaked (option_and_then sizes_alone (option_and_then
        (λ given. given_after given None (parts_of AnyWord words).options) (cond b (Some (only more)) None)))
        (before ++ (parts_of AnyWord words).positional)
    go true = rest more before None
    go false = refl

-- a word of each kind, where no value is awaited
word_agrees : (settings : List Setting) (before : List Text) (word : Text) (words : List Text) → Agrees words
    → (kind : Kind) → kind_of word ≡ kind → AgreesAt settings before word words kind
word_agrees settings before word words rest (valued name text) e =
    let parts = parts_of AnyWord words in
    setting_agrees settings before name text words rest
    ∙ sym (ap (λ sizes. soaked sizes (before ++ parts.positional))
    (kind_means settings word parts.options (valued name text) e))
word_agrees settings before word words rest (named name) e =
    let parts = parts_of Value words in
    rest settings before (Some name)
    ∙ sym (ap (λ sizes. soaked sizes (before ++ parts.positional))
    (kind_means settings word parts.options (named name) e))
word_agrees settings before word words rest ends_options e =
    sym (ap (asked_by_parts settings before None) (all_positional words))
word_agrees settings before word words rest plain e =
    let parts = parts_of AnyWord words in
    rest settings (before ++ word ∷ []) None
    ∙ ap (soaked (sizes_meant settings None parts.options)) (append_assoc before (word ∷ []) parts.positional)
word_agrees settings before word words rest stray e =
    let parts = parts_of AnyWord words in
    sym (ap (λ sizes. soaked sizes (before ++ parts.positional)) (kind_means settings word parts.options stray e))

-- the parts of all words ask for what they ask for
parts_agree : (words : List Text) → Agrees words
parts_agree [] settings before None = ap (soaked (sizes_meant settings None [])) (sym (append-nil before))
parts_agree [] settings before (Some name) = refl
parts_agree (word ∷ words) settings before None =
    word_agrees settings before word words (parts_agree words) (kind_of word) refl
parts_agree (word ∷ words) settings before (Some name) =
    setting_agrees settings before name word words (parts_agree words)

-- what the words behind the command ask for
pub parts_ask : (words : List Text) → option_and_then (invocation_by soak) (given_of (drop 1 words))
    ≡ soaked (option_and_then sizes_alone (given_of (drop 1 (parts_of Value words).options)))
    (parts_of Value words).positional
parts_ask [] = refl
parts_ask (command ∷ words) = parts_agree words [] [] None

-- so with the texts of the parts, and the sizes that those of the options give
pub soak_asks : (words options positional : List Text) (sizes : Option Sizes)
    → options ≡ (parts_of Value words).options → positional ≡ (parts_of Value words).positional
    → option_and_then sizes_alone (given_of (drop 1 options)) ≡ sizes
    → option_and_then (invocation_by soak) (given_of (drop 1 words)) ≡ soaked sizes positional
soak_asks words options positional sizes of_options of_positional gives =
    parts_ask words
    ∙ ap (λ all. soaked (option_and_then sizes_alone (given_of (drop 1 all))) (parts_of Value words).positional)
    (sym of_options)
    ∙ ap₂ soaked gives (sym of_positional)

-- an invocation that is told is the one that is asked for
pub told : (asked found : Option Invocation) (result : Result Invocation WordsStop) → asked ≡ found
    → result ≡ ok_or found BadWords → IfOk result (λ invocation. asked ≡ Some invocation)
told asked None result same is = subst (λ r. IfOk r (λ invocation. asked ≡ Some invocation)) (sym is) tt
told asked (Some invocation) result same is = subst (λ r. IfOk r (λ invocation. asked ≡ Some invocation)) (sym is) same

-- and where the words are refused, nothing is
pub refused : (asked found : Option Invocation) (result : Result Invocation WordsStop) → asked ≡ found
    → result ≡ ok_or found BadWords → result ≡ Err BadWords → asked ≡ None
refused asked None result same is bad = same
refused asked (Some invocation) result same is bad = cc
