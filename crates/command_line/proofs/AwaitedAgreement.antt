-- The parser of options and the definition agree on the sizes that words give: where a value is awaited, and on all
-- words.
use Rattle.std.proofs.Common.{◌≡◌, ◌∙◌, Bool, true, false, List, [], ◌∷◌, None, Some, is_some, refl}
use Rattle.std.proofs.Common.{ap, sym, true≢false}
use Rattle.clap.specs.Walk.{Held, Text, Waiting, idle, option}
use Rattle.clap.specs.Kinds.{Kinds}
use Rattle.clap.specs.declared.error.kind.ErrorKind.{ErrorKind}
use Rattle.clap.specs.declared.error.kind.ErrorKind.TheVariants.{ArgumentConflict, InvalidValue}
use Rattle.command_line.specs.Given.{Setting, is_option_name, is_set}
use Rattle.command_line.proofs.WordKinds.{dashes, option as option_word, hyphen, other, seen}
use Rattle.command_line.proofs.Hopeless.{and_setting}
use Rattle.command_line.proofs.Turns.{held_fault, outcome, outcome-nil, outcome-nil_refused, outcome-dashes}
use Rattle.command_line.proofs.Turns.{outcome-option_refused}
use Rattle.command_line.proofs.Turns.{no_word_after, walk_at, walk_after_dashes, value_fault}
use Rattle.command_line.proofs.PlainTurns.{awaiting, given_value, walk_awaiting, walk_given, outcome-stray, stopped}
use Rattle.command_line.proofs.PlainTurns.{taken, value_is_taken}
use Rattle.command_line.proofs.SettingRows.{awaits_fault, first_passes, first_row, pending_fault, pending_rows}
use Rattle.command_line.proofs.SettingRows.{second_fails, setting_rows}
use Rattle.command_line.proofs.Meanings.{first_means, hyphen_means_none, second_means_none, sizes_meant}
use Rattle.command_line.proofs.Agreement.{AgreeOn, AgreeOnAwaited, StandsFor, at_end, sizes_read, word_agrees}

-- a word that the parser refuses there begins with a hyphen, and so is no number
refused_agrees : (settings : List Setting) (name word begin : Text) (words : List Text) → is_option_name name ≡ true
    → word ≡ 45 ∷ begin
    → outcome (walk_awaiting (setting_rows settings) name) (word ∷ words) ≡ None
    → sizes_read (outcome (walk_awaiting (setting_rows settings) name) (word ∷ words))
    ≡ sizes_meant settings (Some name) (word ∷ words)
refused_agrees settings name word begin words known begins e = ap sizes_read e
    ∙ sym (hyphen_means_none name word begin settings words known begins)

-- where what is held is refused, nothing comes of `--`
dashes_refused : (h : Held) (words : List Text) (kind : ErrorKind) (kinds : Kinds) → held_fault h ≡ kind ∷ kinds
    → (waiting : Waiting) → outcome (walk_after_dashes h waiting) words ≡ None
dashes_refused h [] kind kinds fails waiting = outcome-nil_refused (walk_after_dashes h waiting) kind kinds fails
dashes_refused h (word ∷ words) kind kinds fails waiting = no_word_after h waiting word words

-- nor of any words
held_refused : (h : Held) (words : List Text) (kind : ErrorKind) (kinds : Kinds) → h.skip ≡ 0
    → held_fault h ≡ kind ∷ kinds → outcome (walk_at h idle) words ≡ None
held_refused h [] kind kinds none fails = outcome-nil_refused (walk_at h idle) kind kinds fails
held_refused h (word ∷ words) kind kinds none fails = elim (seen word) [
  | dashes e k ↦ ap (λ w. outcome (walk_at h idle) (w ∷ words)) e ∙ outcome-dashes h idle words
      ∙ dashes_refused h words kind kinds fails idle
  | option_word begin name v begins is k ↦ outcome-option_refused h idle word name v words kind kinds is fails
  | hyphen begin begins is k ↦ outcome-stray h word words none is
  | other is short k ↦ outcome-stray h word words none is
]

-- a value
value_agrees : (settings : List Setting) (name word : Text) (words : List Text) → is_option_name name ≡ true
    → AgreeOn words → sizes_read (outcome (walk_given (setting_rows settings) name word) words)
    ≡ sizes_meant settings (Some name) (word ∷ words)
value_agrees settings name word words known rest = by_setting (is_set name settings) refl
  where
    h : Held
    h = given_value (setting_rows settings) name word

    same : held_fault (given_value (setting_rows settings) name word) ≡ value_fault name word (setting_rows settings)
    same = pending_fault (setting_rows settings) name word known

    stands : is_set name settings ≡ false
        → StandsFor (given_value (setting_rows settings) name word) (and_setting settings name word)
    stands new = record {
      passes = same ∙ first_passes name word settings new;
      rows = pending_rows (setting_rows settings) name word known ∙ first_row name word settings new;
      skip = refl;
    }

    by_setting : (twice : Bool) → is_set name settings ≡ twice
        → sizes_read (outcome (walk_given (setting_rows settings) name word) words)
        ≡ sizes_meant settings (Some name) (word ∷ words)
    by_setting true twice =
        ap sizes_read (held_refused (given_value (setting_rows settings) name word) words ArgumentConflict [] refl (same
        ∙ second_fails name word settings twice))
        ∙ sym (second_means_none name word settings words known twice)
    by_setting false new =
        rest (given_value (setting_rows settings) name word) (and_setting settings name word) (stands new)
        ∙ sym (first_means name word settings words known new)

-- any word
awaited_agrees : (word : Text) (words : List Text) → AgreeOn words → AgreeOnAwaited (word ∷ words)
awaited_agrees word words rest settings name known = elim (seen word) [
  | dashes e kind ↦ refused_agrees settings name word (45 ∷ []) words known e
      (ap (λ w. outcome (walk_awaiting (setting_rows settings) name) (w ∷ words)) e
      ∙ outcome-dashes (awaiting (setting_rows settings) name) (option name) words
      ∙ dashes_refused (awaiting (setting_rows settings) name) words InvalidValue []
      (awaits_fault (setting_rows settings) name known) (option name))
  | option_word begin other_name v begins is kind ↦ refused_agrees settings name word begin words known begins
      (outcome-option_refused (awaiting (setting_rows settings) name) (option name) word other_name v
      words InvalidValue [] is
      (awaits_fault (setting_rows settings) name known))
  | hyphen begin begins is kind ↦ elim (value_is_taken (setting_rows settings) name word words known is) [
    | taken goes ↦ ap sizes_read goes ∙ value_agrees settings name word words known rest
    | stopped short stops ↦ refused_agrees settings name word begin words known begins stops
  ]
  | other is no_short kind ↦ elim (value_is_taken (setting_rows settings) name word words known is) [
    | taken goes ↦ ap sizes_read goes ∙ value_agrees settings name word words known rest
    | stopped short stops ↦ absurd (true≢false (sym short ∙ ap is_some no_short))
  ]
]

-- the end of the words, and any words
all_agree : (words : List Text) → AgreeOn words × AgreeOnAwaited words
all_agree [] = (
  λ h settings stands. ap sizes_read (outcome-nil (walk_at h idle)) ∙ at_end h settings stands,
  λ settings name known. ap sizes_read (outcome-nil_refused (walk_awaiting (setting_rows settings) name) InvalidValue []
      (awaits_fault (setting_rows settings) name known)),
)
all_agree (word ∷ words) =
    let rest : AgreeOn words × AgreeOnAwaited words = all_agree words in
    (word_agrees word words rest.0 rest.1, awaited_agrees word words rest.0)

-- the walk from the beginning gives the sizes that the words mean
pub walk_agrees : (h : Held) (words : List Text) → StandsFor h []
    → sizes_read (outcome (walk_at h idle) words) ≡ sizes_meant [] None words
walk_agrees h words stands = (all_agree words).0 h [] stands
