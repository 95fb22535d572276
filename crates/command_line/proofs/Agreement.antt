-- The parser of options and the definition agree on the sizes that words give: where no value is awaited.
use Rattle.std.proofs.Common.{◌≡◌, ◌∙◌, Bool, true, false, List, [], ◌∷◌, Option, None, Some}
use Rattle.std.proofs.Common.{option_and_then, refl, ap, sym}
use Rattle.clap.specs.Walk.{Held, Row, Text, idle, option, first_of}
use Rattle.clap.specs.Kinds.{or_else}
use Rattle.clap.specs.declared.error.kind.ErrorKind.TheVariants.{ArgumentConflict}
use Rattle.page_space.specs.declared.sizes.Sizes.{Sizes}
use Rattle.command_line.specs.Given.{Given, Setting, valued, named, ends_options, plain, stray, kind_of, unless_any}
use Rattle.command_line.specs.Given.{with_positional, is_option_name, is_set}
use Rattle.command_line.specs.Sizes.{sizes_alone, sizes_by, sizes_of}
use Rattle.command_line.specs.Parser.{where_no_fault}
use Rattle.command_line.proofs.WordKinds.{IsLong, dashes, option as option_word, hyphen, other, seen, attached_kind}
use Rattle.command_line.proofs.Hopeless.{and_setting, hopeless_after, positional_is_hopeless}
use Rattle.command_line.proofs.Turns.{held_fault, held_rows, held_for, held_with, outcome, outcome-nil, outcome-dashes}
use Rattle.command_line.proofs.Turns.{outcome-named}
use Rattle.command_line.proofs.Turns.{outcome-unknown, outcome-valued, outcome-valued_refused, no_word_after, walk_at}
use Rattle.command_line.proofs.Turns.{walk_after_dashes, rows_with, value_fault}
use Rattle.command_line.proofs.PlainTurns.{awaiting, outcome-stray}
use Rattle.command_line.proofs.SettingRows.{first_passes, first_row, second_fails, setting_rows}
use Rattle.command_line.proofs.SettingRows.{sizes_by-setting_rows}
use Rattle.command_line.proofs.Meanings.{first_means, kind_means, only, second_means_none, sizes_meant}
use Rattle.command_line.proofs.Meanings.{unknown_means_none}

-- the sizes that the parser's rows give
abbrev pub sizes_read : Option (List Row) → Option Sizes
sizes_read = option_and_then (λ rows. sizes_by (λ name. first_of name rows))

-- what is held stands for these settings
pub record StandsFor (h : Held) (settings : List Setting) : Type 0 where
  pub passes : held_fault h ≡ []
  pub rows : held_rows h ≡ setting_rows settings
  pub skip : h.skip ≡ 0

-- both agree on the words where no value is awaited
abbrev pub AgreeOn : List Text → Type 0
AgreeOn words = (h : Held) (settings : List Setting) → StandsFor h settings
    → sizes_read (outcome (walk_at h idle) words) ≡ sizes_meant settings None words

-- both agree on the words where one is
abbrev pub AgreeOnAwaited : List Text → Type 0
AgreeOnAwaited words = (settings : List Setting) (name : Text) → is_option_name name ≡ true
    → sizes_read (outcome (walk_at (awaiting (setting_rows settings) name) (option name)) words)
    ≡ sizes_meant settings (Some name) words

-- the end of the words
pub at_end : (h : Held) (settings : List Setting) → StandsFor h settings
    → sizes_read (where_no_fault (held_fault h) (held_rows h)) ≡ sizes_of settings
at_end h settings stands = rw (stands.passes, stands.rows) (sizes_by-setting_rows settings)

-- `--`
after_dashes : (h : Held) (settings : List Setting) (words : List Text) → StandsFor h settings
    → sizes_read (outcome (walk_after_dashes h idle) words) ≡ unless_any words (sizes_of settings)
after_dashes h settings [] stands = ap sizes_read (outcome-nil (walk_after_dashes h idle)) ∙ at_end h settings stands
after_dashes h settings (word ∷ words) stands = ap sizes_read (no_word_after h idle word words)

-- what is held with one setting more
stands_with : (h : Held) (settings : List Setting) (name text : Text) → StandsFor h settings
    → is_set name settings ≡ false → StandsFor (held_with name text h) (and_setting settings name text)
stands_with h settings name text stands new = record {
  passes = refl;
  rows = ap (rows_with name text) stands.rows ∙ first_row name text settings new;
  skip = stands.skip;
}

-- `--name=value`
valued_agrees : (h : Held) (settings : List Setting) (word name text : Text) (words : List Text) → StandsFor h settings
    → AgreeOn words
    → IsLong word name (Some text) → sizes_read (outcome (walk_at h idle) (word ∷ words))
    ≡ sizes_meant settings (Some name) (text ∷ words)
valued_agrees h settings word name text words stands rest is =
    by_name (is_option_name name) refl (is_set name settings) refl
  where
    same : value_fault name text (held_rows h) ≡ value_fault name text (setting_rows settings)
    same = ap (value_fault name text) stands.rows

    by_name : (known : Bool) → is_option_name name ≡ known → (twice : Bool) → is_set name settings ≡ twice
        → sizes_read (outcome (walk_at h idle) (word ∷ words)) ≡ sizes_meant settings (Some name) (text ∷ words)
    by_name false unknown twice e = ap sizes_read (outcome-unknown h idle word name (Some text) words is unknown)
        ∙ sym (unknown_means_none name settings (text ∷ words) unknown)
    by_name true known true e =
        ap sizes_read (outcome-valued_refused h idle word name text words ArgumentConflict [] is known
        (ap (λ ks. or_else ks (value_fault name text (held_rows h))) stands.passes ∙ same
        ∙ second_fails name text settings e))
        ∙ sym (second_means_none name text settings words known e)
    by_name true known false e =
        ap sizes_read (outcome-valued h idle word name text words is known stands.passes (same
        ∙ first_passes name text settings e))
        ∙ rest (held_with name text h) (and_setting settings name text) (stands_with h settings name text stands e)
        ∙ sym (first_means name text settings words known e)

-- `--name`
named_agrees : (h : Held) (settings : List Setting) (word name : Text) (words : List Text) → StandsFor h settings
    → AgreeOnAwaited words
    → IsLong word name None
    → sizes_read (outcome (walk_at h idle) (word ∷ words)) ≡ sizes_meant settings (Some name) words
named_agrees h settings word name words stands rest is = by_name (is_option_name name) refl
  where
    same : held_for name h ≡ awaiting (setting_rows settings) name
    same = λ i. record { rows = stands.rows i; pending = Some (name, []); skip = stands.skip i }

    by_name : (known : Bool) → is_option_name name ≡ known
        → sizes_read (outcome (walk_at h idle) (word ∷ words)) ≡ sizes_meant settings (Some name) words
    by_name false unknown = ap sizes_read (outcome-unknown h idle word name None words is unknown)
        ∙ sym (unknown_means_none name settings words unknown)
    by_name true known = ap sizes_read (outcome-named h idle word name words is known stands.passes)
        ∙ ap (λ x. sizes_read (outcome (walk_at x (option name)) words)) same ∙ rest settings name known

-- a word that is an option
option_agrees : (h : Held) (settings : List Setting) (word name : Text) (v : Option Text) (words : List Text)
    → StandsFor h settings
    → AgreeOn words → AgreeOnAwaited words → IsLong word name v → kind_of word ≡ attached_kind name v
    → sizes_read (outcome (walk_at h idle) (word ∷ words)) ≡ sizes_meant settings None (word ∷ words)
option_agrees h settings word name None words stands rest awaited is kind =
    named_agrees h settings word name words stands awaited is ∙ sym (kind_means settings word words (named name) kind)
option_agrees h settings word name (Some text) words stands rest awaited is kind =
    valued_agrees h settings word name text words stands rest is
    ∙ sym (kind_means settings word words (valued name text) kind)

-- these settings and a positional word
abbrev with_word : List Setting → Text → Given
with_word settings word = with_positional (word ∷ []) (only settings)

-- any word
pub word_agrees : (word : Text) (words : List Text) → AgreeOn words → AgreeOnAwaited words → AgreeOn (word ∷ words)
word_agrees word words rest awaited h settings stands = elim (seen word) [
  | dashes e kind ↦ ap (λ w. sizes_read (outcome (walk_at h idle) (w ∷ words))) e
      ∙ ap sizes_read (outcome-dashes h idle words)
      ∙ after_dashes h settings words stands ∙ sym (kind_means settings word words ends_options kind)
  | option_word begin name v begins is kind ↦ option_agrees h settings word name v words stands rest awaited is kind
  | hyphen begin begins is kind ↦ ap sizes_read (outcome-stray h word words stands.skip is)
      ∙ sym (kind_means settings word words stray kind)
  | other is short kind ↦ ap sizes_read (outcome-stray h word words stands.skip is)
      ∙ sym (hopeless_after sizes_alone words None (with_word settings word) (positional_is_hopeless
      (with_word settings word) word [] refl))
      ∙ sym (kind_means settings word words plain kind)
]
