-- The rows that the parser of options keeps of settings.
use Rattle.std.proofs.Common.{◌≡◌, ◌∙◌, ◌||◌, Bool, true, false, List, [], ◌∷◌, ◌++◌, map}
use Rattle.std.proofs.Common.{None, Some, option_map}
use Rattle.std.proofs.Common.{option_and_then, slice_get, cond, find}
use Rattle.std.proofs.Common.{bytes_eq, refl, ap, sym, append-nil}
use Rattle.std.proofs.lemmas.List.{map-append}
use Rattle.clap.specs.Walk.{Row, Text, at_row, first_of, has_row, more_values, reading_by, with_values, without}
use Rattle.clap.specs.declared.error.kind.ErrorKind.TheVariants.{ArgumentConflict, InvalidValue}
use Rattle.clap.specs.declared.parser.matches.ValueSource.TheVariants.{CommandLine}
use Rattle.clap.proofs.WalkLemmas.{list_any-map}
use Rattle.command_line.specs.Given.{Setting, is_set, is_option_name}
use Rattle.command_line.specs.Sizes.{sizes_by, sizes_of, text_in}
use Rattle.command_line.proofs.ParserRules.{top-again, built_rule, by_id}
use Rattle.command_line.proofs.Hopeless.{and_setting}
use Rattle.command_line.proofs.Turns.{held_fault, held_rows, rows_with, value_fault}
use Rattle.command_line.proofs.PlainTurns.{awaiting, given_value}

-- the row of a setting
abbrev pub setting_row : Setting → Row
setting_row setting = record {
  id = setting.name;
  values = setting.text ∷ [];
  count = None;
  source = Some CommandLine;
  reading = reading_by (built_rule setting.name);
}

-- the rows of settings
abbrev pub setting_rows : List Setting → List Row
setting_rows = map setting_row

-- an option has a row where it is set
has_row-setting_rows : (name : Text) (settings : List Setting)
    → has_row name (setting_rows settings) ≡ is_set name settings
has_row-setting_rows name settings = sym (list_any-map (λ (r : Row). bytes_eq r.id name) setting_row settings)

-- a row of a new id stands at the end
at_row-new : (id : Text) (change : Row → List Row) (missing rows : List Row) → has_row id rows ≡ false
    → at_row id change missing rows ≡ rows ++ missing
at_row-new id change missing [] new = refl
at_row-new id change missing (r ∷ rows) new = go (bytes_eq r.id id) new (at_row-new id change missing rows)
  where
    go : (b : Bool) → (b || has_row id rows) ≡ false → (has_row id rows ≡ false
        → at_row id change missing rows ≡ rows ++ missing)
        → cond b (change r ++ rows) (r ∷ at_row id change missing rows) ≡ r ∷ (rows ++ missing)
    go true e rest = cc
    go false e rest = ap (λ rs. r ∷ rs) (rest e)

-- the first setting of an option adds its row
pub first_row : (name text : Text) (settings : List Setting) → is_set name settings ≡ false
    → rows_with name text (setting_rows settings) ≡ setting_rows (and_setting settings name text)
first_row name text settings new =
    let rows = setting_rows settings in
    let none : has_row name rows ≡ false = has_row-setting_rows name settings ∙ new in
    let stays : without name rows ≡ rows = at_row-new name (λ _. []) [] rows none ∙ append-nil rows in
    ap (with_values name (reading_by (built_rule name)) CommandLine (text ∷ [])) stays
    ∙ at_row-new name (more_values CommandLine (text ∷ [])) _ rows none
    ∙ sym (map-append setting_row settings (record { name = name; text = text } ∷ []))

-- the first setting of an option passes
pub first_passes : (name text : Text) (settings : List Setting) → is_set name settings ≡ false
    → value_fault name text (setting_rows settings) ≡ []
first_passes name text settings new = rw (top-again, has_row-setting_rows name settings, new) refl

-- a second one is refused
pub second_fails : (name text : Text) (settings : List Setting) → is_set name settings ≡ true
    → value_fault name text (setting_rows settings) ≡ ArgumentConflict ∷ []
second_fails name text settings twice = rw (top-again, has_row-setting_rows name settings, twice) refl

-- the text that the parser finds for a name is that of the settings
first_of-setting_rows : (name : Text) (settings : List Setting)
    → first_of name (setting_rows settings) ≡ text_in settings name
first_of-setting_rows name [] = refl
first_of-setting_rows name (setting ∷ settings) = go (bytes_eq setting.name name) (first_of-setting_rows name settings)
  where
    go : (b : Bool) → first_of name (setting_rows settings) ≡ text_in settings name
        → option_and_then (λ (r : Row). slice_get r.values 0)
        (cond b (Some (setting_row setting)) (find (λ (r : Row). bytes_eq r.id name) (setting_rows settings)))
        ≡ option_map (λ (s : Setting). s.text)
        (cond b (Some setting) (find (λ (s : Setting). bytes_eq s.name name) settings))
    go true rest = refl
    go false rest = rest

-- the sizes that the parser's rows give are those of the settings
pub sizes_by-setting_rows : (settings : List Setting) → sizes_by (λ name. first_of name (setting_rows settings))
    ≡ sizes_of settings
sizes_by-setting_rows settings = λ i. sizes_by (λ name. first_of-setting_rows name settings i)

-- a value that is still awaited is missing
pub awaits_fault : (rows : List Row) (name : Text) → is_option_name name ≡ true
    → held_fault (awaiting rows name) ≡ InvalidValue ∷ []
awaits_fault rows name known = rw (by_id name, known) refl

-- a value that is pending is one of its option
pub pending_fault : (rows : List Row) (name text : Text) → is_option_name name ≡ true
    → held_fault (given_value rows name text) ≡ value_fault name text rows
pending_fault rows name text known = rw (by_id name, known) refl

-- with it the rows are those with one value more
pub pending_rows : (rows : List Row) (name text : Text) → is_option_name name ≡ true
    → held_rows (given_value rows name text) ≡ rows_with name text rows
pending_rows rows name text known = rw (by_id name, known) refl
