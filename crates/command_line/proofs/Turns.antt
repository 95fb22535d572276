-- The walk of the parser of options over words, one word at a time.
use Rattle.std.proofs.Common.{◌≡◌, ◌∙◌, Bool, true, false, List, [], ◌∷◌, Option, None, Some, fold, refl, ap}
use Rattle.clap.specs.Walk.{Held, Row, Text, Waiting, Walk, idle, option, positional, settled, subcommand_met, used}
use Rattle.clap.specs.Walk.{value, walked}
use Rattle.clap.specs.Kinds.{Kinds, or_else}
use Rattle.clap.specs.Faults.{settle_fault, step_fault, turn_fault, use_fault, walk_fault}
use Rattle.clap.specs.declared.error.kind.ErrorKind.{ErrorKind}
use Rattle.clap.specs.declared.error.kind.ErrorKind.TheVariants.{UnknownArgument}
use Rattle.command_line.specs.Given.{is_option_name}
use Rattle.command_line.specs.Parser.{where_no_fault}
use Rattle.command_line.proofs.ParserRules.{top, top-leaf, by_long, no_place, built_rule}
use Rattle.command_line.proofs.WordKinds.{IsLong, two_hyphens}

-- why a word is refused
abbrev pub word_fault : Walk → Text → Kinds
word_fault w word = turn_fault top [] w word

-- the walk after a word
abbrev pub after_word : Walk → Text → Walk
after_word w word = walked top.rules [] w word

-- why what is held is refused where no more words are read for it
abbrev pub held_fault : Held → Kinds
held_fault h = settle_fault top.rules top.args_override_self h

-- the rows once it is settled
abbrev pub held_rows : Held → List Row
held_rows h = (settled top.rules h).rows

-- why an option's value is refused
abbrev pub value_fault : Text → Text → List Row → Kinds
value_fault name text rows = use_fault top.args_override_self (built_rule name) (text ∷ []) rows

-- the rows with it
abbrev pub rows_with : Text → Text → List Row → List Row
rows_with name text rows = used (built_rule name) (text ∷ []) rows

-- how the walk ends: with its rows, or with nothing where a word or what is held at the end is refused
abbrev pub outcome : Walk → List Text → Option (List Row)
outcome w words =
    let end = (fold after_word w words).held in
    where_no_fault (or_else (walk_fault top [] w words) (held_fault end)) (held_rows end)

-- no word is left
pub outcome-nil : (w : Walk) → outcome w [] ≡ where_no_fault (held_fault w.held) (held_rows w.held)
unfolding walk_fault
outcome-nil w = refl

-- no word is left, and what is held is refused
pub outcome-nil_refused : (w : Walk) (kind : ErrorKind) (kinds : Kinds)
    → held_fault w.held ≡ kind ∷ kinds → outcome w [] ≡ None
outcome-nil_refused w kind kinds fails = outcome-nil w ∙ ap (λ ks. where_no_fault ks (held_rows w.held)) fails

-- a word that is refused ends the walk
pub refused : (w : Walk) (word : Text) (words : List Text) (kind : ErrorKind) (kinds : Kinds)
    → word_fault w word ≡ kind ∷ kinds → outcome w (word ∷ words) ≡ None
unfolding walk_fault
refused w word words kind kinds fails =
    let end = (fold after_word (after_word w word) words).held in
    let later = walk_fault top [] (after_word w word) words in
    ap (λ ks. where_no_fault (or_else (or_else ks later) (held_fault end)) (held_rows end)) fails

-- a word that passes leads on
pub passed : (w after : Walk) (word : Text) (words : List Text) → word_fault w word ≡ [] → after_word w word ≡ after
    → outcome w (word ∷ words) ≡ outcome after words
unfolding walk_fault
passed w after word words passes next =
    let end = (fold after_word (after_word w word) words).held in
    let later = walk_fault top [] (after_word w word) words in
    ap (λ ks. where_no_fault (or_else (or_else ks later) (held_fault end)) (held_rows end)) passes
    ∙ ap (λ x. outcome x words) next

-- the walk between two words before `--`
abbrev pub walk_at : Held → Waiting → Walk
walk_at h waiting = record { held = h; waiting = waiting; position = 1; is_trailing = false; stopped = None }

-- and after it
abbrev pub walk_after_dashes : Held → Waiting → Walk
walk_after_dashes h waiting = record { held = h; waiting = waiting; position = 1; is_trailing = true; stopped = None }

-- a positional word has no place
pub no_place_for : (h : Held) → step_fault top 1 h value ≡ UnknownArgument ∷ []
no_place_for h = rw (no_place 1, top-leaf) refl

-- after `--` no word is taken
pub no_word_after : (h : Held) (waiting : Waiting) (word : Text) (words : List Text)
    → outcome (walk_after_dashes h waiting) (word ∷ words) ≡ None
no_word_after h waiting word words =
    refused (walk_after_dashes h waiting) word words UnknownArgument [] (no_place_for h)

-- `--`
pub outcome-dashes : (h : Held) (waiting : Waiting) (words : List Text)
    → outcome (walk_at h waiting) (two_hyphens ∷ words) ≡ outcome (walk_after_dashes h waiting) words
unfolding walked
outcome-dashes h idle words = passed (walk_at h idle) (walk_after_dashes h idle) two_hyphens words refl refl
outcome-dashes h (option name) words =
    passed (walk_at h (option name)) (walk_after_dashes h (option name)) two_hyphens words refl refl
outcome-dashes h positional words =
    passed (walk_at h positional) (walk_after_dashes h positional) two_hyphens words refl refl

-- no word names a subcommand, where there is none
no_subcommand : (waiting : Waiting) (word : Text) → subcommand_met [] waiting word ≡ None
no_subcommand idle word = refl
no_subcommand (option name) word = refl
no_subcommand positional word = refl

-- a name that no option has
pub outcome-unknown : (h : Held) (waiting : Waiting) (word name : Text) (v : Option Text) (words : List Text)
    → IsLong word name v
    → is_option_name name ≡ false → outcome (walk_at h waiting) (word ∷ words) ≡ None
outcome-unknown h waiting word name v words is unknown =
    refused (walk_at h waiting) word words UnknownArgument []
    (rw (no_subcommand waiting word, is.no_dashes, is.long, by_long name, unknown) refl)

-- what is held once an option has its value
abbrev pub held_with : Text → Text → Held → Held
held_with name text h = record h { rows = rows_with name text (held_rows h); pending = None }

-- an option with its value is refused with what is held, or for itself
valued_fault : (h : Held) (waiting : Waiting) (word name text : Text) → IsLong word name (Some text)
    → is_option_name name ≡ true
    → word_fault (walk_at h waiting) word ≡ or_else (or_else (held_fault h) (value_fault name text (held_rows h))) []
valued_fault h waiting word name text is known = rw
    (no_subcommand waiting word, is.no_dashes, is.long, by_long name, known) refl

-- the walk after it
after_valued : (h : Held) (waiting : Waiting) (word name text : Text) → IsLong word name (Some text)
    → is_option_name name ≡ true
    → after_word (walk_at h waiting) word ≡ walk_at (held_with name text h) idle
unfolding walked
after_valued h waiting word name text is known = rw
    (no_subcommand waiting word, is.no_dashes, is.long, by_long name, known) refl

-- an option with its value, which passes
pub outcome-valued : (h : Held) (waiting : Waiting) (word name text : Text) (words : List Text)
    → IsLong word name (Some text)
    → is_option_name name ≡ true → held_fault h ≡ [] → value_fault name text (held_rows h) ≡ []
    → outcome (walk_at h waiting) (word ∷ words) ≡ outcome (walk_at (held_with name text h) idle) words
outcome-valued h waiting word name text words is known held passes =
    passed (walk_at h waiting) (walk_at (held_with name text h) idle) word words
    (valued_fault h waiting word name text is known
    ∙ ap (λ ks. or_else (or_else ks (value_fault name text (held_rows h))) []) held
    ∙ ap (λ ks. or_else ks []) passes)
    (after_valued h waiting word name text is known)

-- an option with its value, which is refused
pub outcome-valued_refused : (h : Held) (waiting : Waiting) (word name text : Text)
    (words : List Text) (kind : ErrorKind)
    (kinds : Kinds) → IsLong word name (Some text) → is_option_name name ≡ true
    → or_else (held_fault h) (value_fault name text (held_rows h)) ≡ kind ∷ kinds
    → outcome (walk_at h waiting) (word ∷ words) ≡ None
outcome-valued_refused h waiting word name text words kind kinds is known fails =
    refused (walk_at h waiting) word words kind kinds (valued_fault h waiting word name text is known
    ∙ ap (λ ks. or_else ks []) fails)

-- what is held while the value of an option is awaited
abbrev pub held_for : Text → Held → Held
held_for name h = record h { rows = held_rows h; pending = Some (name, []) }

-- an option without its value is refused with what is held
named_fault : (h : Held) (waiting : Waiting) (word name : Text) → IsLong word name None → is_option_name name ≡ true
    → word_fault (walk_at h waiting) word ≡ or_else (held_fault h) []
named_fault h waiting word name is known =
    rw (no_subcommand waiting word, is.no_dashes, is.long, by_long name, known) refl

-- the walk after it
after_named : (h : Held) (waiting : Waiting) (word name : Text) → IsLong word name None → is_option_name name ≡ true
    → after_word (walk_at h waiting) word ≡ walk_at (held_for name h) (option name)
unfolding walked
after_named h waiting word name is known =
    rw (no_subcommand waiting word, is.no_dashes, is.long, by_long name, known) refl

-- an option without its value, which passes
pub outcome-named : (h : Held) (waiting : Waiting) (word name : Text) (words : List Text) → IsLong word name None
    → is_option_name name ≡ true → held_fault h ≡ []
    → outcome (walk_at h waiting) (word ∷ words) ≡ outcome (walk_at (held_for name h) (option name)) words
outcome-named h waiting word name words is known passes =
    passed (walk_at h waiting) (walk_at (held_for name h) (option name)) word words
    (named_fault h waiting word name is known ∙ ap (λ ks. or_else ks []) passes)
    (after_named h waiting word name is known)

-- where what is held is refused, so is a word that is an option
pub outcome-option_refused : (h : Held) (waiting : Waiting) (word name : Text) (v : Option Text) (words : List Text)
    (kind : ErrorKind) (kinds : Kinds) → IsLong word name v → held_fault h ≡ kind ∷ kinds
    → outcome (walk_at h waiting) (word ∷ words) ≡ None
outcome-option_refused h waiting word name v words kind kinds is fails = by_name (is_option_name name) refl v is
  where
    by_name : (known : Bool) → is_option_name name ≡ known → (v : Option Text) → IsLong word name v
        → outcome (walk_at h waiting) (word ∷ words) ≡ None
    by_name false unknown v is = outcome-unknown h waiting word name v words is unknown
    by_name true known (Some text) is = outcome-valued_refused h waiting word name text words kind _ is known
        (ap (λ ks. or_else ks (value_fault name text (held_rows h))) fails)
    by_name true known None is =
        refused (walk_at h waiting) word words kind kinds (named_fault h waiting word name is known
        ∙ ap (λ ks. or_else ks []) fails)
