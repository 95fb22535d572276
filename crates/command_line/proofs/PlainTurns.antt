-- The walk of the parser of options over a word that is no option.
use Rattle.std.proofs.Common.{◌≡◌, ℕ, true, List, [], ◌∷◌, Option, None, Some, chars, slice_get, is_some}
use Rattle.std.proofs.Common.{refl, subst, ap, sym}
use Rattle.clap.specs.Lexer.{short_of}
use Rattle.clap.specs.Walk.{Held, Row, Text, Walk, bundle, bundle_met, idle, option, plain, walked}
use Rattle.clap.specs.Faults.{bundle_fault, flags_fault}
use Rattle.clap.specs.declared.error.kind.ErrorKind.TheVariants.{UnknownArgument}
use Rattle.command_line.specs.Given.{is_option_name}
use Rattle.command_line.proofs.ParserRules.{top, by_id, no_short, text_is_itself}
use Rattle.command_line.proofs.WordKinds.{IsNoLong}
use Rattle.command_line.proofs.Turns.{no_place_for, outcome, passed, refused, walk_at, word_fault}

-- what is held between two words: no flags of a bundle are passed over
abbrev pub holding : List Row → Option (Text × List Text) → Held
holding rows pending = record { rows = rows; pending = pending; skip = 0 }

-- a bundle of short options is refused, or it is taken for a plain word
pub data IsBundle (h : Held) (flags : Text) : Type 0 where
  unknown : bundle_fault top.rules top.args_override_self flags h ≡ UnknownArgument ∷ [] → IsBundle h flags
  passes : bundle_fault top.rules top.args_override_self flags h ≡ []
      → bundle top.rules flags h ≡ (h, plain) → IsBundle h flags

-- each bundle is one of these
bundle_is : (rows : List Row) (pending : Option (Text × List Text)) (flags : Text)
    → IsBundle (holding rows pending) flags
unfolding flags_fault bundle_met
bundle_is rows pending [] = passes refl refl
bundle_is rows pending (f ∷ fs) = by_char (slice_get (chars (f ∷ fs)) 0) refl
  where
    by_char : (x : Option ℕ) → slice_get (chars (f ∷ fs)) 0 ≡ x → IsBundle (holding rows pending) (f ∷ fs)
    by_char None e = passes (rw e refl) (rw e refl)
    by_char (Some x) e = unknown (rw (e, no_short x) refl)

-- where no value is awaited, a word that is no option has no place
stray_fault : (rows : List Row) (pending : Option (Text × List Text)) (word : Text) → IsNoLong word
    → word_fault (walk_at (holding rows pending) idle) word ≡ UnknownArgument ∷ []
stray_fault rows pending word is = by_short (short_of word) refl
  where
    by_short : (short : Option Text) → short_of word ≡ short → word_fault (walk_at (holding rows pending) idle) word
        ≡ UnknownArgument ∷ []
    by_short None none = rw (is.no_dashes, is.long, none) (no_place_for (holding rows pending))
    by_short (Some flags) some = elim (bundle_is rows pending flags) [
      | unknown e ↦ rw (is.no_dashes, is.long, some, e) refl
      | passes e same ↦ rw (is.no_dashes, is.long, some, e, same) (no_place_for (holding rows pending))
    ]

-- so nothing comes of it
pub outcome-stray : (h : Held) (word : Text) (words : List Text) → h.skip ≡ 0 → IsNoLong word
    → outcome (walk_at h idle) (word ∷ words) ≡ None
outcome-stray h word words none is =
    let same : holding h.rows h.pending ≡ h = λ i. record h { skip = sym none i } in
    subst (λ x. outcome (walk_at x idle) (word ∷ words) ≡ None) same
    (refused (walk_at (holding h.rows h.pending) idle) word words UnknownArgument []
    (stray_fault h.rows h.pending word is))

-- what is held while the value of an option is awaited
abbrev pub awaiting : List Row → Text → Held
awaiting rows name = holding rows (Some (name, []))

-- what is held once the value is there
abbrev pub given_value : List Row → Text → Text → Held
given_value rows name word = holding rows (Some (name, word ∷ []))

-- the walk while the value is awaited
abbrev pub walk_awaiting : List Row → Text → Walk
walk_awaiting rows name = walk_at (awaiting rows name) (option name)

-- the walk once the value is there
abbrev pub walk_given : List Row → Text → Text → Walk
walk_given rows name word = walk_at (given_value rows name word) idle

-- where a value is awaited, a word that is no option is it; or the word begins with a hyphen and is refused
pub data IsTaken (rows : List Row) (name word : Text) (words : List Text) : Type 0 where
  taken : outcome (walk_awaiting rows name) (word ∷ words)
      ≡ outcome (walk_given rows name word) words
      → IsTaken rows name word words
  stopped : is_some (short_of word) ≡ true → outcome (walk_awaiting rows name) (word ∷ words) ≡ None
      → IsTaken rows name word words

-- each word that is no option is one of these
pub value_is_taken : (rows : List Row) (name word : Text) (words : List Text) → is_option_name name ≡ true
    → IsNoLong word → IsTaken rows name word words
unfolding walked
value_is_taken rows name word words known is = by_short (short_of word) refl
  where
    by_short : (short : Option Text) → short_of word ≡ short → IsTaken rows name word words
    by_short None none = taken (passed (walk_awaiting rows name) (walk_given rows name word) word words
        (rw (is.no_dashes, is.long, none) refl)
        (rw (is.no_dashes, is.long, none, by_id name, known, text_is_itself name) refl))
    by_short (Some flags) some = elim (bundle_is rows (Some (name, [])) flags) [
      | unknown e ↦ stopped (ap is_some some)
          (refused (walk_awaiting rows name) word words UnknownArgument [] (rw (is.no_dashes, is.long, some, e) refl))
      | passes e same ↦ taken (passed (walk_awaiting rows name) (walk_given rows name word) word words
          (rw (is.no_dashes, is.long, some, e, same) refl)
          (rw (is.no_dashes, is.long, some, same, by_id name, known, text_is_itself name) refl))
    ]
