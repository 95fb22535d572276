-- Words that ask for something: they begin with a command, and ask what it does.
use Rattle.std.proofs.Common.{◌≡◌, ◌∙◌, ◌≤◌, Bool, true, false, List, [], ◌∷◌, length, get_or, map, Some, None}
use Rattle.std.proofs.Common.{drop, find, cond, codes, refl, sym, ap, arith}
use Rattle.std.specs.Option.{option_and_then}
use Rattle.std.specs.Prelude.{◌||◌, IsTrue, bytes_eq}
use Rattle.std.specs.List.{list_any}
use Rattle.std.proofs.lemmas.Option.{option_and_then_some}
use Rattle.command_line.specs.declared.invocation.Invocation.{Invocation}
use Rattle.command_line.specs.Given.{Text, given_of}
use Rattle.command_line.specs.Invocations.{Command, command_text, commands, command_of, invocation_by, invocation_of}
use Rattle.command_line.specs.Invocations.{begins_with_any}
use Rattle.command_line.proofs.ParserRules.{same_text}

-- a command, and that this is what it asks for with the words after the first
abbrev pub AskedByOne : List Text → Invocation → Type 0
AskedByOne words invocation = (command : Command)
    × (option_and_then (invocation_by command) (given_of (drop 1 words)) ≡ Some invocation)

-- what words ask for is what their command asks for
pub asked_of : (words : List Text) (invocation : Invocation) → invocation_of words ≡ Some invocation
    → AskedByOne words invocation
asked_of [] invocation asks = absurd (cc)
asked_of (first ∷ words) invocation asks =
    option_and_then_some (λ command. option_and_then (invocation_by command) (given_of words)) (command_of first)
    invocation asks (λ command is asked. (command, asked))

-- texts that differ have not the same bytes
texts_differ : (known word : Text) → (word ≡ known → ⊥) → bytes_eq known word ≡ false
texts_differ known word differs = go (bytes_eq known word) (same_text known word)
  where
    go : (same : Bool) → (same ≡ true → known ≡ word) → same ≡ false
    go true tells = absurd (differs (sym (tells refl)))
    go false tells = refl

-- words that begin with no command ask for nothing
pub no_command : {A : Type 0} (text_of : A → Text) (words : List A) (first : A) → 1 ≤ length words
    → first ≡ get_or words 0 first → (text_of first ≡ codes "run" → ⊥) → (text_of first ≡ codes "check" → ⊥)
    → (text_of first ≡ codes "soak" → ⊥) → (text_of first ≡ codes "gen" → ⊥)
    → invocation_of (map text_of words) ≡ None
no_command text_of [] first some is no_run no_check no_soak no_gen = absurd (omega arith)
no_command text_of (word ∷ words) first some is no_run no_check no_soak no_gen =
    let differs = λ (known : Text) (no : text_of first ≡ known → ⊥).
    texts_differ known (text_of word) (λ same. no (ap text_of is ∙ same)) in
    rw (
      differs (codes "run") no_run,
      differs (codes "check") no_check,
      differs (codes "soak") no_soak,
      differs (codes "gen") no_gen,
    ) refl

-- an item that is found passes the test
found_any : {A : Type 0} (test : A → Bool) (items : List A) (item : A) → find test items ≡ Some item
    → list_any test items ≡ true
found_any test [] item e = cc
found_any test (first ∷ items) item e = go (test first) e (found_any test items item)
  where
    go : (passes : Bool) → cond passes (Some first) (find test items) ≡ Some item
        → (find test items ≡ Some item → list_any test items ≡ true) → (passes || list_any test items) ≡ true
    go true e later = refl
    go false e later = later e

-- words that ask for something begin with a command
pub begins_command : (words : List Text) (invocation : Invocation) → invocation_of words ≡ Some invocation
    → IsTrue (begins_with_any commands words)
begins_command [] invocation asks = absurd (cc)
begins_command (first ∷ words) invocation asks =
    option_and_then_some (λ command. option_and_then (invocation_by command) (given_of words)) (command_of first)
    invocation asks
    (λ command is asked. found_any (λ c. bytes_eq (command_text c) first) commands command is)
