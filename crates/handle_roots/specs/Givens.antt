-- Values by the words that slots have for them.
use Rattle.std.specs.Prelude.{◌≡◌, ℕ, Bool, true, false, List, Option, Some, None}
use Rattle.tagged_word.specs.Words.{small}
use Rattle.page_space.specs.Extents.{Space}
use Rattle.handle_roots.specs.declared.held.Held.{Held}
use Rattle.handle_roots.specs.declared.held.Held.TheVariants.{Unbound, Undefined, Int, Ref}
use Rattle.handle_roots.specs.declared.given.Given.{Given}
use Rattle.handle_roots.specs.declared.given.Given.TheVariants as given
use Rattle.handle_roots.specs.Roots.{FitsHeld, Holds, first_word}

-- a slot has a word for it: it is a small integer, a reference or `undefined`
abbrev pub has_slot_word : Held → Bool
has_slot_word Unbound = false
has_slot_word Undefined = true
has_slot_word (Int v) = small v
has_slot_word (Ref at) = true

-- it is given by that word, which is its first root word too; or it is an integer, which is given
abbrev pub IsGivenBy : Held → Given → Type 0
IsGivenBy held (given.Word word) = (word.0 ≡ first_word held) × (has_slot_word held ≡ true)
IsGivenBy held (given.Int v) = held ≡ Int v

-- what is given stands for this
pub record IsGivenFor (given : Given) (held : Held) : Type 0 where
  pub fits : FitsHeld held
  pub is : IsGivenBy held given

-- what the variable holds is given; or nothing is, and it is bound to nothing
abbrev pub GivesHeld : Space → List ℕ → ℕ → Option Given → Type 0
GivesHeld space words variable None = Holds space words variable Unbound
GivesHeld space words variable (Some given) = (held : Held) × Holds space words variable held × IsGivenFor given held
