-- The two root words that are those of a value.
use Rattle.std.specs.Prelude.{◌≡◌}
use Rattle.handle_roots.specs.declared.held.Held.{Held}
use Rattle.handle_roots.specs.declared.both_words.RootPair.{RootPair}
use Rattle.handle_roots.specs.Roots.{FitsHeld, first_word, second_word}

-- both root words are those of the value
pub record AreWordsOf (held : Held) (words : RootPair) : Type 0 where
  pub fits : FitsHeld held
  pub first : words.first ≡ first_word held
  pub second : words.second ≡ second_word held
