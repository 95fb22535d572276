-- The cells of objects that were just made, and what making them touches.
use Rattle.std.specs.Prelude.{ℕ, ◌+◌, List, [], ◌∷◌, replicate}
use Rattle.tagged_word.specs.Cells.{store_slot}
use Rattle.heap_model.specs.Types.{Command, Header}
use Rattle.heap_command.specs.declared.command.Command.TheVariants as command
use Rattle.tagged_word.specs.Shapes.{list_shape, weak_shape}
use Rattle.tagged_word.specs.Headers.{header_bits}
use Rattle.heap_model.specs.Remembered.{Touch}
use Rattle.heap_model.specs.Slots.{undefined_word, hole_word}
use Rattle.write_barrier.specs.Recording.{touched, touched_one, touched_then}

-- the words of a plain cell with so many slots of its own: it has no property store and no prototype, and its slots
-- hold nothing
abbrev pub empty_plain : Header → ℕ → List ℕ
empty_plain header cap = header_bits header ∷ undefined_word ∷ undefined_word ∷ replicate cap hole_word

-- the words of the own cell of a list without elements, or of a weak map without entries: it has no store, and its
-- length or count is 0
abbrev pub empty_counted : Header → List ℕ
empty_counted header = header_bits header ∷ undefined_word ∷ 0 ∷ []

-- which addresses putting the first words of a cell touches, so many: its header, and slots behind it
abbrev pub head_touch : ℕ → ℕ → ℕ → Touch
head_touch head at =
    touched_then (touched_one Touch.Wiped at) (touched Touch.Stored (at + store_slot) (at + head))

-- which addresses making a cell touches, of which the first words, so many, are its header and its slots, and which
-- has so many words: these, and the words behind them
abbrev pub new_touch : ℕ → ℕ → ℕ → ℕ → Touch
new_touch head size at = touched_then (head_touch head at) (touched Touch.Wiped (at + head) (at + size))

-- the own cell of a list, or of a weak map: it has a count, and a slot for a store or a table
pub data CountedCell : Type 0 where
  list : CountedCell
  weak : CountedCell

-- the shape of a list's own cell, or of a weak map's
abbrev pub shape_of_counted : CountedCell → ℕ
shape_of_counted list = list_shape
shape_of_counted weak = weak_shape

-- the command that binds a variable to a new list, or to a new weak map
abbrev pub making_of : CountedCell → ℕ → Command
making_of list x = command.List x
making_of weak x = command.Weak x
