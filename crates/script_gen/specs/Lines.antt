-- Lines of a generated script, and the words that are drawn for their operands.
use Rattle.std.specs.Prelude.{ℕ, ◌+◌, List, [], ◌∷◌, ◌++◌, pos, ◌-ℤ◌, ◌==◌, if◌then◌else◌, codes, decimal, flat_map}
use Rattle.std.specs.Fmt.{signed_decimal}
use Rattle.script_gen.specs.declared.lines.Operand.{Operand}
use Rattle.script_gen.specs.declared.lines.Operand.TheVariants.{Number, Seen, Object, NumberedList, WeakMap}
use Rattle.script_gen.specs.declared.lines.Operand.TheVariants.{Field, Value}
use Rattle.script_gen.specs.Draws.{next, drawn}

-- a line: the word of its command, and the words of its operands
pub record Line : Type 0 where
  pub command : List ℕ
  pub operands : List (List ℕ)

-- a line as it is written: its words one space apart, and a line feed
abbrev pub line_text : Line → List ℕ
line_text line = line.command ++ flat_map (λ word. 32 ∷ word) line.operands ++ 10 ∷ []

-- a word that was drawn, and the state after its draws
pub record Drawn : Type 0 where
  pub word : List ℕ
  pub state : ℕ

-- one of the objects `o0` to `o7`
abbrev pub drawn_object : ℕ → Drawn
drawn_object state = record { word = codes "o" ++ decimal (drawn 8 (next state)); state = next state }

-- A value of this kind: a small integer from -1000 to 1000, a wide one from 1000000000000 to 1000000000999, an object,
-- or `undefined`.
abbrev pub drawn_value : ℕ → ℕ → Drawn
drawn_value kind state =
    if kind == 0 then record { word = signed_decimal (pos (drawn 2001 (next state)) -ℤ pos 1000); state = next state }
    else (if kind == 1 then record { word = decimal (1000000000000 + drawn 1000 (next state)); state = next state }
    else (if kind == 2 then drawn_object state
    else record { word = codes "undefined"; state = state }))

-- the word of an operand, by the state before it
abbrev pub drawn_word : Operand → ℕ → Drawn
drawn_word (Number n) state = record { word = decimal n; state = state }
drawn_word Seen state = record { word = codes "v"; state = state }
drawn_word Object state = drawn_object state
drawn_word (NumberedList n) state = record { word = codes "l" ++ decimal n; state = state }
drawn_word WeakMap state = record { word = codes "w" ++ decimal (drawn 2 (next state)); state = next state }
drawn_word Field state = record { word = (97 + drawn 4 (next state)) ∷ []; state = next state }
drawn_word Value state = drawn_value (drawn 4 (next state)) (next state)

-- the words of operands: their draws come in the order in which they stand
abbrev pub drawn_words : List Operand → ℕ → List (List ℕ)
drawn_words [] state = []
drawn_words (operand ∷ more) state = (drawn_word operand state).word ∷ drawn_words more (drawn_word operand state).state

-- the state after the draws for operands
abbrev pub state_after : List Operand → ℕ → ℕ
state_after [] state = state
state_after (operand ∷ more) state = state_after more (drawn_word operand state).state
