-- The places of the cells of pages, and what becomes of the words that refer to them.
use Rattle.std.specs.Prelude.{ℕ, List, Option, Some, None, slice_index_or, nat_lt, if◌then◌else◌}
use Rattle.tagged_word.specs.Readings.{reference_in}
use Rattle.heap_model.specs.Slots.{reference_word}

-- the first address after all pages, and the places by the addresses at which cells begin
pub record Table : Type 0 where
  pub bound : ℕ
  pub places : List ℕ

-- the place of the cell at an address; 0 where the table has none
abbrev pub place_in : Table → ℕ → ℕ
place_in table at = slice_index_or table.places at 0

-- the word that refers to what a word referred to: to a cell of a page at its place
abbrev pub moved_by : Table → Option ℕ → ℕ → ℕ
moved_by table None word = word
moved_by table (Some at) word = if nat_lt at table.bound then reference_word (place_in table at) else word

-- the word of a slot once the cells have moved
abbrev pub moved_word : Table → ℕ → ℕ
moved_word table word = moved_by table (reference_in word) word
