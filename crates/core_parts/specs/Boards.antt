-- The board: words over which seats hand cells to one another. Each is 0 or the reference to a cell. What a step does
-- to a word and to its seat's list is a function of the word that it finds there.
use Rattle.std.specs.Prelude.{◌≡◌, ◌≢◌, ℕ, ◌<◌, ◌^◌, ◌==◌, List, length, slice_set, slice_index}
use Rattle.std.specs.Prelude.{replicate, Option, Some, None, All, ◌⊎◌, IsSome, if◌then◌else◌}
use Rattle.tagged_word.specs.declared.word.Class.TheVariants.{Ref}
use Rattle.tagged_word.specs.Words.{bits_of}
use Rattle.tagged_word.specs.Readings.{reference_in}
use Rattle.page_space.specs.Extents.{board_words}
use Rattle.core_parts.specs.Lists.{joined, left}

-- a word of the board: 0, or the reference to a cell
abbrev pub IsBoardWord : ℕ → Type 0
IsBoardWord word = (word ≡ 0) ⊎ IsSome (reference_in word)

-- a board: so many words, each one of a board
pub record IsBoard (board : List ℕ) : Type 0 where
  pub count : length board ≡ board_words
  pub each : All IsBoardWord board

-- the word after a cell was given to it, by the word found: 0 becomes the reference, another word stays
abbrev pub given_word : ℕ → ℕ → ℕ
given_word found address = if found == 0 then bits_of (Ref address) else found

-- the giver's list then: the cell leaves it where the word was 0
abbrev pub giver_left : List ℕ → ℕ → ℕ → List ℕ
giver_left list found address = if found == 0 then left list address else list

-- the word after it was taken, by the word found: 0
abbrev pub taken_word : ℕ → ℕ
taken_word found = 0

-- the list once the cell has joined, if there is one
abbrev pub joined_by : List ℕ → Option ℕ → List ℕ
joined_by list None = list
joined_by list (Some address) = joined list address

-- the taker's list then: the cell that the word refers to joins it
abbrev pub taker_joined : List ℕ → ℕ → List ℕ
taker_joined list found = joined_by list (reference_in found)

-- a board with no cell
abbrev pub empty_board : List ℕ
empty_board = replicate board_words 0

-- a board with no cell is a board
abbrev pub EmptyIsBoard : Type 0
EmptyIsBoard = IsBoard empty_board

-- a cell that is given to a word 0 stands there, and has left the giver
abbrev pub GivenStands : Type 0
GivenStands = (list : List ℕ) (address : ℕ)
    → (given_word 0 address ≡ bits_of (Ref address)) × (giver_left list 0 address ≡ left list address)

-- where the word is not 0, a give changes neither the word nor the list
abbrev pub LostGiveChangesNothing : Type 0
LostGiveChangesNothing = (list : List ℕ) (found address : ℕ) → found ≢ 0
    → (given_word found address ≡ found) × (giver_left list found address ≡ list)

-- what was given to a word 0 joins the list of the taker
abbrev pub GivenIsTaken : Type 0
GivenIsTaken = (list : List ℕ) (address : ℕ) → address < 2 ^ 32
    → taker_joined list (given_word 0 address) ≡ joined list address

-- what was found is 0 once it is taken, so one who takes it next joins nothing
abbrev pub TakenIsEmptied : Type 0
TakenIsEmptied = (list : List ℕ) (found : ℕ) → (taken_word found ≡ 0) × (taker_joined list (taken_word found) ≡ list)

-- where the word is 0, a take changes neither the word nor the list
abbrev pub TakenOfNoneChangesNothing : Type 0
TakenOfNoneChangesNothing = (list : List ℕ) → (taken_word 0 ≡ 0) × (taker_joined list 0 ≡ list)

-- a board stays one, when a cell is given to a word of it, and when a word is taken
abbrev pub BoardsStayBoards : Type 0
BoardsStayBoards = (board : List ℕ) (place address : ℕ) → place < length board → address < 2 ^ 32 → IsBoard board
    → IsBoard (slice_set board place (given_word (slice_index board place) address))
    × IsBoard (slice_set board place (taken_word (slice_index board place)))
