-- What giving to the board and taking from it come to.
use Rattle.std.proofs.Common.{ℕ, ◌<◌, ◌^◌, ◌≡◌, ◌≢◌, ◌==◌, inl, inr, true, false, List, length, get_or}
use Rattle.std.proofs.Common.{replicate, Some, IsSome, if◌then◌else◌, refl, sym, ap, subst, ◌∙◌, eqb-true}
use Rattle.std.proofs.Math.ListN.{set, length-set}
use Rattle.std.proofs.lemmas.List.Elements.{All-set, All-get_or, All-replicate}
use Rattle.tagged_word.specs.declared.word.Class.TheVariants.{Ref}
use Rattle.tagged_word.specs.Words.{bits_of}
use Rattle.tagged_word.specs.Readings.{reference_in}
use Rattle.tagged_word.proofs.Readings.{reference_to}
use Rattle.page_space.specs.Extents.{board_words}
use Rattle.core_parts.specs.Lists.{joined, left}
use Rattle.core_parts.specs.Boards.{IsBoardWord, IsBoard, given_word, giver_left, taken_word, joined_by, taker_joined}
use Rattle.core_parts.proofs.Joining.{decided}

-- the reference to a cell is read as its address
reference_read : (address : ℕ) → address < 2 ^ 32 → reference_in (bits_of (Ref address)) ≡ Some address
reference_read address fits = reference_to (bits_of (Ref address)) address fits refl

-- what was given to a word 0 joins the list of the taker
pub given_is_taken : (list : List ℕ) (address : ℕ) → address < 2 ^ 32 →
    taker_joined list (given_word 0 address) ≡ joined list address
given_is_taken list address fits = ap (joined_by list) (reference_read address fits)

-- where the word is not 0, the test of it fails
in_use : (found : ℕ) → found ≢ 0 → (found == 0) ≡ false
in_use found other = elim (decided (found == 0)) [ inl t ↦ absurd (other (eqb-true _ _ t)) | inr f ↦ f ]

-- where the word is not 0, a give changes neither the word nor the list
pub lost_give : (list : List ℕ) (found address : ℕ) → found ≢ 0 →
    (given_word found address ≡ found) × (giver_left list found address ≡ list)
lost_give list found address other = (
  ap (λ b. if b then bits_of (Ref address) else found) (in_use found other),
  ap (λ b. if b then left list address else list) (in_use found other),
)

-- the reference to a cell is a word of a board
reference_is : (address : ℕ) → address < 2 ^ 32 → IsBoardWord (bits_of (Ref address))
reference_is address fits = inr (subst IsSome (sym (reference_read address fits)) refl)

-- a word that a cell was given to is one of a board, if it was one before
pub given_is_board_word : (found address : ℕ) → address < 2 ^ 32 → IsBoardWord found →
    IsBoardWord (given_word found address)
given_is_board_word found address fits is =
    elim (found == 0) as (λ b. IsBoardWord (if b then bits_of (Ref address) else found))
    [ true ↦ reference_is address fits | false ↦ is ]

-- a board stays one when a word of it becomes another word of a board
pub board_with : (board : List ℕ) (place word : ℕ) → IsBoard board → IsBoardWord word → IsBoard (set board place word)
board_with board place word is new = record {
  count = length-set board place word ∙ is.count;
  each = All-set IsBoardWord board place word new is.each;
}

-- it stays one when a cell is given to it
pub board_given : (board : List ℕ) (place address : ℕ) → place < length board → address < 2 ^ 32 → IsBoard board →
    IsBoard (set board place (given_word (get_or board place 0) address))
board_given board place address within fits is =
    board_with board place (given_word (get_or board place 0) address) is
    (given_is_board_word (get_or board place 0) address fits (All-get_or IsBoardWord board place 0 within is.each))

-- and when a word of it is taken
pub board_taken : (board : List ℕ) (place : ℕ) → IsBoard board →
    IsBoard (set board place (taken_word (get_or board place 0)))
board_taken board place is = board_with board place 0 is (inl refl)

-- so many words 0 are a board
pub empty_is_board : IsBoard (replicate board_words 0)
empty_is_board = record { count = refl; each = All-replicate IsBoardWord board_words 0 (inl refl) }
