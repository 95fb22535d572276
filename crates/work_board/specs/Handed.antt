-- What is given to the board and taken from it.
use Rattle.std.specs.Prelude.{◌≡◌, ◌≢◌, ℕ, ◌<◌, Contains, Option, Some, None, Result, Ok, Err}
use Rattle.tagged_word.specs.declared.word.Class.TheVariants.{Ref}
use Rattle.tagged_word.specs.Words.{bits_of}
use Rattle.mark_world.specs.declared.event.Event.TheVariants as event
use Rattle.shared_table.specs.Changes.{told}
use Rattle.shared_table.specs.HelperTold.{learned, own_number}
use Rattle.shared_table.specs.Seats.{Helping, Side}
use Rattle.work_board.specs.declared.Occupied.{Occupied}

-- the result says whether a word was 0, and else the word
abbrev pub IfEmpty : ℕ → Result Unit Occupied → Type 0
IfEmpty found (Ok done) = found ≡ 0
IfEmpty found (Err occupied) = (occupied.found ≡ found) × (found ≢ 0)

-- the word that a result says was found where a cell was given
abbrev pub word_found : Result Unit Occupied → ℕ
word_found (Ok done) = 0
word_found (Err occupied) = occupied.found

-- the word that a result says was taken
abbrev pub word_taken : Option ℕ → ℕ
word_taken None = 0
word_taken (Some at) = bits_of (Ref at)

-- A seat gave a cell to a place, by one event; the result says which word was there.
pub record IsGiven (before after : Helping) (place at : ℕ) (result : Result Unit Occupied) : Type 0 where
  pub gave : after ≡ record before {
    lent = learned before.lent (event.Give own_number place at) (word_found result);
  }
  pub found : IfEmpty (word_found result) result

-- a seat took what was at a place, by one event; the result says what was there, and a cell is old
pub record IsTaken (before after : Helping) (place : ℕ) (result : Option ℕ) : Type 0 where
  pub took : after ≡ record before { lent = learned before.lent (event.Take own_number place) (word_taken result) }
  pub old : (at : ℕ) → result ≡ Some at → at < before.lent.counts.old

-- the main seat gave a cell to a place
pub record IsGivenByMain (before after : Side) (place at : ℕ) (result : Result Unit Occupied) : Type 0 where
  pub gave : after ≡ record before { main = told before.main (event.GiveMain place at) (word_found result) }
  pub found : IfEmpty (word_found result) result

-- the main seat took what was at a place, and a cell there is born
pub record IsTakenByMain (before after : Side) (place : ℕ) (result : Option ℕ) : Type 0 where
  pub took : after ≡ record before { main = told before.main (event.TakeMain place) (word_taken result) }
  pub born : (at : ℕ) → result ≡ Some at → Contains before.main.view.born at
