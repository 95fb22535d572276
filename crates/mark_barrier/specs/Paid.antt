-- What holds between the whole steps of the mutator, and what such a step leaves.
use Rattle.std.specs.Prelude.{◌≡◌, ◌≢◌, ◌⊎◌, ℕ, ◌+◌, ◌<◌, ◌≤◌, ◌==◌, true, IsTrue, is_some, List, [], ◌∷◌, ◌++◌}
use Rattle.std.specs.Prelude.{Contains}
use Rattle.std.specs.Prelude.{length, replicate, slice_index, slice_set, Option, Some, None, count_by}
use Rattle.page_space.specs.Extents.{eden_start}
use Rattle.mark_barrier.specs.Waiting.{HasRoom, IsOn, Waiting, count_on}
use Rattle.core_parts.specs.declared.note.Note.TheVariants.{Gave, Took}
use Rattle.core_parts.specs.Boards.{empty_board, given_word, giver_left, taker_joined}
use Rattle.core_parts.specs.Lists.{left}
use Rattle.mark_laws.specs.Growing.{Grows}
use Rattle.mark_world.specs.BetweenCommands.{Settled}
use Rattle.mark_world.specs.Cycles.{Cycle}
use Rattle.mark_world.specs.Pages.{target}
use Rattle.mark_world.specs.Soundness.{AreIn}
use Rattle.mark_world.specs.Steps.{black, noted, white}
use Rattle.shared_table.specs.declared.phase.Phase.TheVariants.{Quiet}
use Rattle.shared_table.specs.Worlds.{world_at_home}
use Rattle.heap_table.specs.Overviews.{cycle_in, known, overview, unopened}
use Rattle.heap_table.specs.Seats.{Seat}

-- where colours are at home, that of a cell is black
abbrev pub IsBlackened : Seat → ℕ → Type 0
IsBlackened seat at = (overview seat).home ≡ true → slice_index (overview seat).colours at ≡ black

-- where colours are at home, each cell that was passed over is black
abbrev pub PassedAreBlack : Seat → Waiting → Type 0
PassedAreBlack seat grey = (at : ℕ) → Contains grey.passed.addresses at → IsBlackened seat at

-- Each cell that waits with the mutator is listed or passed over. Each cell that is so is born, and waits or is one
-- that the mutator made black. Where colours are at home, those that were passed over are black.
pub record ListsGrey (seat : Seat) (grey : Waiting) : Type 0 where
  pub room : HasRoom grey (eden_start seat.space)
  pub waits : (at : ℕ) → Contains (overview seat).view.grey at → IsOn grey at
  pub was : (at : ℕ) → IsOn grey at → Contains (overview seat).view.grey at ⊎ Contains (overview seat).view.mine at
  pub born : (at : ℕ) → IsOn grey at → Contains (overview seat).view.born at
  pub passed : PassedAreBlack seat grey

-- The same, but that one cell that waits may be on neither list.
pub record ListsAllBut (seat : Seat) (grey : Waiting) (cell : ℕ) : Type 0 where
  pub room : HasRoom grey (eden_start seat.space)
  pub waits : (at : ℕ) → Contains (left (overview seat).view.grey cell) at → IsOn grey at
  pub was : (at : ℕ) → IsOn grey at → Contains (overview seat).view.grey at ⊎ Contains (overview seat).view.mine at
  pub born : (at : ℕ) → IsOn grey at → Contains (overview seat).view.born at
  pub passed : PassedAreBlack seat grey

-- Grey cells that wait with the mutator are on its lists, and it owes nothing.
pub record IsPaid (seat : Seat) (grey : Waiting) : Type 0 where
  pub lists : ListsGrey seat grey
  pub owed : (overview seat).view.owed ≡ []

-- no colour is less than before, and what was black is black
pub record Darkens (before after : List ℕ) : Type 0 where
  pub count : length after ≡ length before
  pub darker : (at : ℕ) → slice_index before at ≤ slice_index after at
  pub stays : (at : ℕ) → slice_index before at ≡ black → slice_index after at ≡ black

-- each place of the board has what it had, or no cell
pub record IsTakenFrom (before after : List ℕ) : Type 0 where
  pub count : length after ≡ length before
  pub place : (k : ℕ) → (slice_index after k ≡ slice_index before k) ⊎ (slice_index after k ≡ 0)

-- The seat has these own words then, and its cycle is this one. The layout words that helpers read, and how many seats
-- are out, stay. Where colours are at home, none is less than before. What else changes hangs on what steps found:
-- colours, the board, what waits with the mutator, and its log.
pub record MovesTo (old new : Seat) (words : List ℕ) (its_cycle : Cycle) : Type 0 where
  pub space : new.space ≡ old.space
  pub phase : new.phase ≡ old.phase
  pub table : new.table ≡ words
  pub cycle : cycle_in new ≡ its_cycle
  pub id : (known new.shared).id ≡ (known old.shared).id
  pub shared : IsTrue (is_some new.shared)
  pub layouts : (overview new).layouts ≡ (overview old).layouts
  pub home : (overview new).home ≡ (overview old).home
  pub out : (overview new).out ≡ (overview old).out
  pub lent : (overview new).lent ≡ (overview old).lent
  pub darkens : (overview old).home ≡ true → Darkens (overview old).colours (overview new).colours

-- The same, and no cell is given to the board.
pub record StepsTo (old new : Seat) (words : List ℕ) (its_cycle : Cycle) : Type 0 where
  pub moves : MovesTo old new words its_cycle
  pub board : IsTakenFrom (overview old).board (overview new).board

-- A place of the board was taken from, by one step that found a word there: the one that the place had, where the
-- board is at home. The place has 0 then, the step is in the log, and the cell that the word refers to, if any, waits
-- with the mutator.
pub record Takes (old new : Seat) (place : ℕ) : Type 0 where
  pub found : ℕ
  pub there : (overview old).home ≡ true → found ≡ slice_index (overview old).board place
  pub board : (overview new).board ≡ slice_set (overview old).board place 0
  pub log : (overview new).view.log ≡ noted (overview old).view.log (Took place found)
  pub grey : (overview new).view.grey ≡ taker_joined (overview old).view.grey found

-- A cell was given to a place of the board, by one step that found a word there: the one that the place had, where the
-- board is at home. Where that was 0, the place has a reference to the cell then, and the cell does not wait with the
-- mutator. Else the place keeps its word, and what waits with the mutator is as it was. The step is in the log.
pub record IsGivenTo (old new : Seat) (place at : ℕ) : Type 0 where
  pub found : ℕ
  pub there : (overview old).home ≡ true → found ≡ slice_index (overview old).board place
  pub board : (overview new).board ≡ slice_set (overview old).board place (given_word found at)
  pub log : (overview new).view.log ≡ noted (overview old).view.log (Gave place found)
  pub grey : (overview new).view.grey ≡ giver_left (overview old).view.grey found at

-- where colours are at home, that of a cell is not black
abbrev pub IsNotBlack : Seat → ℕ → Type 0
IsNotBlack seat at = (overview seat).home ≡ true → slice_index (overview seat).colours at ≢ black

-- Of the listed cells the last one was found that is not passed over. It waits, it is not black where colours are at
-- home, and it is on neither list any more. Those that were listed after it are passed over: they were before, or were
-- found black. So where colours are at home it is the last listed cell that is not black.
pub record FindsLast (seat : Seat) (before after : Waiting) (at : ℕ) : Type 0 where
  pub behind : List ℕ
  pub listed : before.list.addresses ≡ after.list.addresses ++ at ∷ behind
  pub passed : AreIn after.passed.addresses behind
  pub not_black : IsNotBlack seat at
  pub waits : Contains (overview seat).view.grey at
  pub born : Contains (overview seat).view.born at
  pub below : at < eden_start seat.space
  pub off : IsOn after at → ⊥
  pub lists : ListsAllBut seat after at
  pub owed : (overview seat).view.owed ≡ []

-- Each listed cell is passed over, and none is listed any more. So where colours are at home each is black.
pub record FindsNone (seat : Seat) (before after : Waiting) : Type 0 where
  pub none : after.list.addresses ≡ []
  pub passed : AreIn after.passed.addresses before.list.addresses
  pub paid : IsPaid seat after

-- The last listed cell that is not passed over was given to a place of the board. Those that were listed after it are
-- passed over. It is on neither list then, unless the place had a word.
pub record GivesLast (old new : Seat) (before after : Waiting) (place : ℕ) : Type 0 where
  pub at : ℕ
  pub found : Waiting
  pub last : FindsLast old before found at
  pub passed : after.passed ≡ found.passed
  pub given : IsGivenTo old new place at

-- the last listed cell that is not passed over was given, if there was one; else the seat is as it was
abbrev pub Gives : Seat → Seat → Waiting → Waiting → ℕ → Type 0
Gives old new before after place =
    (FindsNone old before after × (new ≡ old)) ⊎ GivesLast old new before after place

-- Cells that waited were made black: own words, published and born cells, and what was found at the opening, are as
-- before. Cells have joined those that the mutator made black, and those that it is sure of. Where its part was done it
-- is done: it is sure of each target of a tagged slot of a cell that it made black.
pub record Scans (old new : Seat) : Type 0 where
  pub steps : StepsTo old new old.table (cycle_in new)
  pub cycle : cycle_in new ≡ record (cycle_in old) { mine = (cycle_in new).mine; sure = (cycle_in new).sure }
  pub grows : Grows (overview old).view (overview new).view
  pub settled : Settled (world_at_home (overview old)) → Settled (world_at_home (overview new))

-- The cycle is closed: colours are white, no cell is on the board, and the seat knows of no cycle. Its own words, the
-- layout words that helpers read, and how many seats were lent, stay.
pub record IsDropped (old new : Seat) : Type 0 where
  pub space : new.space ≡ old.space
  pub phase : new.phase ≡ Quiet
  pub table : new.table ≡ old.table
  pub id : (known new.shared).id ≡ (known old.shared).id
  pub shared : IsTrue (is_some new.shared)
  pub layouts : (overview new).layouts ≡ (overview old).layouts
  pub home : (overview new).home ≡ (overview old).home
  pub out : (overview new).out ≡ (overview old).out
  pub lent : (overview new).lent ≡ (overview old).lent
  pub colours : (overview new).colours ≡ replicate (eden_start old.space) white
  pub board : (overview new).board ≡ empty_board
  pub cycle : cycle_in new ≡ unopened

-- how many cells are white, of those whose colours are known, and how many are on the lists
abbrev pub left_to_do : Seat → Waiting → ℕ
left_to_do seat grey = count_by (λ colour. colour == white) (overview seat).colours + count_on grey

-- where colours are at home, white cells and those on the lists are together not more than before
abbrev pub AreNoMore : Seat → Waiting → Seat → Waiting → Type 0
AreNoMore old before new after = (overview old).home ≡ true → left_to_do new after ≤ left_to_do old before

-- the list without a target
abbrev pub left_by : List ℕ → Option ℕ → List ℕ
left_by list None = list
left_by list (Some at) = left list at

-- the list without the target of a word, if it has one
abbrev pub without_target : ℕ → List ℕ → ℕ → List ℕ
without_target old list word = left_by list (target old word)

-- where colours are at home, that of a cell is not white
abbrev pub IsColoured : Seat → ℕ → Type 0
IsColoured seat at = (overview seat).home ≡ true → slice_index (overview seat).colours at ≢ white
