-- The copy of a cell in a room, where no home copy stands.
use Rattle.std.proofs.Common.{ℕ, zero, suc, ◌+◌, ◌-◌, ◌<◌, ◌≤◌, ◌≡◌, List, length, set, get_or}
use Rattle.std.proofs.Common.{arith, refl, sym, ap, subst, ◌∙◌}
use Rattle.std.specs.List.{Contains}
use Rattle.word_store.specs.Copies.{copied}
use Rattle.word_store.proofs.CopiedWords.{copied_none, copied_more, get_or-copied}
use Rattle.heap_model.specs.Types.{Cell}
use Rattle.scav_copy.specs.declared.places.Home.{Home}
use Rattle.scav_copy.specs.declared.places.Room.{Room}
use Rattle.scav_copy.specs.Places.{Fixed, size_of, IsInRooms, IsInCopies, IsLaidOut, StoodAt}
use Rattle.scav_copy.specs.Renamings.{IsReachable}
use Rattle.scav_copy.specs.Copies.{with_home, HasNoHome, LiesInRoom, Copying, IsCopyAt}
use Rattle.scav_copy.proofs.Spots.{cell_ends, some_words, elsewhere}
use Rattle.scav_copy.proofs.Filling.{rooms_may_be_filled, free_is_not_live}
use Rattle.scav_copy.proofs.Moving.{cells_may_move}
use Rattle.scavenger.specs.Following.{moved_words}
use Rattle.scavenger.proofs.PagesCells.{header_stays}

-- Words are put one after another, each where a word of a room is in no home copy.
pub data Fills (fixed : Fixed) (homes : List Home) (words : List ℕ) : List ℕ → Type 0 where
  stays : Fills fixed homes words words
  puts : (now : List ℕ) (at word : ℕ) → Fills fixed homes words now → IsInRooms fixed at
      → (IsInCopies fixed homes at → ⊥) → Fills fixed homes words (set now at word)

-- so the words are still copying
pub fills_copying : {fixed : Fixed} {words : List ℕ} {homes : List Home} {now : List ℕ} → IsLaidOut fixed
    → Copying fixed words homes → Fills fixed homes words now → Copying fixed now homes
fills_copying laid copying Fills.stays = copying
fills_copying {fixed} {homes = homes} laid copying (Fills.puts now at word fills in_room free) =
    rooms_may_be_filled fixed now homes at word laid (fills_copying laid copying fills) in_room free

-- and live slots keep their words
pub fills_live : {fixed : Fixed} {words : List ℕ} {homes : List Home} {now : List ℕ} (slot place : ℕ) → IsLaidOut fixed
    → StoodAt fixed homes slot place → Fills fixed homes words now → get_or now slot 0 ≡ get_or words slot 0
fills_live slot place laid stood Fills.stays = refl
fills_live slot place laid stood (Fills.puts now at word fills in_room free) =
    elsewhere now at word slot (free_is_not_live at slot place laid in_room free stood)
    ∙ fills_live slot place laid stood fills

-- A cell that was reached has no home, and from an address on a room has as many words that are in no home copy.
pub record FitsCopy (fixed : Fixed) (words : List ℕ) (homes : List Home) (cell : Cell) (to : ℕ) : Type 0 where
  pub laid : IsLaidOut fixed
  pub copying : Copying fixed words homes
  pub size : cell.size ≡ size_of fixed cell.at
  pub room : Room
  pub lies : LiesInRoom fixed room to cell.size
  pub free : (at : ℕ) → to ≤ at → at < to + cell.size → IsInCopies fixed homes at → ⊥
  pub is : Contains fixed.cells cell.at
  pub reached : IsReachable fixed cell.at
  pub none : HasNoHome homes cell.at

-- each word of the copy is a word of a room
copy_in_rooms : {fixed : Fixed} {words : List ℕ} {homes : List Home} {cell : Cell} {to : ℕ} (at : ℕ)
    → FitsCopy fixed words homes cell to → to ≤ at → at < to + cell.size → IsInRooms fixed at
copy_in_rooms at fits from below = (
  fits.room,
  fits.lies.among,
  record { from = omega (arith, fits.lies.from, from); below = omega (arith, fits.lies.ends, below) },
)

-- the cell is there
pub cell_is_there : {fixed : Fixed} {words : List ℕ} {homes : List Home} {cell : Cell} {to : ℕ}
    → FitsCopy fixed words homes cell to → cell.at + cell.size ≤ length words
cell_is_there {fixed} {cell = cell} fits =
    omega (arith, cell_ends fixed cell.at (fits.laid.cells_are cell.at fits.is), fits.size, fits.copying.long)

-- and so are the words that it is copied to
pub copy_is_there : {fixed : Fixed} {words : List ℕ} {homes : List Home} {cell : Cell} {to : ℕ}
    → FitsCopy fixed words homes cell to → to + cell.size ≤ length words
copy_is_there {fixed} {words} {cell = cell} {to} fits =
    let some : 1 ≤ cell.size = omega (arith, fits.size, some_words cell.at fits.laid fits.is) in
    let last : ℕ = to + cell.size - 1 in
    let inside : last < length fixed.before =
    fits.laid.rooms_there last (copy_in_rooms last fits (omega (arith, some)) (omega (arith, some))) in
    omega (arith, some, inside, fits.copying.long)

-- the first words of the cell are put one after another
first_copied : {fixed : Fixed} {words : List ℕ} {homes : List Home} {cell : Cell} {to : ℕ} (many : ℕ)
    → FitsCopy fixed words homes cell to → many ≤ cell.size
    → Fills fixed homes words (copied words cell.at to many)
first_copied {fixed} {words} {homes} {cell} {to} zero fits few =
    subst (Fills fixed homes words) (copied_none words cell.at to (omega (arith, copy_is_there fits))) Fills.stays
first_copied {fixed} {words} {homes} {cell} {to} (suc many) fits few =
    let word : ℕ = get_or words (cell.at + many) 0 in
    let next : many + 1 ≡ suc many = omega arith in
    let less : many < cell.size = omega (arith, few) in
    let low : to ≤ to + many = omega arith in
    let high : to + many < to + cell.size = omega (arith, less) in
    subst (Fills fixed homes words)
    (copied_more words cell.at to cell.size many word (cell_is_there fits) (copy_is_there fits) less refl
    ∙ ap (copied words cell.at to) next)
    (Fills.puts (copied words cell.at to many) (to + many) word (first_copied many fits (omega (arith, few)))
    (copy_in_rooms (to + many) fits low high) (fits.free (to + many) low high))

-- and all are
pub all_copied : {fixed : Fixed} {words : List ℕ} {homes : List Home} {cell : Cell} {to : ℕ}
    → FitsCopy fixed words homes cell to → Fills fixed homes words (copied words cell.at to cell.size)
all_copied {cell = cell} fits = first_copied cell.size fits (omega arith)

-- all words of a cell with no home are as before
words_before : {fixed : Fixed} {words : List ℕ} {homes : List Home} (cell offset : ℕ) → Copying fixed words homes
    → Contains fixed.cells cell → HasNoHome homes cell → offset < size_of fixed cell
    → get_or words (cell + offset) 0 ≡ get_or fixed.before (cell + offset) 0
words_before {fixed} {words} cell zero copying is none less =
    let back : cell + 0 ≡ cell = omega arith in
    ap (λ (at : ℕ). get_or words at 0) back ∙ header_stays none (copying.headers cell is)
    ∙ sym (ap (λ (at : ℕ). get_or fixed.before at 0) back)
words_before cell (suc k) copying is none less = copying.bodies cell (suc k) is (omega arith) less

-- the words that were copied are a copy of the cell
copy_stands : {fixed : Fixed} {words : List ℕ} {homes : List Home} {cell : Cell} {to : ℕ}
    → FitsCopy fixed words homes cell to → IsCopyAt fixed (copied words cell.at to cell.size) homes cell.at to
copy_stands {fixed} {words} {cell = cell} {to} fits = record {
  room = fits.room;
  lies = record {
    among = fits.lies.among;
    from = fits.lies.from;
    ends = omega (arith, fits.lies.ends, fits.size);
  };
  apart = λ home at there has also.
      fits.free at also.from (omega (arith, also.below, fits.size)) (home, there, has);
  whole = λ offset less.
      let within : offset < cell.size = omega (arith, less, fits.size) in
      get_or-copied words cell.at to cell.size offset 0 (cell_is_there fits) (copy_is_there fits) within
      ∙ words_before cell.at offset fits.copying fits.is fits.none less;
}

-- the home of a cell at an address
abbrev pub home_at : Cell → ℕ → Home
home_at cell to = record { from = cell.at; to = to }

-- with the reference to the copy as the cell's header the words are copying, and the copy is its home
pub copy_is_home : {fixed : Fixed} {words : List ℕ} {homes : List Home} {cell : Cell} {to : ℕ}
    → FitsCopy fixed words homes cell to
    → Copying fixed (moved_words words cell to) (with_home homes (home_at cell to))
copy_is_home {fixed} {words} {homes} {cell} {to} fits =
    cells_may_move fixed (copied words cell.at to cell.size) homes cell.at to fits.laid
    (fills_copying fits.laid fits.copying (all_copied fits)) fits.reached fits.none (copy_stands fits)
