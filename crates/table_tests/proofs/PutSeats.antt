-- A bare seat stays so where words are put.
use Rattle.std.proofs.Common.{◌≡◌, ℕ, ◌+◌, IsTrue, is_some, List, length, min, take, drop, slice_set}
use Rattle.std.proofs.Common.{Option, Some, None}
use Rattle.std.proofs.Common.{option_map, refl, sym, subst, ◌∙◌, arith}
use Rattle.std.proofs.lemmas.List.{length-set, length-take}
use Rattle.page_space.specs.Extents.{Space, eden_start, layouts_start}
use Rattle.tagged_word.specs.Shapes.{shapes_most}
use Rattle.cell_layout.specs.Cells.{layouts_in}
use Rattle.heap_table.specs.Seats.{Beside, Seat, with_layout, with_read_layout}
use Rattle.heap_table.specs.Overviews.{known, overview}
use Rattle.table_tests.specs.BareSeats.{IsBareSeat}
use Rattle.table_tests.specs.OneCell.{IsBare}

-- as many words of pages are there after one was put
as_many : (n : ℕ) (table : List ℕ) (a word : ℕ) → length (take n table) ≡ n
    → length (take n (slice_set table a word)) ≡ n
as_many n table a word before =
    let one : length (take n table) ≡ min n (length table) = length-take n table in
    let two : length (take n (slice_set table a word)) ≡ min n (length (slice_set table a word)) =
    length-take n (slice_set table a word) in
    let same : length (slice_set table a word) ≡ length table = length-set table a word in
    omega (arith, before, one, two, same)

-- a word is put
pub bare_put : (seat : Seat) (a word : ℕ) → IsBareSeat seat
    → IsBareSeat (record seat { table = slice_set seat.table a word })
bare_put seat a word bare = record {
  shared = bare.shared;
  bare = record {
    phase = bare.bare.phase;
    home = bare.bare.home;
    pages = bare.bare.pages;
    addresses = bare.bare.addresses;
    words = as_many (eden_start seat.space) seat.table a word bare.bare.words;
    layouts = bare.bare.layouts;
    colours = bare.bare.colours;
    board = bare.bare.board;
    out = bare.bare.out;
  };
}

-- what is known of a shared table with a layout word put
known_put : (o : Option Beside) (shape word : ℕ) → IsTrue (is_some o)
    → known (option_map (with_read_layout shape word) o) ≡ with_read_layout shape word (known o)
known_put None shape word there = absurd cc
known_put (Some beside) shape word there = refl

-- there is one still
still_shared : (o : Option Beside) (shape word : ℕ) → IsTrue (is_some o)
    → IsTrue (is_some (option_map (with_read_layout shape word) o))
still_shared None shape word there = absurd cc
still_shared (Some beside) shape word there = refl

-- the layout words that helpers read then
pub read_layouts : (seat : Seat) (shape word : ℕ) → IsBareSeat seat
    → (overview (with_layout seat shape word)).layouts ≡ slice_set (overview seat).layouts shape word
read_layouts seat shape word bare =
    subst (λ (b : Beside). b.layouts ≡ slice_set (known seat.shared).layouts shape word)
    (sym (known_put seat.shared shape word bare.shared)) refl

-- a layout word is put
pub bare_layout : (seat : Seat) (shape word : ℕ) → IsBareSeat seat → IsBareSeat (with_layout seat shape word)
bare_layout seat shape word bare =
    let words : List ℕ = take (eden_start seat.space) (slice_set seat.table (layouts_start seat.space + shape) word) in
    record {
      shared = still_shared seat.shared shape word bare.shared;
      bare =
          subst (λ (b : Beside). IsBare (record (overview seat) {
            home = b.home;
            words = words;
            layouts = b.layouts;
            colours = b.colours;
            board = b.board;
            view = b.view;
            reached = b.reached;
            made = b.made;
            dead = b.dead;
            out = b.out;
            lent = b.lent;
          })) (sym (known_put seat.shared shape word bare.shared)) (record {
            phase = bare.bare.phase;
            home = bare.bare.home;
            pages = bare.bare.pages;
            addresses = bare.bare.addresses;
            words = as_many (eden_start seat.space) seat.table (layouts_start seat.space + shape) word bare.bare.words;
            layouts = length-set (overview seat).layouts shape word ∙ bare.bare.layouts;
            colours = bare.bare.colours;
            board = bare.bare.board;
            out = bare.bare.out;
          });
    }

-- the layout words of all shapes, among the own words
pub layouts_are : (space : Space) (table : List ℕ)
    → layouts_in space table ≡ take shapes_most (drop (layouts_start space) table)
unfolding layouts_in
layouts_are space table = refl
