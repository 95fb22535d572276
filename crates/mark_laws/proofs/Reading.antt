-- A cell is read as before where its header, its length and its layout stay.
use Rattle.std.proofs.Common.{ℕ, ◌+◌, ◌≤◌, ◌≡◌, ◌≢◌, ◌∙◌, Bool, true, false, List, []}
use Rattle.std.proofs.Common.{◌∷◌, zero, suc}
use Rattle.std.proofs.Common.{slice_set, slice_get, Option, Some, refl, sym, ap, arith}
use Rattle.std.proofs.lemmas.Bool.Decides.{nat_tests}
use Rattle.std.proofs.lemmas.List.{length-set}
use Rattle.mark_laws.specs.Types.{Kind, Reading}
use Rattle.tagged_word.specs.declared.layout.Kind.TheVariants as kind
use Rattle.tagged_word.specs.Cells.{has_length, length_by, length_offset, words_least, words_of}
use Rattle.tagged_word.specs.Readings.{read_cell}
use Rattle.tagged_word.proofs.Cells.{size_bounds, size_is}
use Rattle.tagged_word.proofs.CellReadings.{cell_from, cell_to}
use Rattle.mark_world.specs.Pages.{is_head_of}

-- a number that is put leaves the others
pub slice_get_other : (xs : List ℕ) (i j value : ℕ) → j ≢ i → slice_get (slice_set xs i value) j ≡ slice_get xs j
slice_get_other [] i j value other = refl
slice_get_other (x ∷ xs) zero zero value other = absurd (other refl)
slice_get_other (x ∷ xs) zero (suc j) value other = refl
slice_get_other (x ∷ xs) (suc i) zero value other = refl
slice_get_other (x ∷ xs) (suc i) (suc j) value other = slice_get_other xs i j value (λ e. other (ap (λ n. suc n) e))

-- a cell whose size is read from a length has two words at least
long_two : (k : Kind) (cap long : ℕ) → has_length k ≡ true → words_least k ≤ words_of k cap long
    → 2 ≤ words_of k cap long
long_two kind.Plain cap long t l = cc
long_two kind.List cap long t l = cc
long_two kind.Weak cap long t l = cc
long_two kind.Store cap long t l = omega arith
long_two kind.Table cap long t l = omega arith
long_two kind.Boxed cap long t l = cc
long_two kind.Filler cap long t l = cc
long_two kind.Gap cap long t l = l

-- a word lies outside the part of a cell by which it is read
pub record IsApart (start : ℕ) (cell : Reading) (at : ℕ) : Type 0 where
  pub header : at ≢ start
  pub length : has_length cell.layout.kind ≡ true → at ≢ start + length_offset

-- the second word, if it counts, is as before
second_stays : (words : List ℕ) (start at word : ℕ) (long : Bool) (value : Option ℕ)
    → (long ≡ true → at ≢ start + length_offset)
    → length_by long (slice_get words (start + length_offset)) ≡ value
    → length_by long (slice_get (slice_set words at word) (start + length_offset)) ≡ value
second_stays words start at word true value apart e =
    slice_get_other words at (start + length_offset) word (λ same. apart refl (sym same)) ∙ e
second_stays words start at word false value apart e = e

-- a store elsewhere leaves the cell as it was
pub cell_stays : (words layouts : List ℕ) (start bound at word : ℕ) (cell : Reading)
    → read_cell words layouts start bound ≡ Some cell
    → IsApart start cell at → read_cell (slice_set words at word) layouts start bound ≡ Some cell
cell_stays words layouts start bound at word cell e apart =
    let reads = cell_from words layouts start bound cell e in
    cell_to (slice_set words at word) layouts start bound cell record {
      is_header = reads.is_header;
      first = slice_get_other words at start word (λ same. apart.header (sym same)) ∙ reads.first;
      known = reads.known;
      is_layout = reads.is_layout;
      of_shape = reads.of_shape;
      second = second_stays words start at word (has_length cell.layout.kind) (Some cell.length) apart.length
          reads.second;
      sized = reads.sized;
      ends = reads.ends;
      there = omega (arith, reads.there, length-set words at word);
    }

-- a cell has a word
pub size_one : (words layouts : List ℕ) (start bound : ℕ) (cell : Reading)
    → read_cell words layouts start bound ≡ Some cell → 1 ≤ cell.size
size_one words layouts start bound cell e =
    (size_bounds cell.layout cell.length cell.size (cell_from words layouts start bound cell e).sized).0

-- and two, if its size is read from a length
pub size_two : (words layouts : List ℕ) (start bound : ℕ) (cell : Reading)
    → read_cell words layouts start bound ≡ Some cell → has_length cell.layout.kind ≡ true → 2 ≤ cell.size
size_two words layouts start bound cell e long =
    let reads = cell_from words layouts start bound cell e in
    let size = size_is (words_least cell.layout.kind) (words_of cell.layout.kind cell.layout.cap cell.length) cell.size
    reads.sized in
    let two = long_two cell.layout.kind cell.layout.cap cell.length long size.1 in
    omega (arith, size.0, two)

-- the first word is its head
head_here : (start : ℕ) (cell : Reading) (at : ℕ) → at ≡ start → 1 ≤ cell.size
    → is_head_of start (Some cell) at ≡ false → ⊥
head_here start cell at same one e = grind (arith, nat_tests)

-- and so is the second, if it is a length
length_here : (start : ℕ) (cell : Reading) (at : ℕ) → has_length cell.layout.kind ≡ true
    → at ≡ start + length_offset → 2 ≤ cell.size
    → is_head_of start (Some cell) at ≡ false → ⊥
length_here start cell at long same two e = grind (arith, nat_tests)

-- a word that is not its head lies apart
pub not_head_apart : (words layouts : List ℕ) (start bound at : ℕ) (cell : Reading)
    → read_cell words layouts start bound ≡ Some cell
    → is_head_of start (Some cell) at ≡ false → IsApart start cell at
not_head_apart words layouts start bound at cell e no_head = record {
  header = λ same. head_here start cell at same (size_one words layouts start bound cell e) no_head;
  length = λ long same. length_here start cell at long same (size_two words layouts start bound cell e long) no_head;
}

-- a store into a word that is no head of a cell leaves the cell as it was
pub store_keeps : (words layouts : List ℕ) (start bound at word : ℕ) (cell : Reading)
    → read_cell words layouts start bound ≡ Some cell
    → is_head_of start (Some cell) at ≡ false → read_cell (slice_set words at word) layouts start bound ≡ Some cell
store_keeps words layouts start bound at word cell e no_head =
    cell_stays words layouts start bound at word cell e (not_head_apart words layouts start bound at cell e no_head)
