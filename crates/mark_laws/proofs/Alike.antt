-- A cell is read alike from lists of words in which its header and its length are the same.
use Rattle.std.proofs.Common.{ℕ, ◌+◌, ◌<◌, ◌≤◌, ◌≡◌, ◌∙◌, zero, suc, Bool, true, false, List, [], ◌∷◌}
use Rattle.std.proofs.Common.{length, min, take, slice_get, slice_index, Option, Some, None, refl, sym, ap, arith}
use Rattle.std.proofs.lemmas.List.{get_or-take, length-take}
use Rattle.mark_laws.specs.Types.{Reading}
use Rattle.tagged_word.specs.Cells.{has_length, length_by, length_offset}
use Rattle.tagged_word.specs.Readings.{read_cell}
use Rattle.tagged_word.proofs.CellReadings.{cell_from, cell_to}
use Rattle.mark_world.specs.Pages.{cell_at, page_end}
use Rattle.mark_laws.proofs.Reading.{size_one, size_two}

-- the length, if there is one, is the same where its word is
second_alike : (long : Bool) (was is value : Option ℕ) → (long ≡ true → is ≡ was) → length_by long was ≡ value
    → length_by long is ≡ value
second_alike true was is value same e = same refl ∙ e
second_alike false was is value same e = e

-- a cell is read alike where its header and its length are the same
pub read_alike : (words others layouts : List ℕ) (start bound : ℕ) (cell : Reading)
    → read_cell words layouts start bound ≡ Some cell → slice_get others start ≡ slice_get words start
    → (has_length cell.layout.kind ≡ true
    → slice_get others (start + length_offset) ≡ slice_get words (start + length_offset))
    → start + cell.size ≤ length others → read_cell others layouts start bound ≡ Some cell
read_alike words others layouts start bound cell e first second within =
    let reads = cell_from words layouts start bound cell e in
    cell_to others layouts start bound cell record {
      is_header = reads.is_header;
      first = first ∙ reads.first;
      known = reads.known;
      is_layout = reads.is_layout;
      of_shape = reads.of_shape;
      second = second_alike (has_length cell.layout.kind) (slice_get words (start + length_offset))
          (slice_get others (start + length_offset)) (Some cell.length) second reads.second;
      sized = reads.sized;
      ends = reads.ends;
      there = within;
    }

-- a number below those that are taken is as it was
take_get : (count : ℕ) (list : List ℕ) (k : ℕ) → k < count → slice_get (take count list) k ≡ slice_get list k
take_get zero list k below = absurd (omega (arith, below))
take_get (suc count) [] k below = refl
take_get (suc count) (x ∷ xs) zero below = refl
take_get (suc count) (x ∷ xs) (suc k) below = take_get count xs k (omega (arith, below))

-- words that are the same up to an address are so one by one
pub same_get : (old : ℕ) (words others : List ℕ) → take old others ≡ take old words → (k : ℕ) → k < old
    → slice_get others k ≡ slice_get words k
same_get old words others same k below =
    sym (take_get old others k below) ∙ ap (λ (list : List ℕ). slice_get list k) same ∙ take_get old words k below

-- the same of a word as it is read, 0 past the end
pub same_index : (old : ℕ) (words others : List ℕ) → take old others ≡ take old words → (k : ℕ) → k < old
    → slice_index others k ≡ slice_index words k
same_index old words others same k below =
    sym (get_or-take old others k 0 below) ∙ ap (λ (list : List ℕ). slice_index list k) same
    ∙ get_or-take old words k 0 below

-- so many words as are read are there in both
within_both : (old : ℕ) (words others : List ℕ) → take old others ≡ take old words → (n : ℕ) → n ≤ old
    → n ≤ length words → n ≤ length others
within_both old words others same n below within =
    let were : length (take old words) ≡ min old (length words) = length-take old words in
    let are : length (take old others) ≡ min old (length others) = length-take old others in
    let both : length (take old others) ≡ length (take old words) = ap length same in
    omega (arith, were, are, both, below, within)

-- a cell of a page is read alike where the words of the pages are the same
pub page_cell : (old : ℕ) (words others layouts : List ℕ) → take old others ≡ take old words → (at : ℕ)
    (cell : Reading) → cell_at old words layouts at ≡ Some cell → cell_at old others layouts at ≡ Some cell
page_cell old words others layouts same at cell e =
    let bound : ℕ = min old (page_end at) in
    let reads = cell_from words layouts at bound cell e in
    let ends : at + cell.size ≤ min old (page_end at) = reads.ends in
    let one = size_one words layouts at bound cell e in
    read_alike words others layouts at bound cell e
    (same_get old words others same at (omega (arith, ends, one)))
    (λ long. same_get old words others same (at + length_offset)
    (let two = size_two words layouts at bound cell e long in omega (arith, ends, two)))
    (within_both old words others same (at + cell.size) (omega (arith, ends)) reads.there)

-- two options with the same value are the same
same_option : {X : Type 0} (a b : Option X) → ((x : X) → a ≡ Some x → b ≡ Some x)
    → ((x : X) → b ≡ Some x → a ≡ Some x) → a ≡ b
same_option None None to from = refl
same_option None (Some y) to from = from y refl
same_option (Some x) b to from = sym (to x refl)

-- so the cells are the same
pub page_cells : (old : ℕ) (words others layouts : List ℕ) → take old others ≡ take old words → (at : ℕ)
    → cell_at old others layouts at ≡ cell_at old words layouts at
page_cells old words others layouts same at =
    same_option (cell_at old others layouts at) (cell_at old words layouts at)
    (λ cell e. page_cell old others words layouts (sym same) at cell e)
    (λ cell e. page_cell old words others layouts same at cell e)
