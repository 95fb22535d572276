-- A home copy reads as its cell.
use Rattle.std.proofs.Common.{ℕ, zero, suc, ◌<◌, ◌≤◌, ◌+◌, ◌-◌, ◌*◌, ◌≡◌, Bool, true, false, IsTrue, List, length}
use Rattle.std.proofs.Common.{get_or, slice_get, Option, Some, None, IsSome, arith, refl, sym, ap, ◌∙◌}
use Rattle.std.specs.List.{Contains}
use Rattle.std.proofs.lemmas.Bool.{false≢true}
use Rattle.std.proofs.lemmas.Option.{slice_get-get_or, get_or_from_slice_get}
use Rattle.tagged_word.specs.declared.layout.Kind.{Kind}
use Rattle.tagged_word.specs.declared.layout.Kind.TheVariants as kind
use Rattle.tagged_word.specs.declared.layout.LayoutWord.{LayoutWord}
use Rattle.tagged_word.specs.declared.reading.Reading.{Reading}
use Rattle.tagged_word.specs.declared.word.Class.TheVariants.{Ref}
use Rattle.tagged_word.specs.Words.{bits_of}
use Rattle.tagged_word.specs.Headers.{header_bits}
use Rattle.tagged_word.specs.Cells.{ReadsAs, has_length, length_by, scavenge_offsets, scavenge_offsets_of, store_head}
use Rattle.tagged_word.specs.Cells.{words_of, words_least}
use Rattle.tagged_word.specs.Readings.{read_cell, reference_in}
use Rattle.tagged_word.proofs.Cells.{size_is, size_bounds, two_words_of, slot_within}
use Rattle.tagged_word.proofs.CellReadings.{cell_from, cell_to}
use Rattle.tagged_word.proofs.Members.{range_bounds}
use Rattle.tagged_word.proofs.Readings.{reference_from}
use Rattle.scav_copy.specs.declared.places.Home.{Home}
use Rattle.scav_copy.specs.Places.{Fixed, last_address, cell_before, words_in, offsets_in, size_of, IsLaidOut}
use Rattle.scav_copy.specs.Copies.{Copying}
use Rattle.scav_copy.specs.CopyLaws.{CopiesEnd, CopiesReadAsCells}
use Rattle.scav_copy.proofs.Spots.{cell_ends, none_in, from_is, some_words, copy_in_room}

-- the word that is a length is no slot
second_no_slot : (k : Kind) (layout : LayoutWord) (long : ℕ) → IsTrue (has_length k)
    → Contains (scavenge_offsets_of k layout long) 1 → ⊥
second_no_slot kind.Store layout long has there =
    let low : store_head ≤ 1 = (range_bounds store_head long 1 there).0 in omega (arith, low)
second_no_slot kind.Table layout long has there =
    let low : store_head ≤ 1 = (range_bounds store_head (2 * long) 1 there).0 in omega (arith, low)
second_no_slot kind.Gap layout long has there = none_in 1 there
second_no_slot _ layout long has there = absurd (false≢true has)

-- a length is read of equal second words, where there is one
same_length : (b : Bool) (second other : Option ℕ) (long : ℕ) → (b ≡ true → other ≡ second)
    → length_by b second ≡ Some long → length_by b other ≡ Some long
same_length true second other long same e = same refl ∙ e
same_length false second other long same e = e

-- the words of a cell but for its slots stand from an address on
abbrev StandsAt : List ℕ → ℕ → List ℕ → ℕ → ℕ → List ℕ → Type 0
StandsAt before from words to size offsets =
    (offset : ℕ) → offset < size → (Contains offsets offset → ⊥)
    → get_or words (to + offset) 0 ≡ get_or before (from + offset) 0

-- a word of a copy, as it is found
word_same : (before words : List ℕ) (from to offset : ℕ) → from + offset < length before → to + offset < length words
    → get_or words (to + offset) 0 ≡ get_or before (from + offset) 0
    → slice_get words (to + offset) ≡ slice_get before (from + offset)
word_same before words from to offset within there e =
    slice_get-get_or words (to + offset) 0 there ∙ ap (λ (word : ℕ). Some word) e
    ∙ sym (slice_get-get_or before (from + offset) 0 within)

-- where they do, they read as the cell
reads_copy : (before words layouts : List ℕ) (from to last bound : ℕ) (cell : Reading)
    → ReadsAs before layouts from last cell
    → StandsAt before from words to cell.size (scavenge_offsets cell.layout cell.length)
    → to + cell.size ≤ bound → to + cell.size ≤ length words → ReadsAs words layouts to bound cell
reads_copy before words layouts from to last bound cell reads same ends there =
    let some : 1 ≤ cell.size = (size_bounds cell.layout cell.length cell.size reads.sized).0 in
    let inside : from + cell.size ≤ length before = reads.there in
    let head : Contains (scavenge_offsets cell.layout cell.length) 0 → ⊥ = λ slot.
    let low : 1 ≤ 0 =
    (slot_within cell.layout cell.length cell.size 0 reads.is_layout reads.sized slot).0 in omega (arith, low) in
    let first : slice_get words (to + 0) ≡ slice_get before (from + 0) =
    word_same before words from to 0 (omega arith) (omega arith) (same 0 (omega arith) head) in
    let here : to ≡ to + 0 = omega arith in
    let back : from + 0 ≡ from = omega arith in
    record {
      is_header = reads.is_header;
      first = ap (λ (at : ℕ). slice_get words at) here ∙ first ∙ ap (λ (at : ℕ). slice_get before at) back
          ∙ reads.first;
      known = reads.known;
      is_layout = reads.is_layout;
      of_shape = reads.of_shape;
      second = same_length (has_length cell.layout.kind) (slice_get before (from + 1)) (slice_get words (to + 1))
          cell.length (λ has.
          let size =
          size_is (words_least cell.layout.kind) (words_of cell.layout.kind cell.layout.cap cell.length) cell.size
          reads.sized in
          let least : words_least cell.layout.kind ≤ cell.size = omega (arith, size.0, size.1) in
          let two : 2 ≤ cell.size =
          two_words_of cell.layout.kind cell.layout.cap cell.length cell.size has size.0 least in
          word_same before words from to 1 (omega arith) (omega arith)
          (same 1 (omega arith) (second_no_slot cell.layout.kind cell.layout cell.length has))) reads.second;
      sized = reads.sized;
      ends = ends;
      there = there;
    }

-- so they do where a cell stood before
read_copy : (before words layouts : List ℕ) (from to last bound : ℕ) (cell : Option Reading)
    → read_cell before layouts from last ≡ cell → IsSome cell
    → StandsAt before from words to (words_in cell) (offsets_in cell)
    → to + words_in cell ≤ bound → to + words_in cell ≤ length words → read_cell words layouts to bound ≡ cell
read_copy before words layouts from to last bound None e is same ends there = cc
read_copy before words layouts from to last bound (Some cell) e is same ends there =
    cell_to words layouts to bound cell
    (reads_copy before words layouts from to last bound cell (cell_from before layouts from last cell e) same ends
    there)

-- a home copy ends in the words
pub copies_end : CopiesEnd
copies_end fixed words homes home laid copying there =
    let some : 1 ≤ size_of fixed home.from = some_words home.from laid (from_is home copying there) in
    let last : ℕ = home.to + size_of fixed home.from - 1 in
    let inside : last < length fixed.before =
    laid.rooms_there last (copy_in_room home last copying there (record { from = omega arith; below = omega arith })) in
    let long : length words ≡ length fixed.before = copying.long in
    omega (arith, some, inside, long)

-- a home copy reads as its cell
pub copies_read : CopiesReadAsCells
unfolding cell_before
copies_read fixed words homes home bound laid copying there ends =
    read_copy fixed.before words fixed.layouts home.from home.to last_address bound (cell_before fixed home.from) refl
    (laid.cells_are home.from (from_is home copying there))
    (λ offset less no_slot. copying.copied home offset there less no_slot) ends
    (copies_end fixed words homes home laid copying there)

-- a cell that is read ends at the bound or before
read_ends : (words layouts : List ℕ) (at bound : ℕ) (cell : Option Reading) → read_cell words layouts at bound ≡ cell
    → IsSome cell → at + words_in cell ≤ bound
read_ends words layouts at bound None e is = cc
read_ends words layouts at bound (Some cell) e is = (cell_from words layouts at bound cell e).ends

-- its first word is no reference
read_no_reference : (words layouts : List ℕ) (at bound : ℕ) (cell : Option Reading) (to : ℕ)
    → read_cell words layouts at bound ≡ cell → IsSome cell → reference_in (get_or words at 0) ≡ Some to → ⊥
read_no_reference words layouts at bound None to e is refers = cc
read_no_reference words layouts at bound (Some cell) to e is refers =
    let reads = cell_from words layouts at bound cell e in
    let head : get_or words at 0 ≡ header_bits cell.header =
    get_or_from_slice_get words at (header_bits cell.header) 0 reads.first in
    let word : get_or words at 0 ≡ bits_of (Ref to) = (reference_from (get_or words at 0) to refers).1 in
    omega (arith, head, word)

-- what is no reference to any address is none
none_by : (o : Option ℕ) → ((at : ℕ) → o ≡ Some at → ⊥) → o ≡ None
none_by None never = refl
none_by (Some at) never = absurd (never at refl)

-- the header of a cell that stood before is no reference
pub header_is_none : (fixed : Fixed) (cell : ℕ) → IsSome (cell_before fixed cell)
    → reference_in (get_or fixed.before cell 0) ≡ None
unfolding cell_before
header_is_none fixed cell is =
    none_by (reference_in (get_or fixed.before cell 0)) (λ to refers.
    read_no_reference fixed.before fixed.layouts cell last_address (cell_before fixed cell) to refl is refers)

-- a cell with no home has all words as before
unmoved_words : {fixed : Fixed} {words : List ℕ} {homes : List Home} (cell offset : ℕ) → Copying fixed words homes
    → Contains fixed.cells cell → get_or words cell 0 ≡ get_or fixed.before cell 0 → offset < size_of fixed cell
    → get_or words (cell + offset) 0 ≡ get_or fixed.before (cell + offset) 0
unmoved_words {fixed} {words} cell zero copying there same less =
    let back : cell + 0 ≡ cell = omega arith in
    ap (λ (at : ℕ). get_or words at 0) back ∙ same ∙ sym (ap (λ (at : ℕ). get_or fixed.before at 0) back)
unmoved_words cell (suc k) copying there same less =
    let low : 1 ≤ suc k = omega arith in copying.bodies cell (suc k) there low less

-- so it reads as before
pub unmoved_reads : (fixed : Fixed) (words : List ℕ) (homes : List Home) (cell : ℕ) → IsLaidOut fixed
    → Copying fixed words homes → Contains fixed.cells cell → get_or words cell 0 ≡ get_or fixed.before cell 0
    → read_cell words fixed.layouts cell last_address ≡ cell_before fixed cell
unfolding cell_before
unmoved_reads fixed words homes cell laid copying there same =
    let is = laid.cells_are cell there in
    let ends : cell + size_of fixed cell ≤ length fixed.before = cell_ends fixed cell is in
    let long : length words ≡ length fixed.before = copying.long in
    read_copy fixed.before words fixed.layouts cell cell last_address last_address (cell_before fixed cell) refl is
    (λ offset less no_slot. unmoved_words cell offset copying there same less)
    (read_ends fixed.before fixed.layouts cell last_address (cell_before fixed cell) refl is)
    (omega (arith, ends, long))
