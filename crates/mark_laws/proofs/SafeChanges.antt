-- What a safe change of its header leaves of a cell: its size, and each tagged slot.
use Rattle.std.proofs.Common.{ℕ, ◌+◌, ◌<◌, ◌≤◌, ◌≡◌, ◌∙◌, false, List, length, IsTrue, slice_get}
use Rattle.std.proofs.Common.{slice_index, slice_set, Option, Some, IsSomeAnd, refl, sym, ap, subst, arith, min}
use Rattle.std.specs.Option.{option_and_then}
use Rattle.std.proofs.lemmas.Bool.Decides.{nat_tests}
use Rattle.std.proofs.lemmas.List.{get_or-set_same, length-set}
use Rattle.std.proofs.lemmas.Option.{slice_get-get_or, slice_get_within}
use Rattle.mark_laws.specs.Types.{Kind, LayoutWord, Reading, Laid, World}
use Rattle.tagged_word.specs.Cells.{ReadsAs, cell_size, has_length, length_by, length_offset, size_within}
use Rattle.tagged_word.specs.Cells.{tagged_offsets, words_least, words_of}
use Rattle.tagged_word.specs.Headers.{header_bits}
use Rattle.tagged_word.specs.Readings.{header_at, header_in, headed_cell, is_within, laid_cell, long_cell, read_cell}
use Rattle.tagged_word.specs.Readings.{shape_layout, sized_cell}
use Rattle.tagged_word.proofs.Cells.{made, some_same}
use Rattle.tagged_word.proofs.CellReadings.{cell_from}
use Rattle.tagged_word.proofs.Readings.{given_some}
use Rattle.mark_world.specs.Pages.{page_end}
use Rattle.mark_world.specs.Coverage.{cell_of}
use Rattle.mark_world.specs.Safety.{Includes, IsSafe, IsSafeChange, laid_in}
use Rattle.mark_laws.specs.Cells.{Widens}
use Rattle.mark_laws.proofs.Laid.{cell_laid, laid_from, laid_of, safe_from}
use Rattle.mark_laws.proofs.Stores.{stored}

-- a cell that stands at an address, by the header and the layout of its first word, where it has no length
plain_read : (words layouts : List ℕ) (start bound size : ℕ) (laid : Laid) → header_at words start ≡ Some laid.header
    → shape_layout layouts laid.header.shape ≡ Some laid.layout → has_length laid.layout.kind ≡ false
    → cell_size laid.layout 0 ≡ Some size → start + size ≤ bound → start + size ≤ length words
    → read_cell words layouts start bound ≡ Some (made laid.header laid.layout 0 size)
plain_read words layouts start bound size laid header layout short sized ends there =
    let within : IsTrue (is_within words start bound size) = grind (arith, nat_tests) in
    ap (option_and_then (headed_cell words layouts start bound)) header
    ∙ ap (option_and_then (laid_cell words start bound laid.header)) layout
    ∙ ap (λ long. option_and_then (long_cell words start bound laid.header laid.layout)
    (length_by long (slice_get words (start + length_offset)))) short
    ∙ ap (option_and_then (sized_cell words start bound laid.header laid.layout 0)) sized
    ∙ given_some (is_within words start bound size) (made laid.header laid.layout 0 size)
    (made laid.header laid.layout 0 size) within refl

-- a word that is put is there
pub slice_get_same : (words : List ℕ) (at word : ℕ) → at < length words
    → slice_get (slice_set words at word) at ≡ Some word
slice_get_same words at word within =
    slice_get-get_or (slice_set words at word) at word (omega (arith, length-set words at word, within))
    ∙ ap (λ w. Some w) (get_or-set_same words at word word within)

-- a cell of a kind without a length has the length 0
pub no_length : (k : Kind) (second : Option ℕ) (long : ℕ) → has_length k ≡ false
    → length_by (has_length k) second ≡ Some long → long ≡ 0
no_length k second long short e =
    some_same e (ap (λ b. length_by b second) short)

-- a layout of the same kind and cap gives the same size
pub same_size : (old new : LayoutWord) (long long' size : ℕ) → old.kind ≡ new.kind → old.cap ≡ new.cap
    → long ≡ long' → cell_size old long ≡ Some size → cell_size new long' ≡ Some size
same_size old new long long' size one_kind one_cap one_length e =
    sym (ap (λ k. size_within (words_least k) (words_of k old.cap long)) one_kind
    ∙ ap (λ cap. size_within (words_least new.kind) (words_of new.kind cap long)) one_cap
    ∙ ap (λ n. size_within (words_least new.kind) (words_of new.kind new.cap n)) one_length) ∙ e

-- after a safe change of its first word a cell is read by the new one, with the size of before
pub changed_read : (words layouts : List ℕ) (start bound word : ℕ) (cell : Reading) (new : Laid)
    → ReadsAs words layouts start bound cell → laid_in layouts word ≡ Some new → IsSafeChange (laid_of cell) new
    → read_cell (slice_set words start word) layouts start bound ≡ Some (made new.header new.layout 0 cell.size)
changed_read words layouts start bound word cell new reads is change =
    let within : start < length words = slice_get_within words start (header_bits cell.header) reads.first in
    let has = laid_from layouts word new is in
    let short : has_length cell.layout.kind ≡ false = ap has_length change.old_plain in
    let none : cell.length ≡ 0 =
    no_length cell.layout.kind (slice_get words (start + length_offset)) cell.length short reads.second in
    plain_read (slice_set words start word) layouts start bound cell.size new
    (ap (option_and_then header_in) (slice_get_same words start word within) ∙ has.0) has.1
    (ap has_length change.new_plain)
    (same_size cell.layout new.layout cell.length 0 cell.size (change.old_plain ∙ sym change.new_plain) change.one_cap
    none
    reads.sized) reads.ends (omega (arith, reads.there, length-set words start word))

-- a safe change of the first word of a cell leaves its size, and each tagged slot
changed_widens : (words layouts : List ℕ) (start bound word : ℕ) (cell : Reading) (new : Laid)
    → ReadsAs words layouts start bound cell → laid_in layouts word ≡ Some new → IsSafeChange (laid_of cell) new
    → IsSomeAnd (read_cell (slice_set words start word) layouts start bound) (Widens cell)
changed_widens words layouts start bound word cell new reads is change =
    let short : has_length cell.layout.kind ≡ false = ap has_length change.old_plain in
    let none : cell.length ≡ 0 =
    no_length cell.layout.kind (slice_get words (start + length_offset)) cell.length short reads.second in
    subst (λ (o : Option Reading). IsSomeAnd o (Widens cell))
    (sym (changed_read words layouts start bound word cell new reads is change)) record {
      size = refl;
      slots = subst (λ (n : ℕ). Includes (tagged_offsets new.layout 0) (tagged_offsets cell.layout n)) (sym none)
          change.tagged;
    }

-- so it does where both words read as headers
pub header_widens : (world : World) (start word : ℕ) (cell : Reading) → cell_of world start ≡ Some cell
    → IsSafe world.layouts (slice_index world.words start) word
    → IsSomeAnd (cell_of (stored world start word world.main.owed) start) (Widens cell)
header_widens world start word cell e safe =
    let bound : ℕ = min world.old (page_end start) in
    let s = safe_from world.layouts (slice_index world.words start) word safe in
    let same : s.old ≡ laid_of cell = some_same s.was (cell_laid world start cell e) in
    changed_widens world.words world.layouts start bound word cell s.new
    (cell_from world.words world.layouts start bound cell e) s.is
    (subst (λ (o : Laid). IsSafeChange o s.new) same s.change)
