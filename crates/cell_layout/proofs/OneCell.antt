-- Single cells: there is one at an address, it has some words, and it stays where what it is read by stays.
use Rattle.std.proofs.Common.{◌≡◌, ℕ, ◌+◌, ◌≤◌, Bool, true, false, List, Option, Some, Contains, IsTrue}
use Rattle.std.proofs.Common.{slice_get, refl, sym, ◌∙◌, ap, subst, arith, ◌*◌}
use Rattle.std.proofs.lemmas.Bool.{false≢true}
use Rattle.tagged_word.specs.declared.header.Header.{Header}
use Rattle.tagged_word.specs.declared.layout.LayoutWord.{LayoutWord}
use Rattle.tagged_word.specs.declared.layout.Kind.{Kind}
use Rattle.tagged_word.specs.declared.layout.Kind.TheVariants as kind
use Rattle.tagged_word.specs.Cells.{ReadsAs, has_length, length_by, scavenge_offsets_of, store_head}
use Rattle.tagged_word.proofs.Cells.{same_reading, size_bounds, slot_within, tagged_is_scavenged}
use Rattle.tagged_word.proofs.Members.{range_bounds}
use Rattle.page_space.specs.Extents.{Space}
use Rattle.cell_layout.specs.declared.cell.Cell.{Cell}
use Rattle.cell_layout.specs.Cells.{reading_of, IsCell, IsSized, layouts_in}
use Rattle.cell_layout.specs.CellLaws.{OneCell, CellsHaveWords, SlotsLieWithin, ScavengesVisitTagged, CellsStay}

-- a cell has the size of its layout and its length
pub cell_is_sized : (space : Space) (words : List ℕ) (cell : Cell) → IsCell space words cell → IsSized cell
cell_is_sized space words cell is_cell = record { is_layout = is_cell.reads.is_layout; sized = is_cell.reads.sized }

-- a cell has at least one word and at most as many as a page
pub cells_have_words : CellsHaveWords
cells_have_words space words cell is_cell = size_bounds cell.layout cell.length cell.size is_cell.reads.sized

-- the cell of these parts
abbrev made : ℕ → Header → LayoutWord → ℕ → ℕ → Cell
made at header layout long size = record { at = at; header = header; layout = layout; length = long; size = size }

-- two cells with the same parts are one
same_parts : (cell other : Cell) → cell.at ≡ other.at → cell.header ≡ other.header → cell.layout ≡ other.layout →
    cell.length ≡ other.length → cell.size ≡ other.size → cell ≡ other
same_parts cell other at header layout long size =
    ap (λ x. made x cell.header cell.layout cell.length cell.size) at
    ∙ ap (λ x. made other.at x cell.layout cell.length cell.size) header
    ∙ ap (λ x. made other.at other.header x cell.length cell.size) layout
    ∙ ap (λ x. made other.at other.header other.layout x cell.size) long
    ∙ ap (λ x. made other.at other.header other.layout other.length x) size

-- two cells at one address are one
pub one_cell : OneCell
one_cell space words cell other is_cell is_other same =
    let Reads : ℕ → Type 0 = λ at. ReadsAs words (layouts_in space words) at is_other.end (reading_of other) in
    let reads = subst Reads (sym same) is_other.reads in
    let one = same_reading is_cell.reads reads in
    same_parts cell other same (ap (λ r. r.header) one) (ap (λ r. r.layout) one) (ap (λ r. r.length) one)
    (ap (λ r. r.size) one)

-- a slot of a cell with a length is behind its length
behind_length_of : (k : Kind) (layout : LayoutWord) (long offset : ℕ) →
    Contains (scavenge_offsets_of k layout long) offset → IsTrue (has_length k) → 2 ≤ offset
behind_length_of kind.Store layout long offset has test = (range_bounds store_head long offset has).0
behind_length_of kind.Table layout long offset has test = (range_bounds store_head (2 * long) offset has).0
behind_length_of kind.Gap layout long offset (k, within, is) test = absurd (omega (arith, within))
behind_length_of _ layout long offset has test = absurd (false≢true test)

-- each slot that a scavenge visits lies in its cell
pub slots_lie_within : SlotsLieWithin
slots_lie_within space words cell offset is_cell has =
    let within = slot_within cell.layout cell.length cell.size offset is_cell.reads.is_layout is_cell.reads.sized has in
    record {
      behind_header = within.0;
      behind_length = behind_length_of cell.layout.kind cell.layout cell.length offset has;
      within = within.1;
    }

-- a scavenge visits each slot that marking visits
pub scavenges_visit_tagged : ScavengesVisitTagged
scavenges_visit_tagged cell offset has = tagged_is_scavenged cell.layout cell.length offset has

-- a length stays where it is read alike
same_length : (with : Bool) (old new : Option ℕ) (long : ℕ) → (IsTrue with → new ≡ old) →
    length_by with old ≡ Some long → length_by with new ≡ Some long
same_length true old new long alike is = alike refl ∙ is
same_length false old new long alike is = is

-- a cell stands in other words too, as many, which say the same where it is read
pub cells_stay : CellsStay
cells_stay space words other cell is_cell same alike =
    let reads = is_cell.reads in
    record {
      end = is_cell.end;
      stands = is_cell.stands;
      reads = record {
        is_header = reads.is_header;
        first = alike.first ∙ reads.first;
        known = reads.known;
        is_layout = reads.is_layout;
        of_shape = alike.of_shape ∙ reads.of_shape;
        second = same_length (has_length cell.layout.kind) (slice_get words (cell.at + 1))
            (slice_get other (cell.at + 1))
            cell.length alike.second reads.second;
        sized = reads.sized;
        ends = reads.ends;
        there = rw same reads.there;
      };
    }
