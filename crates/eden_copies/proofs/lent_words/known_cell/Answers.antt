-- A cell stands there, so the reading does not fail.
use Rattle.std.proofs.Common.{◌∙◌, ℕ, ◌+◌, ◌≤◌, List, sym, ap, subst, arith}
use Rattle.page_space.specs.Extents.{Space}
use Rattle.scav_copy.specs.Places.{last_address}
use Rattle.eden_copies.specs.Eden.{size_in, slots_in}
use Rattle.eden_copies.proofs.KnownCells.{size_known, slots_known}
use Rattle.cell_layout.specs.Cells.{IsCell, HasNoCell}
use Rattle.eden_copies.proofs.lent_words.known_cell.Goals as goal

pub unreachable-requires : goal.unreachable-requires
unreachable-requires c =
    let stands = c.requires in
    let none : HasNoCell c.regions.result c.new-lent.result c.args.at = c.in_default.ensures.none.none in
    none stands.cell stands.starts
    (subst (λ (space : Space). IsCell space c.new-lent.result stands.cell) (sym c.regions.ensures.regions)
    (subst (λ (words : List ℕ). IsCell c.args.words.now.space words stands.cell) (sym c.new-lent.ensures)
    stands.is_cell))

pub returns : goal.returns
returns c =
    let cell = c.in-Ok.cell in
    let words = c.args.words.now in
    let read = c.in-Ok.ensures in
    let is_cell : IsCell words.space words.words cell =
    subst (λ (space : Space). IsCell space words.words cell) c.regions.ensures.regions
    (subst (λ (all : List ℕ). IsCell c.regions.result all cell) c.new-lent.ensures read.cell.1) in
    let low : cell.at + cell.size ≤ last_address = omega (arith, read.cell.0, read.ends.1) in
    record {
      size = sym (size_known words cell is_cell low) ∙ ap (size_in words) read.cell.0;
      slots = sym (slots_known words cell is_cell low) ∙ ap (slots_in words) read.cell.0;
    }
