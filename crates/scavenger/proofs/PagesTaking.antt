-- A cell is copied to the first words of a free run, and the others become one free cell: which words stay.
use Rattle.std.proofs.Common.{◌≡◌, ◌≢◌, ℕ, ◌+◌, ◌-◌, ◌<◌, ◌≤◌, ◌⊎◌, inl, inr, List, length, slice_get}
use Rattle.std.proofs.Common.{sym, ◌∙◌, ap, arith}
use Rattle.tagged_word.specs.Shapes.{shapes_most}
use Rattle.page_space.specs.Extents.{Space, eden_start, roots_start, layouts_start, marks_start}
use Rattle.page_space.proofs.LawsHold.{kinds_by_number}
use Rattle.cell_layout.proofs.CellsThere.{slice_get-layouts_in}
use Rattle.cell_layout.proofs.OneCell.{one_cell, cells_have_words}
use Rattle.free_runs.specs.FreeRuns.{TakesFront}
use Rattle.heap_model.specs.Types.{Cell, Run}
use Rattle.heap_model.proofs.LayoutsStay.{SayLayouts}
use Rattle.write_barrier.specs.FreeCells.{with_free_cell}
use Rattle.write_barrier.proofs.FreeCells.{length-free_cell, beside_free_cell}
use Rattle.scav_copy.specs.declared.places.Home.{Home}
use Rattle.scav_copy.specs.Places.{Fixed}
use Rattle.scav_copy.specs.Copies.{Copying}
use Rattle.scavenger.specs.Starts.{Start, IsBegun}
use Rattle.scavenger.specs.Filling.{CopiesFillRooms}
use Rattle.scavenger.specs.Following.{IsFreeAt}
use Rattle.scavenger.specs.Paging.{IsUnmoved, promoted_words}
use Rattle.scavenger.proofs.TargetCells.{layouts_same}
use Rattle.scavenger.proofs.PagesRuns.{whole, whole_is, taken_at}
use Rattle.scavenger.proofs.PagesWords.{StaysIn, length-moved, moved_elsewhere, moved_copy}
use Rattle.scavenger.proofs.PagesCells.{as_long, unmoved_is}
use Rattle.scavenger.proofs.PagesFree.{run_stands}

-- A cell that is to be copied may go to the first words of this free cell, which is the run that has them.
pub record Taking (start : Start) (fixed : Fixed) (words : List ℕ) (rows left : List (List Run)) (homes : List Home)
    (fill : ℕ) (cell free : Cell) (run : Run) : Type 0 where
  pub begun : IsBegun start fixed
  pub filled : CopiesFillRooms start fixed words rows homes fill
  pub unmoved : IsUnmoved start fixed words homes cell
  pub takes : TakesFront rows left cell.size run
  pub is : IsFreeAt start.heap.space words free run.at

-- Where the cell and the free one stand, and how many words they have.
pub record Stands (space : Space) (words : List ℕ) (cell free : Cell) (run one : Run) : Type 0 where
  pub at : run.at ≡ one.at
  pub free_at : free.at ≡ run.at
  pub words_are : free.size ≡ one.words
  pub enough : cell.size ≤ free.size
  pub some : 1 ≤ cell.size
  pub in_page : run.at + free.size ≤ eden_start space
  pub young : eden_start space ≤ cell.at
  pub below : cell.at + cell.size ≤ roots_start space
  pub long : length words ≡ marks_start space
  pub roots : roots_start space ≤ layouts_start space
  pub marks : layouts_start space + shapes_most ≡ marks_start space
  pub pages : eden_start space ≤ roots_start space

-- the words are those of the shapes
pub say_layouts : {start : Start} {fixed : Fixed} {words : List ℕ} {homes : List Home} → IsBegun start fixed
    → Copying fixed words homes → SayLayouts start.heap.space words start.heap.paths
say_layouts {start} {words = words} begun copying shape known =
    let space = start.heap.space in
    sym (slice_get-layouts_in space words shape known) ∙ layouts_same shape begun copying known
    ∙ slice_get-layouts_in space start.heap.words shape known ∙ begun.whole.sized.layouts shape known

module _ {start : Start} {fixed : Fixed} {words : List ℕ} {rows left : List (List Run)} {homes : List Home} {fill : ℕ}
    {cell free : Cell} {run : Run} (taking : Taking start fixed words rows left homes fill cell free run) where
  -- they stand so
  pub they_stand : Stands start.heap.space words cell free run (whole taking.takes)
  they_stand =
      let space = start.heap.space in
      let begun = taking.begun in
      let filled = taking.filled in
      let one : Run = whole taking.takes in
      let stands = run_stands begun filled one (whole_is taking.takes) in
      let at = taken_at taking.takes in
      let same : stands.free ≡ free =
      one_cell space words stands.free free stands.is.is_cell taking.is.is_cell
      (stands.is.stands ∙ sym at ∙ sym taking.is.stands) in
      let size : stands.free.size ≡ free.size = ap (λ (each : Cell). each.size) same in
      let is = unmoved_is cell begun filled.copying taking.unmoved in
      let numbers = kinds_by_number space in
      record {
        at = at;
        free_at = taking.is.stands;
        words_are = sym size ∙ stands.size;
        enough = omega (arith, taking.takes.takes.enough, size, stands.size);
        some = (cells_have_words space words cell taking.unmoved.is_cell).0;
        in_page = omega (arith, stands.in_page, at, size, stands.size);
        young = is.young;
        below = is.below;
        long = as_long begun filled.copying;
        roots = omega (arith, numbers.layouts);
        marks = sym numbers.marks;
        pages = omega (arith, numbers.roots);
      }

  -- the words with the free cell behind those that are taken
  abbrev pub covered : List ℕ
  covered = with_free_cell words (run.at + cell.size) (free.size - cell.size)

  -- there are as many
  pub as_many : length covered ≡ length words
  as_many = length-free_cell words (run.at + cell.size) (free.size - cell.size)

  -- the cell is there
  pub from_there : cell.at + cell.size ≤ length covered
  from_there = omega (arith, as_many, taking.unmoved.is_cell.reads.there)

  -- and so are the words that it is copied to
  pub to_there : run.at + cell.size ≤ length covered
  to_there =
      let they = they_stand in
      omega (arith, as_many, they.in_page, they.enough, they.long, they.pages, they.roots, they.marks)

  -- there are as many words when the cell was copied
  pub as_many_now : length (promoted_words words cell free run.at) ≡ length words
  as_many_now = length-moved covered cell run.at from_there to_there ∙ as_many

  -- a word stays that is neither the cell's header nor one of the free cell
  pub word_stays : (at : ℕ) → at < length words → at ≢ cell.at → (at < run.at) ⊎ (run.at + free.size ≤ at)
      → slice_get (promoted_words words cell free run.at) at ≡ slice_get words at
  word_stays at inside apart out =
      let they = they_stand in
      let before_cell : (at < run.at) ⊎ (run.at + cell.size ≤ at) = elim out [
        | inl before ↦ inl before
        | inr behind ↦ inr (omega (arith, behind, they.enough))
      ] in
      let before_free : (at < run.at + cell.size) ⊎ (run.at + cell.size + (free.size - cell.size) ≤ at) =
      elim out [
        | inl before ↦ inl (omega (arith, before))
        | inr behind ↦ inr (omega (arith, behind, they.enough))
      ] in
      moved_elsewhere covered cell run.at from_there to_there at (omega (arith, inside, as_many)) apart before_cell
      ∙ beside_free_cell words (run.at + cell.size) (free.size - cell.size) at before_free

  -- the layout words do
  pub layouts_stay : (shape : ℕ) → shape < shapes_most
      → slice_get (promoted_words words cell free run.at) (layouts_start start.heap.space + shape)
      ≡ slice_get words (layouts_start start.heap.space + shape)
  layouts_stay shape known =
      let they = they_stand in
      word_stays (layouts_start start.heap.space + shape) (omega (arith, known, they.long, they.marks))
      (λ same. omega (arith, same, they.below, they.roots, they.some))
      (inr (omega (arith, they.in_page, they.pages, they.roots)))

  -- and so do the words of pages beside the free cell
  pub beside_stays : (from to : ℕ) → to ≤ eden_start start.heap.space → (to ≤ run.at) ⊎ (run.at + free.size ≤ from)
      → StaysIn start.heap.space words (promoted_words words cell free run.at) from to
  beside_stays from to below out =
      let they = they_stand in
      record {
        long = as_many_now;
        within = λ at low high. word_stays at
            (omega (arith, high, below, they.long, they.pages, they.roots, they.marks))
            (λ same. omega (arith, same, high, below, they.young))
            (elim out [
              | inl before ↦ inl (omega (arith, high, before))
              | inr behind ↦ inr (omega (arith, low, behind))
            ]);
        layouts = layouts_stay;
      }

  -- those of the free cell that is left stay when the cell is copied
  pub rest_same : StaysIn start.heap.space covered (promoted_words words cell free run.at) (run.at + cell.size)
      (run.at + free.size)
  rest_same =
      let they = they_stand in
      record {
        long = length-moved covered cell run.at from_there to_there;
        within = λ at low high. moved_elsewhere covered cell run.at from_there to_there at
            (omega (arith, high, as_many, they.in_page, they.long, they.pages, they.roots, they.marks))
            (λ same. omega (arith, same, high, they.in_page, they.young)) (inr low);
        layouts = λ shape known. moved_elsewhere covered cell run.at from_there to_there
            (layouts_start start.heap.space + shape) (omega (arith, known, as_many, they.long, they.marks))
            (λ same. omega (arith, same, they.below, they.roots, they.some))
            (inr (omega (arith, they.in_page, they.enough, they.pages, they.roots)));
      }

  -- a word of the copy is the cell's
  pub copy_same : (offset : ℕ) → offset < cell.size
      → slice_get (promoted_words words cell free run.at) (run.at + offset) ≡ slice_get words (cell.at + offset)
  copy_same offset less =
      let they = they_stand in
      moved_copy covered cell run.at from_there to_there offset less
      (λ same. omega (arith, same, less, they.enough, they.in_page, they.young))
      ∙ beside_free_cell words (run.at + cell.size) (free.size - cell.size) (cell.at + offset)
      (inr (omega (arith, they.enough, they.in_page, they.young)))
