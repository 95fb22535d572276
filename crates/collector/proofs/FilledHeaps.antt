-- In a heap that keeps exactly what can be reached, and into which so many words don't fit, each page has a live cell.
use Rattle.std.proofs.Common.{◌≡◌, ℕ, ◌+◌, ◌*◌, ◌<◌, ◌≤◌, ◌⊎◌, inl, inr, Bool, true, false, List, [], ◌∷◌, Contains}
use Rattle.std.proofs.Common.{IsTrue, refl, subst, arith}
use Rattle.std.proofs.lemmas.Bool.{cases_lt}
use Rattle.tagged_word.specs.Cells.{is_free_kind}
use Rattle.tagged_word.proofs.Members.{first_in, rest_in, in_cases}
use Rattle.page_space.specs.declared.region.Region.TheVariants.{Page}
use Rattle.page_space.specs.Sizes.{page_words}
use Rattle.page_space.specs.Extents.{Extent}
use Rattle.page_space.proofs.Standing.{extent_of}
use Rattle.object_graph.specs.Graphs.{Graph}
use Rattle.cell_layout.proofs.Rows.{cell_within}
use Rattle.heap_model.specs.Types.{Cell}
use Rattle.heap_model.specs.Heaps.{Heap, Row, IsUsedRow, EndsUsed, HasCell, cell_extents, words_of_cell}
use Rattle.heap_model.specs.Wholeness.{HasRows}
use Rattle.heap_model.proofs.CellsApart.{IsOfCell, cells_apart}
use Rattle.heap_model.proofs.RegionRows.{row_of}
use Rattle.heap_model.proofs.RowCovers.{covered}
use Rattle.heap_model.proofs.StaysCollectable.{object_not_free, owned_not_free}
use Rattle.live_cells.specs.Exact.{Exact, Fits, IsDeadWord}
use Rattle.live_cells.proofs.DeadWords.{named_is_owned}
use Rattle.write_barrier.proofs.FirstRuns.{page_among}
use Rattle.collector.specs.Filled.{HasLiveCell, FullIsFilled}
use Rattle.collector.proofs.LiveLists.{used_is_live, young_is_live, old_is_live}

-- each of these cells is free
abbrev AreFreeCells : List Cell → Type 0
AreFreeCells cells = (cell : Cell) → Contains cells cell → IsTrue (is_free_kind cell.layout.kind)

-- one of them is not
record HasUsed (cells : List Cell) : Type 0 where
  cell : Cell
  among : Contains cells cell
  used : is_free_kind cell.layout.kind ≡ false

-- where all but the first are free, all are, or the first is not
with_first : (cell : Cell) (more : List Cell) (free : Bool) → is_free_kind cell.layout.kind ≡ free
    → AreFreeCells more → AreFreeCells (cell ∷ more) ⊎ HasUsed (cell ∷ more)
with_first cell more true is others =
    inl (λ one there. elim (in_cases cell more one there) [
      | inl same ↦ subst (λ (c : Cell). IsTrue (is_free_kind c.layout.kind)) same is
      | inr later ↦ others one later
    ])
with_first cell more false is others = inr (record { cell = cell; among = first_in cell more; used = is })

-- so all of some cells are free, or one is not
all_or_one : (cells : List Cell) → AreFreeCells cells ⊎ HasUsed cells
all_or_one [] = inl (λ cell there. absurd (omega (arith, there.1)))
all_or_one (cell ∷ more) = elim (all_or_one more) [
  | inl others ↦ with_first cell more (is_free_kind cell.layout.kind) refl others
  | inr one ↦ inr (record { cell = one.cell; among = rest_in cell more one.cell one.among; used = one.used })
]

-- the row of a page
record PageRow (heap : Heap) (page : ℕ) : Type 0 where
  row : Row
  among : Contains (cell_extents heap.space) row.extent
  used : IsUsedRow heap row
  starts : row.extent.start ≡ page_words * page
  ends : row.end ≡ page_words * page + page_words

-- with whole rows there is one
page_row : (heap : Heap) (page : ℕ) → HasRows heap → page < heap.space.sizes.pages → PageRow heap page
page_row heap page rows there =
    let extent : Extent = extent_of heap.space (Page page) in
    let own = row_of extent rows.are (page_among heap.space page there) in
    record {
      row = own.row;
      among = own.is.among;
      used = own.is.used;
      starts = own.is.starts;
      ends = subst (λ (e : Extent). EndsUsed heap e own.row.end e.region) own.same own.is.used.ends;
    }

-- its cells are the heap's
cell_there : {heap : Heap} {page : ℕ} (cell : Cell) (own : PageRow heap page) → Contains own.row.cells cell
    → HasCell heap cell (words_of_cell heap cell)
cell_there cell own among =
    record { row = own.row; in_region = own.among; used = own.used; in_row = among; words_are = refl }

-- a word of a page is dead where all cells of the page are free
page_is_dead : {heap : Heap} {page : ℕ} (at : ℕ) → HasRows heap → (own : PageRow heap page)
    → AreFreeCells own.row.cells → page_words * page ≤ at → at < page_words * page + page_words → IsDeadWord heap at
page_is_dead {heap} at rows own free from below other words has word =
    let one = covered heap.space heap.words own.row.extent.start own.row.end own.row.cells at own.used.stands
    (omega (arith, own.starts, from)) (omega (arith, own.ends, below)) in
    let of_other : IsOfCell other at = record { from = word.from; below = word.below } in
    let same : one.cell ≡ other = cells_apart at rows (cell_there one.cell own one.among) has one.of_cell of_other in
    let is_free = subst (λ (c : Cell). IsTrue (is_free_kind c.layout.kind)) same (free one.cell one.among) in (
      λ object. object_not_free other.layout.kind object is_free,
      λ named. owned_not_free other.layout.kind (named_is_owned has named) is_free,
    )

-- so each page has a live cell, where so many words don't fit into one
page_is_live : (heap : Heap) (graph : Graph) (n page : ℕ) → Exact heap graph → (Fits heap n → ⊥) → n ≤ page_words
    → page < heap.space.sizes.pages → HasLiveCell heap graph page
page_is_live heap graph n page exact full few there =
    let rows = exact.keeps.shows.whole.rows in
    let own = page_row heap page rows there in
    elim (all_or_one own.row.cells) [
      | inl free ↦ absurd (full (Fits.page page (page_words * page) there (omega arith) (omega (arith, few))
          (λ at from below. page_is_dead at rows own free from (omega (arith, below, few)))))
      | inr one ↦
          let within = cell_within heap.space heap.words own.row.extent.start own.row.end own.row.cells one.cell
          own.used.stands one.among in
          let has = cell_there one.cell own one.among in
          record {
            cell = one.cell;
            words = words_of_cell heap one.cell;
            has = has;
            from = omega (arith, own.starts, within.0);
            below = omega (arith, own.ends, within.1);
            live = used_is_live exact has one.used;
          }
    ]

-- and survivors, used words and so many more are over the young generation
pub full_is_filled : FullIsFilled
full_is_filled heap graph n exact full = record {
  young = elim (cases_lt heap.space.sizes.young (heap.survivors + heap.used + n)) [
    | inl over ↦ over
    | inr room ↦ absurd (full (Fits.young room))
  ];
  live = young_is_live exact;
  pages = λ few page there. page_is_live heap graph n page exact full few there;
  old = λ few. old_is_live heap graph (λ page there. page_is_live heap graph n page exact full few there);
}
