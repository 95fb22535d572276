-- The words of pages that belong to nothing that can be reached, as a list.
use Rattle.std.proofs.Common.{ℕ, ◌+◌, inl, inr, IsTrue, sym, ◌∙◌, arith}
use Rattle.std.proofs.lemmas.Bool.{cases_lt, false≢true}
use Rattle.core_parts.proofs.Joining.{decided}
use Rattle.tagged_word.specs.Cells.{is_free_kind}
use Rattle.page_space.specs.Extents.{eden_start}
use Rattle.object_graph.specs.Graphs.{Graph}
use Rattle.heap_model.specs.Types.{Cell}
use Rattle.heap_model.specs.Heaps.{Heap, words_of_cell}
use Rattle.heap_model.specs.Showing.{Shows}
use Rattle.live_cells.specs.Exact.{IsWordOf}
use Rattle.live_cells.specs.Laws.{BelongsToReached}
use Rattle.live_cells.proofs.CellLists.{cells_in, cell_among, among_has}
use Rattle.cycle_laws.specs.LostWords.{IsLostWord, LostWordsAreListed}
use Rattle.cycle_laws.proofs.Decided.{belongs_decided}
use Rattle.cycle_laws.proofs.Lists.{IsDecided, some_decided, listed}

-- the cell is not free, belongs to nothing that can be reached, and has the word
record IsLostIn (heap : Heap) (graph : Graph) (at : ℕ) (cell : Cell) : Type 0 where
  of_cell : IsWordOf cell at
  used : IsTrue (is_free_kind cell.layout.kind) → ⊥
  lost : BelongsToReached heap graph cell.at → ⊥

-- whether a cell has a word
word_decided : (cell : Cell) (at : ℕ) → IsDecided (IsWordOf cell at)
word_decided cell at = elim (cases_lt at cell.at) [
  | inl before ↦ inr (λ word. absurd (omega (arith, before, word.from)))
  | inr from ↦ elim (cases_lt at (cell.at + cell.size)) [
    | inl below ↦ inl (record { from = omega (arith, from); below = below })
    | inr behind ↦ inr (λ word. absurd (omega (arith, behind, word.below)))
  ]
]

-- whether it is such a cell
lost_in : {heap : Heap} {graph : Graph} → Shows heap graph → (at : ℕ) (cell : Cell)
    → IsDecided (IsLostIn heap graph at cell)
lost_in shows at cell = elim (word_decided cell at) [
  | inr none ↦ inr (λ is. none is.of_cell)
  | inl word ↦ elim (decided (is_free_kind cell.layout.kind)) [
    | inl free ↦ inr (λ is. is.used free)
    | inr used ↦ elim (belongs_decided shows cell.at) [
      | inl belongs ↦ inr (λ is. is.lost belongs)
      | inr lost ↦ inl (record { of_cell = word; used = λ free. false≢true (sym used ∙ free); lost = lost })
    ]
  ]
]

-- so whether a word is lost is decided
lost_decided : {heap : Heap} {graph : Graph} → Shows heap graph → (at : ℕ) → IsDecided (IsLostWord heap graph at)
lost_decided {heap} {graph} shows at =
    elim (some_decided (IsLostIn heap graph at) (cells_in shows.whole.rows.rows)
    (λ cell there. lost_in shows at cell)) [
      | inl some ↦ inl (record {
        cell = some.0;
        words = words_of_cell heap some.0;
        has = among_has shows.whole.rows.are some.0 some.1;
        of_cell = some.2.of_cell;
        used = some.2.used;
        lost = some.2.lost;
      })
      | inr none ↦ inr (λ is. none (
        is.cell,
        cell_among shows.whole.rows.are is.has,
        record { of_cell = is.of_cell; used = is.used; lost = is.lost },
      ))
    ]

-- and the lost words of pages are a list
pub lost_words_are_listed : LostWordsAreListed
lost_words_are_listed heap graph shows =
    let all = listed (IsLostWord heap graph) (lost_decided shows) (eden_start heap.space) in
    (all.list, record { of_pages = all.few; each = all.from; all = all.all })
