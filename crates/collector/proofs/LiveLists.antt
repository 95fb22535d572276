-- Which cells are live in a heap that keeps exactly what can be reached: all that are not free. So are all cells of the
-- young generation, and where each page has a live cell, as many stand in pages as there are pages.
use Rattle.std.proofs.Common.{◌≡◌, ℕ, zero, suc, ◌+◌, ◌*◌, ◌<◌, ◌⊎◌, inl, inr, false, List, [], ◌∷◌, length}
use Rattle.std.proofs.Common.{Contains, IsTrue, refl, sym, subst, arith}
use Rattle.std.proofs.lemmas.Bool.{false≢true, false_from_ne_true}
use Rattle.tagged_word.specs.declared.layout.Kind.TheVariants as kind
use Rattle.tagged_word.specs.Cells.{is_free_kind, is_object_kind}
use Rattle.tagged_word.proofs.Members.{in_cases}
use Rattle.page_space.specs.Sizes.{page_words}
use Rattle.page_space.specs.Extents.{eden_start}
use Rattle.object_graph.specs.Graphs.{Graph}
use Rattle.heap_model.specs.Types.{Kind, Cell}
use Rattle.heap_model.specs.Heaps.{Heap, HasCell, words_of_cell}
use Rattle.heap_model.specs.Slots.{IsPlace}
use Rattle.heap_model.specs.Wholeness.{IsOwnedKind}
use Rattle.heap_model.proofs.BoundHeaps.{none_in}
use Rattle.heap_model.proofs.CellsApart.{first_of_cell}
use Rattle.live_cells.specs.Exact.{Exact}
use Rattle.live_cells.specs.Laws.{BelongsToReached}
use Rattle.live_cells.proofs.KeptOnly.{place_of_owner}
use Rattle.scavenger.proofs.StartRows.{young_cells, young_has}
use Rattle.scavenger.proofs.StartAscends.{Climbs, addresses, climbs_lower, climbs_pairs}
use Rattle.scavenger.proofs.StartSums.{young_words}
use Rattle.scavenger.proofs.Started.{cells_ascend}
use Rattle.collector.specs.Filled.{HasLiveCell, HasLiveYoung, HasLiveOld}

-- a cell that is not free is an object's, or a store, a table or a box
object_or_owned : (k : Kind) → is_free_kind k ≡ false → IsTrue (is_object_kind k) ⊎ IsOwnedKind k
object_or_owned kind.Plain used = inl refl
object_or_owned kind.List used = inl refl
object_or_owned kind.Weak used = inl refl
object_or_owned kind.Store used = inr tt
object_or_owned kind.Table used = inr tt
object_or_owned kind.Boxed used = inr tt
object_or_owned kind.Filler used = absurd (false≢true (sym used))
object_or_owned kind.Gap used = absurd (false≢true (sym used))

-- in a heap that keeps exactly what can be reached it is live
pub used_is_live : {heap : Heap} {graph : Graph} {cell : Cell} {words : List ℕ} → Exact heap graph
    → HasCell heap cell words → is_free_kind cell.layout.kind ≡ false → BelongsToReached heap graph cell.at
used_is_live {heap} {cell = cell} {words} exact has used =
    elim (object_or_owned cell.layout.kind used) [
      | inl object ↦
          let place : IsPlace heap cell.header.object cell.at =
          record { cell = cell; words = words; has = has; stands = refl; object = object; carries = refl } in
          BelongsToReached.place cell.header.object place
          (exact.keeps.reached cell.header.object cell.at place)
      | inr owned ↦
          let named = exact.keeps.named cell words has owned in
          BelongsToReached.named named.owner named.slot named.names
          (exact.keeps.reached named.owner.header.object named.owner.at (place_of_owner named.names))
    ]

-- so all cells of the young generation are live, and have the words of the survivors and the used words
pub young_is_live : {heap : Heap} {graph : Graph} → Exact heap graph → HasLiveYoung heap graph
young_is_live {heap} exact =
    let rows = exact.keeps.shows.whole.rows in
    record {
      cells = young_cells rows.rows;
      are = record {
        stand = λ cell there. (young_has rows cell there).has;
        live = λ cell there.
            let one = young_has rows cell there in
            used_is_live exact one.has (false_from_ne_true (is_free_kind cell.layout.kind) (λ free.
            let below = exact.packed cell (words_of_cell heap cell) one.has free in
            omega (arith, below, one.young)));
        ascend = cells_ascend heap rows;
      };
      young = λ cell there. (young_has rows cell there).young;
      words = young_words heap rows;
    }

-- a live cell of a page
record IsLiveOld (heap : Heap) (graph : Graph) (cell : Cell) : Type 0 where
  has : HasCell heap cell (words_of_cell heap cell)
  live : BelongsToReached heap graph cell.at
  old : cell.at < eden_start heap.space

-- so many of them from an address on
record HasLiveFrom (heap : Heap) (graph : Graph) (from many : ℕ) : Type 0 where
  cells : List Cell
  each : (cell : Cell) → Contains cells cell → IsLiveOld heap graph cell
  climbs : Climbs from (eden_start heap.space) (addresses cells)
  long : length cells ≡ many

module _ (heap : Heap) (graph : Graph)
    (pages : (page : ℕ) → page < heap.space.sizes.pages → HasLiveCell heap graph page) where
  -- a live cell that a page has
  one_of : (page : ℕ) (there : page < heap.space.sizes.pages) → IsLiveOld heap graph (pages page there).cell
  one_of page there =
      let one = pages page there in
      let some = first_of_cell one.has in
      record {
        has = subst (HasCell heap one.cell) (sym one.has.words_are) one.has;
        live = one.live;
        old = omega (arith, one.below, some.below, there);
      }

  -- one of each of the last pages
  live_from : (many page : ℕ) → page + many ≡ heap.space.sizes.pages
      → HasLiveFrom heap graph (page_words * page) many
  live_from zero page all = record {
    cells = [];
    each = λ cell there. absurd (none_in cell there);
    climbs = omega (arith, all);
    long = refl;
  }
  live_from (suc many) page all =
      let there : page < heap.space.sizes.pages = omega (arith, all) in
      let one = pages page there in
      let rest = live_from many (page + 1) (omega (arith, all)) in
      let some = first_of_cell one.has in
      let end : ℕ = eden_start heap.space in
      record {
        cells = one.cell ∷ rest.cells;
        each = λ cell among. elim (in_cases one.cell rest.cells cell among) [
          | inl same ↦ subst (IsLiveOld heap graph) same (one_of page there)
          | inr later ↦ rest.each cell later
        ];
        climbs = (
          one.from,
          climbs_lower (one.cell.at + 1) (page_words * (page + 1)) end (addresses rest.cells)
              (omega (arith, one.below, some.below)) rest.climbs,
        );
        long = omega (arith, rest.long);
      }

  -- so as many live cells stand in pages as there are pages
  pub old_is_live : HasLiveOld heap graph
  old_is_live =
      let all = live_from heap.space.sizes.pages 0 (omega arith) in
      record {
        cells = all.cells;
        are = record {
          stand = λ cell there. (all.each cell there).has;
          live = λ cell there. (all.each cell there).live;
          ascend = climbs_pairs (page_words * 0) (eden_start heap.space) (addresses all.cells) all.climbs;
        };
        old = λ cell there. (all.each cell there).old;
        many = all.long;
      }
