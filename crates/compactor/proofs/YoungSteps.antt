-- The pass along the young generation: how it begins, that each cell stays in place, and how a region ends.
use Rattle.std.proofs.Common.{◌≡◌, ℕ, ◌+◌, ◌≤◌, ◌<◌, ◌⊎◌, inl, inr, Bool, true, false, List, [], ◌∷◌, ◌++◌}
use Rattle.std.proofs.Common.{Contains, slice_get, refl, sym, ◌∙◌, ap, subst, arith, append_assoc}
use Rattle.std.proofs.lemmas.Bool.{cases_lt, false≢true}
use Rattle.std.proofs.lemmas.List.Elements.{Contains-append_right}
use Rattle.tagged_word.proofs.Members.{first_in}
use Rattle.page_space.specs.Extents.{Space, ContainsAddress, eden_start, roots_start}
use Rattle.page_space.proofs.Covering.{disjoint}
use Rattle.page_space.proofs.Standing.{pages, eden}
use Rattle.page_space.proofs.Stretches.{words_in-each_of}
use Rattle.page_space.specs.declared.region.Region.TheVariants.{Page}
use Rattle.page_space.specs.Sizes.{page_words}
use Rattle.page_space.specs.Extents.{half_of}
use Rattle.cell_layout.specs.Cells.{IsRow}
use Rattle.cell_layout.proofs.Rows.{BeginsWith, row_begins, row_ascends, cell_within}
use Rattle.heap_model.specs.Types.{Cell}
use Rattle.heap_model.specs.Heaps.{Heap, Row, IsUsedRow, HasCell, cell_extents, words_of_cell}
use Rattle.heap_model.specs.Wholeness.{HasRows}
use Rattle.heap_model.proofs.CellsApart.{cell_extent_stands, cells_apart, ends_within, first_of_cell, used_few}
use Rattle.heap_model.proofs.Patches.{row_holds}
use Rattle.heap_model.proofs.RegionRows.{row_between, region_ends}
use Rattle.heap_model.proofs.RegionSeams.{IsSeam}
use Rattle.heap_model.proofs.RowEnds.{one_used_row}
use Rattle.heap_model.proofs.WordsAlike.{extent_below_roots}
use Rattle.heap_walk.specs.Limits.{IsLimit}
use Rattle.heap_walk.specs.Walks.{StandAhead}
use Rattle.write_barrier.specs.Seats.{heap_words}
use Rattle.write_barrier.specs.MutatorState.{Mutator, heap_of}
use Rattle.compactor.specs.Tables.{Table}
use Rattle.compactor.specs.Copying.{Copies, StandsCopied}
use Rattle.compactor.specs.Sliding.{is_kept}
use Rattle.compactor.specs.Young.{InYoung, IsBesideYoung, MayMove, Stays, YoungMoved}
use Rattle.compactor.proofs.Copied.{keeps_itself, keeps_again}
use Rattle.compactor.proofs.PackedPages.{one_stays}
use Rattle.compactor.proofs.PageRows.{row_stands_ahead}

-- the regions from eden on come after the pages
pub eden_seam : (space : Space) → IsSeam space (eden_start space)
eden_seam space =
    let first = pages space in
    let young = eden space in
    let half = half_of space 0 in
    let other = half_of space 1 in
    record {
      done = first;
      rest = young ++ (half ++ other);
      joined = append_assoc (first ++ young) half other ∙ append_assoc first young (half ++ other);
      reached = words_in-each_of (λ page. Page page) page_words space.sizes.pages;
    }

-- no cell of a region begins after its used row
none_after : {heap : Heap} {row : Row} {cell : Cell} {were : List ℕ} → HasRows heap
    → Contains (cell_extents heap.space) row.extent → IsUsedRow heap row → HasCell heap cell were
    → row.end ≤ cell.at → cell.at < row.extent.start + row.extent.words → ⊥
none_after {heap} {row} {cell} rows there used has past below =
    let own = has.row in
    let ascends = row_ascends heap.space heap.words row.extent.start row.end row.cells used.stands in
    let here : ContainsAddress row.extent cell.at = record { from = omega (arith, ascends, past); below = below } in
    let first = first_of_cell has in
    let same = disjoint heap.space own.extent row.extent cell.at
    (cell_extent_stands heap.space own.extent has.in_region) (cell_extent_stands heap.space row.extent there)
    (row_holds rows has.in_region has.used has.in_row first) here in
    let within = cell_within heap.space heap.words own.extent.start own.end own.cells cell has.used.stands has.in_row in
    omega (arith, within.1, (one_used_row heap own row has.used used same).end, past, first.below)

-- a cell that begins before the end of another is it, or begins before it
pub before_or_same : {heap : Heap} {cell other : Cell} {words others : List ℕ} → HasRows heap → HasCell heap cell words
    → HasCell heap other others → other.at < cell.at + cell.size → (other.at < cell.at) ⊎ (cell ≡ other)
before_or_same {heap} {cell} {other} rows has has_other below = elim (cases_lt other.at cell.at) [
  | inl before ↦ inl before
  | inr from ↦ inr (cells_apart other.at rows has has_other (record { from = from; below = below })
      (first_of_cell has_other))
]

-- where eden begins no young cell is moved
pub none_moved : (first was : Mutator) (table : Table) → YoungMoved first was was table (eden_start first.seat.space)
none_moved first was table = record {
  rest = keeps_itself was;
  free = refl;
  records = λ at below. (λ there. there, λ there. there);
  beyond = λ at past there. there;
  ends = λ cell words has young before. absurd (omega (arith, young, before));
  copied = λ cell offset is below. absurd (omega (arith, is.young, is.before));
  beside = λ at out. refl;
}

-- a word beside the young cells that begin before an address is beside those that begin before an earlier one
beside_earlier : {heap : Heap} (to later at : ℕ) → to ≤ later → IsBesideYoung heap later at → IsBesideYoung heap to at
beside_earlier to later at ahead out cell is from below =
    out cell (record {
      words = is.words;
      has = is.has;
      young = is.young;
      before = omega (arith, is.before, ahead);
      kept = is.kept;
    }) from below

-- so is each word from an address on before which the cells end
beside_ahead : {first was now : Mutator} {table : Table} (to at : ℕ) → YoungMoved first was now table to → to ≤ at
    → IsBesideYoung (heap_of first) to at
beside_ahead to at moved ahead cell is from below =
    omega (arith, moved.ends cell is.words is.has is.young is.before, ahead, below)

-- the pass begins a region
pub young_begins : {first was now : Mutator} {table : Table} {start end limit : ℕ}
    → MayMove first was now table start end
    → IsLimit (heap_of first) start end limit → InYoung first was now table start end limit start
young_begins {first} {start = start} may is_limit =
    let own = row_between may.begun.whole.rows.are may.stands in
    record {
      begun = may.begun;
      slid = may.slid;
      stands = may.stands;
      young = may.young;
      moved = may.moved;
      row = own.row;
      is = own.is;
      limit_within = is_limit.within;
      ends = is_limit.ends own.row own.is;
      from = omega arith;
      front = [];
      back = own.row.cells;
      part = refl;
      to_come = subst (λ (from : ℕ). IsRow first.seat.space (heap_words first.seat) from own.row.end own.row.cells)
          own.is.starts own.is.used.stands;
    }

module _ {first was now : Mutator} {table : Table} {start end limit at : ℕ}
    (state : InYoung first was now table start end limit at) where
  -- the heap with which the compaction began
  abbrev heap : Heap
  heap = heap_of first

  -- the region ends there
  region_end : state.row.extent.start + state.row.extent.words ≡ end
  region_end = region_ends state.begun.limits state.stands state.is

  -- the row ends in its region
  pub row_within : state.row.end ≤ end
  row_within =
      omega (
        arith,
        ends_within heap state.row (used_few state.begun.whole.rows) state.is.among state.is.used,
        region_end,
      )

  -- and the region before the roots
  pub end_below_roots : end ≤ roots_start heap.space
  end_below_roots = omega (arith, extent_below_roots heap.space state.row.extent state.is.among, region_end)

  -- the walk has not come past the end of the row
  comes_to : at ≤ state.row.end
  comes_to = row_ascends heap.space heap.words at state.row.end state.back state.to_come

  -- words from there on are as they were
  pub word_stays : (a : ℕ) → at ≤ a → slice_get (heap_words now.seat) a ≡ slice_get heap.words a
  word_stays a ahead =
      state.moved.beside a (beside_ahead at a state.moved ahead)
      ∙ state.slid.ahead a (omega (arith, ahead, state.from, state.young))

  -- so the cells to come stand ahead
  pub young_ahead : StandAhead now.seat.space (heap_words now.seat) at limit state.row.end state.back
  young_ahead =
      let rest = keeps_again state.slid.rest state.moved.rest in
      let before : at ≤ roots_start heap.space = omega (arith, comes_to, row_within, end_below_roots) in
      let stays = row_stands_ahead heap.space heap.words (heap_words now.seat) at state.row.end state.back state.to_come
      rest.seat.count before word_stays in
      record {
        stand = subst (λ (space : Space). IsRow space (heap_words now.seat) at state.row.end state.back)
            (sym rest.seat.space) stays;
        ends = record {
          within = state.ends.within;
          stops = elim state.ends.stops [
            | inl at_limit ↦ inl at_limit
            | inr zero ↦ inr (word_stays state.row.end comes_to ∙ zero)
          ];
        };
      }

  -- At the end of its row the pass has come to the end of the region.
  pub young_ends : at ≡ state.row.end → YoungMoved first was now table end
  young_ends over =
      let moved = state.moved in
      let earlier : (cell : Cell) (words : List ℕ) → HasCell heap cell words → cell.at < end → cell.at < at =
      λ cell words has below. elim (cases_lt cell.at at) [
        | inl before ↦ before
        | inr past ↦ absurd (none_after state.begun.whole.rows state.is.among state.is.used has
            (omega (arith, past, over)) (omega (arith, below, region_end)))
      ] in
      record {
        rest = moved.rest;
        free = moved.free;
        records = moved.records;
        beyond = moved.beyond;
        ends = λ cell words has young below.
            omega (arith, moved.ends cell words has young (earlier cell words has below), comes_to, row_within);
        copied = λ cell offset is below. moved.copied cell offset (record {
          words = is.words;
          has = is.has;
          young = is.young;
          before = earlier cell is.words is.has is.before;
          kept = is.kept;
        }) below;
        beside = λ a out. moved.beside a (beside_earlier at end a (omega (arith, comes_to, row_within)) out);
      }

module _ {first was now : Mutator} {table : Table} {start end limit : ℕ} {cell : Cell} {more : List Cell}
    (state : InYoung first was now table start end limit cell.at) (is_next : state.back ≡ cell ∷ more) where
  -- the heap with which the compaction began
  abbrev before : Heap
  before = heap_of first

  -- what is to come begins with the cell
  pub begins_with : BeginsWith before.space before.words cell.at state.row.end cell more
  begins_with =
      row_begins (subst (λ (rest : List Cell). IsRow before.space before.words cell.at state.row.end rest) is_next
      state.to_come)

  -- it ends before the roots
  pub cell_before_roots : cell.at + cell.size ≤ roots_start before.space
  cell_before_roots =
      omega (
        arith,
        row_ascends before.space before.words (cell.at + cell.size) state.row.end more begins_with.rest,
        row_within state,
        end_below_roots state,
      )

  -- the cell is one of the heap
  cell_has : HasCell before cell (words_of_cell before cell)
  cell_has =
      let there : Contains state.back cell =
      subst (λ (rest : List Cell). Contains rest cell) (sym is_next) (first_in cell more) in
      record {
        row = state.row;
        in_region = state.is.among;
        used = state.is.used;
        in_row = subst (λ (all : List Cell). Contains all cell) (sym state.part)
            (Contains-append_right state.front state.back cell there);
        words_are = refl;
      }

  -- one that begins before its end is it, or begins before it
  earlier_or_it : {other : Cell} {words : List ℕ} → HasCell before other words → other.at < cell.at + cell.size
      → (other.at < cell.at) ⊎ (cell ≡ other)
  earlier_or_it has below = before_or_same state.begun.whole.rows cell_has has below

  -- each ends where it does, or before
  all_end : (other : Cell) (words : List ℕ) → HasCell before other words → eden_start first.seat.space ≤ other.at
      → other.at < cell.at + cell.size → other.at + other.size ≤ cell.at + cell.size
  all_end other words has young below = elim (earlier_or_it has below) [
    | inl earlier ↦ omega (arith, state.moved.ends other words has young earlier)
    | inr same ↦ omega (arith, ap (λ (one : Cell). one.at) same, ap (λ (one : Cell). one.size) same)
  ]

  -- where a free one was passed by
  free_moved : is_kept cell ≡ false → YoungMoved first was now table (cell.at + cell.size)
  free_moved free =
      let moved = state.moved in
      record {
        rest = moved.rest;
        free = moved.free;
        records = moved.records;
        beyond = moved.beyond;
        ends = all_end;
        copied = λ other offset is below. elim (earlier_or_it is.has is.before) [
          | inl earlier ↦ moved.copied other offset (record {
            words = is.words;
            has = is.has;
            young = is.young;
            before = earlier;
            kept = is.kept;
          }) below
          | inr same ↦
              absurd (false≢true (sym free ∙ ap is_kept same ∙ is.kept))
        ];
        beside = λ a out. moved.beside a (beside_earlier cell.at (cell.at + cell.size) a (omega arith) out);
      }

  -- where the slots of a kept one were moved
  kept_moved : {new : Mutator} → is_kept cell ≡ true → Copies now new table cell cell.at cell.size
      → YoungMoved first was new table (cell.at + cell.size)
  kept_moved {new} kept copies =
      let moved = state.moved in
      let bound = keeps_again state.slid.rest moved.rest in
      let young : now.recorded.bound ≤ cell.at =
      omega (arith, bound.bound, state.begun.bounded, state.young, state.from) in
      let some = row_ascends before.space before.words (cell.at + cell.size) state.row.end more begins_with.rest in
      record {
        rest = keeps_again moved.rest copies.rest;
        free = copies.free ∙ moved.free;
        records = λ a below.
            let now_below : a < now.recorded.bound = omega (arith, below, moved.rest.bound) in
            let later = copies.others a now_below (inl (omega (arith, now_below, young))) in
            let sooner = moved.records a below in
            (λ there. sooner.0 (later.0 there), λ there. later.1 (sooner.1 there));
        beyond = λ a past there.
            moved.beyond a past (copies.beyond a (omega (arith, past, moved.rest.bound)) there);
        ends = all_end;
        copied = λ other offset is below. elim (earlier_or_it is.has is.before) [
          | inl earlier ↦
              let ends = moved.ends other is.words is.has is.young earlier in
              one_stays (copies.beside (other.at + offset) (inl (omega (arith, ends, below))))
              (moved.copied other offset (record {
                words = is.words;
                has = is.has;
                young = is.young;
                before = earlier;
                kept = is.kept;
              }) below)
          | inr same ↦
              let Stands : Cell → Type 0 = λ one. (k : ℕ) → k < one.size
              → StandsCopied before.words table one (heap_words new.seat) one.at k in
              let here : Stands cell = λ k inside.
              let one = copies.copied k inside in
              record {
                word = one.word;
                now = one.now;
                read = sym (word_stays state (cell.at + k) (omega arith)) ∙ one.read;
                put = one.put;
                is = one.is;
              } in
              subst Stands same here offset below
        ];
        beside = λ a out.
            let aside : (a < cell.at) ⊎ (cell.at + cell.size ≤ a) = elim (cases_lt a cell.at) [
              | inl low ↦ inl low
              | inr from ↦ elim (cases_lt a (cell.at + cell.size)) [
                | inl inside ↦
                    absurd (out cell (record {
                      words = words_of_cell before cell;
                      has = cell_has;
                      young = omega (arith, state.young, state.from);
                      before = omega (arith, from, inside);
                      kept = kept;
                    }) from inside)
                | inr high ↦ inr high
              ]
            ] in
            copies.beside a aside
            ∙ moved.beside a (beside_earlier cell.at (cell.at + cell.size) a (omega arith) out);
      }

  -- either way
  stays_moved : {new : Mutator} (test : Bool) → is_kept cell ≡ test → Stays now new table cell
      → YoungMoved first was new table (cell.at + cell.size)
  stays_moved true is stays = kept_moved is (stays.kept is)
  stays_moved false is stays =
      subst (λ (main : Mutator). YoungMoved first was main table (cell.at + cell.size)) (sym (stays.free is))
      (free_moved is)

  -- So the pass goes on after the cell.
  pub young_passed : {new : Mutator} → Stays now new table cell
      → InYoung first was new table start end limit (cell.at + cell.size)
  young_passed stays = record {
    begun = state.begun;
    slid = state.slid;
    stands = state.stands;
    young = state.young;
    moved = stays_moved (is_kept cell) refl stays;
    row = state.row;
    is = state.is;
    limit_within = state.limit_within;
    ends = state.ends;
    from = omega (arith, state.from);
    front = state.front ++ cell ∷ [];
    back = more;
    part = state.part ∙ ap (λ rest. state.front ++ rest) is_next
        ∙ sym (append_assoc state.front (cell ∷ []) more);
    to_come = begins_with.rest;
  }
