-- What a compaction leaves: pages are packed, young cells stand in place, and all slots and variables are moved.
use Rattle.std.proofs.Common.{◌≡◌, ◌≢◌, ℕ, ◌+◌, ◌≤◌, ◌<◌, List, Some, Contains, length}
use Rattle.std.proofs.Common.{slice_get, sym, ◌∙◌, ap, subst, arith}
use Rattle.page_space.specs.Extents.{Space, eden_start, roots_start}
use Rattle.handle_roots.specs.Roots.{root_at}
use Rattle.remembered_set.specs.Recorded.{Recorded}
use Rattle.free_runs.specs.FreeRuns.{row_of}
use Rattle.heap_model.specs.Types.{Cell, Run}
use Rattle.heap_model.specs.Heaps.{Row}
use Rattle.write_barrier.specs.Seats.{heap_words}
use Rattle.write_barrier.specs.MutatorState.{Mutator, heap_of}
use Rattle.compactor.specs.Tables.{Table, moved_word}
use Rattle.compactor.specs.Copying.{KeepsRest, StandsCopied}
use Rattle.compactor.specs.Sliding.{ArePlacedBefore, IsBegun, IsPacked, IsPageRow, Slid, page_start}
use Rattle.compactor.specs.Young.{IsBesideYoung, IsYoungBefore, RootsMoved, YoungMoved}
use Rattle.compactor.proofs.Copied.{keeps_again}
use Rattle.compactor.proofs.PackedPages.{PageStays, one_stays, packed_stays}
use Rattle.compactor.proofs.PageRows.{eden_below_roots, page_below_eden, page_row_ends, page_row_stands}
use Rattle.compactor.proofs.Placing.{slid_within}

-- What was known at first, and what the passes left.
pub record IsFinal (first now : Mutator) (table : Table) : Type 0 where
  pub begun : IsBegun first
  pub places : ArePlacedBefore (heap_of first) table first.seat.space.sizes.pages
  pub rest : KeepsRest first now
  pub rows : length now.free ≡ length first.free
  pub packed : (page : ℕ) (row : Row) → IsPageRow (heap_of first) page row
      → IsPacked first now table page row.cells
  pub young : (cell : Cell) (offset : ℕ) → IsYoungBefore (heap_of first) (roots_start first.seat.space) cell
      → offset < cell.size → StandsCopied (heap_words first.seat) table cell (heap_words now.seat) cell.at offset
  pub aside : (at : ℕ) → eden_start first.seat.space ≤ at → at < roots_start first.seat.space
      → IsBesideYoung (heap_of first) (roots_start first.seat.space) at
      → slice_get (heap_words now.seat) at ≡ slice_get (heap_words first.seat) at
  pub roots : (variable word : ℕ) → variable < first.seat.space.variables
      → slice_get (heap_words first.seat) (root_at first.seat.space variable) ≡ Some word
      → slice_get (heap_words now.seat) (root_at first.seat.space variable) ≡ Some (moved_word table word)
  pub behind : (at : ℕ) → roots_start first.seat.space ≤ at
      → ((variable : ℕ) → variable < first.seat.space.variables → at ≢ root_at first.seat.space variable)
      → slice_get (heap_words now.seat) at ≡ slice_get (heap_words first.seat) at
  pub beyond : (at : ℕ) → first.recorded.bound ≤ at → Contains now.recorded.slots at
      → Contains first.recorded.slots at

module _ {first packed moved now : Mutator} {table : Table} (begun : IsBegun first)
    (places : ArePlacedBefore (heap_of first) table first.seat.space.sizes.pages)
    (slid : Slid first packed table first.seat.space.sizes.pages)
    (young : YoungMoved first packed moved table (roots_start first.seat.space))
    (roots : RootsMoved moved now table moved.seat.space.variables) where
  -- where regions stand after the passes
  same_space : moved.seat.space ≡ first.seat.space
  same_space = young.rest.seat.space ∙ slid.rest.seat.space

  -- no root word stands before the roots
  root_behind : (variable : ℕ) → roots_start first.seat.space ≤ root_at moved.seat.space variable
  root_behind variable = omega (arith, ap (λ (space : Space). roots_start space) same_space)

  -- no word before the roots is a variable's
  roots_stay : (at : ℕ) → at < roots_start first.seat.space
      → slice_get (heap_words now.seat) at ≡ slice_get (heap_words moved.seat) at
  roots_stay at below =
      roots.beside at (λ variable known there same. omega (arith, below, same, root_behind variable))

  -- no word of a page is a young cell's
  page_beside : (at : ℕ) → at < eden_start first.seat.space
      → IsBesideYoung (heap_of first) (roots_start first.seat.space) at
  page_beside at below cell is from inside = omega (arith, below, from, is.young)

  -- nor is one from the roots on
  behind_beside : (at : ℕ) → roots_start first.seat.space ≤ at
      → IsBesideYoung (heap_of first) (roots_start first.seat.space) at
  behind_beside at past cell is from inside =
      omega (arith, past, inside, young.ends cell is.words is.has is.young is.before)

  -- eden begins before the roots
  eden_before_roots : eden_start first.seat.space ≤ roots_start first.seat.space
  eden_before_roots = eden_below_roots first.seat.space

  -- a page stays packed
  page_stays : (page : ℕ) → page < first.seat.space.sizes.pages → PageStays packed now page
  page_stays page there =
      let below : page_start (page + 1) ≤ eden_start first.seat.space = page_below_eden first.seat.space page there in
      record {
        long = roots.rest.seat.count ∙ young.rest.seat.count;
        bound = roots.rest.bound ∙ young.rest.bound;
        words = λ at from to.
            roots_stay at (omega (arith, to, below, eden_before_roots))
            ∙ young.beside at (page_beside at (omega (arith, to, below)));
        records = λ at from to.
            let kept = young.records at (omega (arith, to, below, slid.rest.bound, begun.bounded)) in
            let same = roots.recorded in (
              λ stands. kept.0 (subst (λ (one : Recorded). Contains one.slots at) same stands),
              λ stands. subst (λ (one : Recorded). Contains one.slots at) (sym same) (kept.1 stands),
            );
        runs = ap (λ (rows : List (List Run)). row_of rows page) (roots.free ∙ young.free);
      }

  -- So this is what the passes leave.
  pub is_final : IsFinal first now table
  is_final = record {
    begun = begun;
    places = places;
    rest = keeps_again (keeps_again slid.rest young.rest) roots.rest;
    rows = ap (λ (rows : List (List Run)). length rows) (roots.free ∙ young.free) ∙ slid.rows;
    packed = λ page row is.
        packed_stays page row.cells (places.placed page row is.0 is)
        (omega (
          arith,
          slid_within first.seat.space (heap_words first.seat) (page_start page) (page_start page) row.end row.cells
              (page_row_stands is) (omega arith),
          page_row_ends begun.limits is,
        )) (page_stays page is.0) (slid.packed page row is.0 is);
    young = λ cell offset is below.
        one_stays (roots_stay (cell.at + offset)
        (omega (arith, below, young.ends cell is.words is.has is.young is.before))) (young.copied cell offset is below);
    aside = λ at from below out.
        roots_stay at below ∙ young.beside at out ∙ slid.ahead at from;
    roots = λ variable word known reads.
        let variables = ap (λ (space : Space). space.variables) same_space in
        let At : Space → Type 0 = λ space.
        slice_get (heap_words now.seat) (root_at space variable) ≡ Some (moved_word table word) in
        let Read : Space → Type 0 = λ space. slice_get (heap_words moved.seat) (root_at space variable) ≡ Some word in
        let at : ℕ = root_at first.seat.space variable in
        let past : roots_start first.seat.space ≤ at = omega arith in
        let stood : slice_get (heap_words moved.seat) at ≡ Some word =
        young.beside at (behind_beside at past)
        ∙ slid.ahead at (omega (arith, past, eden_before_roots)) ∙ reads in
        subst At same_space (roots.roots variable word (omega (arith, known, variables))
        (omega (arith, known, variables))
        (subst Read (sym same_space) stood));
    behind = λ at past out.
        roots.beside at (λ variable known there same.
        out variable (omega (arith, there, ap (λ (space : Space). space.variables) same_space))
        (same ∙ ap (λ (space : Space). root_at space variable) same_space))
        ∙ young.beside at (behind_beside at past)
        ∙ slid.ahead at (omega (arith, past, eden_before_roots));
    beyond = λ at past stands.
        let before = subst (λ (one : Recorded). Contains one.slots at) roots.recorded stands in
        slid.beyond at past (young.beyond at (omega (arith, past, slid.rest.bound)) before);
  }
