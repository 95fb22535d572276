-- Words of a page that are to be free may be a free run more of it: they lie in it, behind those that it has.
use Rattle.std.proofs.Common.{◌≡◌, ℕ, ◌+◌, ◌-◌, ◌*◌, ◌≤◌, ◌<◌, ◌⊎◌, inl, inr, List, Contains, sym}
use Rattle.std.proofs.Common.{◌∙◌, ap, arith}
use Rattle.std.proofs.lemmas.List.Elements.{All-weaker, All-contains_itself}
use Rattle.page_space.specs.declared.region.Region.TheVariants.{Page}
use Rattle.page_space.specs.Sizes.{page_words}
use Rattle.page_space.specs.Extents.{Space, Extent, ContainsAddress}
use Rattle.page_space.proofs.Covering.{disjoint}
use Rattle.page_space.proofs.Standing.{extent_of, page_stands}
use Rattle.free_runs.specs.FreeRuns.{IsBehind, row_of}
use Rattle.heap_model.specs.Types.{Run}
use Rattle.heap_model.specs.Heaps.{Heap, cell_extents}
use Rattle.heap_model.specs.Changes.{Patch}
use Rattle.heap_model.proofs.CellsApart.{cell_extent_stands}
use Rattle.write_barrier.specs.MutatorState.{Mutator}
use Rattle.sweeper.specs.Sweeping.{AreRunsOf, IsRoomy, IsSweptTo, page_of, run_between}

-- where a region of cells stands that has an address of a page
pub record IsPageAt (extent : Extent) (at : ℕ) : Type 0 where
  pub start : extent.start ≡ page_words * page_of at
  pub words : extent.words ≡ page_words

-- it is that page
pub page_at : (space : Space) (extent : Extent) (at : ℕ) → Contains (cell_extents space) extent
    → ContainsAddress extent at → page_of at < space.sizes.pages → IsPageAt extent at
page_at space extent at there holds below =
    let page : ℕ = page_of at in
    let same : extent ≡ extent_of space (Page page) =
    disjoint space extent (extent_of space (Page page)) at (cell_extent_stands space extent there)
    (page_stands space page below) holds (record { from = omega arith; below = omega arith }) in
    record { start = ap (λ (e : Extent). e.start) same; words = ap (λ (e : Extent). e.words) same }

-- The gaps of the page before an address end before it, with a word between them; else they are of what was before.
pub record EndBefore (gaps : List Patch) (start from : ℕ) : Type 0 where
  pub each : (gap : Patch) → Contains gaps gap → (gap.to < from) ⊎ (gap.to ≤ start)

-- so the runs that the page has end before it
runs_behind : {heap : Heap} {words marked : List ℕ} {gaps : List Patch} {pages : ℕ} {rows : List (List Run)}
    (start from to page : ℕ)
    → IsSweptTo heap words marked gaps from → AreRunsOf gaps pages rows → EndBefore gaps start from
    → start ≡ page_words * page → IsBehind (row_of rows page) (run_between from to)
runs_behind {rows = rows} start from to page swept runs before begins =
    let ends = λ (run : Run) (there : Contains (row_of rows page) run).
    let of_gap = runs.of_gap page run there in
    let some = (swept.each of_gap.gap of_gap.among).some in
    let at : run.at ≡ of_gap.gap.from = ap (λ (one : Run). one.at) of_gap.is in
    let words : run.words ≡ of_gap.gap.to - of_gap.gap.from = ap (λ (one : Run). one.words) of_gap.is in
    let in_page : page_of of_gap.gap.from ≡ page = of_gap.in_page in
    let behind : run.at + run.words < from = elim (before.each of_gap.gap of_gap.among) [
      | inl earlier ↦ omega (arith, earlier, at, words, some)
      | inr outside ↦ absurd (omega (arith, outside, some, begins, in_page))
    ] in
    behind in
    All-weaker (Contains (row_of rows page)) (λ (one : Run). one.at + one.words < from) ends (row_of rows page)
    (All-contains_itself (row_of rows page))

-- and the words may be a run more
pub words_are_roomy : {heap : Heap} {words marked : List ℕ} {gaps : List Patch} {pages : ℕ} (main : Mutator)
    (start from to : ℕ) (extent : Extent)
    → IsSweptTo heap words marked gaps from → AreRunsOf gaps pages main.free → EndBefore gaps start from
    → page_of from < pages → IsPageAt extent from → extent.start ≡ start → from < to
    → to ≤ extent.start + extent.words → IsRoomy main from to
words_are_roomy main start from to extent swept runs before below of_page begins some within = record {
  there = omega (arith, runs.count, below);
  lies = record {
    from = omega arith;
    some = omega (arith, some);
    below = omega (arith, some, within, of_page.start, of_page.words);
  };
  behind = runs_behind start from to (page_of from) swept runs before (sym begins ∙ of_page.start);
}
