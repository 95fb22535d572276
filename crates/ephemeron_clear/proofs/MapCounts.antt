-- How many entries weak maps count, one by one and in all.
use Rattle.std.proofs.Common.{◌≡◌, ◌≢◌, ℕ, zero, suc, ◌+◌, ◌≤◌, ◌<◌, ◌*◌, List, [], ◌∷◌, drop, length, get_or}
use Rattle.std.proofs.Common.{not, sum_by, refl, subst, arith, length-drop}
use Rattle.std.specs.List.{All, AllPairs}
use Rattle.std.proofs.lemmas.List.Elements.{Contains-get_or}
use Rattle.std.proofs.lemmas.List.Sums.{count_by-le-length, sum_by-cons, sum_by-le}
use Rattle.tagged_word.specs.Cells.{store_head}
use Rattle.page_space.specs.Sizes.{AreWithin}
use Rattle.cell_layout.proofs.OneCell.{cells_have_words}
use Rattle.cell_list.proofs.Flags.{listed_are_few}
use Rattle.heap_model.specs.Heaps.{Heap}
use Rattle.heap_model.specs.Kinds.{HasTable, Pair, is_free_pair}
use Rattle.heap_model.specs.Needs.{count_at}
use Rattle.heap_model.specs.Wholeness.{Whole}
use Rattle.heap_model.proofs.CellsApart.{has_is_cell}
use Rattle.heap_model.proofs.CellWords.{words_are_size, words_by_kind}
use Rattle.object_cells.proofs.WordsTold.{cell_fits}
use Rattle.tagged_word.specs.declared.layout.Kind.TheVariants as kind
use Rattle.weak_pairs.specs.Pairs.{HasPairsAt}
use Rattle.heap_model.proofs.PairLists.{length-pairs_in}
use Rattle.ephemeron_table.proofs.TablesRead.{pairs_counted}
use Rattle.ephemeron_clear.specs.Clearing.{AreMaps}
use Rattle.ephemeron_clear.proofs.FilledKeys.{some_pairs}

-- a table has no more pairs than a cell may have words
pairs_few : {heap : Heap} {pairs : List Pair} (word : ℕ) → HasTable heap word pairs → length pairs ≤ 2048
pairs_few word HasTable.none = omega arith
pairs_few {heap} word (HasTable.table to cell words refers of_kind power) =
    omega (
      arith,
      length-pairs_in (drop store_head words),
      length-drop store_head words,
      words_by_kind kind.Table refers.has of_kind,
      words_are_size refers.has,
      (cells_have_words heap.space heap.words cell (has_is_cell refers.has)).1,
    )

-- so a map counts no more
pub count_few : {heap : Heap} {map : ℕ} {pairs : List Pair} → Whole heap → HasPairsAt heap map pairs
    → count_at heap map ≤ 2048
count_few {pairs = pairs} whole has =
    omega (
      arith,
      pairs_counted whole has,
      count_by-le-length (λ (pair : Pair). not (is_free_pair pair)) pairs,
      pairs_few has.are.store has.are.table,
    )

-- and maps of which none is named twice so much in all
pub counts_few : {heap : Heap} (maps : List ℕ) → Whole heap → AreWithin heap.space.sizes heap.space.variables
    → AreMaps heap maps → AllPairs (λ map other. map ≢ other) maps
    → sum_by (count_at heap) maps ≤ 4294967296 * 2048
counts_few {heap} maps whole within are once =
    let below : All (λ map. map < 4294967296) maps = λ k d inside.
    let there = are (get_or maps k d) (Contains-get_or maps k d inside) in
    subst (λ n. n < 4294967296) there.stands (cell_fits whole.sized within there.has) in
    let few : length maps ≤ 4294967296 =
    listed_are_few (record { bound = 4294967296; addresses = maps }) (record { once = once; below = below }) in
    let each : All (λ map. count_at heap map ≤ 2048) maps = λ k d inside.
    count_few whole (some_pairs whole (are (get_or maps k d) (Contains-get_or maps k d inside))).are in
    let all : sum_by (count_at heap) maps ≤ length maps * 2048 = sum_by-le (count_at heap) 2048 maps each in
    omega (arith, all, few)

-- sums of what is the same at each place
sums_same : (f g : ℕ → ℕ) (xs : List ℕ) → ((k : ℕ) → k < length xs → f (get_or xs k 0) ≡ g (get_or xs k 0))
    → sum_by f xs ≡ sum_by g xs
sums_same f g [] same = refl
sums_same f g (x ∷ xs) same =
    omega (
      arith,
      sum_by-cons f x xs,
      sum_by-cons g x xs,
      same 0 (omega arith),
      sums_same f g xs (λ k inside. same (suc k) (omega (arith, inside))),
    )

-- where one is less by so much, and all others are the same, the sum is less by so much
pub sum_less : (f g : ℕ → ℕ) (xs : List ℕ) (at less : ℕ) → at < length xs
    → less + f (get_or xs at 0) ≡ g (get_or xs at 0)
    → ((k : ℕ) → k < length xs → k ≢ at → f (get_or xs k 0) ≡ g (get_or xs k 0))
    → less + sum_by f xs ≡ sum_by g xs
sum_less f g [] at less inside here same = absurd (omega (arith, inside))
sum_less f g (x ∷ xs) zero less inside here same =
    omega (
      arith,
      here,
      sum_by-cons f x xs,
      sum_by-cons g x xs,
      sums_same f g xs (λ k within. same (suc k) (omega (arith, within)) (λ is. absurd (omega (arith, is)))),
    )
sum_less f g (x ∷ xs) (suc at) less inside here same =
    omega (
      arith,
      same 0 (omega arith) (λ is. absurd (omega (arith, is))),
      sum_by-cons f x xs,
      sum_by-cons g x xs,
      sum_less f g xs at less (omega (arith, inside)) here
          (λ k within apart. same (suc k) (omega (arith, within)) (λ is. apart (omega (arith, is)))),
    )
