-- How many words the young cells have: those of survivors and the used ones of eden.
use Rattle.std.proofs.Common.{◌≡◌, ℕ, ◌+◌, List, [], ◌∷◌, ◌++◌, map, Contains, refl, sym, ◌∙◌, ap, arith}
use Rattle.std.specs.List.{All, sum_by, range_with_len}
use Rattle.std.proofs.lemmas.List.Sums.{sum_by-cons, sum_by-append}
use Rattle.std.proofs.lemmas.List.Elements.{All-head, All-tail}
use Rattle.tagged_word.proofs.Members.{first_in, rest_in}
use Rattle.page_space.specs.declared.region.Region.TheVariants.{Page, Eden, Segment}
use Rattle.page_space.specs.Sizes.{page_words}
use Rattle.page_space.specs.Extents.{Space, Stretch, Extent, each_of, half_of, half_segments, extents_from}
use Rattle.page_space.specs.Extents.{cell_stretches}
use Rattle.cell_layout.proofs.Rows.{rows_are_full}
use Rattle.heap_model.specs.Types.{Region, Cell}
use Rattle.heap_model.specs.Heaps.{Heap, Row, EndsUsed, IsUsedRow, survivors_in, survivors_of}
use Rattle.heap_model.specs.Wholeness.{HasRows}
use Rattle.scavenger.proofs.StartRows.{if_young, young_of, young_cells}

-- the sum over what a function gives is that of its terms there
pub sum_by-map : {X Y : Type 0} (f : Y → ℕ) (g : X → Y) (xs : List X) → sum_by f (map g xs) ≡ sum_by (λ x. f (g x)) xs
sum_by-map f g [] = refl
sum_by-map f g (x ∷ xs) =
    sum_by-cons f (g x) (map g xs) ∙ ap (λ n. f (g x) + n) (sum_by-map f g xs) ∙ sym (sum_by-cons (λ y. f (g y)) x xs)

-- two sums with the same term at each element are the same
pub sum_by-same : {X : Type 0} (f g : X → ℕ) (xs : List X) → ((x : X) → Contains xs x → f x ≡ g x)
    → sum_by f xs ≡ sum_by g xs
sum_by-same f g [] same = refl
sum_by-same f g (x ∷ xs) same =
    sum_by-cons f x xs ∙ ap (λ n. n + sum_by f xs) (same x (first_in x xs))
    ∙ ap (λ n. g x + n) (sum_by-same f g xs (λ y there. same y (rest_in x xs y there))) ∙ sym (sum_by-cons g x xs)

-- a sum of which each term is 0 is 0
sum_by-none : {X : Type 0} (f : X → ℕ) (xs : List X) → ((x : X) → f x ≡ 0) → sum_by f xs ≡ 0
sum_by-none f [] none = refl
sum_by-none f (x ∷ xs) none = omega (arith, sum_by-cons f x xs, none x, sum_by-none f xs none)

-- the used words of a region: eden's are so many, and no other region's are counted
abbrev used_in : ℕ → Region → ℕ
used_in used Eden = used
used_in used _ = 0

-- the used words of stretches
abbrev used_of : ℕ → List Stretch → ℕ
used_of used xs = sum_by (λ (stretch : Stretch). used_in used stretch.region) xs

-- numbered stretches that are not eden have no used words
used_of-each : (used : ℕ) (region : ℕ → Region) (words count : ℕ) → ((n : ℕ) → used_in used (region n) ≡ 0)
    → used_of used (each_of region words count) ≡ 0
unfolding each_of
used_of-each used region words count none =
    let stretch : ℕ → Stretch = λ n. record { region = region n; words = words } in
    sum_by-map (λ (one : Stretch). used_in used one.region) stretch (range_with_len 0 count)
    ∙ sum_by-none (λ n. used_in used (region n)) (range_with_len 0 count) none

-- the used words of all stretches of cells are those of eden
used_of-cells : (used : ℕ) (space : Space) → used_of used (cell_stretches space) ≡ used
used_of-cells used space =
    let term : Stretch → ℕ = λ (one : Stretch). used_in used one.region in
    let pages = each_of (λ page. Page page) page_words space.sizes.pages in
    let eden : Stretch = record { region = Eden; words = space.sizes.young } in
    let before = pages ++ (eden ∷ []) in
    let half : (n : ℕ) → used_of used (half_of space n) ≡ 0 =
    λ n. used_of-each used (λ worker. Segment n worker) space.sizes.young (half_segments space) (λ worker. refl) in
    let none : used_of used pages ≡ 0 =
    used_of-each used (λ page. Page page) page_words space.sizes.pages (λ page. refl) in
    omega (
      arith,
      sum_by-append term (before ++ half_of space 0) (half_of space 1),
      sum_by-append term before (half_of space 0),
      sum_by-append term pages (eden ∷ []),
      none,
      half 0,
      half 1,
    )

-- the used words of regions are those of their stretches
used_of-extents : (used start : ℕ) (xs : List Stretch)
    → sum_by (λ (extent : Extent). used_in used extent.region) (extents_from start xs) ≡ used_of used xs
used_of-extents used start [] = refl
used_of-extents used start (x ∷ xs) =
    let term : Extent → ℕ = λ (extent : Extent). used_in used extent.region in
    let first : Extent = record { region = x.region; start = start; words = x.words } in
    sum_by-cons term first (extents_from (start + x.words) xs)
    ∙ ap (λ n. used_in used x.region + n) (used_of-extents used (start + x.words) xs)
    ∙ sym (sum_by-cons (λ (one : Stretch). used_in used one.region) x xs)

-- how many words cells have
abbrev pub words_of_cells : List Cell → ℕ
words_of_cells cells = sum_by (λ (cell : Cell). cell.size) cells

-- the young cells of a row have the words of its survivors, or of eden's used ones, kind by kind
if_young_words : (heap : Heap) (row : Row) (region : Region) → EndsUsed heap row.extent row.end region
    → row.extent.start + words_of_cells row.cells ≡ row.end
    → words_of_cells (if_young row.cells region) ≡ survivors_in row region + used_in heap.used region
if_young_words heap row (Page page) ends full = refl
if_young_words heap row Eden ends full = omega (arith, full)
if_young_words heap row (Segment half worker) ends full = omega (arith, full)
if_young_words heap row _ ends full = absurd ends

-- how many of a row's words are survivors'
abbrev survivors_by : Row → ℕ
survivors_by row = survivors_in row row.extent.region

-- how many of a row's words are used ones of eden, where eden has so many
abbrev used_by : ℕ → Row → ℕ
used_by used row = used_in used row.extent.region

-- the young cells of rows have the words of the survivors and the used ones
rows_words : (heap : Heap) (rows : List Row) → All (IsUsedRow heap) rows
    → words_of_cells (young_cells rows) ≡ survivors_of rows + sum_by (used_by heap.used) rows
rows_words heap [] all = refl
rows_words heap (row ∷ rows) all =
    let used : IsUsedRow heap row = All-head (IsUsedRow heap) row rows all in
    let full = rows_are_full heap.space heap.words row.extent.start row.end row.cells used.stands in
    omega (
      arith,
      sum_by-append (λ (cell : Cell). cell.size) (young_of row) (young_cells rows),
      if_young_words heap row row.extent.region used.ends full,
      rows_words heap rows (All-tail (IsUsedRow heap) row rows all),
      sum_by-cons survivors_by row rows,
      sum_by-cons (used_by heap.used) row rows,
    )

-- the young cells of a heap have the words of the survivors and the used ones of eden
pub young_words : (heap : Heap) (rows : HasRows heap)
    → words_of_cells (young_cells rows.rows) ≡ heap.survivors + heap.used
young_words heap rows =
    let term : Extent → ℕ = λ (extent : Extent). used_in heap.used extent.region in
    let used : sum_by (used_by heap.used) rows.rows ≡ heap.used =
    sym (sum_by-map term (λ (row : Row). row.extent) rows.rows) ∙ ap (sum_by term) rows.are.everywhere
    ∙ used_of-extents heap.used 0 (cell_stretches heap.space) ∙ used_of-cells heap.used heap.space in
    omega (arith, rows_words heap rows.rows rows.are.each, rows.counted, used)
