-- The rows of a heap, region by region, and the survivors in them.
use Rattle.std.proofs.Common.{◌≡◌, List, [], ◌∷◌, map}
use Rattle.std.proofs.Common.{All, refl, ◌∙◌}
use Rattle.std.proofs.Common.{ap}
use Rattle.std.proofs.lemmas.List.Elements.{All-head, All-tail}
use Rattle.heap_model.specs.Heaps.{Heap, Row, IsUsedRow}
use Rattle.heap_model.proofs.RowEnds.{one_used_row}

-- two lists of used rows of the same regions are one
pub one_rows : (heap : Heap) (rows others : List Row)
    → map (λ (row : Row). row.extent) rows ≡ map (λ (row : Row). row.extent) others
    → All (IsUsedRow heap) rows → All (IsUsedRow heap) others → rows ≡ others
one_rows heap [] [] same each each_other = refl
one_rows heap [] (other ∷ others) same each each_other = absurd (cc)
one_rows heap (row ∷ rows) [] same each each_other = absurd (cc)
one_rows heap (row ∷ rows) (other ∷ others) same each each_other =
    let first : row.extent ≡ other.extent = cc in
    let later : map (λ (row : Row). row.extent) rows ≡ map (λ (row : Row). row.extent) others = cc in
    let one = one_used_row heap row other (All-head (IsUsedRow heap) row rows each)
    (All-head (IsUsedRow heap) other others each_other) first in
    let is : row ≡ other = λ i. record { extent = first i; end = one.end i; cells = one.cells i } in
    let rest = one_rows heap rows others later (All-tail (IsUsedRow heap) row rows each)
    (All-tail (IsUsedRow heap) other others each_other) in
    ap (λ front. front ∷ rows) is ∙ ap (λ more. other ∷ more) rest
