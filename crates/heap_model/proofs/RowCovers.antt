-- Each address of a row is of one of its cells, and what is in the cells of many patches is in those of one.
use Rattle.std.proofs.Common.{◌≡◌, ℕ, zero, suc, ◌+◌, ◌-◌, ◌≤◌, ◌<◌, inl, inr}
use Rattle.std.proofs.Common.{List, [], ◌∷◌, take, drop, slice_get}
use Rattle.std.proofs.Common.{slice_range, Contains, refl, sym, ◌∙◌, ap, subst, arith}
use Rattle.std.specs.List.{flat_map}
use Rattle.std.proofs.lemmas.Bool.{cases_lt}
use Rattle.std.proofs.lemmas.Option.{same_Some, none-some}
use Rattle.std.proofs.lemmas.List.Elements.{Contains-append_left, Contains-append_right, Contains-append_cases}
use Rattle.tagged_word.proofs.Members.{first_in, rest_in, in_cases}
use Rattle.page_space.specs.Extents.{Space}
use Rattle.heap_model.specs.Types.{Cell}
use Rattle.cell_layout.specs.Cells.{IsRow}
use Rattle.cell_layout.proofs.Rows.{row_begins, row_of_none}
use Rattle.heap_model.proofs.CellsApart.{IsOfCell}
use Rattle.heap_model.proofs.CellWords.{slice_get-drop}
use Rattle.heap_model.proofs.BoundHeaps.{none_in}

-- one of the cells has the address
pub record IsCovered (cells : List Cell) (at : ℕ) : Type 0 where
  pub cell : Cell
  pub among : Contains cells cell
  pub of_cell : IsOfCell cell at

-- each address of a row is of one of its cells
pub covered : (space : Space) (words : List ℕ) (from to : ℕ) (cells : List Cell) (at : ℕ)
    → IsRow space words from to cells → from ≤ at → at < to → IsCovered cells at
covered space words from to [] at row above below = absurd (omega (arith, row_of_none row))
covered space words from to (cell ∷ cells) at row above below =
    let begins = row_begins row in
    elim (cases_lt at (cell.at + cell.size)) [
      | inl inside ↦ record {
        cell = cell;
        among = first_in cell cells;
        of_cell = record { from = omega (arith, begins.starts); below = inside };
      }
      | inr behind ↦
          let later = covered space words (cell.at + cell.size) to cells at begins.rest behind below in
          record { cell = later.cell; among = rest_in cell cells later.cell later.among; of_cell = later.of_cell }
    ]

-- one of these has it in its list
pub record IsFromOne {X A : Type 0} (f : X → List A) (xs : List X) (y : A) : Type 0 where
  pub one : X
  pub among : Contains xs one
  pub has : Contains (f one) y

-- what is in the lists of many is in that of one
pub from_one : {X A : Type 0} (f : X → List A) (xs : List X) (y : A) → Contains (flat_map f xs) y → IsFromOne f xs y
from_one f [] y there = absurd (none_in y there)
from_one f (x ∷ xs) y there =
    elim (Contains-append_cases (f x) (flat_map f xs) y there) [
      | inl first ↦ record { one = x; among = first_in x xs; has = first }
      | inr rest ↦
          let later = from_one f xs y rest in
          record { one = later.one; among = rest_in x xs later.one later.among; has = later.has }
    ]

-- and what is in that of one is in those of all
pub of_one : {X A : Type 0} (f : X → List A) (xs : List X) (x : X) (y : A) → Contains xs x → Contains (f x) y
    → Contains (flat_map f xs) y
of_one f [] x y there has = absurd (none_in x there)
of_one {X} f (first ∷ xs) x y there has =
    elim (in_cases first xs x there) [
      | inl same ↦ Contains-append_left (f first) (flat_map f xs) y
          (subst (λ (one : X). Contains (f one) y) (sym same) has)
      | inr later ↦ Contains-append_right (f first) (flat_map f xs) y (of_one f xs x y later has)
    ]

-- lists that have the same at each of the first places begin alike
begin_alike : (n : ℕ) (xs ys : List ℕ) → ((k : ℕ) → k < n → slice_get xs k ≡ slice_get ys k)
    → take n xs ≡ take n ys
begin_alike zero xs ys alike = refl
begin_alike (suc n) [] [] alike = refl
begin_alike (suc n) [] (y ∷ ys) alike = absurd (none-some y (alike 0 (omega arith)))
begin_alike (suc n) (x ∷ xs) [] alike = absurd (none-some x (sym (alike 0 (omega arith))))
begin_alike (suc n) (x ∷ xs) (y ∷ ys) alike =
    let first : x ≡ y = same_Some x y (alike 0 (omega arith)) in
    let rest : take n xs ≡ take n ys = begin_alike n xs ys (λ k below. alike (suc k) (omega arith)) in
    ap (λ z. z ∷ take n xs) first ∙ ap (λ more. y ∷ more) rest

-- words that are the same at each address of a stretch are the same there
pub stretch_alike : (from size : ℕ) (words other : List ℕ)
    → ((at : ℕ) → from ≤ at → at < from + size → slice_get other at ≡ slice_get words at)
    → slice_range other from (from + size) ≡ slice_range words from (from + size)
stretch_alike from size words other alike =
    let many : ℕ = from + size - from in
    begin_alike many (drop from other) (drop from words) (λ k below.
    slice_get-drop from other k (from + k) refl ∙ alike (from + k) (omega arith) (omega arith)
    ∙ sym (slice_get-drop from words k (from + k) refl))
