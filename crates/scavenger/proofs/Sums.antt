-- How many words home copies have together: no more than the cells, and room is left for one that has no home.
use Rattle.std.proofs.Common.{ℕ, suc, ◌+◌, ◌<◌, ◌≤◌, ◌≡◌, ◌⊎◌, inl, inr, List, [], ◌∷◌, sum_by}
use Rattle.std.proofs.Common.{arith, ap, subst}
use Rattle.std.specs.List.{AllPairs, Contains}
use Rattle.std.proofs.lemmas.List.Sums.{sum_by-cons}
use Rattle.tagged_word.proofs.Members.{first_in, rest_in, in_cases}
use Rattle.scav_copy.specs.declared.places.Home.{Home}
use Rattle.scav_copy.specs.Places.{Fixed, size_of}
use Rattle.scav_copy.specs.Copies.{with_home, HasNoHome}
use Rattle.scav_copy.proofs.Ascending.{Ascends, by_place, joined_ascends, joined_is}
use Rattle.scav_copy.proofs.Spots.{none_in, from_is}
use Rattle.scavenger.specs.Starts.{Start, IsBegun, room_start}
use Rattle.scavenger.specs.Filling.{CopiesFillRooms}
use Rattle.heap_model.specs.Types.{Run}

-- the first of a list is related to each later one, where all pairs are related
first_to : {X : Type 0} (R : X → X → Type 0) (x y : X) (xs : List X) → AllPairs R (x ∷ xs) → Contains xs y → R x y
first_to R x y xs pairs (k, l, e) = subst (R x) e (pairs 0 (suc k) y (omega arith) (omega arith))

-- and the later ones to one another
later_pairs : {X : Type 0} (R : X → X → Type 0) (x : X) (xs : List X) → AllPairs R (x ∷ xs) → AllPairs R xs
later_pairs R x xs pairs i j d less within = pairs (suc i) (suc j) d (omega arith) (omega arith)

-- the numbers ascend
abbrev pub NumbersAscend : List ℕ → Type 0
NumbersAscend cells = AllPairs (λ one other. one < other) cells

-- the measure of the cells that have homes, all together
abbrev pub sum_of_homes : (ℕ → ℕ) → List Home → ℕ
sum_of_homes measure homes = sum_by (λ home. measure home.from) homes

-- each home is of one of the cells
abbrev pub AreOf : List ℕ → List Home → Type 0
AreOf cells homes = (home : Home) → Contains homes home → Contains cells home.from

-- a number that is not the first one is among the later ones
among_later : (cell other : ℕ) (cells : List ℕ) → cell < other → (cell ≡ other) ⊎ Contains cells other
    → Contains cells other
among_later cell other cells less (inl e) = absurd (omega (arith, less, e))
among_later cell other cells less (inr there) = there

-- homes of cells behind the first one are of the later ones
later_are : (cell : ℕ) (cells : List ℕ) (homes : List Home) → AreOf (cell ∷ cells) homes
    → ((home : Home) → Contains homes home → cell < home.from) → AreOf cells homes
later_are cell cells homes are behind home there =
    among_later cell home.from cells (behind home there) (in_cases cell cells home.from (are home there))

-- the homes behind the first one are of cells behind its cell
behind_first : (home : Home) (homes : List Home) (other : Home) → Ascends (home ∷ homes) → Contains homes other
    → home.from < other.from
behind_first home homes other ascend there =
    first_to (λ (one other : Home). one.from < other.from) home other homes ascend there

-- the homes behind one of the first cell are of the later cells
rest_are : (cell : ℕ) (cells : List ℕ) (home : Home) (homes : List Home) → cell ≡ home.from → Ascends (home ∷ homes)
    → AreOf (cell ∷ cells) (home ∷ homes) → AreOf cells homes
rest_are cell cells home homes e ascend are =
    later_are cell cells homes (λ other there. are other (rest_in home homes other there)) (λ other there.
    let less : home.from < other.from = behind_first home homes other ascend there in omega (arith, less, e))

-- neither the first home nor one behind it is of an earlier cell than the first
not_before : (home other : Home) (homes : List Home) → Ascends (home ∷ homes) → (home ≡ other) ⊎ Contains homes other
    → home.from ≤ other.from
not_before home other homes ascend (inl e) =
    let same : home.from ≡ other.from = ap (λ (one : Home). one.from) e in omega (arith, same)
not_before home other homes ascend (inr there) =
    let less : home.from < other.from = behind_first home homes other ascend there in omega (arith, less)

-- all homes are of the later cells, where the first one is
all_are : (cell : ℕ) (cells : List ℕ) (home : Home) (homes : List Home) → NumbersAscend (cell ∷ cells)
    → Contains cells home.from → Ascends (home ∷ homes) → AreOf (cell ∷ cells) (home ∷ homes)
    → AreOf cells (home ∷ homes)
all_are cell cells home homes ascend is homes_ascend are =
    let less : cell < home.from = first_to (λ (one other : ℕ). one < other) cell home.from cells ascend is in
    later_are cell cells (home ∷ homes) are (λ other there.
    let more : home.from ≤ other.from = not_before home other homes homes_ascend (in_cases home homes other there) in
    omega (arith, less, more))

-- the sum over the homes is at most that over the cells
pub few_homes : (measure : ℕ → ℕ) (cells : List ℕ) (homes : List Home) → NumbersAscend cells → Ascends homes
    → AreOf cells homes → sum_of_homes measure homes ≤ sum_by measure cells
few_homes measure [] [] ascend homes_ascend are = omega arith
few_homes measure [] (home ∷ homes) ascend homes_ascend are =
    absurd (none_in home.from (are home (first_in home homes)))
few_homes measure (cell ∷ cells) [] ascend homes_ascend are = omega arith
few_homes measure (cell ∷ cells) (home ∷ homes) ascend homes_ascend are =
    let all : sum_by measure (cell ∷ cells) ≡ measure cell + sum_by measure cells = sum_by-cons measure cell cells in
    let parts : sum_of_homes measure (home ∷ homes) ≡ measure home.from + sum_of_homes measure homes =
    sum_by-cons (λ (one : Home). measure one.from) home homes in
    let later : NumbersAscend cells = later_pairs (λ (one other : ℕ). one < other) cell cells ascend in
    elim (in_cases cell cells home.from (are home (first_in home homes))) [
      | inl e ↦
          let rest : sum_of_homes measure homes ≤ sum_by measure cells =
          few_homes measure cells homes later
          (later_pairs (λ (one other : Home). one.from < other.from) home homes homes_ascend)
          (rest_are cell cells home homes e homes_ascend are) in
          let same : measure cell ≡ measure home.from = ap measure e in
          omega (arith, all, parts, rest, same)
      | inr there ↦
          let rest : sum_of_homes measure (home ∷ homes) ≤ sum_by measure cells =
          few_homes measure cells (home ∷ homes) later homes_ascend
          (all_are cell cells home homes ascend there homes_ascend are) in
          omega (arith, all, rest)
    ]

-- with one home more a sum over homes is greater by its part
pub joined_sum : (of : Home → ℕ) (homes : List Home) (new : Home)
    → sum_by of (with_home homes new) ≡ sum_by of homes + of new
joined_sum of [] new =
    let parts : sum_by of (new ∷ []) ≡ of new + 0 = sum_by-cons of new [] in
    omega (arith, parts)
joined_sum of (home ∷ homes) new =
    let parts : sum_by of (home ∷ homes) ≡ of home + sum_by of homes = sum_by-cons of home homes in
    by_place (λ all. sum_by of all ≡ sum_by of (home ∷ homes) + of new) home homes new
    (λ less.
    let first : sum_by of (new ∷ (home ∷ homes)) ≡ of new + sum_by of (home ∷ homes) =
    sum_by-cons of new (home ∷ homes) in
    omega (arith, first))
    (λ more.
    let first : sum_by of (home ∷ with_home homes new) ≡ of home + sum_by of (with_home homes new) =
    sum_by-cons of home (with_home homes new) in
    let rest : sum_by of (with_home homes new) ≡ sum_by of homes + of new = joined_sum of homes new in
    omega (arith, first, parts, rest))

-- with one home more the sum is greater by the measure of its cell
pub one_home_more : (measure : ℕ → ℕ) (homes : List Home) (new : Home)
    → sum_of_homes measure (with_home homes new) ≡ sum_of_homes measure homes + measure new.from
one_home_more measure homes new = joined_sum (λ one. measure one.from) homes new

-- the homes are of cells that are to be copied
pub homes_are : {start : Start} {fixed : Fixed} {words : List ℕ} {rows : List (List Run)} {homes : List Home} {fill : ℕ}
    → CopiesFillRooms start fixed words rows homes fill → AreOf fixed.cells homes
homes_are filled home there = from_is home filled.copying there

-- the copies have no more words than survivors and used words together
pub few_copied : {start : Start} {fixed : Fixed} {words : List ℕ} {rows : List (List Run)} {homes : List Home}
    {fill : ℕ} → IsBegun start fixed → CopiesFillRooms start fixed words rows homes fill
    → sum_of_homes (size_of fixed) homes ≤ start.heap.survivors + start.heap.used
few_copied {start} {fixed} {homes = homes} begun filled =
    let few : sum_of_homes (size_of fixed) homes ≤ sum_by (size_of fixed) fixed.cells =
    few_homes (size_of fixed) fixed.cells homes begun.ascend filled.copying.ascend (homes_are filled) in
    omega (arith, few, begun.counted)

-- nor have those in the main side's segment
pub few_filled : {start : Start} {fixed : Fixed} {words : List ℕ} {rows : List (List Run)} {homes : List Home}
    {fill : ℕ} → IsBegun start fixed → CopiesFillRooms start fixed words rows homes fill
    → fill ≤ room_start start.heap.space start.half + (start.heap.survivors + start.heap.used)
few_filled begun filled = omega (arith, few_copied begun filled, filled.long)

-- the cell has a home afterwards, and the other homes are of cells as before
more_are : (cells : List ℕ) (homes : List Home) (new : Home) → Contains cells new.from → AreOf cells homes
    → AreOf cells (with_home homes new)
more_are cells homes new is are home there = elim (joined_is homes new home there) [
  | inl e ↦ subst (λ (one : Home). Contains cells one.from) e is
  | inr among ↦ are home among
]

-- The copies, with that of a cell that has no home, have no more words than survivors and used words together.
pub few_with_one : {start : Start} {fixed : Fixed} {words : List ℕ} {rows : List (List Run)} {homes : List Home}
    {fill : ℕ} (cell : ℕ) → IsBegun start fixed → CopiesFillRooms start fixed words rows homes fill
    → Contains fixed.cells cell → HasNoHome homes cell
    → sum_of_homes (size_of fixed) homes + size_of fixed cell ≤ start.heap.survivors + start.heap.used
few_with_one {start} {fixed} {homes = homes} cell begun filled is none =
    let new : Home = record { from = cell; to = 0 } in
    let few : sum_of_homes (size_of fixed) (with_home homes new) ≤ sum_by (size_of fixed) fixed.cells =
    few_homes (size_of fixed) fixed.cells (with_home homes new) begun.ascend
    (joined_ascends homes new filled.copying.ascend none) (more_are fixed.cells homes new is (homes_are filled)) in
    omega (arith, few, one_home_more (size_of fixed) homes new, begun.counted)

-- so the copy of a cell that has no home ends in the room
pub room_for_one : {start : Start} {fixed : Fixed} {words : List ℕ} {rows : List (List Run)} {homes : List Home}
    {fill : ℕ} (cell : ℕ) → IsBegun start fixed → CopiesFillRooms start fixed words rows homes fill
    → Contains fixed.cells cell → HasNoHome homes cell
    → fill + size_of fixed cell ≤ room_start start.heap.space start.half + start.heap.space.sizes.young
room_for_one {start} {fixed} {homes = homes} cell begun filled is none =
    let few : sum_of_homes (size_of fixed) homes + size_of fixed cell ≤ start.heap.survivors + start.heap.used =
    few_with_one cell begun filled is none in
    omega (arith, few, filled.long, begun.whole.rows.few)
