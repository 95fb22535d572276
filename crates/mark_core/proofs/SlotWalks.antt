-- The slots of a cell as a walk along its offsets comes to them.
use Rattle.std.proofs.Common.{ℕ, suc, ◌<◌, ◌≤◌, ◌+◌, ◌≡◌, ◌==◌, ◌||◌, inl, inr, true}
use Rattle.std.proofs.Common.{false, cond, nat_lt, List, [], ◌∷◌, ◌++◌, map, filter, length, get_or, Some, refl, ap}
use Rattle.std.proofs.Common.{sym, ◌∙◌, arith, if◌then◌else◌, All}
use Rattle.std.proofs.lemmas.Bool.{cases_lt}
use Rattle.std.proofs.lemmas.Bool.Decides.{nat_tests}
use Rattle.std.specs.List.Sorted.{IsStrictlyIncreasing}
use Rattle.std.proofs.lemmas.List.{map-append, append-nil}
use Rattle.std.proofs.lemmas.List.Elements.{Contains-get_or}
use Rattle.mark_laws.specs.Types.{Reading}
use Rattle.tagged_word.specs.Readings.{read_cell}
use Rattle.tagged_word.proofs.Cells.{slot_within, tagged_is_scavenged}
use Rattle.tagged_word.proofs.CellReadings.{cell_from}
use Rattle.core_parts.specs.Lists.{is_in}
use Rattle.core_parts.proofs.Tested.{nat_lt-yes, not_equal}
use Rattle.mark_world.specs.Pages.{slots_of}

-- the offsets below a number
abbrev pub below : ℕ → List ℕ → List ℕ
below k xs = filter (λ x. nat_lt x k) xs

-- the number itself, where it is in the list
abbrev pub itself : List ℕ → ℕ → List ℕ
itself xs k = if is_in xs k then k ∷ [] else []

-- another fails it
fails : (x k : ℕ) → k ≤ x → nat_lt x k ≡ false
fails x k l = grind (arith, nat_tests)

-- a number is itself by the test
agrees : (x k : ℕ) → x ≡ k → (x == k) ≡ true
agrees x k n = grind (arith, nat_tests)

-- what follows in an ascending list ascends
rest_ascends : (x : ℕ) (xs : List ℕ) → IsStrictlyIncreasing (x ∷ xs) → IsStrictlyIncreasing xs
rest_ascends x xs h k l =
    let next : suc k + 1 ≡ suc (k + 1) = omega arith in
    let within : suc k + 1 < length (x ∷ xs) = omega arith in
    let m = h (suc k) within in
    rw next at m

-- the second is above the first
second_above : (x y : ℕ) (xs : List ℕ) → IsStrictlyIncreasing (x ∷ y ∷ xs) → x < y
second_above x y xs h = h 0 (omega arith)

-- behind an offset none is below a number that is not above the next
none_later : (k x : ℕ) (xs : List ℕ) → IsStrictlyIncreasing (x ∷ xs) → k ≤ x + 1 → below k xs ≡ []
none_later k x [] h l = refl
none_later k x (y ∷ ys) h l =
    let above : x < y = second_above x y ys h in
    ap (λ b. cond b (y ∷ below k ys) (below k ys)) (fails y k (omega arith))
    ∙ none_later k y ys (rest_ascends x (y ∷ ys) h) (omega arith)

-- a number below the first is not in an ascending list
absent : (k x : ℕ) (xs : List ℕ) → IsStrictlyIncreasing (x ∷ xs) → k < x → is_in (x ∷ xs) k ≡ false
absent k x [] h l = ap (λ b. b || false) (not_equal x k (λ e. absurd (omega arith)))
absent k x (y ∷ ys) h l =
    let above : x < y = second_above x y ys h in
    ap (λ b. b || is_in (y ∷ ys) k) (not_equal x k (λ e. absurd (omega arith)))
    ∙ absent k y ys (rest_ascends x (y ∷ ys) h) (omega arith)

-- the first is below the number
below_behind : (k x : ℕ) (xs : List ℕ) → x < k → below (k + 1) xs ≡ below k xs ++ itself xs k
    → below (k + 1) (x ∷ xs) ≡ below k (x ∷ xs) ++ itself (x ∷ xs) k
below_behind k x xs early rest =
    rw (nat_lt-yes x (k + 1) (omega arith), nat_lt-yes x k early, not_equal x k (λ e. absurd (omega arith)))
    (ap (λ ys. x ∷ ys) rest)

-- the first is above it
below_before : (k x : ℕ) (xs : List ℕ) → IsStrictlyIncreasing (x ∷ xs) → k < x
    → below (k + 1) (x ∷ xs) ≡ below k (x ∷ xs) ++ itself (x ∷ xs) k
below_before k x xs h before =
    rw (
      fails x (k + 1) (omega arith),
      fails x k (omega arith),
      absent k x xs h before,
      none_later (k + 1) x xs h (omega arith),
      none_later k x xs h (omega arith),
    ) refl

-- the first is it
below_at : (k x : ℕ) (xs : List ℕ) → IsStrictlyIncreasing (x ∷ xs) → k ≡ x
    → below (k + 1) (x ∷ xs) ≡ below k (x ∷ xs) ++ itself (x ∷ xs) k
below_at k x xs h e =
    rw (
      nat_lt-yes x (k + 1) (omega arith),
      fails x k (omega arith),
      agrees x k (sym e),
      none_later (k + 1) x xs h (omega arith),
      none_later k x xs h (omega arith),
    ) (ap (λ y. y ∷ []) (sym e))

-- the walk takes up the number itself
pub below_next : (k : ℕ) (xs : List ℕ) → IsStrictlyIncreasing xs → below (k + 1) xs ≡ below k xs ++ itself xs k
below_next k [] h = refl
below_next k (x ∷ xs) h = elim (cases_lt x k) [
  | inl early ↦ below_behind k x xs early (below_next k xs (rest_ascends x xs h))
  | inr late ↦ elim (cases_lt k x) [
    | inl before ↦ below_before k x xs h before
    | inr at ↦ below_at k x xs h (omega arith)
  ]
]

-- below nothing there is no offset
pub below_none : (xs : List ℕ) → below 0 xs ≡ []
below_none [] = refl
below_none (x ∷ xs) = rw (fails x 0 (omega arith)) (below_none xs)

-- below what is above all, all are
pub below_all : (xs : List ℕ) (k : ℕ) → All (λ x. x < k) xs → below k xs ≡ xs
below_all [] k each = refl
below_all (x ∷ xs) k each =
    let first : x < k = each 0 0 (omega arith) in
    rw (nat_lt-yes x k first) (ap (λ ys. x ∷ ys) (below_all xs k (λ i d l. each (suc i) d (omega arith))))

-- a walk that puts a value for each offset puts one at an offset of the list
pub put_at : (f : ℕ → ℕ) (xs : List ℕ) (k : ℕ) (values : List ℕ) → IsStrictlyIncreasing xs
    → values ≡ map f (below k xs) → is_in xs k ≡ true → values ++ f k ∷ [] ≡ map f (below (k + 1) xs)
put_at f xs k values h so_far there =
    let one : itself xs k ≡ k ∷ [] = ap (λ b. if b then k ∷ [] else []) there in
    ap (λ vs. vs ++ f k ∷ []) so_far ∙ sym (map-append f (below k xs) (k ∷ []))
    ∙ ap (λ ys. map f (below k xs ++ ys)) (sym one) ∙ ap (map f) (sym (below_next k xs h))

-- and none at another
pub put_none : (f : ℕ → ℕ) (xs : List ℕ) (k : ℕ) (values : List ℕ) → IsStrictlyIncreasing xs
    → values ≡ map f (below k xs) → is_in xs k ≡ false → values ≡ map f (below (k + 1) xs)
put_none f xs k values h so_far out =
    let none : itself xs k ≡ [] = ap (λ b. if b then k ∷ [] else []) out in
    so_far ∙ ap (map f) (sym (append-nil (below k xs))) ∙ ap (λ ys. map f (below k xs ++ ys)) (sym none)
    ∙ ap (map f) (sym (below_next k xs h))

-- the tagged slots of a cell that is read lie in it
pub slots_inside : (words layouts : List ℕ) (at bound : ℕ) (cell : Reading)
    → read_cell words layouts at bound ≡ Some cell
    → All (λ offset. offset < cell.size) (slots_of cell)
slots_inside words layouts at bound cell e k d l =
    let reads = cell_from words layouts at bound cell e in
    let offset : ℕ = get_or (slots_of cell) k d in
    let tagged = tagged_is_scavenged cell.layout cell.length offset (Contains-get_or (slots_of cell) k d l) in
    (slot_within cell.layout cell.length cell.size offset reads.is_layout reads.sized tagged).1
