-- What of a list of cells begins before an address.
use Rattle.std.proofs.Common.{◌≡◌, ℕ, ◌<◌, ◌≤◌, Bool, true, false, cond, inl, inr, List, [], ◌∷◌, ◌++◌, filter}
use Rattle.std.proofs.Common.{Contains, nat_lt, refl, sym, ◌∙◌, ap, arith}
use Rattle.std.specs.List.{AllPairs}
use Rattle.std.proofs.lemmas.Bool.Decides.{nat_tests}
use Rattle.tagged_word.proofs.Members.{first_in, rest_in, in_cases}
use Rattle.heap_model.specs.Types.{Cell}
use Rattle.heap_model.proofs.BoundHeaps.{none_in}
use Rattle.live_cells.proofs.CellLists.{IsBefore}
use Rattle.live_cells.proofs.SameNumbers.{first_with, rest_with}

-- tests that agree on a list keep the same of it
pub same_kept : {X : Type 0} (p q : X → Bool) (xs : List X) → ((x : X) → Contains xs x → p x ≡ q x)
    → filter p xs ≡ filter q xs
same_kept p q [] same = refl
same_kept p q (x ∷ xs) same =
    ap (λ b. cond b (x ∷ filter p xs) (filter p xs)) (same x (first_in x xs))
    ∙ ap (λ rest. cond (q x) (x ∷ rest) rest) (same_kept p q xs (λ y there. same y (rest_in x xs y there)))

-- a test that all pass keeps all
pub all_kept : {X : Type 0} (p : X → Bool) (xs : List X) → ((x : X) → Contains xs x → p x ≡ true) → filter p xs ≡ xs
all_kept p [] pass = refl
all_kept p (x ∷ xs) pass =
    ap (λ b. cond b (x ∷ filter p xs) (filter p xs)) (pass x (first_in x xs))
    ∙ ap (λ rest. x ∷ rest) (all_kept p xs (λ y there. pass y (rest_in x xs y there)))

-- and one that none passes keeps none
pub none_kept : {X : Type 0} (p : X → Bool) (xs : List X) → ((x : X) → Contains xs x → p x ≡ false) → filter p xs ≡ []
none_kept p [] fail = refl
none_kept p (x ∷ xs) fail =
    ap (λ b. cond b (x ∷ filter p xs) (filter p xs)) (fail x (first_in x xs))
    ∙ none_kept p xs (λ y there. fail y (rest_in x xs y there))

-- whether a cell begins before an address
abbrev pub begins_before : ℕ → Cell → Bool
begins_before to cell = nat_lt cell.at to

-- a number below another tests as such
pub below_test : (m n : ℕ) → m < n → nat_lt m n ≡ true
below_test m n below = grind (arith, nat_tests)

-- and one that is not does not
pub not_below_test : (m n : ℕ) → n ≤ m → nat_lt m n ≡ false
not_below_test m n past = grind (arith, nat_tests)

-- Of cells that ascend, what begins before an address behind a cell, where none begins between them, is what begins
-- before the cell, and the cell itself.
pub kept_to : (cells : List Cell) (cell : Cell) (to : ℕ) → AllPairs IsBefore cells → Contains cells cell → cell.at < to
    → ((other : Cell) → Contains cells other → cell.at < other.at → to ≤ other.at)
    → filter (begins_before to) cells ≡ filter (begins_before cell.at) cells ++ cell ∷ []
kept_to [] cell to ascend there below apart = absurd (none_in cell there)
kept_to (first ∷ cells) cell to ascend there below apart =
    let rest_to : List Cell = filter (begins_before to) cells in
    let rest : List Cell = filter (begins_before cell.at) cells in
    elim (in_cases first cells cell there) [
      | inl same ↦
          let at : first.at ≡ cell.at = ap (λ (c : Cell). c.at) same in
          let behind : (other : Cell) → Contains cells other → cell.at < other.at =
          λ other among.
          let before = first_with IsBefore first cells other ascend among in
          omega (arith, before, at) in
          let none_to : rest_to ≡ [] = none_kept (begins_before to) cells (λ other among.
          not_below_test other.at to (apart other (rest_in first cells other among) (behind other among))) in
          let none : rest ≡ [] = none_kept (begins_before cell.at) cells (λ other among.
          let past = behind other among in
          not_below_test other.at cell.at (omega (arith, past))) in
          ap (λ b. cond b (first ∷ rest_to) rest_to) (below_test first.at to (omega (arith, at, below)))
          ∙ ap (λ all. first ∷ all) none_to
          ∙ ap (λ one. one ∷ []) same
          ∙ sym (ap (λ b. cond b (first ∷ rest) rest ++ cell ∷ []) (not_below_test first.at cell.at (omega (arith, at)))
          ∙ ap (λ all. all ++ cell ∷ []) none)
      | inr later ↦
          let before = first_with IsBefore first cells cell ascend later in
          ap (λ b. cond b (first ∷ rest_to) rest_to) (below_test first.at to (omega (arith, before, below)))
          ∙ ap (λ all. first ∷ all) (kept_to cells cell to (rest_with IsBefore first cells ascend) later below
          (λ other among. apart other (rest_in first cells other among)))
          ∙ sym (ap (λ b. cond b (first ∷ rest) rest ++ cell ∷ []) (below_test first.at cell.at before))
    ]
