-- What holds of each free start, from a walk along the list of starts.
use Rattle.std.proofs.Common.{ℕ, ◌<◌, ◌≡◌, true, IsTrue, List, length, get_or, refl, sym}
use Rattle.std.proofs.Common.{subst, ◌∙◌, ◌↔◌}
use Rattle.std.proofs.lemmas.List.{get_or_default}
use Rattle.mark_laws.proofs.Stores.{free_is}
use Rattle.mark_laws.specs.Types.{MainView}
use Rattle.mark_world.specs.Pages.{is_free, EachFree}

-- this holds of each of the first so many of a list that is a free start
abbrev pub FreeBelow : MainView → List ℕ → ℕ → (ℕ → Type 0) → Type 0
FreeBelow main list count P = (k : ℕ) → k < count → IsTrue (is_free main (get_or list k 0)) → P (get_or list k 0)

-- what holds of each of all starts that is free holds of each free start
pub each_of_starts : (main : MainView) (P : ℕ → Type 0)
    → FreeBelow main main.starts (length main.starts) P → EachFree main P
each_of_starts main P each start free =
    let c = (free_is main start free).0 in
    let same : get_or main.starts c.0 0 ≡ start = get_or_default main.starts c.0 0 start c.1 ∙ c.2 in
    subst P same (each c.0 c.1 (subst (λ s. IsTrue (is_free main s)) (sym same) free))

-- what holds of each of all starts that is free tells a test of free starts that passed
pub all_passed : (main : MainView) (P : ℕ → Type 0) (list : List ℕ) (count : ℕ)
    → list ≡ main.starts → count ≡ length list
    → FreeBelow main list count P → IsTrue true ↔ EachFree main P
all_passed main P list count is all each =
    let there : FreeBelow main main.starts (length main.starts) P =
    subst (λ xs. FreeBelow main xs (length xs) P) is (subst (λ n. FreeBelow main list n P) all each) in
    (λ passed. each_of_starts main P there, λ holds. refl)
