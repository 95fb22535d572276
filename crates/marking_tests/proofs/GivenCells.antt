-- The cells that a marking is given stand in its heap, each found by its address.
use Rattle.std.proofs.Common.{◌≡◌, ℕ, ◌⊎◌, ◌↔◌, inl, inr, List, Contains, get_or, refl, sym, subst}
use Rattle.std.proofs.Common.{◌<◌, [], ◌∷◌, length, arith}
use Rattle.std.proofs.lemmas.List.Elements.{Contains-push_cases}
use Rattle.std.proofs.lemmas.Option.{slice_get-get_or}
use Rattle.heap_model.specs.Types.{Cell}
use Rattle.heap_model.specs.Heaps.{Heap}
use Rattle.live_cells.proofs.ObjectTargets.{at_is_in}
use Rattle.ephemeron_mark.specs.Marked.{StandsInHeap}
use Rattle.ephemeron_mark.specs.Progress.{IsCellOf}

-- a cell of the heap stands where it does
pub stands_there : {heap : Heap} {cell : Cell} → IsCellOf heap cell → StandsInHeap heap cell.at
stands_there {cell = cell} found = record { cell = cell; words = found.0; has = found.1; stands = refl }

-- with one more that stands there, each given cell does
pub given_stand : {heap : Heap} (old new : List ℕ) (given : ℕ)
    → ((at : ℕ) → Contains new at ↔ (Contains old at ⊎ (at ≡ given)))
    → ((at : ℕ) → Contains old at → StandsInHeap heap at) → StandsInHeap heap given
    → (at : ℕ) → Contains new at → StandsInHeap heap at
given_stand {heap} old new given members before own at there =
    elim ((members at).0 there) [
      | inl earlier ↦ before at earlier
      | inr same ↦ subst (StandsInHeap heap) (sym same) own
    ]

-- and where one alone is given, each does
pub only_stands : {heap : Heap} {one : ℕ} → StandsInHeap heap one → (at : ℕ) → Contains (one ∷ []) at
    → StandsInHeap heap at
only_stands {heap} {one} own at there =
    elim (Contains-push_cases [] one at there) [
      | inl none ↦ absurd (omega (arith, none.1))
      | inr same ↦ subst (StandsInHeap heap) same own
    ]

-- what is read at a place of a list is in it
pub read_is_in : (all : List ℕ) (place : ℕ) → place < length all → Contains all (get_or all place 0)
read_is_in all place within = at_is_in all place (get_or all place 0) (slice_get-get_or all place 0 within)
