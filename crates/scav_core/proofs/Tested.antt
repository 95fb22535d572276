-- What the tests of the code tell.
use Rattle.std.proofs.Common.{ℕ, ◌<◌, ◌≤◌, ◌+◌, ◌-◌, ◌≡◌, ◌==◌, ◌↔◌, ◌&&◌, Bool, true}
use Rattle.std.proofs.Common.{false, IsTrue, List}
use Rattle.std.proofs.Common.{length, get_or, nat_le, Some, Option, arith, sym, ap, ◌∙◌, inl, inr, eq-eqb}
use Rattle.std.proofs.Common.{eqb-true}
use Rattle.std.specs.List.{Contains, list_all, range_with_len}
use Rattle.std.proofs.lemmas.Bool.Decides.{nat_tests}
use Rattle.std.proofs.lemmas.List.Elements.{All-from_get_or}
use Rattle.std.proofs.lemmas.List.FromFn.{get_or-range_with_len, length-range_with_len}
use Rattle.std.proofs.lemmas.List.Folds.{list_all_at}
use Rattle.std.proofs.lemmas.List.Sums.{list_all-from_AllPass}
use Rattle.tagged_word.specs.declared.reading.Reading.{Reading}
use Rattle.tagged_word.specs.Cells.{scavenge_offsets}
use Rattle.core_parts.specs.Lists.{is_in}
use Rattle.core_parts.proofs.Joining.{decided}
use Rattle.core_parts.proofs.Tested.{same_test}
use Rattle.scav_copy.specs.declared.places.Home.{Home}
use Rattle.scav_copy.specs.Places.{Fixed, cell_before, offsets_in, offsets_of}
use Rattle.scav_core.specs.Possible.{is_copied_slot}

-- an address that is a slot of a copy is found to be one
pub slot_tested : (fixed : Fixed) (home : Home) (slot : ℕ) (cell : Reading) (r : Bool) → home.to ≤ slot
    → cell_before fixed home.from ≡ Some cell
    → IsTrue r ↔ Contains (scavenge_offsets cell.layout cell.length) (slot - home.to)
    → r ≡ is_copied_slot fixed slot home
slot_tested fixed home slot cell r more e tells =
    let behind : nat_le home.to slot ≡ true = grind (arith, nat_tests) in
    same_test (scavenge_offsets cell.layout cell.length) (slot - home.to) r tells
    ∙ ap (λ (o : Option Reading). is_in (offsets_in o) (slot - home.to)) (sym e)
    ∙ ap (λ (b : Bool). b && is_in (offsets_of fixed home.from) (slot - home.to)) (sym behind)

-- two numbers that are not equal are found so
not_same : (a b : ℕ) → (a ≡ b → ⊥) → (a == b) ≡ false
not_same a b other = elim (decided (a == b)) [ inl t ↦ absurd (other (eqb-true _ _ t)) | inr f ↦ f ]

-- whether the word at an offset is that of the list
abbrev pub same_at : List ℕ → ℕ → List ℕ → ℕ → Bool
same_at words first list offset = get_or words (first + offset) 0 == get_or list offset 0

-- where each word is that of the list, all are found so
pub follow_all : (words : List ℕ) (first : ℕ) (list : List ℕ)
    → ((k : ℕ) → k < length list → get_or words (first + k) 0 ≡ get_or list k 0)
    → true ≡ list_all (same_at words first list) (range_with_len 0 (length list))
follow_all words first list same =
    sym (list_all-from_AllPass (same_at words first list) (range_with_len 0 (length list))
    (All-from_get_or (λ offset. same_at words first list offset ≡ true) (range_with_len 0 (length list)) 0
    (λ k less.
    let within : k < length list = omega (arith, length-range_with_len 0 (length list)) in
    let is : get_or (range_with_len 0 (length list)) k 0 ≡ k =
    get_or-range_with_len 0 (length list) k 0 within ∙ omega arith in
    ap (same_at words first list) is ∙ eq-eqb _ _ (same k within))))

-- where one is not, it is found
pub follow_not : (words : List ℕ) (first : ℕ) (list : List ℕ) (k : ℕ) → k < length list
    → (get_or words (first + k) 0 ≡ get_or list k 0 → ⊥)
    → false ≡ list_all (same_at words first list) (range_with_len 0 (length list))
follow_not words first list k within other =
    let less : k < length (range_with_len 0 (length list)) = omega (arith, length-range_with_len 0 (length list)) in
    let is : get_or (range_with_len 0 (length list)) k 0 ≡ k =
    get_or-range_with_len 0 (length list) k 0 within ∙ omega arith in
    let fails : same_at words first list k ≡ false = not_same (get_or words (first + k) 0) (get_or list k 0) other in
    sym (list_all_at (same_at words first list) (range_with_len 0 (length list)) k 0 less
    (ap (same_at words first list) is ∙ fails))
