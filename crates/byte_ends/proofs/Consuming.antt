-- How the bytes of several reads join.
use Rattle.std.proofs.Common.{◌≡◌, ℕ, ◌<◌, ◌≤◌, List, [], ◌++◌, length, take, drop, Option, Some, None}
use Rattle.std.proofs.Common.{IfSome, refl, sym, ap, subst, ◌∙◌, append_assoc}
use Rattle.std.proofs.lemmas.List.{take-append-drop, append-nil}
use Rattle.byte_ends.specs.Source.{ReadsInto}

-- these bytes were taken from the front of what was left
abbrev pub Consumes : Option (List ℕ) → Option (List ℕ) → List ℕ → Type 0
Consumes old new bytes = IfSome old (λ left. (rest : List ℕ) × (left ≡ bytes ++ rest) × (new ≡ Some rest))

-- one read more takes its bytes behind those that were taken before
pub Consumes-gives : (old mid new : Option (List ℕ)) (bytes before after : List ℕ) (n : ℕ)
    → Consumes old mid bytes → ReadsInto mid new before after n → Consumes old new (bytes ++ take n after)
Consumes-gives None mid new bytes before after n c g = tt
Consumes-gives (Some left) mid new bytes before after n (rest, left-is, mid-is) g =
    let Given : Option (List ℕ) → Type 0 =
    λ m. IfSome m (λ left. (n ≤ length left) × (take n after ≡ take n left) × (new ≡ Some (drop n left))) in
    let given = subst Given mid-is g.given in
    let front : take n rest ++ drop n rest ≡ take n after ++ drop n rest = ap (λ xs. xs ++ drop n rest) (sym given.1) in
    let rest-is : rest ≡ take n after ++ drop n rest = sym (take-append-drop n rest) ∙ front in
    let whole : bytes ++ rest ≡ (bytes ++ take n after) ++ drop n rest =
    ap (λ xs. bytes ++ xs) rest-is ∙ sym (append_assoc bytes (take n after) (drop n rest)) in
    (drop n rest, left-is ∙ whole, given.2)

-- nothing is left where a read into a buffer that is not empty gives no bytes
pub Consumes-ended : (old mid new : Option (List ℕ)) (bytes before after : List ℕ)
    → Consumes old mid bytes → ReadsInto mid new before after 0 → 0 < length before
    → IfSome old (λ left. (bytes ≡ left) × (new ≡ Some []))
Consumes-ended None mid new bytes before after c g room = tt
Consumes-ended (Some left) mid new bytes before after (rest, left-is, mid-is) g room =
    let Ended : Option (List ℕ) → Type 0 =
    λ m. IfSome m (λ left. ◌≡◌ {A = ℕ} 0 0 → 0 < length before → left ≡ []) in
    let Given : Option (List ℕ) → Type 0 =
    λ m. IfSome m (λ left. (0 ≤ length left) × (take 0 after ≡ take 0 left) × (new ≡ Some (drop 0 left))) in
    let given = subst Given mid-is g.given in
    let rest-is : rest ≡ [] = (subst Ended mid-is g.ended) refl room in
    (sym (left-is ∙ ap (λ r. bytes ++ r) rest-is ∙ append-nil bytes), given.2 ∙ ap Some rest-is)
