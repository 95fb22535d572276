-- Which variables of a list of bindings are bound, by the list of the variables.
use Rattle.std.proofs.Common.{◌≡◌, ℕ, ◌≤◌, ◌<◌, true, false, cond, List, [], ◌∷◌, ◌++◌, Some, None}
use Rattle.std.proofs.Common.{refl, sym, ap, ◌∙◌, arith}
use Rattle.std.proofs.lemmas.Option.{none-some}
use Rattle.std.specs.Ordering.{nat_cmp, is_eq}
use Rattle.std.specs.declared.cmp.Ordering.{Ordering}
use Rattle.std.specs.declared.cmp.Ordering.TheVariants.{Less, Equal, Greater}
use Rattle.std.specs.Map.{keys_of}
use Rattle.std.specs.FinMap.{nat_cmp-IsAntisymmetric}
use Rattle.std.specs.FinMap.Entries.{find}
use Rattle.std.specs.Cmp.{nat_cmp_is}
use Rattle.object_graph.specs.declared.value.Value.{Value}

-- all of these variables are below the number
abbrev pub AreBelow : ℕ → List ℕ → Type 0
AreBelow least [] = Unit {0}
AreBelow least (x ∷ xs) = (x < least) × AreBelow least xs

-- and so with one behind them that is
pub AreBelow-push : (least : ℕ) (xs : List ℕ) (x : ℕ) → AreBelow least xs → x < least
    → AreBelow least (xs ++ x ∷ [])
AreBelow-push least [] x below is = (is, tt)
AreBelow-push least (y ∷ ys) x below is = (below.0, AreBelow-push least ys x below.1 is)

-- what tests as equal is equal
equal_if : (o : Ordering) → is_eq o ≡ true → o ≡ Equal
equal_if Less is = absurd (cc)
equal_if Equal is = refl
equal_if Greater is = absurd (cc)

-- no variable from the number on is among these bindings
pub unbound_from : (least x : ℕ) (es : List (ℕ × Value)) → AreBelow least (keys_of es) → least ≤ x
    → find nat_cmp x es ≡ None
unbound_from least x [] below from = refl
unbound_from least x (e ∷ es) below from =
    let first : e.0 < least = below.0 in
    elim (is_eq (nat_cmp x e.0)) as (λ b. is_eq (nat_cmp x e.0) ≡ b → cond b (Some e.1) (find nat_cmp x es) ≡ None) [
      | true ↦ λ is.
          let same : x ≡ e.0 = nat_cmp-IsAntisymmetric x e.0 (equal_if (nat_cmp x e.0) is) in
          absurd (omega (arith, same, first, from))
      | false ↦ λ is. unbound_from least x es below.1 from
    ] refl

-- but a variable of the bindings is
pub bound_at : (x : ℕ) (es : List (ℕ × Value)) (seen rest : List ℕ) → seen ++ x ∷ rest ≡ keys_of es
    → find nat_cmp x es ≡ None → ⊥
bound_at x [] [] rest are unbound = absurd (cc)
bound_at x [] (y ∷ seen) rest are unbound = absurd (cc)
bound_at x (e ∷ es) [] rest are unbound =
    let same : x ≡ e.0 = cc in
    let is : is_eq (nat_cmp x e.0) ≡ true = sym (ap is_eq (nat_cmp_is x e.0 Equal same)) in
    none-some e.1 (sym unbound ∙ ap (λ b. cond b (Some e.1) (find nat_cmp x es)) is)
bound_at x (e ∷ es) (y ∷ seen) rest are unbound =
    let later : seen ++ x ∷ rest ≡ keys_of es = cc in
    elim (is_eq (nat_cmp x e.0)) as (λ b. cond b (Some e.1) (find nat_cmp x es) ≡ None → ⊥) [
      | true ↦ λ is. none-some e.1 (sym is)
      | false ↦ λ is. bound_at x es seen rest later is
    ] unbound
