-- The test whether two transitions are the same answers whether they are equal.
use Rattle.std.proofs.Common.{◌≡◌, ℕ, Bool, refl, sym, ap, ◌∙◌}
use Rattle.std.specs.Prelude.{◌==◌}
use Rattle.std.specs.Bool.{Decides}
use Rattle.std.specs.Cmp.{IsEquivalence, both_ways}
use Rattle.std.proofs.lemmas.Bool.Decides.{Decides-eqb, Decides-and, Decides-like}
use Rattle.object_graph.specs.declared.value.Rep.{Rep}
use Rattle.object_graph.specs.declared.value.Rep.TheVariants.{Small, Wide, Tagged}
use Rattle.object_graph.specs.declared.path.PathField.{PathField}
use Rattle.object_graph.specs.contracts.value.RepPartialEq.TheImpl as rep_eq
use Rattle.object_graph.specs.contracts.path.PathFieldPartialEq.TheImpl as field_eq
use Rattle.shape_tree.specs.declared.transition.Transition.{Transition}
use Rattle.shape_tree.specs.Nodes.{same_transition, transition_by}

-- whether two representations are the same, as the derived test asks
abbrev is_rep : Rep → Rep → Bool
is_rep = (rep_eq.ghosts).eq

-- the test of two representations decides whether they are equal
Decides-is_rep : (a b : Rep) → Decides (is_rep a b) (a ≡ b)
Decides-is_rep Small Small = (λ is. refl, λ same. refl)
Decides-is_rep Small Wide = (λ is. cc, λ same. cc)
Decides-is_rep Small Tagged = (λ is. cc, λ same. cc)
Decides-is_rep Wide Small = (λ is. cc, λ same. cc)
Decides-is_rep Wide Wide = (λ is. refl, λ same. refl)
Decides-is_rep Wide Tagged = (λ is. cc, λ same. cc)
Decides-is_rep Tagged Small = (λ is. cc, λ same. cc)
Decides-is_rep Tagged Wide = (λ is. cc, λ same. cc)
Decides-is_rep Tagged Tagged = (λ is. refl, λ same. refl)

-- whether two fields are the same, as the derived test asks
abbrev is_field : PathField → PathField → Bool
is_field = (field_eq.ghosts).eq

-- what is made of equal parts is equal
same_made : {A B C : Type 0} (make : A → B → C) (a c : A) (b d : B) → (a ≡ c) × (b ≡ d) → make a b ≡ make c d
same_made make a c b d same = ap (λ x. make x b) same.0 ∙ ap (make c) same.1

-- the test of two fields decides whether they are equal
Decides-is_field : (a b : PathField) → Decides (is_field a b) (a ≡ b)
Decides-is_field a b =
    let field_of = λ (n : ℕ) (r : Rep). (let made : PathField = record { name = n; rep = r } in made) in
    Decides-like (is_field a b) (same_made field_of a.name b.name a.rep b.rep)
    (λ same. (ap (λ f. f.name) same, ap (λ f. f.rep) same))
    (Decides-and (a.name == b.name) (is_rep a.rep b.rep) (Decides-eqb a.name b.name) (Decides-is_rep a.rep b.rep))

-- the test of two transitions does so
pub Decides-same_transition : (a b : Transition) → Decides (same_transition a b) (a ≡ b)
Decides-same_transition a b =
    Decides-like (same_transition a b) (same_made transition_by a.parent b.parent a.field b.field)
    (λ same. (ap (λ t. t.parent) same, ap (λ t. t.field) same))
    (Decides-and (a.parent == b.parent) (is_field a.field b.field) (Decides-eqb a.parent b.parent)
    (Decides-is_field a.field b.field))

-- so the test is an equivalence
pub same_transition_equiv : IsEquivalence same_transition
same_transition_equiv = record {
  refl = λ a. (Decides-same_transition a a).1 refl;
  symm = λ a b. both_ways (same_transition a b) (same_transition b a)
      (λ same. (Decides-same_transition b a).1 (sym ((Decides-same_transition a b).0 same)))
      (λ same. (Decides-same_transition a b).1 (sym ((Decides-same_transition b a).0 same)));
  congr = λ a b c same. ap (λ t. same_transition t c) ((Decides-same_transition a b).0 same);
}
