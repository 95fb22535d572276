-- The test whether two paths are the same answers whether they are equal.
use Rattle.std.proofs.Common.{◌≡◌, ℕ, ◌&&◌, List, [], ◌∷◌, refl, sym, ap, ◌∙◌, cond}
use Rattle.std.specs.Prelude.{◌==◌}
use Rattle.std.specs.Bool.{Decides}
use Rattle.std.proofs.lemmas.Bool.Decides.{Decides-eqb, Decides-and, Decides-like}
use Rattle.object_graph.specs.declared.value.Rep.{Rep}
use Rattle.object_graph.specs.declared.value.Rep.TheVariants.{Small, Wide, Tagged}
use Rattle.object_graph.specs.declared.path.Path.{Path}
use Rattle.object_graph.specs.declared.path.PathField.{PathField}
use Rattle.object_graph.specs.Values.{rank, same_rep}
use Rattle.object_graph.specs.Paths.{same_fields, same_path}

-- the representation at a place in their order
abbrev rep_at : ℕ → Rep
rep_at n = cond (n == 0) Small (cond (n == 1) Wide Tagged)

-- a representation is the one at its place
rep_at-rank : (rep : Rep) → rep_at (rank rep) ≡ rep
rep_at-rank Small = refl
rep_at-rank Wide = refl
rep_at-rank Tagged = refl

-- the test of two representations decides whether they are equal
Decides-same_rep : (a b : Rep) → Decides (same_rep a b) (a ≡ b)
Decides-same_rep a b =
    let to : rank a ≡ rank b → a ≡ b = λ same. sym (rep_at-rank a) ∙ ap rep_at same ∙ rep_at-rank b in
    Decides-like (same_rep a b) to (ap rank) (Decides-eqb (rank a) (rank b))

-- what is made of equal parts is equal
same_made : {A B C : Type 0} (make : A → B → C) (a c : A) (b d : B) → (a ≡ c) × (b ≡ d) → make a b ≡ make c d
same_made make a c b d same = ap (λ x. make x b) same.0 ∙ ap (make c) same.1

-- the test of two fields does so
Decides-same_field : (a b : PathField) → Decides ((a.name == b.name) && same_rep a.rep b.rep) (a ≡ b)
Decides-same_field a b =
    let field_of = λ (n : ℕ) (r : Rep). (let made : PathField = record { name = n; rep = r } in made) in
    let to : (a.name ≡ b.name) × (a.rep ≡ b.rep) → a ≡ b = same_made field_of a.name b.name a.rep b.rep in
    let from : a ≡ b → (a.name ≡ b.name) × (a.rep ≡ b.rep) = λ same. (ap (λ f. f.name) same, ap (λ f. f.rep) same) in
    Decides-like ((a.name == b.name) && same_rep a.rep b.rep) to from
    (Decides-and (a.name == b.name) (same_rep a.rep b.rep) (Decides-eqb a.name b.name) (Decides-same_rep a.rep b.rep))

-- the test of two lists of fields does so
Decides-same_fields : (as' bs : List PathField) → Decides (same_fields as' bs) (as' ≡ bs)
Decides-same_fields [] [] = (λ is. refl, λ same. refl)
Decides-same_fields [] (b ∷ bs) = (λ is. cc, λ same. cc)
Decides-same_fields (a ∷ as') [] = (λ is. cc, λ same. cc)
Decides-same_fields (a ∷ as') (b ∷ bs) =
    let first = (a.name == b.name) && same_rep a.rep b.rep in
    let to : (a ≡ b) × (as' ≡ bs) → a ∷ as' ≡ b ∷ bs = same_made (λ f fs. f ∷ fs) a b as' bs in
    let from : a ∷ as' ≡ b ∷ bs → (a ≡ b) × (as' ≡ bs) = λ same. (cc, cc) in
    Decides-like (first && same_fields as' bs) to from
    (Decides-and first (same_fields as' bs) (Decides-same_field a b) (Decides-same_fields as' bs))

-- the test of two paths does so
pub Decides-same_path : (a b : Path) → Decides (same_path a b) (a ≡ b)
Decides-same_path a b =
    let made_of = λ (n : ℕ) (fs : List PathField). (let made : Path = record { cap = n; fields = fs } in made) in
    let to : (a.cap ≡ b.cap) × (a.fields ≡ b.fields) → a ≡ b = same_made made_of a.cap b.cap a.fields b.fields in
    let from : a ≡ b → (a.cap ≡ b.cap) × (a.fields ≡ b.fields) =
    λ same. (ap (λ p. p.cap) same, ap (λ p. p.fields) same) in
    Decides-like (same_path a b) to from
    (Decides-and (a.cap == b.cap) (same_fields a.fields b.fields) (Decides-eqb a.cap b.cap)
    (Decides-same_fields a.fields b.fields))
