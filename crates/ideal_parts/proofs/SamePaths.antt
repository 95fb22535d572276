-- Comparing two paths field by field.
use Rattle.std.proofs.Common.{◌≡◌, List, [], ◌∷◌, refl}
use Rattle.std.specs.Cmp.Lexicographic.{pointwise}
use Rattle.object_graph.specs.declared.value.Rep.{Rep}
use Rattle.object_graph.specs.declared.value.Rep.TheVariants.{Small, Wide, Tagged}
use Rattle.object_graph.specs.declared.path.PathField.{PathField}
use Rattle.object_graph.specs.contracts.value.RepPartialEq.TheImpl as rep_eq
use Rattle.object_graph.specs.contracts.path.PathFieldPartialEq.TheImpl as field_eq
use Rattle.object_graph.specs.Values.{same_rep}
use Rattle.object_graph.specs.Paths.{same_fields}

-- what `==` answers of two representations
rep_eq-same_rep : (a b : Rep) → rep_eq.eq-value.it a b ≡ same_rep a b
rep_eq-same_rep Small Small = refl
rep_eq-same_rep Small Wide = refl
rep_eq-same_rep Small Tagged = refl
rep_eq-same_rep Wide Small = refl
rep_eq-same_rep Wide Wide = refl
rep_eq-same_rep Wide Tagged = refl
rep_eq-same_rep Tagged Small = refl
rep_eq-same_rep Tagged Wide = refl
rep_eq-same_rep Tagged Tagged = refl

-- what `==` answers of two lists of a path's fields
pub pointwise-same_fields : (as' bs : List PathField) → pointwise field_eq.eq-value.it as' bs ≡ same_fields as' bs
pointwise-same_fields [] [] = refl
pointwise-same_fields [] (b ∷ bs) = refl
pointwise-same_fields (a ∷ as') [] = refl
pointwise-same_fields (a ∷ as') (b ∷ bs) =
    rw (rep_eq-same_rep a.rep b.rep, pointwise-same_fields as' bs) refl
