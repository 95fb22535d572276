-- The fields of an object, one of which is taken out: which stand where, and which path they have.
use Rattle.std.proofs.Common.{◌≡◌, ℕ, zero, suc, ◌<◌, ◌≤◌, true, false, List, [], ◌∷◌, ◌++◌}
use Rattle.std.proofs.Common.{length, map, take, drop, Some, None, slice_get, nat_lt, cond, ◌==◌, refl, sym, ◌∙◌, ap}
use Rattle.std.proofs.Common.{arith, inl, inr, length-append, length-take, length-drop}
use Rattle.std.specs.Prelude.{if◌then◌else◌, option_map}
use Rattle.std.specs.List.{IsDistinct}
use Rattle.std.proofs.lemmas.Bool.{cases_lt, eq-eqb}
use Rattle.std.proofs.lemmas.Bool.Decides.{nat_tests}
use Rattle.std.proofs.lemmas.List.{map-append, take-map, drop-map}
use Rattle.std.proofs.lemmas.Option.{none-some, same_Some, slice_get-map, slice_get_within}
use Rattle.heap_model.specs.Types.{Field, PathField}
use Rattle.object_graph.specs.Objects.{field_value, without_field}
use Rattle.object_graph.specs.Paths.{path_of}
use Rattle.shape_tree.specs.Shapes.{without}
use Rattle.object_cells.proofs.FieldsFound.{apart_at}
use Rattle.shape_change.proofs.AddedFields.{none_chosen}

-- from which place an element comes, where the one at a place is taken out
abbrev pub origin_of : ℕ → ℕ → ℕ
origin_of gone place = if nat_lt place gone then place else suc place

-- those before it stay
pub origin_of-before : (gone place : ℕ) → place < gone → origin_of gone place ≡ place
origin_of-before gone place before = grind (arith, nat_tests)

-- and the others come from one place further
pub origin_of-behind : (gone place : ℕ) → gone ≤ place → origin_of gone place ≡ suc place
origin_of-behind gone place behind = grind (arith, nat_tests)

-- none comes from more than one place further
pub origins_few : (gone place : ℕ) → origin_of gone place ≤ suc place
origins_few gone place = grind (arith, nat_tests)

-- no two come from one place
pub origins_apart : (gone place other : ℕ) → origin_of gone place ≡ origin_of gone other → place ≡ other
origins_apart gone place other same = grind (arith, nat_tests)

-- an element before the one that is taken out
pub less_before : {A : Type 0} (xs : List A) (gone place : ℕ) → place < gone
    → slice_get (take gone xs ++ drop (suc gone) xs) place ≡ slice_get xs place
less_before xs zero place before = absurd (omega arith)
less_before [] (suc gone) place before = refl
less_before (x ∷ xs) (suc gone) zero before = refl
less_before (x ∷ xs) (suc gone) (suc place) before = less_before xs gone place (omega arith)

-- and one behind it
pub less_behind : {A : Type 0} (xs : List A) (gone place : ℕ) → gone ≤ place
    → slice_get (take gone xs ++ drop (suc gone) xs) place ≡ slice_get xs (suc place)
less_behind [] zero place behind = refl
less_behind (x ∷ xs) zero place behind = refl
less_behind [] (suc gone) place behind = refl
less_behind (x ∷ xs) (suc gone) zero behind = absurd (omega arith)
less_behind (x ∷ xs) (suc gone) (suc place) behind = less_behind xs gone place (omega arith)

-- each comes from its origin
less_at : {A : Type 0} (xs : List A) (gone place : ℕ)
    → slice_get (take gone xs ++ drop (suc gone) xs) place ≡ slice_get xs (origin_of gone place)
less_at xs gone place = elim (cases_lt place gone) [
  | inl before ↦ less_before xs gone place before ∙ ap (slice_get xs) (sym (origin_of-before gone place before))
  | inr behind ↦ less_behind xs gone place behind ∙ ap (slice_get xs) (sym (origin_of-behind gone place behind))
]

-- the fields without the one of a name are those without the one at its place
less_named : (fields : List Field) (k : ℕ) (field : Field) (name : ℕ)
    → IsDistinct ◌==◌ (map (λ one. one.name) fields) → slice_get fields k ≡ Some field → field.name ≡ name
    → without_field fields name ≡ take k fields ++ drop (suc k) fields
unfolding IsDistinct
less_named [] k field name distinct there is = absurd (none-some field there)
less_named (first ∷ fields) zero field name distinct there is =
    let same : first ≡ field = same_Some first field there in
    let test : (first.name == name) ≡ true = eq-eqb first.name name (ap (λ (f : Field). f.name) same ∙ is) in
    ap (λ t. cond t fields (first ∷ without_field fields name)) test
less_named (first ∷ fields) (suc k) field name distinct there is =
    let names : List ℕ = map (λ one. one.name) fields in
    let other : slice_get names k ≡ Some field.name =
    slice_get-map (λ (one : Field). one.name) fields k ∙ ap (option_map (λ (one : Field). one.name)) there in
    let test : (first.name == name) ≡ false =
    ap (λ n. first.name == n) (sym is) ∙ apart_at names k first.name field.name distinct.0 other in
    ap (λ t. cond t fields (first ∷ without_field fields name)) test
    ∙ ap (λ fs. first ∷ fs) (less_named fields k field name distinct.1 there is)

-- What the fields of an object are without the one of a name, which stands at this place.
pub record AreLess (cap : ℕ) (fields : List Field) (gone name : ℕ) : Type 0 where
  pub at : (place : ℕ) → slice_get (without_field fields name) place ≡ slice_get fields (origin_of gone place)
  pub count : suc (length (without_field fields name)) ≡ length fields
  pub path : without (path_of cap fields) gone ≡ path_of cap (without_field fields name)

-- they are these
pub are_less : (cap : ℕ) (fields : List Field) (k : ℕ) (field : Field) (name : ℕ)
    → IsDistinct ◌==◌ (map (λ one. one.name) fields) → slice_get fields k ≡ Some field → field.name ≡ name
    → AreLess cap fields k name
are_less cap fields k field name distinct there is =
    let part : Field → PathField = λ f. record { name = f.name; rep = f.rep } in
    let less = less_named fields k field name distinct there is in
    let below = slice_get_within fields k field there in
    record {
      at = λ place. ap (λ (all : List Field). slice_get all place) less ∙ less_at fields k place;
      count = omega (
        arith,
        ap length less,
        length-append (take k fields) (drop (suc k) fields),
        length-take k fields,
        length-drop (suc k) fields,
        below,
      );
      path = ap (λ (rows : List PathField). record { cap = cap; fields = rows })
          (ap (λ rows. rows ++ drop (suc k) (map part fields)) (take-map part k fields)
          ∙ ap (λ rows. map part (take k fields) ++ rows) (drop-map part (suc k) fields)
          ∙ sym (map-append part (take k fields) (drop (suc k) fields)) ∙ ap (map part) (sym less));
    }

-- where no field has the name, none is taken out
pub none_less : (fields : List Field) (name : ℕ) → field_value fields name ≡ None → without_field fields name ≡ fields
none_less [] name none = refl
none_less (field ∷ fields) name none =
    let parts = none_chosen (field.name == name) field.value (field_value fields name) none in
    ap (λ t. cond t fields (field ∷ without_field fields name)) parts.0
    ∙ ap (λ fs. field ∷ fs) (none_less fields name parts.1)
