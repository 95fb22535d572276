-- The fields of a plain object of which one was set: it stands where it stood.
use Rattle.std.proofs.Common.{◌≡◌, ℕ, zero, suc, ◌==◌, true, false, List, [], ◌∷◌, map, Some, None, slice_get, set}
use Rattle.std.proofs.Common.{inl, inr, refl, sym, ◌∙◌, ap, cond}
use Rattle.std.specs.Prelude.{option_map}
use Rattle.std.specs.List.{IsDistinct}
use Rattle.std.proofs.lemmas.Bool.{eq-eqb, ne_eqb, cases_eq}
use Rattle.std.proofs.lemmas.Option.{none-some, same_Some, slice_get-map}
use Rattle.heap_model.specs.Types.{Value, Field, Path, PathField}
use Rattle.object_graph.specs.Objects.{with_field, revalued, field_value}
use Rattle.object_graph.specs.Paths.{path_of}
use Rattle.shape_tree.specs.Shapes.{changed, changed_fields}
use Rattle.heap_model.specs.Rooms.{field_place}
use Rattle.object_cells.proofs.FieldsFound.{apart_at}

-- the name of a later field is not that of the first
later_apart : (first : Field) (fields : List Field) (k : ℕ) (field : Field) (name : ℕ)
    → IsDistinct ◌==◌ (map (λ (one : Field). one.name) (first ∷ fields)) → slice_get fields k ≡ Some field
    → field.name ≡ name → (first.name == name) ≡ false
unfolding IsDistinct
later_apart first fields k field name distinct there is =
    let name_of : Field → ℕ = λ one. one.name in
    let names : List ℕ = map name_of fields in
    let other : slice_get names k ≡ Some field.name =
    slice_get-map name_of fields k ∙ ap (option_map name_of) there in
    ap (λ n. first.name == n) (sym is) ∙ apart_at names k first.name field.name distinct.0 other

-- the names of the later fields are distinct
later_distinct : (first : Field) (fields : List Field)
    → IsDistinct ◌==◌ (map (λ (one : Field). one.name) (first ∷ fields))
    → IsDistinct ◌==◌ (map (λ (one : Field). one.name) fields)
unfolding IsDistinct
later_distinct first fields distinct = distinct.1

-- the first field has the name
first_named : (first field : Field) (name : ℕ) → Some first ≡ Some field → field.name ≡ name
    → (first.name == name) ≡ true
first_named first field name there is =
    eq-eqb first.name name (ap (λ (f : Field). f.name) (same_Some first field there) ∙ is)

-- a field is found by its name
pub place_found : (fields : List Field) (k : ℕ) (field : Field) (name : ℕ)
    → IsDistinct ◌==◌ (map (λ (one : Field). one.name) fields)
    → slice_get fields k ≡ Some field → field.name ≡ name → field_place fields name ≡ Some k
place_found [] k field name distinct there is = absurd (none-some field there)
place_found (first ∷ fields) zero field name distinct there is =
    ap (λ t. cond t (Some 0) (option_map suc (field_place fields name))) (first_named first field name there is)
place_found (first ∷ fields) (suc k) field name distinct there is =
    ap (λ t. cond t (Some 0) (option_map suc (field_place fields name)))
    (later_apart first fields k field name distinct there is)
    ∙ ap (option_map suc) (place_found fields k field name (later_distinct first fields distinct) there is)

-- and none is where none has the name
pub no_place : (fields : List Field) (name : ℕ) → field_value fields name ≡ None → field_place fields name ≡ None
no_place [] name fresh = refl
no_place (first ∷ fields) name fresh = elim (cases_eq first.name name) [
  | inl same ↦
      let test = eq-eqb first.name name same in
      absurd (none-some first.value (sym fresh ∙ ap (λ t. cond t (Some first.value) (field_value fields name)) test))
  | inr apart ↦
      let test = ne_eqb first.name name apart in
      let later = sym (ap (λ t. cond t (Some first.value) (field_value fields name)) test) ∙ fresh in
      ap (λ t. cond t (Some 0) (option_map suc (field_place fields name))) test
      ∙ ap (option_map suc) (no_place fields name later)
]

-- the field of a name that is there is given the value where it stands
pub with_field_found : (fields : List Field) (k : ℕ) (field : Field) (name : ℕ) (value : Value)
    → IsDistinct ◌==◌ (map (λ (one : Field). one.name) fields)
    → slice_get fields k ≡ Some field → field.name ≡ name
    → with_field fields name value ≡ set fields k (revalued field value)
with_field_found [] k field name value distinct there is = absurd (none-some field there)
with_field_found (first ∷ fields) zero field name value distinct there is =
    ap (λ t. cond t (revalued first value ∷ fields) (first ∷ with_field fields name value))
    (first_named first field name there is)
    ∙ ap (λ (f : Field). revalued f value ∷ fields) (same_Some first field there)
with_field_found (first ∷ fields) (suc k) field name value distinct there is =
    ap (λ t. cond t (revalued first value ∷ fields) (first ∷ with_field fields name value))
    (later_apart first fields k field name distinct there is)
    ∙ ap (λ more. first ∷ more)
    (with_field_found fields k field name value (later_distinct first fields distinct) there is)

-- of a field of the same name the path's one has another representation
pub changed_by_set : (cap : ℕ) (fields : List Field) (k : ℕ) (field next : Field) → slice_get fields k ≡ Some field
    → next.name ≡ field.name → (path_of cap (set fields k next)).fields
    ≡ changed_fields (path_of cap fields).fields k next.rep
changed_by_set cap [] k field next there same = absurd (none-some field there)
changed_by_set cap (first ∷ fields) zero field next there same =
    let name : next.name ≡ first.name = same ∙ ap (λ (f : Field). f.name) (sym (same_Some first field there)) in
    ap (λ n. record { name = n; rep = next.rep } ∷ (path_of cap fields).fields) name
changed_by_set cap (first ∷ fields) (suc k) field next there same =
    ap (λ (more : List PathField). record { name = first.name; rep = first.rep } ∷ more)
    (changed_by_set cap fields k field next there same)

-- so the path is changed
pub path_changed : (cap : ℕ) (fields : List Field) (k : ℕ) (field next : Field) → slice_get fields k ≡ Some field
    → next.name ≡ field.name → path_of cap (set fields k next) ≡ changed (path_of cap fields) k next.rep
path_changed cap fields k field next there same =
    let with_cap : List PathField → Path = λ all. record { cap = cap; fields = all } in
    ap with_cap (changed_by_set cap fields k field next there same)

-- where the representation stays too, the path stays
pub path_stays : (cap : ℕ) (fields : List Field) (k : ℕ) (field next : Field) → slice_get fields k ≡ Some field
    → next.name ≡ field.name → next.rep ≡ field.rep → path_of cap (set fields k next) ≡ path_of cap fields
path_stays cap [] k field next there same same_rep = refl
path_stays cap (first ∷ fields) zero field next there same same_rep =
    let is = sym (same_Some first field there) in
    let name : next.name ≡ first.name = same ∙ ap (λ (f : Field). f.name) is in
    let one : next.rep ≡ first.rep = same_rep ∙ ap (λ (f : Field). f.rep) is in
    let rest : List PathField = (path_of cap fields).fields in
    ap (λ n. record { cap = cap; fields = record { name = n; rep = next.rep } ∷ rest }) name
    ∙ ap (λ r. record { cap = cap; fields = record { name = first.name; rep = r } ∷ rest }) one
path_stays cap (first ∷ fields) (suc k) field next there same same_rep =
    let with_first : Path → Path =
    λ path. record { cap = cap; fields = record { name = first.name; rep = first.rep } ∷ path.fields } in
    ap with_first (path_stays cap fields k field next there same same_rep)
