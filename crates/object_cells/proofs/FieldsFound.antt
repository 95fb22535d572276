-- The fields of a plain object by name, and by their place in its path.
use Rattle.std.proofs.Common.{◌≡◌, ℕ, zero, suc, ◌==◌, true, false, List, [], ◌∷◌, length, map, Some, None, slice_get}
use Rattle.std.proofs.Common.{refl, sym, ◌∙◌, ap, cond}
use Rattle.std.specs.Prelude.{option_map}
use Rattle.std.specs.List.{list_any, IsDistinct, AllByRecursion}
use Rattle.std.proofs.lemmas.Bool.{or_parts, eq-eqb}
use Rattle.std.proofs.lemmas.Option.{none-some, same_Some, slice_get-map}
use Rattle.std.proofs.lemmas.List.{length-map}
use Rattle.heap_model.specs.Types.{Field, Path, PathField}
use Rattle.object_graph.specs.Objects.{field_value}
use Rattle.object_graph.specs.Paths.{path_of}

-- a name that the path has not is not one of the fields
pub no_value : (cap : ℕ) (fields : List Field) (name : ℕ)
    → list_any (λ field. field.name == name) (path_of cap fields).fields ≡ false
    → field_value fields name ≡ None
no_value cap [] name none = refl
no_value cap (field ∷ fields) name none =
    let parts = or_parts (field.name == name) (list_any (λ one. one.name == name) (path_of cap fields).fields) none in
    ap (λ test. cond test (Some field.value) (field_value fields name)) parts.0 ∙ no_value cap fields name parts.1

-- a name that differs from all of these differs from the one at a place
pub apart_at : (names : List ℕ) (k name other : ℕ) → AllByRecursion (λ one. (name == one) ≡ false) names
    → slice_get names k ≡ Some other → (name == other) ≡ false
apart_at [] k name other all there = absurd (none-some other there)
apart_at (first ∷ names) zero name other all there =
    ap (λ one. name == one) (sym (same_Some first other there)) ∙ all.0
apart_at (first ∷ names) (suc k) name other all there = apart_at names k name other all.1 there

-- the field at a place has the value that is found by its name
pub value_found : (fields : List Field) (k : ℕ) (field : Field) (name : ℕ)
    → IsDistinct ◌==◌ (map (λ one. one.name) fields)
    → slice_get fields k ≡ Some field → field.name ≡ name → field_value fields name ≡ Some field.value
unfolding IsDistinct
value_found [] k field name distinct there is = absurd (none-some field there)
value_found (first ∷ fields) zero field name distinct there is =
    let same : first ≡ field = same_Some first field there in
    let test : (first.name == name) ≡ true = eq-eqb first.name name (ap (λ (f : Field). f.name) same ∙ is) in
    ap (λ t. cond t (Some first.value) (field_value fields name)) test ∙ ap (λ (f : Field). Some f.value) same
value_found (first ∷ fields) (suc k) field name distinct there is =
    let names : List ℕ = map (λ one. one.name) fields in
    let other : slice_get names k ≡ Some field.name =
    slice_get-map (λ (one : Field). one.name) fields k ∙ ap (option_map (λ (one : Field). one.name)) there in
    let test : (first.name == name) ≡ false =
    ap (λ n. first.name == n) (sym is) ∙ apart_at names k first.name field.name distinct.0 other in
    ap (λ t. cond t (Some first.value) (field_value fields name)) test
    ∙ value_found fields k field name distinct.1 there is

-- a path's field of this name stands at the place
pub record IsNamedAt (fields : List PathField) (k name : ℕ) : Type 0 where
  pub field : PathField
  pub there : slice_get fields k ≡ Some field
  pub named : field.name ≡ name

-- what was found by its name stands there
pub named_at : (fields : List PathField) (k name : ℕ)
    → option_map (λ (field : PathField). field.name) (slice_get fields k) ≡ Some name
    → IsNamedAt fields k name
named_at [] k name is = absurd (none-some name is)
named_at (field ∷ fields) zero name is = record { field = field; there = refl; named = same_Some field.name name is }
named_at (field ∷ fields) (suc k) name is =
    let more = named_at fields k name is in
    record { field = more.field; there = more.there; named = more.named }

-- the path of fields has as many
pub path_long : {path : Path} {cap : ℕ} (fields : List Field) → path ≡ path_of cap fields
    → length path.fields ≡ length fields
path_long fields is =
    ap (λ (p : Path). length p.fields) is ∙ length-map fields (λ (f : Field). record { name = f.name; rep = f.rep })

-- a field of an object stands at the place
pub record IsFieldAt (fields : List Field) (k : ℕ) (of_path : PathField) : Type 0 where
  pub field : Field
  pub there : slice_get fields k ≡ Some field
  pub same : record { name = field.name; rep = field.rep } ≡ of_path

-- what stands in the path of an object is one of its fields
pub field_at : (cap : ℕ) (fields : List Field) (k : ℕ) (of_path : PathField)
    → slice_get (path_of cap fields).fields k ≡ Some of_path
    → IsFieldAt fields k of_path
field_at cap [] k of_path is = absurd (none-some of_path is)
field_at cap (field ∷ fields) zero of_path is =
    record { field = field; there = refl; same = same_Some (record { name = field.name; rep = field.rep }) of_path is }
field_at cap (field ∷ fields) (suc k) of_path is =
    let more = field_at cap fields k of_path is in
    record { field = more.field; there = more.there; same = more.same }
