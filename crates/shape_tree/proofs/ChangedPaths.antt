-- Paths of which one field was added, changed or taken out.
use Rattle.std.proofs.Common.{◌≡◌, ℕ, zero, suc, ◌+◌, ◌-◌, ◌<◌, Bool, false, List, [], ◌∷◌, ◌++◌, length}
use Rattle.std.proofs.Common.{take, drop, get_or, map, refl, sym, ap, ◌∙◌, add-one, drop-cons}
use Rattle.std.proofs.Common.{arith, subst, length-append, length-take, length-drop}
use Rattle.std.specs.Prelude.{◌==◌}
use Rattle.std.specs.Cmp.{nat_eq_equiv}
use Rattle.std.specs.List.{list_any, IsDistinct, AllByRecursion}
use Rattle.std.proofs.lemmas.Bool.{or_parts, or_from}
use Rattle.std.proofs.lemmas.List.{map-append, take-map, drop-map, length-map, take_rest}
use Rattle.std.proofs.lemmas.Map.Keys.{IsDistinct-push}
use Rattle.object_graph.specs.declared.path.Path.{Path}
use Rattle.object_graph.specs.declared.path.PathField.{PathField}
use Rattle.object_graph.specs.declared.value.Rep.{Rep}
use Rattle.object_graph.specs.declared.value.Rep.TheVariants.{Small}
use Rattle.object_graph.specs.Paths.{prefix_of}
use Rattle.object_graph.specs.Invariants.{fields_most, IsPath}
use Rattle.shape_tree.specs.Shapes.{has_name, stepped, changed_fields, changed, without}
use Rattle.shape_tree.specs.Growth.{extended}
use Rattle.shape_tree.proofs.GrownPaths.{extended-extended}

-- what holds of all elements holds of those that are left where one was taken out
All-remove : {X : Type 0} (P : X → Type 0) (xs : List X) (at : ℕ) → AllByRecursion P xs
    → AllByRecursion P (take at xs ++ drop (suc at) xs)
All-remove P [] zero all = tt
All-remove P [] (suc at) all = tt
All-remove P (x ∷ xs) zero all = all.1
All-remove P (x ∷ xs) (suc at) all = (all.0, All-remove P xs at all.1)

-- of these none stands twice
IsDistinct-remove : {X : Type 0} (same : X → X → Bool) (xs : List X) (at : ℕ) → IsDistinct same xs
    → IsDistinct same (take at xs ++ drop (suc at) xs)
unfolding IsDistinct
IsDistinct-remove same [] zero distinct = tt
IsDistinct-remove same [] (suc at) distinct = tt
IsDistinct-remove same (x ∷ xs) zero distinct = distinct.1
IsDistinct-remove same (x ∷ xs) (suc at) distinct =
    (All-remove (λ y. same x y ≡ false) xs at distinct.0, IsDistinct-remove same xs at distinct.1)

-- the names of fields
abbrev names_of : List PathField → List ℕ
names_of fields = map (λ field. field.name) fields

-- a name that no field has is not among the names
no_name : (fields : List PathField) (name : ℕ) → list_any (λ field. field.name == name) fields ≡ false
    → list_any (λ other. name == other) (names_of fields) ≡ false
no_name [] name none = refl
no_name (field ∷ fields) name none =
    let parts = or_parts (field.name == name) (list_any (λ f. f.name == name) fields) none in
    or_from (name == field.name) (list_any (λ other. name == other) (names_of fields))
    (nat_eq_equiv.symm name field.name ∙ parts.0) (no_name fields name parts.1)

-- a path with a field of a new name more may be a path
pub IsPath-stepped : (path : Path) (name : ℕ) (rep : Rep) → IsPath path → has_name path name ≡ false
    → length path.fields < fields_most → IsPath (stepped path name rep)
IsPath-stepped path name rep is new room =
    let field : PathField = record { name = name; rep = rep } in
    let names : names_of (path.fields ++ field ∷ []) ≡ names_of path.fields ++ name ∷ [] =
    map-append (λ (f : PathField). f.name) path.fields (field ∷ []) in
    record {
      cap = is.cap;
      short = omega (arith, room, length-append path.fields (field ∷ []));
      distinct = subst (IsDistinct ◌==◌) (sym names)
          (IsDistinct-push nat_eq_equiv (names_of path.fields) name is.distinct (no_name path.fields name new));
    }

-- another representation leaves the names
names_of-changed_fields : (fields : List PathField) (at : ℕ) (rep : Rep)
    → names_of (changed_fields fields at rep) ≡ names_of fields
names_of-changed_fields [] at rep = refl
names_of-changed_fields (field ∷ fields) zero rep = refl
names_of-changed_fields (field ∷ fields) (suc at) rep =
    ap (λ names. field.name ∷ names) (names_of-changed_fields fields at rep)

-- and the number of fields
length-changed_fields : (fields : List PathField) (at : ℕ) (rep : Rep)
    → length (changed_fields fields at rep) ≡ length fields
length-changed_fields fields at rep =
    sym (length-map (changed_fields fields at rep) (λ (f : PathField). f.name))
    ∙ ap length (names_of-changed_fields fields at rep) ∙ length-map fields (λ (f : PathField). f.name)

-- a path, one field of which has another representation, may be a path
pub IsPath-changed : (path : Path) (at : ℕ) (rep : Rep) → IsPath path → IsPath (changed path at rep)
IsPath-changed path at rep is =
    record {
      cap = is.cap;
      short = omega (arith, is.short, length-changed_fields path.fields at rep);
      distinct = subst (IsDistinct ◌==◌) (sym (names_of-changed_fields path.fields at rep)) is.distinct;
    }

-- a path without one field may be a path
pub IsPath-without : (path : Path) (at : ℕ) → IsPath path → IsPath (without path at)
IsPath-without path at is =
    let name_of = λ (f : PathField). f.name in
    let names : names_of (take at path.fields ++ drop (suc at) path.fields)
    ≡ take at (names_of path.fields) ++ drop (suc at) (names_of path.fields) =
    map-append name_of (take at path.fields) (drop (suc at) path.fields)
    ∙ ap (λ ns. ns ++ names_of (drop (suc at) path.fields)) (sym (take-map name_of at path.fields))
    ∙ ap (λ ns. take at (names_of path.fields) ++ ns) (sym (drop-map name_of (suc at) path.fields)) in
    record {
      cap = is.cap;
      short = omega (
        arith,
        is.short,
        length-append (take at path.fields) (drop (suc at) path.fields),
        length-take at path.fields,
        length-drop (suc at) path.fields,
      );
      distinct = subst (IsDistinct ◌==◌) (sym names) (IsDistinct-remove ◌==◌ (names_of path.fields) at is.distinct);
    }

-- the fields before the changed one, and then it and the others
changed_fields-split : (fields : List PathField) (at : ℕ) (rep : Rep) → at < length fields
    → take at fields ++ changed_fields (drop at fields) 0 rep ≡ changed_fields fields at rep
changed_fields-split [] at rep there = absurd (omega arith)
changed_fields-split (field ∷ fields) zero rep there = refl
changed_fields-split (field ∷ fields) (suc at) rep there =
    ap (λ fs. field ∷ fs) (changed_fields-split fields at rep (omega arith))

-- so the changed path is a prefix with these fields more
pub extended-changed : (path : Path) (at : ℕ) (rep : Rep) → at < length path.fields
    → extended (prefix_of path at) (changed_fields (drop at path.fields) 0 rep) ≡ changed path at rep
extended-changed path at rep there =
    let made : List PathField → Path = λ fields. record { cap = path.cap; fields = fields } in
    ap made (changed_fields-split path.fields at rep there)

-- the fields behind a place, as a slice has them
abbrev pub fields_behind : List PathField → ℕ → List PathField
fields_behind slice at = take (length slice - (at + 1)) (drop (at + 1) slice)

-- the field at a place of a slice, with another representation
abbrev pub changed_field : List PathField → ℕ → Rep → PathField
changed_field slice at rep = record { name = (get_or slice at (record { name = 0; rep = Small })).name; rep = rep }

-- they are those of the path whose fields it has
fields_behind-fields : (path : Path) (slice : List PathField) (at : ℕ) → slice ≡ path.fields
    → fields_behind slice at ≡ drop (suc at) path.fields
fields_behind-fields path slice at same =
    take_rest slice (at + 1) ∙ ap (drop (at + 1)) same ∙ ap (λ n. drop n path.fields) (add-one at)

-- the prefix before a field and the fields behind it make the path without it
pub extended-without : (path front : Path) (slice : List PathField) (at : ℕ) → front ≡ prefix_of path at
    → slice ≡ path.fields → extended front (fields_behind slice at) ≡ without path at
extended-without path front slice at is same =
    ap (λ (p : Path). extended p (fields_behind slice at)) is
    ∙ ap (extended (prefix_of path at)) (fields_behind-fields path slice at same)

-- the prefix before a field, the changed field and the fields behind it make the changed path
pub extended-changed_at : (path front : Path) (slice : List PathField) (at : ℕ) (rep : Rep) → at < length path.fields
    → front ≡ prefix_of path at → slice ≡ path.fields
    → extended front (changed_field slice at rep ∷ fields_behind slice at) ≡ changed path at rep
extended-changed_at path front slice at rep there is same =
    let before = prefix_of path at in
    let later = drop (suc at) path.fields in
    let split : drop at path.fields ≡ get_or path.fields at (record { name = 0; rep = Small }) ∷ later =
    drop-cons path.fields at (record { name = 0; rep = Small }) there in
    ap (λ (p : Path). extended p (changed_field slice at rep ∷ fields_behind slice at)) is
    ∙ ap (λ fields. extended before (changed_field slice at rep ∷ fields)) (fields_behind-fields path slice at same)
    ∙ ap (λ fields. extended before (changed_field fields at rep ∷ later)) same
    ∙ ap (λ fields. extended before (changed_fields fields 0 rep)) (sym split) ∙ extended-changed path at rep there

-- so do the path that has the changed field last and the fields behind it
pub extended-changed_next : (path front next : Path) (slice : List PathField) (at : ℕ) (rep : Rep)
    → at < length path.fields → front ≡ prefix_of path at → slice ≡ path.fields
    → next ≡ extended front (changed_field slice at rep ∷ [])
    → extended next (fields_behind slice at) ≡ changed path at rep
extended-changed_next path front next slice at rep there is same comes =
    ap (λ (p : Path). extended p (fields_behind slice at)) comes
    ∙ extended-extended front (changed_field slice at rep ∷ []) (fields_behind slice at)
    ∙ extended-changed_at path front slice at rep there is same
