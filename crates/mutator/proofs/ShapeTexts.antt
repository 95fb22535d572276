-- The text of a shape, field by field.
use Rattle.std.proofs.Common.{◌≡◌, ℕ, ◌+◌, ◌≤◌, List, [], ◌∷◌, ◌++◌, length, take, Some}
use Rattle.std.proofs.Common.{slice_get, get_or, sym}
use Rattle.std.proofs.Common.{◌∙◌, ap}
use Rattle.std.proofs.Common.{append_assoc}
use Rattle.std.specs.Prelude.{decimal, codes, flat_map}
use Rattle.std.proofs.lemmas.List.{take_more, take_all, flat_map_more}
use Rattle.std.proofs.lemmas.List.Folds.{flat_map-map}
use Rattle.std.proofs.lemmas.Option.{slice_get_within, slice_get-get_or, same_Some}
use Rattle.heap_model.specs.Types.{Field, Path, PathField}
use Rattle.object_graph.specs.Paths.{path_of}
use Rattle.object_graph.specs.Texts.{field_text, shape_text}
use Rattle.mutator.specs.Written.{path_field_text}

-- one field more
pub fields_more : (names : List (List ℕ)) (out : List ℕ) (fields : List PathField) (i : ℕ) (field : PathField)
    → slice_get fields i ≡ Some field
    → (out ++ flat_map (path_field_text names) (take i fields)) ++ path_field_text names field
    ≡ out ++ flat_map (path_field_text names) (take (i + 1) fields)
fields_more names out fields i field there =
    let within = slice_get_within fields i field there in
    let one : field ≡ get_or fields i field =
    same_Some field (get_or fields i field) (sym there ∙ slice_get-get_or fields i field within) in
    flat_map_more (path_field_text names) out (take i fields) field
    ∙ ap (λ last. out ++ flat_map (path_field_text names) (take i fields ++ last ∷ [])) one
    ∙ ap (λ all. out ++ flat_map (path_field_text names) all) (sym (take_more fields i field within))

-- the fields of a path are written as those of the object
fields_told : (names : List (List ℕ)) (cap : ℕ) (fields : List Field)
    → flat_map (path_field_text names) (path_of cap fields).fields ≡ flat_map (field_text names) fields
fields_told names cap fields = flat_map-map (path_field_text names) (λ f. record { name = f.name; rep = f.rep }) fields

-- all that is written is the text of the shape
pub shape_told : (names : List (List ℕ)) (old out digits : List ℕ) (path : Path) (cap : ℕ) (fields : List Field)
    (count : ℕ)
    → path ≡ path_of cap fields → digits ≡ decimal path.cap → length path.fields ≤ count
    → out ≡ ((old ++ codes "cap ") ++ digits) ++ flat_map (path_field_text names) (take count path.fields)
    → out ≡ old ++ shape_text names cap fields
shape_told names old out digits path cap fields count is told all written =
    let texts : List ℕ = flat_map (field_text names) fields in
    let of_path : flat_map (path_field_text names) path.fields ≡ texts =
    ap (λ (p : Path). flat_map (path_field_text names) p.fields) is ∙ fields_told names cap fields in
    written
    ∙ ap (λ some. ((old ++ codes "cap ") ++ digits) ++ flat_map (path_field_text names) some)
    (take_all count path.fields all)
    ∙ ap (λ text. ((old ++ codes "cap ") ++ digits) ++ text) of_path
    ∙ ap (λ number. ((old ++ codes "cap ") ++ number) ++ texts) (told ∙ ap (λ (p : Path). decimal p.cap) is)
    ∙ ap (λ front. front ++ texts) (append_assoc old (codes "cap ") (decimal cap))
    ∙ append_assoc old (codes "cap " ++ decimal cap) texts
