-- The paths of fields of which one was added, or set: at other numbers they are alike.
use Rattle.std.proofs.Common.{◌≡◌, ◌≢◌, ℕ, zero, suc, ◌<◌, inl, inr, List, [], ◌∷◌, ◌++◌, length, map, set, Some}
use Rattle.std.proofs.Common.{slice_get, refl, sym, ◌∙◌, ap, subst}
use Rattle.std.specs.Prelude.{option_map}
use Rattle.std.proofs.lemmas.Bool.{cases_eq}
use Rattle.std.proofs.lemmas.List.{length-map}
use Rattle.std.proofs.lemmas.Option.{slice_get-map, slice_get_within}
use Rattle.object_graph.specs.Paths.{path_of}
use Rattle.object_graph.proofs.Lists.{slice_get-set_same, slice_get-set_other}
use Rattle.shape_tree.specs.ShapeLayouts.{raw_bit}
use Rattle.heap_model.specs.Types.{Field, Path, PathField}
use Rattle.object_cells.proofs.FieldWords.{path_field}
use Rattle.object_cells.proofs.PathOffsets.{AreAlike}
use Rattle.shape_change.proofs.AddedFields.{path_of-push}

-- a list with one more has what it had elsewhere
push_other : {X : Type 0} (xs : List X) (x : X) (k : ℕ) → k ≢ length xs → slice_get xs k ≡ slice_get (xs ++ x ∷ []) k
push_other [] x zero apart = absurd (apart refl)
push_other [] x (suc k) apart = refl
push_other (first ∷ xs) x zero apart = refl
push_other (first ∷ xs) x (suc k) apart = push_other xs x k (λ same. apart (ap suc same))

-- and the one more at its end
pub push_last : {X : Type 0} (xs : List X) (x : X) → slice_get (xs ++ x ∷ []) (length xs) ≡ Some x
push_last [] x = refl
push_last (first ∷ xs) x = push_last xs x

-- where a field was added, the paths are alike at other numbers
pub added_alike : (cap : ℕ) (fields : List Field) (field : Field) (number : ℕ) → number ≢ length fields
    → AreAlike (path_of cap fields) (path_of cap (fields ++ field ∷ [])) number
added_alike cap fields field number apart =
    let part : Field → PathField = λ f. record { name = f.name; rep = f.rep } in
    AreAlike.same_field
    (push_other (map part fields) (part field) number (λ same. apart (same ∙ length-map fields part))
    ∙ ap (λ (path : Path). slice_get path.fields number) (sym (path_of-push cap fields field)))

-- and so they are where one was set
pub set_alike : (cap : ℕ) (fields : List Field) (slot : ℕ) (field : Field) (number : ℕ) → number ≢ slot
    → AreAlike (path_of cap fields) (path_of cap (set fields slot field)) number
set_alike cap fields slot field number apart =
    let part : Field → PathField = λ f. record { name = f.name; rep = f.rep } in
    AreAlike.same_field (slice_get-map part fields number
    ∙ ap (option_map part) (sym (slice_get-set_other fields slot number field apart))
    ∙ sym (slice_get-map part (set fields slot field) number))

-- and at its own number too, if in the object it was not wide and is not
pub replaced_alike : (cap : ℕ) (fields : List Field) (slot : ℕ) (was field : Field) → slice_get fields slot ≡ Some was
    → (slot < cap → (raw_bit was.rep ≡ 0) × (raw_bit field.rep ≡ 0)) → (number : ℕ) → number < cap
    → AreAlike (path_of cap fields) (path_of cap (set fields slot field)) number
replaced_alike cap fields slot was field there tagged number below = elim (cases_eq number slot) [
  | inl same ↦
      let all : List Field = set fields slot field in
      let bits = tagged (subst (λ n. n < cap) same below) in
      AreAlike.not_wide (record { name = was.name; rep = was.rep }) (record { name = field.name; rep = field.rep })
      (ap (slice_get (path_of cap fields).fields) same ∙ path_field cap fields slot was there) bits.0
      (ap (slice_get (path_of cap all).fields) same
      ∙ path_field cap all slot field (slice_get-set_same fields slot field (slice_get_within fields slot was there)))
      bits.1
  | inr apart ↦ set_alike cap fields slot field number apart
]
