-- Links between objects, as the rounds test them and as the laws say them.
use Rattle.std.proofs.Common.{◌≡◌, ℕ, ◌<◌, Bool, true, false, ◌&&◌, List, length, get_or, Option, Some, None, refl}
use Rattle.std.proofs.Common.{sym, ap, ◌∙◌, arith, inl, inr}
use Rattle.std.specs.Prelude.{slice_get}
use Rattle.std.specs.List.{zip, list_any}
use Rattle.std.proofs.lemmas.Bool.{and_parts, and_from, or_cases, or_left, or_right, eqb-true, eq-eqb}
use Rattle.std.proofs.lemmas.List.{get_or_default}
use Rattle.std.proofs.lemmas.List.Folds.{list_any_at, Any-from_list_any, list_any-from_Any}
use Rattle.std.proofs.lemmas.Option.{slice_get-get_or, get_or_from_slice_get, slice_get_within}
use Rattle.std.proofs.lemmas.Slice.Zip.{get_or-zip, length-zip}
use Rattle.object_graph.specs.declared.value.Value.{Value}
use Rattle.object_graph.specs.declared.value.Value.TheVariants.{Int, Undefined, Ref}
use Rattle.object_graph.specs.declared.object.Object.{Object}
use Rattle.object_graph.specs.declared.object.Object.TheVariants as kind
use Rattle.object_graph.specs.declared.object.Field.{Field}
use Rattle.object_graph.specs.declared.object.Entry.{Entry}
use Rattle.object_graph.specs.Reach.{is_marked, refers_to, is_number, links, is_linked}
use Rattle.object_graph.proofs.Marking.{is_marked-get_or}
use Rattle.object_graph.proofs.Rounds.{marked_within}
use Rattle.graph_laws.specs.ReachLaws.{LinksTo}

-- a value that passes the test of a reference is that reference
pub Ref-refers_to : (number : ℕ) (value : Value) → refers_to number value ≡ true → value ≡ Ref number
Ref-refers_to number (Int v) refers = absurd (cc)
Ref-refers_to number Undefined refers = absurd (cc)
Ref-refers_to number (Ref other) refers = ap (λ n. Ref n) (eqb-true other number refers)

-- and that reference passes the test
pub refers_to-Ref : (number : ℕ) (value : Value) → value ≡ Ref number → refers_to number value ≡ true
refers_to-Ref number value is = ap (refers_to number) is ∙ eq-eqb number number refl

-- a prototype that passes the test of a number is the object of that number
Some-is_number : (number : ℕ) (proto : Option ℕ) → is_number number proto ≡ true → proto ≡ Some number
Some-is_number number None is = absurd (cc)
Some-is_number number (Some other) is = ap (λ n. Some n) (eqb-true other number is)

-- an object links to what the laws say that it links to, where these are marked
pub links-LinksTo : (marks : List Bool) (object : Object) (number : ℕ) → LinksTo (is_marked marks) object number
    → links marks object number ≡ true
links-LinksTo marks (kind.Plain cap proto fields) number (inl is) =
    or_left (is_number number proto) (list_any (λ (f : Field). refers_to number f.value) fields)
    (ap (is_number number) is ∙ eq-eqb number number refl)
links-LinksTo marks (kind.Plain cap proto fields) number (inr (field, there, is)) =
    or_right (is_number number proto) (list_any (λ (f : Field). refers_to number f.value) fields)
    (list_any-from_Any (λ (f : Field). refers_to number f.value) fields
    (there.0, field, there.1, there.2, refers_to-Ref number field.value is))
links-LinksTo marks (kind.List elements) number there =
    list_any-from_Any (refers_to number) elements
    (there.0, Ref number, there.1, there.2, refers_to-Ref number (Ref number) refl)
links-LinksTo marks (kind.Weak entries) number (entry, there, key, is) =
    let refers = refers_to-Ref number entry.value is in
    let passes = and_from (is_marked marks entry.key) (refers_to number entry.value) key refers in
    list_any-from_Any (λ (e : Entry). is_marked marks e.key && refers_to number e.value) entries
    (there.0, entry, there.1, there.2, passes)

-- and to nothing else, where all that is marked is inside
pub LinksTo-links : (marks : List Bool) (inside : ℕ → Bool)
    → ((number : ℕ) → is_marked marks number ≡ true → inside number ≡ true)
    → (object : Object) (number : ℕ) → links marks object number ≡ true → LinksTo inside object number
LinksTo-links marks inside has (kind.Plain cap proto fields) number linked =
    let by_field = list_any (λ (f : Field). refers_to number f.value) fields in
    elim (or_cases (is_number number proto) by_field linked) [
      | inl is ↦ inl (Some-is_number number proto is)
      | inr any ↦
          let at = Any-from_list_any (λ (f : Field). refers_to number f.value) fields any in
          inr (at.1, (at.0, at.2, at.3), Ref-refers_to number at.1.value at.4)
    ]
LinksTo-links marks inside has (kind.List elements) number linked =
    let at = Any-from_list_any (refers_to number) elements linked in
    let is = Ref-refers_to number at.1 at.4 in
    (at.0, at.2, ap (λ d. get_or elements at.0 d) (sym is) ∙ at.3 ∙ is)
LinksTo-links marks inside has (kind.Weak entries) number linked =
    let at = Any-from_list_any (λ (e : Entry). is_marked marks e.key && refers_to number e.value) entries linked in
    let parts = and_parts (is_marked marks at.1.key) (refers_to number at.1.value) at.4 in
    (at.1, (at.0, at.2, at.3), has at.1.key parts.0, Ref-refers_to number at.1.value parts.1)

-- what a marked object links to is linked
pub is_linked-by : (objects : List Object) (marks : List Bool) (holder number : ℕ) (object : Object)
    → slice_get objects holder ≡ Some object → is_marked marks holder ≡ true → links marks object number ≡ true
    → is_linked objects marks number ≡ true
is_linked-by objects marks holder number object there marked linked =
    let d : Bool × Object = (false, object) in
    let in_objects : holder < length objects = slice_get_within objects holder object there in
    let in_marks : holder < length marks = marked_within marks holder marked in
    let pair = get_or (zip marks objects) holder d in
    let here = get_or-zip marks objects holder d in_marks in_objects in
    let first : pair.0 ≡ true =
    ap (λ (p : Bool × Object). p.0) here ∙ sym (is_marked-get_or marks holder) ∙ marked in
    let second : pair.1 ≡ object =
    ap (λ (p : Bool × Object). p.1) here ∙ get_or_from_slice_get objects holder object object there in
    let passes = and_from pair.0 (links marks pair.1 number) first (ap (λ o. links marks o number) second ∙ linked) in
    let within : holder < length (zip marks objects) = omega (arith, length-zip marks objects) in
    list_any_at (λ (p : Bool × Object). p.0 && links marks p.1 number) (zip marks objects) holder d within passes

-- to what is linked a marked object links
pub by-is_linked : (objects : List Object) (marks : List Bool) (number : ℕ) → is_linked objects marks number ≡ true
    → (holder : ℕ) × (object : Object) × (slice_get objects holder ≡ Some object) × (is_marked marks holder ≡ true)
    × (links marks object number ≡ true)
by-is_linked objects marks number linked =
    let test = λ (p : Bool × Object). p.0 && links marks p.1 number in
    let at = Any-from_list_any test (zip marks objects) linked in
    let parts = and_parts at.1.0 (links marks at.1.1 number) at.4 in
    let in_objects : at.0 < length objects = omega (arith, length-zip marks objects, at.2) in
    let in_marks : at.0 < length marks = omega (arith, length-zip marks objects, at.2) in
    let here = sym (get_or-zip marks objects at.0 at.1 in_marks in_objects) ∙ at.3 in
    let holds : get_or objects at.0 at.1.1 ≡ at.1.1 = ap (λ (p : Bool × Object). p.1) here in
    let flag : get_or marks at.0 at.1.0 ≡ at.1.0 = ap (λ (p : Bool × Object). p.0) here in
    let unmarked = get_or_default marks at.0 false at.1.0 in_marks in (
      at.0,
      at.1.1,
      slice_get-get_or objects at.0 at.1.1 in_objects ∙ ap (λ o. Some o) holds,
      is_marked-get_or marks at.0 ∙ unmarked ∙ flag ∙ parts.0,
      parts.1,
    )
