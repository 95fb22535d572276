-- Prototypes stay in order where objects keep theirs.
use Rattle.std.proofs.Common.{◌≡◌, ℕ, zero, suc, List, [], ◌∷◌, ◌++◌, set, Option, Some, None}
use Rattle.std.proofs.Common.{refl, sym, ap, ◌∙◌}
use Rattle.std.specs.Prelude.{slice_get, option_and_then}
use Rattle.std.proofs.lemmas.Option.{none-some, same_Some}
use Rattle.object_graph.specs.declared.object.Object.{Object}
use Rattle.object_graph.specs.Graphs.{PlainObject, as_plain}
use Rattle.object_graph.specs.Prototypes.{proto_in, proto_of, after_protos, IsPlainNumber, AreProtos}

-- two steps from what is found agree where they agree for each
then_same : (f g : ℕ → Option ℕ) → ((n : ℕ) → f n ≡ g n) → (found : Option ℕ)
    → option_and_then f found ≡ option_and_then g found
then_same f g same None = refl
then_same f g same (Some n) = same n

-- where objects have the same prototypes, so many of them lead to the same one
after_same : (old new : List Object) → ((n : ℕ) → proto_of new n ≡ proto_of old n)
    → (k n : ℕ) → after_protos new k n ≡ after_protos old k n
after_same old new same zero n = refl
after_same old new same (suc k) n =
    ap (λ found. option_and_then (after_protos new k) found) (same n)
    ∙ then_same (after_protos new k) (after_protos old k) (after_same old new same k) (proto_of old n)

-- prototypes stay in order where objects have the same ones, and plain objects stay plain
pub protos_kept : (old new : List Object) → ((n : ℕ) → proto_of new n ≡ proto_of old n)
    → ((n : ℕ) → IsPlainNumber old n → IsPlainNumber new n) → AreProtos old → AreProtos new
protos_kept old new same kept are = record {
  plain = λ n p is. kept p (are.plain n p (sym (same n) ∙ is));
  no_ring = λ k n ring. are.no_ring k n (sym (after_same old new same (suc k) n) ∙ ring);
}

-- an object more that has no prototype leaves those of all
pub proto_push : (objects : List Object) (object : Object) → proto_in object ≡ None
    → (n : ℕ) → proto_of (objects ++ object ∷ []) n ≡ proto_of objects n
proto_push [] object bare zero = bare
proto_push [] object bare (suc n) = refl
proto_push (first ∷ objects) object bare zero = refl
proto_push (first ∷ objects) object bare (suc n) = proto_push objects object bare n

-- what was plain is plain with an object more
plain_push : (objects : List Object) (object : Object) (m n : ℕ) (plain : PlainObject)
    → option_and_then (as_plain m) (slice_get objects n) ≡ Some plain
    → option_and_then (as_plain m) (slice_get (objects ++ object ∷ []) n) ≡ Some plain
plain_push [] object m n plain is = absurd (none-some plain is)
plain_push (first ∷ objects) object m zero plain is = is
plain_push (first ∷ objects) object m (suc n) plain is = plain_push objects object m n plain is

-- prototypes stay in order with an object more that has none
pub protos_push : (objects : List Object) (object : Object) → proto_in object ≡ None → AreProtos objects
    → AreProtos (objects ++ object ∷ [])
protos_push objects object bare are =
    protos_kept objects (objects ++ object ∷ []) (proto_push objects object bare)
    (λ n is. (is.0, plain_push objects object n n is.0 is.1)) are

-- the one object is plain where the other is
abbrev pub StaysPlain : Object → Object → Type 0
StaysPlain old new =
    (m : ℕ) (was : PlainObject) → as_plain m old ≡ Some was → (is : PlainObject) × (as_plain m new ≡ Some is)

-- the one object has the prototype of the other, and is plain where that is
pub record KeepsProto (old new : Object) : Type 0 where
  pub same : proto_in new ≡ proto_in old
  pub plain : StaysPlain old new

-- an object that keeps the prototype, in the place of another, leaves those of all
pub proto_set : (objects : List Object) (number : ℕ) (old new : Object) → slice_get objects number ≡ Some old
    → proto_in new ≡ proto_in old → (n : ℕ) → proto_of (set objects number new) n ≡ proto_of objects n
proto_set [] number old new there same n = refl
proto_set (first ∷ objects) zero old new there same zero = same ∙ ap proto_in (sym (same_Some first old there))
proto_set (first ∷ objects) zero old new there same (suc n) = refl
proto_set (first ∷ objects) (suc number) old new there same zero = refl
proto_set (first ∷ objects) (suc number) old new there same (suc n) = proto_set objects number old new there same n

-- what was plain stays plain
plain_set : (objects : List Object) (number : ℕ) (old new : Object) → slice_get objects number ≡ Some old
    → StaysPlain old new → (m n : ℕ) (was : PlainObject)
    → option_and_then (as_plain m) (slice_get objects n) ≡ Some was
    → (is : PlainObject) × (option_and_then (as_plain m) (slice_get (set objects number new) n) ≡ Some is)
plain_set [] number old new there keeps m n was is = absurd (none-some was is)
plain_set (first ∷ objects) zero old new there keeps m zero was is =
    keeps m was (ap (as_plain m) (sym (same_Some first old there)) ∙ is)
plain_set (first ∷ objects) zero old new there keeps m (suc n) was is = (was, is)
plain_set (first ∷ objects) (suc number) old new there keeps m zero was is = (was, is)
plain_set (first ∷ objects) (suc number) old new there keeps m (suc n) was is =
    plain_set objects number old new there keeps m n was is

-- so the objects that were plain are plain
pub plain_numbers_stay : (objects : List Object) (number : ℕ) (old new : Object)
    → slice_get objects number ≡ Some old → StaysPlain old new
    → (n : ℕ) → IsPlainNumber objects n → IsPlainNumber (set objects number new) n
plain_numbers_stay objects number old new there keeps n is =
    plain_set objects number old new there keeps n n is.0 is.1

-- prototypes stay in order where an object that keeps its own comes in the place of another
pub protos_set : (objects : List Object) (number : ℕ) (old new : Object) → slice_get objects number ≡ Some old
    → KeepsProto old new → AreProtos objects → AreProtos (set objects number new)
protos_set objects number old new there keeps are =
    protos_kept objects (set objects number new) (proto_set objects number old new there keeps.same)
    (plain_numbers_stay objects number old new there keeps.plain) are
