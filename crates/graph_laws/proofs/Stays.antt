-- What a command that is carried out leaves as it was.
use Rattle.std.proofs.Common.{◌≡◌, ℕ, List, [], ◌∷◌, ◌++◌, length, take, set, Option, Some, None, refl, sym, ap, ◌∙◌}
use Rattle.std.proofs.Common.{subst, arith, length-append, length-set, inl, inr}
use Rattle.std.specs.Prelude.{slice_get}
use Rattle.std.proofs.lemmas.Bool.{cases_eq}
use Rattle.std.proofs.lemmas.List.{take_all}
use Rattle.std.proofs.lemmas.Option.{same_Some, slice_get_within}
use Rattle.heap_command.specs.declared.command.Command.{Command}
use Rattle.heap_command.specs.declared.command.Command.TheVariants.{Scavenge, Mark, Finish, Gc}
use Rattle.object_graph.specs.declared.value.Value.TheVariants.{Ref}
use Rattle.object_graph.specs.declared.object.Object.{Object}
use Rattle.object_graph.specs.declared.object.Object.TheVariants.{Plain, List as ListOf, Weak}
use Rattle.object_graph.specs.declared.path.Path.{Path}
use Rattle.object_graph.specs.Graphs.{Graph}
use Rattle.object_graph.specs.Prototypes.{proto_in, proto_of}
use Rattle.object_graph.specs.Meaning.{Limits, done, meaning}
use Rattle.object_graph.proofs.Lists.{slice_get-push, slice_get-set_same, slice_get-set_other}
use Rattle.object_graph.proofs.Leads.{Leads}
use Rattle.graph_laws.specs.Laws.{with_other_proto}
use Rattle.graph_laws.specs.Laws.{MayChange, SameKind, ObjectsKept, ObjectsStay, PathsStay, CollectionsChangeNothing}
use Rattle.graph_laws.proofs.Changes.{Changes, LeavesRest, binds, makes, puts, changed}
use Rattle.graph_laws.proofs.KeptProtos.{proto_push, proto_set}

-- a command that is carried out changes what its meaning changes
carried_out : (limits : Limits) (names : List (List ℕ)) (graph : Graph) (command : Command)
    (after : Graph) (text : List ℕ)
    → meaning limits names graph command ≡ done after text → Changes graph command after
carried_out limits names graph command after text is =
    subst (Leads (Changes graph command)) is (changed limits names graph command)

-- a change leaves the paths the first ones
paths_first : (graph : Graph) (command : Command) (after : Graph) → Changes graph command after
    → take (length graph.paths) after.paths ≡ graph.paths
paths_first graph command after (binds bindings) = take_all (length graph.paths) graph.paths (omega arith)
paths_first graph command after (makes x object bare) = take_all (length graph.paths) graph.paths (omega arith)
paths_first graph command after (puts number old new paths may there kind leaves first) = first

-- the paths stay the first ones
pub paths_stay : PathsStay
paths_stay limits names graph command after text is =
    paths_first graph command after (carried_out limits names graph command after text is)

-- an object is of its own kind
same_kind-refl : (object : Object) → SameKind object object
same_kind-refl (Plain cap proto fields) = refl
same_kind-refl (ListOf elements) = tt
same_kind-refl (Weak entries) = tt

-- with its own prototype an object is what it was
own_proto : (object : Object) → with_other_proto (proto_in object) object ≡ object
own_proto (Plain cap proto fields) = refl
own_proto (ListOf elements) = refl
own_proto (Weak entries) = refl

-- so where it stands, it stands with its own prototype
same_proto : {found : Option Object} (object : Object) → found ≡ Some object
    → found ≡ Some (with_other_proto (proto_in object) object)
same_proto object is = is ∙ ap (λ one. Some one) (sym (own_proto object))

-- the objects are kept where none changes
kept_all : (graph : Graph) (command : Command) (after : Graph) → after.objects ≡ graph.objects
    → ObjectsKept graph command after
kept_all graph command after same =
    let kept = λ (number : ℕ) (object : Object) (there : slice_get graph.objects number ≡ Some object).
    ap (λ objects. slice_get objects number) same ∙ there in
    record {
      none_lost = omega (arith, ap length same);
      kinds = λ number object there. (object, kept number object there, same_kind-refl object);
      others = λ number object there no. kept number object there;
      protos = λ number no. ap (λ objects. proto_of objects number) same;
      rest = λ gives number object there. (proto_in object, same_proto object (kept number object there));
    }

-- the objects are kept where one is added
kept_push : (graph : Graph) (command : Command) (after : Graph) (added : Object) → proto_in added ≡ None
    → after.objects ≡ graph.objects ++ added ∷ [] → ObjectsKept graph command after
kept_push graph command after added bare is =
    let kept = λ (number : ℕ) (object : Object) (there : slice_get graph.objects number ≡ Some object).
    ap (λ objects. slice_get objects number) is ∙ slice_get-push graph.objects added number object there in
    record {
      none_lost = omega (arith, ap length is, length-append graph.objects (added ∷ []));
      kinds = λ number object there. (object, kept number object there, same_kind-refl object);
      others = λ number object there no. kept number object there;
      protos = λ number no. ap (λ objects. proto_of objects number) is ∙ proto_push graph.objects added bare number;
      rest = λ gives number object there. (proto_in object, same_proto object (kept number object there));
    }

-- each object keeps its kind where one of its kind is put in the place of another
kind_put : (objects : List Object) (place : ℕ) (old new : Object) → slice_get objects place ≡ Some old
    → SameKind old new → (number : ℕ) (object : Object) → slice_get objects number ≡ Some object
    → (later : Object) × (slice_get (set objects place new) number ≡ Some later) × SameKind object later
kind_put objects place old new at kind number object there =
    elim (cases_eq place number) [
      | inl same ↦
          let was = same_Some old object (sym at ∙ ap (λ n. slice_get objects n) same ∙ there) in
          let put = slice_get-set_same objects place new (slice_get_within objects place old at) in
          (new, ap (λ n. slice_get (set objects place new) n) (sym same) ∙ put, subst (λ o. SameKind o new) was kind)
      | inr apart ↦
          let kept = slice_get-set_other objects place number new (λ same. apart (sym same)) in
          (object, kept ∙ there, same_kind-refl object)
    ]

-- all else of each object is kept where one gets another prototype
rest_put : (objects : List Object) (place : ℕ) (old new : Object) (other : Option ℕ)
    → slice_get objects place ≡ Some old → new ≡ with_other_proto other old
    → (number : ℕ) (object : Object) → slice_get objects number ≡ Some object
    → (later : Option ℕ) × (slice_get (set objects place new) number ≡ Some (with_other_proto later object))
rest_put objects place old new other at is number object there =
    elim (cases_eq place number) [
      | inl same ↦
          let was = same_Some old object (sym at ∙ ap (λ n. slice_get objects n) same ∙ there) in
          let put = slice_get-set_same objects place new (slice_get_within objects place old at) in
          let now : new ≡ with_other_proto other object = is ∙ ap (with_other_proto other) was in
          (other, ap (λ n. slice_get (set objects place new) n) (sym same) ∙ put ∙ ap (λ o. Some o) now)
      | inr apart ↦
          let kept = slice_get-set_other objects place number new (λ same. apart (sym same)) in
          (proto_in object, same_proto object (kept ∙ there))
    ]

-- the objects are kept where one is put in the place of another
kept_put : (graph : Graph) (command : Command) (place : ℕ) (old new : Object) (paths : List Path)
    → MayChange graph command place → slice_get graph.objects place ≡ Some old → SameKind old new
    → LeavesRest command old new
    → ObjectsKept graph command (record graph { objects = set graph.objects place new; paths = paths })
kept_put graph command place old new paths may at kind leaves = record {
  none_lost = omega (arith, length-set graph.objects place new);
  kinds = kind_put graph.objects place old new at kind;
  others = λ number object there no.
      let apart : number ≡ place → ⊥ = λ same. no (may ∙ ap (λ n. Some (Ref n)) (sym same)) in
      slice_get-set_other graph.objects place number new apart ∙ there;
  protos = λ number no. proto_set graph.objects place old new at (leaves.proto no) number;
  rest = λ gives.
      let other = leaves.rest gives in
      rest_put graph.objects place old new other.0 at other.1;
}

-- the objects are kept at each change
objects_kept : (graph : Graph) (command : Command) (after : Graph) → Changes graph command after
    → ObjectsKept graph command after
objects_kept graph command after (binds bindings) = kept_all graph command (record graph { bindings = bindings }) refl
objects_kept graph command after (makes x object bare) = kept_push graph command after object bare refl
objects_kept graph command after (puts number old new paths may there kind leaves first) =
    kept_put graph command number old new paths may there kind leaves

-- the objects stay
pub objects_stay : ObjectsStay
objects_stay limits names graph command after text is =
    objects_kept graph command after (carried_out limits names graph command after text is)

-- a collection changes nothing
pub collections_change_nothing : CollectionsChangeNothing
collections_change_nothing limits names graph Scavenge is = refl
collections_change_nothing limits names graph Mark is = refl
collections_change_nothing limits names graph Finish is = refl
collections_change_nothing limits names graph Gc is = refl
collections_change_nothing limits names graph _ is = elim is [ ]
