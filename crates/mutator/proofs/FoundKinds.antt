-- Objects of one kind by the shapes of their cells: what the value refers to whose object was found.
use Rattle.std.proofs.Common.{◌≡◌, ◌≢◌, ℕ, ◌≤◌, ◌<◌, List, Option, Some, None, slice_get, refl, sym, ◌∙◌, ap, subst}
use Rattle.std.proofs.Common.{arith}
use Rattle.std.specs.Prelude.{IsTrue, option_and_then}
use Rattle.std.proofs.lemmas.Option.{none-some}
use Rattle.tagged_word.specs.Shapes.{first_path_shape, list_shape, weak_shape}
use Rattle.heap_model.specs.Types.{Value, Object, Path, Header}
use Rattle.object_graph.specs.declared.value.Value.TheVariants.{Int, Undefined, Ref}
use Rattle.object_graph.specs.declared.object.Object.TheVariants.{Plain, Weak, List as ListOf}
use Rattle.object_graph.specs.Graphs.{Graph, object_in, found_at}
use Rattle.object_graph.specs.Graphs.{as_plain, as_list, as_weak, plain_at, list_at, weak_at}
use Rattle.object_graph.specs.Reach.{is_marked, reach}
use Rattle.heap_model.specs.Slots.{IsPlace}
use Rattle.write_barrier.specs.MutatorState.{Mutator, heap_of}
use Rattle.mutator.specs.declared.lookups.Found.{Found}
use Rattle.mutator.specs.Reading.{HasShapeOf, FindsObject, IsFoundObject, IsFound, IsFoundList, IsFoundWeak}
use Rattle.mutator.specs.Reading.{FindsHeader, FindsHeaded}

-- a value that refers to no object refers to none of any kind
none_found : {Kind : Type 0} (as_kind : ℕ → Object → Option Kind) (objects : List Object) (value : Value)
    → object_in value ≡ None → found_at as_kind objects value ≡ None
none_found as_kind objects (Int v) is = refl
none_found as_kind objects Undefined is = refl
none_found as_kind objects (Ref number) is = absurd (none-some number (sym is))

-- so it is where no object was found
pub refers_to_no_object : {Kind : Type 0} (as_kind : ℕ → Object → Option Kind) (main : Mutator) (graph : Graph)
    (value : Value) (found : Option Found) → ((one : Found) → found ≡ Some one → ⊥)
    → FindsObject main graph value found → found_at as_kind graph.objects value ≡ None
refers_to_no_object as_kind main graph value None apart finds = none_found as_kind graph.objects value finds
refers_to_no_object as_kind main graph value (Some one) apart finds = absurd (apart one refl)

-- an object of a kind, as which it is read
record IsRead {Kind : Type 0} (as_kind : ℕ → Object → Option Kind) (number_of : Kind → ℕ) (object_of : Kind → Object)
    (number : ℕ) (what : Object) : Type 0 where
  one : Kind
  numbered : number_of one ≡ number
  is : what ≡ object_of one
  read : as_kind number what ≡ Some one

-- the object of a kind to which a value refers, and whose cell stands at an address
record RefersTo {Kind : Type 0} (as_kind : ℕ → Object → Option Kind) (number_of : Kind → ℕ) (object_of : Kind → Object)
    (main : Mutator) (graph : Graph) (value : Value) (at : ℕ) : Type 0 where
  one : Kind
  is : value ≡ Ref (number_of one)
  refers : found_at as_kind graph.objects value ≡ Some one
  place : IsPlace (heap_of main) (number_of one) at
  object : slice_get graph.objects (number_of one) ≡ Some (object_of one)
  reached : IsTrue (is_marked (reach graph) (number_of one))

module _ {main : Mutator} {graph : Graph} {value : Value} {found : Found}
    (object : IsFoundObject main graph value found) where
  -- the value refers to an object of the kind, where the object that was found is one
  refers_to : {Kind : Type 0} (as_kind : ℕ → Object → Option Kind) (number_of : Kind → ℕ) (object_of : Kind → Object)
      → IsRead as_kind number_of object_of object.number object.what
      → RefersTo as_kind number_of object_of main graph value found.at
  refers_to as_kind number_of object_of of = record {
    one = of.one;
    is = object.is ∙ ap (λ n. Ref n) (sym of.numbered);
    refers = ap (found_at as_kind graph.objects) object.is ∙ ap (option_and_then (as_kind object.number)) object.there
        ∙ of.read;
    place = subst (λ n. IsPlace (heap_of main) n found.at) (sym of.numbered) object.place;
    object = ap (slice_get graph.objects) of.numbered ∙ object.there ∙ ap (λ what. Some what) of.is;
    reached = subst (λ n. IsTrue (is_marked (reach graph) n)) (sym of.numbered) object.reached;
  }

  -- and to none where it is none
  refers_to_none : {Kind : Type 0} (as_kind : ℕ → Object → Option Kind) → as_kind object.number object.what ≡ None
      → found_at as_kind graph.objects value ≡ None
  refers_to_none as_kind none =
      ap (found_at as_kind graph.objects) object.is ∙ ap (option_and_then (as_kind object.number)) object.there ∙ none

-- an object with the shape of a path is plain
some_plain : (paths : List Path) (number shape : ℕ) (what : Object) → HasShapeOf paths what shape
    → first_path_shape ≤ shape
    → IsRead as_plain (λ one. one.number) (λ one. Plain one.cap one.proto one.fields) number what
some_plain paths number shape (Plain cap proto fields) shaped from =
    record {
      one = record { number = number; cap = cap; proto = proto; fields = fields };
      numbered = refl;
      is = refl;
      read = refl;
    }
some_plain paths number shape (ListOf elements) shaped from = absurd (omega (arith, shaped, from))
some_plain paths number shape (Weak entries) shaped from = absurd (omega (arith, shaped, from))

-- one with a shape before those of paths is not
none_plain : (paths : List Path) (number shape : ℕ) (what : Object) → HasShapeOf paths what shape
    → shape < first_path_shape → as_plain number what ≡ None
none_plain paths number shape (Plain cap proto fields) shaped below =
    absurd (omega (arith, shaped.is_shape.from, below))
none_plain paths number shape (ListOf elements) shaped below = refl
none_plain paths number shape (Weak entries) shaped below = refl

-- an object with the shape of lists is a list
some_list : (paths : List Path) (number shape : ℕ) (what : Object) → HasShapeOf paths what shape → shape ≡ list_shape
    → IsRead as_list (λ one. one.number) (λ one. ListOf one.elements) number what
some_list paths number shape (Plain cap proto fields) shaped is = absurd (omega (arith, shaped.is_shape.from, is))
some_list paths number shape (ListOf elements) shaped is =
    record { one = record { number = number; elements = elements }; numbered = refl; is = refl; read = refl }
some_list paths number shape (Weak entries) shaped is = absurd (omega (arith, shaped, is))

-- one with another shape is not
none_list : (paths : List Path) (number shape : ℕ) (what : Object) → HasShapeOf paths what shape → shape ≢ list_shape
    → as_list number what ≡ None
none_list paths number shape (Plain cap proto fields) shaped apart = refl
none_list paths number shape (ListOf elements) shaped apart = absurd (apart shaped)
none_list paths number shape (Weak entries) shaped apart = refl

-- an object with the shape of weak maps is a weak map
some_weak : (paths : List Path) (number shape : ℕ) (what : Object) → HasShapeOf paths what shape → shape ≡ weak_shape
    → IsRead as_weak (λ one. one.number) (λ one. Weak one.entries) number what
some_weak paths number shape (Plain cap proto fields) shaped is = absurd (omega (arith, shaped.is_shape.from, is))
some_weak paths number shape (ListOf elements) shaped is = absurd (omega (arith, shaped, is))
some_weak paths number shape (Weak entries) shaped is =
    record { one = record { number = number; entries = entries }; numbered = refl; is = refl; read = refl }

-- one with another shape is not
none_weak : (paths : List Path) (number shape : ℕ) (what : Object) → HasShapeOf paths what shape → shape ≢ weak_shape
    → as_weak number what ≡ None
none_weak paths number shape (Plain cap proto fields) shaped apart = refl
none_weak paths number shape (ListOf elements) shaped apart = refl
none_weak paths number shape (Weak entries) shaped apart = absurd (apart shaped)

module _ {main : Mutator} {graph : Graph} {value : Value} {found : Found}
    (object : IsFoundObject main graph value found) where
  -- the plain object was found, where the shape is that of a path
  pub finds_plain : first_path_shape ≤ found.shape → IsFound main graph value found
  unfolding refers_to
  finds_plain from =
      let of = some_plain main.paths object.number found.shape object.what object.shaped from in
      let to = refers_to object as_plain (λ one. one.number) (λ one. Plain one.cap one.proto one.fields) of in
      record {
        plain = to.one;
        is = to.is;
        refers = to.refers;
        stands = record { place = to.place; object = to.object; reached = to.reached };
        shaped = subst (λ what. HasShapeOf main.paths what found.shape) of.is object.shaped;
      }

  -- where it is not, the value refers to none
  pub finds_no_plain : found.shape < first_path_shape → plain_at graph.objects value ≡ None
  finds_no_plain below =
      refers_to_none object as_plain (none_plain main.paths object.number found.shape object.what object.shaped below)

  -- the list was found, where the shape is that of lists
  pub finds_list : found.shape ≡ list_shape → IsFoundList main graph value found.at
  finds_list is =
      let to = refers_to object as_list (λ one. one.number) (λ one. ListOf one.elements)
      (some_list main.paths object.number found.shape object.what object.shaped is) in
      record {
        list = to.one;
        is = to.is;
        refers = to.refers;
        stands = record { place = to.place; object = to.object; reached = to.reached };
      }

  -- where it is not, the value refers to none
  pub finds_no_list : found.shape ≢ list_shape → list_at graph.objects value ≡ None
  finds_no_list apart =
      refers_to_none object as_list (none_list main.paths object.number found.shape object.what object.shaped apart)

  -- the weak map was found, where the shape is that of weak maps
  pub finds_weak : found.shape ≡ weak_shape → IsFoundWeak main graph value found.at
  finds_weak is =
      let to = refers_to object as_weak (λ one. one.number) (λ one. Weak one.entries)
      (some_weak main.paths object.number found.shape object.what object.shaped is) in
      record {
        weak = to.one;
        is = to.is;
        refers = to.refers;
        stands = record { place = to.place; object = to.object; reached = to.reached };
      }

  -- where it is not, the value refers to none
  pub finds_no_weak : found.shape ≢ weak_shape → weak_at graph.objects value ≡ None
  finds_no_weak apart =
      refers_to_none object as_weak (none_weak main.paths object.number found.shape object.what object.shaped apart)

-- an object was found to be plain by its header, where the shape there is that of a path
pub headed_plain : {main : Mutator} {graph : Graph} {sought : Option Value} {at : ℕ} {header : Header}
    → FindsHeader main graph sought at header → first_path_shape ≤ header.shape
    → FindsHeaded main graph sought at header
headed_plain finds from =
    record { value = finds.value; is = finds.is; found = finds_plain finds.found from; headed = finds.headed }
