-- Fields that are sought along prototypes: how many objects are left to look at, and what is held in the end.
use Rattle.std.proofs.Common.{◌≡◌, ℕ, zero, suc, ◌+◌, ◌-◌, ◌<◌, true, List, Option, Some, None, refl, ap, sym, ◌∙◌}
use Rattle.std.proofs.Common.{Bool, false, subst, arith}
use Rattle.std.specs.Prelude.{unwrap_or, option_and_then}
use Rattle.std.specs.Option.{option_or}
use Rattle.object_graph.specs.declared.value.Value.TheVariants.{Undefined}
use Rattle.object_graph.specs.declared.object.Object.{Object}
use Rattle.object_graph.specs.Objects.{field_value}
use Rattle.object_graph.specs.Graphs.{Graph, PlainObject}
use Rattle.object_graph.specs.Prototypes.{prototypes_most, field_along, proto_at}
use Rattle.handle_roots.specs.declared.held.Held.TheVariants as held
use Rattle.handle_roots.specs.Roots.{with_root}
use Rattle.heap_model.specs.Types.{Value}
use Rattle.heap_model.specs.Showing.{ShowsHeld}
use Rattle.write_barrier.specs.Seats.{heap_words}
use Rattle.write_barrier.specs.MutatorState.{Mutator, heap_of, MainShows, with_variable}
use Rattle.object_cells.specs.PlainObjects.{IsPlainAt, IsShownPlain}
use Rattle.shape_change.specs.FieldChanges.{HoldsValue, value_along}
use Rattle.shape_change.specs.FieldsSought.{HoldsSought, HoldsFirst, field_in_first}
use Rattle.shape_change.specs.Prototypes.{FindsProto}

-- a field of the object itself is the one
pub own_along : (objects : List Object) (k : ℕ) (plain : PlainObject) (name : ℕ) (value : Value)
    → field_value plain.fields name ≡ Some value → field_along objects k plain name ≡ Some value
own_along objects zero plain name value is = is
own_along objects (suc k) plain name value is =
    ap (λ own. option_or own (option_and_then (λ next. field_along objects k next name) (proto_at objects plain))) is

-- where the object has none, and no prototype, there is none
pub none_along : (objects : List Object) (k : ℕ) (plain : PlainObject) (name : ℕ)
    → field_value plain.fields name ≡ None → proto_at objects plain ≡ None → field_along objects k plain name ≡ None
none_along objects zero plain name lacks last = lacks
none_along objects (suc k) plain name lacks last =
    ap (λ own. option_or own (option_and_then (λ next. field_along objects k next name) (proto_at objects plain))) lacks
    ∙ ap (option_and_then (λ next. field_along objects k next name)) last

-- where it has none, the field is sought from its prototype on
pub next_along : (objects : List Object) (k : ℕ) (plain next : PlainObject) (name : ℕ)
    → field_value plain.fields name ≡ None → proto_at objects plain ≡ Some next
    → field_along objects k plain name ≡ field_in_first objects k next name
next_along objects zero plain next name lacks to = lacks
next_along objects (suc k) plain next name lacks to =
    ap (λ own. option_or own (option_and_then (λ one. field_along objects k one name) (proto_at objects plain))) lacks
    ∙ ap (option_and_then (λ one. field_along objects k one name)) to

-- the object's own field of a name
abbrev pub own_field : ℕ → Graph → PlainObject → Option Value
own_field name graph plain = field_value plain.fields name

-- the field of the name in the first of as many objects as prototypes are looked at
abbrev pub first_field : ℕ → Graph → PlainObject → Option Value
first_field name graph plain = field_in_first graph.objects prototypes_most plain name

-- a variable holds what is sought of the plain object at the address, where there is something
abbrev pub HoldsOf : Mutator → Mutator → ℕ → ℕ → (Graph → PlainObject → Option Value) → Bool → Type 0
HoldsOf old new variable at sought found =
    (graph : Graph) (plain : PlainObject) → MainShows old graph → IsPlainAt old graph at plain
    → HoldsSought old new variable (sought graph plain) found

-- what is sought of the plain object at the address is not there, and nothing has changed
pub record FindsNone (old new : Mutator) (at : ℕ) (sought : Graph → PlainObject → Option Value) : Type 0 where
  pub none : (graph : Graph) (plain : PlainObject) → MainShows old graph → IsPlainAt old graph at plain
      → sought graph plain ≡ None
  pub same : new ≡ old

-- it was found
pub found_one : {start main new : Mutator} (variable at : ℕ) (sought : Graph → PlainObject → Option Value)
    {found : Bool} → main ≡ start → found ≡ true → HoldsOf main new variable at sought found
    → HoldsOf start new variable at sought true
found_one {start} {new = new} variable at sought {found} same is holds =
    subst (HoldsOf start new variable at sought) is
    (subst (λ (one : Mutator). HoldsOf one new variable at sought found) same holds)

-- or it was not
pub found_none : {start main new : Mutator} (variable at : ℕ) (sought : Graph → PlainObject → Option Value)
    {found : Bool} → main ≡ start → IsShownPlain start at → found ≡ false → HoldsOf main new variable at sought found
    → FindsNone start new at sought
found_none {start} {new = new} variable at sought {found} same shown is holds =
    let none : HoldsOf start new variable at sought false = subst (HoldsOf start new variable at sought) is
    (subst (λ (one : Mutator). HoldsOf one new variable at sought found) same holds) in
    record {
      none = λ graph plain shows there. (none graph plain shows there).0;
      same = (none shown.graph shown.plain shown.shows shown.is).1;
    }

-- a variable that holds a field of the object itself holds the value sought
pub own_held : {main new : Mutator} {variable : ℕ} (graph : Graph) (plain : PlainObject) (name : ℕ)
    → HoldsSought main new variable (field_value plain.fields name) true
    → HoldsValue main new variable (value_along graph plain name)
own_held {main} {new} {variable} graph plain name (value, is, holds) =
    subst (λ sought. HoldsValue main new variable (unwrap_or sought Undefined))
    (sym (own_along graph.objects prototypes_most plain name value is)) holds

-- a variable that holds a value that was found holds the value sought
pub sought_held : {main new : Mutator} {variable : ℕ} {sought : Option Value}
    → HoldsSought main new variable sought true → HoldsValue main new variable (unwrap_or sought Undefined)
sought_held {main} {new} {variable} (value, is, holds) =
    subst (λ one. HoldsValue main new variable (unwrap_or one Undefined)) (sym is) holds

-- so does one that holds undefined where nothing was found
pub undefined_held : {main new : Mutator} {variable : ℕ} {sought : Option Value} → sought ≡ None
    → new ≡ with_variable main variable held.Undefined
    → heap_words new.seat ≡ with_root main.seat.space (heap_words main.seat) variable held.Undefined
    → HoldsValue main new variable (unwrap_or sought Undefined)
undefined_held {main} {new} {variable} none becomes words = record {
  held = held.Undefined;
  shows = subst (λ one. ShowsHeld (heap_of main) held.Undefined (Some (unwrap_or one Undefined))) (sym none)
      ShowsHeld.undefined;
  fits = tt;
  is = becomes;
  heap = words;
}

-- where the object has none, a variable that holds what was sought from its prototype on holds the value sought
pub first_held : {main new : Mutator} {variable : ℕ} (graph : Graph) (plain next : PlainObject) (name : ℕ)
    → field_value plain.fields name ≡ None → proto_at graph.objects plain ≡ Some next
    → HoldsFirst main new variable graph next name → HoldsValue main new variable (value_along graph plain name)
first_held {main} {new} {variable} graph plain next name lacks to holds =
    subst (λ sought. HoldsValue main new variable (unwrap_or sought Undefined))
    (sym (next_along graph.objects prototypes_most plain next name lacks to)) holds

-- no prototype is found, so there is none
pub last_found : (main : Mutator) (graph : Graph) (plain : PlainObject) (found : Option ℕ)
    → ((next : ℕ) → found ≡ Some next → ⊥) → FindsProto main graph plain found → proto_at graph.objects plain ≡ None
last_found main graph plain None none finds = finds
last_found main graph plain (Some next) none finds = absurd (none next refl)

-- After so many turns the field is sought from the plain object at the address on. So many objects are left to look at,
-- and it is the first of them.
pub record IsSoughtFrom (main : Mutator) (graph : Graph) (plain : PlainObject) (name at turn : ℕ) : Type 0 where
  pub now : PlainObject
  pub is : IsPlainAt main graph at now
  pub left : ℕ
  pub turns : left + turn ≡ prototypes_most
  pub along : field_in_first graph.objects prototypes_most plain name ≡ field_in_first graph.objects left now name

-- so it is before the first turn
pub sought_at_first : {main : Mutator} {graph : Graph} {plain : PlainObject} {at : ℕ} (name : ℕ)
    → IsPlainAt main graph at plain → IsSoughtFrom main graph plain name at 0
sought_at_first {plain = plain} name is = record {
  now = plain;
  is = is;
  left = prototypes_most;
  turns = omega arith;
  along = refl;
}

-- so it is in each graph that is shown
abbrev pub IsSoughtAt : Mutator → ℕ → ℕ → ℕ → ℕ → Type 0
IsSoughtAt main first name at turn =
    (graph : Graph) (plain : PlainObject) → MainShows main graph → IsPlainAt main graph first plain
    → IsSoughtFrom main graph plain name at turn

-- the plain object from which the field is sought is shown
pub shown_now : {main : Mutator} (first name at turn : ℕ) → IsShownPlain main first
    → IsSoughtAt main first name at turn → IsShownPlain main at
shown_now first name at turn shown from =
    let now = from shown.graph shown.plain shown.shows shown.is in
    record { graph = shown.graph; plain = now.now; shows = shown.shows; is = now.is }

module _ {main : Mutator} {graph : Graph} {plain : PlainObject} {name at turn : ℕ}
    (from : IsSoughtFrom main graph plain name at turn) where
  -- what is sought is a field of the object, or else in as many objects fewer
  left_one : turn < prototypes_most → from.left ≡ suc (prototypes_most - suc turn)
  left_one more = omega (arith, from.turns, more)

  -- so many objects are left where one is, and the field is the object's or one of those that follow it
  one_more : turn < prototypes_most
      → field_in_first graph.objects prototypes_most plain name
      ≡ field_along graph.objects (prototypes_most - suc turn) from.now name
  one_more more = from.along ∙ ap (λ k. field_in_first graph.objects k from.now name) (left_one more)

  -- the object itself has it
  pub sought_own : {new : Mutator} {variable : ℕ} → turn < prototypes_most
      → HoldsSought main new variable (field_value from.now.fields name) true
      → HoldsSought main new variable (field_in_first graph.objects prototypes_most plain name) true
  sought_own more (value, is, holds) = (
    value,
    one_more more ∙ own_along graph.objects (prototypes_most - suc turn) from.now name value is,
    holds,
  )

  -- no object has it, where this one has not and has no prototype
  pub sought_last : turn < prototypes_most → field_value from.now.fields name ≡ None
      → proto_at graph.objects from.now ≡ None
      → field_in_first graph.objects prototypes_most plain name ≡ None
  sought_last more lacks last =
      one_more more ∙ none_along graph.objects (prototypes_most - suc turn) from.now name lacks last

  -- or it is sought from its prototype on
  pub sought_next : (next : ℕ) → turn < prototypes_most → field_value from.now.fields name ≡ None
      → FindsProto main graph from.now (Some next) → IsSoughtFrom main graph plain name next (turn + 1)
  sought_next next more lacks (proto, to, is) = record {
    now = proto;
    is = is;
    left = prototypes_most - suc turn;
    turns = omega (arith, more);
    along = one_more more ∙ next_along graph.objects (prototypes_most - suc turn) from.now proto name lacks to;
  }

  -- none has it where no object is left
  pub sought_out : turn ≡ prototypes_most → field_in_first graph.objects prototypes_most plain name ≡ None
  sought_out all =
      let none : from.left ≡ 0 = omega (arith, from.turns, all) in
      from.along ∙ ap (λ k. field_in_first graph.objects k from.now name) none
