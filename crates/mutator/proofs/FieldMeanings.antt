-- What `set`, `get` and `del` mean, where their variables and their object are known.
use Rattle.std.proofs.Common.{◌≡◌, ℕ, ◌≤◌, true, false, ◌&&◌, List, [], length, Option, Some, None, refl, ◌∙◌, ap}
use Rattle.std.proofs.Common.{arith, inl, inr, nat_le}
use Rattle.std.specs.Prelude.{is_none, unwrap_or}
use Rattle.std.proofs.lemmas.Bool.{cases_lt}
use Rattle.std.proofs.lemmas.Bool.Decides.{nat_tests}
use Rattle.std.specs.FinMap.{get}
use Rattle.heap_model.specs.Types.{Operand, Value, Field, Path, FaultWord}
use Rattle.mutator.specs.Reading.{LacksPlain}
use Rattle.heap_command.specs.declared.command.Command.TheVariants.{Set, Get, Del}
use Rattle.heap_command.specs.declared.command.FaultWord.TheVariants.{FieldsFull, ShapesFull}
use Rattle.object_graph.specs.declared.value.Value.TheVariants.{Undefined}
use Rattle.object_graph.specs.Objects.{field_value, with_field, without_field}
use Rattle.object_graph.specs.Paths.{path_of, with_path}
use Rattle.object_graph.specs.Graphs.{Graph, PlainObject, bind, value_of, as_plain}
use Rattle.object_graph.specs.Prototypes.{field_along, prototypes_most}
use Rattle.object_graph.specs.Meaning.{done, fault, given, unless, no_room_for, refill, reshape, reshape_if, meaning}
use Rattle.object_graph.specs.Invariants.{fields_most}
use Rattle.object_graph.specs.Limits.{ideal_limits, paths_most}
use Rattle.object_cells.specs.PlainObjects.{LacksFields, LacksPaths}
use Rattle.mutator.proofs.KnownObjects.{IsKnown}

-- where there may be the paths of the fields, the object has them
pub reshape_done : (graph : Graph) (plain : PlainObject) (fields : List Field) (paths : List Path)
    → with_path (Some paths_most) graph.paths (path_of plain.cap fields) ≡ Some paths
    → reshape ideal_limits graph plain fields ≡ done (refill graph plain fields paths) []
reshape_done graph plain fields paths added =
    ap (λ (found : Option (List Path)). given ShapesFull found (λ more. done (refill graph plain fields more) [])) added

-- and where not, that is the fault
pub reshape_full : (graph : Graph) (plain : PlainObject) (fields : List Field) → LacksPaths graph plain fields
    → reshape ideal_limits graph plain fields ≡ fault ShapesFull
reshape_full graph plain fields lacks =
    ap (λ (found : Option (List Path)). given ShapesFull found (λ more. done (refill graph plain fields more) [])) lacks

-- there are paths where they are not lacking
pub paths_there : (found : Option (List Path)) → (found ≡ None → ⊥) → (paths : List Path) × (found ≡ Some paths)
paths_there None lacks = absurd (lacks refl)
paths_there (Some paths) lacks = (paths, refl)

-- there is room for one more where the name is there, or there are few
pub room_by : (most : ℕ) (found : Option Value) (count : ℕ) → (found ≡ None → most ≤ count → ⊥)
    → (is_none found && nat_le most count) ≡ false
room_by most (Some value) count lacks = refl
room_by most None count lacks = elim (cases_lt count most) [
  | inl below ↦ grind (arith, nat_tests)
  | inr full ↦ absurd (lacks refl full)
]

-- there is none where the name is new and there are many
pub no_room_by : (most : ℕ) (found : Option Value) (count : ℕ) → found ≡ None → most ≤ count
    → (is_none found && nat_le most count) ≡ true
no_room_by most found count fresh full = ap (λ one. is_none one && nat_le most count) fresh ∙ full_test
  where
    full_test : nat_le most count ≡ true
    full_test = grind (arith, nat_tests)

module _ {graph : Graph} {x : ℕ} {target value : Value} {plain : PlainObject} (names : List (List ℕ)) (f : ℕ)
    (v : Operand) (known : IsKnown as_plain graph x target plain) (is : value_of graph v ≡ Some value) where
  -- a `set` whose variables and object are known
  set_known : meaning ideal_limits names graph (Set x f v)
      ≡ unless FieldsFull (no_room_for ideal_limits plain f) (reshape ideal_limits graph plain
      (with_field plain.fields f value))
  set_known = rw (known.bound, is, known.refers)

  -- where there is room for the field, it is written
  pub set_room : (LacksFields plain f → ⊥)
      → meaning ideal_limits names graph (Set x f v)
      ≡ reshape ideal_limits graph plain (with_field plain.fields f value)
  set_room few =
      set_known
      ∙ ap (λ test. unless FieldsFull test (reshape ideal_limits graph plain (with_field plain.fields f value)))
      (room_by fields_most (field_value plain.fields f) (length plain.fields)
      (λ fresh full. few (record { fresh = fresh; full = full })))

  -- where there is none, that is the fault
  pub set_full : LacksFields plain f → meaning ideal_limits names graph (Set x f v) ≡ fault FieldsFull
  set_full lacks =
      set_known
      ∙ ap (λ test. unless FieldsFull test (reshape ideal_limits graph plain (with_field plain.fields f value)))
      (no_room_by fields_most (field_value plain.fields f) (length plain.fields) lacks.fresh lacks.full)

-- a `set` whose variable refers to no plain object
pub set_lacks : (graph : Graph) {value : Value} {word : FaultWord} (names : List (List ℕ)) (x f : ℕ) (v : Operand)
    → LacksPlain graph (get graph.bindings x) word → value_of graph v ≡ Some value
    → meaning ideal_limits names graph (Set x f v) ≡ fault word
set_lacks graph {value} {word} names x f v lacks is = elim lacks [
  | inl (unbound, of_unbound) ↦ rw (unbound, of_unbound)
  | inr (target, bound, apart, of_apart) ↦ rw (bound, is, apart, of_apart)
]

-- a `del` whose variable and object are known
pub del_known : {graph : Graph} {x : ℕ} {target : Value} {plain : PlainObject} (names : List (List ℕ)) (f : ℕ)
    → IsKnown as_plain graph x target plain
    → meaning ideal_limits names graph (Del x f)
    ≡ reshape_if ideal_limits graph plain (field_value plain.fields f) (without_field plain.fields f)
del_known names f known = rw (known.bound, known.refers)

-- a field that is read
pub get_done : {graph : Graph} {x : ℕ} {target : Value} {plain : PlainObject} (names : List (List ℕ)) (y f : ℕ)
    → IsKnown as_plain graph x target plain
    → meaning ideal_limits names graph (Get y x f)
    ≡ done (bind graph y (unwrap_or (field_along graph.objects prototypes_most plain f) Undefined)) []
get_done names y f known = rw (known.bound, known.refers)
