-- What commands on lists mean, where their variables and their list are known.
use Rattle.std.proofs.Common.{◌≡◌, ℕ, ◌<◌, ◌≤◌, true, false, List, [], ◌∷◌, ◌++◌, length, Some}
use Rattle.std.proofs.Common.{ℤ, ◌∙◌, ap, arith, nat_le}
use Rattle.std.specs.Prelude.{slice_set, take, drop}
use Rattle.std.proofs.lemmas.Bool.Decides.{nat_tests}
use Rattle.heap_model.specs.Types.{Operand, Value}
use Rattle.heap_command.specs.declared.command.Command.TheVariants.{Push, Put, At, Shift, Trunc}
use Rattle.heap_command.specs.declared.command.FaultWord.TheVariants.{ListFull, Range}
use Rattle.object_graph.specs.Graphs.{Graph, ListObject, bind, value_of, integer_in, as_list}
use Rattle.object_graph.specs.Meaning.{done, fault, unless, list_most, relist, meaning}
use Rattle.object_graph.specs.Limits.{ideal_limits}
use Rattle.array_trim.specs.Trims.{IsCountIn, IsNoCountIn}
use Rattle.list_store.specs.ListChanges.{IsPlaceIn, IsIndexOutside, IsElementAt}
use Rattle.mutator.proofs.KnownObjects.{IsKnown}

-- what the index of a command on a list is
pub record IsIndex (graph : Graph) (i : Operand) (n : ℤ) : Type 0 where
  pub value : Value
  pub value_is : value_of graph i ≡ Some value
  pub integer : integer_in value ≡ Some n

module _ {graph : Graph} {x : ℕ} {i : Operand} {target : Value} {list : ListObject} {n : ℤ} (names : List (List ℕ))
    (known : IsKnown as_list graph x target list) (index : IsIndex graph i n) where
  -- an element that is read
  pub at_done : {value : Value} (y : ℕ) → IsElementAt list n value
      → meaning ideal_limits names graph (At y x i) ≡ done (bind graph y value) []
  at_done y is = rw (known.bound, index.value_is, known.refers, index.integer, is.names, is.stands)

  -- an element that is put
  pub put_done : {value : Value} {place : ℕ} (v : Operand) → value_of graph v ≡ Some value → IsPlaceIn list n place
      → meaning ideal_limits names graph (Put x i v) ≡ done (relist graph list (slice_set list.elements place value)) []
  put_done v is names_place = rw (known.bound, index.value_is, is, known.refers, index.integer, names_place)

  -- and one that is not, as the index names none
  pub put_outside : {value : Value} (v : Operand) → value_of graph v ≡ Some value → IsIndexOutside list n
      → meaning ideal_limits names graph (Put x i v) ≡ fault Range
  put_outside v is outside = rw (known.bound, index.value_is, is, known.refers, index.integer, outside)

  -- first elements that go
  pub shift_done : {gone : ℕ} → IsCountIn list n gone
      → meaning ideal_limits names graph (Shift x i) ≡ done (relist graph list (drop gone list.elements)) []
  shift_done is = rw (known.bound, index.value_is, known.refers, index.integer, is)

  -- and none, as the number is out of range
  pub shift_outside : IsNoCountIn list n → meaning ideal_limits names graph (Shift x i) ≡ fault Range
  shift_outside is = rw (known.bound, index.value_is, known.refers, index.integer, is)

  -- first elements that stay alone
  pub trunc_done : {kept : ℕ} → IsCountIn list n kept
      → meaning ideal_limits names graph (Trunc x i) ≡ done (relist graph list (take kept list.elements)) []
  trunc_done is = rw (known.bound, index.value_is, known.refers, index.integer, is)

  -- and all, as the number is out of range
  pub trunc_outside : IsNoCountIn list n → meaning ideal_limits names graph (Trunc x i) ≡ fault Range
  trunc_outside is = rw (known.bound, index.value_is, known.refers, index.integer, is)

-- the test of a list that has as many elements as it may have
is_full : (count : ℕ) → list_most ≤ count → nat_le list_most count ≡ true
is_full count full = grind (arith, nat_tests)

-- and that of one that has fewer
is_not_full : (count : ℕ) → count < list_most → nat_le list_most count ≡ false
is_not_full count few = grind (arith, nat_tests)

module _ {graph : Graph} {x : ℕ} {target value : Value} {list : ListObject} (names : List (List ℕ)) (v : Operand)
    (known : IsKnown as_list graph x target list) (is : value_of graph v ≡ Some value) where
  -- a `push` whose variables and list are known
  push_known : meaning ideal_limits names graph (Push x v)
      ≡ unless ListFull (nat_le list_most (length list.elements))
      (done (relist graph list (list.elements ++ value ∷ [])) [])
  push_known = rw (known.bound, is, known.refers)

  -- where the list is not full, the value comes behind
  pub push_done : length list.elements < list_most
      → meaning ideal_limits names graph (Push x v) ≡ done (relist graph list (list.elements ++ value ∷ [])) []
  push_done few =
      push_known ∙ ap (λ test. unless ListFull test (done (relist graph list (list.elements ++ value ∷ [])) []))
      (is_not_full (length list.elements) few)

  -- where it is, that is the fault
  pub push_full : list_most ≤ length list.elements → meaning ideal_limits names graph (Push x v) ≡ fault ListFull
  push_full full =
      push_known ∙ ap (λ test. unless ListFull test (done (relist graph list (list.elements ++ value ∷ [])) []))
      (is_full (length list.elements) full)
