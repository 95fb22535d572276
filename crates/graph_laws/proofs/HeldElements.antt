-- The elements of a list refer to objects of the graph, and are no more than a list may have, after one is added, put
-- or taken out.
use Rattle.std.proofs.Common.{◌≡◌, ℕ, ◌≤◌, false, List, [], ◌∷◌, ◌++◌, length, take, drop, set, nat_le}
use Rattle.std.proofs.Common.{arith, length-append, length-set, length-take, length-drop}
use Rattle.std.specs.Prelude.{All}
use Rattle.std.proofs.lemmas.Bool.{leb-false}
use Rattle.std.proofs.lemmas.List.Elements.{All-push, All-set, All-take, All-drop}
use Rattle.object_graph.specs.declared.value.Value.{Value}
use Rattle.object_graph.specs.Meaning.{list_most}
use Rattle.object_graph.specs.Invariants.{IsValue, AreElements}

-- elements stay elements of so many objects after one was added for which there was room
pub push_held : (count : ℕ) (elements : List Value) (value : Value)
    → nat_le list_most (length elements) ≡ false → IsValue count value → AreElements count elements
    → AreElements count (elements ++ value ∷ [])
push_held count elements value room is are = record {
  values = All-push (IsValue count) elements value are.values is;
  few = omega (arith, leb-false list_most (length elements) room, length-append elements (value ∷ []));
}

-- elements stay so where no more come in their place, each a value over so many objects
no_more_held : (count : ℕ) (elements later : List Value) → AreElements count elements
    → All (IsValue count) later → length later ≤ length elements → AreElements count later
no_more_held count elements later are all fewer = record { values = all; few = omega (arith, are.few) }

-- after one was put in the place of another
pub put_held : (count : ℕ) (elements : List Value) (place : ℕ) (value : Value)
    → IsValue count value → AreElements count elements → AreElements count (set elements place value)
put_held count elements place value is are =
    no_more_held count elements _ are (All-set (IsValue count) elements place value is are.values)
    (omega (arith, length-set elements place value))

-- after the first ones were taken out
pub drop_held : (count : ℕ) (elements : List Value) (gone : ℕ)
    → AreElements count elements → AreElements count (drop gone elements)
drop_held count elements gone are =
    no_more_held count elements _ are (All-drop (IsValue count) gone elements are.values)
    (omega (arith, length-drop gone elements))

-- after only the first ones were kept
pub take_held : (count : ℕ) (elements : List Value) (kept : ℕ)
    → AreElements count elements → AreElements count (take kept elements)
take_held count elements kept are =
    no_more_held count elements _ are (All-take (IsValue count) kept elements are.values)
    (omega (arith, length-take kept elements))
