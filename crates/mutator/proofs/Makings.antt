-- What a command is that makes an object, and what the object leaves alone.
use Rattle.std.proofs.Common.{◌≡◌, ℕ, List, [], length, Bool, ◌∙◌, ap, arith, inl, inr}
use Rattle.std.specs.Prelude.{◌==◌, if◌then◌else◌}
use Rattle.heap_model.specs.Types.{Command, Object}
use Rattle.object_graph.specs.declared.object.Object.TheVariants.{Weak}
use Rattle.object_graph.specs.Graphs.{Graph, make}
use Rattle.object_graph.specs.Meaning.{done, meaning}
use Rattle.object_graph.specs.Limits.{ideal_limits}
use Rattle.object_graph.specs.Invariants.{IsGraph, IsObject, IsEntry}
use Rattle.graph_laws.specs.GraphLaws.{FitsCommand}
use Rattle.graph_laws.proofs.NothingNew.{only_made_is_new}
use Rattle.nursery.specs.Young.{Young, bumped, rest_of}
use Rattle.heap_model.specs.Rooms.{Room, bare_room, need_of, rooms_after, with_room}
use Rattle.heap_model.specs.Laws.{IsNoEntryKey, ReachesOneMore}
use Rattle.heap_model.proofs.SlotWords.{All-slice_get}

-- no entry has the object that comes next as its key
pub no_entry_key : (graph : Graph) → IsGraph graph → IsNoEntryKey graph.objects (length graph.objects)
no_entry_key graph is holder at entries entry there stands same =
    let count : ℕ = length graph.objects in
    let object : IsObject count (Weak entries) =
    All-slice_get (IsObject count) graph.objects holder (Weak entries) is.made there in
    let one : IsEntry count entry = All-slice_get (IsEntry count) entries at entry object.keys_and_values stands in
    omega (arith, one.key, same)

-- where no word is granted, none is left of it
pub none_left : (young : Young) (more : ℕ) → young.granted.words ≡ 0 → (bumped young more).granted.words ≡ 0
none_left young more none =
    ap (λ (test : Bool). (if test then young.granted else rest_of young.granted more).words) (ap (λ n. n == 0) none)
    ∙ none

-- what a command is that makes an object: it needs the words of its cell, and changes no store
pub record IsMaking (graph : Graph) (command : Command) (x size : ℕ) (what : Object) : Type 0 where
  pub fits : FitsCommand command
  pub done : (names : List (List ℕ)) → meaning ideal_limits names graph command ≡ done (make graph x what) []
  pub need : (rooms : ℕ → Room) → need_of graph rooms command ≡ size
  pub gives : (rooms : ℕ → Room) (number : ℕ)
      → rooms_after graph rooms command number ≡ with_room rooms (length graph.objects) bare_room number

-- a new object is the only one that can be reached and could not be before
pub reaches_one_more : {graph : Graph} {command : Command} {x size : ℕ} {what : Object} → IsGraph graph
    → IsMaking graph command x size what → ReachesOneMore graph (make graph x what) (length graph.objects)
reaches_one_more {graph = graph} {command} {x} {what = what} is making number marked apart =
    elim (only_made_is_new ideal_limits [] graph command (make graph x what) [] number is (making.done []) marked) [
      | inl before ↦ before
      | inr made ↦ absurd (apart made.1)
    ]
