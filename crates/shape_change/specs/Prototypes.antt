-- Prototypes of plain objects, by the addresses of their cells.
use Rattle.std.specs.Prelude.{◌≡◌, ℕ, false, Option, Some, None}
use Rattle.object_graph.specs.Graphs.{Graph, PlainObject}
use Rattle.object_graph.specs.Prototypes.{proto_at, makes_ring, with_proto}
use Rattle.heap_model.specs.Slots.{undefined_word, reference_word}
use Rattle.heap_model.specs.Needs.{capacity_at}
use Rattle.write_barrier.specs.MutatorState.{Mutator, heap_of, MainShows}
use Rattle.object_cells.specs.Capacities.{ChangesObjectUsing}
use Rattle.object_cells.specs.PlainObjects.{IsPlainAt}
use Rattle.object_cells.specs.Uses.{UsesMore}

-- What the prototype slot of a plain object says: the object has no prototype, or its prototype stands at this address.
abbrev pub FindsProto : Mutator → Graph → PlainObject → Option ℕ → Type 0
FindsProto main graph plain None = proto_at graph.objects plain ≡ None
FindsProto main graph plain (Some next) =
    (proto : PlainObject) × (proto_at graph.objects plain ≡ Some proto) × IsPlainAt main graph next proto

-- The heap shows a graph, and a plain object of it stands at each of the two addresses.
pub record AreShownPlain (main : Mutator) (object target : ℕ) : Type 0 where
  pub graph : Graph
  pub one : PlainObject
  pub other : PlainObject
  pub shows : MainShows main graph
  pub is : IsPlainAt main graph object one
  pub is_other : IsPlainAt main graph target other

-- The prototype that is given by an address, and its number: none, or the plain object that stands there.
abbrev pub GivesProto : Mutator → Graph → Option ℕ → Option ℕ → Type 0
GivesProto main graph None None = Unit {0}
GivesProto main graph None (Some number) = ⊥
GivesProto main graph (Some at) None = ⊥
GivesProto main graph (Some at) (Some number) =
    (proto : PlainObject) × (proto.number ≡ number) × IsPlainAt main graph at proto

-- The heap shows a graph whose plain object of some number stands at the address, and with the prototype that is given
-- it is in no ring.
pub record MaySetProto (main : Mutator) (at : ℕ) (given : Option ℕ) : Type 0 where
  pub graph : Graph
  pub plain : PlainObject
  pub proto : Option ℕ
  pub shows : MainShows main graph
  pub is : IsPlainAt main graph at plain
  pub gives : GivesProto main graph given proto
  pub no_ring : makes_ring graph.objects plain.number proto ≡ false

-- the word of the slot for the prototype that stands at an address, or for none
abbrev pub word_for : Option ℕ → ℕ
word_for None = undefined_word
word_for (Some at) = reference_word at

-- The heap shows the graph in which the object at the address has this prototype, or none. Nothing is allocated, only
-- words of the object change, and each property store stays.
pub record HasSetProto (old new : Mutator) (graph : Graph) (at : ℕ) (plain : PlainObject) (proto : Option ℕ) : Type 0
  where
    pub uses : UsesMore old new 0
    pub changes : ChangesObjectUsing old new 0 at (capacity_at (heap_of old) at)
    pub shows : MainShows new (with_proto graph plain proto)
