-- A plain object gets another prototype, or none.
use Rattle.std.proofs.Common.{◌≡◌, ℕ, ◌+◌, false, [], ◌∷◌, Option, Some, None, refl, sym, ◌∙◌, ap, subst, arith, IsTrue}
use Rattle.std.specs.Prelude.{option_map}
use Rattle.std.proofs.lemmas.Option.{none-some, same_Some}
use Rattle.tagged_word.specs.Cells.{has_length, proto_slot}
use Rattle.page_space.specs.Sizes.{AreWithin}
use Rattle.mark_world.specs.declared.event.Event.TheVariants as event
use Rattle.write_barrier.specs.Marking.{MayPut}
use Rattle.write_barrier.specs.Storing.{MayHold}
use Rattle.tagged_word.proofs.Members.{first_in, one_in}
use Rattle.object_graph.specs.declared.value.Value.{Value}
use Rattle.object_graph.specs.declared.value.Value.TheVariants.{Undefined, Ref}
use Rattle.object_graph.specs.declared.object.Object.TheVariants.{Plain}
use Rattle.object_graph.specs.Graphs.{Graph, PlainObject}
use Rattle.object_graph.specs.Prototypes.{proto_for, makes_ring, with_proto}
use Rattle.object_graph.specs.Invariants.{IsGraph}
use Rattle.object_graph.specs.Reach.{is_marked, reach}
use Rattle.graph_laws.proofs.NewProtos.{with_proto_is_graph}
use Rattle.heap_model.specs.Types.{Cell}
use Rattle.heap_model.specs.Heaps.{words_of_cell}
use Rattle.heap_model.specs.Slots.{reference_word, IsPlace}
use Rattle.heap_model.specs.Kinds.{IsProtoWord}
use Rattle.heap_model.specs.Showing.{ShowsPlain}
use Rattle.heap_model.specs.Needs.{capacity_at}
use Rattle.heap_model.proofs.BoundHeaps.{none_in}
use Rattle.write_barrier.specs.MutatorState.{Mutator, heap_of, MainShows, with_slot}
use Rattle.object_cells.specs.Capacities.{ChangesObjectUsing}
use Rattle.object_cells.specs.PlainObjects.{IsPlainAt}
use Rattle.object_cells.proofs.NewFields.{fields_reached}
use Rattle.object_cells.proofs.OwnPlaces.{has_own_words}
use Rattle.object_cells.proofs.PlainFields.{plain_shown}
use Rattle.object_cells.proofs.ProtosRead.{plain_found}
use Rattle.object_cells.proofs.ProtoWrites.{PutsProto, proto_step}
use Rattle.object_cells.proofs.ProtoChanges.{IsWordOf, proto_own, fields_shown, proto_shown, proto_rests, proto_uses}
use Rattle.object_cells.proofs.ProtoChanges.{proto_keeps, proto_keeps_cycle}
use Rattle.object_cells.proofs.ChangedPlaces.{own_may_change, slot_may_put}
use Rattle.object_cells.proofs.ContentsHeld.{reached_may_hold}
use Rattle.object_cells.proofs.HoldableWords.{undefined_may_hold}
use Rattle.object_cells.proofs.SlotsNow.{plain_cell_size}
use Rattle.object_cells.proofs.Refills.{links_reached}
use Rattle.object_cells.proofs.ReplacedObjects.{ReplacesCells, HasReachedLinks, replaced, replaced_shows, stays_reached}
use Rattle.shape_change.specs.Prototypes.{GivesProto, word_for, HasSetProto}

-- the prototype that is given can be reached
given_reached : (main : Mutator) (graph : Graph) (given proto : Option ℕ) → GivesProto main graph given proto
    → (number : ℕ) → proto ≡ Some number → IsTrue (is_marked (reach graph) number)
given_reached main graph None None gives number is = absurd (none-some number is)
given_reached main graph None (Some one) gives number is = absurd gives
given_reached main graph (Some at) None gives number is = absurd gives
given_reached main graph (Some at) (Some one) gives number is =
    subst (λ n. IsTrue (is_marked (reach graph) n)) (gives.1 ∙ same_Some one number is) gives.2.reached

-- its word shows it
given_word : (main : Mutator) (graph : Graph) (given proto : Option ℕ) → GivesProto main graph given proto
    → IsWordOf (heap_of main) (word_for given) proto
given_word main graph None None gives = refl
given_word main graph None (Some number) gives = absurd gives
given_word main graph (Some at) None gives = absurd gives
given_word main graph (Some at) (Some number) gives = record {
  at = at;
  refers = refl;
  place = subst (λ n. IsPlace (heap_of main) n at) gives.1 gives.2.place;
}

-- it is one of a prototype slot
given_is_proto : {main : Mutator} {graph : Graph} (given proto : Option ℕ) → MainShows main graph
    → GivesProto main graph given proto → IsProtoWord (heap_of main) (word_for given)
given_is_proto None None shows gives = IsProtoWord.none
given_is_proto None (Some number) shows gives = absurd gives
given_is_proto (Some at) None shows gives = absurd gives
given_is_proto (Some at) (Some number) shows gives =
    let shown = plain_shown shows gives.2 in
    IsProtoWord.plain (reference_word at) shown.cell shown.words
    (record { refers = ap reference_word (sym shown.stands); has = shown.has }) shown.shows.of_kind

-- and it may be held where a cycle of marking is open
given_may_hold : (main : Mutator) (graph : Graph) (given proto : Option ℕ) → MainShows main graph
    → AreWithin main.seat.space.sizes main.seat.space.variables → GivesProto main graph given proto
    → MayHold main (word_for given)
given_may_hold main graph None None shows within gives = undefined_may_hold
given_may_hold main graph None (Some number) shows within gives = absurd gives
given_may_hold main graph (Some at) None shows within gives = absurd gives
given_may_hold main graph (Some at) (Some number) shows within gives =
    let one : PlainObject = gives.0 in
    reached_may_hold one.number at shows within gives.2.reached gives.2.place

-- so it may be put in the slot
pub given_may_put : {main : Mutator} {graph : Graph} {object : ℕ} {plain : PlainObject} (given proto : Option ℕ)
    → MainShows main graph → AreWithin main.seat.space.sizes main.seat.space.variables
    → IsPlainAt main graph object plain → GivesProto main graph given proto
    → MayPut main (object + proto_slot) (event.StoreSlot (object + proto_slot) (word_for given))
given_may_put {main} {graph} {object} given proto shows within is gives =
    let shown = plain_shown shows is in
    let size = plain_cell_size shown.has shown.shows.of_kind in
    subst (λ a. MayPut main (a + proto_slot) (event.StoreSlot (a + proto_slot) (word_for given))) shown.stands
    (slot_may_put (word_for given)
    (own_may_change proto_slot shows shown.has (ap has_length shown.shows.of_kind) (omega arith) (omega (arith, size)))
    (given_may_hold main graph given proto shows within gives))

-- and a value gives it
given_by_value : (main : Mutator) (graph : Graph) (given proto : Option ℕ) → GivesProto main graph given proto
    → (value : Value) × (proto_for graph.objects value ≡ Some proto)
given_by_value main graph None None gives = (Undefined, refl)
given_by_value main graph None (Some number) gives = absurd gives
given_by_value main graph (Some at) None gives = absurd gives
given_by_value main graph (Some at) (Some number) gives =
    let one : PlainObject = gives.0 in (
      Ref one.number,
      ap (λ found. option_map (λ (p : PlainObject). Some p.number) found) (plain_found graph one gives.2.object)
          ∙ ap (λ n. Some (Some n)) gives.1,
    )

-- so the heap shows the graph in which the object has it
pub proto_is_set : {old new : Mutator} {graph : Graph} {object : ℕ} {plain : PlainObject} (given proto : Option ℕ)
    → MainShows old graph → IsPlainAt old graph object plain → GivesProto old graph given proto
    → makes_ring graph.objects plain.number proto ≡ false
    → MayPut old (object + proto_slot) (event.StoreSlot (object + proto_slot) (word_for given))
    → new ≡ with_slot old (object + proto_slot) (word_for given)
    → HasSetProto old new graph object plain proto
proto_is_set {old} {new} {graph} {object} {plain} given proto shows is gives no_ring may put =
    let shown = plain_shown shows is in
    let cell : Cell = shown.cell in
    let word : ℕ = word_for given in
    let puts : PutsProto old new cell word = record {
      tied = shows.tied;
      whole = shows.shows.whole;
      has = has_own_words shown.has;
      plain = shown.shows.of_kind;
      proto = given_is_proto given proto shows gives;
      is = put ∙ ap (λ a. with_slot old (a + proto_slot) word) (sym shown.stands);
    } in
    let showed : ShowsPlain (heap_of old) cell (words_of_cell (heap_of old) cell) plain.cap plain.fields =
    subst (λ all. ShowsPlain (heap_of old) cell all plain.cap plain.fields) (sym shown.has.words_are) shown.shows in
    let word_is : IsWordOf (heap_of old) word proto = given_word old graph given proto gives in
    let replaces : ReplacesCells (heap_of old) (heap_of new) graph plain.number (Plain plain.cap proto plain.fields)
    (cell ∷ []) (cell ∷ []) [] = record {
      cells = (proto_step puts).cells;
      own = proto_own puts;
      only = λ other there is_object.
          ap (λ (c : Cell). c.header.object) (sym (one_in cell other there)) ∙ shown.carries;
      no_object = λ other there. absurd (none_in other there);
      cell = cell;
      among = first_in cell [];
      carries = shown.carries;
      shows = λ marks reached. (fields_shown puts plain.cap plain.fields showed, proto_shown puts proto word_is);
    } in
    let value = given_by_value old graph given proto gives in
    let is_graph : IsGraph (with_proto graph plain proto) =
    with_proto_is_graph graph plain value.0 proto shows.is_graph (plain_found graph plain is.object) value.1 no_ring in
    let links : HasReachedLinks graph (Plain plain.cap proto plain.fields) =
    links_reached graph plain.cap proto plain.fields (given_reached old graph given proto gives)
    (fields_reached graph plain shows.is_graph is.object is.reached) in
    record {
      uses = proto_uses puts;
      changes = subst (λ a. ChangesObjectUsing old new 0 a (capacity_at (heap_of old) a)) shown.stands
          (proto_keeps puts);
      shows = replaced_shows plain.number (Plain plain.cap proto plain.fields) graph.paths shows is_graph
          (ap (λ (main : Mutator). main.paths) put ∙ shows.shows.paths) links (proto_rests puts shows) replaces
          (proto_keeps_cycle puts (replaced graph plain.number (Plain plain.cap proto plain.fields) graph.paths) shows
          (subst (λ n. IsTrue (is_marked (reach
          (replaced graph plain.number (Plain plain.cap proto plain.fields) graph.paths)) n)) (sym shown.carries)
          (stays_reached graph plain.number (Plain plain.cap proto plain.fields) graph.paths is.reached))
          (subst (λ a. MayPut old (a + proto_slot) (event.StoreSlot (a + proto_slot) word)) (sym shown.stands) may));
    }
