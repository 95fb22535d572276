-- What is kept stays closed where a variable is bound anew, and where a new object is made and bound.
use Rattle.std.proofs.Common.{◌≡◌, ℕ, ◌<◌, ◌≤◌, inl, inr, List, [], ◌∷◌, IsTrue}
use Rattle.std.proofs.Common.{refl, sym, ◌∙◌, ap, subst, arith}
use Rattle.std.proofs.lemmas.Bool.{false≢true}
use Rattle.tagged_word.specs.Cells.{is_object_kind}
use Rattle.tagged_word.proofs.Members.{one_in}
use Rattle.page_space.specs.Extents.{eden_start}
use Rattle.handle_roots.specs.declared.held.Held.TheVariants as held
use Rattle.object_graph.specs.Graphs.{Graph}
use Rattle.object_graph.specs.Reach.{is_marked, reach}
use Rattle.heap_model.specs.Types.{Cell, Held}
use Rattle.heap_model.specs.Heaps.{Heap, HasCell, words_of_cell}
use Rattle.heap_model.specs.Slots.{reference_word, IsPlace}
use Rattle.heap_model.specs.Kinds.{HasWord}
use Rattle.heap_model.specs.Wholeness.{Whole}
use Rattle.heap_model.specs.Showing.{Shows}
use Rattle.heap_model.specs.Laws.{RefersToNothing, bound}
use Rattle.heap_model.proofs.BoundHeaps.{bound_moves, none_in}
use Rattle.live_cells.specs.Live.{HasSlotTo, HasEntry}
use Rattle.live_cells.specs.Marked.{IsMarkClosed}
use Rattle.live_cells.proofs.RootTargets.{target_reached}
use Rattle.live_cells.proofs.Slots.{marking_slots}
use Rattle.mark_world.specs.BetweenCommands.{IsBornObject}
use Rattle.mark_world.specs.Cycles.{Cycle}
use Rattle.cycle_state.specs.Keeping.{is_kept, IsKept, KeepsClosed}
use Rattle.cycle_laws.specs.Changes.{JoinsNewCells, BindingsKeepClosed, NewObjectsKeepClosed}
use Rattle.cycle_laws.proofs.CarriedCells.{kept_stays, kept_before, made_is_kept, closed_then}
use Rattle.cycle_laws.proofs.ReachedKept.{reached_is_kept}
use Rattle.cycle_laws.proofs.Targets.{StandsAt, cell_there}

module _ {heap : Heap} (variable : ℕ) (one : Held) (below : variable < heap.space.variables) (whole : Whole heap) where
  -- each cell stood as it stands
  pub bound_back : {cell : Cell} {words : List ℕ} → HasCell (bound heap variable one) cell words
      → HasCell heap cell words
  bound_back {cell} {words} has =
      elim ((bound_moves heap variable one below whole).cells.back cell words has) [
        | inl comes ↦ absurd (none_in cell comes)
        | inr stood ↦ stood.0
      ]

  -- and so did each object
  place_back : {number at : ℕ} → IsPlace (bound heap variable one) number at → IsPlace heap number at
  place_back place = record {
    cell = place.cell;
    words = place.words;
    has = bound_back place.has;
    stands = place.stands;
    object = place.object;
    carries = place.carries;
  }

  -- so what is kept stays closed, where each object that can be reached then is kept
  pub bound_keeps_closed : {after : Graph} {cycle : Cycle} → Shows (bound heap variable one) after
      → ((number at : ℕ) → IsTrue (is_marked (reach after) number) → IsPlace heap number at
      → IsKept heap cycle.born at)
      → IsMarkClosed heap (is_kept heap.space cycle.born)
      → ((number at : ℕ) → IsPlace heap number at → IsKept heap cycle.born at
      → IsBornObject cycle.reached cycle.made number)
      → KeepsClosed (bound heap variable one) cycle
  bound_keeps_closed shows each closed numbers = record {
    roots = λ at target.
        let object = target_reached at shows target in each object.0 at object.2 (place_back object.1);
    closed = record {
      slots = λ from at kept slot. closed.slots from at kept (record {
        cell = slot.cell;
        words = slot.words;
        has = bound_back slot.has;
        stands = slot.stands;
        offset = slot.offset;
        visited = slot.visited;
        holds = slot.holds;
      });
      entries = λ table key at kept key_kept entry. closed.entries table key at kept key_kept (record {
        cell = entry.cell;
        words = entry.words;
        has = bound_back entry.has;
        stands = entry.stands;
        of_kind = entry.of_kind;
        place = entry.place;
        pair = entry.pair;
        among = entry.among;
        key_is = entry.key_is;
        value_is = entry.value_is;
      });
    };
    numbers = λ number at place kept. numbers number at (place_back place) kept;
  }

-- a variable that is bound anew
pub bindings_keep_closed : BindingsKeepClosed
bindings_keep_closed heap after variable one cycle below whole shows each keeps =
    bound_keeps_closed variable one below whole shows each keeps.closed keeps.numbers

-- where a young object is made that refers to nothing, no cell comes and it joins what is kept
pub new_joins : (old new : Heap) (cycle : Cycle) (cell : Cell) → eden_start new.space ≤ cell.at
    → JoinsNewCells old new cycle cycle [] (cell ∷ [])
new_joins old new cycle cell young = record {
  reached = refl;
  counted = refl;
  dead = refl;
  stays = λ at there. there;
  joined = λ at there. inl there;
  new_born = λ other there. absurd (none_in other there);
  young = λ other there. subst (λ (one : Cell). eden_start new.space ≤ one.at) (one_in cell other there) young;
}

-- no slot of such a cell leads on
nothing_leads : {heap : Heap} {from at : ℕ} {cell : Cell} → RefersToNothing cell (words_of_cell heap cell)
    → (slot : HasSlotTo heap from at) → cell ≡ slot.cell → ⊥
nothing_leads {heap} {from} {at} {cell} nothing slot same =
    let nothing_too : RefersToNothing slot.cell (words_of_cell heap slot.cell) =
    subst (λ (one : Cell). RefersToNothing one (words_of_cell heap one)) same nothing in
    let visited = marking_slots slot.cell.layout.kind slot.cell.layout slot.cell.length slot.offset slot.visited in
    let holds = subst (λ all. HasWord all slot.offset (reference_word at)) (sym slot.has.words_are) slot.holds in
    nothing_too slot.offset (reference_word at) at visited holds refl

-- an object's cell is no table's
no_pair_of_object : {heap : Heap} {table key at : ℕ} {cell : Cell} → IsTrue (is_object_kind cell.layout.kind)
    → (entry : HasEntry heap table key at) → cell ≡ entry.cell → ⊥
no_pair_of_object object entry same =
    let table = ap (λ (one : Cell). is_object_kind one.layout.kind) same ∙ ap is_object_kind entry.of_kind in
    false≢true (sym table ∙ object)

-- a new object
pub new_objects_keep_closed : NewObjectsKeepClosed
new_objects_keep_closed old new before variable cell what cycle below shows whole cells object nothing young few
    number_is one_more shows_new keeps =
    let joins = new_joins old new cycle cell young in
    let closed = closed_then shows.whole cells joins keeps.closed
    (λ from at slot comes. absurd (nothing_leads nothing slot (one_in cell slot.cell comes)))
    (λ table key at entry comes key_kept. absurd (no_pair_of_object object entry (one_in cell entry.cell comes))) in
    bound_keeps_closed variable (held.Ref cell.at) below whole shows_new
    (λ number at reached place. elim (cells.back place.cell place.words place.has) [
      | inl comes ↦
          subst (IsKept new cycle.born) place.stands (made_is_kept shows.whole cells joins place.cell comes)
      | inr stood ↦
          let had : IsPlace old number at = record {
            cell = place.cell;
            words = place.words;
            has = stood.0;
            stands = place.stands;
            object = place.object;
            carries = place.carries;
          } in
          let apart = shows.made number at had in
          let reached_before = one_more number reached (λ same. omega (arith, apart, same)) in
          kept_stays shows.whole cells joins at
          (reached_is_kept old before cycle number at shows keeps reached_before had)
    ])
    closed
    (λ number at place kept. elim (cells.back place.cell place.words place.has) [
      | inl comes ↦
          let same : cell ≡ place.cell = one_in cell place.cell comes in
          let carried : cell.header.object ≡ number = ap (λ (one : Cell). one.header.object) same ∙ place.carries in
          inr (omega (arith, few, number_is, carried))
      | inr stood ↦
          let had : IsPlace old number at = record {
            cell = place.cell;
            words = place.words;
            has = stood.0;
            stands = place.stands;
            object = place.object;
            carries = place.carries;
          } in
          keeps.numbers number at had
          (kept_before shows.whole cells joins at (cell_there (StandsAt.an_object number had)) kept)
    ])
