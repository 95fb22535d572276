-- A heap rests again after a command.
use Rattle.std.proofs.Common.{◌≡◌, ℕ, ◌<◌, ◌≤◌, inl, inr, List, [], take, unwrap_or}
use Rattle.std.proofs.Common.{refl, sym, ◌∙◌, ap, subst, arith, length-take}
use Rattle.std.proofs.lemmas.Grind.{same_number_lists}
use Rattle.std.proofs.lemmas.List.Elements.{All-contains}
use Rattle.std.proofs.lemmas.Option.{unwrap_or-slice_get}
use Rattle.page_space.specs.Extents.{Space, eden_start, roots_start}
use Rattle.page_space.proofs.Starts.{roots_start_is}
use Rattle.cell_layout.specs.Cells.{layouts_in}
use Rattle.mark_world.specs.declared.world.World.{World}
use Rattle.mark_world.specs.BetweenCommands.{Settled}
use Rattle.mark_laws.proofs.Joins.{all_from}
use Rattle.heap_model.specs.Types.{Cell}
use Rattle.heap_model.specs.Heaps.{Heap, HasCell}
use Rattle.heap_model.specs.Changes.{CellsChange, IsFilledIn}
use Rattle.heap_model.specs.Laws.{bound}
use Rattle.heap_model.proofs.BoundHeaps.{bound_keeps, none_in}
use Rattle.heap_model.proofs.BoundRoots.{with_root_alike}
use Rattle.heap_model.proofs.CellWords.{slice_get-take}
use Rattle.heap_model.proofs.WordsAlike.{AreAlike}
use Rattle.handle_roots.specs.declared.held.Held.TheVariants as held
use Rattle.handle_roots.specs.Roots.{with_root}
use Rattle.mark_world.specs.Cycles.{Cycle}
use Rattle.cycle_state.specs.Cycles.{words_of_pages, world_in}
use Rattle.cycle_state.specs.Resting.{IsPageCell}
use Rattle.cycle_laws.specs.Changes.{JoinsNewCells}
use Rattle.cycle_laws.specs.RestsAgain.{DidNotGo, CommandsRest, BindingsRest, NewObjectsRest}
use Rattle.cycle_laws.proofs.BoundKept.{new_joins, bindings_keep_closed, new_objects_keep_closed}
use Rattle.cycle_laws.proofs.MovedPages.{same_layouts}

module _ {old new : Heap} {cycle later : Cycle} {gone came made : List Cell}
    (cells : CellsChange old new gone came made) (joins : JoinsNewCells old new cycle later came made) where
  -- a cell of a page that did not go stands as before
  stands_still : {cell : Cell} {words : List ℕ} (at : ℕ) → HasCell old cell words → cell.at ≡ at
      → at < eden_start old.space → DidNotGo gone at → HasCell new cell words
  stands_still {cell} {words} at has stands of_page still =
      cells.kept cell words has (λ went. still cell went stands) (λ (filled : IsFilledIn made cell).
      let young = subst (λ (space : Space). eden_start space ≤ filled.begins.other.at) cells.same_space
      (joins.young filled.begins.other filled.begins.among) in
      omega (arith, filled.begins.from, stands, of_page, young))

  -- it is in a page of the new heap
  still_of_page : (at : ℕ) → at < eden_start old.space → at < eden_start new.space
  still_of_page at below = subst (λ (space : Space). at < eden_start space) (sym cells.same_space) below

-- so a heap rests after a change of cells
pub commands_rest : CommandsRest
commands_rest old new cycle later gone came made cells joins lists rests keeps settled = record {
  keeps = keeps;
  settled = settled;
  free = λ at free. elim (lists.free at free) [
    | inr there ↦ there
    | inl before ↦
        let there = rests.free at before.0 in record {
          cell = there.cell;
          words = there.words;
          has = stands_still cells joins at there.has there.stands there.of_page before.1;
          stands = there.stands;
          of_page = still_of_page cells joins at there.of_page;
          used = there.used;
        }
  ];
  mine = all_from (IsPageCell new) later.mine (λ at among. elim (lists.mine at among) [
    | inr there ↦ there
    | inl before ↦
        let there = All-contains (IsPageCell old) cycle.mine at rests.mine before.0 in record {
          cell = there.cell;
          words = there.words;
          has = stands_still cells joins at there.has there.stands there.of_page before.1;
          stands = there.stands;
          of_page = still_of_page cells joins at there.of_page;
          part = there.part;
        }
  ]);
}

-- pages end before the roots
pages_before_roots : (space : Space) → eden_start space ≤ roots_start space
pages_before_roots space = omega (arith, roots_start_is space)

-- words that are alike but for the roots have the same words of pages
same_pages : (space : Space) (words other : List ℕ) → AreAlike space words other
    → take (eden_start space) other ≡ take (eden_start space) words
same_pages space words other alike =
    let end : ℕ = eden_start space in
    same_number_lists (take end other) (take end words)
    (omega (arith, length-take end other, length-take end words, alike.long)) (λ k within.
    let below : k < end = omega (arith, within, length-take end other) in
    let same = slice_get-take end other k below
    ∙ alike.cells k (omega (arith, below, pages_before_roots space)) ∙ sym (slice_get-take end words k below) in
    sym (unwrap_or-slice_get (take end other) k 0) ∙ ap (λ found. unwrap_or found 0) same
    ∙ unwrap_or-slice_get (take end words) k 0)

-- so the heap rests after a variable was bound anew
pub bindings_rest : BindingsRest
bindings_rest heap after variable one cycle below whole shows each rests =
    let other : List ℕ = with_root heap.space heap.words variable one in
    let made : List ℕ → List ℕ → World = λ words layouts. record (world_in heap cycle) {
      words = words;
      layouts = layouts;
    } in
    let pages = same_pages heap.space heap.words other (with_root_alike heap.space heap.words variable one below) in
    let layouts = same_layouts heap (bound heap variable one) whole.sized shows.whole.sized refl refl in
    record {
      keeps = bindings_keep_closed heap after variable one cycle below whole shows each rests.keeps;
      settled = subst (λ all. Settled (made all (layouts_in heap.space other))) (sym pages)
          (subst (λ all. Settled (made (words_of_pages heap) all)) (sym layouts) rests.settled);
      free = λ at free.
          let there = rests.free at free in record {
            cell = there.cell;
            words = there.words;
            has = bound_keeps heap variable one below whole there.has;
            stands = there.stands;
            of_page = there.of_page;
            used = there.used;
          };
      mine = all_from (IsPageCell (bound heap variable one)) cycle.mine (λ at among.
          let there = All-contains (IsPageCell heap) cycle.mine at rests.mine among in record {
            cell = there.cell;
            words = there.words;
            has = bound_keeps heap variable one below whole there.has;
            stands = there.stands;
            of_page = there.of_page;
            part = there.part;
          });
    }

-- and after an object was made and bound
pub new_objects_rest : NewObjectsRest
new_objects_rest old new before variable cell what cycle below shows whole cells object nothing young few number_is
    one_more shows_new settled rests =
    let joins = new_joins old new cycle cell young in
    let none : (at : ℕ) → DidNotGo [] at = λ at other there. absurd (none_in other there) in
    record {
      keeps = new_objects_keep_closed old new before variable cell what cycle below shows whole cells object nothing
          young few number_is one_more shows_new rests.keeps;
      settled = settled;
      free = λ at free.
          let there = rests.free at free in
          let has = stands_still cells joins at there.has there.stands there.of_page (none at) in record {
            cell = there.cell;
            words = there.words;
            has = bound_keeps new variable (held.Ref cell.at) below whole has;
            stands = there.stands;
            of_page = still_of_page cells joins at there.of_page;
            used = there.used;
          };
      mine = all_from (IsPageCell (bound new variable (held.Ref cell.at))) cycle.mine (λ at among.
          let there = All-contains (IsPageCell old) cycle.mine at rests.mine among in
          let has = stands_still cells joins at there.has there.stands there.of_page (none at) in record {
            cell = there.cell;
            words = there.words;
            has = bound_keeps new variable (held.Ref cell.at) below whole has;
            stands = there.stands;
            of_page = still_of_page cells joins at there.of_page;
            part = there.part;
          });
    }
