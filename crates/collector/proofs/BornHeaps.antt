-- What a full collection leaves is what a collection has to leave that ends a cycle of marking.
use Rattle.std.proofs.Common.{◌≡◌, ℕ, ◌≤◌, ◌⊎◌, Bool, true, false, List, length, IsTrue, inl, inr}
use Rattle.std.proofs.Common.{nat_lt, refl, sym, ap, subst, arith}
use Rattle.std.proofs.lemmas.Bool.Decides.{nat_tests}
use Rattle.tagged_word.specs.Cells.{is_free_kind}
use Rattle.object_graph.specs.Graphs.{Graph}
use Rattle.object_graph.specs.Reach.{is_marked, reach}
use Rattle.heap_model.specs.Types.{Cell}
use Rattle.heap_model.specs.Heaps.{Heap, HasCell}
use Rattle.heap_model.specs.Wholeness.{IsOwnedKind}
use Rattle.live_cells.specs.Exact.{Exact}
use Rattle.live_cells.specs.Laws.{BelongsToReached}
use Rattle.graph_laws.specs.ReachAfter.{StaysLost}
use Rattle.collector.specs.Born.{MayStand, ExactIsBorn}
use Rattle.collector.proofs.BornFronts.{dead_fills, copies_take_fronts}
use Rattle.collector.proofs.KeptPairs.{exact_keys}
use Rattle.collector.proofs.LiveLists.{used_is_live}

-- what can be reached could be reached before, or was made since
reached_or_made : {before after : Graph} (number : ℕ) → StaysLost before after → IsTrue (is_marked (reach after) number)
    → (early : Bool) → nat_lt number (length before.objects) ≡ early
    → IsTrue (is_marked (reach before) number) ⊎ (length before.objects ≤ number)
reached_or_made number stays reached true is = inl (stays.lost number (grind (arith, nat_tests)) reached)
reached_or_made number stays reached false is = inr (grind (arith, nat_tests))

-- in an exact heap a cell is free and of a page, or belongs to an object that can be reached
packed_stands : (old : Heap) {new : Heap} {graph : Graph} {cell : Cell} {words : List ℕ} → Exact new graph
    → HasCell new cell words → (free : Bool) → is_free_kind cell.layout.kind ≡ free → MayStand old new graph cell
packed_stands old {cell = cell} {words} exact has true is = MayStand.free is (exact.packed cell words has is)
packed_stands old exact has false is = MayStand.reached (used_is_live exact has is)

-- so a full collection leaves all that is to be left, and no other cell that is not free
pub exact_is_born : ExactIsBorn
exact_is_born opening old new rows graph stays shown leaves =
    let keeps = leaves.exact.keeps in
    record {
      space = leaves.space;
      shows = keeps.shows;
      born = λ number at place.
          reached_or_made number stays (keeps.reached number at place)
          (nat_lt number (length opening.graph.objects)) refl;
      no_dead_word = λ cell words has used of_page lost at word was. lost (used_is_live leaves.exact has used);
      words = λ cell before after had has used no_map no_table lost.
          absurd (lost (used_is_live leaves.exact has used));
      pairs = λ map before after had has lost.
          absurd (lost (subst (BelongsToReached new graph) has.stands
          (used_is_live leaves.exact has.has (ap is_free_kind has.of_kind))));
      tables = λ cell before after had has is unnamed.
          absurd (unnamed (keeps.named cell after has (subst IsOwnedKind (sym is) tt)));
      keys = λ map key has. exact_keys shown keeps map key has;
      stands = λ cell words has. packed_stands old leaves.exact has (is_free_kind cell.layout.kind) refl;
      filled = dead_fills keeps.shows.whole.rows leaves.dead;
      free = leaves.free;
      apart = leaves.apart;
      places = leaves.places;
      fronts = copies_take_fronts leaves;
      rooms = leaves.rooms;
      few = omega (arith, leaves.few, leaves.emptied);
    }
