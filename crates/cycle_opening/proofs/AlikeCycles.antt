-- A cycle that opens for a graph that the words show opens for each other one of as many objects that they show.
use Rattle.std.proofs.Common.{◌≡◌, ℕ, ◌<◌, inl, inr, List, length, Contains, IsTrue, refl, sym, ◌∙◌, arith}
use Rattle.object_graph.specs.Graphs.{Graph}
use Rattle.object_graph.specs.Reach.{is_marked, reach}
use Rattle.heap_model.specs.Types.{Path}
use Rattle.heap_model.specs.Showing.{Shows}
use Rattle.heap_model.proofs.ReachedStays.{reach_below}
use Rattle.live_cells.proofs.ReachedMarked.{shown, shown_place}
use Rattle.mark_world.specs.BetweenCommands.{IsBornObject}
use Rattle.mark_world.specs.Cycles.{Cycle}
use Rattle.cycle_state.specs.Keeping.{KeepsClosed}
use Rattle.cycle_state.specs.Resting.{IsPageCell, IsUsedPageCell, Rests}
use Rattle.cycle_laws.specs.LostWords.{IsLostWord}
use Rattle.cycle_laws.specs.Openings.{Opens}
use Rattle.cycle_laws.proofs.Opening.{cycles_open}
use Rattle.cycle_laws.proofs.ReachedKept.{reached_is_kept}
use Rattle.shared_table.specs.Owned.{Own}
use Rattle.cycle_opening.specs.Opened.{heap_with}
use Rattle.cycle_opening.proofs.AlikeCells.{cell_alike, place_alike, slot_alike, entry_alike, root_alike, belongs_alike}

module _ {own : Own} {paths : List Path} (others : List Path) where
  -- what is kept is closed with other paths too
  keeps_alike : {cycle : Cycle} → KeepsClosed (heap_with own paths) cycle → KeepsClosed (heap_with own others) cycle
  keeps_alike keeps = record {
    roots = λ at target. keeps.roots at (root_alike paths target);
    closed = record {
      slots = λ from at kept slot. keeps.closed.slots from at kept (slot_alike paths slot);
      entries = λ table key at kept key_kept entry.
          keeps.closed.entries table key at kept key_kept (entry_alike paths entry);
    };
    numbers = λ number at place kept. keeps.numbers number at (place_alike paths place) kept;
  }

  -- a used cell of a page stands there with other paths
  used_cell_alike : {at : ℕ} → IsUsedPageCell (heap_with own paths) at → IsUsedPageCell (heap_with own others) at
  used_cell_alike there = record {
    cell = there.cell;
    words = there.words;
    has = cell_alike others there.has;
    stands = there.stands;
    of_page = there.of_page;
    used = there.used;
  }

  -- so does a cell of a page
  page_cell_alike : {at : ℕ} → IsPageCell (heap_with own paths) at → IsPageCell (heap_with own others) at
  page_cell_alike there = record {
    cell = there.cell;
    words = there.words;
    has = cell_alike others there.has;
    stands = there.stands;
    of_page = there.of_page;
    part = there.part;
  }

  -- so the heap rests in the cycle
  rests_alike : {cycle : Cycle} → Rests (heap_with own paths) cycle → Rests (heap_with own others) cycle
  rests_alike rests = record {
    keeps = keeps_alike rests.keeps;
    settled = rests.settled;
    free = λ start free. used_cell_alike (rests.free start free);
    mine = λ k d within. page_cell_alike (rests.mine k d within);
  }

-- what an object that was born has for its number, where no number was given since
born_reached : (reached : List ℕ) (made number : ℕ) → IsBornObject reached made number → number < made
    → Contains reached number
born_reached reached made number (inl there) below = there
born_reached reached made number (inr later) below = absurd (omega (arith, later, below))

-- What can be reached in another graph that the words show, and that has as many objects, can be in the first.
reached_alike : {own : Own} {graph another : Graph} {cycle : Cycle} → Opens (heap_with own graph.paths) graph cycle
    → Shows (heap_with own another.paths) another → length another.objects ≡ length graph.objects → (number : ℕ)
    → IsTrue (is_marked (reach another) number) → IsTrue (is_marked (reach graph) number)
reached_alike {own} {graph} {another} {cycle} opens shows counted number reached =
    let one = shown number shows reached in
    let place = shown_place (reach another) one.0 one.2 in
    let keeps : KeepsClosed (heap_with own another.paths) cycle = keeps_alike another.paths opens.rests.keeps in
    let kept = reached_is_kept _ another cycle number one.2.cell.at shows keeps reached place in
    let below : number < cycle.made = omega (arith, reach_below another number reached, counted, opens.counted) in
    (opens.reached number).0
    (born_reached cycle.reached cycle.made number (keeps.numbers number one.2.cell.at place kept) below)

-- a word that is lost with other paths, by graphs of which the same can be reached
lost_alike : {own : Own} {graph another : Graph} {at : ℕ}
    → ((number : ℕ) → IsTrue (is_marked (reach another) number) → IsTrue (is_marked (reach graph) number))
    → IsLostWord (heap_with own graph.paths) graph at → IsLostWord (heap_with own another.paths) another at
lost_alike {graph = graph} {another} back lost = record {
  cell = lost.cell;
  words = lost.words;
  has = cell_alike another.paths lost.has;
  of_cell = lost.of_cell;
  used = lost.used;
  lost = λ belongs. lost.lost (belongs_alike graph.paths back belongs);
}

-- A cycle that opens for one graph opens for the other.
pub opens_alike : {own : Own} {graph another : Graph} {cycle : Cycle} → Shows (heap_with own graph.paths) graph
    → Opens (heap_with own graph.paths) graph cycle → Shows (heap_with own another.paths) another
    → length another.objects ≡ length graph.objects → Opens (heap_with own another.paths) another cycle
opens_alike {own} {graph} {another} {cycle} shows opens also counted =
    let other = cycles_open (heap_with own another.paths) another also refl refl in
    let there : (number : ℕ) → IsTrue (is_marked (reach graph) number) → IsTrue (is_marked (reach another) number) =
    reached_alike other.1 shows (sym counted) in
    let back : (number : ℕ) → IsTrue (is_marked (reach another) number) → IsTrue (is_marked (reach graph) number) =
    reached_alike opens also counted in record {
      rests = rests_alike another.paths opens.rests;
      born = λ at. (
        λ counts. belongs_alike another.paths there ((opens.born at).0 counts),
        λ belongs. (opens.born at).1 (belongs_alike graph.paths back belongs),
      );
      starts = opens.starts;
      mine = opens.mine;
      sure = opens.sure;
      reached = λ number. (
        λ counts. there number ((opens.reached number).0 counts),
        λ reached. (opens.reached number).1 (back number reached),
      );
      counted = opens.counted ∙ sym counted;
      dead = record {
        of_pages = opens.dead.of_pages;
        each = λ at among. lost_alike back (opens.dead.each at among);
        all = λ at of_page lost. opens.dead.all at of_page (lost_alike there lost);
      };
    }
