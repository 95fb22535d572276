-- Where all marked cells are visited, each cell is marked that is live from root words and from cells that are marked.
use Rattle.std.proofs.Common.{ℕ, ◌↔◌, inl, inr, List, Contains, length}
use Rattle.heap_model.specs.Heaps.{Heap}
use Rattle.heap_model.specs.Slots.{IsWeakCellAt}
use Rattle.live_cells.specs.Live.{IsLive, IsStart}
use Rattle.live_cells.specs.Marked.{HasRootTargets}
use Rattle.cell_list.specs.Listing.{Listing}
use Rattle.ephemeron_mark.specs.Marked.{IsLiveFrom}
use Rattle.ephemeron_mark.specs.Pairs.{Waits}
use Rattle.ephemeron_mark.specs.Progress.{AreVisited, AreMapsAmong}
use Rattle.ephemeron_mark.proofs.VisitedCells.{among_marked, marked_among}

module _ {heap : Heap} {cells : Listing} {waits : Waits} {given : List ℕ}
    (targets : HasRootTargets heap (Contains cells.addresses))
    (kept : (at : ℕ) → Contains given at → Contains cells.addresses at)
    (visited : AreVisited heap cells waits (length cells.addresses)) where
  -- each start is marked
  start_is_marked : (at : ℕ) → IsStart heap given at → Contains cells.addresses at
  start_is_marked at (IsStart.root target) = targets at target
  start_is_marked at (IsStart.among there) = kept at there

  -- so is each live cell
  pub live_is_marked : (at : ℕ) → IsLiveFrom heap given at → Contains cells.addresses at
  live_is_marked at (IsLive.start at' start) = start_is_marked at start
  live_is_marked at (IsLive.slot from at' live slot) =
      (visited from (marked_among cells from (live_is_marked from live))).slots at slot
  live_is_marked at (IsLive.entry table key at' live_table live_key entry) =
      let of_table = visited table (marked_among cells table (live_is_marked table live_table)) in
      let of_key = visited key (marked_among cells key (live_is_marked key live_key)) in
      elim (of_table.pairs key at entry) [
        | inl marked ↦ marked
        | inr waiting ↦ of_key.woken at waiting
      ]

  -- and the weak maps among the marked cells are the live ones
  pub maps_are_live : {maps : List ℕ} → ((at : ℕ) → Contains cells.addresses at → IsLiveFrom heap given at)
      → AreMapsAmong heap cells maps (length cells.addresses)
      → (at : ℕ) → Contains maps at ↔ (IsLiveFrom heap given at × IsWeakCellAt heap at)
  maps_are_live live maps_are at = (
    λ there. let both = (maps_are.are at).0 there in (live at (among_marked both.0), both.1),
    λ both. (maps_are.are at).1 (marked_among cells at (live_is_marked at both.0), both.1),
  )
