-- What can be reached is kept, and so is what is live from kept starts.
use Rattle.live_cells.specs.Live.{IsLive, IsStart}
use Rattle.live_cells.proofs.ReachedMarked.{reached_is_marked}
use Rattle.cycle_state.specs.Keeping.{is_kept}
use Rattle.cycle_laws.specs.Reached.{ReachedIsKept, LiveIsKept}

-- what is kept is closed, and has what root words refer to
pub reached_is_kept : ReachedIsKept
reached_is_kept heap graph cycle number at shows keeps reached place =
    reached_is_marked heap graph (is_kept heap.space cycle.born) number at shows keeps.roots keeps.closed reached place

-- so it has each cell that is live from there
pub live_is_kept : LiveIsKept
live_is_kept heap cycle given at keeps kept (IsLive.start there (IsStart.root target)) = keeps.roots at target
live_is_kept heap cycle given at keeps kept (IsLive.start there (IsStart.among among)) = kept at among
live_is_kept heap cycle given at keeps kept (IsLive.slot from there live slot) =
    keeps.closed.slots from at (live_is_kept heap cycle given from keeps kept live) slot
live_is_kept heap cycle given at keeps kept (IsLive.entry table key there of_table of_key entry) =
    keeps.closed.entries table key at (live_is_kept heap cycle given table keeps kept of_table)
    (live_is_kept heap cycle given key keeps kept of_key) entry
