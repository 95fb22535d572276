use Rattle.live_cells.proofs.ClearedLive.{taken_pairs_leave_starts}
use Rattle.live_cells.proofs.LiveClosed.{live_is_closed_from_starts}
use Rattle.live_cells.proofs.TablesOfMaps.{maps_tell_from_starts}
use Rattle.live_cells.proofs.laws.laws_of_starts.Goals as goal

pub returns-clause-maps : goal.returns-clause-maps
returns-clause-maps c = maps_tell_from_starts

pub returns-clause-closed : goal.returns-clause-closed
returns-clause-closed c = live_is_closed_from_starts

pub returns-clause-taken : goal.returns-clause-taken
returns-clause-taken c = taken_pairs_leave_starts
