use Rattle.live_cells.proofs.ClearedLive.{taken_pairs_leave_live}
use Rattle.live_cells.proofs.LiveClosed.{live_is_closed}
use Rattle.live_cells.proofs.LiveKept.{reached_is_live}
use Rattle.live_cells.proofs.LiveReached.{live_is_reached}
use Rattle.live_cells.proofs.ReachedClosed.{reached_slots_lead_on, reached_entries_lead_on}
use Rattle.live_cells.proofs.ReachedMarked.{reached_is_marked}
use Rattle.live_cells.proofs.TablesOfMaps.{live_maps_tell}
use Rattle.live_cells.proofs.laws.laws_of_live_cells.Goals as goal

pub returns-clause-live : goal.returns-clause-live
returns-clause-live c = live_is_reached

pub returns-clause-marked : goal.returns-clause-marked
returns-clause-marked c = reached_is_marked

pub returns-clause-maps : goal.returns-clause-maps
returns-clause-maps c = live_maps_tell

pub returns-clause-closed : goal.returns-clause-closed
returns-clause-closed c = live_is_closed

pub returns-clause-taken : goal.returns-clause-taken
returns-clause-taken c = taken_pairs_leave_live

pub returns-clause-reached : goal.returns-clause-reached
returns-clause-reached c = reached_is_live

pub returns-clause-slots : goal.returns-clause-slots
returns-clause-slots c = reached_slots_lead_on

pub returns-clause-entries : goal.returns-clause-entries
returns-clause-entries c = reached_entries_lead_on
