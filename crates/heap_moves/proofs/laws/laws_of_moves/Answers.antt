use Rattle.heap_moves.proofs.MovedWhole.{moves_keep_whole}
use Rattle.heap_moves.proofs.MovedGraphs.{moves_show, reached_stay}
use Rattle.heap_moves.proofs.MovedRooms.{moves_keep_room}
use Rattle.heap_moves.proofs.RoomsStay.{moves_keep_rooms}
use Rattle.heap_moves.proofs.Unmoved.{heaps_are_moved}
use Rattle.heap_moves.proofs.laws.laws_of_moves.Goals as goal

pub returns-clause-whole : goal.returns-clause-whole
returns-clause-whole c = moves_keep_whole

pub returns-clause-show : goal.returns-clause-show
returns-clause-show c = moves_show

pub returns-clause-reached : goal.returns-clause-reached
returns-clause-reached c = reached_stay

pub returns-clause-room : goal.returns-clause-room
returns-clause-room c = moves_keep_room

pub returns-clause-itself : goal.returns-clause-itself
returns-clause-itself c = heaps_are_moved

pub returns-clause-rooms : goal.returns-clause-rooms
returns-clause-rooms c = moves_keep_rooms
