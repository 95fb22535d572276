-- What is left when events from a fresh world have come.
use Rattle.std.proofs.Common.{◌+◌, ◌≡◌, List, refl, sym, subst}
use Rattle.std.specs.List.{Contains}
use Rattle.scav_copy.specs.Places.{Fixed, IsLaidOut, StoodAt}
use Rattle.scav_copy.specs.Copies.{Copying}
use Rattle.scav_copy.proofs.Ending.{one_each, end_is_renaming}
use Rattle.scav_core.specs.declared.event.Event.{Event}
use Rattle.scav_core.specs.declared.workers.WorkerView.{WorkerView}
use Rattle.scav_core.specs.declared.world.World.{World}
use Rattle.scav_core.specs.Worlds.{fixed_of, IsFresh}
use Rattle.scav_core.specs.Runs.{ArePossible, after_all}
use Rattle.scav_core.specs.Underway.{IsLogged, Underway}
use Rattle.scav_core.specs.WorldLaws.{HasHeaders, HasCopies, IsCopying, IsUntouched, HasWork, HasLogs}
use Rattle.scav_core.specs.WorldLaws.{IsRenamedWhenDone}
use Rattle.scav_core.specs.WorldLaws.{UnderwayHasFacts}
use Rattle.scav_core.proofs.Events.{fresh_is_underway, lists_keep}
use Rattle.scav_core.proofs.Unchanged.{fixed_after}

-- a world that events made of a fresh one
pub record Outcome (start world : World) : Type 0 where
  pub underway : Underway world
  pub fixed : fixed_of world ≡ fixed_of start

-- the world after possible events from a fresh one is such a world
pub outcome : (start world : World) (events : List Event) → ArePossible start events → world ≡ after_all start events
    → IsFresh start → Outcome start world
outcome start world events possible e fresh =
    subst (Outcome start) (sym e) (record {
      underway = lists_keep start events (fresh_is_underway start fresh) possible;
      fixed = fixed_after start events;
    })

-- what holds of its own fixed part holds of the start's
pub copying_of : {start world : World} → Outcome start world → IsCopying start world
copying_of {start} {world} out =
    subst (λ (fixed : Fixed). Copying fixed world.words world.homes) out.fixed out.underway.copying

-- headers refer to one home each, or are as before
pub has_headers : {start world : World} → Outcome start world → HasHeaders start world
has_headers out =
    record { one_each = one_each out.underway.laid out.underway.copying; each = (copying_of out).headers }

-- home copies are their cells, and have words of a room to themselves
pub has_copies : {start world : World} → Outcome start world → HasCopies start world
has_copies out =
    let copying = copying_of out in
    record {
      reached = copying.reached;
      housed = copying.housed;
      apart = copying.apart;
      words = copying.copied;
      slots = λ home offset there is.
          copying.live (home.to + offset) (home.from + offset) (StoodAt.in_cell home offset there is refl refl);
    }

-- all outside is as before
pub is_outside : {start world : World} → Outcome start world → IsUntouched start world
is_outside out = (copying_of out).outside

-- each copy is to be done once
pub has_work : {start world : World} → Outcome start world → HasWork world
has_work out = record { board = out.underway.board; once = out.underway.work }

-- logs say what was done
pub has_logs : {start world : World} → Outcome start world → HasLogs start world
has_logs {start} {world} out =
    subst (λ (fixed : Fixed). (view : WorkerView) → Contains world.workers view
    → IsLogged fixed world.words world.homes view) out.fixed out.underway.logs

-- where no live slot refers to one of the cells, all is renamed
pub is_renamed : {start world : World} → Outcome start world → IsRenamedWhenDone start world
is_renamed {start} {world} out done =
    let laid = subst IsLaidOut out.fixed out.underway.laid in
    (end_is_renaming (fixed_of start) world.words world.homes laid (copying_of out) done).0

-- a world that is underway has all of these
pub underway_has_facts : UnderwayHasFacts
underway_has_facts world underway =
    let out : Outcome world world = record { underway = underway; fixed = refl } in
    record {
      headers = has_headers out;
      copies = has_copies out;
      copying = copying_of out;
      outside = is_outside out;
      work = has_work out;
      logs = has_logs out;
      renamed = is_renamed out;
    }
