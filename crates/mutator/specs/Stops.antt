-- Why a command stops where a field, an element or an entry is not set.
use Rattle.std.specs.Prelude.{◌≡◌, Bool, Result, Ok, Err, is_ok}
use Rattle.heap_command.specs.declared.command.FaultWord.TheVariants as word
use Rattle.shape_change.specs.declared.stop.FieldStop.{FieldStop}
use Rattle.shape_change.specs.declared.stop.FieldStop.TheVariants.{NotPlain, FieldsFull, ShapesFull, Full}
use Rattle.list_store.specs.declared.stop.PushStop.{PushStop}
use Rattle.list_store.specs.declared.stop.PushStop.TheVariants as push
use Rattle.list_store.specs.declared.stop.PutStop.{PutStop}
use Rattle.list_store.specs.declared.stop.PutStop.TheVariants as put
use Rattle.ephemeron_table.specs.declared.stop.TableStop.{TableStop}
use Rattle.ephemeron_table.specs.declared.stop.TableStop.TheVariants as table
use Rattle.mutator.specs.declared.stop.Stop.{Stop}
use Rattle.mutator.specs.declared.stop.Stop.TheVariants.{Fault, NoRoom, NoClear}

-- too many fields and too many paths are faults, and what is wanted of room is told
abbrev pub stop_of : FieldStop → Stop
stop_of NotPlain = Fault word.NotObject
stop_of FieldsFull = Fault word.FieldsFull
stop_of (ShapesFull full) = Fault word.ShapesFull
stop_of (Full room) = NoRoom room.need

-- how a command came out whose field was set, or was not
abbrev pub stop_in : Result Unit FieldStop → Result Unit Stop
stop_in (Ok _) = Ok tt
stop_in (Err stop) = Err (stop_of stop)

-- a command comes through where its field does
pub is_ok_in : (told : Bool) (came : Result Unit FieldStop) → told ≡ is_ok came → told ≡ is_ok (stop_in came)
is_ok_in told (Ok _) same = same
is_ok_in told (Err stop) same = same

-- too many elements are a fault, and what is wanted of room is told
abbrev pub stop_of_push : PushStop → Stop
stop_of_push push.ListFull = Fault word.ListFull
stop_of_push (push.Full room) = NoRoom room.need

-- an index that names no element is a fault, and what is wanted of room is told
abbrev pub stop_of_put : PutStop → Stop
stop_of_put put.Range = Fault word.Range
stop_of_put (put.Full room) = NoRoom room.need

-- too many pairs are no fault as long as some may be cleared, and what is wanted of room is told
abbrev pub stop_of_table : TableStop → Stop
stop_of_table (table.TableFull entries) = NoClear entries
stop_of_table (table.Full room) = NoRoom room.need
