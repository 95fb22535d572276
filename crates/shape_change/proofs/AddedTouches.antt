-- What was touched where a field came to a plain object is remembered.
use Rattle.std.proofs.Common.{◌≡◌, ℕ, ◌++◌, List, [], ◌∷◌, length, Some, nat_lt, refl, arith}
use Rattle.page_space.specs.Extents.{eden_start}
use Rattle.page_space.proofs.Starts.{roots_start_is, layouts_start_is}
use Rattle.heap_model.specs.Types.{Field, Path, Cell}
use Rattle.heap_model.specs.Remembered.{Touch}
use Rattle.write_barrier.specs.MutatorState.{Mutator, heap_of, reserved}
use Rattle.write_barrier.specs.Recording.{Touches, untouched, touched_one, touched_then}
use Rattle.object_cells.specs.SureCells.{RemembersSurely}
use Rattle.write_barrier.proofs.Recording.{same_touch, then_touch}
use Rattle.object_cells.specs.CellWrites.{reshaped}
use Rattle.object_cells.proofs.FieldWords.{path_field}
use Rattle.object_cells.proofs.TouchedCells.{touches_next}
use Rattle.object_cells.proofs.TouchedFields.{TouchesObject, refields}
use Rattle.shape_change.specs.Additions.{AddsPath}
use Rattle.shape_change.specs.Shifts.{field_touch}
use Rattle.shape_change.proofs.FieldsAlike.{push_last, added_alike}
use Rattle.shape_change.proofs.OneAdded.{AddsOne}
use Rattle.shape_change.proofs.RunTouches.{TouchesWith}
use Rattle.shape_change.proofs.TouchedSlots.{slot_remembered}

-- what was touched once a path was added and words were reserved, and then the header was put
pub path_touches : {old mid new : Mutator} {path : Path} {shape object : ℕ} {touch : ℕ → Touch} (need : ℕ)
    → AddsPath (reserved old need) mid path shape → old.recorded.bound ≡ eden_start old.seat.space
    → Touches mid new (touched_then touch (touched_one Touch.Wiped object)) → TouchesObject old new object touch
path_touches {old} {mid} {object = object} {touch} need adds bounded touches =
    let space = old.seat.space in
    let first : Touches old mid untouched =
    same_touch old mid adds.free adds.recorded (λ at below.
    adds.stay at (omega (arith, below, bounded, roots_start_is space, layouts_start_is space))) in
    let all = touched_then touch (touched_one Touch.Wiped object) in
    TouchesObject.header (touches_next untouched all (λ at below. refl) (then_touch first touches))

-- so it is remembered where the word of the field was put in a slot that the object had
pub one_remembered : {old new : Mutator} {cell : Cell} {next at word : ℕ} {others made : List Cell}
    {fields : List Field} {field : Field}
    (one : AddsOne (heap_of old) (heap_of new) cell next at word others made fields field)
    → TouchesWith old new cell made
    (touched_one (field_touch (nat_lt (length fields) cell.layout.cap)
    (Some (record { name = field.name; rep = field.rep }))) at)
    → RemembersSurely old new (cell ∷ others) (reshaped new.paths cell next ∷ others) made
one_remembered {cell = cell} {fields = fields} {field} one touches =
    let puts = one.puts in
    let cap : ℕ = cell.layout.cap in
    slot_remembered (record { name = field.name; rep = field.rep })
    (refields puts.whole puts.has one.sound.shape one.was one.path refl puts.writes) puts.whole puts.plain one.numbered
    one.place (path_field cap (fields ++ field ∷ []) (length fields) field (push_last fields field))
    (added_alike cap fields field) touches
