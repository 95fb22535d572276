-- What is written before the marks leaves the regions, the phase, and how many words there are.
use Rattle.std.proofs.Common.{◌≡◌, ℕ, ◌+◌, ◌≤◌, ◌<◌, List, length, refl, sym, ap, subst, arith}
use Rattle.std.specs.Prelude.{ℤ, slice_set}
use Rattle.tagged_word.specs.Headers.{header_bits}
use Rattle.page_space.specs.Extents.{Space, layouts_start, marks_start}
use Rattle.page_space.proofs.Starts.{layouts_start_is, marks_start_is}
use Rattle.heap_model.specs.Types.{Held}
use Rattle.handle_roots.specs.Roots.{root_at, first_word, second_word}
use Rattle.write_barrier.specs.Seats.{Seat, heap_words, RestStays}
use Rattle.write_barrier.specs.Staying.{rest_stays_itself, rest_stays_again}
use Rattle.write_barrier.proofs.HeapWords.{stays_beside, stays_beside-put}
use Rattle.heap_model.specs.Slots.{raw_word, reference_word}
use Rattle.write_barrier.specs.MutatorState.{Mutator, with_table, with_variable, reserved}
use Rattle.write_barrier.specs.Values.{with_range}
use Rattle.write_barrier.proofs.PutRanges.{length-with_range}
use Rattle.object_cells.specs.Formats.{box_header}
use Rattle.object_cells.specs.declared.content.SlotWrite.{SlotWrite}
use Rattle.object_cells.specs.declared.content.SlotWrite.TheVariants as filling
use Rattle.object_cells.specs.Contents.{filled, with_box, AllocatesBox, IsBeforeLayouts}

-- the layout words stand before the marks
pub layouts_before_marks : (space : Space) → layouts_start space ≤ marks_start space
layouts_before_marks space = omega (arith, marks_start_is space)

-- where nothing has changed, all this stays
pub same_rest : {old new : Mutator} → new ≡ old → RestStays old.seat new.seat
same_rest {old} same =
    subst (λ (main : Mutator). RestStays old.seat main.seat) (sym same) (rest_stays_itself old.seat)

-- and where words were reserved
pub reserved_rest : {new : Mutator} (old : Mutator) (need : ℕ) → new ≡ reserved old need
    → RestStays old.seat new.seat
reserved_rest old need same =
    subst (λ (main : Mutator). RestStays old.seat main.seat) (sym same) (rest_stays_itself old.seat)

-- where they stayed, and then a word before the marks was put, a slot's or none, they have stayed
pub put_rest : {first mid last : Seat} (a word : ℕ) → RestStays first mid
    → last ≡ record mid { table = slice_set mid.table a word } → a < marks_start mid.space → RestStays first last
put_rest {first} {mid} {last} a word stays same below =
    rest_stays_again first mid last stays
    (subst (λ (other : Seat). RestStays mid other) (sym same) (stays_beside-put mid a word))

-- the rest stays where a stretch before the marks is put
pub range_beside : (main : Mutator) (at : ℕ) (others : List ℕ)
    → length (heap_words main.seat) ≡ marks_start main.seat.space
    → at + length others ≤ marks_start main.seat.space
    → RestStays main.seat (with_table main (with_range main.seat.table at others)).seat
range_beside main at others counted within =
    stays_beside main.seat (with_range main.seat.table at others)
    (length-with_range main.seat.table others at (omega (arith, counted, within)))

-- it stays where a box is made before the marks
pub box_beside : (main : Mutator) (at : ℕ) (v : ℤ) → at + 1 < marks_start main.seat.space
    → RestStays main.seat (with_box main at v).seat
box_beside main at v within =
    put_rest {last = (with_box main at v).seat} (at + 1) (raw_word v)
    (stays_beside-put main.seat at (header_bits box_header)) refl within

-- where a slot before the marks is filled
pub filled_beside : (main : Mutator) (at : ℕ) (filling : SlotWrite) → at < marks_start main.seat.space
    → IsBeforeLayouts main.seat.space filling → RestStays main.seat (filled main at filling).seat
filled_beside main at (filling.Tagged word) below room = stays_beside-put main.seat at word.0
filled_beside main at (filling.Raw word) below room = stays_beside-put main.seat at word
filled_beside main at (filling.NewBox box v) below room =
    put_rest {last = (filled main at (filling.NewBox box v)).seat} at (reference_word box)
    (box_beside main box v (omega (arith, room, layouts_before_marks main.seat.space))) refl below
filled_beside main at (filling.OldBox box v) below room =
    stays_beside-put main.seat (box + 1) (raw_word v)

-- where words are used, the seat stays
pub allocates_seat : (old new : Mutator) (filling : SlotWrite) → AllocatesBox old new filling → new.seat ≡ old.seat
allocates_seat old new (filling.Tagged word) same = ap (λ (main : Mutator). main.seat) same
allocates_seat old new (filling.Raw word) same = ap (λ (main : Mutator). main.seat) same
allocates_seat old new (filling.NewBox at v) more = ap (λ (main : Mutator). main.seat) more.1
allocates_seat old new (filling.OldBox at v) same = ap (λ (main : Mutator). main.seat) same

-- where words are used, others before the marks may change, and a slot before the marks is filled
pub filled_still : (old between laid : Mutator) (at : ℕ) (filling : SlotWrite) → AllocatesBox old between filling
    → RestStays between.seat laid.seat → at < marks_start old.seat.space → IsBeforeLayouts old.seat.space filling
    → RestStays old.seat (filled laid at filling).seat
filled_still old between laid at filling allocates stays below room =
    let first : RestStays old.seat laid.seat =
    subst (λ (seat : Seat). RestStays seat laid.seat) (allocates_seat old between filling allocates) stays in
    rest_stays_again old.seat laid.seat (filled laid at filling).seat first
    (filled_beside laid at filling (subst (λ (s : Space). at < marks_start s) (sym first.space) below)
    (subst (λ (s : Space). IsBeforeLayouts s filling) (sym first.space) room))

-- and where a variable comes to hold something
pub variable_beside : (main : Mutator) (variable : ℕ) (held : Held) → variable < main.seat.space.variables
    → RestStays main.seat (with_variable main variable held).seat
variable_beside main variable held known =
    let space : Space = main.seat.space in
    let at : ℕ = root_at space variable in
    let below : at + 1 < marks_start space = omega (arith, known, layouts_start_is space, marks_start_is space) in
    put_rest {last = (with_variable main variable held).seat} (at + 1) (second_word held)
    (stays_beside-put main.seat at (first_word held)) refl below
