-- What comes into a plain object from its store where a field was taken out, and the field of which it is.
use Rattle.std.proofs.Common.{◌≡◌, ℕ, ◌+◌, ◌<◌, ◌≤◌, true, false, List}
use Rattle.std.proofs.Common.{length, Some, slice_get, get_or, nat_lt, refl, sym, ◌∙◌, ap, subst, arith}
use Rattle.std.proofs.lemmas.Bool.Decides.{nat_tests}
use Rattle.std.proofs.lemmas.Option.{slice_get-get_or}
use Rattle.tagged_word.specs.declared.layout.Kind.TheVariants as kind
use Rattle.tagged_word.specs.Cells.{store_head}
use Rattle.heap_model.specs.Types.{Value, Rep, Field, Path, Cell}
use Rattle.object_graph.specs.declared.value.Rep.TheVariants as rep
use Rattle.shape_tree.specs.Shapes.{shape_path}
use Rattle.write_barrier.specs.Seats.{heap_words}
use Rattle.heap_model.specs.Heaps.{Heap}
use Rattle.heap_model.specs.Kinds.{HasWord}
use Rattle.heap_model.specs.Showing.{ShowsField}
use Rattle.heap_model.proofs.WordsStay.{PlacesStay, BoxStays, shown_value}
use Rattle.write_barrier.specs.MutatorState.{Mutator, heap_of}
use Rattle.object_cells.specs.OwnSlots.{IsNoBoxOf}
use Rattle.shape_change.specs.Shifts.{slot_at}
use Rattle.shape_change.specs.Deletions.{IsDrawnIn}
use Rattle.object_cells.proofs.FieldWords.{path_field}
use Rattle.object_cells.proofs.StoreCells.{is_store_cell}
use Rattle.shape_change.proofs.SlotAddresses.{slot_at-beside, slot_read}
use Rattle.shape_change.proofs.DeletedSlots.{Deleting, cap_is, room_is, address_is}
use Rattle.shape_change.proofs.DeletedCells.{others_of}

-- what was drawn in shows the field that its word showed in the store
pub drawn_shown : {old new : Heap} (word drawn : ℕ) (one : Rep) (value : Value)
    → PlacesStay old new → BoxStays old new word
    → IsDrawnIn old one word drawn → ShowsField old false word one value → ShowsField new true drawn one value
drawn_shown word drawn one value places box is (ShowsField.small_integer v small same) =
    ShowsField.small_integer v small (is ∙ same)
drawn_shown word drawn one value places box is (ShowsField.wide v refers) =
    ShowsField.wide v (is v refers, refers.fits)
drawn_shown {new = new} word drawn one value places box is (ShowsField.tagged to shows) =
    subst (λ w. ShowsField new true w rep.Tagged to) (sym is) (ShowsField.tagged to (shown_value word places box shows))

-- it is the word itself, where the field is not wide
pub drawn_is : (heap : Heap) (word drawn : ℕ) (one : Rep) → IsDrawnIn heap one word drawn → (one ≡ rep.Wide → ⊥)
    → drawn ≡ word
drawn_is heap word drawn rep.Small is apart = is
drawn_is heap word drawn rep.Wide is apart = absurd (apart refl)
drawn_is heap word drawn rep.Tagged is apart = is

-- no store is a box
pub no_box : {old new : Mutator} {cell : Cell} {slot : ℕ} {fields : List Field} (word : ℕ)
    (deleting : Deleting old new cell slot fields) → IsNoBoxOf (others_of deleting) word
no_box word deleting other there boxed same =
    let is = is_store_cell deleting.shows.has.stands other there in
    let kinds : kind.Boxed ≡ kind.Store = sym boxed ∙ is.of_kind in
    cc

-- What was drawn in, and the field of which it is.
pub record DrawnField (old new : Mutator) (cell : Cell) (slot : ℕ) (fields : List Field)
    (deleting : Deleting old new cell slot fields) (field : Field) : Type 0 where
  pub word : ℕ
  pub stands : HasWord deleting.shows.slots cell.layout.cap word
  pub drawn : IsDrawnIn (heap_of old) field.rep word deleting.taken.first
  pub shows : ShowsField (heap_of old) false word field.rep field.value

-- the field behind the cap was drawn in
pub drawn_field : {old new : Mutator} {cell : Cell} {slot : ℕ} {fields : List Field} (field : Field)
    (deleting : Deleting old new cell slot fields) → cell.layout.cap ≤ deleting.taken.last
    → slice_get fields cell.layout.cap ≡ Some field → DrawnField old new cell slot fields deleting field
drawn_field {old} {cell = cell} {fields = fields} field deleting some there =
    let shows = deleting.shows in
    let taken = deleting.taken in
    let cap : ℕ = cell.layout.cap in
    let caps = cap_is deleting in
    let below : cap < length shows.slots = omega (arith, room_is deleting, some) in
    let word : ℕ = get_or shows.slots cap 0 in
    let stands : HasWord shows.slots cap word = slice_get-get_or shows.slots cap 0 below in
    let beside = taken.has_beside (omega (arith, caps, some)) in
    let at : slot_at cell.at taken.cap taken.store cap ≡ taken.store + store_head =
    slot_at-beside cell.at taken.cap taken.store cap (omega (arith, caps)) ∙ omega (arith, caps) in
    let read : slice_get (heap_words old.seat) (taken.store + store_head) ≡ Some word =
    ap (slice_get (heap_words old.seat)) (sym at ∙ address_is deleting cap some)
    ∙ slot_read cap deleting.has shows.of_kind shows.has below ∙ stands in
    let of_path : slice_get (shape_path old.paths cell.header.shape).fields (shape_path old.paths cell.header.shape).cap
    ≡ Some (record { name = field.name; rep = field.rep }) =
    ap (slice_get (shape_path old.paths cell.header.shape).fields) (ap (λ (p : Path). p.cap) shows.path)
    ∙ ap (λ (p : Path). slice_get p.fields cap) shows.path ∙ path_field cap fields cap field there in
    let test : nat_lt cap cap ≡ false = grind (arith, nat_tests) in
    record {
      word = word;
      stands = stands;
      drawn = beside.drawn (record { name = field.name; rep = field.rep }) word of_path read;
      shows = subst (λ own. ShowsField (heap_of old) own word field.rep field.value) test
          (shows.each cap field word there stands);
    }
