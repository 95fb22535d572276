-- What is read before a field that is there is set.
use Rattle.std.proofs.Common.{◌≡◌, ℕ, ◌<◌, Bool, List, length, Option, Some, slice_get, get_or, set, nat_lt, unwrap_or}
use Rattle.std.proofs.Common.{refl, sym, ◌∙◌, ap, subst, arith}
use Rattle.std.specs.Prelude.{option_map}
use Rattle.std.proofs.lemmas.Option.{same_Some, slice_get-get_or}
use Rattle.heap_model.specs.Types.{Value, Rep, Field, Path, PathField, Held}
use Rattle.object_graph.specs.declared.value.Value.TheVariants.{Undefined}
use Rattle.object_graph.specs.declared.value.Rep.TheVariants as rep
use Rattle.object_graph.specs.Paths.{path_of}
use Rattle.object_graph.specs.Objects.{revalued}
use Rattle.object_graph.specs.Values.{rep_of, join}
use Rattle.object_graph.specs.Graphs.{Graph, PlainObject}
use Rattle.shape_tree.specs.Shapes.{IsPathShape, shape_path, changed}
use Rattle.heap_model.specs.Heaps.{Heap}
use Rattle.heap_model.specs.Wholeness.{Whole}
use Rattle.handle_roots.specs.Roots.{FitsHeld}
use Rattle.heap_model.specs.Needs.{word_at}
use Rattle.heap_model.specs.Showing.{ShowsHeld}
use Rattle.write_barrier.specs.MutatorState.{Mutator, heap_of}
use Rattle.object_cells.specs.declared.content.SlotContent.{SlotContent}
use Rattle.shape_change.specs.declared.slots.Place.{Place}
use Rattle.shape_change.specs.declared.set_slot.SlotSetting.{SlotSetting}
use Rattle.shape_change.specs.FieldChanges.{IsShownSetting}
use Rattle.object_cells.specs.CellsAt.{HasField}
use Rattle.object_cells.specs.Contents.{held_rep, content_of, HoldsSlotWord}
use Rattle.shape_change.specs.Fillings.{IsSlotSetting}
use Rattle.shape_change.specs.Places.{place_at, IsPlaceOf}
use Rattle.object_cells.proofs.FieldWords.{path_field}
use Rattle.object_cells.proofs.FieldsFound.{path_long}
use Rattle.shape_change.proofs.FieldsSet.{path_changed}
use Rattle.shape_change.proofs.FoundPlaces.{place_numbered}
use Rattle.object_cells.proofs.PlainFields.{slots_held, plain_shown, plain_sound, shape_there}
use Rattle.shape_change.proofs.Settings.{Setting, setting, slot_is_field}
use Rattle.shape_change.proofs.SetShown.{FillsAt, held_slot}
use Rattle.object_cells.proofs.SlotsNow.{numbered_stands}
use Rattle.object_cells.proofs.HeldContents.{HoldsValue, held_rep_is, value_held}

-- The slot of the field is at the place, in the object itself or not; the field had this representation, and the
-- shape's path is that of the fields.
pub record IsReadOf {old : Mutator} {graph : Graph} {object slot : ℕ} {plain : PlainObject} {what : Value} {name : ℕ}
    (s : Setting old graph object slot plain what name) (shape : ℕ) (place : Place) (own : Bool) (was : Rep) : Type 0
  where
    pub at_place : IsPlaceOf (heap_of old) s.cell.at s.cell.layout.cap slot place
    pub in_object : own ≡ nat_lt slot s.cell.layout.cap
    pub known : was ≡ s.field.rep
    pub path : shape_path old.paths shape ≡ path_of plain.cap plain.fields

-- a field for want of another
abbrev no_field : Field
no_field = record { name = 0; rep = rep.Small; value = Undefined }

-- the name of the field of a number
abbrev pub name_at : List Field → ℕ → ℕ
name_at fields slot = (get_or fields slot no_field).name

-- the shape of a plain object that has a field is a path's
pub field_path : {heap : Heap} {object shape slot : ℕ} → Whole heap → HasField heap object shape slot
    → IsPathShape heap.paths shape
field_path {heap} whole there =
    subst (IsPathShape heap.paths) there.of_shape (plain_sound whole there.has there.plain).shape

-- each graph that is shown has a field of this number
pub shown_setting : {old : Mutator} {object shape slot : ℕ} {held : Held} (shown : IsShownSetting old object held)
    → HasField (heap_of old) object shape slot → FitsHeld held
    → Setting old shown.graph object slot shown.plain shown.value (name_at shown.plain.fields slot)
shown_setting {old} {slot = slot} shown there fits =
    let plain = shown.plain in
    let known = plain_shown shown.shows shown.is in
    let path = ap (shape_path old.paths) (sym (shape_there there known.has known.stands)) ∙ known.shows.path in
    let few = path_long plain.fields path in
    let below : slot < length plain.fields = omega (arith, there.below, few) in
    setting shown.shows shown.is shown.is_held fits
    (ap (option_map (λ (field : Field). field.name)) (slice_get-get_or plain.fields slot no_field below))

module _ {old : Mutator} {graph : Graph} {object slot : ℕ} {plain : PlainObject} {what : Value} {name : ℕ}
    (s : Setting old graph object slot plain what name) where
  -- this is known of a field's representation and its path's cap
  pub is_read : (shape cap : ℕ) (place : Place) (own : Bool) (was : Rep) → HasField (heap_of old) object shape slot
      → cap ≡ (shape_path old.paths shape).cap → IsPlaceOf (heap_of old) object cap slot place → own ≡ nat_lt slot cap
      → option_map (λ (field : PathField). field.rep) (slice_get (shape_path old.paths shape).fields slot) ≡ Some was
      → IsReadOf s shape place own was
  is_read shape cap place own was there caps is in_object known =
      let of_shape = shape_there there s.has s.stands in
      let path : shape_path old.paths shape ≡ path_of s.cell.layout.cap plain.fields =
      ap (shape_path old.paths) (sym of_shape) ∙ s.shown.path in
      let same_cap : cap ≡ s.cell.layout.cap = caps ∙ ap (λ (p : Path). p.cap) path in
      let at_cell = subst (λ a. IsPlaceOf (heap_of old) a cap slot place) (sym s.stands) is in
      let rep_in : Path → Option Rep = λ p. option_map (λ (field : PathField). field.rep) (slice_get p.fields slot) in
      record {
        at_place = subst (λ n. IsPlaceOf (heap_of old) s.cell.at n slot place) same_cap at_cell;
        in_object = in_object ∙ ap (nat_lt slot) same_cap;
        known = same_Some was s.field.rep (sym known ∙ ap rep_in path
            ∙ ap (option_map (λ (field : PathField). field.rep))
            (path_field s.cell.layout.cap plain.fields slot s.field s.there));
        path = path ∙ ap (λ n. path_of n plain.fields) s.cap;
      }

  -- there is a slot for the field
  slot_is_there : slot < length s.shown.slots
  slot_is_there =
      let held = slots_held s.shows.shows.whole s.has s.shown in
      omega (arith, held.room, slot_is_field s)

  -- what the slot comes to hold for the value that is held, and what it held
  pub fills_at : {shape : ℕ} (place : Place) (own : Bool) (was one : Rep) (held : Held) (content : SlotContent)
      → IsReadOf s shape place own was → ShowsHeld (heap_of old) held (Some what) → one ≡ join was (held_rep held)
      → content ≡ content_of own one held → FillsAt s (place_at s.cell.at place) (get_or s.shown.slots slot 0) content
  fills_at place own was one held content read shows joins is =
      let heap = heap_of old in
      let below = slot_is_there in
      let there = slice_get-get_or s.shown.slots slot 0 below in
      let numbered = place_numbered slot place s.has s.shown.of_kind s.shown.has below read.at_place in
      let joined : join s.field.rep (rep_of what) ≡ one =
      ap (λ r. join r (rep_of what)) (sym read.known) ∙ ap (join was) (sym (held_rep_is held what shows)) ∙ sym joins in
      let holds : HoldsValue heap own s.field.rep one what (content_of own one held) =
      value_held own s.field.rep one held what shows joined in
      let holds_it = subst (HoldsValue heap own s.field.rep one what) (sym is) holds in
      let own_holds = subst (λ o. HoldsValue heap o s.field.rep one what content) read.in_object holds_it in
      record {
        numbered = numbered;
        holds = there;
        reads = ap (λ found. unwrap_or found 0)
            (numbered_stands slot (place_at s.cell.at place) s.has s.shown.of_kind s.shown.has numbered ∙ there);
        comes = subst (λ r. HoldsValue heap (nat_lt slot s.cell.layout.cap) s.field.rep r what content) (sym joined)
            own_holds;
      }

  -- where it comes to refer to a box it held a slot word
  pub held_there : {word : ℕ} {content : SlotContent} (place : Place)
      → FillsAt s (place_at s.cell.at place) word content
      → HoldsSlotWord (heap_of old) (word_at (heap_of old) (place_at object place)) content
  held_there {content = content} place fills =
      subst (λ a. HoldsSlotWord (heap_of old) (word_at (heap_of old) (place_at a place)) content) s.stands
      (held_slot s fills)

  -- the path with the wider representation is that of the fields with the one set
  pub wider_path : {shape : ℕ} {place : Place} {own : Bool} (was one : Rep) (held : Held)
      → IsReadOf s shape place own was → ShowsHeld (heap_of old) held (Some what) → one ≡ join was (held_rep held)
      → path_of plain.cap (set plain.fields slot (revalued s.field what))
      ≡ changed (shape_path old.paths shape) slot one
  wider_path was one held read shows joins =
      let joined : join s.field.rep (rep_of what) ≡ one =
      ap (λ r. join r (rep_of what)) (sym read.known) ∙ ap (join was) (sym (held_rep_is held what shows)) ∙ sym joins in
      path_changed plain.cap plain.fields slot s.field (revalued s.field what) s.there refl
      ∙ ap (changed (path_of plain.cap plain.fields) slot) joined ∙ ap (λ p. changed p slot one) (sym read.path)

  -- the slot's setting reads so
  pub setting_read : {shape : ℕ} {held : Held} {sets : SlotSetting} → HasField (heap_of old) object shape slot
      → IsSlotSetting (heap_of old) object shape slot held sets
      → IsReadOf s shape sets.place (nat_lt slot (shape_path old.paths shape).cap) sets.was
  setting_read {shape = shape} {sets = sets} there is =
      let cap = (shape_path old.paths shape).cap in
      is_read shape cap sets.place (nat_lt slot cap) sets.was there refl is.place refl is.was

  -- and so the slot comes to hold the value
  pub setting_fills : {shape : ℕ} {held : Held} {sets : SlotSetting} → HasField (heap_of old) object shape slot
      → IsSlotSetting (heap_of old) object shape slot held sets → ShowsHeld (heap_of old) held (Some what)
      → FillsAt s (place_at s.cell.at sets.place) (get_or s.shown.slots slot 0) sets.content
  setting_fills {shape = shape} {held} {sets} there is shows =
      fills_at sets.place (nat_lt slot (shape_path old.paths shape).cap) sets.was sets.rep held sets.content
      (setting_read there is) shows is.joins is.content
