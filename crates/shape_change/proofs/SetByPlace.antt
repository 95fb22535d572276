-- What comes of setting a field that is there, by what was read of its slot.
use Rattle.std.specs.Prelude.{Result, Err, option_map, slice_get}
use Rattle.std.proofs.Common.{◌≡◌, ◌<◌, ℕ, nat_lt, Some, refl, sym, ◌∙◌, ap, subst}
use Rattle.page_space.specs.Sizes.{AreWithin}
use Rattle.page_space.specs.Extents.{marks_start}
use Rattle.shape_tree.specs.Shapes.{shape_path, changed}
use Rattle.object_graph.specs.Objects.{revalued}
use Rattle.object_graph.specs.Values.{rep_of, join}
use Rattle.object_graph.specs.Graphs.{Graph, PlainObject}
use Rattle.heap_model.specs.Types.{Value, Held, Word, Rep, PathField}
use Rattle.heap_model.specs.Heaps.{Heap}
use Rattle.heap_model.specs.Showing.{ShowsHeld}
use Rattle.write_barrier.specs.MutatorState.{Mutator, heap_of}
use Rattle.write_barrier.specs.declared.room.NoRoom.{NoRoom}
use Rattle.object_cells.specs.CellsAt.{HasField}
use Rattle.object_cells.specs.declared.content.SlotContent.{SlotContent}
use Rattle.object_cells.specs.declared.content.SlotContent.TheVariants as content
use Rattle.object_cells.specs.declared.content.SlotWrite.TheVariants as filling
use Rattle.object_cells.specs.Contents.{content_of, filling_at, LacksRoom, FillsSlot}
use Rattle.object_cells.specs.CycleChanges.{MayFillSlot}
use Rattle.object_cells.proofs.FillsOn.{may_fill}
use Rattle.object_cells.proofs.HeldContents.{held_rep_is}
use Rattle.shape_change.specs.declared.set_slot.SlotSetting.{SlotSetting}
use Rattle.shape_change.specs.declared.stop.FieldStop.{FieldStop}
use Rattle.shape_change.specs.declared.stop.FieldStop.TheVariants as stop
use Rattle.shape_change.specs.FieldChanges.{HasSetField, SetsField}
use Rattle.shape_change.specs.Fillings.{IsSlotSetting, KeepsTagged, MayComeToHold, SetsWider}
use Rattle.shape_change.specs.declared.slots.Place.{Place}
use Rattle.shape_change.specs.Places.{place_at, IsPlaceOf}
use Rattle.shape_change.proofs.Settings.{Setting}
use Rattle.shape_change.proofs.SetOutcomes.{set_as_it_is}
use Rattle.shape_change.proofs.SetRefused.{refused_room, paths_enough, wider_sets}
use Rattle.shape_change.proofs.SettingFills.{as_it_is_can}
use Rattle.shape_change.proofs.SetThere.{setting_read, setting_fills, wider_path}

-- a slot that takes a tagged word as it is, is set so
pub kept_setting : {heap : Heap} {object shape slot cap : ℕ} {held : Held} {was : Rep} {place : Place} {word : Word}
    → IsPlaceOf heap object cap slot place → place_at object place < marks_start heap.space
    → cap ≡ (shape_path heap.paths shape).cap
    → option_map (λ (field : PathField). field.rep) (slice_get (shape_path heap.paths shape).fields slot) ≡ Some was
    → KeepsTagged was held word
    → IsSlotSetting heap object shape slot held
    (record { place = place; was = was; rep = was; content = content.Tagged word })
kept_setting {heap} {object} {shape} {slot} {place = place} is within cap read keeps = record {
  place = subst (λ n. IsPlaceOf heap object n slot place) cap is;
  within = within;
  was = read;
  joins = sym keeps.stays;
  content = sym (keeps.content (nat_lt slot (shape_path heap.paths shape).cap));
  held = tt;
}

module _ {old : Mutator} {graph : Graph} {object slot : ℕ} {plain : PlainObject} {what : Value} {name shape : ℕ}
    {held : Held} {sets : SlotSetting} (s : Setting old graph object slot plain what name)
    (within : AreWithin old.seat.space.sizes old.seat.space.variables)
    (there : HasField (heap_of old) object shape slot)
    (is : IsSlotSetting (heap_of old) object shape slot held sets) (shows : ShowsHeld (heap_of old) held (Some what))
  where
    -- where the representation that was read stays, that of the field does
    rep_stays : sets.rep ≡ sets.was → (revalued s.field what).rep ≡ s.field.rep
    rep_stays same =
        let known = (setting_read s there is).known in
        ap (λ r. join r (rep_of what)) (sym known) ∙ ap (join sets.was) (sym (held_rep_is held what shows))
        ∙ sym is.joins ∙ same ∙ known

    -- the field has the value where its slot was filled
    pub as_it_is_sets : {new : Mutator} → sets.rep ≡ sets.was
        → FillsSlot old new (place_at object sets.place) sets.content → HasSetField old new graph object plain name what
    as_it_is_sets {new} same filled_so =
        set_as_it_is s sets.place within (setting_fills s there is shows) (rep_stays same)
        (subst (λ a. FillsSlot old new (place_at a sets.place) sets.content) (sym s.stands) filled_so)

    -- and it may be filled so
    pub as_it_is_may : sets.rep ≡ sets.was → MayComeToHold old (place_at object sets.place) sets.content
    as_it_is_may same =
        subst (λ a. MayComeToHold old (place_at a sets.place) sets.content) s.stands (λ between allocates.
        may_fill between (place_at s.cell.at sets.place)
        (filling_at old (place_at s.cell.at sets.place) sets.content)
        (as_it_is_can s within between (setting_fills s there is shows) (rep_stays same) allocates))

    -- so it was where a tagged word was put, and the field keeps its representation
    pub kept_sets : {new : Mutator} (word : Word) → KeepsTagged sets.was held word
        → FillsSlot old new (place_at object sets.place) (content.Tagged word)
        → HasSetField old new graph object plain name what
    kept_sets {new} word keeps filled_so =
        let own = nat_lt slot (shape_path old.paths shape).cap in
        let stays : sets.rep ≡ sets.was = is.joins ∙ keeps.stays in
        let holds : sets.content ≡ content.Tagged word =
        is.content ∙ ap (λ r. content_of own r held) stays ∙ keeps.content own in
        as_it_is_sets stays
        (subst (λ (c : SlotContent). FillsSlot old new (place_at object sets.place) c) (sym holds) filled_so)

    -- which may be put
    pub kept_may : (word : Word) → KeepsTagged sets.was held word
        → MayFillSlot old (place_at object sets.place) (filling.Tagged word)
    kept_may word keeps =
        let own = nat_lt slot (shape_path old.paths shape).cap in
        let stays : sets.rep ≡ sets.was = is.joins ∙ keeps.stays in
        let holds : sets.content ≡ content.Tagged word =
        is.content ∙ ap (λ r. content_of own r held) stays ∙ keeps.content own in
        subst (λ (c : SlotContent). MayComeToHold old (place_at object sets.place) c) holds (as_it_is_may stays) old
        refl

    -- it is refused where there is no room for a box
    pub as_it_is_refused : {new : Mutator} (full : NoRoom) → sets.rep ≡ sets.was
        → LacksRoom old (filling_at old (place_at object sets.place) sets.content) full → new ≡ old
        → SetsField old new graph object plain name what (Err (stop.Full full))
    as_it_is_refused full same lacks unchanged =
        refused_room s _ refl sets.place within (setting_fills s there is shows) full (paths_enough s (rep_stays same))
        (subst (λ a. LacksRoom old (filling_at old (place_at a sets.place) sets.content) full) (sym s.stands) lacks)
        unchanged

    -- and this comes of it where the representation becomes wider
    pub widening_sets : (new : Mutator) (result : Result Unit FieldStop)
        → SetsWider old new object (place_at object sets.place) (changed (shape_path old.paths shape) slot sets.rep)
        sets.content result → SetsField old new graph object plain name what result
    widening_sets new result so =
        let path = changed (shape_path old.paths shape) slot sets.rep in
        wider_sets s path (wider_path s sets.was sets.rep held (setting_read s there is) shows is.joins) sets.place
        within
        (setting_fills s there is shows) new result
        (subst (λ a. SetsWider old new a (place_at a sets.place) path sets.content result) (sym s.stands) so)
