-- Once a field was taken out, each slot of a plain object shows the field that moved there, and names what that slot
-- named from which it moved; so the object's fields become those without the one.
use Rattle.std.proofs.Common.{◌≡◌, ℕ, ◌<◌, ◌≤◌, true, List, [], length, Some, slice_get, get_or, nat_lt, ltb-true, refl}
use Rattle.std.proofs.Common.{sym, ◌∙◌, ap, subst, arith, ◌+◌, ◌++◌, Contains, inl}
use Rattle.std.proofs.lemmas.Bool.{lt-ltb}
use Rattle.std.proofs.lemmas.Option.{same_Some, slice_get-get_or, slice_get_within}
use Rattle.object_graph.specs.declared.value.Value.TheVariants.{Undefined}
use Rattle.object_graph.specs.declared.value.Rep.TheVariants as rep
use Rattle.heap_model.specs.Types.{Field, Path, PathField, Cell}
use Rattle.object_graph.specs.Objects.{without_field}
use Rattle.object_graph.specs.Paths.{path_of}
use Rattle.shape_tree.specs.Shapes.{shape_path, without}
use Rattle.heap_model.specs.Slots.{hole_word, reference_word}
use Rattle.heap_model.specs.Kinds.{HasWord, HasNoNumber, IsStoreCell, IsSoundOf}
use Rattle.heap_model.specs.Showing.{ShowsField}
use Rattle.write_barrier.specs.MutatorState.{Mutator, heap_of}
use Rattle.object_cells.specs.OwnSlots.{NamesNone, ComesFrom}
use Rattle.object_cells.specs.SlotChanges.{IsTaggedSlot, HasTagged, ShowsSlot, RefillsSlots}
use Rattle.shape_change.proofs.FieldsLess.{origin_of, origin_of-behind, origins_few, AreLess, origins_apart}
use Rattle.object_cells.proofs.PlainFields.{plain_sound}
use Rattle.object_cells.proofs.FieldWords.{path_field, field_is_tagged, tagged_is_field}
use Rattle.object_cells.proofs.OwnSteps.{written_places_stay, written_box_stays}
use Rattle.object_cells.proofs.OwnerWrites.{plain_owns, becomes_cap}
use Rattle.object_cells.proofs.WrittenPlaces.{hole_names_none}
use Rattle.shape_change.proofs.DeletedSlots.{Deleting, count_is, NowHolds, room_is}
use Rattle.shape_change.proofs.DeletedCells.{others_of, deleted_writes, one_of, proto_stays, slots_now, now_read}
use Rattle.shape_change.proofs.MovedInFields.{drawn_shown, drawn_is, no_box, drawn_field}
use Rattle.std.proofs.lemmas.List.{append-nil}
use Rattle.tagged_word.specs.declared.layout.Kind.TheVariants as kind
use Rattle.tagged_word.specs.Cells.{store_slot, is_object_kind}
use Rattle.heap_model.specs.Heaps.{Heap, words_of_cell}
use Rattle.heap_model.specs.Wholeness.{IsOwnedKind, NamesFrom}
use Rattle.heap_model.proofs.ObjectSlots.{store_slot_at}
use Rattle.object_cells.proofs.StoreCells.{is_store_cell}

-- the field that a slot before the last shows
pub record FieldMoved (fields : List Field) (slot one : ℕ) : Type 0 where
  pub field : Field
  pub there : slice_get fields (origin_of slot one) ≡ Some field

module _ {old new : Mutator} {cell : Cell} {slot : ℕ} {fields : List Field}
    (deleting : Deleting old new cell slot fields) where
  -- the path of the new shape is that of the fields without the one
  pub path_now : (name : ℕ) → AreLess cell.layout.cap fields slot name
      → shape_path new.paths deleting.taken.next ≡ path_of cell.layout.cap (without_field fields name)
  path_now name less =
      deleting.taken.leads.shape_is.of_path ∙ ap (λ (p : Path). without p slot) deleting.shows.path ∙ less.path

  -- in the object a slot of the new shape is tagged only where its field is not wide
  not_wide : (name one : ℕ) (field : Field) → AreLess cell.layout.cap fields slot name
      → slice_get fields (origin_of slot one) ≡ Some field → IsTaggedSlot (one_of deleting) one → one < cell.layout.cap
      → field.rep ≡ rep.Wide → ⊥
  not_wide name one field less there tagged below wide =
      let path : Path = shape_path new.paths deleting.taken.next in
      let after : List Field = without_field fields name in
      let caps : path.cap ≡ cell.layout.cap = becomes_cap (deleted_writes deleting).becomes in
      let is = tagged_is_field (one_of deleting) path one refl tagged (omega (arith, caps, below)) in
      let found : slice_get path.fields one ≡ Some (record { name = field.name; rep = field.rep }) =
      ap (λ (p : Path). slice_get p.fields one) (path_now name less)
      ∙ path_field cell.layout.cap after one field (less.at one ∙ there) in
      is.apart (ap (λ (f : PathField). f.rep) (same_Some is.field _ (sym is.there ∙ found)) ∙ wide)

  -- a tagged slot was tagged before it moved, where it stands in the object exactly if it did
  was_tagged : (name one : ℕ) (field : Field) → AreLess cell.layout.cap fields slot name
      → slice_get fields (origin_of slot one) ≡ Some field → IsTaggedSlot (one_of deleting) one
      → nat_lt one cell.layout.cap ≡ nat_lt (origin_of slot one) cell.layout.cap
      → IsTaggedSlot cell (origin_of slot one)
  was_tagged name one field less there tagged alike =
      let shows = deleting.shows in
      let origin : ℕ = origin_of slot one in
      let in_path : slice_get (shape_path old.paths cell.header.shape).fields origin
      ≡ Some (record { name = field.name; rep = field.rep }) =
      ap (λ (p : Path). slice_get p.fields origin) shows.path ∙ path_field cell.layout.cap fields origin field there in
      let shape = (plain_sound deleting.whole deleting.has shows.of_kind).shape in
      field_is_tagged origin (record { name = field.name; rep = field.rep }) deleting.whole.sized deleting.has
      shows.of_kind shape in_path
      (λ test wide. not_wide name one field less there tagged (ltb-true one cell.layout.cap (alike ∙ test)) wide)

  -- each slot before the last shows one
  field_moved : (one : ℕ) → one < deleting.taken.last → FieldMoved fields slot one
  field_moved one below =
      let none : Field = record { name = 0; rep = rep.Small; value = Undefined } in
      let few : origin_of slot one < length fields = omega (arith, origins_few slot one, count_is deleting, below) in
      record {
        field = get_or fields (origin_of slot one) none;
        there = slice_get-get_or fields (origin_of slot one) none few;
      }

  -- what a tagged slot holds comes from the slot from which it moved, or names nothing
  pub slot_comes : (name one word : ℕ) → AreLess cell.layout.cap fields slot name
      → HasWord (slots_now deleting).now one word → IsTaggedSlot (one_of deleting) one
      → ComesFrom (heap_of new) (HasTagged cell deleting.shows.slots) [] (origin_of slot one) 0 one word
  slot_comes name one word less there tagged =
      elim (now_read deleting one word there) [
        | NowHolds.moved below stands alike ↦
            let moved = field_moved one below in
            ComesFrom.moved (stands, was_tagged name one moved.field less moved.there tagged alike)
        | NowHolds.drawn_in from below caps is ↦
            let moved = field_moved one below in
            let behind : origin_of slot one ≡ cell.layout.cap = origin_of-behind slot one from ∙ caps in
            let drawn = drawn_field moved.field deleting (omega (arith, caps, below))
            (ap (slice_get fields) (sym behind) ∙ moved.there) in
            let same : word ≡ drawn.word =
            is ∙ drawn_is (heap_of old) drawn.word deleting.taken.first moved.field.rep drawn.drawn
            (not_wide name one moved.field less moved.there tagged (omega (arith, caps))) in
            ComesFrom.moved (
              ap (slice_get deleting.shows.slots) behind ∙ drawn.stands ∙ ap (λ w. Some w) (sym same),
              λ below_cap. absurd (omega (arith, below_cap, behind)),
            )
        | NowHolds.hole from is ↦ ComesFrom.none (subst (NamesNone (heap_of new)) (sym is) hole_names_none)
      ]

  -- each slot shows the field that moved there
  pub slot_shows : (name one word : ℕ) (field : Field) → AreLess cell.layout.cap fields slot name
      → slice_get (without_field fields name) one ≡ Some field → HasWord (slots_now deleting).now one word
      → ShowsSlot (heap_of new) cell deleting.shows.slots (others_of deleting) fields (origin_of slot one) one word
      field
  slot_shows name one word field less of_field there =
      let was : slice_get fields (origin_of slot one) ≡ Some field = sym (less.at one) ∙ of_field in
      elim (now_read deleting one word there) [
        | NowHolds.moved below stands alike ↦
            ShowsSlot.kept field was refl refl stands alike (λ tagged. no_box word deleting)
        | NowHolds.drawn_in from below caps is ↦
            let behind : origin_of slot one ≡ cell.layout.cap = origin_of-behind slot one from ∙ caps in
            let drawn = drawn_field field deleting (omega (arith, caps, below))
            (ap (slice_get fields) (sym behind) ∙ was) in
            let writes = deleted_writes deleting in
            let places = written_places_stay plain_owns deleting.whole writes in
            let box = written_box_stays plain_owns deleting.whole writes drawn.word (no_box drawn.word deleting) in
            let shown = drawn_shown drawn.word deleting.taken.first field.rep field.value places box drawn.drawn
            drawn.shows in
            let test : nat_lt one cell.layout.cap ≡ true = lt-ltb one cell.layout.cap (omega (arith, caps)) in
            ShowsSlot.fresh (subst (λ own. ShowsField (heap_of new) own word field.rep field.value) (sym test)
            (subst (λ w. ShowsField (heap_of new) true w field.rep field.value) (sym is) shown))
        | NowHolds.hole from is ↦
            absurd (omega (
              arith,
              slice_get_within (without_field fields name) one field of_field,
              less.count,
              count_is deleting,
              from,
            ))
      ]

  -- what is behind the fields is a hole
  pub rest_is_hole : (name one word : ℕ) → AreLess cell.layout.cap fields slot name
      → length (without_field fields name) ≤ one → HasWord (slots_now deleting).now one word → word ≡ hole_word
  rest_is_hole name one word less from there = elim (now_read deleting one word there) [
    | NowHolds.moved below stands alike ↦ absurd (omega (arith, below, from, less.count, count_is deleting))
    | NowHolds.drawn_in behind below caps is ↦ absurd (omega (arith, below, from, less.count, count_is deleting))
    | NowHolds.hole behind is ↦ is
  ]

  -- the object names its store
  pub store_belongs : (other : Cell) → Contains (others_of deleting) other
      → (at : ℕ) × NamesFrom (heap_of old) cell at other.at
  store_belongs other there =
      let heap : Heap = heap_of old in
      let are = deleting.shows.has in
      let is = is_store_cell are.stands other there in (
        cell.at + store_slot,
        record {
          words = words_of_cell heap cell;
          has = deleting.has;
          object = ap is_object_kind deleting.shows.of_kind;
          word = are.store;
          of_owner = store_slot_at are.store (ap is_object_kind deleting.shows.of_kind) are.slot;
          cell = other;
          others = words_of_cell heap other;
          refers = is.refers;
          owned = subst IsOwnedKind (sym is.of_kind) tt;
          at = refl;
        },
      )

  -- its store has no number, and its slot refers to it
  store_told : (other : Cell) → Contains (others_of deleting) other
      → HasNoNumber other × (deleting.shows.has.store ≡ reference_word other.at)
  store_told other there =
      let heap : Heap = heap_of old in
      let is = is_store_cell deleting.shows.has.stands other there in
      let words : List ℕ = words_of_cell heap other in
      let sound : IsStoreCell heap other words =
      subst (λ k. IsSoundOf k heap other words) is.of_kind (deleting.whole.sound other words is.refers.has) in
      (sound.no_number, is.refers.refers)

  -- the fields of the object become those without the one, slot by slot
  pub deleted_refills : (name : ℕ) → AreLess cell.layout.cap fields slot name
      → RefillsSlots (heap_of old) (heap_of new) cell deleting.taken.next (others_of deleting) [] fields
      (without_field fields name)
  deleted_refills name less =
      let shows = deleting.shows in
      let now = slots_now deleting in
      let among : (other : Cell) → Contains (others_of deleting ++ []) other → Contains (others_of deleting) other =
      λ other there. subst (λ all. Contains all other) (append-nil (others_of deleting)) there in
      record {
        slots = shows.slots;
        were = shows.has;
        now = now.now;
        are = now.are;
        proto = proto_stays deleting;
        path = path_now name less;
        enough = omega (arith, less.count, count_is deleting, room_is deleting, now.long);
        refills = record {
          origin = origin_of slot;
          apart = λ one other word another there there_too. origins_apart slot one other;
          one = 0;
          each_slot = λ one word there. slot_comes name one word less there.0 there.1;
          store = now.are.store;
          has_store = now.are.slot;
          store_comes = inl (subst (HasWord (words_of_cell (heap_of old) cell) store_slot) (sym now.store)
              shows.has.slot);
          belong = λ other there. store_belongs other there;
          kinds = λ other there. absurd (omega (arith, there.1));
          stores = λ other there store.
              let told = store_told other (among other there) in (told.0, now.store ∙ told.1);
          boxes = λ other there boxed.
              let is = is_store_cell shows.has.stands other (among other there) in
              let kinds : kind.Boxed ≡ kind.Store = sym boxed ∙ is.of_kind in
              cc;
        };
        each_field = λ one word field of_field there. slot_shows name one word field less of_field there;
        rest = λ one word from there. rest_is_hole name one word less from there;
      }
