-- A field is taken out of a plain object: its path is added, its slots are closed, and its header is put.
use Rattle.std.proofs.Common.{◌≡◌, ◌≢◌, ℕ, suc, ◌+◌, ◌<◌, ◌≤◌, List, length, Some, slice_get, sym, ◌∙◌, ap, subst, inl}
use Rattle.std.proofs.Common.{inr}
use Rattle.std.proofs.Common.{arith, length-append, length-take, length-drop, take, drop, refl}
use Rattle.std.specs.Prelude.{slice_set, Ok, nat_lt}
use Rattle.std.proofs.lemmas.Bool.Decides.{nat_tests}
use Rattle.heap_model.specs.Types.{Header, Path}
use Rattle.page_space.specs.Extents.{Space, eden_start, layouts_start, marks_start}
use Rattle.page_space.proofs.Starts.{layouts_start_is, marks_start_is}
use Rattle.object_graph.proofs.Lists.{slice_get-set_same, slice_get-set_other}
use Rattle.shape_tree.specs.Shapes.{shape_path, without, Leads, AreShapes}
use Rattle.shape_tree.specs.ShapeLayouts.{layout_word}
use Rattle.write_barrier.specs.Seats.{heap_words}
use Rattle.write_barrier.specs.Staying.{rest_stays_again}
use Rattle.heap_model.specs.Wholeness.{HasSizes, Whole}
use Rattle.heap_model.specs.Remembered.{Touch}
use Rattle.mark_world.specs.Soundness.{AreIn}
use Rattle.std.proofs.lemmas.List.Elements.{All-contains_itself}
use Rattle.std.proofs.lemmas.Bool.{cases_eq}
use Rattle.write_barrier.specs.Marking.{with_blackened}
use Rattle.write_barrier.specs.SureStores.{StoresBlack, StoresSurely}
use Rattle.write_barrier.proofs.SureStores.{sure_stays}
use Rattle.write_barrier.proofs.JudgedSlots.{wiped_bound}
use Rattle.write_barrier.specs.MutatorState.{Mutator, heap_of, with_word}
use Rattle.write_barrier.specs.Recording.{Touches, touched_one, touched_again, touched_then}
use Rattle.write_barrier.proofs.Recording.{same_touch, touch_alike, then_touch}
use Rattle.write_barrier.proofs.TouchedRanges.{touched_here, touched_other}
use Rattle.object_cells.proofs.TouchedCells.{again_behind}
use Rattle.shape_change.specs.Shifts.{KeepsRest, ClosesSlots, slot_at, ClosesGap, SlotsWithin, field_touch, own_touch}
use Rattle.shape_change.specs.Deletions.{AddsPaths, HasFirstInStore, shaped_bits, TakesFieldOut, HasStoreAt}
use Rattle.shape_change.specs.Deletions.{DrawsInFirst, FindsWithout}
use Rattle.shape_change.proofs.SlotTouches.{word_put}
use Rattle.shape_change.proofs.WordsMoved.{rest_word, rest_then}
use Rattle.shape_change.proofs.SlotsClosed.{own_closed}
use Rattle.shape_change.proofs.SlotAddresses.{SlotsStand}
use Rattle.tagged_word.specs.Cells.{plain_head}
use Rattle.heap_model.specs.Slots.{hole_word}
use Rattle.object_cells.specs.CellsAt.{HasField}
use Rattle.shape_change.proofs.StoresFound.{own_stands, fields_stand}

-- a path has one field fewer without one
pub without_counted : (path : Path) (at : ℕ) → at < length path.fields
    → suc (length (without path at).fields) ≡ length path.fields
without_counted path at below =
    omega (
      arith,
      length-append (take at path.fields) (drop (suc at) path.fields),
      length-take at path.fields,
      length-drop (suc at) path.fields,
    )

-- the slot of a field stands before the layout words, and not where the header does
pub record SlotStands (main : Mutator) (object cap store one : ℕ) : Type 0 where
  pub below : slot_at object cap store one < layouts_start main.seat.space
  pub behind : object ≢ slot_at object cap store one

-- so does that of each of so many
pub slot_stands : (main : Mutator) (object cap store count one : ℕ) → SlotsStand (heap_of main) object cap store count
    → one < count → SlotStands main object cap store one
slot_stands main object cap store count one stand few = record {
  below = grind (arith, nat_tests, stand.own, stand.beside, layouts_start_is main.seat.space);
  behind = λ same. grind (arith, nat_tests, stand.apart);
}

-- the sizes stay where nothing changes from the layout words on
sized_stays : (old new : Mutator) → HasSizes (heap_of old) → KeepsRest old new
    → ((at : ℕ) → layouts_start old.seat.space ≤ at
    → slice_get (heap_words new.seat) at ≡ slice_get (heap_words old.seat) at)
    → HasSizes (heap_of new)
sized_stays old new sized rest same = record {
  words = rest.count ∙ sized.words ∙ ap marks_start (sym rest.beside.space);
  shapes = subst AreShapes (sym rest.paths) sized.shapes;
  layouts = λ shape below.
      ap (λ (space : Space). slice_get (heap_words new.seat) (layouts_start space + shape)) rest.beside.space
      ∙ same (layouts_start old.seat.space + shape) (omega arith) ∙ sized.layouts shape below
      ∙ ap (λ (paths : List Path). Some (layout_word paths shape)) (sym rest.paths);
}

-- what was wiped is no slot
wiped_is_no_slot : (first : Touch) → touched_again first Touch.Wiped ≡ Touch.Stored → ⊥
wiped_is_no_slot first is = cc

-- what was put surely stays so where a header is put
wiped_then : {mid new : Mutator} {touch : ℕ → Touch} (at word : ℕ) → new ≡ with_word mid at word
    → at < marks_start mid.seat.space → StoresSurely mid touch
    → StoresSurely new (touched_then touch (touched_one Touch.Wiped at))
wiped_then {mid} {new} {touch} at word is within surely = record {
  sure = λ mark one below bound stored. elim (cases_eq one at) [
    | inl same ↦
        absurd (wiped_is_no_slot (touch one) (sym (ap (touched_again (touch one))
        (ap (touched_one Touch.Wiped at) same ∙ touched_here Touch.Wiped at)) ∙ stored))
    | inr apart ↦
        let space = ap (λ (main : Mutator). main.seat.space) is in
        let bounds = ap (λ (main : Mutator). main.recorded.bound) is ∙ wiped_bound mid.recorded at (at + 1) in
        let below_mid : one < eden_start mid.seat.space = omega (arith, below, ap eden_start space) in
        let was = sym (ap (touched_again (touch one)) (touched_other Touch.Wiped at one apart)) ∙ stored in
        let grows = subst (λ (list : List ℕ). AreIn list mid.cycle.sure)
        (ap (λ (main : Mutator). main.cycle.sure) (sym is)) (All-contains_itself mid.cycle.sure) in
        sure_stays mid new one space below_mid grows
        (ap (λ (main : Mutator). slice_get (heap_words main.seat) one) is
        ∙ slice_get-set_other (heap_words mid.seat) at one word apart)
        (surely.sure (sym (ap (λ (main : Mutator). main.seat.phase) is) ∙ mark) one below_mid
        (omega (arith, bound, bounds)) was)
  ];
}

-- where paths were added first, the touches of what follows are all, since layout words stand in no page
paths_then : {old mid new : Mutator} {touch : ℕ → Touch} → AddsPaths old mid
    → old.recorded.bound ≤ layouts_start old.seat.space → Touches mid new touch → Touches old new touch
paths_then {old} {mid} {touch = touch} adds below touches =
    touch_alike (λ at of_page. again_behind (touch at))
    (then_touch
    (same_touch old mid adds.free adds.recorded (λ at of_page. adds.same at (omega (arith, of_page, below)))) touches)

-- a field was taken out, once its header is put
pub took_out : (old mid closed new : Mutator) (object : ℕ) (header : Header) (slot next cap last store first : ℕ)
    → Leads old.paths mid.paths (without (shape_path old.paths header.shape) slot) next → HasSizes (heap_of mid)
    → AddsPaths old mid → (shape_path old.paths header.shape).cap ≡ cap
    → length (shape_path old.paths header.shape).fields ≡ suc last
    → SlotsStand (heap_of old) object cap store (suc last)
    → (cap ≤ last → HasFirstInStore (heap_of old) object header.shape store first)
    → ClosesSlots mid closed object cap store slot last first (shape_path mid.paths next)
    → new ≡ with_word closed object (shaped_bits header next)
    → heap_words new.seat ≡ slice_set (heap_words closed.seat) object (shaped_bits header next)
    → StoresBlack old new object → TakesFieldOut old new object header slot
took_out old mid closed new object header slot next cap last store first leads sized adds caps counted stand has_beside
    closes is heap black =
    let bits : ℕ = shaped_bits header next in
    let space = old.seat.space in
    let path : Path = without (shape_path old.paths header.shape) slot in
    let before : object < layouts_start space = omega (arith, stand.own, layouts_start_is space) in
    let marks : marks_start closed.seat.space ≡ marks_start space =
    ap marks_start (closes.rest.beside.space ∙ adds.beside.space) in
    let within : object < marks_start closed.seat.space = omega (arith, marks, before, marks_start_is space) in
    let rest : KeepsRest mid new =
    rest_then mid closed new closes.rest (rest_word object bits is within) in
    let other : (at : ℕ) → object ≢ at → slice_get (heap_words new.seat) at ≡ slice_get (heap_words closed.seat) at =
    λ at apart. ap (λ words. slice_get words at) heap
    ∙ slice_get-set_other (heap_words closed.seat) object at bits (λ same. apart (sym same)) in
    let stay : (at : ℕ) → object ≢ at
    → ((one : ℕ) → slot ≤ one → one ≤ last → slot_at object cap store one ≢ at)
    → slice_get (heap_words new.seat) at ≡ slice_get (heap_words mid.seat) at =
    λ at apart out. other at apart ∙ closes.beside at out in
    let stands : (one : ℕ) → one ≤ last → SlotStands old object cap store one =
    λ one few. slot_stands old object cap store (suc last) one stand (omega (arith, few)) in
    let long : length (heap_words closed.seat) ≡ marks_start space =
    closes.rest.count ∙ sized.words ∙ ap marks_start adds.beside.space in
    record {
      next = next;
      leads = subst (λ (paths : List Path). Leads old.paths paths path next) (sym rest.paths) leads;
      sized = sized_stays mid new sized rest (λ at from.
          let behind : layouts_start space ≤ at =
          omega (arith, from, ap (λ (s : Space). layouts_start s) adds.beside.space) in
          stay at (λ same. omega (arith, same, before, behind))
          (λ one low high same. omega (arith, same, (stands one high).below, behind)));
      beside = rest_stays_again old.seat mid.seat new.seat adds.beside rest.beside;
      young = rest.young ∙ adds.young;
      cap = cap;
      caps = caps;
      last = last;
      counted = counted;
      store = store;
      first = first;
      has_beside = has_beside;
      moved = λ one low high apart.
          other (slot_at object cap store one) (stands one (omega (arith, high))).behind
          ∙ closes.moved one low high apart
          ∙ adds.same (slot_at object cap store (suc one)) (stands (suc one) (omega (arith, high))).below;
      drawn_in = λ one low high same.
          other (slot_at object cap store one) (stands one (omega (arith, high))).behind
          ∙ closes.drawn_in one low high same;
      hole = other (slot_at object cap store last) (stands last (omega arith)).behind ∙ closes.hole;
      headed = ap (λ words. slice_get words object) heap
          ∙ slice_get-set_same (heap_words closed.seat) object bits
          (omega (arith, long, before, marks_start_is space));
      stay = λ at below apart out. stay at apart out ∙ adds.same at below;
      black = black;
      touch = touched_then closes.touch (touched_one Touch.Wiped object);
      surely = wiped_then object bits is within closes.surely;
      touches = λ below. then_touch (paths_then adds below closes.touches) (word_put object bits is within);
      headed_touch = ap (touched_again (closes.touch object)) (touched_here Touch.Wiped object);
      slot_touches = λ one low high.
          let at : ℕ = slot_at object cap store one in
          ap (touched_again (closes.touch at))
          (touched_other Touch.Wiped object at (λ same. (stands one high).behind (sym same)))
          ∙ closes.slot_touches one low high
          ∙ ap (λ (paths : List Path). field_touch (nat_lt one cap) (slice_get (shape_path paths next).fields one))
          (sym rest.paths);
      others_touch = λ at apart out.
          ap (touched_again (closes.touch at)) (touched_other Touch.Wiped object at (λ same. apart (sym same)))
          ∙ closes.others_touch at out;
    }

-- the path without the field: as many in-object slots, and one field fewer
pub record IsOneFewer (old mid : Mutator) (shape next : ℕ) : Type 0 where
  pub cap : (shape_path mid.paths next).cap ≡ (shape_path old.paths shape).cap
  pub fields : suc (length (shape_path mid.paths next).fields) ≡ length (shape_path old.paths shape).fields
  pub marks : marks_start mid.seat.space ≡ marks_start old.seat.space
  pub layouts : layouts_start mid.seat.space ≡ layouts_start old.seat.space

-- where a cell was made black then, the shape is found as before
pub found_black : {old mid new : Mutator} {next : ℕ} (shape slot at : ℕ) → new ≡ with_blackened mid at
    → FindsWithout old mid shape slot (Ok next) → FindsWithout old new shape slot (Ok next)
found_black {old} {mid} {next = next} shape slot at is found =
    subst (λ (main : Mutator). FindsWithout old main shape slot (Ok next)) (sym is) (
      found.0,
      found.1,
      record {
        beside = found.2.beside;
        young = found.2.young;
        free = found.2.free;
        recorded = found.2.recorded;
        count = found.2.count;
        same = found.2.same;
      },
    )

module _ {old mid : Mutator} {object shape slot next : ℕ} (whole : Whole (heap_of old))
    (there : HasField (heap_of old) object shape slot) (found : FindsWithout old mid shape slot (Ok next)) where
  -- so is that of the shape that was found
  pub one_fewer : IsOneFewer old mid shape next
  one_fewer =
      let path = found.0.shape_is.of_path in
      let fewer = without_counted (shape_path old.paths shape) slot there.below in
      record {
        cap = ap (λ (p : Path). p.cap) path;
        fields = omega (arith, ap (λ (p : Path). length p.fields) path, fewer);
        marks = ap marks_start found.2.beside.space;
        layouts = ap layouts_start found.2.beside.space;
      }

  -- all slots of the object stand before the marks
  pub own_before_marks : object + (plain_head + (shape_path mid.paths next).cap) ≤ marks_start mid.seat.space
  own_before_marks =
      let space = old.seat.space in
      let own = own_stands whole there in
      omega (arith, one_fewer.cap, one_fewer.marks, own, layouts_start_is space, marks_start_is space)

  -- and before the layout words
  pub own_before_layouts : object + (plain_head + (shape_path mid.paths next).cap) ≤ layouts_start mid.seat.space
  own_before_layouts =
      omega (arith, one_fewer.cap, one_fewer.layouts, own_stands whole there, layouts_start_is old.seat.space)

  -- and those of the fields in its store, which are apart
  pub slots_within : (store : ℕ) → (shape_path old.paths shape).cap < length (shape_path old.paths shape).fields
      → HasStoreAt (heap_of old) object store → SlotsWithin mid object store next
  slots_within store some stored =
      let fewer = one_fewer in
      let stand = fields_stand store whole there (λ more. stored) in
      let layouts = layouts_start_is old.seat.space in
      let marks = marks_start_is old.seat.space in
      record {
        own = own_before_layouts;
        beside = omega (arith, fewer.cap, fewer.fields, fewer.layouts, stand.beside some, layouts, marks);
        apart = grind (arith, fewer.cap, fewer.fields, stand.apart);
      }

module _ {old mid closed new : Mutator} {object : ℕ} {header : Header} {slot next : ℕ}
    (black : StoresBlack old new object) (whole : Whole (heap_of old))
    (there : HasField (heap_of old) object header.shape slot) (found : FindsWithout old mid header.shape slot (Ok next))
    (is : new ≡ with_word closed object (shaped_bits header next))
    (heap : heap_words new.seat ≡ slice_set (heap_words closed.seat) object (shaped_bits header next)) where
  -- all fields stood in the object
  pub own_taken : length (shape_path old.paths header.shape).fields ≤ (shape_path old.paths header.shape).cap
      → ClosesGap mid closed (object + (plain_head + slot))
      (object + (plain_head + length (shape_path mid.paths next).fields)) hole_word
      (own_touch (shape_path mid.paths next) object)
      → TakesFieldOut old new object header slot
  own_taken own gap =
      let path = shape_path old.paths header.shape in
      let fewer = one_fewer whole there found in
      let last : ℕ = length (shape_path mid.paths next).fields in
      let stand = fields_stand 0 whole there (λ some. absurd (omega (arith, some, own))) in
      let stand_last = subst (λ n. SlotsStand (heap_of old) object path.cap 0 n) (sym fewer.fields) stand in
      took_out old mid closed new object header slot next path.cap last 0 0 found.0 found.1 found.2 refl
      (sym fewer.fields) stand_last (λ some. absurd (omega (arith, some, own, fewer.fields)))
      (own_closed mid closed (shape_path mid.paths next) object path.cap 0 slot last 0
      (omega (arith, there.below, fewer.fields))
      (omega (arith, own, fewer.fields)) gap)
      is heap black

  -- some fields stood in the store
  pub beside_taken : (store first : ℕ) → HasStoreAt (heap_of old) object store
      → DrawsInFirst (heap_of old) store header.shape first
      → ClosesSlots mid closed object (shape_path mid.paths next).cap store slot
      (length (shape_path mid.paths next).fields) first (shape_path mid.paths next)
      → TakesFieldOut old new object header slot
  beside_taken store first stored drawn closes =
      let fewer = one_fewer whole there found in
      let cap : ℕ = (shape_path mid.paths next).cap in
      let stand = fields_stand store whole there (λ some. stored) in
      let count : ℕ = length (shape_path old.paths header.shape).fields in
      let stand_cap = subst (λ n. SlotsStand (heap_of old) object n store count) (sym fewer.cap) stand in
      let stand_last = subst (λ n. SlotsStand (heap_of old) object cap store n) (sym fewer.fields) stand_cap in
      took_out old mid closed new object header slot next cap (length (shape_path mid.paths next).fields) store first
      found.0 found.1 found.2 (sym fewer.cap) (sym fewer.fields) stand_last
      (λ some. record { at = stored; drawn = drawn }) closes is heap black
