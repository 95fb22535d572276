-- What comes of a push: the heap shows the graph in which the value is the list's last element.
use Rattle.std.proofs.Common.{◌≡◌, ◌≢◌, ℕ, ◌+◌, ◌≤◌, ◌<◌, ◌==◌, ◌++◌, ◌∷◌, [], eq-eqb}
use Rattle.std.proofs.Common.{true, false, length, length-append, cond, sym, ◌∙◌, ap}
use Rattle.std.proofs.Common.{subst, arith}
use Rattle.std.proofs.lemmas.Bool.Decides.{nat_tests}
use Rattle.page_space.specs.Sizes.{AreWithin}
use Rattle.heap_model.specs.Types.{Value, Held}
use Rattle.object_graph.specs.Graphs.{Graph, ListObject}
use Rattle.object_graph.specs.Meaning.{list_most}
use Rattle.nursery.specs.Young.{HasRoom}
use Rattle.heap_model.specs.Needs.{capacity_at}
use Rattle.write_barrier.specs.MutatorState.{Mutator, heap_of}
use Rattle.object_cells.specs.Capacities.{ChangesObjectUsing}
use Rattle.object_cells.specs.Uses.{UsesMore}
use Rattle.object_cells.proofs.NewElements.{pushed_elements_are_new}
use Rattle.object_cells.proofs.OneElement.{DiffersAt, pushed_differs}
use Rattle.heap_model.specs.Needs.{grown_list}
use Rattle.heap_model.specs.Rooms.{push_need, push_capacity}
use Rattle.tagged_word.specs.Cells.{store_head}
use Rattle.object_cells.specs.Made.{content_need, store_content}
use Rattle.list_store.specs.ListChanges.{HasPushed}
use Rattle.list_store.specs.Pushes.{PushesAt}
use Rattle.list_store.proofs.PushNeeds.{need_to_store, need_to_new_store, push_need_is}
use Rattle.object_cells.proofs.ListChanging.{Changing, Elements}
use Rattle.list_store.proofs.TouchedSlots.{push_remembers}
use Rattle.list_store.proofs.TouchedStores.{new_store_remembers}
use Rattle.list_store.proofs.WrittenSlots.{slot_shown, slot_keeps}
use Rattle.list_store.proofs.PushedToNewStore.{to_new_store_shown, to_new_store_becomes}

-- one element more
abbrev pushed_elements : {old : Mutator} {graph : Graph} {at : ℕ} {list : ListObject} {value : Held}
    {what : Value} (count : ℕ)
    → Changing old graph at list value what → count ≡ length list.elements → length list.elements < list_most
    → Elements graph list what count (count + 1)
pushed_elements {graph = graph} {list = list} {what = what} count known is few = record {
  after = list.elements ++ what ∷ [];
  differs = subst (λ n. DiffersAt list.elements (list.elements ++ what ∷ []) n what) (sym is)
      (pushed_differs list.elements what);
  long = omega (arith, is, length-append list.elements (what ∷ []));
  few = omega (arith, is, few);
  are_new = pushed_elements_are_new graph list what known.shows.is_graph known.is.object known.is.reached few known.fits
      known.held.reached;
}

-- so the list has it
pub has_pushed : {old new : Mutator} {graph : Graph} {at count : ℕ} {list : ListObject} {value : Held} {what : Value}
    → Changing old graph at list value what → count ≡ length list.elements → length list.elements < list_most
    → AreWithin old.seat.space.sizes old.seat.space.variables → PushesAt old new at count value
    → HasPushed old new graph at list what
has_pushed {old} {new} {at = at} {count} {list} {value} {what} known is few sizes
    (PushesAt.to_store store can room pushes) =
    let heap = heap_of old in
    let held : ℕ = capacity_at heap at in
    let apart : count ≢ held = λ same. omega (arith, same, room, can.is.capacity) in
    let need : content_need (store_content value) ≡ push_need held list what =
    sym (need_to_store held count value apart) ∙ push_need_is list held count value known.held.shows is in
    let test : (length list.elements == held) ≡ false = grind (arith, nat_tests, is, can.is.capacity, room) in
    let becomes = pushed_elements count known is few in
    let enough : count + 1 ≤ store.capacity = omega (arith, room) in
    record {
      few = few;
      room = subst (HasRoom old.young) need pushes.room;
      uses = subst (UsesMore old new) need
          (record { beside = pushes.words.beside; young = pushes.words.young; free = pushes.touches.free });
      changes = subst (λ n. ChangesObjectUsing old new n at (push_capacity held (length list.elements))) need
          (subst (ChangesObjectUsing old new (content_need (store_content value)) at)
          (sym (ap (λ t. cond t (grown_list (length list.elements)) held) test))
          (subst (λ a. ChangesObjectUsing old new (content_need (store_content value)) a (capacity_at heap a))
          known.shown.stands (slot_keeps known becomes can.is room enough pushes.room pushes.words)));
      shows = slot_shown known becomes can.is room enough pushes.room pushes.words
          (push_remembers known becomes can.is room enough pushes.room pushes.words pushes.touches pushes.surely)
          pushes.stores;
      held = value;
      holds = known.held.shows;
      puts = subst (λ n. PushesAt old new at n value) is (PushesAt.to_store store can room pushes);
    }
has_pushed {old} {new} {at = at} {count} {list} {value} {what} known is few sizes
    (PushesAt.to_new_store store can full pushes) =
    let heap = heap_of old in
    let held : ℕ = capacity_at heap at in
    let full_now : count ≡ held = full ∙ sym can.is.capacity in
    let taken : ℕ = store_head + grown_list count + content_need (store_content value) in
    let need : taken ≡ push_need held list what =
    sym (need_to_new_store held count value full_now) ∙ push_need_is list held count value known.held.shows is in
    let test : (length list.elements == held) ≡ true = eq-eqb (length list.elements) held (sym is ∙ full_now) in
    let grows : grown_list count ≡ push_capacity held (length list.elements) =
    ap grown_list is ∙ sym (ap (λ t. cond t (grown_list (length list.elements)) held) test) in
    record {
      few = few;
      room = subst (HasRoom old.young) need pushes.room;
      uses = subst (UsesMore old new) need
          (record { beside = pushes.words.beside; young = pushes.words.young; free = pushes.touches.free });
      changes = subst (λ n. ChangesObjectUsing old new n at (push_capacity held (length list.elements))) need
          (subst (ChangesObjectUsing old new taken at) grows
          (subst (λ a. ChangesObjectUsing old new taken a (grown_list count)) known.shown.stands
          (to_new_store_becomes known can is few full pushes sizes)));
      shows = to_new_store_shown known can is few full pushes (new_store_remembers known can is few full pushes);
      held = value;
      holds = known.held.shows;
      puts = subst (λ n. PushesAt old new at n value) is (PushesAt.to_new_store store can full pushes);
    }
