-- A weak map and a key that can be reached can be once the key's entry was put, and so can what the entry's value
-- refers to: no way to either goes by that entry.
use Rattle.std.proofs.Common.{◌≡◌, ◌⊎◌, ◌<◌, inl, inr, ℕ, Bool, true, false, List, length, length-set, Some, slice_get}
use Rattle.std.proofs.Common.{refl, sym, ◌∙◌, ap, subst, arith}
use Rattle.std.specs.Prelude.{Contains, IsTrue}
use Rattle.std.proofs.lemmas.Bool.{cases_eq, false≢true}
use Rattle.std.proofs.lemmas.Option.{slice_get-get_or, slice_get_within, get_or_from_slice_get, same_Some}
use Rattle.heap_model.specs.Types.{Value, Entry, Object}
use Rattle.object_graph.specs.declared.value.Value.TheVariants.{Ref}
use Rattle.object_graph.specs.declared.object.Object.TheVariants.{Weak}
use Rattle.object_graph.specs.Graphs.{Graph, WeakObject}
use Rattle.object_graph.specs.Meaning.{reweave}
use Rattle.object_graph.specs.Objects.{with_entry}
use Rattle.object_graph.specs.Reach.{is_marked, reach}
use Rattle.object_graph.proofs.Lists.{slice_get-set_other, slice_get-set_same}
use Rattle.graph_laws.specs.ReachLaws.{HasBound, IsClosed, LinksTo}
use Rattle.graph_laws.proofs.Reaches.{reach_has_bound, reach_closed, reach_least}
use Rattle.weak_pairs.proofs.EntryLists.{IsEntryOf, entry_stays, put_there}

-- the entry that stands among these is contained in them
pub entry_among : {entries : List Entry} {entry : Entry} → IsEntryOf entries entry → Contains entries entry
entry_among {entries} {entry} is = (
  is.at,
  slice_get_within entries is.at entry is.stands,
  get_or_from_slice_get entries is.at entry entry is.stands,
)

module _ (graph : Graph) (weak : WeakObject) (number : ℕ) (what : Value)
    (there : slice_get graph.objects weak.number ≡ Some (Weak weak.entries)) where
  abbrev after : Graph
  after = reweave graph weak (with_entry weak.entries number what)

  abbrev inside : ℕ → Bool
  inside = is_marked (reach after)

  long : length after.objects ≡ length graph.objects
  long = length-set graph.objects weak.number (Weak (with_entry weak.entries number what))

  -- the map has its new entries
  new_entries : slice_get after.objects weak.number ≡ Some (Weak (with_entry weak.entries number what))
  new_entries =
      slice_get-set_same graph.objects weak.number (Weak (with_entry weak.entries number what))
      (slice_get_within graph.objects weak.number (Weak weak.entries) there)

  -- what can be reached then has what the map linked to, but by the entry of the key, if this can be reached then
  links_stay : (inside weak.number ≡ false) ⊎ (inside number ≡ false) → (one : ℕ) → inside weak.number ≡ true
      → one < length graph.objects → LinksTo inside (Weak weak.entries) one → inside one ≡ true
  links_stay (inl unreached) one held within linked = absurd (false≢true (sym unreached ∙ held))
  links_stay (inr unreached) one held within linked =
      let entry : Entry = linked.0 in
      let at : ℕ = linked.1.0 in
      let stands : slice_get weak.entries at ≡ Some entry =
      slice_get-get_or weak.entries at entry linked.1.1 ∙ ap (λ (e : Entry). Some e) linked.1.2 in
      let stays : IsEntryOf (with_entry weak.entries number what) entry =
      entry_stays weak.entries number (Some what) at entry
      (λ same. false≢true (sym unreached ∙ ap inside (sym same) ∙ linked.2)) stands in
      reach_closed after weak.number (Weak (with_entry weak.entries number what)) one new_entries held
      (omega (arith, long, within)) (entry, entry_among stays, linked.2, linked.3)

  -- so it is closed in the graph before, where one of the two could not be reached
  closed_before : (inside weak.number ≡ false) ⊎ (inside number ≡ false) → IsClosed graph inside
  closed_before none holder object one stands held within linked = elim (cases_eq holder weak.number) [
    | inl same ↦
        let is : object ≡ Weak weak.entries =
        same_Some object (Weak weak.entries)
        (sym stands ∙ ap (λ n. slice_get graph.objects n) same ∙ there) in
        links_stay none one (ap inside (sym same) ∙ held) within
        (subst (λ (o : Object). LinksTo inside o one) is linked)
    | inr apart ↦
        reach_closed after holder object one
        (slice_get-set_other graph.objects weak.number holder (Weak (with_entry weak.entries number what)) apart
        ∙ stands)
        held (omega (arith, long, within)) linked
  ]

  -- and so has all that could be reached before
  before_inside : (inside weak.number ≡ false) ⊎ (inside number ≡ false) → (one : ℕ)
      → IsTrue (is_marked (reach graph) one) → inside one ≡ true
  before_inside none one marked =
      let bound : HasBound graph inside =
      λ x other within at. reach_has_bound after x other (omega (arith, long, within)) at in
      reach_least graph inside bound (closed_before none) one marked

  -- by whether it can be now
  tested : (at : ℕ) (test : Bool) → inside at ≡ test → (inside at ≡ false → inside at ≡ true) → inside at ≡ true
  tested at true is none = is
  tested at false is none = none is

  -- the map can be reached
  pub put_map_reached : IsTrue (is_marked (reach graph) weak.number) → IsTrue (is_marked (reach after) weak.number)
  put_map_reached marked =
      tested weak.number (inside weak.number) refl (λ none. before_inside (inl none) weak.number marked)

  -- and so can the key
  pub put_key_reached : IsTrue (is_marked (reach graph) number) → IsTrue (is_marked (reach after) number)
  put_key_reached marked = tested number (inside number) refl (λ none. before_inside (inr none) number marked)

  -- and what the entry's value refers to
  pub put_value_reached : IsTrue (is_marked (reach graph) weak.number) → IsTrue (is_marked (reach graph) number)
      → (one : ℕ) → what ≡ Ref one → one < length graph.objects → IsTrue (is_marked (reach after) one)
  put_value_reached map_marked key_marked one refers within =
      reach_closed after weak.number (Weak (with_entry weak.entries number what)) one new_entries
      (put_map_reached map_marked) (omega (arith, long, within)) (
        record { key = number; value = what },
        entry_among (put_there weak.entries number what),
        put_key_reached key_marked,
        refers,
      )
