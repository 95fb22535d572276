-- The slots of a cell that a helper makes black are covered: they were before, or their targets are to be visited.
use Rattle.std.proofs.Common.{ℕ, ◌+◌, ◌<◌, ◌≡◌, ◌∙◌, ◌⊎◌, inl, inr, Bool, List, [], length, set}
use Rattle.std.proofs.Common.{Option, Some, IfSome, IsSomeAnd, Any, Contains, slice_get, slice_index, sym, ap, subst}
use Rattle.std.proofs.Common.{arith, if◌then◌else◌, eq-eqb}
use Rattle.std.specs.Option.{option_map}
use Rattle.std.proofs.lemmas.List.{get_or-set_same, length-set}
use Rattle.std.proofs.lemmas.Option.{slice_get_within}
use Rattle.mark_laws.specs.Types.{Reading, Event, Spot, Snap, SnapSlot, HelperView, World}
use Rattle.tagged_word.proofs.Members.{in_map}
use Rattle.mark_world.specs.declared.event.Event.TheVariants as event
use Rattle.mark_world.specs.Pages.{OfTarget, slots_of, target}
use Rattle.mark_world.specs.Naming.{IsReadOut, named, read_offsets, read_words}
use Rattle.mark_world.specs.Steps.{grey, helper_learns, snap_settled, snap_targets}
use Rattle.mark_world.specs.Conditions.{MayHelper}
use Rattle.mark_world.specs.AfterEvents.{after_helper, word_at}
use Rattle.mark_world.specs.Coverage.{HasCovered, IsCovered, cell_of, colour_of}
use Rattle.mark_world.specs.Soundness.{HasSnaps, IsFreshSlot, IsTrueSnap}
use Rattle.mark_laws.proofs.Blacks.{Settles}
use Rattle.mark_laws.proofs.Joins.{of_get, targets_there, some_and}
use Rattle.mark_laws.proofs.Named.{header_read}
use Rattle.mark_laws.proofs.Slots.{some_from}
use Rattle.mark_laws.proofs.TrueSnaps.{true_slot}
use Rattle.mark_laws.proofs.StoredSlots.{covered_on}

-- what holds of a view that was put holds of one of the views
any_put : (P : HelperView → Type 0) (views : List HelperView) (number : ℕ) (view : HelperView) → number < length views
    → P view → Any P (set views number view)
any_put P views number view within holds = (
  number,
  view,
  omega (arith, length-set views number view, within),
  get_or-set_same views number view view within,
  holds,
)

-- the targets of a snap whose cell was grey are to be visited once it ends
settled_visits : (world : World) (view : HelperView) (snap : Snap) → colour_of world snap.cell ≡ grey → (to : ℕ)
    → Contains (snap_targets world.old snap) to → (o : Option Snap) → o ≡ Some snap
    → Contains (snap_settled world.old view (word_at world (option_map (λ s. Spot.Colour s.cell) o)) o).visit to
settled_visits world view snap is_grey to there o e =
    subst (λ (p : Option Snap).
    Contains (snap_settled world.old view (word_at world (option_map (λ s. Spot.Colour s.cell) p)) p).visit to) (sym e)
    (subst (λ (b : Bool). Contains (if b then snap_targets world.old snap else view.visit) to)
    (sym (eq-eqb (colour_of world snap.cell) grey is_grey)) there)

-- a cell that a helper is to visit then is covered
visit_covered : (world : World) (number n : ℕ) (view : HelperView) (to : ℕ) → slice_get world.helpers number ≡ Some view
    → Contains (helper_learns world.old view (event.Settle n)
    (word_at world (option_map (λ (s : Snap). Spot.Colour s.cell) view.snap))).visit to
    → IsCovered (after_helper world number (event.Settle n) (Some view)) to
visit_covered world number n view to there visits =
    inr (inr (any_put (λ (v : HelperView). Contains v.visit to) world.helpers number
    (helper_learns world.old view (event.Settle n)
    (word_at world (option_map (λ (s : Snap). Spot.Colour s.cell) view.snap)))
    (slice_get_within world.helpers number view there) visits))

-- the word of a slot that was read with it is one of the words read
word_read : (snap : Snap) (offset word : ℕ) → Contains snap.slots (record { offset = offset; word = word })
    → Contains (read_words snap) word
word_read snap offset word c = in_map (λ (slot : SnapSlot). slot.word) snap.slots
    (record { offset = offset; word = word }) c

-- a slot that is fresh, and was read, was read with the word that stands
fresh_read : (snap : Snap) (offset word : ℕ) → Contains (read_offsets snap) offset → IsFreshSlot snap offset word
    → Contains (read_words snap) word
fresh_read snap offset word read (inl unread) = absurd (unread read)
fresh_read snap offset word read (inr there) = word_read snap offset word there

-- each slot of a true snap that is read out is covered, or its word was read
slot_read : (world : World) (snap : Snap) (cell : Reading) → cell_of world snap.cell ≡ Some cell → IsTrueSnap world snap
    → IsReadOut (named snap) (read_offsets snap) → (offset : ℕ) → Contains (slots_of cell) offset
    → HasCovered world (slice_index world.words (snap.cell + offset))
    ⊎ Contains (read_words snap) (slice_index world.words (snap.cell + offset))
slot_read world snap cell e true_snap out offset c = elim (true_slot world snap cell offset true_snap e c) [
  | inl covered ↦ inl covered
  | inr fresh ↦ inr (fresh_read snap offset (slice_index world.words (snap.cell + offset))
      (header_read world snap cell offset e true_snap out fresh.0) fresh.1)
]

-- each slot of the cell of a snap that ends, which was grey, is covered
snap_slots : (world : World) (number n : ℕ) (view : HelperView) (snap : Snap) (cell : Reading) (offset : ℕ)
    → slice_get world.helpers number ≡ Some view → view.snap ≡ Some snap → colour_of world snap.cell ≡ grey
    → IsTrueSnap world snap → IsReadOut (named snap) (read_offsets snap) → cell_of world snap.cell ≡ Some cell
    → Contains (slots_of cell) offset → (after_helper world number (event.Settle n) (Some view)).old ≡ world.old
    → ((a : ℕ) → IsCovered world a → IsCovered (after_helper world number (event.Settle n) (Some view)) a)
    → HasCovered (after_helper world number (event.Settle n) (Some view)) (slice_index world.words (snap.cell + offset))
snap_slots world number n view snap cell offset there had is_grey true_snap out e c same keeps =
    let later : World = after_helper world number (event.Settle n) (Some view) in
    let word : ℕ = slice_index world.words (snap.cell + offset) in
    elim (slot_read world snap cell e true_snap out offset c) [
      | inl covered ↦ covered_on world later word same keeps covered
      | inr read ↦ subst (λ (old : ℕ). OfTarget old word (IsCovered later)) (sym same)
          (some_from (IsCovered later) (target world.old word) (λ to refers.
          visit_covered world number n view to there
          (settled_visits world view snap is_grey to
          (targets_there world.old [] (read_words snap) word to read refers) view.snap had)))
    ]

-- the same of the cell that a helper settles
pub settle_slots : (world : World) (number : ℕ) (view : HelperView) (of : Event) → HasSnaps world
    → slice_get world.helpers number ≡ Some view → MayHelper view of
    → (after_helper world number of (Some view)).old ≡ world.old
    → ((a : ℕ) → IsCovered world a → IsCovered (after_helper world number of (Some view)) a)
    → (start : ℕ) → Settles world view of start → (cell : Reading)
    → cell_of world start ≡ Some cell → (offset : ℕ)
    → Contains (slots_of cell) offset
    → HasCovered (after_helper world number of (Some view)) (slice_index world.words (start + offset))
settle_slots world number view (event.Settle n) snaps there may same keeps start settles cell e offset c =
    let v = some_and (λ (snap : Snap). IsReadOut (named snap) (read_offsets snap)) view.snap may in
    let snap : Snap = v.0 in
    let here : snap.cell ≡ start = subst (λ (o : Option Snap). IsSomeAnd o (λ s. s.cell ≡ start)) v.1 settles.1 in
    let is_grey : colour_of world snap.cell ≡ grey = ap (colour_of world) here ∙ settles.0 in
    let of_snap = of_get (λ (w : HelperView). IfSome w.snap (λ s. colour_of world s.cell ≡ grey → IsTrueSnap world s))
    world.helpers number view there snaps in
    let true_snap : IsTrueSnap world snap =
    subst (λ (o : Option Snap). IfSome o (λ s. colour_of world s.cell ≡ grey → IsTrueSnap world s)) v.1 of_snap
    is_grey in
    subst (λ (s : ℕ). HasCovered (after_helper world number (event.Settle n) (Some view))
    (slice_index world.words (s + offset)))
    here
    (snap_slots world number n view snap cell offset there v.1 is_grey true_snap v.2 (ap (cell_of world) here ∙ e) c
    same keeps)
settle_slots world number view _ snaps there may same keeps start settles cell e offset c = absurd settles
