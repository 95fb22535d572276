-- What a visit and a look leave to a seat and its list.
use Rattle.std.proofs.Common.{◌≡◌, ◌⊎◌, ◌↔◌, inl, inr, ℕ, zero, suc, ◌<◌, ◌^◌, ◌==◌, List, [], ◌∷◌}
use Rattle.std.proofs.Common.{Contains, None, length, map, append_assoc, refl, sym, ap, subst, ◌∙◌, arith}
use Rattle.std.proofs.Common.{if◌then◌else◌}
use Rattle.std.proofs.lemmas.Bool.{cases_eq}
use Rattle.cell_list.specs.Listing.{Listing}
use Rattle.tagged_word.specs.declared.word.Class.TheVariants.{Ref}
use Rattle.tagged_word.specs.Words.{bits_of}
use Rattle.tagged_word.proofs.Readings.{reference_to}
use Rattle.tagged_word.proofs.Members.{first_in, in_cases, rest_in}
use Rattle.core_parts.specs.declared.note.Note.TheVariants.{Loaded, Coloured}
use Rattle.core_parts.specs.Boards.{joined_by}
use Rattle.core_parts.specs.Lists.{joined}
use Rattle.core_parts.proofs.Joining.{joined_from, joined_in, joined_keeps}
use Rattle.mark_laws.specs.Types.{HelperView, Snap, SnapSlot}
use Rattle.mark_world.specs.declared.event.Event.TheVariants as event
use Rattle.mark_world.specs.Pages.{OfTarget, target}
use Rattle.mark_world.specs.Steps.{grey, snap_targets}
use Rattle.mark_laws.proofs.Slots.{some_from}
use Rattle.mark_laws.proofs.Visited.{settling_visits}
use Rattle.shared_table.specs.declared.colour.Colour.{Colour}
use Rattle.shared_table.specs.declared.colour.Colour.TheVariants.{Grey}
use Rattle.shared_table.specs.Colours.{number_of}
use Rattle.shared_table.specs.HelperTold.{learned}
use Rattle.shared_table.specs.Seats.{Helping}
use Rattle.slot_snapshot.specs.Loads.{begun}
use Rattle.slot_snapshot.specs.Visited.{Drops, Keeps, Settles}
use Rattle.marker.specs.Turns.{AddsVisit}
use Rattle.marker.specs.Shading.{HasListed, HasListedOthers, IsAtRest, IsShaded, MayShade, Shades, word_of}
use Rattle.marker.specs.Resting.{Rests, StaysAt}
use Rattle.marker.proofs.ShadeAll.{visit_ends}

-- a list that has no member is empty
no_members : (list : List ℕ) → ((x : ℕ) → Contains list x → ⊥) → list ≡ []
no_members [] none_in = refl
no_members (x ∷ rest) none_in = absurd (none_in x (first_in x rest))

-- what is known after a visit, whatever it found
module _ (before after : Helping) (cell : ℕ) (found : Colour) (snap : Snap) (s : Settles before after cell found snap)
  where
    visit_stays : StaysAt before after
    visit_stays = record {
      table = ap (λ (h : Helping). h.table) s.after_is;
      counts = ap (λ (h : Helping). h.lent.counts) s.after_is;
    }

    visit_listed : (listing : Listing) → HasListedOthers listing before.lent cell → HasListed listing after.lent
    visit_listed listing others =
        subst (λ (h : Helping). HasListed listing h.lent) (sym s.after_is)
        (record { room = others.room; members = others.members })

    visit_snap : after.lent.view.snap ≡ None
    visit_snap = ap (λ (h : Helping). h.lent.view.snap) s.after_is

    visit_turn : AddsVisit before.lent.view.log after.lent.view.log
    visit_turn = record {
      cell = cell;
      notes = Coloured snap.cell (number_of found) ∷ [];
      is = ap (λ (h : Helping). h.lent.view.log) s.after_is
          ∙ append_assoc before.lent.view.log (Loaded cell ∷ []) (Coloured snap.cell (number_of found) ∷ []);
      none_more = refl;
    }

-- a visit that was dropped leaves the seat at rest
pub dropped_rests : (before after : Helping) (cell : ℕ) (found : Colour) (listing : Listing)
    → Drops before after cell found → IsAtRest before.lent → HasListedOthers listing before.lent cell
    → Rests listing after.lent
dropped_rests before after cell found listing d rest others = record {
  listed = visit_listed before after cell found d.snap d.settles listing others;
  rest = record {
    snap = visit_snap before after cell found d.snap d.settles;
    visit = ap (λ (h : Helping). h.lent.view.visit) d.settles.after_is
        ∙ (ap (λ (c : Colour). if number_of c == grey then snap_targets before.lent.counts.old d.snap
        else before.lent.view.visit) d.black ∙ rest.visit);
  };
}

pub dropped_stays : (before after : Helping) (cell : ℕ) (found : Colour) → Drops before after cell found
    → StaysAt before after × AddsVisit before.lent.view.log after.lent.view.log
dropped_stays before after cell found d =
    (visit_stays before after cell found d.snap d.settles, visit_turn before after cell found d.snap d.settles)

-- a slot's word is one of those that were read
read_word : (slots : List SnapSlot) (k : ℕ) (d : SnapSlot) → k < length slots
    → Contains (map (λ (slot : SnapSlot). slot.word) slots) (word_of slots k d)
read_word [] k d low = absurd (omega (arith, low))
read_word (slot ∷ rest) zero d low = (0, omega arith, refl)
read_word (slot ∷ rest) (suc k) d low =
    rest_in slot.word (map (λ (one : SnapSlot). one.word) rest) (word_of rest k d) (read_word rest k d (omega (
      arith,
      low,
    )))

-- and each word that was read is a slot's
word_read : (slots : List SnapSlot) (word : ℕ) (d : SnapSlot) → Contains (map (λ (slot : SnapSlot). slot.word) slots)
    word
    → (k : ℕ) × (k < length slots) × (word_of slots k d ≡ word)
word_read [] word d (i, low, is) = absurd (omega (arith, low))
word_read (slot ∷ rest) word d c = elim (in_cases slot.word (map (λ (one : SnapSlot). one.word) rest) word c) [
  | inl is ↦ (0, omega arith, is)
  | inr later ↦ let r = word_read rest word d later in (suc r.0, omega (arith, r.1), r.2)
]

module _ (before after : Helping) (cell header : ℕ) (slots : List SnapSlot) (keeps : Keeps before after cell header
    slots) where
  -- what the seat knew when it settled
  abbrev at_end : HelperView
  at_end = (begun before.lent cell keeps.snap).view

  abbrev visited : List ℕ
  visited = snap_targets before.lent.counts.old keeps.snap

  -- each target may be shaded after a visit that was kept
  pub kept_may : (k : ℕ) (d : SnapSlot) → k < length slots
      → OfTarget after.lent.counts.old (word_of slots k d) (MayShade after.lent)
  kept_may k d low =
      let same : after.lent.counts.old ≡ before.lent.counts.old =
      ap (λ (h : Helping). h.lent.counts.old) keeps.settles.after_is in
      some_from (MayShade after.lent) (target after.lent.counts.old (word_of slots k d)) (λ at e.
      inl (subst (λ (vs : List ℕ). Contains vs at) (sym keeps.visit)
      ((settling_visits before.lent.counts.old 0 at_end keeps.snap refl).each at (
        word_of slots k d,
        subst (λ (all : List SnapSlot). Contains (map (λ (slot : SnapSlot). slot.word) all) (word_of slots k d))
            (sym keeps.slots_are) (read_word slots k d low),
        ap (λ (o : ℕ). target o (word_of slots k d)) (sym same) ∙ e,
      ))))

  -- and after all shades nothing is to be visited
  pub none_left : (later : Helping) → Shades after later
      → ((k : ℕ) (d : SnapSlot) → k < length slots → IsShaded later (word_of slots k d)) → later.lent.view.visit ≡ []
  none_left later shades shaded =
      no_members later.lent.view.visit (λ at has.
      let was : Contains visited at =
      subst (λ (vs : List ℕ). Contains vs at) keeps.visit (shades.fewer at has) in
      let t = (settling_visits before.lent.counts.old 0 at_end keeps.snap refl).alone at was in
      let none_slot : SnapSlot = record { offset = 0; word = 0 } in
      let r = word_read slots t.0 none_slot
      (subst (λ (all : List SnapSlot). Contains (map (λ (slot : SnapSlot). slot.word) all) t.0) keeps.slots_are t.1) in
      let same : later.lent.counts.old ≡ before.lent.counts.old =
      ap (λ c. c.old) shades.counts ∙ ap (λ (h : Helping). h.lent.counts.old) keeps.settles.after_is in
      shaded r.0 none_slot r.1 at
      (ap (λ (o : ℕ). target o (word_of slots r.0 none_slot)) same
      ∙ (ap (target before.lent.counts.old) r.2 ∙ t.2)) has)

  pub kept_listed : (listing : Listing) → HasListedOthers listing before.lent cell → HasListed listing after.lent
  kept_listed listing others = visit_listed before after cell Grey keeps.snap keeps.settles listing others

  -- so the seat is at rest again
  pub kept_rests : (later : Helping) (listing : Listing) → Shades after later
      → ((k : ℕ) (d : SnapSlot) → k < length slots → IsShaded later (word_of slots k d))
      → HasListed listing later.lent → Rests listing later.lent
  kept_rests later listing shades shaded listed = record {
    listed = listed;
    rest = record {
      snap = shades.snap ∙ visit_snap before after cell Grey keeps.snap keeps.settles;
      visit = none_left later shades shaded;
    };
  }

  pub kept_stays : (later : Helping) → Shades after later
      → StaysAt before later × AddsVisit before.lent.view.log later.lent.view.log
  kept_stays later shades =
      let stays = visit_stays before after cell Grey keeps.snap keeps.settles in (
        record { table = shades.table ∙ stays.table; counts = shades.counts ∙ stays.counts },
        visit_ends before.lent.view.log after.lent.view.log later.lent.view.log
            (visit_turn before after cell Grey keeps.snap keeps.settles) shades.log,
      )

-- a look that found a cell
pub found_rests : (before after : Helping) (place at : ℕ) (listing now : Listing)
    → after ≡ record before { lent = learned before.lent (event.Take 0 place) (bits_of (Ref at)) } → at < 2 ^ 32
    → Rests listing before.lent → now.bound ≡ listing.bound
    → ((one : ℕ) → Contains now.addresses one ↔ (Contains listing.addresses one ⊎ (one ≡ at))) → Rests now after.lent
found_rests before after place at listing now took fits rests bound members =
    let grey_is : after.lent.view.grey ≡ joined before.lent.view.grey at =
    ap (λ (h : Helping). h.lent.view.grey) took
    ∙ ap (joined_by before.lent.view.grey) (reference_to (bits_of (Ref at)) at fits refl) in
    let grey : List ℕ = before.lent.view.grey in
    record {
      listed = record {
        room = omega (arith, rests.listed.room, bound, ap (λ (h : Helping). h.lent.counts.old) took);
        members = λ one. subst (λ (all : List ℕ). Contains now.addresses one ↔ Contains all one) (sym grey_is) (
          (λ on. elim ((members one).0 on) [
            | inl was ↦ joined_keeps grey at one ((rests.listed.members one).0 was)
            | inr new ↦ subst (λ (a : ℕ). Contains (joined grey at) a) (sym new) (joined_in grey at)
          ]),
          (λ waits. (members one).1 (elim (cases_eq one at) [
            | inl new ↦ inr new
            | inr other ↦ inl ((rests.listed.members one).1 (joined_from grey at one other waits))
          ])),
        );
      };
      rest = record {
        snap = ap (λ (h : Helping). h.lent.view.snap) took ∙ rests.rest.snap;
        visit = ap (λ (h : Helping). h.lent.view.visit) took ∙ rests.rest.visit;
      };
    }

-- and one that found none
pub none_rests : (before after : Helping) (place : ℕ) (listing : Listing)
    → after ≡ record before { lent = learned before.lent (event.Take 0 place) 0 } → Rests listing before.lent
    → Rests listing after.lent
none_rests before after place listing took rests =
    subst (λ (h : Helping). Rests listing h.lent) (sym took)
    (record {
      listed = record { room = rests.listed.room; members = rests.listed.members };
      rest = record { snap = rests.rest.snap; visit = rests.rest.visit };
    })
