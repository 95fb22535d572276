-- Each snap stems from the load of a header: what was read since was read at moments of its own.
use Rattle.std.proofs.Common.{ℕ, ◌+◌, ◌<◌, ◌≡◌, ◌≢◌, List, [], ◌∷◌, slice_get, slice_index, Option}
use Rattle.std.proofs.Common.{Some, None, All, Contains, if◌then◌else◌, IsTrue, Bool, refl, sym, ap, subst, ◌∙◌}
use Rattle.std.proofs.Common.{arith}
use Rattle.std.proofs.lemmas.List.{map-append}
use Rattle.std.proofs.lemmas.List.Elements.{All-push, Contains-get_or}
use Rattle.std.proofs.lemmas.List.Quantifiers.{all_pairs_push}
use Rattle.std.specs.Option.{option_map}
use Rattle.mark_laws.specs.Types.{Header, Event, Snap, SnapSlot, Actor, Spot, HelperView, World}
use Rattle.tagged_word.specs.Readings.{header_in}
use Rattle.tagged_word.proofs.Cells.{some_same}
use Rattle.core_parts.specs.Lists.{HasNoRepeats}
use Rattle.mark_world.specs.declared.event.Event.TheVariants as event
use Rattle.mark_world.specs.Naming.{IsReadOut, IsToRead, Named, is_shape, named, named_headed, named_shaped}
use Rattle.mark_world.specs.Naming.{read_offsets}
use Rattle.mark_world.specs.Steps.{actor, helper_learns, helper_spot, snap_begun, snap_settled, with_layout}
use Rattle.mark_world.specs.Steps.{with_length, with_slot}
use Rattle.mark_world.specs.Conditions.{AwaitsLayout, AwaitsLength, MayHelper}
use Rattle.mark_world.specs.AfterEvents.{moment, word_at}
use Rattle.mark_laws.proofs.BornHelper.{to_read}
use Rattle.mark_laws.proofs.Joins.{some_and}
use Rattle.mark_laws.proofs.Listing.{all_weaker}

-- the word of a slot was loaded at a moment between two others: it stood there
pub record SlotLoad (start : World) (events : List Event) (from to number cell : ℕ) (slot : SnapSlot) : Type 0 where
  pub at : ℕ
  pub later : from < at
  pub before : at < to
  pub load : slice_get events at ≡ Some (event.LoadSlot number slot.offset)
  pub word : slot.word ≡ slice_index (moment start events at).words (cell + slot.offset)

-- a slot is one of those that are named
abbrev pub Names : Named → ℕ → Type 0
Names Named.unread offset = ⊥
Names Named.no_cell offset = ⊥
Names (Named.slots offsets) offset = Contains offsets offset

-- A helper's snap at a moment stems from an earlier one, when its header was loaded. Each slot that was read is named,
-- and was loaded since, once.
pub record Stems (start : World) (events : List Event) (k number : ℕ) (snap : Snap) : Type 0 where
  pub from : ℕ
  pub before : from < k
  pub load : slice_get events from ≡ Some (event.LoadHeader number snap.cell)
  pub header : snap.header ≡ slice_index (moment start events from).words snap.cell
  pub values : All (SlotLoad start events from k number snap.cell) snap.slots
  pub names : All (Names (named snap)) (read_offsets snap)
  pub once : HasNoRepeats (read_offsets snap)

-- loads between two moments lie between the first and a later one
loads_longer : (start : World) (events : List Event) (from k number cell : ℕ) (slots : List SnapSlot)
    → All (SlotLoad start events from k number cell) slots → All (SlotLoad start events from (k + 1) number cell) slots
loads_longer start events from k number cell slots =
    all_weaker (SlotLoad start events from k number cell) (SlotLoad start events from (k + 1) number cell) slots
    (λ slot load. record {
      at = load.at;
      later = load.later;
      before = omega (arith, load.before);
      load = load.load;
      word = load.word;
    })

-- a snap that stays stems from the same moment
pub stays_stemming : (start : World) (events : List Event) (k number : ℕ) (snap : Snap)
    → Stems start events k number snap → Stems start events (k + 1) number snap
stays_stemming start events k number snap stems = record {
  from = stems.from;
  before = omega (arith, stems.before);
  load = stems.load;
  header = stems.header;
  values = loads_longer start events stems.from k number snap.cell snap.slots stems.values;
  names = stems.names;
  once = stems.once;
}

-- a snap of which more than slots is read has no slots
reads_more : (start : World) (events : List Event) (k number : ℕ) (snap : Snap) (layout length : Option ℕ)
    → Stems start events k number snap → named snap ≡ Named.unread
    → Stems start events (k + 1) number (record snap { layout = layout; length = length })
reads_more start events k number snap layout length stems unread = record {
  from = stems.from;
  before = omega (arith, stems.before);
  load = stems.load;
  header = stems.header;
  values = loads_longer start events stems.from k number snap.cell snap.slots stems.values;
  names = λ i d l. absurd (subst (λ (name : Named). All (Names name) (read_offsets snap)) unread stems.names i d l);
  once = stems.once;
}

-- a snap that begins stems from now
begins : (start : World) (events : List Event) (k number cell : ℕ)
    → slice_get events k ≡ Some (event.LoadHeader number cell)
    → Stems start events (k + 1) number (snap_begun cell (slice_index (moment start events k).words cell))
begins start events k number cell there = record {
  from = k;
  before = omega arith;
  load = there;
  header = refl;
  values = λ i d l. absurd (omega (arith, l));
  names = λ i d l. absurd (omega (arith, l));
  once = λ i j d l m. absurd (omega (arith, m));
}

-- a snap whose header has a shape that may be, and whose layout is unread, names nothing
pub awaits_unread : (snap : Snap) → AwaitsLayout snap → named snap ≡ Named.unread
awaits_unread snap awaits =
    let h = some_and (λ (header : Header). IsTrue (is_shape header)) (header_in snap.header) awaits.shape in
    ap (named_headed snap.cell snap.layout snap.length) h.1
    ∙ ap (λ (b : Bool). if b then named_shaped snap.cell snap.length snap.layout else Named.no_cell) h.2
    ∙ ap (named_shaped snap.cell snap.length) awaits.unread

-- a snap of which a slot is read stems from the same moment
reads_slot : (start : World) (events : List Event) (k number offset found : ℕ) (snap : Snap)
    → slice_get events k ≡ Some (event.LoadSlot number offset)
    → found ≡ slice_index (moment start events k).words (snap.cell + offset)
    → IsToRead (named snap) (read_offsets snap) offset → Stems start events k number snap
    → Stems start events (k + 1) number (with_slot offset found snap)
reads_slot start events k number offset found snap there is may stems =
    let read : List ℕ = read_offsets snap in
    let slot : SnapSlot = record { offset = offset; word = found } in
    let new = to_read (named snap) read offset may in
    let is_named : Names (named snap) offset = subst (λ (name : Named). Names name offset) (sym new.1) new.2 in
    let more = sym (map-append (λ (s : SnapSlot). s.offset) snap.slots (slot ∷ [])) in
    record {
      from = stems.from;
      before = omega (arith, stems.before);
      load = stems.load;
      header = stems.header;
      values = All-push (SlotLoad start events stems.from (k + 1) number snap.cell) snap.slots slot
          (loads_longer start events stems.from k number snap.cell snap.slots stems.values)
          (record { at = k; later = stems.before; before = omega arith; load = there; word = is });
      names = subst (All (Names (named snap))) more (All-push (Names (named snap)) read offset stems.names is_named);
      once = subst HasNoRepeats more (all_pairs_push (λ x y. x ≢ y) read offset stems.once
          (λ i d l e. new.3 (subst (Contains read) e (Contains-get_or read i d l))));
    }

-- a helper's snap after a step of its own stems from a load
pub own_stems : (start : World) (events : List Event) (k number : ℕ) (view : HelperView) (of : Event)
    → slice_get events k ≡ Some of → actor of ≡ Actor.Helper number → MayHelper view of
    → ((snap : Snap) → view.snap ≡ Some snap → Stems start events k number snap) → (snap : Snap)
    → (helper_learns (moment start events k).old view of (word_at (moment start events k) (helper_spot view of))).snap
    ≡ Some snap
    → Stems start events (k + 1) number snap
own_stems start events k number view (event.LoadHeader n cell) there by may before snap e =
    let same : n ≡ number = cc in
    subst (Stems start events (k + 1) number) (some_same refl e)
    (begins start events k number cell
    (subst (λ (m : ℕ). slice_get events k ≡ Some (event.LoadHeader m cell)) same there))
own_stems start events k number view (event.LoadLayout n) there by may before snap e =
    let s = some_and AwaitsLayout view.snap may in
    let found : ℕ = word_at (moment start events k) (helper_spot view (event.LoadLayout n)) in
    subst (Stems start events (k + 1) number) (some_same (ap (option_map (with_layout found)) s.1) e)
    (reads_more start events k number s.0 (Some found) s.0.length (before s.0 s.1) (awaits_unread s.0 s.2))
own_stems start events k number view (event.LoadLength n) there by may before snap e =
    let s = some_and AwaitsLength view.snap may in
    let found : ℕ = word_at (moment start events k) (helper_spot view (event.LoadLength n)) in
    subst (Stems start events (k + 1) number) (some_same (ap (option_map (with_length found)) s.1) e)
    (reads_more start events k number s.0 s.0.layout (Some found) (before s.0 s.1) s.2.asked)
own_stems start events k number view (event.LoadSlot n offset) there by may before snap e =
    let same : n ≡ number = cc in
    let s = some_and (λ (of_snap : Snap). IsToRead (named of_snap) (read_offsets of_snap) offset) view.snap may in
    let world : World = moment start events k in
    let found : ℕ = word_at world (helper_spot view (event.LoadSlot n offset)) in
    subst (Stems start events (k + 1) number) (some_same (ap (option_map (with_slot offset found)) s.1) e)
    (reads_slot start events k number offset found s.0
    (subst (λ (m : ℕ). slice_get events k ≡ Some (event.LoadSlot m offset)) same there)
    (ap (λ (o : Option Snap). word_at world (option_map (λ of_snap. Spot.Heap (of_snap.cell + offset)) o)) s.1) s.2
    (before s.0 s.1))
own_stems start events k number view (event.Settle n) there by may before snap e =
    let s = some_and (λ (of_snap : Snap). IsReadOut (named of_snap) (read_offsets of_snap)) view.snap may in
    let world : World = moment start events k in
    let found : ℕ = word_at world (helper_spot view (event.Settle n)) in
    let ended : None ≡ Some snap =
    subst (λ (o : Option Snap). (snap_settled world.old view found o).snap ≡ Some snap) s.1 e in cc
own_stems start events k number view _ there by may before snap e =
    stays_stemming start events k number snap (before snap e)
