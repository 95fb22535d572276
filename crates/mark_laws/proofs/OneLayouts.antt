-- Each snap that is settled while its cell is grey was read under one layout.
use Rattle.std.proofs.Common.{ℕ, ◌<◌, ◌≤◌, ◌≡◌, ◌≢◌, ◌∙◌, inl, inr, IsTrue, List, length, slice_get}
use Rattle.std.proofs.Common.{get_or, Option, Some, IsSomeAnd, All, Contains, ap, subst, arith}
use Rattle.std.proofs.lemmas.List.Elements.{All-contains, Contains-get_or}
use Rattle.std.proofs.lemmas.Option.{slice_get_within}
use Rattle.mark_laws.specs.Types.{Reading, Event, Laid, Snap, SnapSlot, HelperView, World}
use Rattle.tagged_word.specs.Cells.{marks_by_length, tagged_offsets}
use Rattle.tagged_word.proofs.Members.{in_map}
use Rattle.core_parts.proofs.Joining.{decided}
use Rattle.mark_world.specs.declared.event.Event.TheVariants as event
use Rattle.mark_world.specs.Pages.{is_free, slots_of}
use Rattle.mark_world.specs.Safety.{slots_by}
use Rattle.mark_world.specs.Naming.{IsReadOut, Named, named, read_offsets}
use Rattle.mark_world.specs.Steps.{grey, white}
use Rattle.mark_world.specs.AfterEvents.{IsMarked, MayStep, WerePossible, moment}
use Rattle.mark_world.specs.Coverage.{EachSlot, HasCovered, cell_of, colour_of}
use Rattle.mark_world.specs.Soundness.{IsTrueSnap, Sound, header_slots}
use Rattle.mark_world.specs.OneLayouts.{HasOneLayout, KeepsSlots, OneLayout, WasLoaded}
use Rattle.mark_laws.specs.Runs.{HasNoneOut, IsSoundAndBorn}
use Rattle.mark_laws.proofs.Joins.{of_get, some_and}
use Rattle.mark_laws.proofs.KeptCells.{AreWhole, Keeps, keeps_along, keeps_itself, rises_along}
use Rattle.mark_laws.proofs.Laid.{unmarked_slots}
use Rattle.mark_laws.proofs.Named.{header_named, header_read}
use Rattle.mark_laws.proofs.Slots.{and_some, each_slot, free_cell, grey_free, some_at}
use Rattle.mark_laws.proofs.SoundRuns.{whole_along}
use Rattle.mark_laws.proofs.SnapOrigins.{Names, SlotLoad, Stems}
use Rattle.mark_laws.proofs.StemsSteps.{HasSnap, stems_along}
use Rattle.mark_laws.proofs.TrueSnaps.{GreyTrue, ViewTrue, true_slot}

-- the tagged slots by a header that stands for what a cell was are that cell's
read_slots : (world : World) (snap : Snap) (read : Reading) → (keeps : Keeps world snap.cell snap.header read)
    → header_slots world snap keeps.now.length ≡ slots_of read
read_slots world snap read keeps =
    ap (λ (o : Option Laid). slots_by o keeps.now.length) keeps.laid
    ∙ elim (decided (marks_by_length read.layout.kind)) [
      | inl marks ↦ ap (λ (r : Reading). tagged_offsets read.layout r.length) (keeps.long marks)
      | inr other ↦ unmarked_slots read.layout keeps.now.length read.length other
    ]

-- a snap that ends at a moment is read out, and true to its cell
record Ends (world : World) (snap : Snap) : Type 0 where
  out : IsReadOut (named snap) (read_offsets snap)
  is_true : IsTrueSnap world snap

-- it is, where it may be settled and its cell is grey
ends_well : (world : World) (number : ℕ) (snap : Snap) → Sound world → HasSnap world number snap
    → colour_of world snap.cell ≡ grey
    → IsSomeAnd (slice_get world.helpers number) (MayStep world (event.Settle number)) → Ends world snap
ends_well world number snap sound has is_grey may =
    let v = some_and (λ (w : HelperView). w.snap ≡ Some snap) (slice_get world.helpers number) has in
    let step : MayStep world (event.Settle number) v.0 = subst (λ (o : Option HelperView).
    IsSomeAnd o (MayStep world (event.Settle number))) v.1 may in
    record {
      out = subst (λ (o : Option Snap). IsSomeAnd o (λ s. IsReadOut (named s) (read_offsets s))) v.2 step.may;
      is_true = some_at (GreyTrue world) v.0.snap snap v.2
          (of_get (ViewTrue world) world.helpers number v.0 v.1 sound.snaps) is_grey;
    }

-- a cell that is grey at the end and was not white at first is grey between
grey_between : (first between last : ℕ) → first ≢ white → first ≤ between → between ≤ last → last ≡ grey
    → between ≡ grey
grey_between first between last coloured early late is_grey = grind arith

-- a grey cell of a sound world is a free start
grey_start : (world : World) → Sound world → (at : ℕ) → colour_of world at ≡ grey → IsTrue (is_free world.main at)
grey_start world sound at is_grey =
    grey_free world sound.cells at
    (sound.lists.coloured at (λ is_white. absurd (omega (arith, is_grey, is_white)))) is_grey

-- the load of a header finds its cell reached
load_reached : (world : World) (number cell : ℕ)
    → IsSomeAnd (slice_get world.helpers number) (MayStep world (event.LoadHeader number cell)) → IsMarked world cell
load_reached world number cell may =
    (some_and (MayStep world (event.LoadHeader number cell)) (slice_get world.helpers number) may).2.asks

-- The cell of a snap, from the load of its header until it is settled: grey, and what it was then.
record HeldCell (start : World) (events : List Event) (from to : ℕ) (snap : Snap) : Type 0 where
  greys : (k : ℕ) → from ≤ k → k ≤ to → colour_of (moment start events k) snap.cell ≡ grey
  read : Reading
  stood : cell_of (moment start events from) snap.cell ≡ Some read
  keeps : (k : ℕ) → from ≤ k → k ≤ to → Keeps (moment start events k) snap.cell snap.header read

-- it is held, where it is grey at the end
held_cell : (start : World) (events : List Event) (to number : ℕ) (snap : Snap) → to ≤ length events
    → WerePossible start events to → AreWhole start events to → colour_of (moment start events to) snap.cell ≡ grey
    → (stems : Stems start events to number snap) → HeldCell start events stems.from to snap
held_cell start events to number snap within were whole is_grey stems =
    let from : ℕ = stems.from in
    let reached = load_reached (moment start events from) number snap.cell
    (were from (event.LoadHeader number snap.cell) stems.before stems.load) in
    let greys : (k : ℕ) → from ≤ k → k ≤ to → colour_of (moment start events k) snap.cell ≡ grey = λ k early late.
    grey_between (colour_of (moment start events from) snap.cell) (colour_of (moment start events k) snap.cell)
    (colour_of (moment start events to) snap.cell) reached.coloured
    (rises_along start events from to snap.cell within were whole k early late)
    (rises_along start events k to snap.cell within were whole to late (omega arith)) is_grey in
    let free : (k : ℕ) → from ≤ k → k ≤ to
    → IsTrue (is_free (moment start events k).main snap.cell) = λ k early late.
    grey_start (moment start events k) (whole k late).0 snap.cell (greys k early late) in
    let start_there : from ≤ to = omega (arith, stems.before) in
    let read = free_cell (moment start events from) (whole from start_there).0.cells snap.cell
    (free from (omega arith) start_there) in
    record {
      greys = greys;
      read = read.0;
      stood = read.1;
      keeps = keeps_along start events from to snap.cell snap.header read.0 within were whole free
          (keeps_itself (moment start events from) snap.cell snap.header read.0 read.1 stems.header);
    }

-- a slot that was read is one of the cell's that was read
slot_named : (snap : Snap) (slots : List ℕ) → named snap ≡ Named.slots slots
    → All (Names (named snap)) (read_offsets snap) → (offset : ℕ) → Contains (read_offsets snap) offset
    → Contains slots offset
slot_named snap slots names each offset c =
    subst (λ (name : Named). Names name offset) names
    (All-contains (Names (named snap)) (read_offsets snap) offset each c)

-- and was tagged when its word was loaded
slot_loaded : (start : World) (events : List Event) (to number : ℕ) (snap : Snap)
    → (stems : Stems start events to number snap)
    → (held : HeldCell start events stems.from to snap) → (slot : SnapSlot) → Contains (slots_of held.read) slot.offset
    → SlotLoad start events stems.from to number snap.cell slot
    → WasLoaded start events stems.from to number snap.cell slot
slot_loaded start events to number snap stems held slot there load =
    let keeps = held.keeps load.at (omega (arith, load.later)) (omega (arith, load.before)) in
    record {
      at = load.at;
      later = load.later;
      before = load.before;
      load = load.load;
      word = load.word;
      tagged = and_some (λ (now : Reading). Contains (slots_of now) slot.offset)
          (cell_of (moment start events load.at) snap.cell) keeps.now keeps.is
          (All-contains (Contains (slots_of keeps.now)) (slots_of held.read) slot.offset keeps.slots.tagged there);
    }

-- a slot that is tagged at the end, and was not read, is covered
rest_covered : (world : World) (snap : Snap) → Ends world snap
    → EachSlot world snap.cell (λ offset word. (Contains (read_offsets snap) offset → ⊥) → HasCovered world word)
rest_covered world snap ends =
    each_slot world snap.cell (λ offset word. (Contains (read_offsets snap) offset → ⊥) → HasCovered world word)
    (λ cell e offset there unread. elim (true_slot world snap cell offset ends.is_true e there) [
      | inl covered ↦ covered
      | inr fresh ↦ absurd (unread (header_read world snap cell offset e ends.is_true ends.out fresh.0))
    ])

-- a snap that ends names the tagged slots of the cell that was read
ends_named : (world : World) (snap : Snap) (read : Reading) → Keeps world snap.cell snap.header read → Ends world snap
    → named snap ≡ Named.slots (slots_of read)
ends_named world snap read keeps ends =
    header_named world snap keeps.now keeps.is ends.is_true ends.out
    ∙ ap (λ (xs : List ℕ). Named.slots xs) (read_slots world snap read keeps)

-- what is known of a snap that stems from a load, whose cell was held, and that ends well
layout_is_one : (start : World) (events : List Event) (to number : ℕ) (snap : Snap)
    → (stems : Stems start events to number snap) → HeldCell start events stems.from to snap
    → Ends (moment start events to) snap → HasOneLayout start events stems.from to number snap
layout_is_one start events to number snap stems held ends =
    let last : stems.from ≤ to = omega (arith, stems.before) in
    let names : named snap ≡ Named.slots (slots_of held.read) =
    ends_named (moment start events to) snap held.read (held.keeps to last (omega arith)) ends in
    let tagged = slot_named snap (slots_of held.read) names stems.names in
    let all : All (λ offset. Contains (read_offsets snap) offset) (slots_of held.read) =
    subst (λ (name : Named). IsReadOut name (read_offsets snap)) names ends.out in
    record {
      before = stems.before;
      load = stems.load;
      header = stems.header;
      read = held.read;
      stood = held.stood;
      grey = held.greys;
      kept = λ k early late. let keeps = held.keeps k early late in
          and_some (KeepsSlots held.read) (cell_of (moment start events k) snap.cell) keeps.now keeps.is keeps.slots;
      names = names;
      offsets = λ offset. (
        tagged offset,
        All-contains (λ (o : ℕ). Contains (read_offsets snap) o) (slots_of held.read) offset all,
      );
      once = stems.once;
      values = λ i d l. let slot : SnapSlot = get_or snap.slots i d in
          slot_loaded start events to number snap stems held slot
          (tagged slot.offset (in_map (λ (s : SnapSlot). s.offset) snap.slots slot (Contains-get_or snap.slots i d l)))
          (stems.values i d l);
      rest = rest_covered (moment start events to) snap ends;
    }

-- those before some were possible where all were
fewer_possible : (start : World) (events : List Event) (k count : ℕ) → k ≤ count → WerePossible start events count
    → WerePossible start events k
fewer_possible start events k count l were j of early there = were j of (omega (arith, l, early)) there

-- from a whole world where no seat is out, each snap that is settled while its cell is grey was read under one layout
pub one_layout : (start : World) (events : List Event) → IsSoundAndBorn start → HasNoneOut start
    → WerePossible start events (length events) → OneLayout start events
one_layout start events first none_out were k number snap settles =
    let within : k < length events = slice_get_within events k (event.Settle number) settles.settles in
    let now : k ≤ length events = omega arith in
    let before = fewer_possible start events k (length events) now were in
    let whole = whole_along start events k first now before in
    let stems = stems_along start events k first.0 none_out now before k (omega arith) number snap settles.had in
    let held = held_cell start events k number snap now before whole settles.grey stems in (
      stems.from,
      layout_is_one start events k number snap stems held
          (ends_well (moment start events k) number snap (whole k (omega arith)).0 settles.had settles.grey
          (were k (event.Settle number) within settles.settles)),
    )
