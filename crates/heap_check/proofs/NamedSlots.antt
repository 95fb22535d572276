-- The slots that name something, cell by cell, and how far they have been looked at.
use Rattle.std.proofs.Common.{◌≡◌, ℕ, ◌+◌, ◌≤◌, ◌<◌, ◌⊎◌, inl, inr, Bool, true, List, Some, None, Contains}
use Rattle.std.proofs.Common.{slice_get, length, refl, sym, ◌∙◌, ap, subst, arith}
use Rattle.std.proofs.lemmas.Bool.{cases_lt}
use Rattle.std.proofs.lemmas.List.Elements.{All-contains}
use Rattle.std.proofs.lemmas.Option.{same_Some}
use Rattle.tagged_word.specs.Cells.{scavenge_offsets}
use Rattle.cell_layout.specs.Slots.{IsLeastFrom, IsFirstFrom}
use Rattle.cell_layout.proofs.OneCell.{slots_lie_within}
use Rattle.heap_model.specs.Types.{Cell}
use Rattle.heap_model.specs.Heaps.{Heap, HasCell, words_of_cell}
use Rattle.heap_model.specs.Slots.{reference_word, undefined_word}
use Rattle.heap_model.specs.Wholeness.{HasRows, IsOwnedKind, NamesFrom, IsOwned}
use Rattle.heap_model.proofs.CellsApart.{IsOfCell, has_is_cell, one_at, cells_apart}
use Rattle.image_walk.specs.Finding.{IsFirstCell, HasNoCellFrom}
use Rattle.image_walk.specs.NextCell.{IsBoundary}
use Rattle.image_walk.specs.Naming.{IsSlotIn, IsNextTo, IsSomeSlot}
use Rattle.image_walk.specs.Spans.{StandsIn}
use Rattle.heap_model.specs.Kinds.{HasWord}
use Rattle.image_walk.proofs.SpanWords.{slice_get-words_of_cell}
use Rattle.image_walk.proofs.NamedSlots.{some_slot, names_from}
use Rattle.image_walk.proofs.ObjectNaming.{own_slot, slot_beside_is, slot_is}
use Rattle.heap_check.specs.Cells.{BreaksOwners}
use Rattle.heap_check.specs.Firsts.{IsFirst}
use Rattle.heap_check.specs.Names.{IsNamer, NamesBelow, IsOwnedAt, IsNamedAgain, MarksName}

-- the slot is one of the cell's, whose slots name something, and names the store, the table or the box at an address
pub record NamesIn (heap : Heap) (slot named : ℕ) : Type 0 where
  pub cell : Cell
  pub stands : StandsIn heap cell
  pub namer : IsNamer heap cell
  pub is : IsSlotIn heap cell named slot
  pub target : Cell
  pub there : StandsIn heap target
  pub owned : IsOwnedKind target.layout.kind
  pub at : target.at ≡ named

-- the cell to which a slot that names it refers
abbrev target_stands : {heap : Heap} {owner : Cell} {slot named : ℕ} → (names : NamesFrom heap owner slot named)
    → StandsIn heap names.cell
target_stands {heap} names =
    subst (HasCell heap names.cell) (sym names.refers.has.words_are) names.refers.has

-- a slot that names something is one of such a cell
pub names_in : {heap : Heap} {owner : Cell} {slot named : ℕ} → NamesFrom heap owner slot named
    → NamesIn heap slot named
names_in {heap} {owner} {slot} {named} names =
    let some : IsSomeSlot heap named slot = some_slot names in
    elim (slot_is heap some.owner named slot some.stands some.is.is) [
      | inl own ↦ record {
        cell = some.owner;
        stands = some.stands;
        namer = IsNamer.object some.is.object;
        is = own;
        target = names.cell;
        there = target_stands names;
        owned = names.owned;
        at = names.at;
      }
      | inr beside ↦ record {
        cell = beside.other;
        stands = beside.next_to.stands;
        namer = IsNamer.beside record {
          object = some.owner;
          stands = some.stands;
          is = record { is = some.is.object; other = beside.other; next_to = beside.next_to; place = refl };
        };
        is = beside.is;
        target = names.cell;
        there = target_stands names;
        owned = names.owned;
        at = names.at;
      }
    ]

-- the object of which a slot is
pub record OwnsSlot (heap : Heap) (slot named : ℕ) : Type 0 where
  pub owner : Cell
  pub names : NamesFrom heap owner slot named

-- some object has the slot of such a cell
some_of : {heap : Heap} {cell : Cell} {slot named : ℕ} → StandsIn heap cell → IsNamer heap cell
    → IsSlotIn heap cell named slot → IsSomeSlot heap named slot
some_of {heap} {cell} {slot} {named} stands (IsNamer.object object) is = record {
  owner = cell;
  stands = stands;
  is = record { object = object; is = own_slot heap cell named slot stands is };
}
some_of {heap} {cell} {slot} {named} stands (IsNamer.beside some) is =
    let same : some.is.other ≡ cell = one_at some.is.next_to.stands stands some.is.place in
    record {
      owner = some.object;
      stands = some.stands;
      is = record {
        object = some.is.is;
        is = slot_beside_is heap some.object named slot (record {
          other = cell;
          next_to = subst (λ (other : Cell). IsNextTo heap some.object other) same some.is.next_to;
          is = is;
        });
      };
    }

-- so it names the store, the table or the box to which its word refers
pub names_of : {heap : Heap} {cell target : Cell} {slot : ℕ} → StandsIn heap cell → IsNamer heap cell
    → IsSlotIn heap cell target.at slot → StandsIn heap target → IsOwnedKind target.layout.kind
    → OwnsSlot heap slot target.at
names_of {target = target} stands namer is there owned =
    let some = some_of stands namer is in
    record { owner = some.owner; names = names_from target there owned some }

-- where no slot between two addresses names anything, what is known to the first is known to the second
pub names_further : {heap : Heap} {from to : ℕ} {flags : List Bool} → from ≤ to
    → ((slot named : ℕ) → NamesIn heap slot named → from ≤ slot → slot < to → ⊥) → NamesBelow heap from flags
    → NamesBelow heap to flags
names_further {heap} {from} {to} ahead none names =
    let early : (owner : Cell) (slot named : ℕ) → NamesFrom heap owner slot named → slot < to → slot < from =
    λ owner slot named one below. elim (cases_lt slot from) [
      | inl before ↦ before
      | inr past ↦ absurd (none slot named (names_in one) past below)
    ] in
    record {
      as_many = names.as_many;
      only = λ named set.
          let is = names.only named set in
          record { owner = is.owner; slot = is.slot; names = is.names; below = omega (arith, is.below, ahead) };
      each = λ named is.
          names.each named (record {
            owner = is.owner;
            slot = is.slot;
            names = is.names;
            below = early is.owner is.slot named is.names is.below;
          });
      once = λ owner another slot other named one two below below_too.
          names.once owner another slot other named one two (early owner slot named one below)
          (early another other named two below_too);
    }

-- a slot lies in its cell
pub slot_in_cell : {heap : Heap} {cell : Cell} {named slot : ℕ} → StandsIn heap cell → IsSlotIn heap cell named slot
    → IsOfCell cell slot
slot_in_cell {heap} {cell} stands is =
    let within = (slots_lie_within heap.space heap.words cell is.offset (has_is_cell stands) is.among).within in
    record { from = omega (arith, is.place); below = omega (arith, is.place, within) }

-- so a slot that names something and lies in a cell is one of it
pub names_here : {heap : Heap} {cell : Cell} {slot named : ℕ} → HasRows heap → StandsIn heap cell
    → (names : NamesIn heap slot named) → cell.at ≤ slot → slot < cell.at + cell.size → names.cell ≡ cell
names_here {slot = slot} rows stands names from below =
    cells_apart slot rows names.stands stands (slot_in_cell names.stands names.is)
    (record { from = from; below = below })

-- the word of a slot of such a cell names what the slot does
slot_names : {heap : Heap} {cell : Cell} {offset word named : ℕ} → StandsIn heap cell → IsNamer heap cell
    → Contains (scavenge_offsets cell.layout cell.length) offset
    → slice_get heap.words (cell.at + offset) ≡ Some word → IsOwnedAt heap word named
    → OwnsSlot heap (cell.at + offset) named
slot_names {heap} {cell} {offset} {word} {named} stands namer among reads is =
    let there : StandsIn heap is.cell =
    subst (HasCell heap is.cell) (sym is.refers.has.words_are) is.refers.has in
    subst (OwnsSlot heap (cell.at + offset)) is.at
    (names_of stands namer
    (record { offset = offset; among = among; place = refl; refers = reads ∙ ap (λ w. Some w) is.refers.refers })
    there is.owned)

-- and the other way round
word_names : {heap : Heap} {owner : Cell} {slot word named : ℕ} → slice_get heap.words slot ≡ Some word
    → NamesFrom heap owner slot named → IsOwnedAt heap word named
word_names {heap} {owner} {slot} {word} {named} reads names =
    let is = names_in names in
    record {
      cell = is.target;
      words = words_of_cell heap is.target;
      refers = record {
        refers = same_Some word (reference_word named) (sym reads ∙ is.is.refers) ∙ ap reference_word (sym is.at);
        has = is.there;
      };
      owned = is.owned;
      at = is.at;
    }

-- a slot below the next address is below this one, or here
below_or_here : (slot at : ℕ) → slot < at + 1 → (slot < at) ⊎ (slot ≡ at)
below_or_here slot at below = elim (cases_lt slot at) [ inl before ↦ inl before | inr past ↦ inr (omega arith) ]

-- one slot more was looked at, and what it names was marked
pub names_slot : {heap : Heap} {cell : Cell} {offset word : ℕ} {old new : List Bool} → StandsIn heap cell
    → IsNamer heap cell → Contains (scavenge_offsets cell.layout cell.length) offset
    → slice_get heap.words (cell.at + offset) ≡ Some word → MarksName heap word old new
    → NamesBelow heap (cell.at + offset) old → NamesBelow heap (cell.at + offset + 1) new
names_slot {heap} {cell} {offset} {word} {old} {new} stands namer among reads marked names =
    let at : ℕ = cell.at + offset in
    let here : (owner : Cell) (slot named : ℕ) → slot ≡ at → NamesFrom heap owner slot named
    → IsOwnedAt heap word named =
    λ owner slot named same one. word_names (ap (slice_get heap.words) same ∙ reads) one in
    let was : (owner : Cell) (slot named : ℕ) → slot < at → NamesFrom heap owner slot named
    → slice_get old named ≡ Some true =
    λ owner slot named before one.
    names.each named (record { owner = owner; slot = slot; names = one; below = before }) in
    record {
      as_many = marked.marks.as_many ∙ names.as_many;
      only = λ named set. elim (marked.marks.only named set) [
        | inl before ↦
            let is = names.only named before in
            record { owner = is.owner; slot = is.slot; names = is.names; below = omega (arith, is.below) }
        | inr is ↦
            let one = slot_names stands namer among reads is in
            record { owner = one.owner; slot = at; names = one.names; below = omega arith }
      ];
      each = λ named is. elim (below_or_here is.slot at is.below) [
        | inl before ↦ marked.marks.kept named (was is.owner is.slot named before is.names)
        | inr same ↦ marked.marks.set named (here is.owner is.slot named same is.names)
      ];
      once = λ owner another slot other named one two below below_too.
          elim (below_or_here slot at below) [
            | inl before ↦ elim (below_or_here other at below_too) [
              | inl before_too ↦ names.once owner another slot other named one two before before_too
              | inr same ↦
                  absurd (marked.fresh named (here another other named same two) (was owner slot named before one))
            ]
            | inr same ↦ elim (below_or_here other at below_too) [
              | inl before_too ↦ absurd (marked.fresh named (here owner slot named same one)
                  (was another other named before_too two))
              | inr same_too ↦ same ∙ sym same_too
            ]
          ];
    }

-- no breach is below an address up to which no two slots name one cell
past_names : {heap : Heap} {to : ℕ} {flags : List Bool} → NamesBelow heap to flags → (at found wanted : ℕ)
    → BreaksOwners heap at found wanted → to ≤ at
past_names {to = to} names at found wanted (BreaksOwners.again owner another slot other named one two before) =
    elim (cases_lt slot to) [
      | inl below ↦
          let same = names.once owner another slot other named one two below (omega (arith, below, before)) in
          absurd (omega (arith, same, before))
      | inr past ↦ past
    ]

-- so a slot that names what is named below it is the first breach
pub named_again : {heap : Heap} {cell : Cell} {offset word : ℕ} {flags : List Bool} → StandsIn heap cell
    → IsNamer heap cell → Contains (scavenge_offsets cell.layout cell.length) offset
    → slice_get heap.words (cell.at + offset) ≡ Some word → IsNamedAgain heap word flags
    → NamesBelow heap (cell.at + offset) flags
    → IsFirst (BreaksOwners heap) (record { at = cell.at + offset; found = word; wanted = undefined_word })
named_again {heap} {cell} {offset} {word} stands namer among reads again names =
    let one = slot_names stands namer among reads again.is in
    let other = names.only again.named again.flag in
    let refers : reference_word again.named ≡ word =
    sym (again.is.refers.refers ∙ ap reference_word again.is.at) in
    record {
      breaks = subst (λ found. BreaksOwners heap (cell.at + offset) found undefined_word) refers
          (BreaksOwners.again one.owner other.owner (cell.at + offset) other.slot again.named one.names other.names
          other.below);
      first = past_names names;
    }

-- where no two slots of any address name one cell, each cell has one owner
pub all_named : {heap : Heap} {to : ℕ} {flags : List Bool} → NamesBelow heap to flags
    → ((owner : Cell) (slot named : ℕ) → NamesFrom heap owner slot named → slot < to) → IsOwned heap
all_named names below owner another slot other named one two =
    names.once owner another slot other named one two (below owner slot named one) (below another other named two)

-- nothing was looked at before the first address
pub names_none : {heap : Heap} {flags : List Bool} → length flags ≡ length heap.words
    → ((at : ℕ) → slice_get flags at ≡ Some true → ⊥) → NamesBelow heap 0 flags
names_none many clear = record {
  as_many = many;
  only = λ named set. absurd (clear named set);
  each = λ named is. absurd (omega (arith, is.below));
  once = λ owner another slot other named one two below below_too. absurd (omega (arith, below));
}

-- no slot between two addresses of a cell names anything where its slots there are none
pub none_between : {heap : Heap} {cell : Cell} {from to : ℕ} → HasRows heap → StandsIn heap cell → to ≤ cell.size
    → ((offset : ℕ) → Contains (scavenge_offsets cell.layout cell.length) offset → from ≤ offset → to ≤ offset)
    → (slot named : ℕ) → NamesIn heap slot named → cell.at + from ≤ slot → slot < cell.at + to → ⊥
none_between {heap} {cell} {from} {to} rows stands within none slot named names past below =
    let same : names.cell ≡ cell =
    names_here rows stands names (omega (arith, past)) (omega (arith, below, within)) in
    let is : IsSlotIn heap cell named slot = subst (λ (one : Cell). IsSlotIn heap one named slot) same names.is in
    omega (arith, none is.offset is.among (omega (arith, is.place, past)), is.place, below)

-- the word of a slot of a cell stands in the heap
pub word_read : {heap : Heap} {cell : Cell} {offset word : ℕ} → StandsIn heap cell
    → Contains (scavenge_offsets cell.layout cell.length) offset → HasWord (words_of_cell heap cell) offset word
    → slice_get heap.words (cell.at + offset) ≡ Some word
word_read {heap} {cell} {offset} stands among there =
    let within = (slots_lie_within heap.space heap.words cell offset (has_is_cell stands) among).within in
    sym (slice_get-words_of_cell heap cell offset within) ∙ there

-- the look goes on to the next slot of the cell
pub cell_to_slot : {heap : Heap} {cell : Cell} {from offset : ℕ} {flags : List Bool} → HasRows heap
    → StandsIn heap cell → IsLeastFrom (scavenge_offsets cell.layout cell.length) from offset
    → NamesBelow heap (cell.at + from) flags → NamesBelow heap (cell.at + offset) flags
cell_to_slot {heap} {cell} {from} {offset} rows stands least names =
    let within = (slots_lie_within heap.space heap.words cell offset (has_is_cell stands) least.among).within in
    names_further (omega (arith, least.reached))
    (none_between rows stands (omega (arith, within)) least.least) names

-- or, behind the last, to the cell's end
pub cell_to_end : {heap : Heap} {cell : Cell} {from : ℕ} {flags : List Bool} → HasRows heap → StandsIn heap cell
    → from ≤ cell.size → IsFirstFrom (scavenge_offsets cell.layout cell.length) from None
    → NamesBelow heap (cell.at + from) flags → NamesBelow heap (cell.at + cell.size) flags
cell_to_end {heap} {cell} {from} rows stands within none names =
    let offsets : List ℕ = scavenge_offsets cell.layout cell.length in
    names_further (omega (arith, within))
    (none_between rows stands (omega arith) (λ offset among past.
    let short : offset < from = All-contains (λ one. one < from) offsets offset none among in
    absurd (omega (arith, short, past)))) names

-- no slot of a cell names anything where the cell's slots name nothing
pub none_in_cell : {heap : Heap} {cell : Cell} → HasRows heap → StandsIn heap cell → (IsNamer heap cell → ⊥)
    → (slot named : ℕ) → NamesIn heap slot named → cell.at ≤ slot → slot < cell.at + cell.size → ⊥
none_in_cell {heap} {cell} rows stands none slot named names past below =
    none (subst (IsNamer heap) (names_here rows stands names past below) names.namer)

-- the look goes on to the next cell
pub names_on : {heap : Heap} {at : ℕ} {cell : Cell} {flags : List Bool} → IsBoundary heap at
    → IsFirstCell heap at cell → NamesBelow heap at flags → NamesBelow heap cell.at flags
names_on {heap} {at} {cell} boundary first names =
    names_further first.reached (λ slot named one past below.
    let lies = slot_in_cell one.stands one.is in
    elim (cases_lt one.cell.at at) [
      | inl before ↦ absurd (omega (arith, boundary.apart one.cell _ one.stands before, lies.below, past))
      | inr behind ↦ absurd (omega (arith, first.first one.cell _ one.stands behind, lies.from, below))
    ]) names

-- behind the last cell all slots were looked at
pub names_all : {heap : Heap} {at : ℕ} {flags : List Bool} → IsBoundary heap at → HasNoCellFrom heap at
    → NamesBelow heap at flags → IsOwned heap
names_all boundary none names =
    all_named names (λ owner slot named one.
    let is = names_in one in
    let lies = slot_in_cell is.stands is.is in
    omega (arith, boundary.apart is.cell _ is.stands (none is.cell _ is.stands), lies.below))
