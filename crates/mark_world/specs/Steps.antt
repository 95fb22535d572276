-- What an event does: the one word that it touches, that word afterwards, and what its seat knows then.
use Rattle.std.specs.Prelude.{ℕ, ◌+◌, ◌==◌, true, false, List, [], ◌∷◌, ◌++◌, Option, Some, None}
use Rattle.std.specs.Prelude.{if◌then◌else◌}
use Rattle.std.specs.Option.{option_map, option_and_then}
use Rattle.tagged_word.specs.declared.reading.Reading.{Reading}
use Rattle.tagged_word.specs.Cells.{length_offset}
use Rattle.tagged_word.specs.Readings.{header_in}
use Rattle.core_parts.specs.declared.note.Note.{Note}
use Rattle.core_parts.specs.declared.note.Note.TheVariants.{Loaded, Coloured, Gave, Took}
use Rattle.core_parts.specs.Lists.{joined, left}
use Rattle.core_parts.specs.Boards.{given_word, giver_left, taken_word, taker_joined, joined_by}
use Rattle.mark_world.specs.declared.event.Event.{Event}
use Rattle.mark_world.specs.declared.event.Event.TheVariants as event
use Rattle.mark_world.specs.declared.step.Actor.{Actor}
use Rattle.mark_world.specs.declared.step.Spot.{Spot}
use Rattle.mark_world.specs.declared.snap.Snap.{Snap}
use Rattle.mark_world.specs.declared.views.MainView.{MainView}
use Rattle.mark_world.specs.declared.views.HelperView.{HelperView}
use Rattle.mark_world.specs.Pages.{cell_at, is_free, slot_words, target, targets_joined}
use Rattle.mark_world.specs.Naming.{read_words}

-- not reached
abbrev pub white : ℕ
white = 0

-- reached, with slots to visit
abbrev pub grey : ℕ
grey = 1

-- done
abbrev pub black : ℕ
black = 2

-- whose step an event is
abbrev pub actor : Event → Actor
actor event.Look = Actor.Mutator
actor (event.StoreSlot at word) = Actor.Mutator
actor (event.StoreOwned at word) = Actor.Mutator
actor (event.StoreHeader at word) = Actor.Mutator
actor (event.AddLayout shape word) = Actor.Mutator
actor (event.ShadeMain at) = Actor.Mutator
actor (event.Blacken at) = Actor.Mutator
actor (event.NewBlack at) = Actor.Mutator
actor event.Lend = Actor.Lends
actor (event.Return number) = Actor.Returns number
actor (event.LoadHeader number cell) = Actor.Helper number
actor (event.LoadLayout number) = Actor.Helper number
actor (event.LoadLength number) = Actor.Helper number
actor (event.LoadSlot number offset) = Actor.Helper number
actor (event.Settle number) = Actor.Helper number
actor (event.ShadeHelper number at) = Actor.Helper number
actor (event.Give number place at) = Actor.Helper number
actor (event.Take number place) = Actor.Helper number
actor (event.GiveMain place at) = Actor.Mutator
actor (event.TakeMain place) = Actor.Mutator

-- the word that a step of the mutator touches
abbrev pub main_spot : Event → Option Spot
main_spot (event.StoreSlot at word) = Some (Spot.Heap at)
main_spot (event.StoreOwned at word) = Some (Spot.Heap at)
main_spot (event.StoreHeader at word) = Some (Spot.Heap at)
main_spot (event.AddLayout shape word) = Some (Spot.Layout shape)
main_spot (event.ShadeMain at) = Some (Spot.Colour at)
main_spot (event.Blacken at) = Some (Spot.Colour at)
main_spot (event.NewBlack at) = Some (Spot.Colour at)
main_spot (event.GiveMain place at) = Some (Spot.Board place)
main_spot (event.TakeMain place) = Some (Spot.Board place)
main_spot _ = None

-- the layout word of the shape of the header that was read
abbrev pub layout_spot : Snap → Option Spot
layout_spot snap = option_map (λ header. Spot.Layout header.shape) (header_in snap.header)

-- the word that a step of a helper touches: of its snap's cell, or the one that the event names
abbrev pub helper_spot : HelperView → Event → Option Spot
helper_spot view (event.LoadHeader number cell) = Some (Spot.Heap cell)
helper_spot view (event.LoadLayout number) = option_and_then layout_spot view.snap
helper_spot view (event.LoadLength number) = option_map (λ snap. Spot.Heap (snap.cell + length_offset)) view.snap
helper_spot view (event.LoadSlot number offset) = option_map (λ snap. Spot.Heap (snap.cell + offset)) view.snap
helper_spot view (event.Settle number) = option_map (λ snap. Spot.Colour snap.cell) view.snap
helper_spot view (event.ShadeHelper number at) = Some (Spot.Colour at)
helper_spot view (event.Give number place at) = Some (Spot.Board place)
helper_spot view (event.Take number place) = Some (Spot.Board place)
helper_spot view _ = None

-- a colour after a cell was shaded: white turns grey, and others stay
abbrev pub shaded : ℕ → ℕ
shaded found = if found == white then grey else found

-- a colour after a snap of the cell was settled: grey turns black, and others stay
abbrev pub settled : ℕ → ℕ
settled found = if found == grey then black else found

-- the word that an event touches, afterwards, by the word found there
abbrev pub becomes : Event → ℕ → ℕ
becomes (event.StoreSlot at word) found = word
becomes (event.StoreOwned at word) found = word
becomes (event.StoreHeader at word) found = word
becomes (event.AddLayout shape word) found = word
becomes (event.ShadeMain at) found = shaded found
becomes (event.Blacken at) found = black
becomes (event.NewBlack at) found = black
becomes (event.Settle number) found = settled found
becomes (event.ShadeHelper number at) found = shaded found
becomes (event.Give number place at) found = given_word found at
becomes (event.Take number place) found = taken_word found
becomes (event.GiveMain place at) found = given_word found at
becomes (event.TakeMain place) found = taken_word found
becomes _ found = found

-- a log takes each note at its end
abbrev pub noted : List Note → Note → List Note
noted log note = log ++ note ∷ []

-- a cell that was found white joins the list
abbrev pub joined_if_white : List ℕ → ℕ → ℕ → List ℕ
joined_if_white list found at = if found == white then joined list at else list

-- What the mutator knows once it has made a cell black whose tagged slots hold words: it is sure of their targets, and
-- owes them where no helper had made the cell black before.
abbrev pub blackened : ℕ → MainView → ℕ → ℕ → List ℕ → MainView
blackened old main at found words = record main {
  mine = joined main.mine at;
  sure = targets_joined old main.sure words;
  owed = if found == black then main.owed else targets_joined old main.owed words;
  grey = left main.grey at;
  log = noted main.log (Coloured at found);
}

-- the words of the tagged slots of a cell; none where no cell is read
abbrev pub words_in_slots : List ℕ → ℕ → Option Reading → List ℕ
words_in_slots words at None = []
words_in_slots words at (Some cell) = slot_words words at cell

-- the words of the tagged slots of a cell, if it is a free start
abbrev pub free_slot_words : ℕ → List ℕ → List ℕ → MainView → ℕ → List ℕ
free_slot_words old words layouts main at =
    if is_free main at then words_in_slots words at (cell_at old words layouts at) else []

-- what the mutator knows after a step of its own, by the word found
abbrev pub main_learns : ℕ → List ℕ → List ℕ → MainView → Event → ℕ → MainView
main_learns old words layouts main (event.StoreSlot at word) found =
    record main { owed = joined_by main.owed (target old word) }
main_learns old words layouts main (event.ShadeMain at) found = record main {
  sure = joined main.sure at;
  owed = left main.owed at;
  grey = joined_if_white main.grey found at;
  log = noted main.log (Coloured at found);
}
main_learns old words layouts main (event.Blacken at) found =
    blackened old main at found (free_slot_words old words layouts main at)
main_learns old words layouts main (event.NewBlack at) found = record main {
  starts = joined main.starts at;
  born = joined main.born at;
  mine = joined main.mine at;
}
main_learns old words layouts main (event.GiveMain place at) found = record main {
  grey = giver_left main.grey found at;
  log = noted main.log (Gave place found);
}
main_learns old words layouts main (event.TakeMain place) found = record main {
  grey = taker_joined main.grey found;
  log = noted main.log (Took place found);
}
main_learns old words layouts main _ found = main

-- a snap of which the header was read
abbrev pub snap_begun : ℕ → ℕ → Snap
snap_begun cell found = record { cell = cell; header = found; layout = None; length = None; slots = [] }

-- the snap with a layout word that was read
abbrev pub with_layout : ℕ → Snap → Snap
with_layout found snap = record snap { layout = Some found }

-- the snap with a length that was read
abbrev pub with_length : ℕ → Snap → Snap
with_length found snap = record snap { length = Some found }

-- the snap with a slot that was read
abbrev pub with_slot : ℕ → ℕ → Snap → Snap
with_slot offset found snap = record snap { slots = snap.slots ++ record { offset = offset; word = found } ∷ [] }

-- the targets of the words that were read in slots, each once
abbrev pub snap_targets : ℕ → Snap → List ℕ
snap_targets old snap = targets_joined old [] (read_words snap)

-- what a helper knows once its snap has ended: the targets are to be visited where it made the cell black
abbrev pub snap_settled : ℕ → HelperView → ℕ → Option Snap → HelperView
snap_settled old view found None = view
snap_settled old view found (Some snap) = record view {
  snap = None;
  last = Some snap;
  visit = if found == grey then snap_targets old snap else view.visit;
  log = noted view.log (Coloured snap.cell found);
}

-- what a helper knows after a step of its own, by the word found
abbrev pub helper_learns : ℕ → HelperView → Event → ℕ → HelperView
helper_learns old view (event.LoadHeader number cell) found = record view {
  snap = Some (snap_begun cell found);
  grey = left view.grey cell;
  log = noted view.log (Loaded cell);
}
helper_learns old view (event.LoadLayout number) found =
    record view { snap = option_map (with_layout found) view.snap }
helper_learns old view (event.LoadLength number) found =
    record view { snap = option_map (with_length found) view.snap }
helper_learns old view (event.LoadSlot number offset) found =
    record view { snap = option_map (with_slot offset found) view.snap }
helper_learns old view (event.Settle number) found = snap_settled old view found view.snap
helper_learns old view (event.ShadeHelper number at) found = record view {
  visit = left view.visit at;
  grey = joined_if_white view.grey found at;
  log = noted view.log (Coloured at found);
}
helper_learns old view (event.Give number place at) found = record view {
  grey = giver_left view.grey found at;
  log = noted view.log (Gave place found);
}
helper_learns old view (event.Take number place) found = record view {
  grey = taker_joined view.grey found;
  log = noted view.log (Took place found);
}
helper_learns old view _ found = view

-- the view of a seat that was just lent: empty, and out
abbrev pub lent : HelperView
lent = record { out = true; snap = None; last = None; visit = []; grey = []; log = [] }

-- the view of a seat that was taken back: empty, and not out
abbrev pub returned : HelperView
returned = record { out = false; snap = None; last = None; visit = []; grey = []; log = [] }

-- the list once addresses have joined it, one after another
abbrev pub all_joined : List ℕ → List ℕ → List ℕ
all_joined list [] = list
all_joined list (at ∷ rest) = all_joined (joined list at) rest

-- what the mutator knows once it has taken a seat back: what the helper was to visit is owed, and the grey cells that
-- waited with it, and that of its snap, wait with the mutator
abbrev pub taken_back : MainView → HelperView → MainView
taken_back main view = record main {
  owed = all_joined main.owed view.visit;
  grey = joined_by (all_joined main.grey view.grey) (option_map (λ snap. snap.cell) view.snap);
}
