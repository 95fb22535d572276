-- What soundness says of the mutator's view alone stays through the mutator's steps. A sound world stands in for all
-- with the view, the pages and the layout words: born cells are black there, and nothing waits.
use Rattle.std.proofs.Common.{ℕ, ◌+◌, ◌<◌, ◌≡◌, ◌≢◌, ◌∙◌, ◌==◌, ◌⊎◌, inl, inr, Bool, List, []}
use Rattle.std.proofs.Common.{All, Contains, length, map, get_or, slice_index, IfSome}
use Rattle.std.proofs.Common.{if◌then◌else◌, sym, ap, subst, arith}
use Rattle.std.specs.List.{range_with_len}
use Rattle.std.proofs.lemmas.Bool.{cases_lt}
use Rattle.std.proofs.lemmas.List.{get_or_past}
use Rattle.std.proofs.lemmas.Grind.{get_or_default_zero}
use Rattle.std.proofs.lemmas.List.FromFn.{get_or-map-range_with_len, length-map-range_with_len}
use Rattle.std.proofs.lemmas.List.Elements.{All-contains, All-nil, All-replicate}
use Rattle.tagged_word.specs.Readings.{reference_in}
use Rattle.page_space.specs.Extents.{board_words}
use Rattle.mark_laws.specs.Types.{Note, Event, Actor, HelperView, MainView, World}
use Rattle.core_parts.specs.declared.note.Note.TheVariants.{Coloured, Gave, Took}
use Rattle.core_parts.specs.Boards.{empty_board, giver_left, joined_by, taker_joined}
use Rattle.core_parts.specs.Lists.{is_in, left}
use Rattle.core_parts.proofs.Handing.{empty_is_board}
use Rattle.core_parts.proofs.Joining.{decided, found_in, in_found}
use Rattle.mark_world.specs.declared.event.Event.TheVariants as event
use Rattle.mark_world.specs.Pages.{target, targets_joined}
use Rattle.mark_world.specs.Steps.{actor, black, free_slot_words, grey, joined_if_white, noted, white}
use Rattle.mark_world.specs.Conditions.{MayMain}
use Rattle.mark_world.specs.AfterEvents.{IsMarked, Possible, PossibleStep, after, after_main, after_step}
use Rattle.mark_world.specs.Coverage.{HasCovered, IsCovered, cell_of, colour_of}
use Rattle.mark_world.specs.Soundness.{AreIn, HasCells, HasLists, HasSizes, HasSure, HasViewLists}
use Rattle.mark_world.specs.Soundness.{IsTrueSnap, Sound, Waits}
use Rattle.mark_world.specs.BornCells.{Born, HasBorn}
use Rattle.mark_laws.specs.PageWords.{HasMainSound, MainSound, MainSoundStays}
use Rattle.mark_laws.proofs.Joins.{all_from, of_slot, targets_from, targets_there}
use Rattle.mark_laws.proofs.Listing.{some_weaker}
use Rattle.mark_laws.proofs.PagesTell.{whole_main}
use Rattle.mark_laws.proofs.Slots.{each_slot}
use Rattle.mark_laws.proofs.SoundWorlds.{sound_stays}
use Rattle.mark_laws.proofs.Starts.{free_or_mine, read_old, value_of}

-- black if the cell is born, else white
abbrev born_colour : MainView → ℕ → ℕ
born_colour main at = if is_in main.born at then black else white

-- the world in which born cells are black and nothing waits
abbrev stand_in : ℕ → List ℕ → List ℕ → MainView → World
stand_in old words layouts main = record {
  old = old;
  words = words;
  layouts = layouts;
  colours = map (born_colour main) (range_with_len 0 old);
  board = empty_board;
  main = record main { grey = [] };
  helpers = [];
}

-- a born cell is old
pub born_old : (world : World) → HasMainSound world → (at : ℕ) → Contains world.main.born at → at < world.old
born_old world sound at is_born =
    elim (free_or_mine world at (All-contains (Contains world.main.starts) world.main.born at sound.born is_born)) [
      | inl free ↦ let read = value_of (cell_of world at) (sound.read at free) in read_old world at read.0 read.1
      | inr mine ↦ All-contains (λ (a : ℕ). a < world.old) world.main.mine at sound.mine_old mine
    ]

-- the world that stands in for another
abbrev standing : World → World
standing world = stand_in world.old world.words world.layouts world.main

-- the colour of an old cell there
colour_there : (world : World) (at : ℕ) → at < world.old
    → colour_of (standing world) at ≡ born_colour world.main at
colour_there world at below =
    get_or-map-range_with_len (born_colour world.main) 0 world.old at at 0 below (omega arith)

-- a born cell is black there
born_black : (world : World) → HasMainSound world → (at : ℕ) → Contains world.main.born at
    → colour_of (standing world) at ≡ black
born_black world sound at is_born =
    colour_there world at (born_old world sound at is_born)
    ∙ ap (λ (b : Bool). if b then black else white) (found_in world.main.born at is_born)

-- each cell is white there, or born and black
colour_cases : (world : World) → HasMainSound world → (at : ℕ)
    → (colour_of (standing world) at ≡ white)
    ⊎ (Contains world.main.born at × (colour_of (standing world) at ≡ black))
colour_cases world sound at = elim (decided (is_in world.main.born at)) [
  | inl found ↦ let is_born = in_found world.main.born at found in inr (is_born, born_black world sound at is_born)
  | inr other ↦ elim (cases_lt at world.old) [
    | inl below ↦ inl (colour_there world at below ∙ ap (λ (b : Bool). if b then black else white) other)
    | inr past ↦ inl (get_or_past (map (born_colour world.main) (range_with_len 0 world.old)) at 0
        (let count : length (map (born_colour world.main) (range_with_len 0 world.old)) ≡ world.old =
        length-map-range_with_len (born_colour world.main) 0 world.old in
        omega (arith, count, past)))
  ]
]

-- a cell that is not white there is born
coloured_born : (world : World) → HasMainSound world → (at : ℕ) → colour_of (standing world) at ≢ white
    → Contains world.main.born at
coloured_born world sound at coloured = elim (colour_cases world sound at) [
  | inl is_white ↦ absurd (coloured is_white)
  | inr born ↦ born.0
]

-- a born cell is covered there
born_covered : (world : World) → HasMainSound world → (at : ℕ) → Contains world.main.born at
    → IsCovered (standing world) at
born_covered world sound at is_born =
    inl (λ is_white. let is_black = born_black world sound at is_born in absurd (omega (arith, is_black, is_white)))

-- the sizes are right there
sizes_there : (world : World) → HasMainSound world → HasSizes (standing world)
sizes_there world sound = record {
  pages = sound.pages;
  addresses = sound.addresses;
  words = sound.within;
  colours = length-map-range_with_len (born_colour world.main) 0 world.old;
  three = λ k d l. elim (colour_cases world sound k) [
    | inl is_white ↦
        let same : get_or (standing world).colours k d ≡ get_or (standing world).colours k 0 =
        get_or_default_zero (standing world).colours k d l in
        omega (arith, same, is_white)
    | inr born ↦
        let same : get_or (standing world).colours k d ≡ get_or (standing world).colours k 0 =
        get_or_default_zero (standing world).colours k d l in
        omega (arith, same, born.1)
  ];
  board = empty_is_board;
  layouts = sound.shapes;
}

-- so are the cells
cells_there : (world : World) → HasMainSound world → HasCells (standing world)
cells_there world sound = record {
  read = sound.read;
  apart = sound.apart;
  born = sound.born;
  mine = sound.mine;
  mine_born = sound.mine_born;
  mine_black = all_from (λ at. colour_of (standing world) at ≡ black) world.main.mine (λ at mine.
      born_black world sound at (All-contains (Contains world.main.born) world.main.mine at sound.mine_born mine));
}

-- and the lists
lists_there : (world : World) → HasMainSound world → HasLists (standing world)
lists_there world sound = record {
  main = All-nil (IsMarked (standing world));
  helpers = All-nil (HasViewLists (standing world));
  board = All-replicate (λ word. IfSome (reference_in word) (IsMarked (standing world))) board_words 0 tt;
  coloured = λ at coloured. All-contains (Contains world.main.starts) world.main.born at sound.born
      (coloured_born world sound at coloured);
}

-- what the mutator is sure of is covered
sure_there : (world : World) → HasMainSound world → HasSure (standing world)
sure_there world sound = record {
  covered = all_from (IsCovered (standing world)) world.main.sure (λ at is_sure. born_covered world sound at
      (All-contains (Contains world.main.born) world.main.sure at sound.sure_born is_sure));
  sure_born = sound.sure_born;
  owed_born = sound.owed_born;
}

-- a word with a born target is covered
target_covered : (world : World) → HasMainSound world → (word : ℕ) → HasBorn world word
    → HasCovered (standing world) word
target_covered world sound word =
    some_weaker (Contains world.main.born) (IsCovered (standing world)) (target world.old word)
    (born_covered world sound)

-- the world that stands in is sound
sound_there : (world : World) → HasMainSound world → Sound (standing world)
sound_there world sound = record {
  sizes = sizes_there world sound;
  cells = cells_there world sound;
  lists = lists_there world sound;
  sure = sure_there world sound;
  black = λ start free is_black. each_slot (standing world) start (λ offset. HasCovered (standing world))
      (λ cell e offset c. target_covered world sound (slice_index world.words (start + offset))
      (of_slot world start offset cell (λ o. HasBorn world) e c
      (sound.slots start free
      (coloured_born world sound start (λ is_white. absurd (omega (arith, is_black, is_white)))))));
  grey = all_from (λ at. colour_of (standing world) at ≡ grey → Waits (standing world) at) world.main.starts
      (λ at c is_grey. elim (colour_cases world sound at) [
        | inl is_white ↦ absurd (omega (arith, is_white, is_grey))
        | inr born ↦ let is_black = born.1 in absurd (omega (arith, is_black, is_grey))
      ]);
  snaps = All-nil (λ (view : HelperView). IfSome view.snap (λ snap. colour_of (standing world) snap.cell ≡ grey
      → IsTrueSnap (standing world) snap));
}

-- and only born cells are reached there
born_there : (world : World) → HasMainSound world → Born (standing world)
born_there world sound = record {
  reached = λ at reached. coloured_born world sound at reached.coloured;
  slots = sound.slots;
  snaps = All-nil (λ (view : HelperView). IfSome view.snap (λ snap. colour_of (standing world) snap.cell ≡ grey
      → All (λ slot. HasBorn (standing world) slot.word) snap.slots));
  visits = All-nil (λ (view : HelperView). All (λ at. Contains world.main.born at) view.visit);
}

-- what is said of the mutator's view is so after a step in the world that stands in
after_there : (world : World) (of : Event) → HasMainSound world → actor of ≡ Actor.Mutator
    → MayMain world.old world.words world.layouts (standing world).main of
    → HasMainSound (after_main (standing world) of)
after_there world of sound is may =
    let possible : Possible (standing world) of = subst (PossibleStep (standing world) of) (sym is) may in
    let whole = sound_stays (standing world) of (sound_there world sound) (born_there world sound) possible in
    subst (λ (by : Actor). HasMainSound (after_step (standing world) of by)) is
    (whole_main (after (standing world) of) whole.0 whole.1)

-- what is owed, where it is born, and what waits and was noted make no difference
rest_free : (old : ℕ) (words layouts : List ℕ) (main : MainView) (owed waiting : List ℕ) (log : List Note)
    → AreIn main.born owed → MainSound old words layouts main
    → MainSound old words layouts (record main { owed = owed; grey = waiting; log = log })
rest_free old words layouts main owed waiting log are_born sound = record {
  pages = sound.pages;
  addresses = sound.addresses;
  within = sound.within;
  shapes = sound.shapes;
  read = sound.read;
  apart = sound.apart;
  born = sound.born;
  mine = sound.mine;
  mine_born = sound.mine_born;
  mine_old = sound.mine_old;
  sure_born = sound.sure_born;
  owed_born = are_born;
  slots = sound.slots;
}

-- after a step, with the words, the layout words and the view that it leaves, the same is said
as_there : (world : World) (of : Event) (owed waiting : List ℕ) (log : List Note)
    → HasMainSound (after_main (standing world) of)
    → AreIn (after_main (standing world) of).main.born owed
    → MainSound (after_main (standing world) of).old (after_main (standing world) of).words
    (after_main (standing world) of).layouts
    (record (after_main (standing world) of).main { owed = owed; grey = waiting; log = log })
as_there world of owed waiting log sound are_born =
    rest_free (after_main (standing world) of).old (after_main (standing world) of).words
    (after_main (standing world) of).layouts (after_main (standing world) of).main owed waiting log are_born sound

-- what is owed once a cell was made black is born
owed_after_black : (world : World) (at found : ℕ) (words : List ℕ) → AreIn world.main.born world.main.owed
    → AreIn world.main.born (targets_joined world.old world.main.sure words)
    → AreIn world.main.born (if found == black then world.main.owed else targets_joined world.old world.main.owed words)
owed_after_black world at found words owed sure = elim (decided (found == black)) [
  | inl is_black ↦ subst (λ (b : Bool). AreIn world.main.born
      (if b then world.main.owed else targets_joined world.old world.main.owed words)) (sym is_black) owed
  | inr other ↦ subst (λ (b : Bool). AreIn world.main.born
      (if b then world.main.owed else targets_joined world.old world.main.owed words)) (sym other)
      (all_from (Contains world.main.born) (targets_joined world.old world.main.owed words)
      (λ to c. elim (targets_from world.old world.main.owed words to c) [
        | inl had ↦ All-contains (Contains world.main.born) world.main.owed to owed had
        | inr new ↦ All-contains (Contains world.main.born) (targets_joined world.old world.main.sure words) to sure
            (targets_there world.old world.main.sure words new.0 to new.1 new.2)
      ]))
]

-- what is said of the mutator's view stays so through a step of the mutator
main_after : (world : World) (of : Event) → HasMainSound world → actor of ≡ Actor.Mutator
    → MayMain world.old world.words world.layouts world.main of → HasMainSound (after_main world of)
main_after world (event.StoreSlot at word) sound is may =
    let there = after_there world (event.StoreSlot at word) sound is
    (record { place = may.place; no_head = may.no_head; slot_word = may.slot_word; born = may.born }) in
    as_there world (event.StoreSlot at word) (joined_by world.main.owed (target world.old word)) world.main.grey
    world.main.log there there.owed_born
main_after world (event.StoreOwned at word) sound is may =
    let there = after_there world (event.StoreOwned at word) sound is
    (record { place = may.place; alone = may.alone }) in
    as_there world (event.StoreOwned at word) world.main.owed world.main.grey world.main.log there there.owed_born
main_after world (event.StoreHeader at word) sound is may =
    let there = after_there world (event.StoreHeader at word) sound is
    (record { place = may.place; safe = may.safe; sure = may.sure }) in
    as_there world (event.StoreHeader at word) world.main.owed world.main.grey world.main.log there there.owed_born
main_after world (event.AddLayout shape word) sound is may =
    let there = after_there world (event.AddLayout shape word) sound is may in
    as_there world (event.AddLayout shape word) world.main.owed world.main.grey world.main.log there there.owed_born
main_after world (event.NewBlack at) sound is may =
    let there = after_there world (event.NewBlack at) sound is (record { page = may.page; outside = may.outside }) in
    as_there world (event.NewBlack at) world.main.owed world.main.grey world.main.log there there.owed_born
main_after world (event.ShadeMain at) sound is may =
    let there = after_there world (event.ShadeMain at) sound is may in
    as_there world (event.ShadeMain at) (left world.main.owed at)
    (joined_if_white world.main.grey (colour_of world at) at)
    (noted world.main.log (Coloured at (colour_of world at))) there there.owed_born
main_after world (event.Blacken at) sound is may =
    let there = after_there world (event.Blacken at) sound is may in
    let words : List ℕ = free_slot_words world.old world.words world.layouts world.main at in
    as_there world (event.Blacken at)
    (if colour_of world at == black then world.main.owed else targets_joined world.old world.main.owed words)
    (left world.main.grey at) (noted world.main.log (Coloured at (colour_of world at))) there
    (owed_after_black world at (colour_of world at) words sound.owed_born there.sure_born)
main_after world (event.GiveMain place at) sound is may =
    let found : ℕ = slice_index world.board place in
    rest_free world.old world.words world.layouts world.main world.main.owed (giver_left world.main.grey found at)
    (noted world.main.log (Gave place found)) sound.owed_born sound
main_after world (event.TakeMain place) sound is may =
    let found : ℕ = slice_index world.board place in
    rest_free world.old world.words world.layouts world.main world.main.owed (taker_joined world.main.grey found)
    (noted world.main.log (Took place found)) sound.owed_born sound
main_after world _ sound is may = sound

-- each possible step of the mutator keeps it
pub main_sound_stays : MainSoundStays
main_sound_stays world of sound is possible =
    subst (λ (by : Actor). HasMainSound (after_step world of by)) (sym is)
    (main_after world of sound is (subst (PossibleStep world of) is possible))
