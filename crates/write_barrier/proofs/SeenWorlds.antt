-- The pages of a heap as a world of marking, and how it goes on where words are stored.
use Rattle.std.proofs.Common.{◌≡◌, ℕ, List, [], Contains, Option, Some, None, slice_set, refl, sym}
use Rattle.std.proofs.Common.{subst}
use Rattle.std.proofs.lemmas.List.Elements.{All-nil}
use Rattle.core_parts.specs.Boards.{joined_by}
use Rattle.mark_laws.specs.PageWords.{HasMainSound, MainSound}
use Rattle.mark_laws.specs.Types.{Actor, Event, MainView, World}
use Rattle.mark_laws.proofs.Joins.{of_target}
use Rattle.mark_laws.proofs.MainStays.{main_sound_stays}
use Rattle.mark_world.specs.AfterEvents.{Possible, after}
use Rattle.mark_world.specs.Conditions.{MayBeNew, MayStoreHeader, MayStoreOwned, MayStoreSlot}
use Rattle.mark_world.specs.Cycles.{Cycle}
use Rattle.mark_world.specs.Pages.{target}
use Rattle.mark_world.specs.Steps.{actor}
use Rattle.mark_world.specs.declared.event.Event.TheVariants as event
use Rattle.mark_barrier.specs.CycleSteps.{made_black, published, sure_of_target}
use Rattle.cycle_state.specs.Claims.{GoesOn}
use Rattle.cycle_state.specs.Cycles.{main_of}
use Rattle.cycle_state.proofs.GoingOn.{events_go_on, goes_on_again}

-- the world of these words of pages and layout words, by what is known of a cycle
abbrev pub seen : ℕ → List ℕ → List ℕ → Cycle → World
seen old words layouts cycle = record {
  old = old;
  words = words;
  layouts = layouts;
  colours = [];
  board = [];
  main = main_of cycle;
  helpers = [];
}

-- the mutator's view of a world without what it owes, its grey cells and its log
abbrev pub bare_view : MainView → MainView
bare_view main = record main { owed = []; grey = []; log = [] }

-- the mutator's view of a world is as in a sound one, and another world goes on to it
pub record SeesOn (world next : World) : Type 0 where
  pub sound : HasMainSound next
  pub goes : GoesOn world next

-- a world whose mutator owes nothing is seen so, as far as its view, words and layout words go
bare_sound : (world : World) → HasMainSound world
    → MainSound world.old world.words world.layouts (bare_view world.main)
bare_sound world sound = record {
  pages = sound.pages;
  addresses = sound.addresses;
  within = sound.within;
  shapes = sound.shapes;
  read = sound.read;
  apart = sound.apart;
  born = sound.born;
  mine = sound.mine;
  mine_born = sound.mine_born;
  mine_old = sound.mine_old;
  sure_born = sound.sure_born;
  owed_born = All-nil (Contains world.main.born);
  slots = sound.slots;
}

-- the world with no colours, no board and no helpers, and another view
abbrev bare_world : World → MainView → World
bare_world world main = record world { colours = []; board = []; main = main; helpers = [] }

-- a world goes on to it
bare_goes : {first world : World} → GoesOn first world → GoesOn first (bare_world world (bare_view world.main))
bare_goes goes = record {
  old = goes.old;
  long = goes.long;
  grows = record {
    starts = goes.grows.starts;
    born = goes.grows.born;
    mine = goes.grows.mine;
    sure = goes.grows.sure;
  };
  free = goes.free;
  reads = λ start free cell is.
      let on = goes.reads start free cell is in
      record { cell = on.cell; is = on.is; one_kind = on.one_kind; widens = on.widens };
}

-- so where a world's lists are those of a cycle it is seen by that cycle
pub seen_on : {first world : World} (cycle : Cycle) → main_of cycle ≡ bare_view world.main → SeesOn first world
    → SeesOn first (seen world.old world.words world.layouts cycle)
seen_on {first} {world} cycle same sees = record {
  sound = subst (λ (main : MainView). MainSound world.old world.words world.layouts main) (sym same)
      (bare_sound world sees.sound);
  goes = subst (λ (main : MainView). GoesOn first (bare_world world main)) (sym same) (bare_goes sees.goes);
}

-- it goes on by a step of the mutator
pub step_sees : (world : World) (of : Event) → actor of ≡ Actor.Mutator → HasMainSound world → Possible world of
    → SeesOn world (after world of)
step_sees world of is sound may = record {
  sound = main_sound_stays world of sound is may;
  goes = events_go_on world of sound may;
}

-- and by two
pub step_again : (first world : World) (of : Event) → actor of ≡ Actor.Mutator → SeesOn first world → Possible world of
    → SeesOn first (after world of)
step_again first world of is sees may =
    let next = step_sees world of is sees.sound may in record {
      sound = next.sound;
      goes = goes_on_again first world (after world of) sees.goes next.goes;
    }

-- the words are those of the pages of a world that is seen by a cycle
module _ (old : ℕ) (words layouts : List ℕ) (cycle : Cycle) (sound : HasMainSound (seen old words layouts cycle)) where
  abbrev here : World
  here = seen old words layouts cycle

  -- a word that is owned was stored
  pub owned_sees : (at word : ℕ) → MayStoreOwned old words layouts (main_of cycle) at
      → SeesOn here (seen old (slice_set words at word) layouts cycle)
  owned_sees at word may = seen_on cycle refl (step_sees here (event.StoreOwned at word) refl sound may)

  -- a header was
  pub header_sees : (at word : ℕ) → MayStoreHeader old words layouts (main_of cycle) at word
      → SeesOn here (seen old (slice_set words at word) layouts cycle)
  header_sees at word may = seen_on cycle refl (step_sees here (event.StoreHeader at word) refl sound may)

  -- a slot was, and its target is shaded
  slot_sees_by : (at word : ℕ) (to : Option ℕ) → target old word ≡ to
      → MayStoreSlot old words layouts (main_of cycle) at word
      → SeesOn here (seen old (slice_set words at word) layouts (record cycle { sure = joined_by cycle.sure to }))
  slot_sees_by at word None is may =
      seen_on cycle refl (step_sees here (event.StoreSlot at word) refl sound may)
  slot_sees_by at word (Some to) is may =
      let stored = step_sees here (event.StoreSlot at word) refl sound may in
      let is_born : Contains cycle.born to = of_target old word to (Contains cycle.born) is may.born in
      seen_on (record cycle { sure = joined_by cycle.sure (Some to) }) refl
      (step_again here (after here (event.StoreSlot at word)) (event.ShadeMain to) refl stored is_born)

  -- by whatever target it has
  pub slot_sees : (at word : ℕ) → MayStoreSlot old words layouts (main_of cycle) at word
      → SeesOn here (seen old (slice_set words at word) layouts (sure_of_target old cycle word))
  slot_sees at word may = slot_sees_by at word (target old word) refl may

  -- a cell was made black
  pub black_sees : (at : ℕ) → Contains cycle.born at
      → SeesOn here (seen old words layouts (made_black old words layouts cycle at))
  black_sees at is_born =
      seen_on (made_black old words layouts cycle at) refl (step_sees here (event.Blacken at) refl sound is_born)

  -- and a new cell was published
  pub new_sees : (at : ℕ) → MayBeNew old words layouts (main_of cycle) at
      → SeesOn here (seen old words layouts (published cycle at))
  new_sees at may = seen_on (published cycle at) refl (step_sees here (event.NewBlack at) refl sound may)
