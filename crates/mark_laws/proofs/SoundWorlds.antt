-- A sound world stays sound: its parts stay, each by its own law.
use Rattle.mark_laws.specs.Types.{Event, World}
use Rattle.mark_world.specs.AfterEvents.{after, Possible}
use Rattle.mark_world.specs.Soundness.{Sound}
use Rattle.mark_world.specs.BornCells.{Born}
use Rattle.mark_laws.proofs.Blackness.{black_stays}
use Rattle.mark_laws.proofs.BornSteps.{born_stays}
use Rattle.mark_laws.proofs.GreysWait.{greys_wait}
use Rattle.mark_laws.proofs.Holding.{cells_hold}
use Rattle.mark_laws.proofs.ListsStay.{lists_stay}
use Rattle.mark_laws.proofs.Sizing.{sizes_stay}
use Rattle.mark_laws.proofs.SnapsSteps.{snaps_stay}
use Rattle.mark_laws.proofs.Sureness.{sure_stays}

-- each part of a sound world is so after a possible event
sound_after : (world : World) (of : Event) → Sound world → Born world → Possible world of → Sound (after world of)
sound_after world of sound born may = record {
  sizes = sizes_stay world of sound.sizes sound.lists may;
  cells = cells_hold world of sound.sizes sound.cells sound.lists may;
  lists = lists_stay world of sound.sizes sound.cells sound.lists born may;
  sure = sure_stays world of sound.sizes sound.cells sound.lists sound.sure sound.black born may;
  black = black_stays world of sound.sizes sound.cells sound.lists sound.sure sound.black sound.snaps born may;
  grey = greys_wait world of sound.sizes sound.cells sound.lists sound.grey may;
  snaps = snaps_stay world of sound.sizes sound.cells sound.lists sound.sure sound.snaps born may;
}

-- a sound world is sound after each possible event, and marking still reaches only born cells
pub sound_stays : (world : World) (of : Event) → Sound world → Born world → Possible world of
    → Sound (after world of) × Born (after world of)
sound_stays world of sound born may = (
  sound_after world of sound born may,
  born_stays world of sound.sizes sound.cells sound.lists sound.sure sound.snaps born may,
)
