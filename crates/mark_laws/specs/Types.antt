-- The types of worlds and their events, for the laws and for what stands on them.
pub use Rattle.tagged_word.specs.declared.header.Header.{Header}
pub use Rattle.tagged_word.specs.declared.layout.Kind.{Kind}
pub use Rattle.tagged_word.specs.declared.layout.LayoutWord.{LayoutWord}
pub use Rattle.tagged_word.specs.declared.reading.Reading.{Reading}
pub use Rattle.core_parts.specs.declared.note.Note.{Note}
pub use Rattle.core_parts.specs.declared.stop.StepStop.{StepStop}
pub use Rattle.mark_world.specs.declared.event.Event.{Event}
pub use Rattle.mark_world.specs.declared.laid.Laid.{Laid}
pub use Rattle.mark_world.specs.declared.snap.Snap.{Snap}
pub use Rattle.mark_world.specs.declared.snap.SnapSlot.{SnapSlot}
pub use Rattle.mark_world.specs.declared.step.Actor.{Actor}
pub use Rattle.mark_world.specs.declared.step.Spot.{Spot}
pub use Rattle.mark_world.specs.declared.views.HelperView.{HelperView}
pub use Rattle.mark_world.specs.declared.views.MainView.{MainView}
pub use Rattle.mark_world.specs.declared.world.World.{World}
