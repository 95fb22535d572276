-- What a checker and its image are for.
use Rattle.std.specs.Prelude.{◌≡◌, Result, OnErr}
use Rattle.page_space.specs.Extents.{Space, marks_start}
use Rattle.heap_model.specs.Heaps.{Heap}
use Rattle.write_barrier.specs.MutatorState.{Mutator, heap_of}
use Rattle.collector.specs.Images.{IsImageOf, IsRoomFor}
use Rattle.heap_check.specs.declared.counts.Counts.{Counts}
use Rattle.heap_check.specs.declared.flaw.Flaw.{Flaw}
use Rattle.heap_check.specs.Judging.{Judges}
use Rattle.heap_script.specs.declared.inspecting.Inspector.TheInside.{Inside}

-- the regions of the heaps that are inspected
abbrev pub space_of : Inside → Space
space_of inspector = inspector.image.regions

-- the regions that an inspector is seen as are those of the heaps that it judges
abbrev pub same_space : Space → Space
same_space space = space

-- An inspector answers as a check does of an image of the heap, and with no flaw.
pub record ChecksImage (old new : Space) (main : Mutator) (answer : Result Counts Flaw) : Type 0 where
  pub image : Heap
  pub is : IsImageOf (heap_of main) image
  pub judges : Judges image answer
  pub no_flaw : OnErr answer ⊥

-- there is room for an image of them, and a flag for each of its words
pub record IsForImage (inspector : Inside) : Type 0 where
  pub words : inspector.checker ≡ marks_start inspector.image.regions
  pub room : IsRoomFor inspector.image.regions inspector.image
