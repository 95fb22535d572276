-- A heap that is kept of a run that came to a full heap has no room in any part.
use Rattle.heap_model.specs.Images.{image_heap}
use Rattle.collector.proofs.ImagesFree.{images_keep_free}
use Rattle.collector.proofs.ImagesTight.{images_are_tight}
use Rattle.heap_run.specs.AnswerLaws.{FullHasNoRoom}
use Rattle.heap_run.proofs.FullHeaps.{HasRuns, lacks_them, runs_lack_them, behind_full}

-- that it keeps such a heap
pub full_has_no_room : FullHasNoRoom
full_has_no_room counted sizes script kept line need keeps comes =
    let image = image_heap kept.image in
    let last = keeps.last in
    let behind = behind_full keeps.spends comes.collected in
    let is = comes.full in
    let runs : HasRuns image last.rows = record {
      apart = behind.apart;
      free = images_keep_free last.heap image last.rows behind.whole keeps.free keeps.image;
    } in
    record {
      lacks = lacks_them {heap = image} need is.full;
      tight = images_are_tight last.heap image behind.whole behind.tight keeps.image;
      runs = runs_lack_them {heap = image} {rows = last.rows} need keeps.reached.shown.whole.rows runs is.full;
    }
