use Rattle.collector.proofs.ImagesShow.{images_show, images_are_blank}
use Rattle.collector.proofs.ImageStores.{images_keep_stores, images_have_rooms}
use Rattle.collector.proofs.ImagesTight.{images_are_tight}
use Rattle.collector.proofs.ImagesFree.{images_keep_free}
use Rattle.collector.proofs.ImagesStuck.{images_stay_stuck}
use Rattle.collector.proofs.ImagesExact.{images_are_exact, images_keep_dead}
use Rattle.collector.proofs.laws.laws_of_images.Goals as goal

pub returns : goal.returns
returns c = record {
  show = images_show;
  blank = images_are_blank;
  stores = images_keep_stores;
  rooms = images_have_rooms;
  tight = images_are_tight;
  free = images_keep_free;
  stuck = images_stay_stuck;
  exact = images_are_exact;
  dead = images_keep_dead;
}
