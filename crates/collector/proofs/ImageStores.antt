-- Objects, their stores and their rooms in an image: those of a heap, moved.
use Rattle.std.proofs.Common.{◌≡◌, ◌↔◌, refl, sym, subst}
use Rattle.heap_model.specs.Heaps.{Heap}
use Rattle.heap_model.specs.Changes.{written}
use Rattle.heap_model.specs.Slots.{IsPlace}
use Rattle.heap_model.specs.Needs.{capacity_at}
use Rattle.heap_model.specs.Rooms.{HasRooms}
use Rattle.heap_moves.specs.Standing.{Stays}
use Rattle.heap_moves.proofs.AllStands.{whole_for, shows_for}
use Rattle.heap_moves.proofs.MovedRooms.{moves_keep_room}
use Rattle.heap_moves.proofs.RoomsStay.{moves_keep_rooms}
use Rattle.collector.specs.ImageLaws.{ImagesKeepStores, ImagesHaveRooms}
use Rattle.collector.proofs.ImagesShow.{image_is, copying, same_place, words_moved}

-- an object stands in an image where it stood, and its store has as many slots
pub images_keep_stores : ImagesKeepStores
images_keep_stores heap image number at whole is place =
    let there = moves_keep_room heap (written heap image.words) same_place number at at
    (whole_for (Stays same_place) whole) (words_moved (copying whole is)) place refl in
    subst (λ (one : Heap). IsPlace one number at × (capacity_at one at ≡ capacity_at heap at))
    (sym (image_is heap image is)) (there.place, there.capacity)

-- the rooms of objects in the heap are those in an image
pub images_have_rooms : ImagesHaveRooms
images_have_rooms heap image graph rooms shows is =
    subst (λ (one : Heap). HasRooms heap graph rooms ↔ HasRooms one graph rooms) (sym (image_is heap image is))
    (moves_keep_rooms heap (written heap image.words) same_place graph rooms (shows_for (Stays same_place) shows)
    (words_moved (copying shows.whole is)))
