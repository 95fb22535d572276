-- Images: heaps as plain data.
use Rattle.heap_model.specs.declared.image.HeapImage.{HeapImage}
use Rattle.heap_model.specs.Heaps.{Heap}

-- the heap that an image is
abbrev pub image_heap : HeapImage → Heap
image_heap image = record {
  space = image.regions;
  used = image.used;
  survivors = image.survivors;
  paths = image.shapes;
  words = image.words;
}
