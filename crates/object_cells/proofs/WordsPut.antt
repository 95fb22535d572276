-- The words of a heap where some were put.
use Rattle.std.proofs.Common.{◌≡◌, ◌≢◌, ℕ, ◌+◌, ◌<◌, ◌≤◌, ◌⊎◌, inl, inr, length, Some, slice_get}
use Rattle.std.proofs.Common.{length-set, refl, sym, ◌∙◌, ap, subst, arith}
use Rattle.std.specs.Prelude.{slice_set}
use Rattle.page_space.specs.Extents.{Space, layouts_start, marks_start}
use Rattle.shape_tree.specs.Shapes.{AreShapes}
use Rattle.shape_tree.specs.ShapeLayouts.{layout_word}
use Rattle.object_graph.proofs.Lists.{slice_get-set_same, slice_get-set_other}
use Rattle.write_barrier.specs.Seats.{Seat, heap_words, RestStays}
use Rattle.write_barrier.proofs.HeapWords.{stays_beside-put}
use Rattle.heap_model.specs.Wholeness.{HasSizes}
use Rattle.write_barrier.specs.MutatorState.{Mutator, heap_of, put_word, with_word, with_slot}
use Rattle.object_cells.proofs.RestOfWords.{put_rest}

-- One word was put, a slot's or none: but for what is recorded, nothing else has changed.
pub record PutsWord (old new : Mutator) (at word : ℕ) : Type 0 where
  pub seat : new.seat ≡ (put_word old at word).seat
  pub paths : new.paths ≡ old.paths
  pub young : new.young ≡ old.young

-- so it is where a word is put that is no slot's
pub puts_no_slot : {old new : Mutator} {at word : ℕ} → new ≡ with_word old at word → PutsWord old new at word
puts_no_slot is = record {
  seat = ap (λ (main : Mutator). main.seat) is;
  paths = ap (λ (main : Mutator). main.paths) is;
  young = ap (λ (main : Mutator). main.young) is;
}

-- and where a slot's is
pub puts_slot : {old new : Mutator} {at word : ℕ} → new ≡ with_slot old at word → PutsWord old new at word
puts_slot is = record {
  seat = ap (λ (main : Mutator). main.seat) is;
  paths = ap (λ (main : Mutator). main.paths) is;
  young = ap (λ (main : Mutator). main.young) is;
}

-- then it is one of the heap's, where it is before the marks
pub word_is_put : {old new : Mutator} {at word : ℕ} → PutsWord old new at word → at < marks_start old.seat.space
    → heap_words new.seat ≡ slice_set (heap_words old.seat) at word
word_is_put puts below = ap heap_words puts.seat

-- and the rest stays
pub word_beside : {old new : Mutator} {at word : ℕ} → PutsWord old new at word → at < marks_start old.seat.space
    → RestStays old.seat new.seat
word_beside {old} {at = at} {word} puts below =
    subst (λ (seat : Seat). RestStays old.seat seat) (sym puts.seat) (stays_beside-put old.seat at word)

-- Of the old mutator only words at two addresses have changed: that of an object's header, and one other.
pub record PutsTwo (old new : Mutator) (object head at word : ℕ) : Type 0 where
  pub beside : RestStays old.seat new.seat
  pub paths : new.paths ≡ old.paths
  pub young : new.young ≡ old.young
  pub count : length (heap_words new.seat) ≡ length (heap_words old.seat)
  pub header : slice_get (heap_words new.seat) object ≡ Some head
  pub put : slice_get (heap_words new.seat) at ≡ Some word
  pub stay : (a : ℕ) → a ≢ object → a ≢ at → slice_get (heap_words new.seat) a ≡ slice_get (heap_words old.seat) a

-- the header of the object was put at the end, or it was this before, and nothing was put at the end
abbrev pub HasHead : Mutator → Mutator → Mutator → ℕ → ℕ → Type 0
HasHead before old new object head =
    ((new ≡ old) × (slice_get (heap_words before.seat) object ≡ Some head)) ⊎ (new ≡ with_word old object head)

-- a word was put, and the header is there
puts_one : {old new : Mutator} (object head at word : ℕ) → PutsWord old new at word → at < marks_start old.seat.space
    → length (heap_words old.seat) ≡ marks_start old.seat.space → object ≢ at
    → slice_get (heap_words old.seat) object ≡ Some head → PutsTwo old new object head at word
puts_one {old} object head at word puts below counted apart there =
    let heap = word_is_put puts below in
    record {
      beside = word_beside puts below;
      paths = puts.paths;
      young = puts.young;
      count = ap length heap ∙ length-set (heap_words old.seat) at word;
      header = ap (λ words. slice_get words object) heap
          ∙ slice_get-set_other (heap_words old.seat) at object word apart ∙ there;
      put = ap (λ words. slice_get words at) heap
          ∙ slice_get-set_same (heap_words old.seat) at word (omega (arith, counted));
      stay = λ a not_object not_at. ap (λ words. slice_get words a) heap
          ∙ slice_get-set_other (heap_words old.seat) at a word not_at;
    }

-- a word was put, and then the header
puts_both : {old mid : Mutator} (object head at word : ℕ) → PutsWord old mid at word → at < marks_start old.seat.space
    → object < marks_start old.seat.space
    → length (heap_words old.seat) ≡ marks_start old.seat.space → object ≢ at
    → PutsTwo old (with_word mid object head) object head at word
puts_both {old} {mid} object head at word puts below within counted apart =
    let first = word_is_put puts below in
    let words = slice_set (heap_words old.seat) at word in
    let beside = word_beside puts below in
    let inside : object < marks_start mid.seat.space = omega (arith, within, ap marks_start beside.space) in
    let heap = ap (λ all. slice_set all object head) first in
    let long : length words ≡ length (heap_words old.seat) = length-set (heap_words old.seat) at word in
    record {
      beside = put_rest {last = (with_word mid object head).seat} object head beside refl inside;
      paths = puts.paths;
      young = puts.young;
      count = ap length heap ∙ length-set words object head ∙ long;
      header = ap (λ all. slice_get all object) heap
          ∙ slice_get-set_same words object head (omega (arith, long, counted));
      put = ap (λ all. slice_get all at) heap
          ∙ slice_get-set_other words object at head (λ same. apart (sym same))
          ∙ slice_get-set_same (heap_words old.seat) at word (omega (arith, counted));
      stay = λ a not_object not_at. ap (λ all. slice_get all a) heap
          ∙ slice_get-set_other words object a head not_object
          ∙ slice_get-set_other (heap_words old.seat) at a word not_at;
    }

-- so it is in both cases
pub puts_two : (old mid new : Mutator) (object head at word : ℕ) → PutsWord old mid at word
    → at < marks_start old.seat.space → object < marks_start old.seat.space
    → length (heap_words old.seat) ≡ marks_start old.seat.space → object ≢ at
    → HasHead old mid new object head → PutsTwo old new object head at word
puts_two old mid new object head at word puts below within counted apart (inl is) =
    subst (λ (main : Mutator). PutsTwo old main object head at word) (sym is.0)
    (puts_one object head at word puts below counted apart is.1)
puts_two old mid new object head at word puts below within counted apart (inr is) =
    subst (λ (main : Mutator). PutsTwo old main object head at word) (sym is)
    (puts_both object head at word puts below within counted apart)

-- the sizes stay where nothing changes from the layout words on
pub sizes_stay : (old new : Mutator) → HasSizes (heap_of old) → RestStays old.seat new.seat → new.paths ≡ old.paths
    → length (heap_words new.seat) ≡ length (heap_words old.seat)
    → ((a : ℕ) → layouts_start old.seat.space ≤ a
    → slice_get (heap_words new.seat) a ≡ slice_get (heap_words old.seat) a)
    → HasSizes (heap_of new)
sizes_stay old new sized beside paths long stay = record {
  words = long ∙ sized.words ∙ ap marks_start (sym beside.space);
  shapes = subst AreShapes (sym paths) sized.shapes;
  layouts = λ shape below.
      ap (λ (s : Space). slice_get (heap_words new.seat) (layouts_start s + shape)) beside.space
      ∙ stay (layouts_start old.seat.space + shape) (omega arith) ∙ sized.layouts shape below
      ∙ ap (λ all. Some (layout_word all shape)) (sym paths);
}

-- so they do where words before those are put
pub sizes_put : (old new : Mutator) (object head at word : ℕ) → HasSizes (heap_of old)
    → object < layouts_start old.seat.space → at < layouts_start old.seat.space → PutsTwo old new object head at word
    → HasSizes (heap_of new)
sizes_put old new object head at word sized object_below at_below puts =
    sizes_stay old new sized puts.beside puts.paths puts.count (λ a behind.
    puts.stay a (λ same. omega (arith, same, behind)) (λ same. omega (arith, same, behind)))
