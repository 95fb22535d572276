-- What an image shows: it is the heap, moved, where each cell stays where it is.
use Rattle.std.proofs.Common.{◌≡◌, ℕ, ◌+◌, List, Option, Some, sym, ◌∙◌, subst, arith, refl}
use Rattle.std.proofs.lemmas.Option.{same_Some}
use Rattle.page_space.proofs.Starts.{layouts_start_is}
use Rattle.handle_roots.specs.Roots.{root_at}
use Rattle.heap_model.specs.Heaps.{Heap}
use Rattle.heap_model.specs.Changes.{written}
use Rattle.heap_model.specs.Wholeness.{Whole, Blank}
use Rattle.heap_model.specs.Showing.{Shows}
use Rattle.heap_moves.specs.Moved.{IsFrom, IsMoved}
use Rattle.heap_moves.specs.Standing.{Stays}
use Rattle.heap_moves.proofs.AllStands.{shows_for}
use Rattle.heap_moves.proofs.Unmoved.{word_unmoved, stands_unmoved, fits_unmoved}
use Rattle.heap_moves.proofs.MovedGraphs.{moves_show}
use Rattle.collector.specs.Images.{IsImageOf}
use Rattle.collector.specs.ImageLaws.{ImagesShow, ImagesAreBlank}
use Rattle.collector.proofs.CopiedCells.{Copying, keep_cells, cell_stays, cell_stood, has_rows, has_sizes, is_blank}

-- an image is the heap with other words
pub image_is : (heap image : Heap) → IsImageOf heap image → image ≡ written heap image.words
image_is heap image is = λ i. record {
  space = is.space i;
  used = is.used i;
  survivors = is.survivors i;
  paths = is.paths i;
  words = image.words;
}

-- the words of an image of a whole heap
pub copying : {heap image : Heap} → Whole heap → IsImageOf heap image → Copying heap image.words
copying whole is = record { sized = whole.sized; rows = whole.rows; are = keep_cells is.words }

-- each cell stays where it is
abbrev pub same_place : ℕ → Option ℕ
same_place at = Some at

-- the words of an image are those of the heap, moved
pub words_moved : {heap : Heap} {words : List ℕ} → Copying heap words → IsMoved heap (written heap words) same_place
words_moved {heap} copied = record {
  space = refl;
  paths = refl;
  sized = has_sizes copied;
  rows = has_rows copied;
  apart = λ one other words others now has has_other stays stays_too. same_Some _ _ (stays ∙ sym stays_too);
  fits = λ cell words now has stays. fits_unmoved cell.at now stays;
  stands = λ cell words now has stays. stands_unmoved now (cell_stays copied has) stays;
  back = λ cell words has. IsFrom.stood cell words (cell_stood copied has) refl;
  roots = λ variable below.
      let at : ℕ = root_at heap.space variable in
      let end = layouts_start_is heap.space in
      record {
        first = λ word now there there_too.
            word_unmoved word now (same_Some now word
            (sym there_too ∙ copied.are.roots at (omega arith) (omega (arith, end, below)) ∙ there));
        second = copied.are.roots (at + 1) (omega arith) (omega (arith, end, below));
      };
}

-- an image shows what the heap shows
pub images_show : ImagesShow
images_show heap image graph shows is =
    subst (λ (one : Heap). Shows one graph) (sym (image_is heap image is))
    (moves_show heap (written heap image.words) same_place graph (shows_for (Stays same_place) shows)
    (words_moved (copying shows.whole is)))

-- an image is blank
pub images_are_blank : ImagesAreBlank
images_are_blank heap image whole is = subst Blank (sym (image_is heap image is)) (is_blank (copying whole is) is.words)
