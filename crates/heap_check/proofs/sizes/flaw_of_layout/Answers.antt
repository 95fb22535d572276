use Rattle.std.proofs.Common.{◌+◌, ◌<◌, Some, slice_get, slice_index_or, length, ℕ, List, ap, sym, ◌∙◌, arith}
use Rattle.std.proofs.lemmas.Option.{slice_get-get_or}
use Rattle.page_space.specs.Extents.{layouts_start}
use Rattle.page_space.proofs.Starts.{marks_start_is}
use Rattle.heap_model.specs.Images.{image_heap}
use Rattle.heap_check.proofs.SizeFlaws.{layout_first}
use Rattle.heap_check.proofs.sizes.flaw_of_layout.Goals as goal

pub bounds-as_slice-at : goal.bounds-as_slice-at
bounds-as_slice-at c =
    omega (
      arith,
      ap length c.as_slice.ensures,
      c.requires.sized,
      c.requires.known,
      c.layout_at-at.ensures.at,
      marks_start_is c.args.image.now.regions,
    )

pub returns-then-found-wanted : goal.returns-then-found-wanted
returns-then-found-wanted c =
    let space = c.args.image.now.regions in
    let within : c.layout_at-at.result < length c.as_slice.result.now =
    omega (
      arith,
      ap length c.as_slice.ensures,
      c.requires.sized,
      c.requires.known,
      c.layout_at-at.ensures.at,
      marks_start_is space,
    ) in
    ap (λ (words : List ℕ). slice_get words (layouts_start space + c.args.shape)) (sym c.as_slice.ensures)
    ∙ ap (λ (at : ℕ). slice_get c.as_slice.result.now at) (sym c.layout_at-at.ensures.at)
    ∙ slice_get-get_or c.as_slice.result.now c.layout_at-at.result 0 within
    ∙ ap (λ (word : ℕ). Some word) (c.if-found-wanted.true ∙ c.layout_word_of-wanted.ensures)

pub returns : goal.returns
returns c =
    let heap = image_heap c.args.image.now in
    let space = c.args.image.now.regions in
    let within : c.layout_at-at.result < length c.as_slice.result.now =
    omega (
      arith,
      ap length c.as_slice.ensures,
      c.requires.sized,
      c.requires.known,
      c.layout_at-at.ensures.at,
      marks_start_is space,
    ) in
    layout_first heap c.args.shape (record {
      at = c.layout_at-at.result;
      found = slice_index_or c.as_slice.result.now c.layout_at-at.result 0;
      wanted = c.layout_word_of-wanted.result;
    })
    (ap (λ (words : List ℕ). slice_get words (layouts_start space + c.args.shape)) (sym c.as_slice.ensures)
    ∙ ap (λ (at : ℕ). slice_get c.as_slice.result.now at) (sym c.layout_at-at.ensures.at)
    ∙ slice_get-get_or c.as_slice.result.now c.layout_at-at.result 0 within)
    (λ same. c.if-found-wanted.false (same ∙ sym c.layout_word_of-wanted.ensures))
    c.layout_at-at.ensures.at c.layout_word_of-wanted.ensures
