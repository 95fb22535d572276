use Rattle.std.proofs.Common.{◌≡◌, ℕ, suc, ◌+◌, ◌*◌, ◌<◌, length, refl, ◌∙◌, ap, arith, slice_get}
use Rattle.std.proofs.Common.{get_or}
use Rattle.std.proofs.lemmas.Option.{slice_get-get_or}
use Rattle.heap_model.specs.Images.{image_heap}
use Rattle.image_walk.specs.Spans.{span_words}
use Rattle.image_walk.proofs.SpanWords.{slice_get-slice_range}
use Rattle.image_walk.proofs.PairWords.{pair_of_words}
use Rattle.image_walk.proofs.tables.pair_at.Goals as goal

pub returns : goal.returns
returns c =
    let heap = image_heap c.args.image.now in
    let table = c.args.table in
    let place : ℕ = 2 * c.args.at in
    let at : ℕ = table.from + place in
    let next : table.from + suc place ≡ at + 1 = omega arith in
    let first : at < length heap.words = omega (arith, c.requires.is.within, c.requires.there) in
    let second : at + 1 < length heap.words = omega (arith, c.requires.is.within, c.requires.there) in
    rw c.as_slice.ensures
    (rw c.as_slice-2.ensures
    (pair_of_words (span_words heap table) c.args.at place (get_or heap.words at 0) (get_or heap.words (at + 1) 0) refl
    (slice_get-slice_range heap.words table.from table.end place (omega (arith, c.requires.there))
    ∙ slice_get-get_or heap.words at 0 first)
    (slice_get-slice_range heap.words table.from table.end (suc place) (omega (arith, c.requires.there))
    ∙ ap (slice_get heap.words) next ∙ slice_get-get_or heap.words (at + 1) 0 second)))
