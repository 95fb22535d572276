-- Flags of which none is set.
use Rattle.std.proofs.Common.{◌≡◌, ℕ, ◌<◌, true, false, Bool, List, Some, slice_get, get_or, length, replicate}
use Rattle.std.proofs.Common.{sym, ◌∙◌, ap, arith}
use Rattle.std.proofs.lemmas.List.{length-replicate, get_or-replicate}
use Rattle.std.proofs.lemmas.Bool.{false≢true}
use Rattle.std.proofs.lemmas.Option.{slice_get_within, get_or_from_slice_get}
use Rattle.page_space.specs.Extents.{marks_start}
use Rattle.heap_model.specs.Heaps.{Heap}
use Rattle.image_walk.specs.Words.{HasWords}
use Rattle.heap_check.specs.Flags.{AreClearedFor}

-- there is a flag for each word
pub cleared_many : (heap : Heap) {flags : List Bool} → HasWords heap → AreClearedFor heap flags
    → length flags ≡ length heap.words
cleared_many heap sized cleared =
    ap (λ (all : List Bool). length all) cleared ∙ length-replicate (marks_start heap.space) false ∙ sym sized

-- and none of them is set
pub cleared_none : (heap : Heap) {flags : List Bool} → AreClearedFor heap flags → (at : ℕ)
    → slice_get flags at ≡ Some true → ⊥
cleared_none heap {flags} cleared at set =
    let all : List Bool = replicate (marks_start heap.space) false in
    let there : slice_get all at ≡ Some true = ap (λ (some : List Bool). slice_get some at) (sym cleared) ∙ set in
    let within : at < length all = slice_get_within all at true there in
    let is_clear : get_or all at true ≡ false =
    get_or-replicate (marks_start heap.space) at false true
    (omega (arith, within, length-replicate (marks_start heap.space) false)) in
    false≢true (sym is_clear ∙ get_or_from_slice_get all at true true there)
