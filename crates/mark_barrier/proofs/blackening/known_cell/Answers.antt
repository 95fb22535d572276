-- The slices of the own words are those that the cell is read by.
use Rattle.std.proofs.Common.{◌≡◌, ◌≤◌, ◌+◌, ◌-◌, ℕ, List, length, min, take, drop, Option, None, sym, ap, subst, ◌∙◌}
use Rattle.std.proofs.Common.{arith}
use Rattle.std.proofs.lemmas.List.{length-drop, length-take-le}
use Rattle.tagged_word.specs.declared.reading.Reading.{Reading}
use Rattle.page_space.specs.Extents.{Space, eden_start, layouts_start, marks_start}
use Rattle.page_space.proofs.Starts.{marks_start_is}
use Rattle.shared_table.proofs.PageEnds.{pages_before_marks}
use Rattle.mark_barrier.specs.Owing.{own_cell}
use Rattle.mark_barrier.proofs.ReadCells.{none_there, own_read, rest_is}
use Rattle.mark_barrier.proofs.blackening.known_cell.Goals as goal

-- the layout words stand before the marks
layouts_room : (space other : Space) (words : List ℕ) (start : ℕ) → length words ≡ marks_start space → other ≡ space
    → start ≡ layouts_start other + 0 → start + 8200 ≤ length words
layouts_room space other words start counted same is =
    let layouts : layouts_start other ≡ layouts_start space = ap (λ (s : Space). layouts_start s) same in
    omega (arith, marks_start_is space, counted, layouts, is)

pub slice_bounds-rest-count : goal.slice_bounds-rest-count
slice_bounds-rest-count c =
    let counted = ap (λ (ws : List ℕ). length ws) (c.as_slice-words.ensures ∙ c.own.ensures.words)
    ∙ c.regions-regions.ensures.heap_counted in
    let room = layouts_room c.args.seat.now.space c.regions-regions.result c.as_slice-words.result.now
    c.layout_at.result counted c.regions-regions.ensures.regions c.layout_at.ensures.at in
    omega (arith, room)

pub slice_bounds-rest-start : goal.slice_bounds-rest-start
slice_bounds-rest-start c =
    let counted = ap (λ (ws : List ℕ). length ws) (c.as_slice-words.ensures ∙ c.own.ensures.words)
    ∙ c.regions-regions.ensures.heap_counted in
    let room = layouts_room c.args.seat.now.space c.regions-regions.result c.as_slice-words.result.now
    c.layout_at.result counted c.regions-regions.ensures.regions c.layout_at.ensures.at in
    omega (arith, room)

pub slice_bounds-layouts-end : goal.slice_bounds-layouts-end
slice_bounds-layouts-end c =
    let start : ℕ = c.layout_at.result in
    let words : List ℕ = c.as_slice-words.result.now in
    let counted = ap (λ (ws : List ℕ). length ws) (c.as_slice-words.ensures ∙ c.own.ensures.words)
    ∙ c.regions-regions.ensures.heap_counted in
    let room = layouts_room c.args.seat.now.space c.regions-regions.result words start counted
    c.regions-regions.ensures.regions c.layout_at.ensures.at in
    let rest : length (drop start words) ≡ length words - start = length-drop start words in
    sym (length-take-le 8200 (take (length words - start) (drop start words))
    (subst (λ (xs : List ℕ). 8200 ≤ length xs) (sym (rest_is words start)) (omega (arith, room, rest))))

pub slice_bounds-pages-end : goal.slice_bounds-pages-end
slice_bounds-pages-end c =
    let space : Space = c.args.seat.now.space in
    let words : List ℕ = c.as_slice-words.result.now in
    let counted : length words ≡ marks_start space =
    ap (λ (ws : List ℕ). length ws) (c.as_slice-words.ensures ∙ c.own.ensures.words)
    ∙ c.regions-regions.ensures.heap_counted in
    let old : c.pages_end-old.result ≡ eden_start space =
    c.pages_end-old.ensures ∙ ap (λ (s : Space). eden_start s) c.regions-regions.ensures.regions in
    sym (length-take-le c.pages_end-old.result words (omega (arith, old, counted, pages_before_marks space)))

pub unreachable-requires : goal.unreachable-requires
unreachable-requires c =
    let read : Option Reading = own_cell c.args.seat.now.space c.args.seat.now.table c.args.at in
    let none : read ≡ None =
    sym (own_read c.args.seat.now.space c.args.seat.now.table c.as_slice-words.result.now c.pages_end-old.result
    c.layout_at.result c.args.at c.min-bound.result (c.as_slice-words.ensures ∙ c.own.ensures.words)
    (c.pages_end-old.ensures ∙ ap (λ (s : Space). eden_start s) c.regions-regions.ensures.regions)
    (c.layout_at.ensures.at ∙ ap (λ (s : Space). layouts_start s + 0) c.regions-regions.ensures.regions)
    (c.min-bound.ensures ∙ ap (λ (n : ℕ). min c.pages_end-old.result n) c.page_end.ensures))
    ∙ sym c.read_cell.ensures ∙ c.in_default.is in
    none_there read none c.requires

pub returns-clause-reads : goal.returns-clause-reads
returns-clause-reads c =
    sym (own_read c.args.seat.now.space c.args.seat.now.table c.as_slice-words.result.now c.pages_end-old.result
    c.layout_at.result c.args.at c.min-bound.result (c.as_slice-words.ensures ∙ c.own.ensures.words)
    (c.pages_end-old.ensures ∙ ap (λ (s : Space). eden_start s) c.regions-regions.ensures.regions)
    (c.layout_at.ensures.at ∙ ap (λ (s : Space). layouts_start s + 0) c.regions-regions.ensures.regions)
    (c.min-bound.ensures ∙ ap (λ (n : ℕ). min c.pages_end-old.result n) c.page_end.ensures))
    ∙ sym c.read_cell.ensures ∙ c.in-Some.is
