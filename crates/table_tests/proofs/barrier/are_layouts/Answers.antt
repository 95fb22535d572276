-- The slice that was compared is that of the own layout words.
use Rattle.std.proofs.Common.{◌≡◌, ◌+◌, ℕ, List, take, drop, sym, ap, ◌∙◌, arith}
use Rattle.std.specs.Cmp.Lexicographic.{same_text}
use Rattle.page_space.specs.Extents.{Space, layouts_start}
use Rattle.mark_barrier.proofs.ReadCells.{rest_is}
use Rattle.table_tests.proofs.PutSeats.{layouts_are}
use Rattle.table_tests.proofs.barrier.are_layouts.Goals as goal

pub returns-in-Some-get : goal.returns-in-Some-get
returns-in-Some-get c is =
    let space : Space = c.args.seat.now.space in
    let table : List ℕ = c.args.seat.now.table in
    let words : List ℕ = c.as_slice.result.now in
    let start : ℕ = c.layout_at-start.result in
    let rest : c.in-Some.rest.now ≡ drop start words = c.in-Some.ensures.lookup.0.2 ∙ rest_is words start in
    let own : c.in-Some-get.own.now ≡ take 8200 (drop start words) =
    c.in-Some-get.ensures.lookup.0.2 ∙ ap (λ (xs : List ℕ). take 8200 xs) rest in
    let same : words ≡ table = c.as_slice.ensures ∙ c.own.ensures.words in
    let first : start ≡ layouts_start space =
    c.layout_at-start.ensures.at ∙ ap (λ (s : Space). layouts_start s + 0) c.regions.ensures.regions
    ∙ (let none : layouts_start space + 0 ≡ layouts_start space = omega arith in none) in
    layouts_are space table
    ∙ ap (λ (ws : List ℕ). take 8200 (drop (layouts_start space) ws)) (sym same)
    ∙ ap (λ (k : ℕ). take 8200 (drop k words)) (sym first)
    ∙ sym own ∙ same_text c.in-Some-get.own.now c.args.layouts.now (sym is ∙ c.eq.ensures)
