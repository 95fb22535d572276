-- The mutator's steps leave a bare heap bare, and an open cycle that of its four cells.
use Rattle.std.proofs.Common.{◌≡◌, ◌≤◌, ◌<◌, ◌+◌, ◌⊎◌, inl, inr, ℕ, zero, suc, Bool, true, false}
use Rattle.std.proofs.Common.{List, length, Contains, drop, take, ◌++◌, ◌∷◌, [], if◌then◌else◌, nat_lt, replicate}
use Rattle.std.proofs.Common.{sym, ap, subst, ◌∙◌, arith, slice_set, slice_get, Some}
use Rattle.std.proofs.lemmas.Grind.{take_at_read}
use Rattle.std.proofs.lemmas.List.{get_or-drop, length-take, length-drop}
use Rattle.std.proofs.lemmas.Option.{get_or_from_slice_get, slice_get_within}
use Rattle.tagged_word.specs.Shapes.{shapes_most}
use Rattle.page_space.specs.Extents.{Space, eden_start, segments_start, layouts_start, marks_start}
use Rattle.page_space.proofs.Starts.{roots_start_is, layouts_start_is, marks_start_is}
use Rattle.cell_layout.specs.Cells.{layouts_in}
use Rattle.mark_laws.specs.Types.{MainView}
use Rattle.mark_laws.proofs.Reading.{slice_get_other}
use Rattle.mark_laws.proofs.Stores.{free_is}
use Rattle.mark_world.specs.Cycles.{Cycle}
use Rattle.mark_world.specs.Pages.{EachFree, cell_at, is_head_of}
use Rattle.shared_table.specs.declared.overview.Overview.{Overview}
use Rattle.shared_table.proofs.PageEnds.{pages_before_marks}
use Rattle.heap_table.specs.Phases.{Phase, Quiet, Mark, Paused}
use Rattle.mark_barrier.specs.CycleSteps.{sure_of_target}
use Rattle.write_barrier.specs.Cycles.{IsQuietOverview}
use Rattle.write_barrier.specs.Layouts.{AreLayouts, HasLayouts}
use Rattle.write_barrier.specs.MutatorState.{Mutator, cycle_after, while_open, with_slot, with_word}
use Rattle.write_barrier.specs.Seats.{heap_words}
use Rattle.table_tests.specs.CellPages.{are_cells}
use Rattle.table_tests.specs.OneCell.{IsBare}
use Rattle.table_tests.specs.OpenMains.{four_starts, page_and_eden, IsBareMain, IsMarkingMain}
use Rattle.table_tests.proofs.Heads.{no_head_of}

-- the layout words stay where a word before the segments is put
layouts_stand : (main : Mutator) (at word : ℕ) → main.seat.space ≡ page_and_eden → at < 2112 → HasLayouts main
    → AreLayouts (slice_set main.seat.table at word) (layouts_start main.seat.space) main.paths
layouts_stand main at word space before has shape known =
    let segments : 2112 ≡ segments_start main.seat.space = ap segments_start (sym space) in
    slice_get_other main.seat.table at (layouts_start main.seat.space + shape) word
    (λ same. omega (
      arith,
      same,
      before,
      segments,
      roots_start_is main.seat.space,
      layouts_start_is main.seat.space,
    ))
    ∙ has shape known

-- a bare heap stays bare where a word is put in its page
pub bare_put : (main : Mutator) (at word : ℕ) → IsBareMain main → at < 2048 → IsBareMain (with_word main at word)
bare_put main at word bare before = record {
  quiet = bare.quiet;
  space = bare.space;
  shared = bare.shared;
  layouts = layouts_stand main at word bare.space (omega (arith, before)) bare.layouts;
}

-- the four cells are published and born
record HasFour (cycle : Cycle) : Type 0 where
  starts : cycle.starts ≡ four_starts
  born : cycle.born ≡ four_starts

-- what holds of a cycle before a step and after it holds whether the step is one of marking or not
while_open_has : (phase : Phase) (was next : Cycle) → HasFour was → HasFour next → HasFour (while_open phase was next)
while_open_has Mark was next had has = has
while_open_has Quiet was next had has = had
while_open_has Paused was next had has = had

-- and whether its word is one of a page
where_of_page : (test : Bool) (was next : Cycle) → HasFour was → HasFour next → HasFour (if test then next else was)
where_of_page true was next had has = has
where_of_page false was next had has = had

-- so the cells stay after a step
four_after : (main : Mutator) (at : ℕ) (next : Cycle) → HasFour main.cycle → HasFour next
    → HasFour (cycle_after main at next)
four_after main at next had has =
    where_of_page (nat_lt at main.recorded.bound) main.cycle (while_open main.seat.phase main.cycle next) had
    (while_open_has main.seat.phase main.cycle next had has)

-- the cells that a cycle has
four_of : (main : Mutator) → IsMarkingMain main → HasFour main.cycle
four_of main marking = record { starts = marking.starts; born = marking.born }

-- the cycle goes on where a slot of the page, or of eden, gets a word
pub marking_stored : (main : Mutator) (at word : ℕ) → IsMarkingMain main → at < 2112
    → IsMarkingMain (with_slot main at word)
marking_stored main at word marking before =
    let next : Cycle = sure_of_target (eden_start main.seat.space) main.cycle word in
    let four = four_after main at next (four_of main marking)
    (record { starts = marking.starts; born = marking.born }) in
    record {
      mark = marking.mark;
      space = marking.space;
      shared = marking.shared;
      layouts = layouts_stand main at word marking.space before marking.layouts;
      home = marking.home;
      out = marking.out;
      starts = four.starts;
      born = four.born;
    }

-- there is a word for each address of the page
pub page_counted : (space : Space) (words : List ℕ) → space ≡ page_and_eden → length words ≡ marks_start space
    → length (take (eden_start space) words) ≡ 2048
page_counted space words is counted =
    let old : eden_start space ≡ 2048 = ap eden_start is in
    let before : eden_start space ≤ marks_start space = pages_before_marks space in
    length-take (eden_start space) words ∙ omega (arith, old, before, counted)

-- the words before the marks are more than those of page and eden
pub before_marks : (space : Space) (at : ℕ) → space ≡ page_and_eden → at < 2112 → at < marks_start space
before_marks space at is before =
    let segments : 2112 ≡ segments_start space = ap segments_start (sym is) in
    omega (arith, before, segments, roots_start_is space, layouts_start_is space, marks_start_is space)

-- each of the four cells begins behind an address below 1,024, or two words before it
beside : (start at : ℕ) → 2 ≤ at → at < 1024 → Contains four_starts start → (at < start) ⊎ (start + 2 ≤ at)
beside start at past before (zero, l, e) = inr (omega (arith, e, past))
beside start at past before (suc zero, l, e) = inl (omega (arith, e, before))
beside start at past before (suc (suc zero), l, e) = inl (omega (arith, e, before))
beside start at past before (suc (suc (suc zero)), l, e) = inl (omega (arith, e, before))
beside start at past before (suc (suc (suc (suc k))), l, e) = absurd (omega (arith, l))

-- an address from 2 on that is below 1,024 is no head of a free start
pub no_heads_in_first : (old : ℕ) (words layouts : List ℕ) (view : MainView) (at : ℕ) → view.starts ≡ four_starts
    → 2 ≤ at → at < 1024 → EachFree view (λ start. is_head_of start (cell_at old words layouts start) at ≡ false)
no_heads_in_first old words layouts view at starts past before start free =
    no_head_of start at (cell_at old words layouts start)
    (beside start at past before (subst (λ (all : List ℕ). Contains all start) starts (free_is view start free).0))

-- a word more of those from an address on
pub one_more : (words : List ℕ) (from k word : ℕ) → slice_get words (from + k) ≡ Some word
    → take (k + 1) (drop from words) ≡ take k (drop from words) ++ word ∷ []
one_more words from k word there =
    let inside : from + k < length words = slice_get_within words (from + k) word there in
    let low : k < length (drop from words) = omega (arith, length-drop from words, inside) in
    (take_at_read (drop from words) k 0 low).1
    ∙ ap (λ (w : ℕ). take k (drop from words) ++ w ∷ [])
    (get_or-drop from words k 0 ∙ get_or_from_slice_get words (from + k) word 0 there)

-- there is a layout word for each shape
layouts_counted : (space : Space) (words : List ℕ) → layouts_start space + shapes_most ≤ length words
    → length (layouts_in space words) ≡ shapes_most
unfolding layouts_in
layouts_counted space words enough =
    length-take shapes_most (drop (layouts_start space) words)
    ∙ omega (arith, length-drop (layouts_start space) words, enough)

-- what the seat knows while no cycle is open is a bare table
pub bare_overview : (main : Mutator) (any : Overview) → IsBareMain main
    → length (heap_words main.seat) ≡ marks_start main.seat.space → IsQuietOverview main any → IsBare any
bare_overview main any bare counted quiet =
    let old : any.old ≡ 2048 = quiet.old ∙ ap eden_start bare.space in
    record {
      phase = quiet.phase;
      home = quiet.home;
      pages = omega (arith, old);
      addresses = omega (arith, old);
      words = ap (λ (all : List ℕ). length all) quiet.words
          ∙ page_counted main.seat.space (heap_words main.seat) bare.space counted ∙ sym old;
      layouts = ap (λ (all : List ℕ). length all) quiet.layouts ∙ layouts_counted main.seat.space (heap_words main.seat)
          (omega (arith, counted, marks_start_is main.seat.space));
      colours = quiet.colours ∙ ap (λ (n : ℕ). replicate n 0) (sym quiet.old);
      board = quiet.board;
      out = quiet.out;
    }

-- the layout words, as they are read from their first address on
pub layouts_read : (space : Space) (words : List ℕ) (at : ℕ) → at ≡ layouts_start space
    → take 8200 (drop at words) ≡ layouts_in space words
unfolding layouts_in
layouts_read space words at is = ap (λ (a : ℕ). take shapes_most (drop a words)) is

-- cells that were checked on the words of the heap are cells of the table
pub quiet_cells : (main : Mutator) (any : Overview) (words layouts : List ℕ) → main.seat.space ≡ page_and_eden
    → IsQuietOverview main any → words ≡ take 2048 (heap_words main.seat)
    → layouts ≡ layouts_in main.seat.space (heap_words main.seat) → are_cells 2048 words layouts four_starts ≡ true
    → are_cells any.old any.words any.layouts four_starts ≡ true
quiet_cells main any words layouts space quiet words_are layouts_are checked =
    let page : eden_start main.seat.space ≡ 2048 = ap eden_start space in
    let same : any.words ≡ words =
    quiet.words ∙ (ap (λ (n : ℕ). take n (heap_words main.seat)) page ∙ sym words_are) in
    subst (λ (n : ℕ). are_cells n any.words any.layouts four_starts ≡ true) (sym (quiet.old ∙ page))
    (subst (λ (ws : List ℕ). are_cells 2048 ws any.layouts four_starts ≡ true) (sym same)
    (subst (λ (ls : List ℕ). are_cells 2048 words ls four_starts ≡ true) (sym (quiet.layouts ∙ sym layouts_are))
    checked))
