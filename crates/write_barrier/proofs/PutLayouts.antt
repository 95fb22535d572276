-- Layout words that are put one after another, among the own words and those that helpers read.
use Rattle.std.proofs.Common.{◌≡◌, ◌≢◌, ℕ, zero, suc, ◌+◌, ◌<◌, ◌≤◌, List, ◌++◌, length, map, Option, Some, None}
use Rattle.std.proofs.Common.{slice_get, unwrap_or, IfSome}
use Rattle.std.proofs.Common.{refl, sym, ◌∙◌, ap, subst, arith, ⊎_elim, below_more, length-append, length-set}
use Rattle.std.specs.Prelude.{slice_set, option_map, is_some, IsTrue, IsSome}
use Rattle.std.proofs.lemmas.Bool.{cases_lt, false≢true}
use Rattle.std.proofs.lemmas.List.{length-map}
use Rattle.std.proofs.lemmas.Option.{slice_get_past, none-some}
use Rattle.tagged_word.specs.declared.layout.LayoutWord.{LayoutWord}
use Rattle.tagged_word.specs.Layouts.{IsLayout, layout_bits}
use Rattle.tagged_word.proofs.Readings.{layout_to}
use Rattle.tagged_word.specs.Shapes.{shapes_most, first_path_shape, fixed_layout_words}
use Rattle.page_space.specs.Extents.{layouts_start}
use Rattle.page_space.proofs.Starts.{marks_start_is}
use Rattle.heap_model.specs.Types.{Path}
use Rattle.object_graph.proofs.Lists.{slice_get-set_same, slice_get-set_other}
use Rattle.shape_tree.specs.ShapeLayouts.{layout_of, layout_word, layout_words}
use Rattle.shape_tree.proofs.PathLayouts.{layout_word-append}
use Rattle.mark_world.specs.Cycles.{Cycle, cycle_of}
use Rattle.mark_world.specs.Conditions.{MayAddLayout}
use Rattle.heap_table.specs.Overviews.{known}
use Rattle.heap_table.specs.Seats.{Seat as TableSeat, Beside, with_layout, with_read_layout}
use Rattle.write_barrier.specs.Layouts.{AreLayouts, AreLayoutsBelow, HasBoth, HasBothBelow, IsUnmarked, PutsLayouts}
use Rattle.write_barrier.specs.Seats.{marks_by, marks_in, told_of, Marks}
use Rattle.write_barrier.specs.Staying.{rest_stays_itself, rest_stays_again}

-- words of 0 are layout words that are still to be put, but for that of shape 0, which is 0
pub none_below : (words : List ℕ) (from : ℕ) (paths : List Path)
    → ((shape : ℕ) → shape < shapes_most → slice_get words (from + shape) ≡ Some 0) → AreLayoutsBelow words from paths 1
none_below words from paths zeros = record {
  known = λ shape below few.
      let none : 0 ≡ shape = omega arith in
      subst (λ (s : ℕ). slice_get words (from + s) ≡ Some (layout_word paths s)) none (zeros 0 (omega arith));
  rest = λ shape above few. zeros shape few;
}

-- a word that is read is among the words
read_within : (words : List ℕ) (a word : ℕ) → slice_get words a ≡ Some word → a < length words
read_within words a word there =
    ⊎_elim (λ below. below) (λ past. absurd (none-some word (sym (slice_get_past words a past) ∙ there)))
    (cases_lt a (length words))

-- one layout word more is put
pub one_more : (words : List ℕ) (from : ℕ) (paths : List Path) (shape : ℕ) → shape < shapes_most
    → AreLayoutsBelow words from paths shape
    → AreLayoutsBelow (slice_set words (from + shape) (layout_word paths shape)) from paths (shape + 1)
one_more words from paths shape there below =
    let word = layout_word paths shape in
    let within : from + shape < length words =
    read_within words (from + shape) 0 (below.rest shape (omega arith) there) in
    let new = slice_set words (from + shape) word in
    record {
      known = below_more (λ other. other < shapes_most → slice_get new (from + other) ≡ Some (layout_word paths other))
          shape
          (λ other before few.
          let apart : from + other ≢ from + shape = omega arith in
          slice_get-set_other words (from + shape) (from + other) word apart ∙ below.known other before few)
          (λ few. slice_get-set_same words (from + shape) word within);
      rest = λ other above few.
          let apart : from + other ≢ from + shape = omega arith in
          slice_get-set_other words (from + shape) (from + other) word apart ∙ below.rest other (omega arith) few;
    }

-- the layout word of a shape that is not in use is 0
layout_word_past : (paths : List Path) (shape : ℕ) → first_path_shape + length paths ≤ shape
    → layout_word paths shape ≡ 0
layout_word_past paths shape past =
    let word : Path → ℕ = λ path. layout_bits (layout_of path) in
    let eight : length fixed_layout_words ≡ first_path_shape = refl in
    let long : length (layout_words paths) ≡ first_path_shape + length paths =
    omega (arith, length-append fixed_layout_words (map word paths), length-map paths word) in
    ap (λ found. unwrap_or found 0) (slice_get_past (layout_words paths) shape (omega (arith, long)))

-- once the layout words of all shapes in use are put, all are there
pub all_layouts : (words : List ℕ) (from : ℕ) (paths : List Path) (count : ℕ) → AreLayoutsBelow words from paths count
    → first_path_shape + length paths ≤ count → AreLayouts words from paths
all_layouts words from paths count below all shape few =
    ⊎_elim (λ before. below.known shape before few)
    (λ past. below.rest shape past few ∙ ap (λ word. Some word) (sym (layout_word_past paths shape (omega arith))))
    (cases_lt shape count)

-- where paths are added, the layout word of each shape that was there stays, and that of shape 0
layout_word_kept : (paths more : List Path) (shape : ℕ) → shape < first_path_shape + length paths
    → layout_word (paths ++ more) shape ≡ layout_word paths shape
layout_word_kept paths more zero below = refl
layout_word_kept paths more (suc shape) below =
    layout_word-append paths more (suc shape) (record { from = omega arith; below = below })

-- so the layout words of the paths that were added are still to be put
pub layouts_grown : (words : List ℕ) (from : ℕ) (paths more : List Path) → AreLayouts words from paths
    → AreLayoutsBelow words from (paths ++ more) (first_path_shape + length paths)
layouts_grown words from paths more are = record {
  known = λ shape below few. are shape few ∙ ap (λ word. Some word) (sym (layout_word_kept paths more shape below));
  rest = λ shape past few. are shape few ∙ ap (λ word. Some word) (layout_word_past paths shape past);
}

-- what was known of both kinds is known again, where it follows for each
pub both_by : (P Q : List ℕ → Type 0) (shared : Option Beside) → ((words : List ℕ) → P words → Q words)
    → IfSome shared (λ beside. P beside.layouts) → IfSome shared (λ beside. Q beside.layouts)
both_by P Q (Some beside) then is = then beside.layouts is
both_by P Q None then is = is

-- the same where one word is put among those that helpers read
pub read_put : (P Q : List ℕ → Type 0) (shared : Option Beside) (shape word : ℕ)
    → ((words : List ℕ) → P words → Q (slice_set words shape word)) → IfSome shared (λ beside. P beside.layouts)
    → IfSome (option_map (with_read_layout shape word) shared) (λ beside. Q beside.layouts)
read_put P Q (Some beside) shape word then is = then beside.layouts is
read_put P Q None shape word then is = is

-- one layout word more is put among both
pub both_more : (old new : TableSeat) (paths : List Path) (shape : ℕ) → shape < shapes_most
    → new ≡ with_layout old shape (layout_word paths shape) → HasBothBelow old paths shape
    → HasBothBelow new paths (shape + 1)
both_more old new paths shape few is below =
    let word = layout_word paths shape in
    let from_none : 0 + shape ≡ shape = omega arith in
    subst (λ (seat : TableSeat). HasBothBelow seat paths (shape + 1)) (sym is) (record {
      own = one_more old.table (layouts_start old.space) paths shape few below.own;
      read = read_put (λ words. AreLayoutsBelow words 0 paths shape)
          (λ words. AreLayoutsBelow words 0 paths (shape + 1)) old.shared shape word
          (λ words are. subst (λ at. AreLayoutsBelow (slice_set words at word) 0 paths (shape + 1)) from_none
          (one_more words 0 paths shape few are)) below.read;
    })

-- once the words of all shapes in use are put, all are there among both
pub both_all : (seat : TableSeat) (paths : List Path) (count : ℕ) → HasBothBelow seat paths count
    → first_path_shape + length paths ≤ count → HasBoth seat paths
both_all seat paths count below all = record {
  own = all_layouts seat.table (layouts_start seat.space) paths count below.own all;
  read = both_by (λ words. AreLayoutsBelow words 0 paths count) (λ words. AreLayouts words 0 paths) seat.shared
      (λ words are. all_layouts words 0 paths count are all) below.read;
}

-- the shared table stays, where there is one
still_shared : (shared : Option Beside) (shape word : ℕ)
    → option_map (λ (beside : Beside). beside.id) (option_map (with_read_layout shape word) shared)
    ≡ option_map (λ (beside : Beside). beside.id) shared
still_shared (Some beside) shape word = refl
still_shared None shape word = refl

-- what is known of the cycle
abbrev cycle_beside : Option Beside → Cycle
cycle_beside shared = cycle_of (known shared).view (known shared).reached (known shared).made (known shared).dead

-- stays, where a layout word is put among those that helpers read
still_known : (shared : Option Beside) (shape word : ℕ)
    → cycle_beside (option_map (with_read_layout shape word) shared) ≡ cycle_beside shared
still_known (Some beside) shape word = refl
still_known None shape word = refl

-- and so does all else that is known of the table
still_same : {X : Type 0} (of : Beside → X) (shared : Option Beside) (shape word : ℕ)
    → ((beside : Beside) → of (with_read_layout shape word beside) ≡ of beside)
    → of (known (option_map (with_read_layout shape word) shared)) ≡ of (known shared)
still_same of (Some beside) shape word same = same beside
still_same of None shape word same = refl

-- colours and board too
still_unmarked : (shared : Option Beside) (shape word many : ℕ) → IfSome shared (IsUnmarked many)
    → IfSome (option_map (with_read_layout shape word) shared) (IsUnmarked many)
still_unmarked (Some beside) shape word many none = record { colours = none.colours; board = none.board }
still_unmarked None shape word many none = none

-- no word has changed
pub puts_none : (seat : TableSeat) → PutsLayouts seat seat
puts_none seat = record {
  rest = rest_stays_itself (told_of seat);
  cycle = refl;
  view = refl;
  colours = refl;
  marks = λ many none. none;
  beside = λ a out. refl;
}

-- one layout word more has changed
pub puts_more : (first old new : TableSeat) (shape word : ℕ) → shape < shapes_most → PutsLayouts first old
    → new ≡ with_layout old shape word → PutsLayouts first new
puts_more first old new shape word few before is =
    let put = with_layout old shape word in
    let at : ℕ = layouts_start old.space + shape in
    let same : old.space ≡ first.space = before.rest.space in
    subst (λ (seat : TableSeat). PutsLayouts first seat) (sym is) (record {
      rest = rest_stays_again (told_of first) (told_of old) (told_of put) before.rest (record {
        space = refl;
        phase = refl;
        count = length-set old.table at word;
        shared = still_shared old.shared shape word;
        home = still_same (λ beside. beside.home) old.shared shape word (λ beside. refl);
        out = still_same (λ beside. beside.out) old.shared shape word (λ beside. refl);
        lent = still_same (λ beside. beside.lent) old.shared shape word (λ beside. refl);
        marks = ap (λ (all : Marks). marks_in old.phase all)
            (still_same marks_by old.shared shape word (λ beside. refl));
      });
      cycle = still_known old.shared shape word ∙ before.cycle;
      view = still_same (λ beside. beside.view) old.shared shape word (λ beside. refl) ∙ before.view;
      colours = still_same (λ beside. beside.colours) old.shared shape word (λ beside. refl) ∙ before.colours;
      marks = λ many none. still_unmarked old.shared shape word many (before.marks many none);
      beside = λ a out.
          let start : layouts_start old.space ≡ layouts_start first.space = ap layouts_start same in
          let apart : a ≢ at = omega (arith, out, start, marks_start_is first.space) in
          slice_get-set_other old.table at a word apart ∙ before.beside a out;
    })

-- the layout word of a shape that is not put so far is 0 among those that helpers read
pub read_unused : (shared : Option Beside) (paths : List Path) (shape : ℕ) → shape < shapes_most
    → IfSome shared (λ beside. AreLayoutsBelow beside.layouts 0 paths shape)
    → IfSome shared (λ beside. slice_get beside.layouts shape ≡ Some 0)
read_unused shared paths shape few below =
    let from_none : 0 + shape ≡ shape = omega arith in
    both_by (λ words. AreLayoutsBelow words 0 paths shape) (λ words. slice_get words shape ≡ Some 0) shared
    (λ words are. sym (ap (slice_get words) from_none) ∙ are.rest shape (omega arith) few) below

-- so it may be added in an open cycle, in which there is a shared table
pub may_add : (shared : Option Beside) (shape word : ℕ) (layout : LayoutWord) → IsLayout layout
    → word ≡ layout_bits layout → IsTrue (is_some shared)
    → IfSome shared (λ beside. slice_get beside.layouts shape ≡ Some 0)
    → MayAddLayout (known shared).layouts shape word
may_add (Some beside) shape word layout is same some unused = record {
  unused = unused;
  parses = subst IsSome (sym (layout_to word layout is same)) refl;
}
may_add None shape word layout is same some unused = absurd (false≢true some)
