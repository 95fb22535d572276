-- What stands in a heap once its parts were put one after another.
use Rattle.std.proofs.Common.{◌≡◌, ℕ, ◌+◌, ◌*◌, ◌<◌, ◌≤◌, inl, inr, length, Some, slice_get}
use Rattle.std.proofs.Common.{sym, ◌∙◌, ap, subst, arith}
use Rattle.page_space.specs.Sizes.{page_words, AreWithin}
use Rattle.page_space.specs.Extents.{Space, eden_start, segments_start, roots_start, layouts_start, marks_start}
use Rattle.page_space.proofs.Starts.{roots_start_is, layouts_start_is, marks_start_is}
use Rattle.handle_roots.specs.Roots.{root_at}
use Rattle.shape_tree.specs.ShapeLayouts.{layout_word}
use Rattle.write_barrier.specs.Seats.{RestStays, fresh, heap_words}
use Rattle.write_barrier.specs.Staying.{rest_stays_again}
use Rattle.write_barrier.specs.MutatorState.{Mutator, IsOneGap}
use Rattle.write_barrier.specs.Layouts.{HasLayouts}
use Rattle.write_barrier.specs.Opening.{ChangesWithin, AreZero, AreGaps, AreUnbound, IsLaid, IsStarted, blank}
use Rattle.write_barrier.proofs.Changes.{blank_zero}

-- from a heap with its layout words on, first words of pages have changed alone, and then root words
pub record IsPutAll (space : Space) (laid gaps last : Mutator) : Type 0 where
  pub laid_is : IsLaid laid space
  pub pages : ChangesWithin laid gaps 0 (eden_start space)
  pub gaps_are : AreGaps gaps
  pub roots : ChangesWithin gaps last (roots_start space) (layouts_start space)
  pub unbound : AreUnbound last
  pub seconds : (variable : ℕ) → variable < space.variables
      → slice_get (heap_words last.seat) (root_at space variable + 1)
      ≡ slice_get (heap_words gaps.seat) (root_at space variable + 1)

-- the same, where each change says its own space
pub put_all : (space : Space) (laid gaps last : Mutator) → IsLaid laid space
    → ChangesWithin laid gaps 0 (eden_start laid.seat.space) → AreGaps gaps
    → ChangesWithin gaps last (roots_start gaps.seat.space) (layouts_start gaps.seat.space) → AreUnbound last
    → ((variable : ℕ) → variable < gaps.seat.space.variables
    → slice_get (heap_words last.seat) (root_at gaps.seat.space variable + 1)
    ≡ slice_get (heap_words gaps.seat) (root_at gaps.seat.space variable + 1))
    → IsPutAll space laid gaps last
put_all space laid gaps last is pages gaps_are roots unbound seconds =
    let first : laid.seat.space ≡ space = is.changes.seat.space in
    let same : gaps.seat.space ≡ space = pages.seat.space ∙ first in
    record {
      laid_is = is;
      pages = subst (λ (s : Space). ChangesWithin laid gaps 0 (eden_start s)) first pages;
      gaps_are = gaps_are;
      roots = subst (λ (s : Space). ChangesWithin gaps last (roots_start s) (layouts_start s)) same roots;
      unbound = unbound;
      seconds = subst (λ (s : Space). (variable : ℕ) → variable < s.variables
          → slice_get (heap_words last.seat) (root_at s variable + 1)
          ≡ slice_get (heap_words gaps.seat) (root_at s variable + 1)) same seconds;
    }

-- the space is the same
gaps_space : {space : Space} {laid gaps last : Mutator} → IsPutAll space laid gaps last → gaps.seat.space ≡ space
gaps_space all = all.pages.seat.space ∙ all.laid_is.changes.seat.space

-- and so it is once the roots are put
pub last_space : {space : Space} {laid gaps last : Mutator} → IsPutAll space laid gaps last → last.seat.space ≡ space
last_space all = all.roots.seat.space ∙ gaps_space all

-- a word before the layout words is 0 where neither a page nor a root stands
put_zero : {space : Space} {laid gaps last : Mutator} (a : ℕ) → IsPutAll space laid gaps last → eden_start space ≤ a
    → a < layouts_start space → slice_get (heap_words gaps.seat) a ≡ Some 0
put_zero {space} {laid} a all from below =
    all.pages.beside a (inr from) ∙ all.laid_is.changes.beside a (inl below)
    ∙ blank_zero space laid.seat.shared a (omega arith) (omega (arith, marks_start_is space))

-- the pages are still gaps
all_gaps : {space : Space} {laid gaps last : Mutator} → IsPutAll space laid gaps last → (page : ℕ)
    → page < space.sizes.pages → IsOneGap (heap_words last.seat) page
all_gaps {space} all page below =
    let gap = all.gaps_are page (subst (λ (s : Space). page < s.sizes.pages) (sym (gaps_space all)) below) in
    let within : page_words * page + page_words ≤ roots_start space = omega (arith, roots_start_is space) in
    record {
      header = all.roots.beside (page_words * page) (inl (omega arith)) ∙ gap.header;
      size = all.roots.beside (page_words * page + 1) (inl (omega arith)) ∙ gap.size;
    }

-- the segments are still 0
all_zero : {space : Space} {laid gaps last : Mutator} → IsPutAll space laid gaps last
    → AreZero (heap_words last.seat) (segments_start space) (roots_start space)
all_zero {space} all a from below =
    let early : roots_start space ≤ layouts_start space = omega (arith, layouts_start_is space) in
    all.roots.beside a (inl below) ∙ put_zero a all (omega arith) (omega arith)

-- the second words of variables are still 0
all_seconds : {space : Space} {laid gaps last : Mutator} → IsPutAll space laid gaps last → (variable : ℕ)
    → variable < space.variables → slice_get (heap_words last.seat) (root_at space variable + 1) ≡ Some 0
all_seconds {space} all variable below =
    let second = root_at space variable + 1 in
    all.seconds variable below
    ∙ put_zero second all (omega (arith, roots_start_is space)) (omega (arith, layouts_start_is space))

-- the layout words stay
all_laid : {space : Space} {laid gaps last : Mutator} → IsPutAll space laid gaps last → HasLayouts last
all_laid {space} {laid} {last = last} all shape few =
    let start : layouts_start last.seat.space ≡ layouts_start space = ap layouts_start (last_space all) in
    let before : layouts_start laid.seat.space ≡ layouts_start space =
    ap layouts_start all.laid_is.changes.seat.space in
    ap (λ (from : ℕ). slice_get (heap_words last.seat) (from + shape)) start
    ∙ all.roots.beside (layouts_start space + shape) (inr (omega arith))
    ∙ all.pages.beside (layouts_start space + shape)
    (inr (omega (arith, roots_start_is space, layouts_start_is space)))
    ∙ ap (λ (from : ℕ). slice_get (heap_words laid.seat) (from + shape)) (sym before)
    ∙ all.laid_is.layouts shape few
    ∙ ap (λ paths. Some (layout_word paths shape)) (sym (all.roots.paths ∙ all.pages.paths))

-- behind the heap words all is as in words of 0
all_beside : {space : Space} {laid gaps last : Mutator} → IsPutAll space laid gaps last
    → RestStays (fresh space laid.seat.shared) last.seat
all_beside {space} {laid} {gaps} {last} all =
    let start = fresh space laid.seat.shared in
    rest_stays_again start gaps.seat last.seat
    (rest_stays_again start laid.seat gaps.seat all.laid_is.changes.seat all.pages.seat) all.roots.seat

-- all that a heap begins with is there
pub all_started : (space : Space) (laid gaps last : Mutator) → IsPutAll space laid gaps last
    → AreWithin space.sizes space.variables → length (heap_words last.seat) ≡ marks_start last.seat.space
    → IsStarted last
all_started space laid gaps last all within counted =
    let same : space ≡ last.seat.space = sym (last_space all) in
    let words = heap_words last.seat in
    let shared = laid.seat.shared in
    let still : shared ≡ last.seat.shared = sym (all.roots.seat.shared ∙ all.pages.seat.shared) in
    record {
      beside = subst (λ one. RestStays (fresh last.seat.space one) last.seat) still
          (subst (λ (s : Space). RestStays (fresh s shared) last.seat) same (all_beside all));
      paths = all.roots.paths ∙ all.pages.paths ∙ all.laid_is.changes.paths;
      young = all.roots.young ∙ all.pages.young ∙ all.laid_is.changes.young
          ∙ ap (λ (s : Space). (blank s shared).young) same;
      free = all.roots.free ∙ all.pages.free ∙ all.laid_is.changes.free
          ∙ ap (λ (s : Space). (blank s shared).free) same;
      recorded = all.roots.recorded ∙ all.pages.recorded ∙ all.laid_is.changes.recorded
          ∙ ap (λ (s : Space). (blank s shared).recorded) same;
      cycle = all.roots.cycle ∙ all.pages.cycle ∙ all.laid_is.changes.cycle;
      within = subst (λ (s : Space). AreWithin s.sizes s.variables) same within;
      count = counted;
      gaps = subst (λ (s : Space). (page : ℕ) → page < s.sizes.pages → IsOneGap words page) same (all_gaps all);
      segments = subst (λ (s : Space). AreZero words (segments_start s) (roots_start s)) same (all_zero all);
      unbound = all.unbound;
      seconds = subst (λ (s : Space). (variable : ℕ) → variable < s.variables
          → slice_get words (root_at s variable + 1) ≡ Some 0) same (all_seconds all);
      layouts = all_laid all;
    }
