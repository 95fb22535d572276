-- The words with the root words of a variable made those of a value.
use Rattle.std.proofs.Common.{◌≡◌, ◌≢◌, ℕ, ◌+◌, ◌<◌, ◌≤◌, List, length, set, drop, slice_get}
use Rattle.std.proofs.Common.{slice_range, sym, ◌∙◌, ap, arith, length-set}
use Rattle.std.proofs.lemmas.List.{take-set-le}
use Rattle.std.proofs.lemmas.Slice.{between_is}
use Rattle.page_space.specs.Extents.{Space, roots_start, layouts_start, marks_start}
use Rattle.page_space.proofs.Starts.{layouts_start_is, marks_start_is}
use Rattle.object_graph.proofs.Lists.{slice_get-set_same, slice_get-set_other}
use Rattle.heap_model.specs.Types.{Held}
use Rattle.handle_roots.specs.Roots.{FitsHeld, Holds, root_at, first_word, second_word, with_root}
use Rattle.heap_model.proofs.WordsAlike.{AreAlike}

-- a word that is no root word of the variable stays
slice_get-with_root : (space : Space) (words : List ℕ) (variable : ℕ) (held : Held) (at : ℕ)
    → at ≢ root_at space variable
    → at ≢ root_at space variable + 1 → slice_get (with_root space words variable held) at ≡ slice_get words at
slice_get-with_root space words variable held at apart apart_too =
    let root : ℕ = root_at space variable in
    slice_get-set_other (set words root (first_word held)) (root + 1) at (second_word held) apart_too
    ∙ slice_get-set_other words root at (first_word held) apart

-- the words up to the roots stay
slice_range-with_root : (space : Space) (words : List ℕ) (variable : ℕ) (held : Held) (from to : ℕ)
    → to ≤ roots_start space
    → slice_range (with_root space words variable held) from to ≡ slice_range words from to
slice_range-with_root space words variable held from to below =
    let root : ℕ = root_at space variable in
    let first : List ℕ = set words root (first_word held) in
    between_is (with_root space words variable held) from to
    ∙ ap (drop from) (take-set-le to first (root + 1) (second_word held) (omega arith))
    ∙ ap (drop from) (take-set-le to words root (first_word held) (omega arith))
    ∙ sym (between_is words from to)

-- the root words of a variable stand before the layout words
root_within : (space : Space) (variable : ℕ) → variable < space.variables
    → root_at space variable + 2 ≤ layouts_start space
root_within space variable below = omega (arith, layouts_start_is space)

-- the words are alike everywhere but in the roots
pub with_root_alike : (space : Space) (words : List ℕ) (variable : ℕ) (held : Held) → variable < space.variables
    → AreAlike space words (with_root space words variable held)
with_root_alike space words variable held below =
    let root : ℕ = root_at space variable in
    let within = root_within space variable below in
    record {
      long = length-set (set words root (first_word held)) (root + 1) (second_word held)
          ∙ length-set words root (first_word held);
      cells = λ at before. slice_get-with_root space words variable held at (omega arith) (omega arith);
      parts = λ from to before. slice_range-with_root space words variable held from to before;
      layouts = λ shape. slice_get-with_root space words variable held (layouts_start space + shape)
          (omega (arith, within)) (omega (arith, within));
    }

-- the root words of the variable stand for the value
pub with_root_holds : (space : Space) (words : List ℕ) (variable : ℕ) (held : Held) → variable < space.variables
    → length words ≡ marks_start space → FitsHeld held → Holds space (with_root space words variable held) variable held
with_root_holds space words variable held below long fits =
    let root : ℕ = root_at space variable in
    let first : List ℕ = set words root (first_word held) in
    let within = root_within space variable below in
    record {
      fits = fits;
      first = slice_get-set_other first (root + 1) root (second_word held) (omega arith)
          ∙ slice_get-set_same words root (first_word held) (omega (arith, within, long, marks_start_is space));
      second = slice_get-set_same first (root + 1) (second_word held)
          (omega (arith, within, long, marks_start_is space, length-set words root (first_word held)));
    }

-- and those of another for what they stood for
pub with_root_others : (space : Space) (words : List ℕ) (variable : ℕ) (held : Held) (other : ℕ) (one : Held)
    → other ≢ variable → Holds space words other one → Holds space (with_root space words variable held) other one
with_root_others space words variable held other one apart holds =
    let root : ℕ = root_at space other in
    record {
      fits = holds.fits;
      first = slice_get-with_root space words variable held root (omega arith) (omega arith) ∙ holds.first;
      second = slice_get-with_root space words variable held (root + 1) (omega arith) (omega arith) ∙ holds.second;
    }
