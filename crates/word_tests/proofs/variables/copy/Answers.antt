-- The words of what one variable holds are put where the other one's stand.
use Rattle.std.proofs.Common.{◌≡◌, ◌≤◌, ◌+◌, ◌∙◌, ℕ, List, length, slice_set, sym, ap, subst, arith}
use Rattle.page_space.specs.Extents.{layouts_start}
use Rattle.handle_roots.specs.declared.held.Held.{Held}
use Rattle.handle_roots.specs.Roots.{Holds, root_at, with_root, first_word}
use Rattle.handle_roots.proofs.RootWords.{root_before_layouts}
use Rattle.handle_roots.proofs.RootsHeld.{with_root_holds}
use Rattle.word_tests.proofs.variables.copy.Goals as goal

pub put_pair-requires-clause-within : goal.put_pair-requires-clause-within
put_pair-requires-clause-within c =
    omega (arith, c.requires.within, ap (λ (words : List ℕ). length words) c.root_words-pair.ensures.kept)

pub returns : goal.returns
returns c =
    let space = c.args.regions.now in
    let words : List ℕ = c.args.words.now in
    let at = root_at space c.args.to in
    let pair = c.root_words-pair.result in
    let before = root_before_layouts space c.args.to c.requires.target_known in
    let put : (held : Held) → Holds space words c.args.from held
    → c.put_pair.new.words ≡ with_root space words c.args.to held = λ held holds.
    let are = c.root_words-pair.ensures.are held holds in
    c.put_pair.ensures
    ∙ ap (λ (all : List ℕ). slice_set (slice_set all at pair.first) (at + 1) pair.second) c.root_words-pair.ensures.kept
    ∙ ap (λ (word : ℕ). slice_set (slice_set words at word) (at + 1) pair.second) are.first
    ∙ ap (λ (word : ℕ). slice_set (slice_set words at (first_word held)) (at + 1) word) are.second in
    record {
      held = put;
      holds = λ held holds.
          subst (λ (all : List ℕ). Holds space all c.args.to held) (sym (put held holds))
          (with_root_holds space words c.args.to held holds.fits (omega (arith, before, c.requires.within)));
    }
