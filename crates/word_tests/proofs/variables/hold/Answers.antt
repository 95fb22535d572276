-- The variable holds the value whose root words were put.
use Rattle.std.proofs.Common.{◌≡◌, ◌+◌, ◌∙◌, ℕ, List, length, slice_set, sym, ap, subst, arith}
use Rattle.handle_roots.specs.Roots.{Holds, root_at, with_root, first_word}
use Rattle.handle_roots.proofs.RootWords.{root_before_layouts}
use Rattle.handle_roots.proofs.RootsHeld.{with_root_holds}
use Rattle.word_tests.proofs.variables.hold.Goals as goal

pub returns : goal.returns
returns c =
    let space = c.args.regions.now in
    let words : List ℕ = c.args.words.now in
    let at = root_at space c.args.variable in
    let before = root_before_layouts space c.args.variable c.requires.known in
    let put : c.put_pair.new.words ≡ with_root space words c.args.variable c.args.value =
    c.put_pair.ensures
    ∙ ap (λ (word : ℕ). slice_set (slice_set words at word) (at + 1) c.words_of.result.second) c.words_of.ensures.first
    ∙ ap (λ (word : ℕ). slice_set (slice_set words at (first_word c.args.value)) (at + 1) word)
    c.words_of.ensures.second
    in
    record {
      held = put;
      holds = subst (λ (all : List ℕ). Holds space all c.args.variable c.args.value) (sym put)
          (with_root_holds space words c.args.variable c.args.value c.words_of.ensures.fits
          (omega (arith, before, c.requires.within)));
    }
