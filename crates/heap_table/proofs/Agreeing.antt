-- The shared table agrees with the own words after a word was put.
use Rattle.std.proofs.Common.{◌≡◌, ℕ, ◌+◌, ◌<◌, List, length-set, take, slice_set, refl, sym, ap}
use Rattle.std.proofs.Common.{subst, ◌∙◌, arith, Option, Some, None, IfSome, IsTrue}
use Rattle.std.specs.Prelude.{is_some}
use Rattle.std.proofs.lemmas.List.{length-replicate, take-replicate}
use Rattle.tagged_word.specs.Shapes.{shapes_most}
use Rattle.page_space.specs.Extents.{Space, eden_start, layouts_start, marks_start}
use Rattle.mark_laws.specs.Types.{Spot}
use Rattle.shared_table.specs.declared.overview.Overview.{Overview}
use Rattle.shared_table.specs.Seats.{Side}
use Rattle.shared_table.specs.Spots.{with_spot}
use Rattle.shared_table.specs.Worlds.{beginning}
use Rattle.shared_table.specs.Owned.{Own, zeros}
use Rattle.heap_table.specs.Seats.{counts_of}
use Rattle.heap_table.specs.Sharing.{Agrees}
use Rattle.shared_table.proofs.PageEnds.{pages_before_layouts, pages_before_marks}
use Rattle.heap_table.proofs.SharedWords.{pages-set_within, pages-set_behind}

-- the own words with a word put at an address
abbrev pub own_with : Own → ℕ → ℕ → Own
own_with own a word = record own { words = slice_set own.words a word }

-- own words with the same pages agree as before
same_pages_agree : (own : Own) (main : Overview) (words : List ℕ) → Agrees own main
    → take (eden_start own.space) words ≡ take (eden_start own.space) own.words
    → Agrees (record own { words = words }) main
same_pages_agree own main words agrees same =
    record { old = agrees.old; words = agrees.words ∙ sym same; layouts = agrees.layouts }

-- so, where there is a shared table, it agrees when words are put behind the pages
pub own_alone_agrees : (own now : Own) (shared : Option Side) (words : List ℕ) → now ≡ record own { words = words }
    → (IsTrue (is_some shared) → take (eden_start own.space) words ≡ take (eden_start own.space) own.words)
    → IfSome shared (λ side. Agrees own side.main) → IfSome shared (λ side. Agrees now side.main)
own_alone_agrees own now None words is same agrees = tt
own_alone_agrees own now (Some side) words is same agrees =
    subst (λ (one : Own). Agrees one side.main) (sym is) (same_pages_agree own side.main words agrees (same refl))

module _ (own : Own) (main : Overview) (agrees : Agrees own main) (word : ℕ) where
  -- a word of a page goes to both
  pub page_agrees : (a : ℕ) → a < eden_start own.space
      → Agrees (own_with own a word) (with_spot main (Spot.Heap a) word)
  page_agrees a below = record {
    old = agrees.old;
    words = ap (λ (ws : List ℕ). slice_set ws a word) agrees.words
        ∙ sym (pages-set_within own.space own.words a word below);
    layouts = agrees.layouts;
  }

  -- so does a layout word, which stands behind the pages among the own ones
  pub layout_agrees : (shape : ℕ)
      → Agrees (own_with own (layouts_start own.space + shape) word) (with_spot main (Spot.Layout shape) word)
  layout_agrees shape = record {
    old = agrees.old;
    words = agrees.words
        ∙ sym (pages-set_behind own.space own.words (layouts_start own.space + shape) word
        (omega (arith, pages_before_layouts own.space)));
    layouts = length-set main.layouts shape word ∙ agrees.layouts;
  }

-- words of 0 agree
pub zeros_agree : (space : Space) → Agrees (zeros space) (beginning (counts_of space))
zeros_agree space = record {
  old = refl;
  words = sym (take-replicate (eden_start space) (marks_start space) 0 (pages_before_marks space));
  layouts = length-replicate {A = ℕ} shapes_most 0;
}
