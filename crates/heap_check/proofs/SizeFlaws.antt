-- Flaws of sizes: how many words are used, how many there are, and the layout words.
use Rattle.std.proofs.Common.{◌≡◌, ◌≢◌, ℕ, ◌+◌, ◌<◌, Some, length, slice_get, refl, sym, ◌∙◌, arith}
use Rattle.std.proofs.lemmas.Option.{same_Some}
use Rattle.std.proofs.lemmas.Bool.{cases_lt}
use Rattle.std.proofs.Common.{inl, inr}
use Rattle.tagged_word.specs.Shapes.{shapes_most}
use Rattle.page_space.specs.Extents.{layouts_start, marks_start}
use Rattle.shape_tree.specs.ShapeLayouts.{layout_word}
use Rattle.heap_model.specs.Heaps.{Heap}
use Rattle.heap_check.specs.declared.flaw.Flaw.{Flaw}
use Rattle.heap_check.specs.Firsts.{IsFirst}
use Rattle.heap_check.specs.Frames.{beside_words, BreaksUsed, BreaksLength, BreaksLayout, BreaksLayouts}
use Rattle.heap_check.proofs.FirstBreaches.{breaks_there}

-- what is wrong with the used words is told behind the last word of a heap
used_at : {heap : Heap} {at found wanted : ℕ} → BreaksUsed heap at found wanted → at ≡ beside_words heap
used_at (BreaksUsed.used more) = refl

-- the one flaw of the used words
pub used_first : (heap : Heap) (flaw : Flaw) → heap.space.sizes.young < heap.used → flaw.at ≡ beside_words heap
    → flaw.found ≡ heap.used → flaw.wanted ≡ heap.space.sizes.young → IsFirst (BreaksUsed heap) flaw
used_first heap flaw more at found wanted = record {
  breaks = breaks_there (BreaksUsed heap) (BreaksUsed.used more) at found wanted;
  first = λ other there asked breaks. omega (arith, at, used_at breaks);
}

-- so it is of the number of words
length_at : {heap : Heap} {at found wanted : ℕ} → BreaksLength heap at found wanted → at ≡ beside_words heap
length_at (BreaksLength.words other) = refl

-- the one flaw of the number of words
pub length_first : (heap : Heap) (flaw : Flaw) → length heap.words ≢ marks_start heap.space
    → flaw.at ≡ beside_words heap → flaw.found ≡ length heap.words → flaw.wanted ≡ marks_start heap.space
    → IsFirst (BreaksLength heap) flaw
length_first heap flaw other at found wanted = record {
  breaks = breaks_there (BreaksLength heap) (BreaksLength.words other) at found wanted;
  first = λ place there asked breaks. omega (arith, at, length_at breaks);
}

-- the layout word of a shape is told at its own address
layout_at : {heap : Heap} {shape at found wanted : ℕ} → BreaksLayout heap shape at found wanted
    → at ≡ layouts_start heap.space + shape
layout_at (BreaksLayout.layout found there other) = refl

-- where it breaks, it is not what it should be
layout_other : {heap : Heap} {shape at found wanted : ℕ} → BreaksLayout heap shape at found wanted
    → slice_get heap.words (layouts_start heap.space + shape) ≡ Some (layout_word heap.paths shape) → ⊥
layout_other (BreaksLayout.layout found there other) sound = other (same_Some _ _ (sym there ∙ sound))

-- the one flaw of the layout word of a shape
pub layout_first : (heap : Heap) (shape : ℕ) (flaw : Flaw)
    → slice_get heap.words (layouts_start heap.space + shape) ≡ Some flaw.found
    → flaw.found ≢ layout_word heap.paths shape → flaw.at ≡ layouts_start heap.space + shape
    → flaw.wanted ≡ layout_word heap.paths shape → IsFirst (BreaksLayout heap shape) flaw
layout_first heap shape flaw there other at wanted = record {
  breaks = breaks_there (BreaksLayout heap shape) (BreaksLayout.layout flaw.found there other) at refl wanted;
  first = λ place found asked breaks. omega (arith, at, layout_at breaks);
}

-- a breach of some shape, by the shape
record LayoutBroken (heap : Heap) (at found wanted : ℕ) : Type 0 where
  pub shape : ℕ
  pub known : shape < shapes_most
  pub breaks : BreaksLayout heap shape at found wanted

-- each breach of layout words is one of some shape
layout_broken : {heap : Heap} {at found wanted : ℕ} → BreaksLayouts heap at found wanted
    → LayoutBroken heap at found wanted
layout_broken (BreaksLayouts.layout shape at found wanted known breaks) =
    record { shape = shape; known = known; breaks = breaks }

-- the flaw of a shape before which all layout words are right is the first of all
pub layouts_first : (heap : Heap) (shape : ℕ) (flaw : Flaw) → shape < shapes_most
    → ((before : ℕ) → before < shape
    → slice_get heap.words (layouts_start heap.space + before) ≡ Some (layout_word heap.paths before))
    → IsFirst (BreaksLayout heap shape) flaw → IsFirst (BreaksLayouts heap) flaw
layouts_first heap shape flaw known sound one = record {
  breaks = BreaksLayouts.layout shape flaw.at flaw.found flaw.wanted known one.breaks;
  first = λ place found asked breaks.
      let other = layout_broken breaks in
      elim (cases_lt other.shape shape) [
        | inl before ↦ absurd (layout_other other.breaks (sound other.shape before))
        | inr behind ↦ omega (arith, behind, layout_at one.breaks, layout_at other.breaks)
      ];
}

-- a heap with right layout words has no breach of them
pub layouts_sound : (heap : Heap) (at found wanted : ℕ)
    → ((shape : ℕ) → shape < shapes_most
    → slice_get heap.words (layouts_start heap.space + shape) ≡ Some (layout_word heap.paths shape))
    → BreaksLayouts heap at found wanted → ⊥
layouts_sound heap at found wanted sound breaks =
    let other = layout_broken breaks in
    layout_other other.breaks (sound other.shape other.known)
