-- Words that need no box fill a slot.
use Rattle.std.proofs.Common.{◌≡◌, ◌<◌, ℕ, refl, sym, subst}
use Rattle.heap_model.specs.Types.{Word}
use Rattle.page_space.specs.Extents.{marks_start}
use Rattle.write_barrier.specs.Seats.{RestStays}
use Rattle.write_barrier.specs.MutatorState.{Mutator, with_word, with_slot}
use Rattle.object_cells.specs.declared.content.SlotContent.TheVariants as content
use Rattle.object_cells.specs.declared.content.SlotWrite.TheVariants as filling
use Rattle.object_cells.specs.Contents.{FillsSlot}
use Rattle.object_cells.proofs.RestOfWords.{filled_beside}

-- a tagged word fills a slot before the marks
pub tagged_fills : (old new : Mutator) (at : ℕ) (word : Word) → at < marks_start old.seat.space
    → new ≡ with_slot old at word.0 → FillsSlot old new at (content.Tagged word)
tagged_fills old new at word below is = record {
  between = old;
  allocates = refl;
  fills = is;
  beside = subst (λ (main : Mutator). RestStays old.seat main.seat) (sym is)
      (filled_beside old at (filling.Tagged word) below tt);
}

-- and so does a raw one
pub raw_fills : (old new : Mutator) (at word : ℕ) → at < marks_start old.seat.space → new ≡ with_word old at word
    → FillsSlot old new at (content.Raw word)
raw_fills old new at word below is = record {
  between = old;
  allocates = refl;
  fills = is;
  beside = subst (λ (main : Mutator). RestStays old.seat main.seat) (sym is)
      (filled_beside old at (filling.Raw word) below tt);
}
