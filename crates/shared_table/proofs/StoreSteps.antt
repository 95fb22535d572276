-- Stores into pages and of layout words, each an event.
use Rattle.std.proofs.Common.{◌≡◌, ℕ, ◌+◌, ◌-◌, ◌<◌, ◌⊎◌, [], inl, inr, sym, refl, ap, ◌∙◌, arith}
use mathlib.Core.Option.{none}
use Rattle.atomic_table.specs.Table.{Me, Step, step, Allows}
use Rattle.mark_laws.specs.Types.{Spot}
use Rattle.mark_world.specs.declared.event.Event.TheVariants as event
use Rattle.shared_table.specs.declared.overview.Counts.{Counts}
use Rattle.shared_table.specs.declared.overview.Overview.{Overview}
use Rattle.shared_table.specs.declared.overview.View.{View}
use Rattle.shared_table.specs.declared.overview.View.TheVariants.{Main}
use Rattle.shared_table.specs.declared.phase.Phase.{Phase}
use Rattle.shared_table.specs.declared.phase.Phase.TheVariants.{Quiet, Mark, Paused}
use Rattle.shared_table.specs.Keeping.{KeepsRule}
use Rattle.shared_table.specs.Changes.{MayDo, told_at}
use Rattle.shared_table.specs.Told.{tells_event, slot_event, layout_event, heap_spot, tells_put}
use Rattle.shared_table.proofs.EventSteps.{store_may}
use Rattle.shared_table.proofs.PutSteps.{put_may}

module _ {S : Type 0} (key counts : Counts) (id slots x : ℕ) (me : Me S View) (main : Overview) (is_key : key ≡ counts)
    (is_id : id ≡ 0) (is_me : me ≡ (Main main, [])) (marks : main.phase ≡ Mark) where
  -- a word goes into a slot
  pub slot_may : (a : ℕ) → a < counts.old → MayDo main (event.StoreSlot a x)
      → Allows (KeepsRule {S = S} key) slots id me a (λ _. x) (λ _. tells_event slot_event (step slots a x 0 none) me x)
  slot_may a inside may =
      store_may {S = S} key counts id slots a me main (Spot.Heap a) (event.StoreSlot a x) is_key is_id is_me refl inside
      marks (λ others colours board. may) (λ others colours board. refl) slot_event x (λ m. refl) (λ n. refl)

  -- a word goes where no helper visits
  owned_may : (a : ℕ) → a < counts.old → MayDo main (event.StoreOwned a x)
      → Allows (KeepsRule {S = S} key) slots id me a (λ _. x) (λ _. tells_put heap_spot (step slots a x 0 none) me x)
  owned_may a inside may =
      store_may {S = S} key counts id slots a me main (Spot.Heap a) (event.StoreOwned a x) is_key is_id is_me refl
      inside marks (λ others colours board. may) (λ others colours board. refl)
      (λ (seen : Overview) (st : Step S). event.StoreOwned st.word st.first) x (λ m. refl) (λ n. refl)

  -- a header changes
  header_may : (a : ℕ) → a < counts.old → MayDo main (event.StoreHeader a x)
      → Allows (KeepsRule {S = S} key) slots id me a (λ _. x) (λ _. tells_put heap_spot (step slots a x 0 none) me x)
  header_may a inside may =
      store_may {S = S} key counts id slots a me main (Spot.Heap a) (event.StoreHeader a x) is_key is_id is_me refl
      inside marks (λ others colours board. may) (λ others colours board. refl)
      (λ (seen : Overview) (st : Step S). event.StoreHeader st.word st.first) x (λ m. refl) (λ n. refl)

  -- a layout word comes to its place
  pub layout_may : (shape place : ℕ) → place ≡ counts.old + shape → shape < counts.shapes → main.old ≡ counts.old
      → MayDo main (event.AddLayout shape x)
      → Allows (KeepsRule {S = S} key) slots id me place (λ _. x)
      (λ _. tells_event layout_event (step slots place x 0 none) me x)
  layout_may shape place is_place inside old may =
      let same : (counts.old + shape) - main.old ≡ shape = omega (arith, old) in
      store_may {S = S} key counts id slots place me main (Spot.Layout shape) (event.AddLayout shape x) is_key is_id
      is_me
      is_place inside marks (λ others colours board. may) (λ others colours board. refl) layout_event x (λ m. refl)
      (λ n. ap (λ (i : ℕ). told_at main (Spot.Layout i) (event.AddLayout i x) n) (sym same))

module _ {S : Type 0} (key counts : Counts) (id slots x : ℕ) (me : Me S View) (main : Overview) (is_key : key ≡ counts)
    (is_id : id ≡ 0) (is_me : me ≡ (Main main, [])) (a : ℕ) (inside : a < counts.old) where
  -- a word of a page is put while no cycle is open, or while it waits
  idle_may : (main.phase ≡ Mark → ⊥)
      → Allows (KeepsRule {S = S} key) slots id me a (λ _. x) (λ _. tells_put heap_spot (step slots a x 0 none) me x)
  idle_may idle =
      put_may {S = S} key counts id slots a x me main (Spot.Heap a) heap_spot is_key is_id is_me refl inside idle
      (λ colours three. three) refl

  -- in an open cycle it is put as a header or as a word that no helper visits by
  pub word_may : (phase : Phase) → main.phase ≡ phase
      → (main.phase ≡ Mark → MayDo main (event.StoreHeader a x) ⊎ MayDo main (event.StoreOwned a x))
      → Allows (KeepsRule {S = S} key) slots id me a (λ _. x) (λ _. tells_put heap_spot (step slots a x 0 none) me x)
  word_may Quiet is may = idle_may (λ mark. let no : Quiet ≡ Mark = sym is ∙ mark in cc)
  word_may Paused is may = idle_may (λ mark. let no : Paused ≡ Mark = sym is ∙ mark in cc)
  word_may Mark is may = elim (may is) [
    | inl header ↦ header_may {S = S} key counts id slots x me main is_key is_id is_me is a inside header
    | inr owned ↦ owned_may {S = S} key counts id slots x me main is_key is_id is_me is a inside owned
  ]
