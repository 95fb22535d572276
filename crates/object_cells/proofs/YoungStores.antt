-- Words that are put behind all pages where a cycle of marking is open, as those of a cell that is made: the pages and
-- the layout words stay, so the world that helpers read does.
use Rattle.std.specs.Prelude.{ℤ}
use Rattle.std.proofs.Common.{◌≡◌, ◌≢◌, ℕ, ◌+◌, ◌<◌, ◌≤◌, ◌⊎◌, inl, inr, List, length, take, drop, slice_get}
use Rattle.std.proofs.Common.{refl, sym, ◌∙◌, ap, subst, arith, unwrap_or, length-take, length-drop}
use Rattle.std.proofs.lemmas.Grind.{same_number_lists}
use Rattle.std.proofs.lemmas.List.Elements.{All-contains_itself}
use Rattle.std.proofs.lemmas.Option.{unwrap_or-slice_get}
use Rattle.tagged_word.specs.Headers.{header_bits}
use Rattle.tagged_word.specs.Shapes.{shapes_most}
use Rattle.page_space.specs.Extents.{Space, eden_start, layouts_start}
use Rattle.cell_layout.specs.Cells.{layouts_in}
use Rattle.object_graph.proofs.Lists.{slice_get-set_other}
use Rattle.heap_model.specs.Slots.{raw_word}
use Rattle.heap_model.proofs.CellWords.{slice_get-take, slice_get-drop}
use Rattle.heap_table.specs.Phases.{Mark}
use Rattle.mark_world.specs.Cycles.{Cycle}
use Rattle.mark_world.specs.declared.event.Event.{Event}
use Rattle.mark_world.specs.declared.event.Event.TheVariants as event
use Rattle.mark_world.specs.declared.world.World.{World}
use Rattle.mark_world.specs.Soundness.{AreIn}
use Rattle.cycle_state.specs.Cycles.{words_of_pages}
use Rattle.cycle_state.proofs.GoingOn.{goes_on_itself}
use Rattle.write_barrier.specs.Layouts.{AreLayouts, HasLayouts}
use Rattle.write_barrier.specs.Marking.{MayIn, MayPut}
use Rattle.write_barrier.specs.MutatorState.{Mutator, heap_of, world_of, with_word}
use Rattle.write_barrier.specs.Seats.{RestStays}
use Rattle.write_barrier.specs.Storing.{IsMadeYoung, StoresOn}
use Rattle.write_barrier.proofs.JudgedSlots.{wiped_bound}
use Rattle.write_barrier.proofs.SeenWorlds.{SeesOn, seen}
use Rattle.write_barrier.proofs.SlotStores.{word_stores_on}
use Rattle.write_barrier.proofs.StoresOn.{made_young_stays, stores_by, stores_on_again}
use Rattle.object_cells.specs.Contents.{with_box}
use Rattle.object_cells.specs.Formats.{box_header}
use Rattle.object_cells.proofs.RestOfWords.{box_beside, layouts_before_marks}

-- Words from an address up to another were put, which are behind all pages where a cycle is open, and before the layout
-- words. All else of the words stays, and what is known of the cycle.
pub record PutsYoung (old new : Mutator) (at end : ℕ) : Type 0 where
  pub beside : RestStays old.seat new.seat
  pub paths : new.paths ≡ old.paths
  pub cycle : new.cycle ≡ old.cycle
  pub bound : new.recorded.bound ≡ old.recorded.bound
  pub young : IsMadeYoung old at
  pub before : end ≤ layouts_start old.seat.space
  pub stay : (a : ℕ) → (a < at) ⊎ (end ≤ a) → slice_get new.seat.table a ≡ slice_get old.seat.table a

-- lists of numbers are the same where these are as many, and the same at each place
same_lists : (some other : List ℕ) → length some ≡ length other
    → ((k : ℕ) → k < length some → slice_get some k ≡ slice_get other k) → some ≡ other
same_lists some other long each =
    same_number_lists some other long (λ k within.
    sym (unwrap_or-slice_get some k 0) ∙ ap (λ found. unwrap_or found 0) (each k within)
    ∙ unwrap_or-slice_get other k 0)

-- the first words are the same where each is
same_first : (words others : List ℕ) (end : ℕ) → length others ≡ length words
    → ((a : ℕ) → a < end → slice_get others a ≡ slice_get words a) → take end others ≡ take end words
same_first words others end long each =
    same_lists (take end others) (take end words)
    (omega (arith, length-take end others, length-take end words, long)) (λ k within.
    let below : k < end = omega (arith, within, length-take end others) in
    slice_get-take end others k below ∙ each k below ∙ sym (slice_get-take end words k below))

-- and so are the words behind an address
same_behind : (words others : List ℕ) (from : ℕ) → length others ≡ length words
    → ((a : ℕ) → from ≤ a → slice_get others a ≡ slice_get words a) → drop from others ≡ drop from words
same_behind words others from long each =
    same_lists (drop from others) (drop from words)
    (omega (arith, length-drop from others, length-drop from words, long)) (λ k within.
    slice_get-drop from others k (from + k) refl ∙ each (from + k) (omega arith)
    ∙ sym (slice_get-drop from words k (from + k) refl))

-- so the layout words are
same_layouts : (space : Space) (words others : List ℕ) → length others ≡ length words
    → ((a : ℕ) → layouts_start space ≤ a → slice_get others a ≡ slice_get words a)
    → layouts_in space others ≡ layouts_in space words
unfolding layouts_in
same_layouts space words others long each =
    ap (take shapes_most) (same_behind words others (layouts_start space) long each)

module _ {old new : Mutator} {at end : ℕ} (puts : PutsYoung old new at end) where
  -- the layout words stay
  layouts_stay : layouts_in old.seat.space new.seat.table ≡ layouts_in old.seat.space old.seat.table
  layouts_stay =
      same_layouts old.seat.space old.seat.table new.seat.table puts.beside.count
      (λ a behind. puts.stay a (inr (omega (arith, behind, puts.before))))

  -- and are those of the shapes still
  has_layouts : HasLayouts old → HasLayouts new
  has_layouts are =
      let here : AreLayouts new.seat.table (layouts_start old.seat.space) old.paths = λ shape below.
      puts.stay (layouts_start old.seat.space + shape) (inr (omega (arith, puts.before))) ∙ are shape below in
      subst (λ (space : Space). AreLayouts new.seat.table (layouts_start space) new.paths) (sym puts.beside.space)
      (subst (AreLayouts new.seat.table (layouts_start old.seat.space)) (sym puts.paths) here)

  -- where a cycle is open, the words of pages stay
  pages_stay : old.seat.phase ≡ Mark
      → take (eden_start old.seat.space) new.seat.table ≡ take (eden_start old.seat.space) old.seat.table
  pages_stay mark =
      same_first old.seat.table new.seat.table (eden_start old.seat.space) puts.beside.count
      (λ a below. puts.stay a (inl (omega (arith, below, puts.young mark))))

  -- so the world does
  world_stays : old.seat.phase ≡ Mark → world_of new ≡ world_of old
  world_stays mark =
      ap (λ (space : Space). seen (eden_start space) (take (eden_start space) new.seat.table)
      (layouts_in space new.seat.table) new.cycle) puts.beside.space
      ∙ ap (λ (all : List ℕ). seen (eden_start old.seat.space) all (layouts_in old.seat.space new.seat.table) new.cycle)
      (pages_stay mark)
      ∙ ap (λ (all : List ℕ). seen (eden_start old.seat.space) (words_of_pages (heap_of old)) all new.cycle)
      layouts_stay
      ∙ ap (λ (one : Cycle). seen (eden_start old.seat.space) (words_of_pages (heap_of old))
      (layouts_in old.seat.space old.seat.table) one) puts.cycle

  -- so words were stored
  pub young_stores_on : StoresOn old new
  young_stores_on =
      stores_by puts.beside.space puts.beside.phase puts.bound
      (puts.cycle ∙ ap (λ (list : List ℕ). record old.cycle { sure = list })
      (ap (λ (one : Cycle). one.sure) (sym puts.cycle)))
      (subst (λ (one : Cycle). AreIn one.sure old.cycle.sure) (sym puts.cycle) (All-contains_itself old.cycle.sure))
      has_layouts
      (λ mark readable. subst (SeesOn (world_of old)) (sym (world_stays mark))
      (record { sound = readable.view; goes = goes_on_itself (world_of old) }))

  -- and a step that could be made can be
  pub may_put_stays : (a : ℕ) (of : Event) → MayPut old a of → MayPut new a of
  may_put_stays a of may of_page mark =
      let was = sym puts.beside.phase ∙ mark in
      let step = may (subst (λ (space : Space). a < eden_start space) puts.beside.space of_page) was in
      record {
        layouts = has_layouts step.layouts;
        may = subst (λ (world : World). MayIn world of) (sym (world_stays was)) step.may;
      }

-- a word that is young where a cycle is open may be put
pub young_may_put : {main : Mutator} {from : ℕ} (at : ℕ) (of : Event) → IsMadeYoung main from → from ≤ at
    → MayPut main at of
young_may_put at of young behind of_page mark = absurd (omega (arith, young mark, behind, of_page))

-- where a box is made, words are stored
pub box_stores_on : {main : Mutator} (at : ℕ) (v : ℤ) → IsMadeYoung main at → at + 1 < layouts_start main.seat.space
    → StoresOn main (with_box main at v)
box_stores_on {main} at v young before =
    let head : ℕ = header_bits box_header in
    let first = word_stores_on {main = main} at head (omega (arith, before))
    (young_may_put at (event.StoreOwned at head) young (omega arith)) in
    stores_on_again first (word_stores_on {main = with_word main at head} (at + 1) (raw_word v) before
    (young_may_put (at + 1) (event.StoreOwned (at + 1) (raw_word v)) (made_young_stays first young) (omega arith)))

-- its words are put so
pub box_puts_young : {main : Mutator} (at : ℕ) (v : ℤ) → IsMadeYoung main at → at + 1 < layouts_start main.seat.space
    → PutsYoung main (with_box main at v) at (at + 2)
box_puts_young {main} at v young before =
    let head : ℕ = header_bits box_header in
    let headed : Mutator = with_word main at head in
    record {
      beside = box_beside main at v (omega (arith, before, layouts_before_marks main.seat.space));
      paths = refl;
      cycle = refl;
      bound = wiped_bound headed.recorded (at + 1) (at + 1 + 1) ∙ wiped_bound main.recorded at (at + 1);
      young = young;
      before = omega (arith, before);
      stay = λ a apart.
          let not_head : a ≢ at = λ same. elim apart [
            | inl low ↦ omega (arith, low, same)
            | inr high ↦ omega (arith, high, same)
          ] in
          let not_raw : a ≢ at + 1 = λ same. elim apart [
            | inl low ↦ omega (arith, low, same)
            | inr high ↦ omega (arith, high, same)
          ] in
          slice_get-set_other headed.seat.table (at + 1) a (raw_word v) not_raw
          ∙ slice_get-set_other main.seat.table at a head not_head;
    }
