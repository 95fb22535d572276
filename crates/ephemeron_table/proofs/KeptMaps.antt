-- Where words of a weak map's own cells were stored, the mutator is sure of the slots of those that it made black: a
-- table and a box have none, and the map's refers to the table that it had, or to one that was made, which is young.
use Rattle.std.proofs.Common.{◌≡◌, ◌<◌, ◌≤◌, ◌⊎◌, inl, inr, ℕ, List, [], ◌∷◌, ◌++◌, Contains, refl, sym, ◌∙◌, ap, subst}
use Rattle.std.proofs.Common.{arith}
use Rattle.std.proofs.lemmas.List.Elements.{All-contains_itself}
use Rattle.std.proofs.lemmas.Option.{same_Some}
use Rattle.tagged_word.specs.declared.layout.Kind.{Kind}
use Rattle.tagged_word.specs.declared.layout.Kind.TheVariants as kind
use Rattle.tagged_word.specs.declared.layout.LayoutWord.{LayoutWord}
use Rattle.tagged_word.specs.Cells.{store_slot, tagged_offsets, tagged_offsets_of}
use Rattle.tagged_word.proofs.Members.{first_in, in_cases}
use Rattle.tagged_word.proofs.Readings.{reference_from}
use Rattle.page_space.specs.Extents.{Space, eden_start}
use Rattle.heap_table.specs.Phases.{Mark}
use Rattle.mark_world.specs.Cycles.{Cycle}
use Rattle.mark_world.specs.Pages.{OfTarget}
use Rattle.mark_world.specs.Soundness.{AreIn}
use Rattle.object_graph.specs.Graphs.{Graph}
use Rattle.heap_model.specs.Types.{Cell}
use Rattle.heap_model.specs.Changes.{IsNewPlace}
use Rattle.heap_model.specs.Heaps.{Heap, HasCell, words_of_cell}
use Rattle.heap_model.specs.Kinds.{HasWord}
use Rattle.heap_model.specs.Slots.{reference_word}
use Rattle.heap_model.proofs.BoundHeaps.{none_in}
use Rattle.heap_model.proofs.WordClasses.{same_reference}
use Rattle.live_cells.specs.Live.{HasSlotTo}
use Rattle.cycle_laws.specs.Changes.{WasTargetOf}
use Rattle.write_barrier.specs.MutatorState.{Mutator, heap_of, MainShows}
use Rattle.write_barrier.specs.Storing.{StoresOn}
use Rattle.write_barrier.proofs.StoresOn.{next_is_young, shown_is_readable}
use Rattle.object_cells.specs.CycleChanges.{BlackAreSure, KeepsCellsOpen}
use Rattle.object_cells.specs.Uses.{TakesRun}
use Rattle.object_cells.proofs.HoldableWords.{of_word_target}
use Rattle.object_cells.proofs.OwnCellsKeep.{beside_kind}
use Rattle.object_cells.proofs.OwnSteps.{own_writing, went_own}
use Rattle.object_cells.proofs.OwnerWrites.{weak_owns}
use Rattle.object_cells.proofs.SureCells.{settled_before}
use Rattle.ephemeron_table.specs.PairLaws.{RefillsWeak}
use Rattle.ephemeron_table.proofs.ReplacedPairs.{weak_step}

-- a table and a box have no slot that marking visits
none_tagged : (k : Kind) (layout : LayoutWord) (long offset : ℕ) → (k ≡ kind.Table) ⊎ (k ≡ kind.Boxed)
    → Contains (tagged_offsets_of k layout long) offset → ⊥
none_tagged k layout long offset (inl is) there =
    none_in offset (subst (λ (one : Kind). Contains (tagged_offsets_of one layout long) offset) is there)
none_tagged k layout long offset (inr is) there =
    none_in offset (subst (λ (one : Kind). Contains (tagged_offsets_of one layout long) offset) is there)

-- and a map has that for its table alone
only_of_map : (cell : Cell) (offset : ℕ) → cell.layout.kind ≡ kind.Weak
    → Contains (tagged_offsets cell.layout cell.length) offset → offset ≡ store_slot
only_of_map cell offset is there =
    let one : Contains (store_slot ∷ []) offset =
    subst (λ (k : Kind). Contains (tagged_offsets_of k cell.layout cell.length) offset) is there in
    elim (in_cases store_slot [] offset one) [
      | inl same ↦ sym same
      | inr rest ↦ absurd (none_in offset rest)
    ]

module _ {old new : Mutator} {graph : Graph} {cell : Cell} {others made : List Cell} (shows : MainShows old graph)
    (takes : TakesRun old new made) (stores : StoresOn old new)
    (refills : RefillsWeak (heap_of old) (heap_of new) cell others made) (mark : old.seat.phase ≡ Mark) where
  -- the word for the map's table
  abbrev link : ℕ
  link = refills.pairs.refills.store

  abbrev eden : ℕ
  eden = eden_start old.seat.space

  link_visited : Contains (tagged_offsets cell.layout cell.length) store_slot
  link_visited =
      subst (λ (k : Kind). Contains (tagged_offsets_of k cell.layout cell.length) store_slot)
      (sym refills.writes.of_kind) (first_in store_slot [])

  -- what was made is young
  made_young : (one : Cell) → Contains made one → eden ≤ one.at
  made_young one among = omega (arith, (takes.within one among).0, next_is_young shows mark)

  -- so the mutator is sure of that word, if it made the map's cell black
  link_sure : cell.at < eden → Contains old.cycle.mine cell.at → OfTarget eden link (Contains new.cycle.sure)
  link_sure below mine = elim refills.pairs.refills.store_comes [
    | inl was ↦
        settled_before new.cycle.sure shows mark refills.writes.stood below mine stores.sure store_slot link
        link_visited was
    | inr named ↦ of_word_target eden link (Contains new.cycle.sure) (λ at refers low.
        let same : named.0.at ≡ at =
        same_reference named.0.at at (sym named.3 ∙ (reference_from link at refers).1) in
        absurd (omega (arith, low, same, made_young named.0 named.1)))
  ]

  mine_same : new.cycle.mine ≡ old.cycle.mine
  mine_same = ap (λ (one : Cycle). one.mine) stores.cycle

  -- and of the slots of each of the cells
  slots_sure : BlackAreSure new (cell ∷ others)
  slots_sure one among below mine offset word visited has =
      let low : one.at < eden = omega (arith, below, ap eden_start stores.space) in
      let was_mine : Contains old.cycle.mine one.at =
      subst (λ (list : List ℕ). Contains list one.at) mine_same mine in
      elim (in_cases cell others one among) [
        | inl same ↦
            let is_slot : offset ≡ store_slot = only_of_map cell offset refills.writes.of_kind (subst (λ (c : Cell).
            Contains (tagged_offsets c.layout c.length) offset) (sym same) visited) in
            let read : HasWord (words_of_cell (heap_of new) cell) store_slot word =
            subst (λ n. HasWord (words_of_cell (heap_of new) cell) n word) is_slot
            (subst (λ (c : Cell). HasWord (words_of_cell (heap_of new) c) offset word) (sym same) has) in
            let word_is : link ≡ word =
            same_Some link word (sym refills.pairs.refills.has_store ∙ read) in
            subst (λ (space : Space). OfTarget (eden_start space) word (Contains new.cycle.sure)) (sym stores.space)
            (subst (λ w. OfTarget eden w (Contains new.cycle.sure)) word_is
            (link_sure (subst (λ (c : Cell). c.at < eden) (sym same) low)
            (subst (λ (c : Cell). Contains old.cycle.mine c.at) (sym same) was_mine)))
        | inr rest ↦
            absurd (none_tagged one.layout.kind one.layout one.length offset (refills.writes.beside one rest).of_kind
            visited)
      ]

-- what a slot of the map's own cells refers to its slot referred to before, or it stands at a new place
pub map_slot_from : {old new : Heap} {cell : Cell} {others made : List Cell}
    → (refills : RefillsWeak old new cell others made) → (from at : ℕ)
    → (slot : HasSlotTo new from at) → Contains (cell ∷ (others ++ made)) slot.cell
    → WasTargetOf old (cell ∷ others) at ⊎ IsNewPlace old at
map_slot_from {old} {new} {cell} {others} {made} refills from at slot among =
    let slots = refills.pairs.refills in
    elim (in_cases cell (others ++ made) slot.cell among) [
      | inr rest ↦
          absurd (none_tagged slot.cell.layout.kind slot.cell.layout slot.cell.length slot.offset
          (beside_kind refills.writes slots slot.cell rest) slot.visited)
      | inl same ↦
          let is_slot : slot.offset ≡ store_slot = only_of_map cell slot.offset refills.writes.of_kind
          (subst (λ (c : Cell). Contains (tagged_offsets c.layout c.length) slot.offset) (sym same) slot.visited) in
          let has : HasCell new cell slot.words =
          subst (λ (c : Cell). HasCell new c slot.words) (sym same) slot.has in
          let read : HasWord (words_of_cell new cell) store_slot (reference_word at) =
          subst (λ n. HasWord (words_of_cell new cell) n (reference_word at)) is_slot
          (subst (λ words. HasWord words slot.offset (reference_word at)) (sym has.words_are) slot.holds) in
          let link : slots.store ≡ reference_word at =
          same_Some slots.store (reference_word at) (sym slots.has_store ∙ read) in
          elim slots.store_comes [
            | inl was ↦
                let stood : HasSlotTo old cell.at at = record {
                  cell = cell;
                  words = words_of_cell old cell;
                  has = refills.writes.stood;
                  stands = refl;
                  offset = store_slot;
                  visited = subst (λ (k : Kind). Contains (tagged_offsets_of k cell.layout cell.length) store_slot)
                      (sym refills.writes.of_kind) (first_in store_slot []);
                  holds = subst (HasWord (words_of_cell old cell) store_slot) link was;
                } in
                inl (record {
                  from = cell.at;
                  slot = stood;
                  own = went_own (own_writing weak_owns refills.whole refills.writes slots.belong slots.kinds) cell
                      (first_in cell others);
                })
            | inr named ↦
                let place : named.0.at ≡ at = same_reference named.0.at at (sym named.3 ∙ link) in
                inr (λ other words stands there.
                (weak_step refills).cells.new_places named.0 other words named.1 stands (there ∙ sym place))
          ]
    ]

-- so the cycle goes on
pub map_keeps_cells : {old new : Mutator} {graph : Graph} {cell : Cell} {others made : List Cell}
    → MainShows old graph → TakesRun old new made → StoresOn old new
    → RefillsWeak (heap_of old) (heap_of new) cell others made → KeepsCellsOpen old new cell others
map_keeps_cells {old} {new} {cell = cell} {others} shows takes stores refills mark =
    let same : new.cycle.mine ≡ old.cycle.mine = ap (λ (one : Cycle). one.mine) stores.cycle in
    record {
      view = (stores.readable mark (shown_is_readable shows mark)).view;
      cycle = stores.cycle
          ∙ ap (λ (list : List ℕ). record old.cycle { mine = list; sure = new.cycle.sure }) (sym same);
      sure = stores.sure;
      stays = subst (λ (list : List ℕ). AreIn list old.cycle.mine) (sym same) (All-contains_itself old.cycle.mine);
      mine = λ at there. inl (subst (λ (list : List ℕ). Contains list at) same there);
      slots = slots_sure shows takes stores refills mark;
    }
