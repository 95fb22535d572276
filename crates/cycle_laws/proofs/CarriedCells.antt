-- How what is kept goes over a change of cells: what was kept is, and what is kept and stood before was.
use Rattle.std.proofs.Common.{ℕ, ◌≤◌, inl, inr, List, ◌++◌, Contains, sym, ap, subst}
use Rattle.tagged_word.specs.Cells.{is_free_kind}
use Rattle.std.proofs.lemmas.List.Elements.{Contains-append_cases}
use Rattle.page_space.specs.Extents.{Space, eden_start}
use Rattle.heap_model.specs.Types.{Cell}
use Rattle.heap_model.specs.Heaps.{Heap}
use Rattle.heap_model.specs.Wholeness.{Whole}
use Rattle.heap_model.specs.Changes.{CellsChange, IsNewPlace}
use Rattle.live_cells.specs.Live.{HasSlotTo, HasEntry}
use Rattle.live_cells.specs.Marked.{IsMarkClosed}
use Rattle.mark_world.specs.Cycles.{Cycle}
use Rattle.cycle_state.specs.Keeping.{is_kept, IsKept}
use Rattle.cycle_laws.specs.Changes.{JoinsNewCells}
use Rattle.cycle_laws.proofs.Kept.{kept_cases, young_is_kept, born_is_kept}
use Rattle.cycle_laws.proofs.Targets.{StandsAt, HasCellAt, cell_there, key_target, slot_is_used, entry_is_used}

module _ {old new : Heap} {cycle later : Cycle} {gone came made : List Cell} (whole : Whole old)
    (cells : CellsChange old new gone came made) (joins : JoinsNewCells old new cycle later came made) where
  -- what was kept is
  pub kept_stays : (at : ℕ) → IsKept old cycle.born at → IsKept new later.born at
  kept_stays at is = elim (kept_cases old cycle.born at is) [
    | inl young ↦
        young_is_kept new later.born at
        (subst (λ (space : Space). eden_start space ≤ at) (sym cells.same_space) young)
    | inr counts ↦ born_is_kept new later.born at (joins.stays at counts)
  ]

  -- what is kept was, where a cell stood there that was not free
  pub kept_before : (at : ℕ) → HasCellAt old at → IsKept new later.born at → IsKept old cycle.born at
  kept_before at there is = elim (kept_cases new later.born at is) [
    | inl young ↦
        young_is_kept old cycle.born at (subst (λ (space : Space). eden_start space ≤ at) cells.same_space young)
    | inr counts ↦ elim (joins.joined at counts) [
      | inl before ↦ born_is_kept old cycle.born at before
      | inr new_place ↦ absurd (there.used (ap is_free_kind (new_place there.cell there.words there.has there.stands)))
    ]
  ]

  -- a cell that was made is kept
  pub made_is_kept : (cell : Cell) → Contains made cell → IsKept new later.born cell.at
  made_is_kept cell there = young_is_kept new later.born cell.at (joins.young cell there)

  -- so is one at a new place
  pub new_place_kept : (at : ℕ) → StandsAt new at → IsNewPlace old at → IsKept new later.born at
  new_place_kept at stands new_place =
      let there = cell_there stands in
      let kept : IsKept new later.born there.cell.at = elim (cells.back there.cell there.words there.has) [
        | inl comes ↦ elim (Contains-append_cases came made there.cell comes) [
          | inl came_there ↦
              joins.new_born there.cell came_there there.used (subst (IsNewPlace old) (sym there.stands) new_place)
          | inr made_there ↦ made_is_kept there.cell made_there
        ]
        | inr stood ↦ absurd (there.used (ap is_free_kind (new_place there.cell there.words stood.0 there.stands)))
      ] in
      subst (IsKept new later.born) there.stands kept

  -- What is kept is closed, where what slots and pairs of cells that came or were made refer to is kept.
  pub closed_then : IsMarkClosed old (is_kept old.space cycle.born)
      → ((from at : ℕ) (slot : HasSlotTo new from at) → Contains (came ++ made) slot.cell → IsKept new later.born at)
      → ((table key at : ℕ) (entry : HasEntry new table key at) → Contains (came ++ made) entry.cell
      → IsKept new later.born key → IsKept new later.born at)
      → IsMarkClosed new (is_kept new.space later.born)
  closed_then closed new_slots new_pairs = record {
    slots = λ from at kept slot. elim (cells.back slot.cell slot.words slot.has) [
      | inl comes ↦ new_slots from at slot comes
      | inr stood ↦
          let had : HasCellAt old from = record {
            cell = slot.cell;
            words = slot.words;
            has = stood.0;
            stands = slot.stands;
            used = slot_is_used slot;
          } in
          kept_stays at (closed.slots from at (kept_before from had kept) (record {
            cell = slot.cell;
            words = slot.words;
            has = stood.0;
            stands = slot.stands;
            offset = slot.offset;
            visited = slot.visited;
            holds = slot.holds;
          }))
    ];
    entries = λ table key at kept key_kept entry. elim (cells.back entry.cell entry.words entry.has) [
      | inl comes ↦ new_pairs table key at entry comes key_kept
      | inr stood ↦
          let had : HasCellAt old table = record {
            cell = entry.cell;
            words = entry.words;
            has = stood.0;
            stands = entry.stands;
            used = entry_is_used entry;
          } in
          let was : HasEntry old table key at = record {
            cell = entry.cell;
            words = entry.words;
            has = stood.0;
            stands = entry.stands;
            of_kind = entry.of_kind;
            place = entry.place;
            pair = entry.pair;
            among = entry.among;
            key_is = entry.key_is;
            value_is = entry.value_is;
          } in
          kept_stays at (closed.entries table key at (kept_before table had kept)
          (kept_before key (cell_there (key_target whole was)) key_kept) was)
    ];
  }
