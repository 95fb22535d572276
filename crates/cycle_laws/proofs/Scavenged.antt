-- What is kept stays closed over a scavenge, and the cells of a cycle's lists stand.
use Rattle.std.proofs.Common.{◌≡◌, ℕ, ◌<◌, ◌≤◌, ◌*◌, inl, inr, not, List, length, drop, get_or, Option, Some}
use Rattle.std.proofs.Common.{Contains, slice_get, IsTrue, refl, sym, ◌∙◌, ap, subst, arith}
use Rattle.std.proofs.lemmas.Bool.{and_parts, and_from, cases_lt, false≢true, not-true, not_from_false}
use Rattle.std.proofs.lemmas.List.Elements.{All-contains}
use Rattle.std.proofs.lemmas.Option.{slice_get_within, slice_get-get_or}
use Rattle.tagged_word.specs.declared.layout.Kind.TheVariants as kind
use Rattle.tagged_word.specs.Cells.{tagged_offsets, store_head}
use Rattle.core_parts.specs.Lists.{is_in}
use Rattle.core_parts.proofs.Joining.{decided, found_in, in_found}
use Rattle.page_space.specs.Extents.{Space, eden_start}
use Rattle.handle_roots.specs.Roots.{root_at, first_word}
use Rattle.heap_model.specs.Types.{Cell}
use Rattle.heap_model.specs.Heaps.{Heap, HasCell}
use Rattle.heap_model.specs.Slots.{reference_word, IsPlace}
use Rattle.heap_model.specs.Kinds.{Pair, pairs_in, free_pair}
use Rattle.heap_model.specs.Wholeness.{Whole}
use Rattle.heap_moves.specs.Moved.{IsMoved, moved_to}
use Rattle.heap_moves.proofs.MovedCells.{origin, place_before}
use Rattle.heap_moves.proofs.MovedSlots.{other_word}
use Rattle.heap_moves.proofs.MovedTargets.{slots_moved, pairs_moved}
use Rattle.heap_moves.proofs.MovedWords.{was_referred}
use Rattle.live_cells.specs.Live.{HasSlotTo, HasEntry, IsRootTarget}
use Rattle.live_cells.proofs.Slots.{marking_slots}
use Rattle.mark_world.specs.Pages.{is_free}
use Rattle.mark_world.specs.BetweenCommands.{IsBornObject}
use Rattle.mark_laws.proofs.Joins.{all_from}
use Rattle.mark_world.specs.Cycles.{Cycle}
use Rattle.cycle_state.specs.Cycles.{main_of}
use Rattle.cycle_state.specs.Keeping.{IsKept, KeepsClosed}
use Rattle.cycle_state.specs.Resting.{IsUsedPageCell, IsPageCell}
use Rattle.cycle_laws.specs.Scavenges.{PromotesTo, JoinsPromoted, ScavengesKeepClosed, ScavengesKeepCells}
use Rattle.cycle_laws.proofs.Kept.{kept_cases, young_is_kept, born_is_kept}
use Rattle.cycle_laws.proofs.Targets.{cell_there, key_target, slot_is_used, entry_is_used}

module _ {old new : Heap} {to : ℕ → Option ℕ} {promoted : List ℕ} {cycle later : Cycle}
    (promotes : PromotesTo old new to promoted) (joins : JoinsPromoted cycle later promoted) where
  -- what is young in one heap is in the other
  young_in_new : (at : ℕ) → eden_start old.space ≤ at → eden_start new.space ≤ at
  young_in_new at young = subst (λ (space : Space). eden_start space ≤ at) (sym promotes.moved.space) young

  young_in_old : (at : ℕ) → eden_start new.space ≤ at → eden_start old.space ≤ at
  young_in_old at young = subst (λ (space : Space). eden_start space ≤ at) promotes.moved.space young

  -- what is kept was, where it is from
  pub kept_back : {was : Cell} {words : List ℕ} (now : ℕ) → HasCell old was words → to was.at ≡ Some now
      → IsKept new later.born now → IsKept old cycle.born was.at
  kept_back {was} {words} now had stays kept = elim (cases_lt was.at (eden_start old.space)) [
    | inr young ↦ young_is_kept old cycle.born was.at young
    | inl below ↦
        let here : now ≡ was.at = promotes.in_place was.at now below stays in
        elim (kept_cases new later.born now kept) [
          | inl young ↦ (let still = young_in_old now young in absurd (omega (arith, here, below, still)))
          | inr counts ↦ elim (joins.born.from now counts) [
            | inl before ↦ born_is_kept old cycle.born was.at (subst (Contains cycle.born) here before)
            | inr came ↦
                let one = promotes.each now came in
                let same : was.at ≡ one.cell.at =
                promotes.moved.apart was one.cell words one.words now had one.has stays one.came in
                absurd (omega (arith, same, below, one.young))
          ]
        ]
  ]

module _ {old new : Heap} {to : ℕ → Option ℕ} {promoted : List ℕ} {cycle later : Cycle} (whole : Whole old)
    (promotes : PromotesTo old new to promoted) (joins : JoinsPromoted cycle later promoted)
    (keeps : KeepsClosed old cycle) where
  -- a young cell that stays is kept
  young_stays : (at now : ℕ) → eden_start old.space ≤ at → to at ≡ Some now → IsKept new later.born now
  young_stays at now young stays = elim (promotes.young at now young stays) [
    | inl still ↦ young_is_kept new later.born now (young_in_new promotes joins now still)
    | inr came ↦ born_is_kept new later.born now (joins.born.new now came)
  ]

  -- and so is each that was and stays
  kept_on : (at now : ℕ) → IsKept old cycle.born at → to at ≡ Some now → IsKept new later.born now
  kept_on at now kept stays = elim (cases_lt at (eden_start old.space)) [
    | inr young ↦ young_stays at now young stays
    | inl below ↦ elim (kept_cases old cycle.born at kept) [
      | inl young ↦ absurd (omega (arith, below, young))
      | inr counts ↦
          born_is_kept new later.born now
          (subst (Contains later.born) (sym (promotes.in_place at now below stays)) (joins.born.kept at counts))
    ]
  ]

  -- what root words refer to is kept
  roots_then : (at : ℕ) → IsRootTarget new at → IsKept new later.born at
  roots_then at target =
      let within = subst (λ (space : Space). target.variable < space.variables) promotes.moved.space target.within in
      let refers : slice_get new.words (root_at old.space target.variable) ≡ Some (reference_word at) =
      subst (λ (space : Space). slice_get new.words (root_at space target.variable) ≡ Some (reference_word at))
      promotes.moved.space target.refers in
      let root = whole.roots target.variable within in
      let word = (promotes.moved.roots target.variable within).first (first_word root.held) (reference_word at)
      root.holds.first refers in
      let from = was_referred at word refl in
      kept_on from.at at (keeps.roots from.at (record {
        variable = target.variable;
        within = within;
        refers = root.holds.first ∙ ap (λ n. Some n) from.refers;
      })) from.stays

  -- what a slot of a kept cell refers to is kept
  slots_then : (from at : ℕ) → IsKept new later.born from → HasSlotTo new from at → IsKept new later.born at
  slots_then from at kept slot =
      let cell : Cell = slot.cell in
      let of = origin promotes.moved slot.has (slot_is_used slot) in
      let was : Cell = of.was in
      let visited : Contains (tagged_offsets was.layout was.length) slot.offset =
      subst (λ (one : Cell). Contains (tagged_offsets one.layout one.length) slot.offset) (sym of.same) slot.visited in
      let before = other_word of.words slot.words slot.offset (reference_word at) of.are.long slot.holds in
      let word = of.are.slots slot.offset before.0 (reference_word at)
      (marking_slots was.layout.kind was.layout was.length slot.offset visited) before.1 slot.holds in
      let came = was_referred at word refl in
      let kept_was = kept_back promotes joins cell.at of.had of.stays
      (subst (IsKept new later.born) (sym slot.stands) kept) in
      kept_on came.at at (keeps.closed.slots was.at came.at kept_was (record {
        cell = was;
        words = of.words;
        has = of.had;
        stands = refl;
        offset = slot.offset;
        visited = visited;
        holds = before.1 ∙ ap (λ n. Some n) came.refers;
      })) came.stays

  -- the value of a pair is, where its table and its key were kept and it stays
  value_kept : (table key at now_key now : ℕ) → HasEntry old table key at → IsKept old cycle.born table
      → to key ≡ Some now_key → to at ≡ Some now → IsKept new later.born now_key → IsKept new later.born now
  value_kept table key at now_key now entry kept stays_key stays key_kept =
      let there = cell_there (key_target whole entry) in
      let key_was = kept_back promotes joins now_key there.has (ap to there.stands ∙ stays_key) key_kept in
      kept_on at now (keeps.closed.entries table key at kept
      (subst (IsKept old cycle.born) there.stands key_was) entry) stays

  -- and so is the value of a pair whose table and key are kept
  entries_then : (table key at : ℕ) → IsKept new later.born table → IsKept new later.born key
      → HasEntry new table key at → IsKept new later.born at
  entries_then table key at kept key_kept entry =
      let cell : Cell = entry.cell in
      let of = origin promotes.moved entry.has (entry_is_used entry) in
      let was : Cell = of.was in
      let of_table : was.layout.kind ≡ kind.Table = ap (λ (one : Cell). one.layout.kind) of.same ∙ entry.of_kind in
      let pairs : List Pair = pairs_in (drop store_head of.words) in
      let moved = pairs_moved (drop store_head of.words) (drop store_head entry.words)
      (slots_moved kind.Table (2 * was.length) of.had of_table refl refl of.are) in
      let within : entry.place < length pairs = omega (
        arith,
        slice_get_within (pairs_in (drop store_head entry.words)) entry.place entry.pair entry.among,
        moved.long,
      ) in
      let pair : Pair = get_or pairs entry.place free_pair in
      let there : slice_get pairs entry.place ≡ Some pair = slice_get-get_or pairs entry.place free_pair within in
      let words = moved.each entry.place pair entry.pair there entry.among in
      let came_key = was_referred key words.0 entry.key_is in
      let came = was_referred at words.1 entry.value_is in
      let was_entry : HasEntry old was.at came_key.at came.at = record {
        cell = was;
        words = of.words;
        has = of.had;
        stands = refl;
        of_kind = of_table;
        place = entry.place;
        pair = pair;
        among = there;
        key_is = came_key.refers;
        value_is = came.refers;
      } in
      let table_was = kept_back promotes joins cell.at of.had of.stays
      (subst (IsKept new later.born) (sym entry.stands) kept) in
      value_kept was.at came_key.at came.at key at was_entry table_was came_key.stays came.stays key_kept

  -- each object whose cell is kept has a born number
  numbers_then : (number at : ℕ) → IsPlace new number at → IsKept new later.born at
      → IsBornObject later.reached later.made number
  numbers_then number at place kept =
      let before = place_before promotes.moved place in
      let stays : to before.place.cell.at ≡ Some at = ap to before.place.stands ∙ before.stays in
      let kept_was = kept_back promotes joins at before.place.has stays kept in
      let is = keeps.numbers number before.at before.place
      (subst (IsKept old cycle.born) before.place.stands kept_was) in
      subst (λ all. IsBornObject all later.made number) (sym joins.reached)
      (subst (λ n. IsBornObject cycle.reached n number) (sym joins.counted) is)

-- so what is kept stays closed
pub scavenges_keep_closed : ScavengesKeepClosed
scavenges_keep_closed old new to promoted cycle later whole promotes joins keeps = record {
  roots = roots_then whole promotes joins keeps;
  closed = record {
    slots = slots_then whole promotes joins keeps;
    entries = entries_then whole promotes joins keeps;
  };
  numbers = numbers_then whole promotes joins keeps;
}

-- a used cell of a page that stays is one
used_stays : {old new : Heap} {to : ℕ → Option ℕ} (at : ℕ) → IsMoved old new to → IsUsedPageCell old at
    → to at ≡ Some at → IsUsedPageCell new at
used_stays {to = to} at moved there stays =
    let stood = moved.stands there.cell there.words at there.has (ap to there.stands ∙ stays) in record {
      cell = moved_to there.cell at;
      words = stood.others;
      has = stood.has;
      stands = refl;
      of_page = subst (λ (space : Space). at < eden_start space) (sym moved.space) there.of_page;
      used = there.used;
    }

-- so is any
cell_stays : {old new : Heap} {to : ℕ → Option ℕ} (at : ℕ) → IsMoved old new to → IsPageCell old at
    → to at ≡ Some at → IsPageCell new at
cell_stays {to = to} at moved there stays =
    let stood = moved.stands there.cell there.words at there.has (ap to there.stands ∙ stays) in record {
      cell = moved_to there.cell at;
      words = stood.others;
      has = stood.has;
      stands = refl;
      of_page = subst (λ (space : Space). at < eden_start space) (sym moved.space) there.of_page;
      part = there.part;
    }

-- and a promoted one
promoted_cell : {old new : Heap} {to : ℕ → Option ℕ} {promoted : List ℕ} (at : ℕ) → PromotesTo old new to promoted
    → Contains promoted at → IsPageCell new at
promoted_cell at promotes there =
    let one = promotes.each at there in
    let stood = promotes.moved.stands one.cell one.words at one.has one.came in record {
      cell = moved_to one.cell at;
      words = stood.others;
      has = stood.has;
      stands = refl;
      of_page = subst (λ (space : Space). at < eden_start space) (sym promotes.moved.space) one.of_page;
      part = λ free. absurd (one.used free);
    }

-- the cells of the lists stand
pub scavenges_keep_cells : ScavengesKeepCells
scavenges_keep_cells old new to promoted cycle later promotes joins rests free_stays mine_stays = (
  λ start free.
      let parts = and_parts (is_in later.starts start) (not (is_in later.mine start)) free in
      let not_mine = not-true (is_in later.mine start) parts.1 in
      let out : Contains later.mine start → ⊥ = λ mine. false≢true (sym not_mine ∙ found_in later.mine start mine) in
      elim (joins.starts.from start (in_found later.starts start parts.0)) [
        | inr came ↦ absurd (out (joins.mine.new start came))
        | inl before ↦ elim (decided (is_in cycle.mine start)) [
          | inl mine ↦ absurd (out (joins.mine.kept start (in_found cycle.mine start mine)))
          | inr other ↦
              let was_free : IsTrue (is_free (main_of cycle) start) =
              and_from (is_in cycle.starts start) (not (is_in cycle.mine start)) (found_in cycle.starts start before)
              (not_from_false (is_in cycle.mine start) other) in
              used_stays start promotes.moved (rests.free start was_free) (free_stays start was_free)
        ]
      ],
  all_from (IsPageCell new) later.mine (λ at there. elim (joins.mine.from at there) [
    | inl before ↦
        cell_stays at promotes.moved (All-contains (IsPageCell old) cycle.mine at rests.mine before)
        (All-contains (λ n. to n ≡ Some n) cycle.mine at mine_stays before)
    | inr came ↦ promoted_cell at promotes came
  ]),
)
