-- What a trim leaves of the lists of an open cycle.
use Rattle.std.proofs.Common.{◌≡◌, ℕ, ◌<◌, ◌≤◌, ◌⊎◌, inl, inr, true, false, Bool, ◌||◌, nat_le, List, [], ◌∷◌, Contains}
use Rattle.std.proofs.Common.{IsTrue, refl, sym, ◌∙◌, ap, subst, arith}
use Rattle.std.proofs.lemmas.Bool.{cases_eq, cases_lt}
use Rattle.std.proofs.lemmas.Bool.Decides.{nat_tests}
use Rattle.std.proofs.lemmas.List.Elements.{All-contains}
use Rattle.tagged_word.specs.Cells.{is_free_kind}
use Rattle.tagged_word.proofs.Members.{in_cases, one_in}
use Rattle.page_space.specs.Extents.{Space, eden_start}
use Rattle.core_parts.specs.Lists.{is_in}
use Rattle.core_parts.proofs.Joining.{found_in}
use Rattle.heap_model.specs.Types.{Value, Cell}
use Rattle.heap_model.specs.Heaps.{Heap, words_of_cell}
use Rattle.heap_model.specs.Changes.{IsNewPlace}
use Rattle.heap_model.proofs.BoundHeaps.{none_in}
use Rattle.mark_world.specs.Cycles.{Cycle}
use Rattle.mark_laws.proofs.Stores.{free_is, free_made}
use Rattle.cycle_state.specs.Cycles.{main_of}
use Rattle.cycle_state.specs.Keeping.{IsKept, is_kept}
use Rattle.cycle_state.specs.Resting.{Rests, IsUsedPageCell, IsPageCell}
use Rattle.cycle_laws.specs.Changes.{JoinsNewCells}
use Rattle.cycle_laws.specs.RestsAgain.{DidNotGo, KeepsLists}
use Rattle.array_trim.proofs.TrimmedCells.{Trimming, list_now, store_now}
use Rattle.array_trim.proofs.TrimmedPieces.{which, piece_has, first_piece, free_first, store_before, place_new}
use Rattle.array_trim.proofs.TrimmedPieces.{stood_there}
use Rattle.array_trim.proofs.TrimmedPieces.{list_no_filler, store_no_filler, free_is_free}

-- a test that holds on the right
or_right : (a b : Bool) → b ≡ true → IsTrue (a || b)
or_right true b t = refl
or_right false b t = t

-- a cell that is born is kept, and so is a young one
kept_by_born : (space : Space) (born : List ℕ) (at : ℕ) → is_in born at ≡ true → IsTrue (is_kept space born at)
kept_by_born space born at there = or_right (nat_le (eden_start space) at) (is_in born at) there

kept_by_age : (space : Space) (born : List ℕ) (at : ℕ) → eden_start space ≤ at → IsTrue (is_kept space born at)
kept_by_age space born at young =
    let test : nat_le (eden_start space) at ≡ true = grind (arith, nat_tests) in
    ap (λ t. t || is_in born at) test

-- no cell but those that begin later is published, and none but the old store and these was made black
pub record TrimsLists (heap : Heap) (cycle later : Cycle) (store came : Cell) : Type 0 where
  pub reached : later.reached ≡ cycle.reached
  pub counted : later.made ≡ cycle.made
  pub dead : later.dead ≡ cycle.dead
  pub born_stays : (at : ℕ) → Contains cycle.born at → Contains later.born at
  pub born_from : (at : ℕ) → Contains later.born at → Contains cycle.born at ⊎ ((at ≡ came.at) × (store.at < came.at))
  pub born_now : store.at < came.at → came.at < eden_start heap.space → Contains later.born came.at
  pub starts_from : (at : ℕ) → Contains later.starts at → Contains cycle.starts at ⊎ Contains later.mine at
  pub mine_stays : (at : ℕ) → Contains cycle.mine at → Contains later.mine at
  pub mine_from : (at : ℕ) → Contains later.mine at
      → Contains cycle.mine at ⊎ (((at ≡ store.at) ⊎ (at ≡ came.at)) × (at < eden_start heap.space))
  pub store_mine : store.at < eden_start heap.space → Contains later.mine store.at

module _ {old new : Heap} {cell store came : Cell} {pieces : List Cell} {before after : List Value} {from : ℕ}
    (trim : Trimming old new cell store came pieces before after from) where
  -- what is born or young is kept
  born_kept : (born : List ℕ) {at : ℕ} → Contains born at → IsKept new born at
  born_kept born {at} there = kept_by_born new.space born at (found_in born at there)

  young_kept : (born : List ℕ) {at : ℕ} → eden_start old.space ≤ at → IsKept new born at
  young_kept born {at} young =
      kept_by_age new.space born at (subst (λ (s : Space). eden_start s ≤ at) (sym trim.same_space) young)

  module _ {cycle later : Cycle} (rests : Rests old cycle) (lists : TrimsLists old cycle later store came) where
    -- the store is kept where it begins
    came_kept : IsNewPlace old came.at → IsKept new later.born came.at
    came_kept is_new = elim (cases_lt store.at came.at) [
      | inr same ↦
          absurd (stood_there trim is_new (omega (arith, same, store_before trim))
          trim.refers.has (store_no_filler trim))
      | inl begins ↦ elim (cases_lt came.at (eden_start old.space)) [
        | inl page ↦ born_kept later.born (lists.born_now begins page)
        | inr young ↦ young_kept later.born young
      ]
    ]

    -- new cells have joined the cycle's lists
    pub trim_joins : JoinsNewCells old new cycle later (cell ∷ pieces) []
    trim_joins = record {
      reached = lists.reached;
      counted = lists.counted;
      dead = lists.dead;
      stays = lists.born_stays;
      joined = λ at there. elim (lists.born_from at there) [
        | inl was ↦ inl was
        | inr now ↦ inr (subst (IsNewPlace old) (sym now.0) (place_new trim now.1))
      ];
      new_born = λ one there used is_new. elim (which trim one there) [
        | inl same ↦
            absurd (stood_there trim is_new (ap (λ (c : Cell). c.at) same) trim.has (list_no_filler trim))
        | inr (inl same) ↦ subst (λ (c : Cell). IsKept new later.born c.at) same
            (came_kept (subst (λ (c : Cell). IsNewPlace old c.at) (sym same) is_new))
        | inr (inr free) ↦ absurd (used (free_is_free free.of_kind))
      ];
      young = λ one there. absurd (none_in one there);
    }

    -- an address of a page is one of the new heap's
    page_now : {at : ℕ} → at < eden_start old.space → at < eden_start new.space
    page_now {at} below = subst (λ (s : Space). at < eden_start s) (sym trim.same_space) below

    -- a used cell of a page stands where the list's does
    list_page : {at : ℕ} → cell.at ≡ at → at < eden_start old.space → IsUsedPageCell new at
    list_page same page = record {
      cell = cell;
      words = words_of_cell new cell;
      has = list_now trim;
      stands = same;
      of_page = page_now page;
      used = λ free. let none : true ≡ false = sym free ∙ ap is_free_kind trim.shown.of_kind in cc;
    }

    -- a cell of a page that is no free cell of a whole page
    used_part : {at : ℕ} → IsUsedPageCell new at → IsPageCell new at
    used_part there = record {
      cell = there.cell;
      words = there.words;
      has = there.has;
      stands = there.stands;
      of_page = there.of_page;
      part = λ free. absurd (there.used free);
    }

    -- so it is where the store that came begins
    came_page : {at : ℕ} → came.at ≡ at → at < eden_start old.space → IsPageCell new at
    came_page same page = record {
      cell = came;
      words = words_of_cell new came;
      has = store_now trim;
      stands = same;
      of_page = page_now page;
      part = λ free. let none : true ≡ false = sym free ∙ ap is_free_kind trim.still_store in cc;
    }

    -- and where the one that went began
    store_page : {at : ℕ} → store.at ≡ at → at < eden_start old.space → IsPageCell new at
    store_page same page = elim (cases_lt store.at came.at) [
      | inr none ↦ came_page (omega (arith, none, same, store_before trim)) page
      | inl begins ↦
          let piece = first_piece trim pieces trim.row in record {
            cell = piece.0;
            words = words_of_cell new piece.0;
            has = piece_has trim piece.0 piece.1;
            stands = piece.2 ∙ same;
            of_page = page_now page;
            part = λ free. free_first trim piece.0 piece.1 piece.2 begins;
          }
    ]

    -- what went stood at neither of two addresses
    did_not_go : {at : ℕ} → (cell.at ≡ at → ⊥) → (store.at ≡ at → ⊥) → DidNotGo (cell ∷ store ∷ []) at
    did_not_go not_list not_store one there same = elim (in_cases cell (store ∷ []) one there) [
      | inl of_list ↦ not_list (ap (λ (c : Cell). c.at) of_list ∙ same)
      | inr rest ↦ not_store (ap (λ (c : Cell). c.at) (one_in store one rest) ∙ same)
    ]

    -- each that was made black is of a page
    mine_page : (at : ℕ) → Contains later.mine at → at < eden_start old.space
    mine_page at there = elim (lists.mine_from at there) [
      | inl was ↦ (All-contains (IsPageCell old) cycle.mine at rests.mine was).of_page
      | inr now ↦ now.1
    ]

    -- the lists keep what did not go, and have cells that stand
    pub trim_lists : KeepsLists new cycle later (cell ∷ store ∷ [])
    trim_lists = record {
      free = λ at is. let parts = free_is (main_of later) at is in elim (lists.starts_from at parts.0) [
        | inr mine ↦ absurd (parts.1 mine)
        | inl start ↦
            let was = free_made (main_of cycle) at start (λ mine. parts.1 (lists.mine_stays at mine)) in
            let page = (rests.free at was).of_page in elim (cases_eq cell.at at) [
              | inl same ↦ inr (list_page same page)
              | inr not_list ↦ inl (
                was,
                did_not_go not_list (λ same. parts.1 (subst (Contains later.mine) same
                    (lists.store_mine (subst (λ n. n < eden_start old.space) (sym same) page)))),
              )
            ]
      ];
      mine = λ at there. elim (cases_eq store.at at) [
        | inl same ↦ inr (store_page same (mine_page at there))
        | inr not_store ↦ elim (cases_eq cell.at at) [
          | inl same ↦ inr (used_part (list_page same (mine_page at there)))
          | inr not_list ↦ elim (lists.mine_from at there) [
            | inl was ↦ inl (was, did_not_go not_list not_store)
            | inr (inl same, page) ↦ absurd (not_store (sym same))
            | inr (inr same, page) ↦ inr (came_page (sym same) page)
          ]
        ]
      ];
    }
