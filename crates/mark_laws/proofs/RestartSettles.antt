-- After a scavenge the mutator's part is done but for the promoted cells.
use Rattle.std.proofs.Common.{ℕ, ◌+◌, ◌≤◌, ◌≡◌, ◌∙◌, ◌⊎◌, inl, inr, true, List, [], ◌∷◌, ◌++◌, Contains}
use Rattle.std.proofs.Common.{length, min, slice_index, Option, Some, sym, subst, arith}
use Rattle.std.proofs.lemmas.Bool.Decides.{nat_tests}
use Rattle.std.proofs.lemmas.List.Elements.{All-contains, All-head, All-tail}
use Rattle.std.proofs.lemmas.List.Elements.{Contains-append_left, Contains-append_right}
use Rattle.mark_laws.specs.Types.{Reading, MainView, World}
use Rattle.tagged_word.specs.Cells.{has_length, length_offset}
use Rattle.tagged_word.proofs.CellReadings.{cell_from}
use Rattle.mark_world.specs.Pages.{OfTarget, is_head_of, page_end, target}
use Rattle.mark_world.specs.Coverage.{cell_of}
use Rattle.mark_world.specs.BetweenCommands.{HasSureTarget}
use Rattle.mark_world.specs.Unfinished.{ReadsSlots, SettledBut}
use Rattle.mark_laws.specs.Restarts.{IsRestarted, KeepsCell, KeepsDone, RestartsStaySettled}
use Rattle.mark_laws.specs.Settling.{AllDoneLeave}
use Rattle.mark_laws.proofs.Alike.{read_alike}
use Rattle.mark_laws.proofs.Joins.{all_from, of_slot}
use Rattle.mark_laws.proofs.Listing.{some_weaker}
use Rattle.mark_laws.proofs.Reading.{size_one, size_two}
use Rattle.mark_laws.proofs.RestartedCells.{there_as}
use Rattle.mark_laws.proofs.Restarted.{renewed}
use Rattle.mark_laws.proofs.Settled.{done_leaves}
use Rattle.mark_laws.proofs.Settling.{reads_slots}
use Rattle.mark_laws.proofs.Starts.{value_of}

-- the header of a cell is a head of it
header_is_head : (start : ℕ) (cell : Reading) → 1 ≤ cell.size → is_head_of start (Some cell) start ≡ true
header_is_head start cell one = grind (arith, nat_tests)

-- so is its length, where it has one
length_is_head : (start : ℕ) (cell : Reading) → has_length cell.layout.kind ≡ true → 2 ≤ cell.size
    → is_head_of start (Some cell) (start + length_offset) ≡ true
length_is_head start cell long two = grind (arith, nat_tests)

-- a cell whose heads are as before reads as before
kept_cell : (world : World) (words : List ℕ) (at : ℕ) (cell : Reading) → cell_of world at ≡ Some cell
    → length words ≡ length world.words
    → ((place : ℕ) → is_head_of at (cell_of world at) place ≡ true
    → slice_index words place ≡ slice_index world.words place)
    → cell_of (record world { words = words }) at ≡ Some cell
kept_cell world words at cell e count heads =
    let bound : ℕ = min world.old (page_end at) in
    let there : at + cell.size ≤ length world.words = (cell_from world.words world.layouts at bound cell e).there in
    let one = size_one world.words world.layouts at bound cell e in
    let as_before : (place : ℕ) → is_head_of at (Some cell) place ≡ true
    → slice_index words place ≡ slice_index world.words place =
    subst (λ (c : Option Reading). (place : ℕ) → is_head_of at c place ≡ true
    → slice_index words place ≡ slice_index world.words place) e heads in
    read_alike world.words words world.layouts at bound cell e
    (there_as world.words words at (omega (arith, there, one)) count
    (as_before at (header_is_head at cell one)))
    (λ long.
    let two = size_two world.words world.layouts at bound cell e long in
    there_as world.words words (at + length_offset) (omega (arith, there, two)) count
    (as_before (at + length_offset) (length_is_head at cell long two)))
    (omega (arith, there, count))

-- a sure target stays sure
sure_target : (world : World) (words colours : List ℕ) (main : MainView) (word now : ℕ)
    → ((to : ℕ) → Contains world.main.sure to → Contains main.sure to) → now ≡ word → HasSureTarget world word
    → HasSureTarget (renewed world words colours main) now
sure_target world words colours main word now keeps same has =
    subst (HasSureTarget (renewed world words colours main)) (sym same)
    (some_weaker (Contains world.main.sure) (Contains main.sure) (target world.old word) keeps has)

-- a cell that the scavenge keeps is read, and has sure targets
kept_reads : (world : World) (promoted words colours : List ℕ) (main : MainView) (at : ℕ)
    → IsRestarted world promoted (renewed world words colours main)
    → KeepsCell world promoted (renewed world words colours main) at
    → ReadsSlots world (HasSureTarget world) at
    → ReadsSlots (renewed world words colours main) (HasSureTarget (renewed world words colours main)) at
kept_reads world promoted words colours main at is keeps has =
    let later : World = renewed world words colours main in
    let v = value_of (cell_of world at) has.reads in
    reads_slots later (HasSureTarget later) at v.0 (kept_cell world words at v.0 v.1 is.count keeps.heads)
    (λ offset c. elim (of_slot world at offset v.0 (λ o word. (slice_index words (at + o) ≡ word)
    ⊎ OfTarget world.old (slice_index words (at + o)) (Contains promoted)) v.1 c keeps.slots) [
      | inl same ↦ sure_target world words colours main (slice_index world.words (at + offset))
          (slice_index words (at + offset)) is.sure.kept same
          (of_slot world at offset v.0 (λ o. HasSureTarget world) v.1 c has.slots)
      | inr into ↦ some_weaker (Contains promoted) (Contains main.sure)
          (target world.old (slice_index words (at + offset))) is.sure.new into
    ])

-- the mutator's part is done but for the promoted cells, in the world with these words, colours and view
renewed_settled : (world : World) (made promoted words colours : List ℕ) (main : MainView) → SettledBut world made
    → IsRestarted world promoted (renewed world words colours main)
    → KeepsDone world made promoted (renewed world words colours main)
    → SettledBut (renewed world words colours main) (promoted ++ made)
renewed_settled world made promoted words colours main done is keeps =
    let later : World = renewed world words colours main in
    record {
      owed = is.owed ∙ done.owed;
      sure = all_from (λ at. Contains (promoted ++ made) at ⊎ ReadsSlots later (HasSureTarget later) at) main.mine
          (λ at c. elim (is.mine.from at c) [
            | inl had ↦ elim (All-contains (λ (a : ℕ). Contains made a ⊎ KeepsCell world promoted later a)
                world.main.mine at keeps had) [
                  | inl is_made ↦ inl (Contains-append_right promoted made at is_made)
                  | inr kept ↦ elim (All-contains (λ (a : ℕ). Contains made a
                      ⊎ ReadsSlots world (HasSureTarget world) a) world.main.mine at done.sure had) [
                        | inl is_made ↦ inl (Contains-append_right promoted made at is_made)
                        | inr holds ↦ inr (kept_reads world promoted words colours main at is kept holds)
                      ]
                ]
            | inr new ↦ inl (Contains-append_left promoted made at new)
          ]);
    }

-- so it is after a scavenge that keeps the cells that it was done with
pub restarts_stay_settled : RestartsStaySettled
restarts_stay_settled world made promoted later done is keeps =
    subst (λ (w : World). SettledBut w (promoted ++ made)) (sym is.rest)
    (renewed_settled world made promoted later.words later.colours later.main done
    (subst (IsRestarted world promoted) is.rest is) (subst (KeepsDone world made promoted) is.rest keeps))

-- cells leave those that are made once each is read and its targets are sure
pub all_done_leave : AllDoneLeave
all_done_leave world [] made holds done = done
all_done_leave world (at ∷ rest) made holds done =
    all_done_leave world rest made (All-tail (ReadsSlots world (HasSureTarget world)) at rest holds)
    (done_leaves world at (rest ++ made) (All-head (ReadsSlots world (HasSureTarget world)) at rest holds) done)
