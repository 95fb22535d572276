-- No free run has the address of a cell that the mutator made black itself.
use Rattle.std.proofs.Common.{◌≡◌, ℕ, inl, inr, Option, List, [], ◌∷◌, Contains, IsTrue, subst, arith}
use Rattle.tagged_word.specs.Cells.{is_free_kind}
use Rattle.tagged_word.proofs.Members.{first_in, one_in}
use Rattle.heap_model.specs.Types.{Cell}
use Rattle.heap_model.specs.Heaps.{Heap}
use Rattle.heap_model.proofs.CellsApart.{first_of_cell}
use Rattle.heap_moves.specs.Moved.{moved_to}
use Rattle.cycle_laws.specs.OwnCells.{IsUsedWord, RunsHaveNoUsedWord, OpensWithNoOwnCell, ChangesAvoidOwnCells}
use Rattle.cycle_laws.specs.OwnCells.{ScavengesAvoidOwnCells}
use Rattle.cycle_laws.specs.Scavenges.{PromotesTo}
use Rattle.cycle_laws.proofs.DeadWords.{free_cell_of, one_of_word}

-- no free run has a word of a cell that is not free
pub runs_have_no_used_word : RunsHaveNoUsedWord
runs_have_no_used_word heap rows used whole are each at word among =
    let one = each at among in
    let free = free_cell_of are word in
    let same : free.cell ≡ one.cell = one_of_word whole.rows free.has one.has free.of_cell one.of_cell in
    one.used (subst (λ (it : Cell). IsTrue (is_free_kind it.layout.kind)) same free.free)

-- there is none as a cycle opens
pub opens_with_no_own_cell : OpensWithNoOwnCell
opens_with_no_own_cell heap rows graph cycle opens at word among =
    let there : Contains [] at = subst (λ all. Contains all at) opens.mine among in
    omega (arith, there.1)

-- commands
pub changes_avoid_own_cells : ChangesAvoidOwnCells
changes_avoid_own_cells old before after cycle later whole are each grows none at word among =
    elim (each at among) [
      | inl was ↦ none at (grows at word) was
      | inr used ↦
          runs_have_no_used_word old before (at ∷ []) whole are
          (λ other there. subst (IsUsedWord old) (one_in at other there) used) at (grows at word) (first_in at [])
    ]

-- a promoted cell is not free where it came
promoted_word : {old new : Heap} {to : ℕ → Option ℕ} {promoted : List ℕ} → PromotesTo old new to promoted → (at : ℕ)
    → Contains promoted at → IsUsedWord new at
promoted_word {new = new} {to} promotes at there =
    let one = promotes.each at there in
    let stands = promotes.moved.stands one.cell one.words at one.has one.came in
    record {
      cell = moved_to one.cell at;
      words = stands.others;
      has = stands.has;
      of_cell = record { from = omega arith; below = (first_of_cell stands.has).below };
      used = one.used;
    }

-- scavenges
pub scavenges_avoid_own_cells : ScavengesAvoidOwnCells
scavenges_avoid_own_cells old new to promoted before after cycle later whole promotes into joins are none at word among
    =
    elim (joins.mine.from at among) [
      | inl was ↦ none at (into.left at word) was
      | inr came ↦
          runs_have_no_used_word new after promoted whole are (promoted_word promotes) at word came
    ]
