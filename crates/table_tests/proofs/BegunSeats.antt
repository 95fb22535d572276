-- What a cycle with three cells is after the mutator's steps.
use Rattle.std.proofs.Common.{◌≡◌, ◌<◌, inl, inr, ℕ, false, List, [], ◌∷◌, Contains}
use Rattle.std.proofs.Common.{Option, Some, None, nat_le, refl, sym, ap, subst, ◌∙◌, arith}
use Rattle.std.proofs.lemmas.Bool.Decides.{nat_tests}
use Rattle.tagged_word.specs.declared.reading.Reading.{Reading}
use Rattle.tagged_word.proofs.Members.{in_cases, one_in}
use Rattle.page_space.specs.Extents.{Space, eden_start}
use Rattle.cell_layout.specs.Cells.{layouts_in}
use Rattle.mark_laws.specs.Types.{MainView}
use Rattle.mark_laws.proofs.Stores.{free_is}
use Rattle.mark_world.specs.Cycles.{Cycle}
use Rattle.mark_world.specs.Pages.{EachFree, cell_at, is_head_of}
use Rattle.heap_table.specs.Seats.{Seat}
use Rattle.mark_barrier.specs.Paid.{IsPaid, StepsTo}
use Rattle.mark_barrier.specs.Waiting.{Waiting}
use Rattle.table_tests.specs.BegunSeats.{IsMarking}
use Rattle.table_tests.specs.CellPages.{three_starts}

-- the cycle still is the one of the three cells
pub marking_on : (seat new : Seat) (grey now : Waiting) (words : List ℕ) (cycle : Cycle) → IsMarking seat grey
    → StepsTo seat new words cycle → cycle.starts ≡ three_starts → cycle.born ≡ three_starts
    → layouts_in seat.space words ≡ layouts_in seat.space seat.table → IsPaid new now → IsMarking new now
marking_on seat new grey now words cycle marking steps starts born same paid = record {
  mark = steps.moves.phase ∙ marking.mark;
  page = ap (λ (s : Space). eden_start s) steps.moves.space ∙ marking.page;
  home = steps.moves.home ∙ marking.home;
  starts = ap (λ (c : Cycle). c.starts) steps.moves.cycle ∙ starts;
  born = ap (λ (c : Cycle). c.born) steps.moves.cycle ∙ born;
  layouts =
      ap (λ (s : Space). layouts_in s new.table) steps.moves.space
      ∙ ap (λ (ws : List ℕ). layouts_in seat.space ws) steps.moves.table
      ∙ same ∙ marking.layouts ∙ sym steps.moves.layouts;
  paid = paid;
}

-- a word before a cell is no head of it
head_behind : (start at : ℕ) (o : Option Reading) → at < start → is_head_of start o at ≡ false
head_behind start at None before = refl
head_behind start at (Some cell) before = let test : nat_le start at ≡ false = grind (arith, nat_tests) in rw test refl

-- no free start but the first has a head before 1,024
pub no_heads : (old : ℕ) (words layouts : List ℕ) (main : MainView) (at : ℕ) → main.starts ≡ three_starts
    → Contains main.mine 0 → at < 1024
    → EachFree main (λ start. is_head_of start (cell_at old words layouts start) at ≡ false)
no_heads old words layouts main at starts mine before start free =
    let is = free_is main start free in
    elim (in_cases 0 (1024 ∷ 1027 ∷ []) start (subst (λ (xs : List ℕ). Contains xs start) starts is.0)) [
      | inl first ↦ absurd (is.1 (subst (Contains main.mine) first mine))
      | inr later ↦ elim (in_cases 1024 (1027 ∷ []) start later) [
        | inl second ↦ head_behind start at (cell_at old words layouts start) (omega (arith, second, before))
        | inr last ↦ head_behind start at (cell_at old words layouts start)
            (let third = one_in 1027 start last in omega (arith, third, before))
      ]
    ]
