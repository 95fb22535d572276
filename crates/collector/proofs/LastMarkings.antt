-- A last marking that starts at kept cells marks born objects alone, and no word that was dead as the cycle opened.
use Rattle.std.proofs.Common.{ℕ, ◌<◌, inl, inr, Contains, sym, ◌∙◌, subst}
use Rattle.std.proofs.Common.{arith}
use Rattle.std.proofs.lemmas.Bool.{false≢true}
use Rattle.page_space.specs.Extents.{Space, eden_start}
use Rattle.cycle_state.proofs.PageCells.{page_cell_within}
use Rattle.cycle_laws.specs.LostWords.{IsLostWord}
use Rattle.cycle_laws.proofs.DeadWords.{live_has_no_dead_word}
use Rattle.cycle_laws.proofs.ReachedKept.{live_is_kept}
use Rattle.collector.specs.Born.{Opening, WasDead}
use Rattle.collector.specs.LastSweep.{LastMarkingsAreBorn}

-- a word that was dead is lost
dead_is_lost : (opening : Opening) (at : ℕ) → WasDead opening at → IsLostWord opening.heap opening.graph at
dead_is_lost opening at was = record {
  cell = was.cell;
  words = was.words;
  has = was.has;
  of_cell = was.of_cell;
  used = λ free. false≢true (sym was.holds.0 ∙ free);
  lost = was.holds.1;
}

-- both hold of the last marking
pub last_markings_are_born : LastMarkingsAreBorn
last_markings_are_born opening old new cycle given marking graph space opened keeps none starts marked = (
  (λ number at place among.
      let kept = live_is_kept old cycle given at keeps starts ((marked.live at).0 among) in
      elim (keeps.numbers number at place kept) [
        | inl reached ↦
            inl ((opened.opens.reached number).0 (subst (λ all. Contains all number) opened.reached reached))
        | inr made ↦ inr (omega (arith, made, opened.counted, opened.opens.counted))
      ]),
  (λ cell words at has used of_page among lost word was.
      let within = page_cell_within has of_page in
      let below : at < eden_start old.space = omega (arith, within, word.below) in
      let there = subst (λ (one : Space). at < eden_start one) space below in
      live_has_no_dead_word old cycle given cell words at keeps starts none has
      (λ free. false≢true (sym used ∙ free)) of_page ((marked.live cell.at).0 among) word
      (subst (λ all. Contains all at) (sym opened.dead)
      (opened.opens.dead.all at there (dead_is_lost opening at was)))),
)
