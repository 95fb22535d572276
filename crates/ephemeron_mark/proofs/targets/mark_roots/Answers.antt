-- The first root words are gone through by the numbers of their variables.
use Rattle.std.proofs.Common.{ℕ, sym, subst, arith}
use Rattle.live_cells.specs.Live.{IsLive, IsStart}
use Rattle.write_barrier.specs.MutatorState.{heap_of}
use Rattle.ephemeron_mark.specs.Progress.{HoldsReference}
use Rattle.ephemeron_mark.proofs.GrownLists.{grows_nothing, grows_again}
use Rattle.ephemeron_mark.proofs.CellSlots.{root_word, next_root}
use Rattle.ephemeron_mark.proofs.targets.mark_roots.Goals as goal

pub loop-variable-init : goal.loop-variable-init
loop-variable-init c = record {
  grown = grows_nothing c.requires.marking;
  targets = λ variable at below refers. absurd (omega (arith, below));
}

pub mark_target-requires-clause-within : goal.mark_target-requires-clause-within
mark_target-requires-clause-within c =
    (root_word c.regions-regions.result c.args.main.now.seat.space c.loop-variable.variable
    c.variables-variable-end.result c.root_at.result c.regions-regions.ensures.regions
    c.variables-variable-end.ensures c.loop-variable-test.true c.root_at.ensures.at).below

pub mark_target-requires-clause-live : goal.mark_target-requires-clause-live
mark_target-requires-clause-live c at refers =
    let root = root_word c.regions-regions.result c.args.main.now.seat.space c.loop-variable.variable
    c.variables-variable-end.result c.root_at.result c.regions-regions.ensures.regions
    c.variables-variable-end.ensures c.loop-variable-test.true c.root_at.ensures.at in
    IsLive.start at (IsStart.root (record {
      variable = c.loop-variable.variable;
      within = root.known;
      refers = subst (λ (one : ℕ). HoldsReference (heap_of c.args.main.now) one at) root.is refers;
    }))

pub loop-variable-preserved : goal.loop-variable-preserved
loop-variable-preserved c =
    let root = root_word c.regions-regions.result c.args.main.now.seat.space c.loop-variable.variable
    c.variables-variable-end.result c.root_at.result c.regions-regions.ensures.regions
    c.variables-variable-end.ensures c.loop-variable-test.true c.root_at.ensures.at in
    record {
      grown = grows_again c.loop-variable.invariant.grown c.mark_target.ensures.grown;
      targets = next_root c.loop-variable.variable c.mark_target.ensures.grown c.loop-variable.invariant.targets
          (λ at refers. c.mark_target.ensures.marked at
          (subst (λ (one : ℕ). HoldsReference (heap_of c.args.main.now) one at) (sym root.is) refers));
    }
