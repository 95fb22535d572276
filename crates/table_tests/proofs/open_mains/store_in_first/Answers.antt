-- The slot is no head of a free start's cell, and the cell that the word refers to is born, or young.
use Rattle.std.proofs.Common.{◌≡◌, ◌<◌, ◌+◌, ◌^◌, ℕ, List, Contains, refl, sym, ap, subst, arith}
use Rattle.tagged_word.specs.declared.word.Class.TheVariants.{Ref}
use Rattle.tagged_word.proofs.Readings.{reference_to}
use Rattle.page_space.specs.Extents.{eden_start}
use Rattle.mark_world.specs.Cycles.{with_cycle}
use Rattle.shared_table.specs.Worlds.{no_cycle}
use Rattle.write_barrier.specs.MutatorState.{Mutator}
use Rattle.table_tests.specs.OpenMains.{IsMarkingMain}
use Rattle.table_tests.proofs.Heads.{of_old_reference}
use Rattle.table_tests.proofs.OpenMains.{before_marks, marking_stored, no_heads_in_first, page_counted}
use Rattle.table_tests.proofs.open_mains.store_in_first.Goals as goal

pub store-requires-clause-may_store : goal.store-requires-clause-may_store
store-requires-clause-may_store c = λ of_page mark.
    let main : Mutator = c.args.main.now in
    let page : eden_start main.seat.space ≡ 2048 = ap eden_start c.requires.marking.space in
    let fits : c.args.to < 2 ^ 32 = c.ranges.to.fits in
    record {
      layouts = c.requires.marking.layouts;
      may = record {
        place = omega (
          arith,
          page_counted main.seat.space main.seat.table c.requires.marking.space c.addresses_fit.ensures.heap_counted,
          c.requires.before,
        );
        no_head = no_heads_in_first _ _ _ (with_cycle no_cycle main.cycle) (0 + c.args.offset) c.requires.marking.starts
            (omega (arith, c.requires.no_head)) (omega (arith, c.requires.before));
        slot_word = record { class = Ref c.args.to; fits = fits; bits = c.reference.ensures; allowed = refl };
        born = of_old_reference (eden_start main.seat.space) c.reference.result.0 c.args.to
            (Contains main.cycle.born) (reference_to c.reference.result.0 c.args.to fits c.reference.ensures)
            (λ old. subst (λ (all : List ℕ). Contains all c.args.to) (sym c.requires.marking.born)
            (c.requires.born (omega (arith, old, page))));
      };
    }

pub store-requires-clause-within : goal.store-requires-clause-within
store-requires-clause-within c =
    before_marks c.args.main.now.seat.space (0 + c.args.offset) c.requires.marking.space
    (omega (arith, c.requires.before))

pub returns : goal.returns
returns c = record {
  marking = subst IsMarkingMain (sym c.store.ensures.stored)
      (marking_stored c.args.main.now (0 + c.args.offset) c.reference.result.0 c.requires.marking
      (omega (arith, c.requires.before)));
}
