-- The slot is no head of a free start's cell, and the cell that the word refers to is born.
use Rattle.std.proofs.Common.{◌≡◌, ◌<◌, ◌≤◌, ◌⊎◌, inl, inr, ◌+◌, ◌*◌, ◌%◌, ◌^◌, ℕ, Contains, refl, sym, subst, arith}
use Rattle.std.proofs.lemmas.Bool.{cases_lt}
use Rattle.tagged_word.specs.declared.word.Class.TheVariants.{Ref}
use Rattle.tagged_word.proofs.Readings.{reference_to}
use Rattle.core_parts.proofs.Joining.{in_found}
use Rattle.mark_world.specs.Pages.{cell_at}
use Rattle.shared_table.specs.declared.overview.Overview.{Overview}
use Rattle.shared_table.specs.Seats.{Side}
use Rattle.table_tests.specs.Grids.{IsWholeGrid}
use Rattle.table_tests.proofs.CellSteps.{stored_whole}
use Rattle.table_tests.proofs.Heads.{no_head_of, of_reference}
use Rattle.table_tests.proofs.grids.store.Goals as goal

-- a start at a multiple of 4 stands behind the slot, or two words before it
beside : (start at : ℕ) → start % 4 ≡ 0 → 2 ≤ at % 4 → (at < start) ⊎ (start + 2 ≤ at)
beside start at aligned slot = elim (cases_lt at start) [
  | inl behind ↦ inl behind
  | inr before ↦ inr (omega (arith, aligned, slot, before))
]

pub store_slot-requires-clause-may : goal.store_slot-requires-clause-may
store_slot-requires-clause-may c =
    let main : Overview = c.args.side.now.main in
    let fits : 4 * c.args.to < 2 ^ 32 = omega (
      arith,
      c.requires.whole.grid.room,
      c.requires.among,
      c.counts-counts.ensures.old,
    ) in
    record {
      place = omega (
        arith,
        c.requires.within,
        c.requires.whole.grid.room,
        c.counts-counts.ensures.words,
        c.counts-counts.ensures.old,
      );
      no_head = λ start free.
          no_head_of start c.args.at (cell_at main.old main.words main.layouts start)
          (beside start c.args.at (c.requires.whole.aligned start free).0 c.requires.slot);
      slot_word = record { class = Ref (4 * c.args.to); fits = fits; bits = c.reference.ensures; allowed = refl };
      born = of_reference main.old c.reference.result.0 (4 * c.args.to) (Contains main.view.born)
          (reference_to c.reference.result.0 (4 * c.args.to) fits c.reference.ensures)
          (in_found main.view.born (4 * c.args.to) (c.requires.whole.grid.born c.args.to c.requires.among));
    }

pub shade-requires-clause-grid : goal.shade-requires-clause-grid
shade-requires-clause-grid c =
    (subst (λ (side : Side). IsWholeGrid side.main c.args.count c.args.trimmed) (sym c.store_slot.ensures.stored)
    (stored_whole c.args.side.now.main c.args.count c.args.trimmed c.args.at c.reference.result.0 c.requires.slot
    c.requires.whole)).grid

pub returns-clause-whole : goal.returns-clause-whole
returns-clause-whole c =
    c.shade.ensures.whole c.args.trimmed
    (subst (λ (side : Side). IsWholeGrid side.main c.args.count c.args.trimmed) (sym c.store_slot.ensures.stored)
    (stored_whole c.args.side.now.main c.args.count c.args.trimmed c.args.at c.reference.result.0 c.requires.slot
    c.requires.whole))
