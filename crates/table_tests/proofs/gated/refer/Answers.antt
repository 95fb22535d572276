-- The slot is no head of a free start's cell, and the second box is born.
use Rattle.std.proofs.Common.{◌<◌, ◌≤◌, ◌⊎◌, inl, inr, ◌+◌, ℕ, zero, suc, List, Contains, refl, sym, subst, arith}
use Rattle.std.proofs.Common.{rules}
use Rattle.tagged_word.specs.declared.word.Class.TheVariants.{Ref}
use Rattle.mark_laws.proofs.Stores.{free_is}
use Rattle.mark_world.specs.Pages.{cell_at}
use Rattle.shared_table.specs.declared.overview.Overview.{Overview}
use Rattle.table_tests.specs.CellPages.{three_starts}
use Rattle.table_tests.proofs.Heads.{no_head_of, of_reference}
use Rattle.table_tests.proofs.gated.refer.Goals as goal

-- the cells begin two words before the slot, or behind it
beside : (start : ℕ) → Contains three_starts start → (3 < start) ⊎ (start + 2 ≤ 3)
beside start (zero, l, e) = inr (omega (arith, e))
beside start (suc zero, l, e) = inl (omega (arith, e))
beside start (suc (suc zero), l, e) = inl (omega (arith, e))
beside start (suc (suc (suc k)), l, e) = absurd (omega (arith, l))

pub store_slot-requires-clause-may : goal.store_slot-requires-clause-may
store_slot-requires-clause-may c =
    let main : Overview = c.args.side.now.main in
    record {
      place = omega (arith, c.requires.page, c.counts-counts.ensures.words, c.counts-counts.ensures.old);
      no_head = λ start free.
          no_head_of start 3 (cell_at main.old main.words main.layouts start)
          (beside start
          (subst (λ (all : List ℕ). Contains all start) c.requires.starts (free_is main.view start free).0));
      slot_word = record { class = Ref 1027; fits = search rules; bits = refl; allowed = refl };
      born = of_reference main.old 4109 1027 (Contains main.view.born) refl
          (subst (λ (all : List ℕ). Contains all 1027) (sym c.requires.born) (2, omega arith, refl));
    }
