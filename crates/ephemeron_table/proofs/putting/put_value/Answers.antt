-- The slot of the pair's value is filled as others are, but for what is known of a cycle.
use Rattle.std.proofs.Common.{◌≡◌, ℕ, ◌+◌, ◌*◌, ◌<◌, ◌∙◌, ap, subst, arith}
use Rattle.page_space.specs.Extents.{marks_start}
use Rattle.mark_world.specs.Cycles.{Cycle}
use Rattle.write_barrier.specs.MutatorState.{Mutator}
use Rattle.write_barrier.specs.Staying.{rest_stays_itself}
use Rattle.write_barrier.specs.Storing.{StoresOn}
use Rattle.write_barrier.proofs.StoresOn.{stores_on_again}
use Rattle.object_cells.specs.Contents.{AllocatesBox, IsBeforeLayouts, filled, filling_at}
use Rattle.object_cells.specs.declared.content.SlotContent.{SlotContent}
use Rattle.object_cells.specs.declared.content.SlotWrite.{SlotWrite}
use Rattle.object_cells.specs.declared.content.SlotWrite.TheVariants as filling
use Rattle.object_cells.proofs.FillsOn.{allocates_on}
use Rattle.object_cells.proofs.RestOfWords.{filled_still}
use Rattle.ephemeron_table.specs.Puttings.{FillsValue}
use Rattle.ephemeron_table.proofs.putting.put_value.Goals as goal

-- that words of a box are used leaves what is known of a cycle
same_cycle : (old between : Mutator) (put : SlotWrite) → AllocatesBox old between put → between.cycle ≡ old.cycle
same_cycle old between (filling.Tagged word) same = ap (λ (main : Mutator). main.cycle) same
same_cycle old between (filling.Raw word) same = ap (λ (main : Mutator). main.cycle) same
same_cycle old between (filling.NewBox at v) more = ap (λ (main : Mutator). main.cycle) more.1
same_cycle old between (filling.OldBox at v) same = ap (λ (main : Mutator). main.cycle) same

-- so a value is filled in
value_fills : {old between new : Mutator} {at : ℕ} {holds : SlotContent} (put : SlotWrite)
    → put ≡ filling_at old at holds → AllocatesBox old between put → at < marks_start old.seat.space
    → IsBeforeLayouts old.seat.space put → new ≡ record (filled between at put) { cycle = between.cycle }
    → StoresOn between new → FillsValue old new at holds
value_fills {old} {between} {new} {at} {holds} put is allocates below room same stores = record {
  filled = filled between at put;
  fills = record {
    between = between;
    allocates = subst (AllocatesBox old between) is allocates;
    fills = ap (filled between at) is;
    beside = filled_still old between between at put allocates (rest_stays_itself between.seat) below room;
  };
  same = same ∙ ap (λ (cycle : Cycle). record (filled between at put) { cycle = cycle })
      (same_cycle old between put allocates);
  stores = stores_on_again (allocates_on put allocates) stores;
}

pub returns : goal.returns
returns c =
    value_fills c.in_ok-filling.filling
    (c.in_ok-filling.ensures.filling
    ∙ ap (filling_at c.args.main.now (c.args.table.at + (2 + (2 * c.args.at + 1)))) c.content_for.ensures)
    c.in_ok-filling.ensures.allocates (omega (arith, c.requires.within, c.requires.place))
    c.in_ok-filling.ensures.in_cells c.fill_weak.ensures.filled c.fill_weak.ensures.stores
