use Rattle.std.proofs.Common.{◌+◌, ◌-◌, ◌/◌, inr, refl, sym, ◌∙◌, subst}
use Rattle.std.proofs.lemmas.Bool.{false≢true}
use Rattle.tagged_word.specs.declared.layout.Kind.TheVariants as kind
use Rattle.heap_model.specs.Images.{image_heap}
use Rattle.heap_model.specs.Heaps.{words_of_cell}
use Rattle.heap_model.specs.Kinds.{IsWeakCell}
use Rattle.heap_check.specs.Cells.{BreaksWeak}
use Rattle.heap_check.specs.Firsts.{IsVerdict}
use Rattle.heap_check.proofs.BesideSpans.{beside_spans}
use Rattle.heap_check.proofs.WeakFlaws.{IsCapable, first_odd_capacity, weak_by_entries, capable_at_zero}
use Rattle.heap_check.proofs.entries.flaw_of_table.Goals.{else-table-ne0-via-then-table-ne0+else-not-is_power_of_two}
use Rattle.heap_check.proofs.entries.flaw_of_table.Goals.{else-table-ne0-via-else-table-ne0}
use Rattle.heap_check.proofs.entries.flaw_of_table.Goals as goal

pub overflow_sub-capacity : goal.overflow_sub-capacity
overflow_sub-capacity c =
    let is = (beside_spans (image_heap c.args.image.now) kind.Table c.requires.beside.word c.args.table (inr refl)
    c.requires.beside.is).is in
    is.ascends

pub returns-then-not-is_power_of_two : goal.returns-then-not-is_power_of_two
returns-then-not-is_power_of_two c =
    let table = c.args.table in
    first_odd_capacity
    (record { at = table.from - 2 + 1; found = (table.end - table.from) / 2; wanted = c.next_power.result })
    c.requires.beside c.if-table-ne0.true
    (λ power. false≢true (sym c.if-not-is_power_of_two.true ∙ c.is_power_of_two.ensures.1 power)) refl refl
    c.next_power.ensures

pub flaw_of_pairs-requires-clause-is : goal.flaw_of_pairs-requires-clause-is
flaw_of_pairs-requires-clause-is c =
    (beside_spans (image_heap c.args.image.now) kind.Table c.requires.beside.word c.args.table (inr refl)
    c.requires.beside.is).is

pub flaw_of_count-requires-clause-is : goal.flaw_of_count-requires-clause-is
flaw_of_count-requires-clause-is c =
    (beside_spans (image_heap c.args.image.now) kind.Table c.requires.beside.word c.args.table (inr refl)
    c.requires.beside.is).is

pub returns : goal.returns
returns c =
    let heap = image_heap c.args.image.now in
    let words = words_of_cell heap c.args.cell in
    let beside = c.requires.beside in
    let power : IsCapable beside.word c.args.table = elim c.else-table-ne0.branch [
      | else-table-ne0-via-then-table-ne0+else-not-is_power_of_two w ↦
          inr (w.is_power_of_two.ensures.0 w.if-not-is_power_of_two.false)
      | else-table-ne0-via-else-table-ne0 w ↦ capable_at_zero beside w.if-table-ne0.false
    ] in
    subst (IsVerdict (IsWeakCell heap words) (BreaksWeak heap c.args.cell words)) (sym c.earlier.ensures)
    (weak_by_entries c.flaw_of_pairs.result c.flaw_of_count.result beside power c.flaw_of_pairs.ensures
    c.flaw_of_count.ensures)
