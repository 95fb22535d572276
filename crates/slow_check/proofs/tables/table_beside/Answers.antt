use Rattle.std.proofs.Common.{inl, inr, sym, ◌∙◌}
use Rattle.std.proofs.lemmas.Bool.{false≢true}
use Rattle.heap_model.specs.Images.{image_heap}
use Rattle.image_walk.proofs.PairWords.{table_from}
use Rattle.slow_check.proofs.NoTables.{no_slots_no_table, no_power_no_table}
use Rattle.slow_check.proofs.tables.table_beside.Goals as goal

pub returns-then-is_undefined : goal.returns-then-is_undefined
returns-then-is_undefined c = record {
  has = table_from (image_heap c.args.image.now) c.args.word c.in-Some.table c.in-Some.ensures.spans
      (inl (c.is_undefined.ensures.0 c.if-is_undefined.true));
  is = c.in-Some.ensures.spans.is;
}

pub returns-then-is_power_of_two : goal.returns-then-is_power_of_two
returns-then-is_power_of_two c = record {
  has = table_from (image_heap c.args.image.now) c.args.word c.in-Some.table c.in-Some.ensures.spans
      (inr (c.is_power_of_two.ensures.0 c.if-is_power_of_two.true));
  is = c.in-Some.ensures.spans.is;
}

pub returns-else-is_power_of_two : goal.returns-else-is_power_of_two
returns-else-is_power_of_two c =
    no_power_no_table (image_heap c.args.image.now) c.args.word c.in-Some.table c.in-Some.ensures.spans
    (λ undefined. false≢true (sym c.if-is_undefined.false ∙ c.is_undefined.ensures.1 undefined))
    (λ power. false≢true (sym c.if-is_power_of_two.false ∙ c.is_power_of_two.ensures.1 power))

pub returns-in-None : goal.returns-in-None
returns-in-None c = no_slots_no_table (image_heap c.args.image.now) c.args.word c.in-None.ensures.spans
