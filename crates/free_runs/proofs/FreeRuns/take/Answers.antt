use Rattle.std.proofs.Common.{◌≡◌, ◌<◌, ◌∙◌, [], length, ap, arith, rules}
use Rattle.std.proofs.lemmas.List.{get_or_default, length-set}
use Rattle.free_runs.specs.FreeRuns.{row_of, TakesFrom}
use Rattle.free_runs.proofs.Pages.{page_put, row_taken, ends_fit, fits_in_none}
use Rattle.free_runs.proofs.FreeRuns.take.Goals as goal

pub take-requires-clause-ends : goal.take-requires-clause-ends
take-requires-clause-ends c =
    let rows = c.self.inside.rows.items in
    let page = c.in-Some.page in
    let there : page < length rows = omega (arith, c.in-Some.ensures.there, ap length c.self.view_is) in
    let row_is : c.index_mut.result.now ≡ row_of rows page =
    c.index_mut.ensures.value ∙ get_or_default rows page c.index_mut.result.now [] there
    in
    rw row_is
    (ends_fit page (row_of rows page) (omega (arith, there, c.self.invariant.few)) (c.self.invariant.free page there))

pub invariant_of-self : goal.invariant_of-self
invariant_of-self c =
    let rows = c.self.inside.rows.items in
    let page = c.in-Some.page in
    let there : page < length rows = omega (arith, c.in-Some.ensures.there, ap length c.self.view_is) in
    let row_is : c.index_mut.result.now ≡ row_of rows page =
    c.index_mut.ensures.value ∙ get_or_default rows page c.index_mut.result.now [] there
    in
    let takes : TakesFrom (row_of rows page) c.take.new.self c.args.n c.take.result = rw (← row_is) c.take.ensures in
    let same_count = length-set rows page c.take.new.self in
    record {
      few = omega (arith, c.self.invariant.few, same_count);
      free =
          page_put rows page c.take.new.self c.self.invariant.free there
          (row_taken page c.args.n (row_of rows page) c.take.new.self c.take.result (c.self.invariant.free page there)
          c.requires.some takes);
      cursor = omega (arith, there, same_count);
    }

pub returns-clause-none : goal.returns-clause-none
returns-clause-none c = (
  λ unlike. absurd (search (rules, unlike)),
  λ nowhere. absurd (fits_in_none c.args.self.now c.args.n c.in-Some.page c.requires.some nowhere c.in-Some.ensures),
)
