-- The first elements stay alone, or the integer is no number of elements.
use Rattle.std.proofs.Common.{ℕ, ◌+◌, refl, sym, ◌∙◌, rules, arith}
use Rattle.std.specs.Prelude.{FitsSigned}
use Rattle.std.specs.Int.{w64}
use Rattle.object_cells.proofs.ListCells.{list_shown, shown_there, shown_ready, count_shown}
use Rattle.object_cells.proofs.ElementsRead.{place_below}
use Rattle.array_trim.proofs.OwnStores.{may_trim}
use Rattle.array_trim.proofs.TrimOutcomes.{number_named, some_truncated, none_truncated}
use Rattle.array_trim.proofs.truncating.truncate.Goals as goal

pub count_of-count-requires-clause-there : goal.count_of-count-requires-clause-there
count_of-count-requires-clause-there c = shown_there (list_shown c.requires.shows c.requires.is)

pub returns-in_default : goal.returns-in_default
returns-in_default c graph one shows is =
    let fits : FitsSigned w64 c.args.n = search rules in (
      number_named one c.count_of-count.result c.args.n c.checked_index.result shows is c.count_of-count.ensures.counted
          fits c.checked_index.ensures ∙ c.in_default.is,
      refl,
    )

pub truncate_store-requires-clause-may : goal.truncate_store-requires-clause-may
truncate_store-requires-clause-may c = may_trim c.requires.shows c.requires.is

pub truncate_store-requires-clause-ready : goal.truncate_store-requires-clause-ready
truncate_store-requires-clause-ready c =
    shown_ready c.requires.shows (list_shown c.requires.shows c.requires.is) c.count_of-count.ensures.counted

pub returns-then-kept-count : goal.returns-then-kept-count
returns-then-kept-count c graph one shows is =
    let fits : FitsSigned w64 c.args.n = search rules in
    let count : ℕ = c.count_of-count.result in
    let kept : ℕ = c.in-Some.kept in
    let counted = c.count_of-count.ensures.counted ∙ count_shown (list_shown shows is) in
    let within = place_below (count + 1) kept _ (sym c.checked_index.ensures ∙ c.in-Some.is) in (
      kept,
      number_named one c.count_of-count.result c.args.n c.checked_index.result shows is c.count_of-count.ensures.counted
          fits c.checked_index.ensures ∙ c.in-Some.is,
      some_truncated one kept c.laws_of_trims.ensures.truncate c.addresses_fit.ensures.within shows is
          (omega (arith, counted, within, c.if-kept-count.true)) c.truncate_store.ensures,
    )

pub returns-else-kept-count : goal.returns-else-kept-count
returns-else-kept-count c graph one shows is =
    let fits : FitsSigned w64 c.args.n = search rules in
    let count : ℕ = c.count_of-count.result in
    let counted = c.count_of-count.ensures.counted ∙ count_shown (list_shown shows is) in (
      c.in-Some.kept,
      number_named one c.count_of-count.result c.args.n c.checked_index.result shows is c.count_of-count.ensures.counted
          fits c.checked_index.ensures ∙ c.in-Some.is,
      none_truncated one c.in-Some.kept shows is (omega (arith, counted, c.if-kept-count.false)),
    )
