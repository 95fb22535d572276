-- The first elements go, or the integer is no number of elements.
use Rattle.std.proofs.Common.{ℕ, ◌+◌, refl, sym, ◌∙◌, rules, arith}
use Rattle.std.specs.Prelude.{FitsSigned}
use Rattle.std.specs.Int.{w64}
use Rattle.object_cells.proofs.ListCells.{list_shown, shown_there, shown_ready, count_shown}
use Rattle.object_cells.proofs.ElementsRead.{place_below}
use Rattle.array_trim.proofs.OwnStores.{may_trim}
use Rattle.array_trim.proofs.TrimOutcomes.{number_named, some_shifted, none_shifted}
use Rattle.array_trim.proofs.shifting.shift.Goals as goal

pub count_of-count-requires-clause-there : goal.count_of-count-requires-clause-there
count_of-count-requires-clause-there c = shown_there (list_shown c.requires.shows c.requires.is)

pub returns-in_default : goal.returns-in_default
returns-in_default c graph one shows is =
    let fits : FitsSigned w64 c.args.n = search rules in (
      number_named one c.count_of-count.result c.args.n c.checked_index.result shows is c.count_of-count.ensures.counted
          fits c.checked_index.ensures ∙ c.in_default.is,
      refl,
    )

pub shift_store-requires-clause-may : goal.shift_store-requires-clause-may
shift_store-requires-clause-may c = may_trim c.requires.shows c.requires.is

pub shift_store-requires-clause-ready : goal.shift_store-requires-clause-ready
shift_store-requires-clause-ready c =
    shown_ready c.requires.shows (list_shown c.requires.shows c.requires.is) c.count_of-count.ensures.counted

pub returns-then-gone-ne0 : goal.returns-then-gone-ne0
returns-then-gone-ne0 c graph one shows is =
    let fits : FitsSigned w64 c.args.n = search rules in
    let gone : ℕ = c.in-Some.gone in
    let counted = c.count_of-count.ensures.counted ∙ count_shown (list_shown shows is) in
    let within = place_below (c.count_of-count.result + 1) gone _ (sym c.checked_index.ensures ∙ c.in-Some.is) in (
      gone,
      number_named one c.count_of-count.result c.args.n c.checked_index.result shows is c.count_of-count.ensures.counted
          fits c.checked_index.ensures ∙ c.in-Some.is,
      some_shifted one c.count_of-count.result gone c.laws_of_trims.ensures.shift c.addresses_fit.ensures.within
          shows is counted (omega (arith, c.if-gone-ne0.true)) (omega (arith, within)) c.shift_store.ensures,
    )

pub returns-else-gone-ne0 : goal.returns-else-gone-ne0
returns-else-gone-ne0 c graph one shows is =
    let fits : FitsSigned w64 c.args.n = search rules in (
      c.in-Some.gone,
      number_named one c.count_of-count.result c.args.n c.checked_index.result shows is c.count_of-count.ensures.counted
          fits c.checked_index.ensures ∙ c.in-Some.is,
      none_shifted one c.in-Some.gone shows is (omega (arith, c.if-gone-ne0.false)),
    )
