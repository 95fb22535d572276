-- The pair whose key is the last that is not marked is told, or all were looked at.
use Rattle.std.proofs.Common.{◌≡◌, ◌-◌, ◌<◌, inl, inr, sym, subst, arith}
use Rattle.std.proofs.lemmas.Bool.{cases_lt}
use Rattle.std.proofs.lemmas.Option.{slice_get_within}
use Rattle.weak_pairs.specs.Pairs.{IsFilledAt}
use Rattle.ephemeron_clear.proofs.FilledKeys.{key_below, marked_read, some_pairs, unmarked_read}
use Rattle.ephemeron_clear.proofs.search.last_unmarked.Goals as goal

pub has_unmarked_key-requires-clause-below : goal.has_unmarked_key-requires-clause-below
has_unmarked_key-requires-clause-below c =
    let some = some_pairs c.requires.whole c.requires.there in
    let place = c.loop-place.place - 1 in
    let within : place < c.table_of-table.result.capacity =
    omega (arith, c.loop-place-test.true, c.loop-place.auto.place) in
    λ at refers. subst (λ n. at < n) (sym c.requires.bound)
    (key_below c.requires.whole some.are c.table_of-table.ensures place at within refers)

pub loop-place-init : goal.loop-place-init
loop-place-init c pairs has at pair filled from below =
    let within = slice_get_within pairs at pair filled.stands in
    let long = (c.table_of-table.ensures.pairs pairs has).long in
    absurd (omega (arith, from, below, within, long))

pub loop-place-preserved : goal.loop-place-preserved
loop-place-preserved c pairs has at pair filled from below = elim (cases_lt (c.loop-place.place - 1) at) [
  | inl behind ↦ c.loop-place.invariant pairs has at pair filled (omega (arith, behind)) below
  | inr same ↦
      let here : at ≡ c.loop-place.place - 1 = omega (arith, from, same) in
      marked_read c.requires.whole has c.table_of-table.ensures (c.loop-place.place - 1)
      c.addresses_fit.ensures.within
      (c.has_unmarked_key.ensures.marked c.if-has_unmarked_key.false) pair
      (subst (λ n. IsFilledAt pairs n pair) here filled)
]

pub returns-then-has_unmarked_key : goal.returns-then-has_unmarked_key
returns-then-has_unmarked_key c pairs has =
    let place = c.loop-place.place - 1 in
    let within : place < c.table_of-table.result.capacity =
    omega (arith, c.loop-place-test.true, c.loop-place.auto.place) in
    let found = unmarked_read c.requires.whole has c.table_of-table.ensures place within
    (c.has_unmarked_key.ensures.unmarked c.if-has_unmarked_key.true) in
    record {
      before = omega (arith, c.loop-place-test.true, c.loop-place.auto.place);
      is = record { pair = found.0; filled = found.1; unmarked = found.2 };
      behind = λ at pair filled from below.
          c.loop-place.invariant pairs has at pair filled (omega (arith, from)) below;
    }
