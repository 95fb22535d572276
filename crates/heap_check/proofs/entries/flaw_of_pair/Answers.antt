use Rattle.std.proofs.Common.{◌≡◌, ◌+◌, ◌*◌, List, Some, inr, sym, ◌∙◌, ap, subst}
use Rattle.std.proofs.lemmas.Bool.{false≢true}
use Rattle.std.proofs.lemmas.Option.{same_Some}
use Rattle.heap_model.specs.Images.{image_heap}
use Rattle.heap_model.specs.Kinds.{Pair}
use Rattle.image_walk.specs.TablePairs.{table_pairs, pair_of}
use Rattle.heap_check.specs.HeldPairs.{IsHeldPair}
use Rattle.image_walk.proofs.SlotKinds.{number_from, number_to, value_from, value_to}
use Rattle.heap_check.specs.Cells.{BreaksPair}
use Rattle.heap_check.specs.Firsts.{IsFirst, IsVerdict}
use Rattle.heap_check.specs.declared.flaw.Flaw.{Flaw}
use Rattle.heap_check.proofs.PairFlaws.{pair_of_hole, first_no_key, first_misplaced, first_no_value}
use Rattle.heap_check.proofs.entries.flaw_of_pair.Goals as goal

pub returns-then-is_hole : goal.returns-then-is_hole
returns-then-is_hole c pair there =
    let heap = image_heap c.args.image.now in
    let pairs : List Pair = table_pairs heap c.args.table in
    let from = c.args.table.from in
    let place = c.args.place in
    let found = c.flaw_of_none.result in
    let same : pair_of c.pair_at-pair.result ≡ pair = same_Some _ _ (sym c.pair_at-pair.ensures ∙ there) in
    subst (λ (p : Pair). IsVerdict (IsHeldPair heap pairs place p) (BreaksPair heap from pairs place p) found) same
    (pair_of_hole heap from pairs place (pair_of c.pair_at-pair.result) found
    (c.is_hole.ensures.0 c.if-is_hole.true) c.flaw_of_none.ensures)

pub returns-in_default : goal.returns-in_default
returns-in_default c pair there =
    let heap = image_heap c.args.image.now in
    let pairs : List Pair = table_pairs heap c.args.table in
    let from = c.args.table.from in
    let place = c.args.place in
    let key = c.pair_at-pair.result.key in
    let same : pair_of c.pair_at-pair.result ≡ pair = same_Some _ _ (sym c.pair_at-pair.ensures ∙ there) in
    subst (λ (p : Pair). IsFirst (BreaksPair heap from pairs place p) c.slot_flaw.result) same
    (first_no_key heap from pairs place (pair_of c.pair_at-pair.result) c.slot_flaw.result
    (λ is. false≢true (sym c.if-is_hole.false ∙ c.is_hole.ensures.1 is))
    (λ to. c.in_default.not-Some to.0
    (c.number.ensures ∙ number_to heap key to.0 c.referent.result c.referent.ensures to.1))
    c.slot_flaw.ensures)

pub returns-then-not-is_probed : goal.returns-then-not-is_probed
returns-then-not-is_probed c pair there =
    let heap = image_heap c.args.image.now in
    let pairs : List Pair = table_pairs heap c.args.table in
    let from = c.args.table.from in
    let place = c.args.place in
    let key = c.pair_at-pair.result.key in
    let number = c.in-Some.number in
    let flaw : Flaw = record { at = from + 2 * place; found = key; wanted = c.odd.result.0 } in
    let same : pair_of c.pair_at-pair.result ≡ pair = same_Some _ _ (sym c.pair_at-pair.ensures ∙ there) in
    let is : _ ≡ Some number = sym c.number.ensures ∙ c.in-Some.is in
    subst (λ (p : Pair). IsFirst (BreaksPair heap from pairs place p) flaw) same
    (first_misplaced heap from pairs place (pair_of c.pair_at-pair.result) number flaw
    (number_from heap key number c.referent.result c.referent.ensures is)
    (λ probed. false≢true (sym c.if-not-is_probed.true ∙ c.is_probed.ensures.1 probed))
    (ap (λ n. record { at = from + 2 * place; found = key; wanted = n }) c.odd.ensures))

pub returns-then-is_value : goal.returns-then-is_value
returns-then-is_value c pair there =
    let heap = image_heap c.args.image.now in
    let pairs : List Pair = table_pairs heap c.args.table in
    let place = c.args.place in
    let key = c.pair_at-pair.result.key in
    let value = c.pair_at-pair.result.value in
    let number = c.in-Some.number in
    let same : pair_of c.pair_at-pair.result ≡ pair = same_Some _ _ (sym c.pair_at-pair.ensures ∙ there) in
    let is : _ ≡ Some number = sym c.number.ensures ∙ c.in-Some.is in
    subst (λ (p : Pair). IsHeldPair heap pairs place p) same
    (inr (record {
      number = number;
      filled = record {
        key = number_from heap key number c.referent.result c.referent.ensures is;
        value = value_from heap value c.referent-2.result c.referent-2.ensures
            (sym c.is_value.ensures ∙ c.if-is_value.true);
      };
      probed = c.is_probed.ensures.0 c.if-not-is_probed.false;
    }))

pub returns : goal.returns
returns c pair there =
    let heap = image_heap c.args.image.now in
    let pairs : List Pair = table_pairs heap c.args.table in
    let from = c.args.table.from in
    let place = c.args.place in
    let key = c.pair_at-pair.result.key in
    let value = c.pair_at-pair.result.value in
    let number = c.in-Some.number in
    let same : pair_of c.pair_at-pair.result ≡ pair = same_Some _ _ (sym c.pair_at-pair.ensures ∙ there) in
    let is : _ ≡ Some number = sym c.number.ensures ∙ c.in-Some.is in
    subst (λ (p : Pair). IsFirst (BreaksPair heap from pairs place p) c.slot_flaw-2.result) same
    (first_no_value heap from pairs place (pair_of c.pair_at-pair.result) number c.slot_flaw-2.result
    (number_from heap key number c.referent.result c.referent.ensures is)
    (c.is_probed.ensures.0 c.if-not-is_probed.false)
    (λ fits. false≢true (sym c.if-is_value.false ∙ c.is_value.ensures
    ∙ value_to heap value c.referent-2.result c.referent-2.ensures fits))
    c.slot_flaw-2.ensures)
