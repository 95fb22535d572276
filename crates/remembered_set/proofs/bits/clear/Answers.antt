use Rattle.std.proofs.Common.{◌≡◌, ◌<◌, ◌≤◌, ℕ, Bool, List, length, false, ap, ◌∙◌, arith}
use Rattle.std.proofs.lemmas.List.{length-set}
use Rattle.remembered_set.specs.Bits.{flags_of}
use Rattle.remembered_set.specs.Flags.{ClearsBetween}
use Rattle.remembered_set.proofs.Clears.{clears_on, clears_more, set_count_cleared}
use Rattle.remembered_set.proofs.Words.{length-flags_of}
use Rattle.remembered_set.proofs.bits.clear.Goals as goal

pub loop-place-preserved : goal.loop-place-preserved
loop-place-preserved c =
    let old : List Bool = flags_of c.args.bits.now in
    let flags : List Bool = flags_of c.loop-place.bits in
    let now : List ℕ = c.unset.new.bits in
    let place : ℕ = c.in-Some.place in
    let from : ℕ = c.args.from in
    let is = c.in-Some.ensures in
    let begins : c.loop-place.at ≤ place = is.between.begins in
    let ends : place < c.args.to = is.between.ends in
    let behind : from ≤ c.loop-place.at = c.loop-place.invariant.behind in
    let many : length c.loop-place.bits ≡ length c.args.bits.now = c.loop-place.invariant.as_many in
    let inside : place < length flags =
    omega (arith, ends, c.requires.within, length-flags_of c.loop-place.bits, many) in
    let long : length (flags_of now) ≡ length flags =
    ap (λ (all : List Bool). length all) c.unset.ensures ∙ length-set flags place false in
    let so_far : ClearsBetween old flags from place =
    clears_on old flags from c.loop-place.at place (omega arith) c.loop-place.invariant.clears is.clear_before in
    record {
      as_many = omega (arith, long, length-flags_of now, length-flags_of c.loop-place.bits, many);
      clears = rw c.unset.ensures (clears_more old flags from place inside (omega arith) so_far);
      counts = λ start n first last.
          let before = c.loop-place.invariant.counts start n first last in
          let one = set_count_cleared flags start n place (omega arith) (omega arith) inside is.is_set in
          rw c.unset.ensures (omega arith);
      few = omega (arith, c.loop-place.invariant.few);
      behind = omega arith;
      within = omega arith;
    }
