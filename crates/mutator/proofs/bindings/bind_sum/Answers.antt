-- The variable is bound to the sum.
use Rattle.std.proofs.Common.{◌≡◌, ℤ, ◌+ℤ◌, to_z, of_z, w64, SFits, rules, refl, ◌∙◌, ap, subst, arith}
use Rattle.std.proofs.lemmas.Int.{ints, to_z-of_z}
use Rattle.heap_model.specs.Types.{Held}
use Rattle.handle_roots.specs.declared.held.Held.TheVariants as held
use Rattle.heap_model.specs.Showing.{ShowsHeld}
use Rattle.mutator.proofs.IntegerSums.{add_done}
use Rattle.mutator.proofs.Rebinding.{HoldsAnew, binds_after, holds_after, value_carried}
use Rattle.mutator.proofs.bindings.bind_sum.Goals as goal

pub returns : goal.returns
returns c = record {
  carried = λ graph names shows.
      let old = c.args.main.now in
      let x = c.args.x in
      let both = c.in_ok-bound.ensures.found graph shows in
      let first = c.in_ok-first.first in
      let second = c.in_ok-second.second in
      let a : SFits w64 first = search rules in
      let b : SFits w64 second = search rules in
      let same : c.in-Some.sum ≡ first +ℤ second = omega (arith, ints, c.in-Some.ensures.1) in
      let fits : SFits w64 c.in-Some.sum = search rules in
      let P : Held → Type 0 = λ one. HoldsAnew old c.hold.new.self x one in
      let sum : ℤ = first +ℤ second in
      let holds = subst P (ap (λ v. held.Int v) (to_z-of_z w64 c.in-Some.sum fits ∙ same))
      (holds_after x _ c.operands.ensures.same (record { held = c.hold.ensures.held; heap = c.hold.ensures.heap })) in
      let sum_fits = subst (SFits w64) same fits in
      value_carried names x (held.Int sum) refl shows
      (add_done names graph x c.args.v.now both.first both.second first second both.is_first both.is_second
      (c.in_ok-first.ensures old graph both.first both.stands_first)
      (c.in_ok-second.ensures old graph both.second both.stands_second) sum_fits) refl
      tt c.requires.within.0 sum_fits (ShowsHeld.integer sum) holds (λ rooms. (refl, λ number. refl));
  binds = binds_after c.args.x (held.Int (to_z w64 (of_z w64 c.in-Some.sum))) c.operands.ensures.same
      c.hold.ensures.held;
}
