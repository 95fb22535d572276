-- The command `add` is carried out where the variable comes to hold the sum.
use Rattle.std.proofs.Common.{◌≡◌, ◌<◌, ℕ, ℤ, to_z, of_z, w64, SFits, List, [], Ok, refl, subst}
use Rattle.std.proofs.lemmas.Int.{to_z-of_z}
use Rattle.heap_command.specs.declared.command.Command.TheVariants.{Add}
use Rattle.heap_model.specs.Types.{Operand}
use Rattle.heap_model.specs.Showing.{ShowsHeld}
use Rattle.handle_roots.specs.declared.held.Held.TheVariants as held
use Rattle.object_graph.specs.Graphs.{Graph}
use Rattle.write_barrier.specs.MutatorState.{Mutator, MainShows}
use Rattle.mutator.specs.CarriesOut.{Carries}
use Rattle.mutator.specs.Reading.{FindsSum}
use Rattle.mutator.proofs.Rebinding.{HoldsAnew, holds_after, value_carried}

-- so it is of a sum of 64 bits, told by these
pub sum_carried : {old now new : Mutator} {graph : Graph} (names : List (List ℕ)) (x : ℕ) (v : Operand) (sum : ℤ)
    → SFits w64 sum → MainShows old graph → x < old.seat.space.variables → FindsSum names graph x v sum
    → now ≡ old → HoldsAnew now new x (held.Int (to_z w64 (of_z w64 sum)))
    → Carries names old new graph (Add x v) [] (Ok tt)
sum_carried {old} {new = new} names x v sum fits shows below finds same holds =
    let P : ℤ → Type 0 = λ n. HoldsAnew old new x (held.Int n) in
    value_carried names x (held.Int sum) refl shows finds refl tt below fits (ShowsHeld.integer sum)
    (subst P (to_z-of_z w64 sum fits) (holds_after x (held.Int (to_z w64 (of_z w64 sum))) same holds))
    (λ rooms. (refl, λ number. refl))
