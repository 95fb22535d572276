-- What the sinks of this crate have, by what was appended to what they had.
use Rattle.std.proofs.Common.{◌≡◌, ℕ, List, [], refl, sym, subst}
use Rattle.byte_ends.specs.Sink.{Appends}
use Rattle.byte_ends.specs.Sure.{Sums, HasSums}

-- a tally that began with nothing has the sums of these bytes
pub HasSums-appends : (old new : Sums) (bytes : List ℕ)
    → old ≡ record { bytes = 0; total = 0 } → Appends (HasSums old) (HasSums new) bytes → HasSums new bytes
HasSums-appends old new bytes empty p =
    let P : Sums → Type 0 = λ sums. HasSums sums [] in
    p.appended [] (subst P (sym empty) (record { bytes-is = refl; total-is = refl }))
