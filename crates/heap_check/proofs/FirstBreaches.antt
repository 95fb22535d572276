-- Breaches of parts of a heap, by what a flaw tells of them.
use Rattle.std.proofs.Common.{◌≡◌, ℕ, sym, subst}
use Rattle.heap_check.specs.declared.flaw.Flaw.{Flaw}

-- a breach is the one that a flaw with its address and its words tells of
pub breaks_there : (Breaks : ℕ → ℕ → ℕ → Type 0) {flaw : Flaw} {at found wanted : ℕ} → Breaks at found wanted
    → flaw.at ≡ at → flaw.found ≡ found → flaw.wanted ≡ wanted → Breaks flaw.at flaw.found flaw.wanted
breaks_there Breaks {flaw} {at} {found} {wanted} breaks same_at same_found same_wanted =
    subst (λ (place : ℕ). Breaks place flaw.found flaw.wanted) (sym same_at)
    (subst (λ (there : ℕ). Breaks at there flaw.wanted) (sym same_found)
    (subst (λ (asked : ℕ). Breaks at found asked) (sym same_wanted) breaks))
