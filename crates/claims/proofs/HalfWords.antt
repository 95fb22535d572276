-- A word by its halves, and the two cases of an exchange.
use Rattle.std.proofs.Common.{◌≡◌, ◌≢◌, ℕ, ◌<◌, ◌==◌, refl, arith}
use prog.Atomic.{either}
use Rattle.atomic_table.proofs.Lists.{exchanged}
use Rattle.claims.specs.Halves.{word_of, round_in}

-- the round in the word of a claim
pub round_of_word : (round value : ℕ) → value < 4294967296 → round_in (word_of round value) ≡ round
round_of_word round value small = omega arith

-- an exchange that finds the word which it expects leaves the new one, and else the word stays
pub either_hit : (found old new : ℕ) → found ≡ old → either (found == old) new found ≡ new
either_hit found old new same = exchanged found old new (λ n. n ≡ new) (λ e. refl) (λ other. absurd (other same))

pub either_miss : (found old new : ℕ) → found ≢ old → either (found == old) new found ≡ found
either_miss found old new other = exchanged found old new (λ n. n ≡ found) (λ e. absurd (other e)) (λ e. refl)
