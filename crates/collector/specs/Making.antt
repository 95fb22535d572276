-- How room is made for cells.
use Rattle.std.specs.Prelude.{◌≡◌, ℕ, Bool, true}
use Rattle.nursery.specs.Young.{HasRoom, in_eden}
use Rattle.free_runs.specs.FreeRuns.{FitsNowhere}
use Rattle.write_barrier.specs.MutatorState.{Mutator}
use Rattle.scavenger.specs.Granting.{Grants}
use Rattle.scavenger.specs.Laws.{KeepsGraphs}
use Rattle.scavenger.specs.Scavenged.{Scavenges}

-- There is no room for so many words: nothing is granted, eden has not so many, and no free run of a page has.
pub record IsOutOfRoom (main : Mutator) (n : ℕ) : Type 0 where
  pub ungranted : in_eden main.young ≡ true
  pub lacks : HasRoom main.young n → ⊥
  pub runs : FitsNowhere main.free n

-- There is room for so many words: eden has them, and nothing has changed; or it has not, and words of a free run are
-- granted.
pub data Serves (old new : Mutator) (n : ℕ) : Type 0 where
  eden : HasRoom old.young n → new ≡ old → Serves old new n
  granted : (HasRoom old.young n → ⊥) → Grants old new n → KeepsGraphs old new → Serves old new n

-- The heap was scavenged, which promoted survivors, or with `all` all that lives; then there is room.
pub record MakesRoom (old new : Mutator) (all : Bool) (n : ℕ) : Type 0 where
  pub mid : Mutator
  pub scavenges : Scavenges old mid all
  pub keeps : KeepsGraphs old mid
  pub serves : Serves mid new n
