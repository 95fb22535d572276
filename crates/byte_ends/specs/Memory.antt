-- What sources and sinks in memory do, to the byte.
use Rattle.std.specs.Prelude.{◌≡◌, ℕ, ◌+◌, ◌<◌, ◌⊎◌, List, ◌++◌, length, take, drop, min, Result, Ok}
use Rattle.std.specs.Prelude.{Err, Contains}
use Rattle.byte_ends.specs.declared.ends.Failed.{Failed}
use Rattle.byte_ends.specs.Faults.{one_more}

-- A source in memory: what it has left, how much it gives a call, which calls fail, and how many calls and
-- faults there were.
pub record SourceBytes : Type 0 where
  pub left : List ℕ
  pub most : ℕ
  pub failing : List ℕ
  pub calls : ℕ
  pub faults : ℕ

-- A sink in memory: what it has taken, how much it has room for, how much it takes a call, which calls fail, and
-- how many calls and faults there were.
pub record SinkBytes : Type 0 where
  pub taken : List ℕ
  pub capacity : ℕ
  pub most : ℕ
  pub failing : List ℕ
  pub calls : ℕ
  pub faults : ℕ

-- A read into a buffer with this room: it gives all that is left, as far as the room and the size of a call go. It
-- fails exactly where the call is one of the failing.
abbrev pub ReadsMemory : SourceBytes → SourceBytes → ℕ → Result ℕ Failed → Type 0
ReadsMemory old new room (Ok n) =
    ¬ Contains old.failing (one_more old.calls)
    × (n ≡ min (min old.most room) (length old.left))
    × (new ≡ record old { left = drop n old.left; calls = one_more old.calls })
ReadsMemory old new room (Err _) =
    Contains old.failing (one_more old.calls)
    × (new ≡ record old { calls = one_more old.calls; faults = one_more old.faults })

-- a sink in memory has taken these bytes: they are those that it has
abbrev pub HasBytes : SinkBytes → List ℕ → Type 0
HasBytes sink bytes = bytes ≡ sink.taken

-- how much of a piece a call takes
abbrev pub portion : SinkBytes → List ℕ → ℕ
portion sink piece = min sink.most (length piece)

-- the call is one of the failing, or there is no room for what it is to take
abbrev pub FailsToTake : SinkBytes → List ℕ → Type 0
FailsToTake old piece =
    Contains old.failing (one_more old.calls) ⊎ (old.capacity < length old.taken + portion old piece)

-- A write of a piece: it takes as much of the front as the size of a call goes. It fails exactly where it is to.
abbrev pub WritesMemory : SinkBytes → SinkBytes → List ℕ → Result ℕ Failed → Type 0
WritesMemory old new piece (Ok n) =
    ¬ FailsToTake old piece
    × (n ≡ portion old piece)
    × (new ≡ record old { taken = old.taken ++ take n piece; calls = one_more old.calls })
WritesMemory old new piece (Err _) =
    FailsToTake old piece
    × (new ≡ record old { calls = one_more old.calls; faults = one_more old.faults })
