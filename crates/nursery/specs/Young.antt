-- The young generation: eden, which fills from its start on, and the survivors in one of two halves. Beside it a run of
-- a page may be granted, in which cells are made in place of eden.
use Rattle.std.specs.Prelude.{ℕ, ◌+◌, ◌-◌, ◌≤◌, ◌==◌, Bool, true, false, if◌then◌else◌}
use Rattle.page_space.specs.declared.run.Run.{Run}
use Rattle.page_space.specs.Extents.{Space, eden_start}

-- how many words of eden are used, how many words the survivors have, in which half these are: 0 or 1; and the words of
-- a page that are granted and not yet used
pub record Young : Type 0 where
  pub space : Space
  pub used : ℕ
  pub survivors : ℕ
  pub half : ℕ
  pub granted : Run

-- Survivors and used words are no more than the words of the young generation, there are two halves, and what is
-- granted ends where eden begins, or before.
pub record IsYoung (young : Young) : Type 0 where
  pub fits : young.survivors + young.used ≤ young.space.sizes.young
  pub half : young.half ≤ 1
  pub granted : young.granted.at + young.granted.words ≤ eden_start young.space

-- no word is granted
abbrev pub no_run : Run
no_run = record { at = 0; words = 0 }

-- nothing is used, nothing has survived, and nothing is granted
abbrev pub new_young : Space → Young
new_young space = record { space = space; used = 0; survivors = 0; half = 0; granted = no_run }

-- cells are made in eden where no word is granted
abbrev pub in_eden : Young → Bool
in_eden young = young.granted.words == 0

-- In eden there is room where survivors, used words and so many more are no more than the words of the young
-- generation; in the granted run, where it has so many.
abbrev pub HasRoomBy : Bool → Young → ℕ → Type 0
HasRoomBy true young more = young.survivors + young.used + more ≤ young.space.sizes.young
HasRoomBy false young more = more ≤ young.granted.words

-- there is room for so many words where cells are made
abbrev pub HasRoom : Young → ℕ → Type 0
HasRoom young more = HasRoomBy (in_eden young) young more

-- the address of the next cell: behind the used words of eden, or where the granted run begins
abbrev pub next_of : Young → ℕ
next_of young = if in_eden young then eden_start young.space + young.used else young.granted.at

-- the half that the survivors are not in
abbrev pub other_half : ℕ → ℕ
other_half half = 1 - half

-- what is left of a run behind so many words
abbrev pub rest_of : Run → ℕ → Run
rest_of run more = record { at = run.at + more; words = run.words - more }

-- so many more words are used: of eden, or of the granted run
abbrev pub bumped : Young → ℕ → Young
bumped young more = record young {
  used = if in_eden young then young.used + more else young.used;
  granted = if in_eden young then young.granted else rest_of young.granted more;
}

-- eden is empty, the survivors have so many words in the other half, and nothing is granted any more
abbrev pub turned : Young → ℕ → Young
turned young survivors =
    record young { used = 0; survivors = survivors; half = other_half young.half; granted = no_run }

-- the next cells are made in this run, or in eden where it has no word
abbrev pub with_granted : Young → Run → Young
with_granted young run = record young { granted = run }
