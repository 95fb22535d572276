-- What a worker is to its callers, and what its steps make of that.
use Rattle.std.specs.Prelude.{ℕ, ◌+◌, ◌-◌, Bool, false, List, [], ◌∷◌, ◌++◌, length, take, drop, slice_index, slice_set}
use Rattle.std.specs.Prelude.{Option, Some, None, nat_le, if◌then◌else◌}
use Rattle.tagged_word.specs.Readings.{reference_in}
use Rattle.page_space.specs.Extents.{segments_start}
use Rattle.shared_table.specs.Owned.{Own}
use Rattle.scav_copy.specs.declared.places.Home.{Home}
use Rattle.eden_copies.specs.Eden.{size_in, word_at}

-- A worker: how many words its room may have, and the address that the first of them stands for; the words of the room;
-- the copies in it that count, in order; and the slots of these that are left to the main side.
pub record WorkerSide : Type 0 where
  pub most : ℕ
  pub start : ℕ
  pub room : List ℕ
  pub copies : List Home
  pub left : List ℕ

-- a worker that has copied nothing
abbrev pub idle : ℕ → ℕ → WorkerSide
idle most start = record { most = most; start = start; room = []; copies = []; left = [] }

-- the address behind the last word of its room
abbrev pub end_of : WorkerSide → ℕ
end_of worker = worker.start + length worker.room

-- the word of its room at an address
abbrev pub room_word : WorkerSide → ℕ → ℕ
room_word worker at = slice_index worker.room (at - worker.start)

-- the copy of a cell, behind the words of the room
abbrev pub home_behind : WorkerSide → ℕ → Home
home_behind worker cell = record { from = cell; to = end_of worker }

-- the words of the cell at an address
abbrev pub cell_words : Own → ℕ → List ℕ
cell_words own cell = take (size_in own cell) (drop cell own.words)

-- the cell was copied, and the copy counts
abbrev pub with_copy : Own → WorkerSide → ℕ → WorkerSide
with_copy own worker cell = record worker {
  room = worker.room ++ cell_words own cell;
  copies = worker.copies ++ home_behind worker cell ∷ [];
}

-- the address is behind eden: in a heap only survivors stand there
abbrev pub is_behind_eden : Own → Option ℕ → Bool
is_behind_eden own None = false
is_behind_eden own (Some at) = nat_le (segments_start own.space) at

-- the word refers to a survivor
abbrev pub is_of_survivor : Own → ℕ → Bool
is_of_survivor own word = is_behind_eden own (reference_in word)

-- A slot of the room was followed, in which the word of before stands at another address: it has this word now, and is
-- left to the main side if it refers to a survivor.
abbrev pub with_slot : Own → WorkerSide → ℕ → ℕ → ℕ → WorkerSide
with_slot own worker from to now = record worker {
  room = slice_set worker.room (to - worker.start) now;
  left = if is_of_survivor own (word_at own from) then worker.left ++ to ∷ [] else worker.left;
}
