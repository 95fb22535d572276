-- What a marking keeps in its fields, and how it finds the pairs that wait for a key.
use Rattle.std.specs.Prelude.{◌≡◌, ℕ, ◌≤◌, ◌<◌, ◌^◌, List, map, take, length, Some, slice_get}
use Rattle.std.specs.Prelude.{slice_index, vec_capacity}
use Rattle.ephemeron_mark.specs.declared.waiting.WaitingPair.{WaitingPair}
use Rattle.ephemeron_mark.specs.declared.waiting.Waiting.TheInside as waiting
use Rattle.ephemeron_mark.specs.declared.marking.Marking.TheInside as marking
use Rattle.ephemeron_mark.specs.Marked.{Marked}
use Rattle.ephemeron_mark.specs.Pairs.{Waits, IsLastOf}

-- the keys of pairs
abbrev pub keys_of : List WaitingPair → List ℕ
keys_of pairs = map (λ pair. pair.key) pairs

-- For each address it is told which pair is the last that waits for it, if one does, and for each pair which before it
-- waits for the same key.
pub record AreTold (last : List ℕ) (pairs : List WaitingPair) : Type 0 where
  pub latest : (key : ℕ) → IsLastOf (keys_of pairs) (length pairs) key (slice_index last key)
  pub earlier : (place : ℕ) (pair : WaitingPair) → slice_get pairs place ≡ Some pair
      → IsLastOf (keys_of pairs) place pair.key pair.earlier

-- the bound of the slots, these, and the keys in the same order
abbrev pub waits_of : waiting.Inside → Waits
waits_of inside = record {
  bound = inside.slots.bound;
  slots = inside.slots.addresses;
  keys = keys_of inside.pairs.items;
}

-- Each slot has its pair, there is room for as many as addresses and for what is told of each address, and the pairs
-- that wait for a key are told.
pub record IsWaiting (inside : waiting.Inside) : Type 0 where
  pub fits : inside.slots.bound < 2 ^ 32
  pub as_many : length inside.pairs.items ≡ length inside.slots.addresses
  pub room : inside.slots.bound ≤ vec_capacity inside.pairs
  pub room_for_last : inside.slots.bound ≤ vec_capacity inside.last
  pub told : AreTold inside.last.items inside.pairs.items

-- the marked cells, the weak maps, and the first so many cells, which were given as seen
abbrev pub marked_of : marking.Inside → Marked
marked_of inside = record {
  bound = inside.cells.bound;
  cells = inside.cells.addresses;
  maps = inside.maps.items;
  seen = take inside.seen inside.cells.addresses;
}

-- All parts are of one bound, which has 32 bits, there is room for a weak map at each address, and no more cells were
-- given as seen than are marked.
pub record IsOfOneBound (inside : marking.Inside) : Type 0 where
  pub fits : inside.cells.bound < 2 ^ 32
  pub waiting : inside.waiting.bound ≡ inside.cells.bound
  pub maps : inside.cells.bound ≤ vec_capacity inside.maps
  pub seen : inside.seen ≤ length inside.cells.addresses
