-- The worked scavenge names each address for one thing.
use Rattle.std.proofs.Common.{ℕ, ◌<◌, ◌≤◌, ◌≡◌, ◌⊎◌, inl, inr, [], ◌∷◌, IsSome, arith, refl}
use Rattle.std.proofs.Common.{sym, ap, subst, ◌∙◌}
use Rattle.std.specs.List.{Contains}
use Rattle.tagged_word.proofs.Members.{one_in, in_cases}
use Rattle.scav_copy.specs.declared.places.Room.{Room}
use Rattle.scav_copy.specs.Places.{cell_before, size_of, IsInCells, IsInRoom, IsInRooms}
use Rattle.scav_copy.specs.Worked.{worked, StartIsLaidOut}
use Rattle.scav_copy.proofs.WorkedEnd.{list_size}

-- the list is a cell
list_is : IsSome (cell_before worked 0)
unfolding cell_before
list_is = refl

-- the only cell is the list
is_list : (cell : ℕ) → Contains (0 ∷ []) cell → 0 ≡ cell
is_list cell there = one_in 0 cell there

-- an address of a cell is below 3
cell_below : (at : ℕ) → IsInCells worked at → at < 3
cell_below at inside =
    let cell : 0 ≡ inside.0 = is_list inside.0 inside.1 in
    let size : size_of worked inside.0 ≡ 3 = ap (size_of worked) (sym cell) ∙ list_size in
    omega (arith, cell, size, inside.2.below)

-- a slot is 4 or 5
slot_cases : (slot : ℕ) → (4 ≡ slot) ⊎ Contains (5 ∷ []) slot → (4 ≤ slot) × (slot ≤ 5)
slot_cases slot (inl e) = (omega (arith, e), omega (arith, e))
slot_cases slot (inr there) = let e : 5 ≡ slot = one_in 5 slot there in (omega (arith, e), omega (arith, e))

-- so it is between 4 and 5
slot_is : (slot : ℕ) → Contains (4 ∷ 5 ∷ []) slot → (4 ≤ slot) × (slot ≤ 5)
slot_is slot there = slot_cases slot (in_cases 4 (5 ∷ []) slot there)

-- the room of the first worker
abbrev first_room : Room
first_room = record { worker = 0; from = 8; to = 12 }

-- and the one of the second worker
abbrev second_room : Room
second_room = record { worker = 1; from = 16; to = 20 }

-- a room is one of the two
room_is : (room : Room) → Contains (first_room ∷ second_room ∷ []) room → (first_room ≡ room) ⊎ (second_room ≡ room)
room_is room there = elim (in_cases first_room (second_room ∷ []) room there) [
  | inl e ↦ inl e
  | inr more ↦ inr (one_in second_room room more)
]

-- an address of the first room is below 12
of_first : (room : Room) (at : ℕ) → first_room ≡ room → IsInRoom room at → (8 ≤ at) × (at < 12)
of_first room at e inside =
    let from : 8 ≡ room.from = ap (λ (r : Room). r.from) e in
    let to : 12 ≡ room.to = ap (λ (r : Room). r.to) e in
    (omega (arith, from, inside.from), omega (arith, to, inside.below))

-- and one of the second from 16 on
of_second : (room : Room) (at : ℕ) → second_room ≡ room → IsInRoom room at → (16 ≤ at) × (at < 20)
of_second room at e inside =
    let from : 16 ≡ room.from = ap (λ (r : Room). r.from) e in
    let to : 20 ≡ room.to = ap (λ (r : Room). r.to) e in
    (omega (arith, from, inside.from), omega (arith, to, inside.below))

-- an address of a room
room_at : (room : Room) (at : ℕ) → (first_room ≡ room) ⊎ (second_room ≡ room) → IsInRoom room at → (8 ≤ at)
    × (at < 20)
room_at room at (inl e) inside =
    let bounds = of_first room at e inside in (bounds.0, omega (arith, bounds.1))
room_at room at (inr e) inside =
    let bounds = of_second room at e inside in (omega (arith, bounds.0), bounds.1)

-- so it is for an address of some room
rooms_at : (at : ℕ) → IsInRooms worked at → (8 ≤ at) × (at < 20)
rooms_at at inside = room_at inside.0 at (room_is inside.0 inside.1) inside.2

-- no address is one of both rooms
one_room : (room other : Room) (at : ℕ) → (first_room ≡ room) ⊎ (second_room ≡ room)
    → (first_room ≡ other) ⊎ (second_room ≡ other) → IsInRoom room at → IsInRoom other at → room ≡ other
one_room room other at (inl e) (inl f) inside also = sym e ∙ f
one_room room other at (inl e) (inr f) inside also =
    let below = (of_first room at e inside).1 in
    let above = (of_second other at f also).0 in
    absurd (omega (arith, below, above))
one_room room other at (inr e) (inl f) inside also =
    let above = (of_second room at e inside).0 in
    let below = (of_first other at f also).1 in
    absurd (omega (arith, below, above))
one_room room other at (inr e) (inr f) inside also = sym e ∙ f

-- the worked scavenge is laid out
pub worked_is_laid_out : StartIsLaidOut
worked_is_laid_out = record {
  addressed = omega arith;
  cells_are = λ cell there. subst (λ (at : ℕ). IsSome (cell_before worked at)) (is_list cell there) list_is;
  slots_there = λ slot there. let bounds = slot_is slot there in omega (arith, bounds.1);
  rooms_there = λ at inside. (rooms_at at inside).1;
  one_cell = λ cell other at there also inside within. sym (is_list cell there) ∙ is_list other also;
  one_room = λ room other at there also inside within.
      one_room room other at (room_is room there) (room_is other also) inside within;
  slot_in_no_cell = λ at there inside.
      let slot = slot_is at there in
      let below = cell_below at inside in
      omega (arith, slot.0, below);
  slot_in_no_room = λ at there inside.
      let slot = slot_is at there in
      let room = rooms_at at inside in
      omega (arith, slot.1, room.0);
  cell_in_no_room = λ at inside within.
      let below = cell_below at inside in
      let room = rooms_at at within in
      omega (arith, below, room.0);
}
