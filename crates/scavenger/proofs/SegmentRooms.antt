-- The segments of the half that copies go to: one for each worker, one behind another.
use Rattle.std.proofs.Common.{◌≡◌, ℕ, zero, suc, ◌+◌, ◌*◌, ◌<◌, ◌≤◌, inl, inr, Contains, refl, arith}
use Rattle.std.proofs.lemmas.Bool.{cases_lt}
use Rattle.page_space.specs.Extents.{Space, half_segments}
use Rattle.scav_copy.specs.Places.{Fixed, IsInRooms}
use Rattle.scavenger.specs.Starts.{Start, Begins, segment_from, segment_room, room_of}
use Rattle.scavenger.specs.Following.{half_start, half_end}

-- a segment of a half lies in it
pub segment_in_half : (space : Space) (half worker : ℕ) → worker < half_segments space
    → (half_start space half ≤ segment_from space half worker)
    × (segment_from space half worker + space.sizes.young ≤ half_end space half)
segment_in_half space half worker known =
    let more : space.sizes.young * (worker + 1) ≤ space.sizes.young * half_segments space = grind arith in
    (omega arith, omega (arith, more))

-- it ends where a later one begins, or before
pub segments_apart : (space : Space) (half worker other : ℕ) → worker < other
    → segment_from space half worker + space.sizes.young ≤ segment_from space half other
segments_apart space half worker other less =
    let more : space.sizes.young * (worker + 1) ≤ space.sizes.young * other = grind arith in
    omega (arith, more)

-- the address is one of a worker's segment
pub record IsInSegment (space : Space) (half worker at : ℕ) : Type 0 where
  pub from : segment_from space half worker ≤ at
  pub below : at < segment_from space half worker + space.sizes.young

-- segments that share an address are those of one worker
pub one_segment : (space : Space) (half worker other at : ℕ) → IsInSegment space half worker at
    → IsInSegment space half other at → worker ≡ other
one_segment space half worker other at one two =
    elim (cases_lt worker other) [
      | inl less ↦ absurd (omega (arith, segments_apart space half worker other less, one.below, two.from))
      | inr more ↦ elim (cases_lt other worker) [
        | inl less ↦ absurd (omega (arith, segments_apart space half other worker less, two.below, one.from))
        | inr same ↦ omega (arith, more, same)
      ]
    ]

-- an address of some segments of a half is one of one of them
pub segment_of_address : (space : Space) (half at many : ℕ) → half_start space half ≤ at
    → at < half_start space half + space.sizes.young * many
    → (worker : ℕ) × (worker < many) × IsInSegment space half worker at
segment_of_address space half at zero from below = absurd (omega (arith, from, below))
segment_of_address space half at (suc many) from below =
    elim (cases_lt at (half_start space half + space.sizes.young * many)) [
      | inl less ↦
          let found = segment_of_address space half at many from less in
          (found.0, omega (arith, found.1), found.2)
      | inr behind ↦ (
        many,
        omega arith,
        record { from = omega (arith, behind); below = omega (arith, below) },
      )
    ]

module _ {start : Start} {fixed : Fixed} (begins : Begins start fixed) where
  -- each worker's segment is one of the rooms
  pub segment_is_among : (worker : ℕ) → worker < half_segments start.heap.space
      → Contains fixed.rooms (segment_room start.heap.space start.half worker)
  segment_is_among worker known =
      (begins.rooms (segment_room start.heap.space start.half worker)).1
      (inl (record { worker = worker; known = known; is = refl }))

  -- so is the main side's
  pub own_is_among : Contains fixed.rooms (room_of start.heap.space start.half)
  own_is_among = segment_is_among start.heap.space.sizes.helpers (omega arith)

  -- an address of the half is one of a room
  pub half_is_room : (at : ℕ) → half_start start.heap.space start.half ≤ at → at < half_end start.heap.space start.half
      → IsInRooms fixed at
  half_is_room at from below =
      let space = start.heap.space in
      let found = segment_of_address space start.half at (half_segments space) from below in (
        segment_room space start.half found.0,
        segment_is_among found.0 found.1,
        record { from = found.2.from; below = found.2.below },
      )
