-- Copies that stand one behind another, and one more behind them; those that stand in pages.
use Rattle.std.proofs.Common.{ℕ, ◌+◌, ◌<◌, ◌≤◌, ◌≡◌, ◌⊎◌, inl, inr, List, [], ◌∷◌, ◌++◌, ◌↔◌}
use Rattle.std.proofs.Common.{arith, refl, sym, ap, subst}
use Rattle.std.specs.List.{Contains}
use Rattle.std.proofs.lemmas.List.Sums.{sum_by-cons}
use Rattle.std.proofs.lemmas.List.Elements.{Contains-append_cases, Contains-append_left, Contains-append_right}
use Rattle.tagged_word.proofs.Members.{first_in, rest_in, in_cases, one_in}
use Rattle.page_space.specs.Extents.{eden_start}
use Rattle.heap_model.specs.Types.{Run}
use Rattle.scav_copy.specs.declared.places.Home.{Home}
use Rattle.scav_copy.specs.declared.places.Room.{Room}
use Rattle.scav_copy.specs.Places.{Fixed, size_of}
use Rattle.scav_copy.specs.Copies.{with_home, Copying}
use Rattle.scav_copy.proofs.Ascending.{new_in, old_in, joined_is}
use Rattle.scav_copy.proofs.Spots.{none_in}
use Rattle.scavenger.specs.Starts.{Start, IsBegun, IsFreeRun, IsSegmentRoom, room_start, room_of_run, segment_from}
use Rattle.scavenger.specs.Filling.{Tiles, none, next, CopiesFillRooms, words_of_homes}
use Rattle.scavenger.proofs.TargetCells.{run_ends}

-- what copies with a first one say of it
pub record BeginsWith (fixed : Fixed) (from to : ℕ) (home : Home) (homes : List Home) : Type 0 where
  pub starts : home.to ≡ from
  pub rest : Tiles fixed (home.to + size_of fixed home.from) to homes

-- no copies end where they begin
pub tiles_of_none : {fixed : Fixed} {from to : ℕ} → Tiles fixed from to [] → from ≡ to
tiles_of_none (none at) = refl

-- copies with a first one begin with it
pub tiles_begin : {fixed : Fixed} {from to : ℕ} {home : Home} {homes : List Home} → Tiles fixed from to (home ∷ homes)
    → BeginsWith fixed from to home homes
tiles_begin (next home end homes rest) = record { starts = refl; rest = rest }

-- and what begins so are copies with a first one
tiles_from : {fixed : Fixed} {from to : ℕ} {home : Home} {homes : List Home} → BeginsWith fixed from to home homes
    → Tiles fixed from to (home ∷ homes)
tiles_from {fixed} {from} {to} {home} {homes} begins =
    subst (λ (at : ℕ). Tiles fixed at to (home ∷ homes)) begins.starts (next home to homes begins.rest)

-- copies end where they begin, or behind that
pub tiles_ascend : {fixed : Fixed} (from to : ℕ) (homes : List Home) → Tiles fixed from to homes → from ≤ to
tiles_ascend from to [] tiles = omega (arith, tiles_of_none tiles)
tiles_ascend {fixed} from to (home ∷ homes) tiles =
    let begins = tiles_begin tiles in
    omega (arith, begins.starts, tiles_ascend (home.to + size_of fixed home.from) to homes begins.rest)

-- each of them stands between
pub tile_within : {fixed : Fixed} (from to : ℕ) (homes : List Home) (home : Home) → Tiles fixed from to homes
    → Contains homes home → (from ≤ home.to) × (home.to + size_of fixed home.from ≤ to)
tile_within from to [] home tiles there = absurd (none_in home there)
tile_within {fixed} from to (first ∷ homes) home tiles there =
    let begins = tiles_begin tiles in
    let second : ℕ = first.to + size_of fixed first.from in
    elim (in_cases first homes home there) [
      | inl same ↦
          subst (λ (one : Home). (from ≤ one.to) × (one.to + size_of fixed one.from ≤ to)) same
          (omega (arith, begins.starts), tiles_ascend second to homes begins.rest)
      | inr later ↦
          let within = tile_within second to homes home begins.rest later in
          (omega (arith, begins.starts, within.0), within.1)
    ]

-- one more that stands behind them stands with them
pub tiles_push : {fixed : Fixed} (from : ℕ) (homes : List Home) (new : Home) → Tiles fixed from new.to homes
    → Tiles fixed from (new.to + size_of fixed new.from) (homes ++ new ∷ [])
tiles_push {fixed} from [] new tiles =
    let end : ℕ = new.to + size_of fixed new.from in
    tiles_from record { starts = sym (tiles_of_none tiles); rest = none end }
tiles_push {fixed} from (home ∷ homes) new tiles =
    let begins = tiles_begin tiles in
    tiles_from record {
      starts = begins.starts;
      rest = tiles_push (home.to + size_of fixed home.from) homes new begins.rest;
    }

-- the homes are those of a list, and with one more those of a list that has this one besides
pub same_with_home : (homes all more : List Home) (new : Home)
    → ((home : Home) → Contains homes home ↔ Contains all home)
    → ((home : Home) → Contains more home ↔ ((new ≡ home) ⊎ Contains all home))
    → (home : Home) → Contains (with_home homes new) home ↔ Contains more home
same_with_home homes all more new same besides home = (
  λ there. elim (joined_is homes new home there) [
    | inl e ↦ (besides home).1 (inl e)
    | inr among ↦ (besides home).1 (inr ((same home).0 among))
  ],
  λ there. elim ((besides home).0 there) [
    | inl e ↦ subst (Contains (with_home homes new)) e (new_in homes new)
    | inr among ↦ old_in homes new home ((same home).1 among)
  ],
)

-- one more between two lists is there besides what both have
pub one_between : {X : Type 0} (front back : List X) (new one : X)
    → Contains (front ++ new ∷ back) one ↔ ((new ≡ one) ⊎ Contains (front ++ back) one)
one_between front back new one = (
  λ there. elim (Contains-append_cases front (new ∷ back) one there) [
    | inl first ↦ inr (Contains-append_left front back one first)
    | inr rest ↦ elim (in_cases new back one rest) [
      | inl e ↦ inl e
      | inr second ↦ inr (Contains-append_right front back one second)
    ]
  ],
  λ either. elim either [
    | inl e ↦
        subst (Contains (front ++ new ∷ back)) e (Contains-append_right front (new ∷ back) new (first_in new back))
    | inr there ↦ elim (Contains-append_cases front back one there) [
      | inl first ↦ Contains-append_left front (new ∷ back) one first
      | inr second ↦ Contains-append_right front (new ∷ back) one (rest_in new back one second)
    ]
  ],
)

-- and so is one more behind the first of them
pub one_behind : {X : Type 0} (front back : List X) (new one : X)
    → Contains ((front ++ new ∷ []) ++ back) one ↔ ((new ≡ one) ⊎ Contains (front ++ back) one)
one_behind front back new one = (
  λ there. elim (Contains-append_cases (front ++ new ∷ []) back one there) [
    | inl either ↦ elim (Contains-append_cases front (new ∷ []) one either) [
      | inl first ↦ inr (Contains-append_left front back one first)
      | inr last ↦ inl (one_in new one last)
    ]
    | inr second ↦ inr (Contains-append_right front back one second)
  ],
  λ either. elim either [
    | inl e ↦
        subst (Contains ((front ++ new ∷ []) ++ back)) e (Contains-append_left (front ++ new ∷ []) back new
        (Contains-append_right front (new ∷ []) new (first_in new [])))
    | inr there ↦ elim (Contains-append_cases front back one there) [
      | inl first ↦
          Contains-append_left (front ++ new ∷ []) back one (Contains-append_left front (new ∷ []) one first)
      | inr second ↦ Contains-append_right (front ++ new ∷ []) back one second
    ]
  ],
)

-- the copies end behind the start of the room
pub fill_above : {start : Start} {fixed : Fixed} {words : List ℕ} {rows : List (List Run)} {homes : List Home}
    {fill : ℕ} → CopiesFillRooms start fixed words rows homes fill → room_start start.heap.space start.half ≤ fill
fill_above {start} {fill = fill} filled =
    tiles_ascend (room_start start.heap.space start.half) fill filled.stayed filled.tiles

-- copies one behind another end as many words behind where they begin as they have together
pub tiles_add : {fixed : Fixed} (from to : ℕ) (homes : List Home) → Tiles fixed from to homes
    → from + words_of_homes fixed homes ≡ to
tiles_add from to [] tiles = omega (arith, tiles_of_none tiles)
tiles_add {fixed} from to (home ∷ homes) tiles =
    let begins = tiles_begin tiles in
    omega (
      arith,
      begins.starts,
      sum_by-cons (λ (one : Home). size_of fixed one.from) home homes,
      tiles_add (home.to + size_of fixed home.from) to homes begins.rest,
    )

-- a copy in a room that begins before eden ends there
ends_by : {start : Start} {fixed : Fixed} (room : Room) (first many : ℕ) → IsBegun start fixed → room.from ≤ first
    → first + many ≤ room.to → first < eden_start start.heap.space
    → (IsSegmentRoom start.heap.space start.half room
    ⊎ ((run : Run) × IsFreeRun start.rows run × (room ≡ room_of_run start.heap.space run)))
    → first + many ≤ eden_start start.heap.space
ends_by {start} room first many begun from ends below (inl segment) =
    let starts : room.from ≡ segment_from start.heap.space start.half segment.worker =
    ap (λ (one : Room). one.from) segment.is in
    absurd (omega (arith, starts, from, below))
ends_by {start} room first many begun from ends below (inr of_run) =
    let run : Run = of_run.0 in
    let to : room.to ≡ run.at + run.words = ap (λ (one : Room). one.to) of_run.2 in
    omega (arith, to, ends, run_ends run begun of_run.1)

-- so does a home copy
pub copy_in_page : {start : Start} {fixed : Fixed} {words : List ℕ} {homes : List Home} (home : Home)
    → IsBegun start fixed → Copying fixed words homes → Contains homes home → home.to < eden_start start.heap.space
    → home.to + size_of fixed home.from ≤ eden_start start.heap.space
copy_in_page {fixed = fixed} home begun copying there below =
    let housed = copying.housed home there in
    let lies = housed.1 in
    ends_by housed.0 home.to (size_of fixed home.from) begun lies.from lies.ends below
    ((begun.begins.rooms housed.0).0 lies.among)
