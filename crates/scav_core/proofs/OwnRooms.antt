-- Words that a worker knows to be free: those of its rooms beside its own homes.
use Rattle.std.proofs.Common.{ℕ, ◌<◌, ◌≤◌, ◌+◌, ◌≡◌, ◌==◌, ◌&&◌, ◌||◌, ◌⊎◌, inl, inr, Bool, true}
use Rattle.std.proofs.Common.{List, nat_le, arith, ap, ◌∙◌, eq-eqb}
use Rattle.std.specs.List.{Contains}
use Rattle.std.proofs.lemmas.Bool.{cases_Bool, and_from, or_left, or_right}
use Rattle.std.proofs.lemmas.Bool.Decides.{nat_tests}
use Rattle.std.proofs.lemmas.List.Elements.{All-contains_itself, All-weaker}
use Rattle.std.proofs.lemmas.List.Folds.{list_any_at}
use Rattle.std.proofs.lemmas.List.Sums.{list_all-from_AllPass}
use Rattle.scav_copy.specs.declared.places.Home.{Home}
use Rattle.scav_copy.specs.declared.places.Room.{Room}
use Rattle.scav_copy.specs.Places.{Fixed, size_of, IsInCopy}
use Rattle.scav_copy.specs.Copies.{LiesInRoom}
use Rattle.scav_copy.proofs.Spots.{from_is, some_words}
use Rattle.scav_core.specs.declared.world.World.{World}
use Rattle.scav_core.specs.Worlds.{fixed_of}
use Rattle.scav_core.specs.Possible.{is_disjoint, is_free, is_in_room, is_in_own_room}
use Rattle.scav_core.specs.Underway.{Underway}
use Rattle.scav_core.specs.OwnHomes.{IsOwnHome}

-- a number is at most another, or passes it
at_most_or : (a b : ℕ) → (nat_le a b ≡ true) ⊎ (b < a)
at_most_or a b = elim (cases_Bool (nat_le a b)) [
  | inl t ↦ inl t
  | inr f ↦ inr (grind (arith, nat_tests))
]

-- words share one with a copy
pub record SharesOne (fixed : Fixed) (first many : ℕ) (home : Home) : Type 0 where
  pub at : ℕ
  pub from : first ≤ at
  pub below : at < first + many
  pub has : IsInCopy fixed home at

-- where words end behind the first of a copy, and it ends behind the first of them, they share one
shared_at : (fixed : Fixed) (first many : ℕ) (home : Home) → first < home.to + size_of fixed home.from
    → home.to < first + many → 1 ≤ many → 1 ≤ size_of fixed home.from → SharesOne fixed first many home
shared_at fixed first many home more less some words =
    let size : ℕ = size_of fixed home.from in
    elim (at_most_or home.to first) [
      | inl t ↦ let low : home.to ≤ first = grind (arith, nat_tests) in
          record { at = first; from = omega arith; below = omega arith; has = record { from = low; below = more } }
      | inr low ↦ record {
        at = home.to;
        from = omega arith;
        below = less;
        has = record { from = omega arith; below = omega arith };
      }
    ]

-- some words are found beside a copy of some words, or share one with it
pub beside_or : (fixed : Fixed) (first many : ℕ) (home : Home) → 1 ≤ many → 1 ≤ size_of fixed home.from
    → (is_disjoint fixed first many home ≡ true) ⊎ SharesOne fixed first many home
beside_or fixed first many home some words =
    let size : ℕ = size_of fixed home.from in
    let empty : Bool = size == 0 in
    let before : Bool = nat_le (home.to + size) first in
    let behind : Bool = nat_le (first + many) home.to in
    elim (at_most_or (home.to + size) first) [
      | inl t ↦ inl (or_left (empty || before) behind (or_right empty before t))
      | inr more ↦ elim (at_most_or (first + many) home.to) [
        | inl t ↦ inl (or_right (empty || before) behind t)
        | inr less ↦ inr (shared_at fixed first many home more less some words)
      ]
    ]

-- words in a room of a worker that are beside its own homes are found free
pub free_of_own : (world : World) (worker : ℕ) (room : Room) (first many : ℕ) → Underway world → 1 ≤ many
    → room.worker ≡ worker → LiesInRoom (fixed_of world) room first many
    → ((home : Home) → IsOwnHome world worker home → is_disjoint (fixed_of world) first many home ≡ true)
    → is_free (fixed_of world) world.homes first many ≡ true
free_of_own world worker room first many underway some own lies beside =
    let fixed : Fixed = fixed_of world in
    list_all-from_AllPass (λ home. is_disjoint fixed first many home) world.homes
    (All-weaker (Contains world.homes) (λ home. is_disjoint fixed first many home ≡ true)
    (λ home there.
    elim (beside_or fixed first many home some
    (some_words home.from underway.laid (from_is home underway.copying there))) [
      | inl t ↦ t
      | inr shared ↦
          let housed = underway.copying.housed home there in
          let same : housed.0 ≡ room = underway.laid.one_room housed.0 room shared.at housed.1.among lies.among
          (record {
            from = omega (arith, shared.has.from, housed.1.from);
            below = omega (arith, shared.has.below, housed.1.ends);
          })
          (record { from = omega (arith, shared.from, lies.from); below = omega (arith, shared.below, lies.ends) }) in
          beside home (record {
            among = there;
            room = housed.0;
            own = ap (λ (r : Room). r.worker) same ∙ own;
            lies = housed.1;
          })
    ]) world.homes (All-contains_itself world.homes))

-- words of a room of the worker are found in one of its rooms
pub own_room_found : (rooms : List Room) (worker : ℕ) (room : Room) (first many : ℕ) → Contains rooms room
    → room.worker ≡ worker → room.from ≤ first → first + many ≤ room.to
    → is_in_own_room rooms worker first many ≡ true
own_room_found rooms worker room first many (k, less, e) own from ends =
    let low : nat_le room.from first ≡ true = grind (arith, nat_tests) in
    let high : nat_le (first + many) room.to ≡ true = grind (arith, nat_tests) in
    list_any_at (λ (one : Room). is_in_room worker first many one) rooms k room less
    (ap (λ (one : Room). is_in_room worker first many one) e
    ∙ and_from (room.worker == worker && nat_le room.from first) (nat_le (first + many) room.to)
    (and_from (room.worker == worker) (nat_le room.from first) (eq-eqb room.worker worker own) low) high)
