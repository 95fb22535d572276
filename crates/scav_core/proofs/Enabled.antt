-- What the tests of a possible event say.
use Rattle.std.proofs.Common.{ℕ, ◌<◌, ◌≤◌, ◌+◌, ◌-◌, ◌≡◌, ◌==◌, ◌&&◌, inl, inr, Bool, true}
use Rattle.std.proofs.Common.{false, List, length, get_or}
use Rattle.std.proofs.Common.{nat_le, Option, Some, None, arith, refl, sym, ap, subst, ◌∙◌, eqb-true}
use Rattle.std.specs.List.{Contains, range_with_len}
use Rattle.std.proofs.lemmas.Bool.{and_parts, or_cases}
use Rattle.std.proofs.lemmas.Bool.Decides.{nat_tests}
use Rattle.std.proofs.lemmas.List.Elements.{All-contains, All-get_or}
use Rattle.std.proofs.lemmas.List.Folds.{Any-from_list_any}
use Rattle.std.proofs.lemmas.List.FromFn.{get_or-range_with_len, length-range_with_len}
use Rattle.std.proofs.lemmas.List.Sums.{AllPass-from_list_all}
use Rattle.core_parts.proofs.Joining.{in_found}
use Rattle.scav_copy.specs.declared.places.Home.{Home}
use Rattle.scav_copy.specs.declared.places.Room.{Room}
use Rattle.scav_copy.specs.Places.{Fixed, size_of, offsets_of, IsInRange, IsInCopy, StoodAt}
use Rattle.scav_core.specs.Possible.{is_copied_slot, is_live, is_disjoint, is_free, is_in_room, is_in_own_room}
use Rattle.scav_core.specs.Possible.{stands_at}
use Rattle.scav_core.specs.Possible.{is_home}
use Rattle.scav_core.proofs.Tested.{same_at}

-- a test that finds one number at most another says so
at_most : (a b : ℕ) → nat_le a b ≡ true → a ≤ b
at_most a b t = grind (arith, nat_tests)

-- the parts of a test of three
pub three_parts : (a b c : Bool) → (a && b && c) ≡ true → (a ≡ true) × (b ≡ true) × (c ≡ true)
three_parts true true true t = (refl, refl, refl)
three_parts true true false t = cc
three_parts true false c t = cc
three_parts false b c t = cc

-- the parts of a test of five
pub five_parts : (a b c d e : Bool) → (a && b && c && d && e) ≡ true
    → (a ≡ true) × (b ≡ true) × (c ≡ true) × (d ≡ true) × (e ≡ true)
five_parts a b c d e t =
    let last = and_parts (a && b && c && d) e t in
    let fourth = and_parts (a && b && c) d last.0 in
    let first = three_parts a b c fourth.0 in
    (first.0, first.1, first.2, fourth.1, last.1)

-- a slot of a copy stood in its cell
copied_stood : (fixed : Fixed) (homes : List Home) (slot : ℕ) (home : Home) → Contains homes home
    → is_copied_slot fixed slot home ≡ true → (place : ℕ) × StoodAt fixed homes slot place
copied_stood fixed homes slot home there t =
    let parts = and_parts (nat_le home.to slot) _ t in
    let behind : home.to ≤ slot = at_most home.to slot parts.0 in
    let offset : ℕ = slot - home.to in (
      home.from + offset,
      StoodAt.in_cell home offset there (in_found (offsets_of fixed home.from) offset parts.1)
          (omega arith) refl,
    )

-- a slot that is found live stood somewhere
pub live_stood : (fixed : Fixed) (homes : List Home) (slot : ℕ) → is_live fixed homes slot ≡ true
    → (place : ℕ) × StoodAt fixed homes slot place
live_stood fixed homes slot t =
    elim (or_cases _ _ t) [
      | inl outside ↦ (slot, StoodAt.itself (in_found fixed.slots slot outside) refl)
      | inr copied ↦
          let (k, home, less, same, is) = Any-from_list_any (λ home. is_copied_slot fixed slot home) homes copied in
          copied_stood fixed homes slot home (k, less, same) is
    ]

-- words beside a copy share none with it
beside_apart : (fixed : Fixed) (first many : ℕ) (home : Home) (at : ℕ) → is_disjoint fixed first many home ≡ true
    → IsInCopy fixed home at → IsInRange first many at → ⊥
beside_apart fixed first many home at t has within =
    elim (or_cases _ _ t) [
      | inl either ↦ elim (or_cases _ _ either) [
        | inl none ↦ let e : size_of fixed home.from ≡ 0 = eqb-true _ _ none in
            omega (arith, e, has.from, has.below)
        | inr before ↦ let e : home.to + size_of fixed home.from ≤ first = at_most _ _ before in
            omega (arith, e, has.below, within.from)
      ]
      | inr behind ↦ let e : first + many ≤ home.to = at_most _ _ behind in omega (arith, e, has.from, within.below)
    ]

-- words that are found free share none with a home copy
pub free_apart : (fixed : Fixed) (homes : List Home) (first many : ℕ) (home : Home) (at : ℕ)
    → is_free fixed homes first many ≡ true → Contains homes home → IsInCopy fixed home at → IsInRange first many at
    → ⊥
free_apart fixed homes first many home at t there has within =
    let test : Home → Bool = λ home. is_disjoint fixed first many home in
    beside_apart fixed first many home at
    (All-contains (λ (home : Home). test home ≡ true) homes home (AllPass-from_list_all test homes t) there) has within

-- words that lie in a room of a worker
pub record IsInOwnRoom (rooms : List Room) (worker first many : ℕ) : Type 0 where
  pub room : Room
  pub among : Contains rooms room
  pub own : room.worker ≡ worker
  pub from : room.from ≤ first
  pub ends : first + many ≤ room.to

-- words that are found in one room of the worker's lie in it
pub in_own_room : (rooms : List Room) (worker first many : ℕ) → is_in_own_room rooms worker first many ≡ true
    → IsInOwnRoom rooms worker first many
in_own_room rooms worker first many t =
    let (k, room, less, same, is) = Any-from_list_any (λ room. is_in_room worker first many room) rooms t in
    let parts = and_parts _ _ is in
    let more = and_parts _ _ parts.0 in
    record {
      room = room;
      among = (k, less, same);
      own = eqb-true _ _ more.0;
      from = at_most _ _ more.1;
      ends = at_most _ _ parts.1;
    }

-- each word that is found is that of the list
pub each_same : (words : List ℕ) (first : ℕ) (header : ℕ) (body : List ℕ) (k : ℕ)
    → stands_at words first header body ≡ true
    → k < length body → get_or words (first + 1 + k) 0 ≡ get_or body k 0
each_same words first header body k t less =
    let parts = and_parts _ _ t in
    let range : List ℕ = range_with_len 0 (length body) in
    let within : k < length range = omega (arith, length-range_with_len 0 (length body)) in
    let is : get_or range k 0 ≡ k = get_or-range_with_len 0 (length body) k 0 less ∙ omega arith in
    let test : ℕ → Bool = same_at words (first + 1) body in
    let passes = All-get_or (λ (offset : ℕ). test offset ≡ true) range k 0 within
    (AllPass-from_list_all test range parts.1) in
    eqb-true _ _ (subst (λ (offset : ℕ). test offset ≡ true) is passes)

-- and the header stands before them
pub first_same : (words : List ℕ) (first : ℕ) (header : ℕ) (body : List ℕ) → stands_at words first header body ≡ true
    → get_or words first 0 ≡ header
first_same words first header body t = eqb-true _ _ (and_parts _ _ t).0

-- a reference that is found to be one to a home is so
pub home_found : (homes : List Home) (address : Option ℕ) → is_home homes address ≡ true
    → (home : Home) × Contains homes home × (address ≡ Some home.to)
home_found homes None t = cc
home_found homes (Some at) t =
    let (k, home, less, same, is) = Any-from_list_any (λ home. home.to == at) homes t in
    (home, (k, less, same), ap (λ (x : ℕ). Some x) (sym (eqb-true _ _ is)))
