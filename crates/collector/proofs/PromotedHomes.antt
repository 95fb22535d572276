-- A scavenge promotes cells to the homes that are in pages, into words of free runs.
use Rattle.std.proofs.Common.{◌≡◌, ℕ, ◌<◌, ◌≤◌, ◌⊎◌, inl, inr, Bool, List, [], ◌∷◌, Contains, Some}
use Rattle.std.proofs.Common.{refl, sym, ◌∙◌, ap, subst, arith}
use Rattle.std.proofs.lemmas.Bool.{cases_lt}
use Rattle.std.proofs.lemmas.Bool.Decides.{nat_tests}
use Rattle.tagged_word.specs.Cells.{is_free_kind}
use Rattle.tagged_word.proofs.Members.{first_in, rest_in, in_cases}
use Rattle.page_space.specs.Extents.{eden_start}
use Rattle.page_space.specs.RegionLaws.{IsSpace}
use Rattle.free_runs.specs.Laws.{IsFreeWord}
use Rattle.object_graph.specs.Graphs.{Graph}
use Rattle.heap_model.specs.Types.{Cell}
use Rattle.heap_model.specs.Heaps.{HasCell}
use Rattle.heap_model.proofs.CellsApart.{cells_apart, first_of_cell, has_is_cell, one_at}
use Rattle.heap_moves.specs.Moved.{moved_to}
use Rattle.live_cells.specs.Exact.{IsWordOf}
use Rattle.live_cells.proofs.ReachedUsed.{reached_used, used_not_free}
use Rattle.cycle_laws.specs.Scavenges.{IsPromoted}
use Rattle.write_barrier.specs.MutatorState.{Mutator, heap_of, MainShows}
use Rattle.scav_copy.specs.declared.places.Home.{Home}
use Rattle.scav_copy.specs.Places.{size_of}
use Rattle.scavenger.specs.Starts.{start_of}
use Rattle.scavenger.specs.Filling.{IsInPromoted}
use Rattle.scavenger.specs.Scavenged.{Scavenges, place_after}
use Rattle.scavenger.proofs.EndPlaces.{StaysAt, stays_at}
use Rattle.scavenger.proofs.PromotedCells.{copy_at}
use Rattle.scavenger.proofs.StartReadings.{low_within, size_is}
use Rattle.scavenger.proofs.TakenWords.{of_promoted}
use Rattle.collector.specs.Promoting.{homes_before, promoted_by, ScavengesPromote}

-- the home that stands at an address before another
record IsHomeBefore (homes : List Home) (end at : ℕ) : Type 0 where
  home : Home
  among : Contains homes home
  to : home.to ≡ at
  below : home.to < end

-- the first home, where it is before the address
first_before : (home : Home) (homes : List Home) (end : ℕ) → home.to < end
    → homes_before end (home ∷ homes) ≡ home.to ∷ homes_before end homes
first_before home homes end below = grind (arith, nat_tests)

-- and where it is not
others_before : (home : Home) (homes : List Home) (end : ℕ) → end ≤ home.to
    → homes_before end (home ∷ homes) ≡ homes_before end homes
others_before home homes end behind = grind (arith, nat_tests)

-- each of these addresses is a home's
home_before : (homes : List Home) (end at : ℕ) → Contains (homes_before end homes) at → IsHomeBefore homes end at
home_before [] end at there = absurd (omega (arith, there.1))
home_before (home ∷ homes) end at there = elim (cases_lt home.to end) [
  | inr behind ↦
      let rest = home_before homes end at (subst (λ all. Contains all at) (others_before home homes end behind) there)
      in record { home = rest.home; among = rest_in home homes rest.home rest.among; to = rest.to; below = rest.below }
  | inl below ↦
      elim (in_cases home.to (homes_before end homes) at
      (subst (λ all. Contains all at) (first_before home homes end below) there)) [
        | inl same ↦ record { home = home; among = first_in home homes; to = same; below = below }
        | inr later ↦
            let rest = home_before homes end at later in record {
              home = rest.home;
              among = rest_in home homes rest.home rest.among;
              to = rest.to;
              below = rest.below;
            }
      ]
]

-- and each home before the address is one of them
before_home : (homes : List Home) (end : ℕ) (home : Home) → Contains homes home → home.to < end
    → Contains (homes_before end homes) home.to
before_home [] end home there below = absurd (omega (arith, there.1))
before_home (first ∷ homes) end home there below = elim (in_cases first homes home there) [
  | inl same ↦
      let here : first.to < end = subst (λ (one : Home). one.to < end) (sym same) below in
      subst (λ all. Contains all home.to) (sym (first_before first homes end here))
      (subst (Contains (first.to ∷ homes_before end homes)) (ap (λ (one : Home). one.to) same)
      (first_in first.to (homes_before end homes)))
  | inr later ↦
      let rest = before_home homes end home later below in
      elim (cases_lt first.to end) [
        | inl here ↦
            subst (λ all. Contains all home.to) (sym (first_before first homes end here))
            (rest_in first.to (homes_before end homes) home.to rest)
        | inr behind ↦ subst (λ all. Contains all home.to) (sym (others_before first homes end behind)) rest
      ]
]

module _ {old new : Mutator} {graph : Graph} {all : Bool} (limits : IsSpace old.seat.space)
    (shows : MainShows old graph) (scavenged : Scavenges old new all) where
  -- a cell has as many words as its copy
  long_as_copy : (home : Home) (among : Contains scavenged.homes home)
      → size_of scavenged.fixed home.from ≡ (copy_at scavenged home among).is.cell.size
  long_as_copy home among =
      let is = (copy_at scavenged home among).is in
      subst (λ n. size_of scavenged.fixed n ≡ is.cell.size) is.stands
      (size_is scavenged.begins (low_within old.seat.space limits) is.cell (has_is_cell is.has))

  -- a cell that was promoted
  each : (at : ℕ) → Contains (promoted_by scavenged) at
      → IsPromoted (heap_of old) (place_after (start_of old) scavenged.homes) at
  each at there =
      let is = home_before scavenged.homes (eden_start old.seat.space) at there in
      let copy = copy_at scavenged is.home is.among in
      let some = (first_of_cell copy.is.has).below in
      let inside : IsInPromoted (start_of old) scavenged.fixed scavenged.homes is.home.to = (
        is.home,
        is.among,
        is.below,
        record {
          from = omega arith;
          below = omega (arith, some, long_as_copy is.home is.among);
        },
      ) in
      let one = of_promoted old new graph all is.home.to shows scavenged inside in
      let moved : Cell = moved_to one.cell one.now in
      let copied : Cell = moved_to copy.is.cell is.home.to in
      let same : moved ≡ copied =
      cells_apart {cell = moved} {other = copied} is.home.to scavenged.moved.rows one.has copy.stands.has
      (record { from = one.from; below = one.below }) (first_of_cell copy.stands.has) in
      record {
        cell = copy.is.cell;
        words = copy.is.words;
        has = copy.is.has;
        used = λ free. used_not_free (reached_used shows.shows.whole one.reached) one.had refl
            (ap (λ (it : Cell). is_free_kind it.layout.kind) {x = moved} {y = copied} same ∙ free);
        young = omega (arith, copy.is.young, copy.is.stands);
        came =
            subst (λ n. place_after (start_of old) scavenged.homes copy.is.cell.at ≡ Some n) is.to copy.came;
        of_page = omega (arith, is.to, is.below);
      }

  -- each word of one was in a free run
  taken : (cell : Cell) (words : List ℕ) (at : ℕ) → HasCell (heap_of new) cell words
      → Contains (promoted_by scavenged) cell.at → IsWordOf cell at → IsFreeWord old.free at
  taken cell words at has there word =
      let is = home_before scavenged.homes (eden_start old.seat.space) cell.at there in
      let copy = copy_at scavenged is.home is.among in
      let same : cell ≡ moved_to copy.is.cell is.home.to = one_at has copy.stands.has (sym is.to) in
      let size : cell.size ≡ copy.is.cell.size = ap (λ (it : Cell). it.size) same in
      (scavenged.left at).1 (inr (
        is.home,
        is.among,
        is.below,
        record {
          from = omega (arith, is.to, word.from);
          below = omega (arith, is.to, size, word.below, long_as_copy is.home is.among);
        },
      ))

  -- what stays of a page stays in its place
  in_place : (at now : ℕ) → at < eden_start old.seat.space
      → place_after (start_of old) scavenged.homes at ≡ Some now → now ≡ at
  in_place at now below stays = elim (stays_at (start_of old) scavenged.homes at now stays) [
    | StaysAt.in_page here none same ↦ sym same
    | StaysAt.at_home above is ↦ absurd (omega (arith, below, above))
  ]

  -- a young cell that stays is young, or was promoted
  young_or_promoted : (at now : ℕ) → eden_start old.seat.space ≤ at
      → place_after (start_of old) scavenged.homes at ≡ Some now
      → (eden_start old.seat.space ≤ now) ⊎ Contains (promoted_by scavenged) now
  young_or_promoted at now young stays = elim (stays_at (start_of old) scavenged.homes at now stays) [
    | StaysAt.in_page here none same ↦ absurd (omega (arith, here, young))
    | StaysAt.at_home above is ↦ elim (cases_lt is.home.to (eden_start old.seat.space)) [
      | inl below ↦
          inr (subst (Contains (promoted_by scavenged)) is.to
          (before_home scavenged.homes (eden_start old.seat.space) is.home is.among below))
      | inr behind ↦ inl (omega (arith, is.to, behind))
    ]
  ]

-- so a scavenge promotes to them
pub scavenges_promote : ScavengesPromote
scavenges_promote old new graph all limits shows scavenged = (
  record {
    moved = scavenged.moved;
    in_place = in_place limits shows scavenged;
    young = young_or_promoted limits shows scavenged;
    each = each limits shows scavenged;
  },
  record {
    taken = taken limits shows scavenged;
    left = λ at is_free. (scavenged.left at).1 (inl is_free);
  },
)
