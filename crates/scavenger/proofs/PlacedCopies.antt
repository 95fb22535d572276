-- Where copies are stays as it is to be: one that is promoted has a free run, or none has its words.
use Rattle.std.proofs.Common.{ℕ, ◌<◌, ◌≤◌, ◌≡◌, inl, inr, Bool, List, ap, subst, arith, sym}
use Rattle.page_space.specs.Extents.{eden_start}
use Rattle.page_space.specs.Sizes.{page_words}
use Rattle.free_runs.specs.FreeRuns.{FitsNowhere, TakesFront, longest_of}
use Rattle.free_runs.proofs.Takes.{longest_tells, takes_make_none_longer}
use Rattle.heap_model.specs.Types.{Run}
use Rattle.scav_copy.specs.declared.places.Home.{Home}
use Rattle.scav_copy.specs.Places.{Fixed, size_of}
use Rattle.scav_copy.specs.Copies.{with_home}
use Rattle.scav_copy.proofs.Ascending.{joined_is}
use Rattle.scavenger.specs.Starts.{Start}
use Rattle.scavenger.specs.Walking.{IsWellPlaced, IsToPromote}

-- where so many words fit nowhere, more don't
more_fit_nowhere : (rows : List (List Run)) (few many : ℕ) → 1 ≤ few → few ≤ many → FitsNowhere rows few
    → FitsNowhere rows many
more_fit_nowhere rows few many some less none =
    let short : longest_of rows < few = (longest_tells rows few some).1 none in
    (longest_tells rows many (omega (arith, some, less))).0 (omega (arith, short, less))

-- and they don't once words of a run were taken
taken_fit_nowhere : (rows left : List (List Run)) (size n : ℕ) (run : Run) → TakesFront rows left size run → 1 ≤ n
    → FitsNowhere rows n → FitsNowhere left n
taken_fit_nowhere rows left size n run takes some none =
    let short : longest_of rows < n = (longest_tells rows n some).1 none in
    let no_longer = takes_make_none_longer rows left size run takes in
    (longest_tells left n some).0 (omega (arith, short, no_longer))

module _ {start : Start} {fixed : Fixed} {rows : List (List Run)} {homes : List Home} {all : Bool} {refused : ℕ}
    (placed : IsWellPlaced start fixed rows homes all refused) (cell to : ℕ) where
  -- the homes with that of the cell
  abbrev placed_homes : List Home
  placed_homes = with_home homes (record { from = cell; to = to })

  -- with a copy in the segment, of which this is known where it is to be promoted
  pub placed_behind : (refuses : ℕ) → eden_start start.heap.space ≤ to → refuses ≤ refused
      → (IsToPromote start.heap.space all cell → refuses ≤ size_of fixed cell)
      → ((n : ℕ) → 1 ≤ n → refuses ≤ n → n ≤ page_words → FitsNowhere rows n)
      → IsWellPlaced start fixed rows placed_homes all refuses
  placed_behind refuses young fewer long none = record {
    promoted = λ home there of_page. elim (joined_is homes (record { from = cell; to = to }) home there) [
      | inl same ↦
          let at : to ≡ home.to = ap (λ (one : Home). one.to) same in
          absurd (omega (arith, at, of_page, young))
      | inr among ↦ placed.promoted home among of_page
    ];
    stayed = λ home there promote. elim (joined_is homes (record { from = cell; to = to }) home there) [
      | inl same ↦
          let from : cell ≡ home.from = ap (λ (one : Home). one.from) same in
          inr (subst (λ (one : ℕ). refuses ≤ size_of fixed one) from
          (long (subst (IsToPromote start.heap.space all) (sym from) promote)))
      | inr among ↦ elim (placed.stayed home among promote) [
        | inl of_page ↦ inl of_page
        | inr many ↦ inr (omega (arith, many, fewer))
      ]
    ];
    none_fits = none;
  }

  -- so it is where no run was asked for, or none with its words is left
  pub placed_on : eden_start start.heap.space ≤ to
      → (IsToPromote start.heap.space all cell → refused ≤ size_of fixed cell)
      → IsWellPlaced start fixed rows placed_homes all refused
  placed_on young long = placed_behind refused young (omega arith) long placed.none_fits

  -- and where none has its words
  pub placed_refused : eden_start start.heap.space ≤ to → 1 ≤ size_of fixed cell → size_of fixed cell < refused
      → FitsNowhere rows (size_of fixed cell) → IsWellPlaced start fixed rows placed_homes all (size_of fixed cell)
  placed_refused young some less none =
      placed_behind (size_of fixed cell) young (omega (arith, less)) (λ promote. omega arith)
      (λ n one many few. more_fit_nowhere rows (size_of fixed cell) n some many none)

  -- with a copy in a free run
  pub placed_in_page : (left : List (List Run)) (size : ℕ) (run : Run) → TakesFront rows left size run
      → to < eden_start start.heap.space → IsToPromote start.heap.space all cell
      → IsWellPlaced start fixed left placed_homes all refused
  placed_in_page left size run takes of_page promote = record {
    promoted = λ home there low. elim (joined_is homes (record { from = cell; to = to }) home there) [
      | inl same ↦ subst (λ (one : Home). IsToPromote start.heap.space all one.from) same promote
      | inr among ↦ placed.promoted home among low
    ];
    stayed = λ home there is. elim (joined_is homes (record { from = cell; to = to }) home there) [
      | inl same ↦ inl (subst (λ (one : Home). one.to < eden_start start.heap.space) same of_page)
      | inr among ↦ placed.stayed home among is
    ];
    none_fits = λ n some many few. taken_fit_nowhere rows left size n run takes some (placed.none_fits n some many few);
  }
