-- A sum over the regions of cells to which the segments of workers alone add something: the words of their copies.
use Rattle.std.proofs.Common.{◌≡◌, ℕ, ◌+◌, ◌<◌, ◌≤◌, inl, inr, List, [], ◌∷◌, Contains, sum_by}
use Rattle.std.proofs.Common.{◌==◌, if◌then◌else◌, refl, sym, ◌∙◌, ap, arith}
use Rattle.std.proofs.lemmas.Bool.Decides.{nat_tests}
use Rattle.std.proofs.lemmas.List.Sums.{sum_by-cons}
use Rattle.tagged_word.proofs.Members.{first_in, rest_in, in_cases}
use Rattle.page_space.specs.Extents.{Space, Stretch, Extent, cell_stretches, extents_from, half_segments}
use Rattle.page_space.specs.RegionLaws.{IsSpace}
use Rattle.page_space.proofs.Covering.{between}
use Rattle.page_space.proofs.LawsHold.{regions_stand_once}
use Rattle.heap_model.specs.Heaps.{cell_extents}
use Rattle.heap_model.proofs.BoundHeaps.{none_in}
use Rattle.heap_model.proofs.CellsApart.{cell_extent_stands}
use Rattle.heap_model.proofs.RegionStarts.{start_is_in}
use Rattle.scav_copy.specs.Places.{Fixed}
use Rattle.scavenger.specs.Starts.{SegmentCopies, segment_from}
use Rattle.scavenger.specs.Filling.{words_of_homes, words_of_segments}
use Rattle.scavenger.proofs.ClimbingWorkers.{Climb, climbs_from}
use Rattle.scavenger.proofs.SegmentRooms.{segments_apart}
use Rattle.scavenger.proofs.EndRanges.{segment_extent, segment_starts, segment_among}

-- so many at the region that begins at this address, and else nothing
abbrev pub adds_at : ℕ → ℕ → Extent → ℕ
adds_at start many extent = if extent.start == start then many else 0

-- there it is so many
pub adds_there : (start many : ℕ) (extent : Extent) → extent.start ≡ start → adds_at start many extent ≡ many
adds_there start many extent same = grind (arith, nat_tests)

-- and elsewhere nothing
pub adds_nothing : (start many : ℕ) (extent : Extent) → (extent.start ≡ start → ⊥) → adds_at start many extent ≡ 0
adds_nothing start many extent other = grind (arith, nat_tests)

-- behind the address nothing is added
none_behind : (start many at : ℕ) (all : List Stretch) → start < at
    → sum_by (adds_at start many) (extents_from at all) ≡ 0
none_behind start many at [] below = refl
none_behind start many at (stretch ∷ more) below =
    let first : Extent = record { region = stretch.region; start = at; words = stretch.words } in
    omega (
      arith,
      sum_by-cons (adds_at start many) first (extents_from (at + stretch.words) more),
      adds_nothing start many first (λ same. omega (arith, below, same)),
      none_behind start many (at + stretch.words) more (omega (arith, below)),
    )

-- each region has a word
abbrev HaveWords : List Extent → Type 0
HaveWords all = (extent : Extent) → Contains all extent → 1 ≤ extent.words

-- where one begins at the address, it alone adds so many
one_adds : (start many at : ℕ) (all : List Stretch) (extent : Extent) → HaveWords (extents_from at all)
    → Contains (extents_from at all) extent → extent.start ≡ start
    → sum_by (adds_at start many) (extents_from at all) ≡ many
one_adds start many at [] extent some there same = absurd (none_in extent there)
one_adds start many at (stretch ∷ more) extent some there same =
    let first : Extent = record { region = stretch.region; start = at; words = stretch.words } in
    let rest : List Extent = extents_from (at + stretch.words) more in
    let parts = sum_by-cons (adds_at start many) first rest in
    let long : 1 ≤ stretch.words = some first (first_in first rest) in
    elim (in_cases first rest extent there) [
      | inl is ↦
          let begins : at ≡ start = ap (λ (one : Extent). one.start) is ∙ same in
          omega (
            arith,
            parts,
            adds_there start many first begins,
            none_behind start many (at + stretch.words) more (omega (arith, begins, long)),
          )
      | inr later ↦
          let behind = (between (at + stretch.words) more extent later).from in
          omega (
            arith,
            parts,
            adds_nothing start many first (λ here. omega (arith, here, same, long, behind)),
            one_adds start many (at + stretch.words) more extent
                (λ one among. some one (rest_in first rest one among)) later same,
          )
    ]

-- a region of cells has a word
has_words : (space : Space) → IsSpace space → HaveWords (cell_extents space)
has_words space limits extent among =
    let inside = start_is_in space extent limits among in
    let same : inside.extent ≡ extent =
    regions_stand_once space inside.extent extent inside.stands (cell_extent_stands space extent among)
    inside.of_region in
    omega (
      arith,
      ap (λ (one : Extent). one.start) same,
      ap (λ (one : Extent). one.words) same,
      inside.holds.below,
    )

-- so is the sum over the regions of cells
pub cells_add : (space : Space) (extent : Extent) (many : ℕ) → IsSpace space → Contains (cell_extents space) extent
    → sum_by (adds_at extent.start many) (cell_extents space) ≡ many
cells_add space extent many limits among =
    one_adds extent.start many 0 (cell_stretches space) extent (has_words space limits) among refl

-- a sum of two measures is the sum of both sums
two_sums : {X : Type 0} (f g : X → ℕ) (all : List X) → sum_by (λ x. f x + g x) all ≡ sum_by f all + sum_by g all
two_sums f g [] = refl
two_sums {X} f g (x ∷ all) =
    omega (
      arith,
      sum_by-cons (λ (y : X). f y + g y) x all,
      sum_by-cons f x all,
      sum_by-cons g x all,
      two_sums f g all,
    )

-- nothing adds nothing
no_sum : {X : Type 0} (all : List X) → sum_by (λ x. 0) all ≡ 0
no_sum [] = refl
no_sum {X} (x ∷ all) = omega (arith, sum_by-cons (λ (y : X). 0) x all, no_sum all)

-- how many words the copies have in a region: those of the segments that stand there
abbrev pub adds_all : Space → ℕ → Fixed → List SegmentCopies → Extent → ℕ
adds_all space half fixed [] extent = 0
adds_all space half fixed (segment ∷ more) extent =
    adds_at (segment_from space half segment.worker) (words_of_homes fixed segment.homes) extent
    + adds_all space half fixed more extent

-- nothing, where no segment begins with it
pub adds_all_nothing : (space : Space) (half : ℕ) (fixed : Fixed) (segments : List SegmentCopies) (extent : Extent)
    → ((segment : SegmentCopies) → Contains segments segment → extent.start ≡ segment_from space half segment.worker
    → ⊥)
    → adds_all space half fixed segments extent ≡ 0
adds_all_nothing space half fixed [] extent none = refl
adds_all_nothing space half fixed (segment ∷ more) extent none =
    omega (
      arith,
      adds_nothing (segment_from space half segment.worker) (words_of_homes fixed segment.homes) extent
          (none segment (first_in segment more)),
      adds_all_nothing space half fixed more extent
          (λ other there. none other (rest_in segment more other there)),
    )

-- where one does, the words of its copies
pub adds_all_there : (space : Space) (half from : ℕ) (fixed : Fixed) (segments : List SegmentCopies) (extent : Extent)
    (segment : SegmentCopies) → 1 ≤ space.sizes.young → Climb from segments → Contains segments segment
    → extent.start ≡ segment_from space half segment.worker
    → adds_all space half fixed segments extent ≡ words_of_homes fixed segment.homes
adds_all_there space half from fixed [] extent segment some climb there starts = absurd (none_in segment there)
adds_all_there space half from fixed (first ∷ more) extent segment some climb there starts =
    let own = adds_at (segment_from space half first.worker) (words_of_homes fixed first.homes) extent in
    elim (in_cases first more segment there) [
      | inl same ↦
          let begins : extent.start ≡ segment_from space half first.worker =
          starts ∙ ap (λ (one : SegmentCopies). segment_from space half one.worker) (sym same) in
          omega (
            arith,
            ap (λ (one : SegmentCopies). words_of_homes fixed one.homes) same,
            adds_there (segment_from space half first.worker) (words_of_homes fixed first.homes) extent begins,
            adds_all_nothing space half fixed more extent (λ other later is.
                omega (
                  arith,
                  begins,
                  is,
                  some,
                  segments_apart space half first.worker other.worker
                      (omega (arith, climbs_from (first.worker + 1) more other climb.1 later)),
                )),
          )
      | inr later ↦
          omega (
            arith,
            adds_nothing (segment_from space half first.worker) (words_of_homes fixed first.homes) extent (λ is.
                omega (
                  arith,
                  starts,
                  is,
                  some,
                  segments_apart space half first.worker segment.worker
                      (omega (arith, climbs_from (first.worker + 1) more segment climb.1 later)),
                )),
            adds_all_there space half (first.worker + 1) fixed more extent segment some climb.1 later starts,
          )
    ]

-- over all regions of cells they add the words of all copies
pub all_cells_add : (space : Space) (half : ℕ) (fixed : Fixed) (segments : List SegmentCopies) → IsSpace space
    → half ≤ 1 → ((segment : SegmentCopies) → Contains segments segment → segment.worker < half_segments space)
    → sum_by (adds_all space half fixed segments) (cell_extents space) ≡ words_of_segments fixed segments
all_cells_add space half fixed [] limits two known = no_sum (cell_extents space)
all_cells_add space half fixed (segment ∷ more) limits two known =
    let many : ℕ = words_of_homes fixed segment.homes in
    let from : ℕ = segment_from space half segment.worker in
    let extent : Extent = segment_extent space half segment.worker in
    let one : sum_by (adds_at from many) (cell_extents space) ≡ many =
    ap (λ (at : ℕ). sum_by (adds_at at many) (cell_extents space)) (sym (segment_starts space half segment.worker))
    ∙ cells_add space extent many limits
    (segment_among space half segment.worker two (known segment (first_in segment more))) in
    let rest = all_cells_add space half fixed more limits two
    (λ other there. known other (rest_in segment more other there)) in
    omega (
      arith,
      two_sums (adds_at from many) (adds_all space half fixed more) (cell_extents space),
      one,
      rest,
      sum_by-cons (λ (other : SegmentCopies). words_of_homes fixed other.homes) segment more,
    )
