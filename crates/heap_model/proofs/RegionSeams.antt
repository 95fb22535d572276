-- The walk from region to region: an address between two of them, and the next.
use Rattle.std.proofs.Common.{◌≡◌, ℕ, ◌+◌, ◌≤◌, List, [], ◌∷◌, ◌++◌, Contains, refl, sym}
use Rattle.std.proofs.Common.{◌∙◌, ap, subst, arith}
use Rattle.std.proofs.Common.{append_assoc, append-nil}
use Rattle.page_space.specs.Extents.{Space, Stretch, Extent, CellsEndAt, cell_stretches, extents_from, words_in}
use Rattle.page_space.specs.Extents.{roots_start}
use Rattle.page_space.specs.RegionLaws.{IsSpace}
use Rattle.tagged_word.proofs.Members.{first_in}
use Rattle.page_space.proofs.Stretches.{words_in-append, words_in-cons, stands_then}
use Rattle.page_space.proofs.Covering.{disjoint}
use Rattle.page_space.proofs.CellEnds.{before_end, end_before_roots}
use Rattle.heap_model.specs.Heaps.{cell_extents}
use Rattle.heap_model.specs.RegionRows.{StandsBetween}
use Rattle.heap_model.proofs.CellsApart.{cell_extent_stands}
use Rattle.heap_model.proofs.RegionStarts.{holds_first}

-- the regions before the address, and those behind it
pub record IsSeam (space : Space) (at : ℕ) : Type 0 where
  pub done : List Stretch
  pub rest : List Stretch
  pub joined : cell_stretches space ≡ done ++ rest
  pub reached : words_in done ≡ at

-- nothing was passed
abbrev pub first_seam : (space : Space) → IsSeam space 0
first_seam space = record { done = []; rest = cell_stretches space; joined = refl; reached = refl }

-- the region between two addresses, where one more is passed
pub record IsNextSeam (space : Space) (at end : ℕ) (seam : IsSeam space at) : Type 0 where
  pub stretch : Stretch
  pub next : IsSeam space end
  pub grown : next.done ≡ seam.done ++ stretch ∷ []
  pub among : Contains (cell_extents space) (record { region = stretch.region; start = at; words = stretch.words })
  pub ends : at + stretch.words ≡ end

-- all regions together end where the roots begin
words_are : (space : Space) (at : ℕ) (seam : IsSeam space at) → at + words_in seam.rest ≡ roots_start space
unfolding roots_start
words_are space at seam =
    omega (arith, seam.reached, words_in-append seam.done seam.rest, ap words_in seam.joined)

-- the first region behind the seam
first_behind : (space : Space) (at : ℕ) (seam : IsSeam space at) (stretch : Stretch) (more : List Stretch)
    → seam.rest ≡ stretch ∷ more
    → Contains (cell_extents space) (record { region = stretch.region; start = at; words = stretch.words })
first_behind space at seam stretch more is =
    let extent : Extent = record { region = stretch.region; start = at; words = stretch.words } in
    let All : List Stretch → Type 0 = λ all. Contains (extents_from 0 all) extent in
    let Behind : List Stretch → Type 0 = λ rest. Contains (extents_from at rest) extent in
    let From : ℕ → Type 0 = λ start. Contains (extents_from start seam.rest) extent in
    let there : Behind seam.rest =
    subst Behind (sym is) (first_in extent (extents_from (at + stretch.words) more)) in
    subst All (sym seam.joined)
    (stands_then 0 seam.done seam.rest extent (subst From (sym seam.reached ∙ omega arith) there))

-- the seam behind the next region
next_of : (space : Space) (at end : ℕ) (seam : IsSeam space at) (stretch : Stretch) (more : List Stretch)
    → IsSpace space → CellsEndAt space at end → seam.rest ≡ stretch ∷ more → IsNextSeam space at end seam
next_of space at end seam stretch more limits cells is =
    let extent : Extent = record { region = stretch.region; start = at; words = stretch.words } in
    let there = first_behind space at seam stretch more is in
    let stands = cell_extent_stands space extent there in
    let same : cells.extent ≡ extent =
    disjoint space cells.extent extent at cells.stands stands cells.holds (holds_first space extent limits there) in
    let ends : at + stretch.words ≡ end = ap (λ (e : Extent). e.start + e.words) (sym same) ∙ cells.ends in
    record {
      stretch = stretch;
      next = record {
        done = seam.done ++ stretch ∷ [];
        rest = more;
        joined = seam.joined ∙ ap (λ rest. seam.done ++ rest) is ∙ sym (append_assoc seam.done (stretch ∷ []) more);
        reached = omega (
          arith,
          words_in-append seam.done (stretch ∷ []),
          words_in-cons stretch [],
          seam.reached,
          ends,
        );
      };
      grown = refl;
      among = there;
      ends = ends;
    }

-- the regions behind an address, as they are
next_by : (space : Space) (at end : ℕ) (seam : IsSeam space at) (rest : List Stretch) → IsSpace space
    → CellsEndAt space at end → seam.rest ≡ rest → IsNextSeam space at end seam
next_by space at end seam [] limits cells is =
    absurd (omega (
      arith,
      before_end space at end cells,
      end_before_roots space at end cells,
      words_are space at seam,
      ap words_in is,
    ))
next_by space at end seam (stretch ∷ more) limits cells is = next_of space at end seam stretch more limits cells is

-- where cells end behind the address, a region begins at it
pub next_seam : (space : Space) (at end : ℕ) (seam : IsSeam space at) → IsSpace space → CellsEndAt space at end
    → IsNextSeam space at end seam
next_seam space at end seam limits cells = next_by space at end seam seam.rest limits cells refl

-- that region stands from the one address to the other
pub seam_stands : (space : Space) (at end : ℕ) → IsSeam space at → IsSpace space → CellsEndAt space at end
    → StandsBetween space at end
seam_stands space at end seam limits cells =
    let next = next_seam space at end seam limits cells in
    record {
      extent = record { region = next.stretch.region; start = at; words = next.stretch.words };
      among = next.among;
      starts = refl;
      ends = next.ends;
    }

-- at the roots no region is left, as they are
none_by : (space : Space) (at : ℕ) (seam : IsSeam space at) (rest : List Stretch) → IsSpace space
    → roots_start space ≤ at → seam.rest ≡ rest → seam.rest ≡ []
none_by space at seam [] limits past is = is
none_by space at seam (stretch ∷ more) limits past is =
    let extent : Extent = record { region = stretch.region; start = at; words = stretch.words } in
    let there = first_behind space at seam stretch more is in
    let some = (holds_first space extent limits there).below in
    absurd (omega (arith, words_are space at seam, ap words_in is, words_in-cons stretch more, some, past))

-- where the roots begin no region is passed by
pub seam_at_roots : (space : Space) (at : ℕ) (seam : IsSeam space at) → IsSpace space → roots_start space ≤ at
    → at ≡ roots_start space
seam_at_roots space at seam limits past =
    omega (arith, words_are space at seam, ap words_in (none_by space at seam seam.rest limits past refl))

-- at the roots all regions are passed
pub all_done : (space : Space) (at : ℕ) (seam : IsSeam space at) → IsSpace space → roots_start space ≤ at
    → seam.done ≡ cell_stretches space
all_done space at seam limits past =
    let none = none_by space at seam seam.rest limits past refl in
    sym (seam.joined ∙ ap (λ rest. seam.done ++ rest) none ∙ append-nil seam.done)
