-- A cycle that begins with cells of pages, each of them published and born.
use Rattle.std.specs.Prelude.{◌≡◌, ◌≤◌, ℕ, ◌+◌, ◌==◌, ◌&&◌, ◌||◌, Bool, true, false, not, List, [], Option, Some, None}
use Rattle.std.specs.Prelude.{◌∷◌, nat_lt, replicate, slice_index}
use Rattle.std.specs.List.{list_all, range_with_len}
use Rattle.tagged_word.specs.declared.reading.Reading.{Reading}
use Rattle.core_parts.specs.Lists.{is_in}
use Rattle.mark_world.specs.Cycles.{Cycle}
use Rattle.mark_world.specs.Pages.{cell_at, is_inside, slots_of, target}
use Rattle.shared_table.specs.declared.overview.Overview.{Overview}
use Rattle.shared_table.specs.declared.phase.Phase.TheVariants.{Mark}
use Rattle.shared_table.specs.Owned.{Own}

-- the cells of this list are published and born
abbrev pub these_cells : List ℕ → Cycle
these_cells starts = record { starts = starts; born = starts; mine = []; sure = []; reached = []; made = 0; dead = [] }

-- where the three cells of a page begin
abbrev pub three_starts : List ℕ
three_starts = 0 ∷ 1024 ∷ 1027 ∷ []

-- it is the cycle of these three
abbrev pub IsOfThree : Own → ℕ → Overview → Cycle → Type 0
IsOfThree own made main cycle = cycle ≡ these_cells three_starts

-- whether another cell begins outside a cell, or is it
abbrev pub is_apart : ℕ → Reading → ℕ → Bool
is_apart at cell other = at == other || not (is_inside at (Some cell) other)

-- whether a target, if there is one, is a cell of the list
abbrev pub is_among : List ℕ → Option ℕ → Bool
is_among starts None = true
is_among starts (Some to) = is_in starts to

-- whether an offset of a cell is that of no tagged slot, or the word there refers to a cell of the list, or to no old
-- cell
abbrev pub slot_fits : ℕ → List ℕ → List ℕ → ℕ → Reading → ℕ → Bool
slot_fits old words starts at cell offset =
    not (is_in (slots_of cell) offset) || is_among starts (target old (slice_index words (at + offset)))

-- whether there is a cell in which no other of the list begins, and whose tagged slots refer to none but those
abbrev pub cell_fits : ℕ → List ℕ → List ℕ → ℕ → Option Reading → Bool
cell_fits old words starts at None = false
cell_fits old words starts at (Some cell) =
    list_all (λ other. is_apart at cell other) starts
    && list_all (λ offset. slot_fits old words starts at cell offset) (range_with_len 0 cell.size)

-- whether such a cell of a page begins at an address
abbrev pub stands : ℕ → List ℕ → List ℕ → List ℕ → ℕ → Bool
stands old words layouts starts at =
    nat_lt at old && cell_fits old words starts at (cell_at old words layouts at)

-- whether such cells begin at the addresses of the list
abbrev pub are_cells : ℕ → List ℕ → List ℕ → List ℕ → Bool
are_cells old words layouts starts = list_all (λ at. stands old words layouts starts at) starts

-- a cycle is open that began with these cells, which are white; nothing waits
pub record HasThese (main : Overview) (starts : List ℕ) : Type 0 where
  pub phase : main.phase ≡ Mark
  pub home : main.home ≡ true
  pub published : main.view.starts ≡ starts
  pub born : main.view.born ≡ starts
  pub grey : main.view.grey ≡ []
  pub white : main.colours ≡ replicate main.old 0
  pub out : main.out ≡ 0

-- a cycle is open in which the three cells of a page are published and born
pub record IsOpenWithThree (main : Overview) : Type 0 where
  pub phase : main.phase ≡ Mark
  pub page : 2048 ≤ main.old
  pub starts : main.view.starts ≡ three_starts
  pub born : main.view.born ≡ three_starts
