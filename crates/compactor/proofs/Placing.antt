-- The places of cells that stand together: in order, apart, and no later than the cells themselves.
use Rattle.std.proofs.Common.{◌≡◌, ℕ, ◌+◌, ◌≤◌, ◌<◌, inl, inr, Bool, true, false, List, [], ◌∷◌, ◌++◌, Contains}
use Rattle.std.proofs.Common.{refl, ◌∙◌, ap, subst, arith, if◌then◌else◌}
use Rattle.tagged_word.proofs.Members.{first_in, rest_in, in_cases}
use Rattle.page_space.specs.Extents.{Space}
use Rattle.cell_layout.specs.Cells.{IsRow}
use Rattle.cell_layout.proofs.Rows.{cell_within, row_begins, row_of_none}
use Rattle.heap_model.specs.Types.{Cell}
use Rattle.heap_model.proofs.BoundHeaps.{none_in}
use Rattle.compactor.specs.Tables.{Table, place_in}
use Rattle.compactor.specs.Sliding.{ArePlaced, is_kept, kept_words, slid_end}

-- a kept cell has its words
pub kept_has : (cell : Cell) → is_kept cell ≡ true → kept_words cell ≡ cell.size
kept_has cell kept = ap (λ (test : Bool). if test then cell.size else 0) kept

-- and a free one none
pub free_has : (cell : Cell) → is_kept cell ≡ false → kept_words cell ≡ 0
free_has cell free = ap (λ (test : Bool). if test then cell.size else 0) free

-- a cell has no more words afterwards, by whether it is kept
few_by : (test : Bool) (cell : Cell) → (if test then cell.size else 0) ≤ cell.size
few_by true cell = omega arith
few_by false cell = omega arith

-- so it has no more
pub kept_few : (cell : Cell) → kept_words cell ≤ cell.size
kept_few cell = few_by (is_kept cell) cell

-- cells stand together behind others
pub slid_end_append : (next : ℕ) (cells others : List Cell)
    → slid_end next (cells ++ others) ≡ slid_end (slid_end next cells) others
slid_end_append next [] others = refl
slid_end_append next (cell ∷ cells) others = slid_end_append (next + kept_words cell) cells others

-- they end no earlier than they begin
pub slid_ascends : (next : ℕ) (cells : List Cell) → next ≤ slid_end next cells
slid_ascends next [] = omega arith
slid_ascends next (cell ∷ cells) = omega (arith, slid_ascends (next + kept_words cell) cells)

-- and no later than the row of the cells, if they begin no later
pub slid_within : (space : Space) (words : List ℕ) (next at end : ℕ) (cells : List Cell)
    → IsRow space words at end cells → next ≤ at → slid_end next cells ≤ end
slid_within space words next at end [] row before = omega (arith, row_of_none row, before)
slid_within space words next at end (cell ∷ cells) row before =
    let begins = row_begins row in
    slid_within space words (next + kept_words cell) (cell.at + cell.size) end cells begins.rest
    (omega (arith, before, begins.starts, kept_few cell))

-- places of cells and of others behind them
pub placed_append : (table : Table) (next : ℕ) (cells others : List Cell) → ArePlaced table next cells
    → ArePlaced table (slid_end next cells) others → ArePlaced table next (cells ++ others)
placed_append table next [] others placed more = more
placed_append table next (cell ∷ cells) others placed more =
    (placed.0, placed_append table (next + kept_words cell) cells others placed.1 more)

-- places of the first of some cells
pub placed_front : (table : Table) (next : ℕ) (cells others : List Cell) → ArePlaced table next (cells ++ others)
    → ArePlaced table next cells
placed_front table next [] others placed = tt
placed_front table next (cell ∷ cells) others placed =
    (placed.0, placed_front table (next + kept_words cell) cells others placed.1)

-- places stay where the table has the same for these cells
pub placed_stay : (table other : Table) (next : ℕ) (cells : List Cell)
    → ((cell : Cell) → Contains cells cell → place_in other cell.at ≡ place_in table cell.at)
    → ArePlaced table next cells → ArePlaced other next cells
placed_stay table other next [] same placed = tt
placed_stay table other next (cell ∷ cells) same placed = (
  λ kept. same cell (first_in cell cells) ∙ placed.0 kept,
  placed_stay table other (next + kept_words cell) cells (λ one there. same one (rest_in cell cells one there))
      placed.1,
)

-- where the place of a kept cell is
pub record IsWithin (table : Table) (next end : ℕ) (cell : Cell) : Type 0 where
  pub from : next ≤ place_in table cell.at
  pub below : place_in table cell.at + cell.size ≤ end

-- it is among those of the cells
pub placed_within : (table : Table) (next : ℕ) (cells : List Cell) (cell : Cell) → ArePlaced table next cells
    → Contains cells cell → is_kept cell ≡ true → IsWithin table next (slid_end next cells) cell
placed_within table next [] cell placed there kept = absurd (none_in cell there)
placed_within table next (first ∷ cells) cell placed there kept = elim (in_cases first cells cell there) [
  | inl same ↦
      let here : place_in table cell.at ≡ next =
      subst (λ (one : Cell). is_kept one ≡ true → place_in table one.at ≡ next) same placed.0 kept in
      let words : kept_words first ≡ cell.size =
      ap kept_words same ∙ kept_has cell kept in
      record {
        from = omega (arith, here);
        below = omega (arith, here, words, slid_ascends (next + kept_words first) cells);
      }
  | inr later ↦
      let within = placed_within table (next + kept_words first) cells cell placed.1 later kept in
      record { from = omega (arith, within.from); below = within.below }
]

-- a kept cell comes to no later address
pub placed_before : (space : Space) (words : List ℕ) (table : Table) (next at end : ℕ) (cells : List Cell) (cell : Cell)
    → IsRow space words at end cells → next ≤ at → ArePlaced table next cells → Contains cells cell
    → is_kept cell ≡ true → place_in table cell.at ≤ cell.at
placed_before space words table next at end [] cell row before placed there kept = absurd (none_in cell there)
placed_before space words table next at end (first ∷ cells) cell row before placed there kept =
    let begins = row_begins row in
    elim (in_cases first cells cell there) [
      | inl same ↦
          let here : place_in table cell.at ≡ next =
          subst (λ (one : Cell). is_kept one ≡ true → place_in table one.at ≡ next) same placed.0 kept in
          omega (arith, here, before, begins.starts, ap (λ (one : Cell). one.at) same)
      | inr later ↦ placed_before space words table (next + kept_words first) (first.at + first.size) end cells cell
          begins.rest (omega (arith, before, begins.starts, kept_few first)) placed.1 later kept
    ]

-- kept cells come to places in their order
pub placed_order : (space : Space) (words : List ℕ) (table : Table) (next at end : ℕ) (cells : List Cell)
    (one other : Cell) → IsRow space words at end cells → ArePlaced table next cells → Contains cells one
    → Contains cells other → is_kept one ≡ true → is_kept other ≡ true → one.at < other.at
    → place_in table one.at + one.size ≤ place_in table other.at
placed_order space words table next at end [] one other row placed there there_too kept kept_too below =
    absurd (none_in one there)
placed_order space words table next at end (first ∷ cells) one other row placed there there_too kept kept_too below =
    let begins = row_begins row in
    elim (in_cases first cells one there) [
      | inl same ↦ elim (in_cases first cells other there_too) [
        | inl same_too ↦
            absurd (omega (arith, below, ap (λ (c : Cell). c.at) same, ap (λ (c : Cell). c.at) same_too))
        | inr later ↦
            let here : place_in table one.at ≡ next =
            subst (λ (c : Cell). is_kept c ≡ true → place_in table c.at ≡ next) same placed.0 kept in
            let words_are : kept_words first ≡ one.size = ap kept_words same ∙ kept_has one kept in
            let within = placed_within table (next + kept_words first) cells other placed.1 later kept_too in
            omega (arith, here, words_are, within.from)
      ]
      | inr later ↦ elim (in_cases first cells other there_too) [
        | inl same ↦
            let inside = cell_within space words (first.at + first.size) end cells one begins.rest later in
            absurd (omega (arith, below, inside.0, ap (λ (c : Cell). c.at) same))
        | inr later_too ↦ placed_order space words table (next + kept_words first) (first.at + first.size) end cells
            one other begins.rest placed.1 later later_too kept kept_too below
      ]
    ]
