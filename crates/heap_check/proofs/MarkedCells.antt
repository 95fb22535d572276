-- Flags that are set for cells, one list of cells after another.
use Rattle.std.proofs.Common.{◌≡◌, ◌≢◌, ℕ, ◌<◌, ◌⊎◌, inl, inr, Bool, true, List, [], ◌∷◌, ◌++◌, Some, length, slice_get}
use Rattle.std.proofs.Common.{All, Contains, refl, sym, ◌∙◌, subst, arith, set}
use Rattle.std.proofs.lemmas.Bool.{cases_eq}
use Rattle.std.proofs.lemmas.List.{length-set}
use Rattle.std.proofs.lemmas.List.Elements.{All-nil, All-cons, All-head, All-tail, Contains-get_or}
use Rattle.std.proofs.lemmas.List.Elements.{Contains-append_cases, Contains-append_right}
use Rattle.tagged_word.proofs.Members.{in_cases}
use Rattle.object_graph.proofs.Lists.{slice_get-set_same, slice_get-set_other}
use Rattle.heap_model.specs.Types.{Cell}
use Rattle.heap_check.specs.Marks.{MarksCells}

-- what holds of all elements of two lists holds of those of the first
all_front : {X : Type 0} (P : X → Type 0) (xs ys : List X) → All P (xs ++ ys) → All P xs
all_front P [] ys all = All-nil P
all_front P (x ∷ xs) ys all =
    All-cons P x xs (All-head P x (xs ++ ys) all) (all_front P xs ys (All-tail P x (xs ++ ys) all))

-- and of those of the second
all_back : {X : Type 0} (P : X → Type 0) (xs ys : List X) → All P (xs ++ ys) → All P ys
all_back P [] ys all = all
all_back P (x ∷ xs) ys all = all_back P xs ys (All-tail P x (xs ++ ys) all)

-- a cell that stands at the address
pub record OneStarts (at : ℕ) (cells : List Cell) : Type 0 where
  pub cell : Cell
  pub among : Contains cells cell
  pub starts : cell.at ≡ at

-- one of the cells stands at the address, or none does
pub starts_or_not : (at : ℕ) (cells : List Cell) → OneStarts at cells ⊎ All (λ (cell : Cell). cell.at ≢ at) cells
starts_or_not at [] = inr (All-nil (λ (cell : Cell). cell.at ≢ at))
starts_or_not at (cell ∷ cells) = elim (cases_eq cell.at at) [
  | inl same ↦ inl (record {
    cell = cell;
    among = Contains-get_or (cell ∷ cells) 0 cell (omega arith);
    starts = same;
  })
  | inr other ↦ elim (starts_or_not at cells) [
    | inl later ↦ inl (record {
      cell = later.cell;
      among = Contains-append_right (cell ∷ []) cells later.cell later.among;
      starts = later.starts;
    })
    | inr none ↦ inr (All-cons (λ (one : Cell). one.at ≢ at) cell cells other none)
  ]
]

-- no flag was set
pub marks_none : (flags : List Bool) → MarksCells flags flags []
marks_none flags = record {
  as_many = refl;
  set = λ cell among. absurd (omega (arith, among.1));
  others = λ at none. refl;
}

-- the flag of one cell was set
pub marks_one : (flags : List Bool) (cell : Cell) → cell.at < length flags
    → MarksCells flags (set flags cell.at true) (cell ∷ [])
marks_one flags cell within =
    let new : List Bool = set flags cell.at true in
    record {
      as_many = length-set flags cell.at true;
      set = λ other among. elim (in_cases cell [] other among) [
        | inl same ↦ subst (λ (one : Cell). slice_get new one.at ≡ Some true) same
            (slice_get-set_same flags cell.at true within)
        | inr none ↦ absurd (omega (arith, none.1))
      ];
      others = λ at none. slice_get-set_other flags cell.at at true
          (λ same. All-head (λ (one : Cell). one.at ≢ at) cell [] none (sym same));
    }

-- the flags of some cells were set, and then those of others
pub marks_join : (old between new : List Bool) (before behind : List Cell) → MarksCells old between before
    → MarksCells between new behind → MarksCells old new (before ++ behind)
marks_join old between new before behind first second = record {
  as_many = second.as_many ∙ first.as_many;
  set = λ cell among. elim (Contains-append_cases before behind cell among) [
    | inl early ↦ elim (starts_or_not cell.at behind) [
      | inl again ↦
          subst (λ (at : ℕ). slice_get new at ≡ Some true) again.starts (second.set again.cell again.among)
      | inr none ↦ second.others cell.at none ∙ first.set cell early
    ]
    | inr late ↦ second.set cell late
  ];
  others = λ at none.
      let Not : Cell → Type 0 = λ (cell : Cell). cell.at ≢ at in
      second.others at (all_back Not before behind none) ∙ first.others at (all_front Not before behind none);
}

-- the flag of one cell more was set
pub marks_push : (old between : List Bool) (cells : List Cell) (cell : Cell) → MarksCells old between cells
    → cell.at < length between → MarksCells old (set between cell.at true) (cells ++ cell ∷ [])
marks_push old between cells cell marks within =
    marks_join old between (set between cell.at true) cells (cell ∷ []) marks (marks_one between cell within)
