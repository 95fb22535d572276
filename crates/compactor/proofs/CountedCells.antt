-- How many cells come to another address: counted one after another.
use Rattle.std.proofs.Common.{◌≡◌, ◌≢◌, ℕ, ◌+◌, ◌<◌, ◌⊎◌, inl, inr, Bool, true, false, List, [], ◌∷◌, ◌++◌}
use Rattle.std.proofs.Common.{Contains, get_or, refl, sym, ◌∙◌, subst, arith, length-append}
use Rattle.std.proofs.lemmas.Bool.{cases_eq, cases_lt, false≢true}
use Rattle.std.proofs.lemmas.List.{get_or_default}
use Rattle.std.proofs.lemmas.List.Elements.{Contains-append_cases, Contains-append_left, Contains-append_right}
use Rattle.std.proofs.lemmas.List.Quantifiers.{all_pairs_push}
use Rattle.tagged_word.proofs.Members.{first_in, one_in}
use Rattle.page_space.specs.Extents.{eden_start}
use Rattle.heap_model.specs.Types.{Cell}
use Rattle.heap_model.specs.Heaps.{Heap, HasCell}
use Rattle.heap_model.specs.Wholeness.{HasRows}
use Rattle.heap_model.proofs.BoundHeaps.{none_in}
use Rattle.heap_model.proofs.CellsApart.{first_of_cell}
use Rattle.compactor.specs.Compacted.{CountsMoved}
use Rattle.compactor.specs.Sliding.{CountsBefore, IsMovingBefore, is_kept}
use Rattle.compactor.specs.Tables.{Table, place_in}
use Rattle.compactor.proofs.MovedPlaces.{comes_is, kept_comes, place_of, place_of_page, place_of_young, to_by}
use Rattle.compactor.proofs.YoungSteps.{before_or_same}

-- before the first address no cell is counted
pub none_counted : (heap : Heap) (table : Table) → CountsBefore heap table 0 0
none_counted heap table = record {
  cells = [];
  counted = refl;
  few = omega arith;
  ascend = λ i j d less within. absurd (omega (arith, within));
  each = λ cell. (λ there. absurd (none_in cell there), λ is. absurd (omega (arith, is.before)));
}

module _ {heap : Heap} {old new : Table} {cell : Cell} {words : List ℕ} {count : ℕ} (rows : HasRows heap)
    (has : HasCell heap cell words) (before : CountsBefore heap old cell.at count)
    (others : (a : ℕ) → a ≢ cell.at → place_in new a ≡ place_in old a) where
  -- a cell that was counted is one of those before the next address
  counted_stays : (one : Cell) → IsMovingBefore heap old cell.at one
      → IsMovingBefore heap new (cell.at + cell.size) one
  counted_stays one is = record {
    words = is.words;
    has = is.has;
    kept = is.kept;
    before = omega (arith, is.before);
    elsewhere = λ same.
        is.elsewhere (sym (others one.at (λ at. omega (arith, at, is.before))) ∙ same);
  }

  -- and each of those was counted, or is the cell
  counted_or_it : (one : Cell) → IsMovingBefore heap new (cell.at + cell.size) one
      → IsMovingBefore heap old cell.at one ⊎ (cell ≡ one)
  counted_or_it one is = elim (before_or_same rows has is.has is.before) [
    | inl earlier ↦ inl (record {
      words = is.words;
      has = is.has;
      kept = is.kept;
      before = earlier;
      elsewhere = λ same.
          is.elsewhere (others one.at (λ at. omega (arith, at, earlier)) ∙ same);
    })
    | inr same ↦ inr same
  ]

  -- The count stays where the cell does not come to another address.
  pub count_stays : (is_kept cell ≡ true → place_in new cell.at ≡ cell.at)
      → CountsBefore heap new (cell.at + cell.size) count
  count_stays stays = record {
    cells = before.cells;
    counted = before.counted;
    few = omega (arith, before.few);
    ascend = before.ascend;
    each = λ one. (
      λ there. counted_stays one ((before.each one).0 there),
      λ is. elim (counted_or_it one is) [
        | inl earlier ↦ (before.each one).1 earlier
        | inr same ↦
            let Moves : Cell → Type 0 = λ c. (is_kept c ≡ true → place_in new c.at ≡ c.at) in
            absurd (is.elsewhere (subst Moves same stays is.kept))
      ],
    );
  }

  -- And it is one more where it does.
  pub count_grows : is_kept cell ≡ true → place_in new cell.at ≢ cell.at
      → CountsBefore heap new (cell.at + cell.size) (count + 1)
  count_grows kept elsewhere = record {
    cells = before.cells ++ cell ∷ [];
    counted = omega (arith, before.counted, length-append before.cells (cell ∷ []));
    few = omega (arith, before.few, (first_of_cell has).below);
    ascend = all_pairs_push (λ one other. one.at < other.at) before.cells cell before.ascend
        (λ k d within.
        let one : Cell = get_or before.cells k d in
        ((before.each one).0 (k, within, get_or_default before.cells k one d within)).before);
    each = λ one. (
      λ there. elim (Contains-append_cases before.cells (cell ∷ []) one there) [
        | inl earlier ↦ counted_stays one ((before.each one).0 earlier)
        | inr last ↦
            let Is : Cell → Type 0 = λ c. IsMovingBefore heap new (cell.at + cell.size) c in
            subst Is (one_in cell one last) (record {
              words = words;
              has = has;
              kept = kept;
              before = (first_of_cell has).below;
              elsewhere = elsewhere;
            })
      ],
      λ is. elim (counted_or_it one is) [
        | inl earlier ↦ Contains-append_left before.cells (cell ∷ []) one ((before.each one).1 earlier)
        | inr same ↦
            Contains-append_right before.cells (cell ∷ []) one
            (subst (λ (c : Cell). Contains (cell ∷ []) c) same (first_in cell []))
      ],
    );
  }

-- the count of a cell that is kept, or is not
counts_by : {heap : Heap} {old new : Table} {cell : Cell} {words : List ℕ} {next count result : ℕ} (test : Bool)
    → is_kept cell ≡ test → HasRows heap → HasCell heap cell words → CountsBefore heap old cell.at count
    → ((a : ℕ) → a ≢ cell.at → place_in new a ≡ place_in old a)
    → (is_kept cell ≡ true → place_in new cell.at ≡ next)
    → (is_kept cell ≡ true → next ≢ cell.at → result ≡ count + 1)
    → ((is_kept cell ≡ true → next ≡ cell.at) → result ≡ count)
    → CountsBefore heap new (cell.at + cell.size) result
counts_by {heap} {new = new} {cell} {next = next} {count} {result} true kept rows has before others own moves stays =
    let To : ℕ → Type 0 = λ n. CountsBefore heap new (cell.at + cell.size) n in
    elim (cases_eq next cell.at) [
      | inl same ↦
          subst To (sym (stays (λ is. same)))
          (count_stays rows has before others (λ is. own is ∙ same))
      | inr differs ↦
          subst To (sym (moves kept differs))
          (count_grows rows has before others kept (λ same. differs (sym (own kept) ∙ same)))
    ]
counts_by {heap} {new = new} {cell} {next = next} {count} {result} false free rows has before others own moves stays =
    let To : ℕ → Type 0 = λ n. CountsBefore heap new (cell.at + cell.size) n in
    let never : is_kept cell ≡ true → next ≡ cell.at = λ kept. absurd (false≢true (sym free ∙ kept)) in
    subst To (sym (stays never))
    (count_stays rows has before others (λ kept. absurd (false≢true (sym free ∙ kept))))

-- So a cell is counted as it should be.
pub counts_more : {heap : Heap} {old new : Table} {cell : Cell} {words : List ℕ} {next count result : ℕ}
    → HasRows heap → HasCell heap cell words → CountsBefore heap old cell.at count
    → ((a : ℕ) → a ≢ cell.at → place_in new a ≡ place_in old a)
    → (is_kept cell ≡ true → place_in new cell.at ≡ next)
    → (is_kept cell ≡ true → next ≢ cell.at → result ≡ count + 1)
    → ((is_kept cell ≡ true → next ≡ cell.at) → result ≡ count)
    → CountsBefore heap new (cell.at + cell.size) result
counts_more {cell = cell} rows has before others own moves stays =
    counts_by (is_kept cell) refl rows has before others own moves stays

-- Those that are counted before eden are all that come to another address.
pub all_counted : {heap : Heap} {table : Table} {count : ℕ} (rows : HasRows heap) → table.bound ≡ eden_start heap.space
    → CountsBefore heap table (eden_start heap.space) count → CountsMoved heap (to_by rows table) count
all_counted {heap} {table} rows bound counts = record {
  cells = counts.cells;
  counted = counts.counted;
  ascend = counts.ascend;
  each = λ cell. (
    λ there.
        let is = (counts.each cell).0 there in
        record {
          words = is.words;
          has = is.has;
          now = place_of table cell.at;
          comes = kept_comes rows table cell is.words is.has is.kept;
          elsewhere = λ same.
              is.elsewhere (sym (place_of_page table cell.at (omega (arith, is.before, bound))) ∙ same);
        },
    λ is.
        let comes = comes_is rows table cell is.words is.now is.has is.comes in
        elim (cases_lt cell.at (eden_start heap.space)) [
          | inl of_page ↦
              let place = place_of_page table cell.at (omega (arith, of_page, bound)) in
              (counts.each cell).1 (record {
                words = is.words;
                has = is.has;
                kept = comes.0;
                before = of_page;
                elsewhere = λ same. is.elsewhere (comes.1 ∙ place ∙ same);
              })
          | inr young ↦
              absurd (is.elsewhere (comes.1 ∙ place_of_young table cell.at (omega (arith, young, bound))))
        ],
  );
}
