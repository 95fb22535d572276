-- Words of a free cell of a page are granted: cells stand in rows again, and all but the free one stand as before.
use Rattle.std.proofs.Common.{◌≡◌, ◌≢◌, ℕ, ◌+◌, ◌<◌, ◌≤◌, ◌⊎◌, inl, inr, List, [], ◌∷◌, ◌++◌, Contains}
use Rattle.std.proofs.Common.{slice_get, refl, sym, ◌∙◌, ap, subst, arith, append-nil}
use Rattle.std.proofs.lemmas.Bool.{cases_lt}
use Rattle.std.proofs.lemmas.List.Elements.{All-nil, All-cons, All-head}
use Rattle.tagged_word.proofs.Members.{first_in, one_in}
use Rattle.page_space.specs.Extents.{eden_start}
use Rattle.page_space.proofs.LawsHold.{kinds_by_number}
use Rattle.cell_layout.specs.Cells.{IsRow, none}
use Rattle.heap_model.specs.Types.{Cell, Run}
use Rattle.heap_model.specs.Heaps.{Heap, HasCell, words_of_cell}
use Rattle.heap_model.specs.Wholeness.{HasSizes, HasRows}
use Rattle.heap_model.specs.Changes.{Patch, IsPatched, Rewrite, IsRewrite, IsRunOf, patch_of, written, IsChange}
use Rattle.heap_model.specs.Changes.{CellsChange}
use Rattle.heap_model.proofs.BoundHeaps.{none_in}
use Rattle.heap_model.proofs.CellsApart.{one_at}
use Rattle.heap_model.proofs.Rewrites.{rewrites_are_patches, rewrites_keep_cells}
use Rattle.scavenger.proofs.GrantedWords.{Granting, stood, in_page, now, as_many, beside_stays, say_layouts, after}
use Rattle.scavenger.proofs.GrantedWords.{after_row}

module _ {heap : Heap} {run : Run} {n : ℕ} (granting : Granting heap run n) where
  -- the heap of afterwards
  abbrev pub granted : Heap
  granted = written heap (now granting)

  -- the free cell is rewritten
  abbrev rewrite : Rewrite
  rewrite = record { cell = stood granting; into = after granting }

  -- its words are those of its run
  stood_ends : (stood granting).at + (stood granting).size ≡ run.at + run.words
  stood_ends = omega (arith, granting.free.stands, granting.free.size)

  -- the free cell stood there, with its words
  pub stood_has : HasCell heap (stood granting) (words_of_cell heap (stood granting))
  stood_has =
      let has = granting.free.has in
      record { row = has.row; in_region = has.in_region; used = has.used; in_row = has.in_row; words_are = refl }

  -- a row of the others is as long
  is_rewrite : IsRewrite heap granted rewrite
  is_rewrite =
      let Stands : ℕ → ℕ → Type 0 = λ from to. IsRow heap.space (now granting) from to (after granting) in
      let begins : Stands (stood granting).at (run.at + run.words) =
      subst (λ (from : ℕ). Stands from (run.at + run.words)) (sym granting.free.stands) (after_row granting) in
      record { stood = stood_has; stands = subst (Stands (stood granting).at) (sym stood_ends) begins }

  -- sizes are right
  pub sized : HasSizes granted
  sized = record {
    words = as_many granting ∙ granting.whole.sized.words;
    shapes = granting.whole.sized.shapes;
    layouts = say_layouts granting;
  }

  -- an address that is not in the patch is beside the run
  beside_patch : (at : ℕ) → (IsPatched at (patch_of rewrite) → ⊥) → (at < run.at) ⊎ (run.at + run.words ≤ at)
  beside_patch at free = elim (cases_lt at run.at) [
    | inl before ↦ inl before
    | inr above ↦ elim (cases_lt at (run.at + run.words)) [
      | inl below ↦
          absurd (free record {
            from = omega (arith, above, granting.free.stands);
            below = omega (arith, below, stood_ends);
          })
      | inr behind ↦ inr behind
    ]
  ]

  -- a word from eden on stays
  pub outside_stays : (at : ℕ) → eden_start heap.space ≤ at → slice_get (now granting) at ≡ slice_get heap.words at
  outside_stays at above = beside_stays granting at (inr (omega (arith, above, in_page granting)))

  -- only words of the free cell change
  change : IsChange heap granted (patch_of rewrite ∷ []) []
  change =
      let eden : ℕ = eden_start heap.space + heap.used in
      let each = All-cons (IsRewrite heap granted) rewrite [] is_rewrite (All-nil (IsRewrite heap granted)) in
      let patches = rewrites_are_patches heap granted (rewrite ∷ []) granting.whole.rows each in
      let numbers = kinds_by_number heap.space in
      record {
        same_space = refl;
        same_survivors = refl;
        room = granting.whole.rows.few;
        more = [];
        paths = sym (append-nil heap.paths);
        sized = sized;
        each = patches.0;
        apart = patches.1;
        from = eden;
        to = eden;
        run = IsRunOf.of_eden refl refl (omega arith);
        beside = λ patch at there patched above below. omega (arith, above, below);
        made_stand = none eden;
        cells_stay = λ at below free not_new. beside_stays granting at
            (beside_patch at (All-head (λ (patch : Patch). IsPatched at patch → ⊥) (patch_of rewrite) [] free));
        roots_stay = λ at above below. outside_stays at (omega (arith, above, numbers.roots));
      }

  -- cells stand in rows again, and change so
  changed : HasRows granted × CellsChange heap granted (stood granting ∷ []) (after granting ++ []) []
  changed = rewrites_keep_cells heap granted (rewrite ∷ []) [] granting.whole change

  -- cells stand in rows
  pub has_rows : HasRows granted
  has_rows = changed.0

  -- a cell that stands elsewhere stays
  pub cell_stays : {cell : Cell} {words : List ℕ} → HasCell heap cell words → cell.at ≢ run.at
      → HasCell granted cell words
  cell_stays {cell} {words} has apart =
      changed.1.kept cell words has
      (λ gone. apart (sym (ap (λ (one : Cell). one.at) (one_in (stood granting) cell gone)) ∙ granting.free.stands))
      (λ filled. none_in filled.begins.other filled.begins.among)

  -- the cells that came, and no other was made
  both : (after granting ++ []) ++ [] ≡ after granting
  both = append-nil (after granting ++ []) ∙ append-nil (after granting)

  -- each that came stands there
  pub after_stands : {cell : Cell} → Contains (after granting) cell → HasCell granted cell (words_of_cell granted cell)
  after_stands {cell} there =
      changed.1.comes cell (subst (λ (all : List Cell). Contains all cell) (sym both) there)

  -- a cell that came stands in a page
  pub after_in_page : {cell : Cell} → Contains (after granting) cell → cell.at < eden_start heap.space
  after_in_page {cell} there =
      let begins = changed.1.in_place cell
      (subst (λ (all : List Cell). Contains all cell) (sym (append-nil (after granting))) there) in
      let same : begins.other ≡ stood granting = sym (one_in (stood granting) begins.other begins.among) in
      omega (
        arith,
        begins.below,
        ap (λ (one : Cell). one.at + one.size) same,
        stood_ends,
        in_page granting,
      )

  -- A cell of afterwards stood where it stands, or is one of those that came.
  pub cell_from : {cell : Cell} {words : List ℕ} → HasCell granted cell words
      → (HasCell heap cell words × (cell.at ≢ run.at)) ⊎ Contains (after granting) cell
  cell_from {cell} {words} has = elim (changed.1.back cell words has) [
    | inl came ↦ inr (subst (λ (all : List Cell). Contains all cell) both came)
    | inr old ↦
        inl (
          old.0,
          λ same.
              let one : stood granting ≡ cell =
              one_at granting.free.has old.0 (granting.free.stands ∙ sym same) in
              old.1 (subst (Contains (stood granting ∷ [])) one (first_in (stood granting) [])),
        )
  ]
