-- Cells that are rewritten in place are patches, and these are apart.
use Rattle.std.proofs.Common.{◌≡◌, ℕ, ◌+◌, List, [], ◌∷◌, ◌++◌, map, All}
use Rattle.std.proofs.Common.{refl, sym, ◌∙◌, ap, subst, append_assoc, arith, length}
use Rattle.std.specs.List.{flat_map}
use Rattle.std.proofs.lemmas.List.Elements.{All-contains, All-map, All-weaker}
use Rattle.tagged_word.proofs.Members.{map_from}
use Rattle.heap_model.specs.Types.{Cell}
use Rattle.cell_layout.specs.Cells.{IsCell, IsRow, none, next}
use Rattle.cell_layout.specs.CellLaws.{ReadsAlike}
use Rattle.cell_layout.proofs.OneCell.{cells_stay}
use Rattle.page_space.specs.Extents.{Space}
use Rattle.cell_layout.proofs.Rows.{rows_part_around, one_row}
use Rattle.heap_model.specs.Heaps.{Heap, HasCell, words_of_cell}
use Rattle.heap_model.specs.Wholeness.{HasRows}
use Rattle.heap_model.specs.Changes.{IsPatch, IsPatched, PatchesDisjoint, Rewrite, IsRewrite, patch_of, CellsChange}
use Rattle.heap_model.specs.Laws.{gone_with, come_with, RewritesArePatches, RewritesKeepCells}
use Rattle.heap_model.proofs.WordChanges.{changes_keep_cells}
use Rattle.heap_model.proofs.CellsApart.{IsOfCell, has_is_cell, cells_apart}

-- a cell that is rewritten is a patch
pub rewrite_is_patch : {old new : Heap} (rewrite : Rewrite) → IsRewrite old new rewrite
    → IsPatch old new (patch_of rewrite)
rewrite_is_patch {old} rewrite is =
    let cell : Cell = rewrite.cell in
    let has = is.stood in
    let row = has.row in
    let parts =
    rows_part_around old.space old.words row.extent.start row.end row.cells cell has.used.stands has.in_row in
    let end : ℕ = cell.at + cell.size in
    record {
      row = row;
      in_region = has.in_region;
      used = has.used;
      front = parts.before;
      back = parts.behind;
      part = parts.joined ∙ sym (append_assoc parts.before (cell ∷ []) parts.behind);
      stood = next cell end [] (has_is_cell has) (none end);
      stands = is.stands;
    }

-- an address of its patch is one of the cell
of_rewrite : (rewrite : Rewrite) (at : ℕ) → IsPatched at (patch_of rewrite) → IsOfCell rewrite.cell at
of_rewrite rewrite at patched = record { from = patched.from; below = patched.below }

-- two rewrites of one cell have one patch
one_patch : {old new : Heap} (one other : Rewrite) → IsRewrite old new one → IsRewrite old new other
    → one.cell ≡ other.cell → patch_of one ≡ patch_of other
one_patch {old} {new} one other is is_other same =
    let P : Cell → Type 0 = λ cell. IsRow new.space new.words cell.at (cell.at + cell.size) other.into in
    let stands : P one.cell = subst P (sym same) is_other.stands in
    let cell : Cell = one.cell in
    let into : one.into ≡ other.into =
    one_row new.space new.words cell.at (cell.at + cell.size) one.into other.into is.stands stands in
    ap (λ more. patch_of (record { cell = one.cell; into = more })) into
    ∙ ap (λ first. patch_of (record { cell = first; into = other.into })) same

-- the patches of rewrites are apart
rewrites_apart : {old new : Heap} (rewrites : List Rewrite) → HasRows old → All (IsRewrite old new) rewrites
    → PatchesDisjoint (map patch_of rewrites)
rewrites_apart {old} {new} rewrites rows each one other at there there_too patched patched_too =
    let a = map_from patch_of rewrites one there in
    let b = map_from patch_of rewrites other there_too in
    let is : IsRewrite old new a.0 = All-contains (IsRewrite old new) rewrites a.0 each a.1 in
    let is_too : IsRewrite old new b.0 = All-contains (IsRewrite old new) rewrites b.0 each b.1 in
    let of_one = of_rewrite a.0 at (subst (IsPatched at) (sym a.2) patched) in
    let of_other = of_rewrite b.0 at (subst (IsPatched at) (sym b.2) patched_too) in
    let same : a.0.cell ≡ b.0.cell = cells_apart at rows is.stood is_too.stood of_one of_other in
    sym a.2 ∙ one_patch a.0 b.0 is is_too same ∙ b.2

-- cells that are rewritten in place are patches, and these are apart
pub rewrites_are_patches : RewritesArePatches
rewrites_are_patches old new rewrites rows each = (
  All-map (IsPatch old new) patch_of rewrites
      (All-weaker (IsRewrite old new) (λ rewrite. IsPatch old new (patch_of rewrite)) rewrite_is_patch rewrites each),
  rewrites_apart rewrites rows each,
)

-- the cells that went with these patches are those that were rewritten
gone_with_rewrites : (rewrites : List Rewrite)
    → gone_with (map patch_of rewrites) ≡ map (λ rewrite. rewrite.cell) rewrites
gone_with_rewrites [] = refl
gone_with_rewrites (rewrite ∷ rewrites) = ap (λ more. rewrite.cell ∷ more) (gone_with_rewrites rewrites)

-- and those that came are those that they became
come_with_rewrites : (rewrites : List Rewrite)
    → come_with (map patch_of rewrites) ≡ flat_map (λ rewrite. rewrite.into) rewrites
come_with_rewrites [] = refl
come_with_rewrites (rewrite ∷ rewrites) = ap (λ more. rewrite.into ++ more) (come_with_rewrites rewrites)

-- where only these and the run change, those that were rewritten went, and those that they became came
pub rewrites_keep_cells : RewritesKeepCells
rewrites_keep_cells old new rewrites made whole change =
    let kept = changes_keep_cells old new (map patch_of rewrites) made whole change in
    let P : List Cell → Type 0 = λ gone. CellsChange old new gone (come_with (map patch_of rewrites)) made in
    let Q : List Cell → Type 0 = λ came. CellsChange old new (map (λ rewrite. rewrite.cell) rewrites) came made in
    (kept.0, subst Q (come_with_rewrites rewrites) (subst P (gone_with_rewrites rewrites) kept.1))

-- one cell that fills the words from an address to another is a row
pub row_of_one : {space : Space} {words : List ℕ} {cell : Cell} (from to : ℕ) → IsCell space words cell → cell.at ≡ from
    → cell.at + cell.size ≡ to → IsRow space words from to (cell ∷ [])
row_of_one {space} {words} {cell} from to is_cell at ends =
    let end : ℕ = cell.at + cell.size in
    let P : ℕ → Type 0 = λ start. IsRow space words start end (cell ∷ []) in
    subst (λ (last : ℕ). IsRow space words from last (cell ∷ [])) ends
    (subst P at (next cell end [] is_cell (none end)))

-- a cell of the new words that stands where another stood, and is as long, is rewritten from it
pub rewrite_by_one : {old new : Heap} {cell other : Cell} → HasCell old cell (words_of_cell old cell)
    → IsCell new.space new.words other → other.at ≡ cell.at → other.size ≡ cell.size
    → IsRewrite old new (record { cell = cell; into = other ∷ [] })
rewrite_by_one {cell = cell} has is_cell at size =
    record { stood = has; stands = row_of_one cell.at (cell.at + cell.size) is_cell at (omega arith) }

-- a cell of which only slots are written is rewritten by itself
pub rewrite_slots : {old new : Heap} {cell : Cell} → HasCell old cell (words_of_cell old cell) → new.space ≡ old.space
    → length new.words ≡ length old.words → ReadsAlike old.space old.words new.words cell
    → IsRewrite old new (record { cell = cell; into = cell ∷ [] })
rewrite_slots {old} {new} {cell} has same long alike =
    let stays = cells_stay old.space old.words new.words cell (has_is_cell has) long alike in
    rewrite_by_one has (subst (λ (space : Space). IsCell space new.words cell) (sym same) stays) refl refl
