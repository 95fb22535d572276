-- What words refer to where a scavenge begins: what a slot or a variable refers to is no free run, and it has a home at
-- the end where it is young.
use Rattle.std.proofs.Common.{◌≡◌, ℕ, ◌+◌, ◌<◌, ◌≤◌, ◌^◌, inl, inr, List, Contains, Some, slice_get, get_or}
use Rattle.std.proofs.Common.{refl, sym, ◌∙◌, ap, subst, arith}
use Rattle.std.proofs.lemmas.Option.{same_Some, get_or_from_slice_get}
use Rattle.tagged_word.specs.Cells.{scavenge_offsets}
use Rattle.tagged_word.proofs.Readings.{reference_from, reference_to}
use Rattle.page_space.specs.Extents.{eden_start}
use Rattle.handle_roots.specs.Roots.{root_at}
use Rattle.cell_layout.proofs.OneCell.{slots_lie_within}
use Rattle.heap_model.specs.Types.{Cell, Run}
use Rattle.heap_model.specs.Heaps.{HasCell}
use Rattle.heap_model.specs.Slots.{reference_word}
use Rattle.heap_model.specs.Kinds.{HasWord}
use Rattle.heap_model.proofs.CellsApart.{has_is_cell, first_of_cell, used_few}
use Rattle.heap_model.proofs.WordsAlike.{cell_below_roots}
use Rattle.scav_copy.specs.declared.places.Home.{Home}
use Rattle.scav_copy.specs.Places.{Fixed, offsets_in, offsets_of}
use Rattle.scav_copy.specs.Renamings.{RefersToAddress, IsReachable}
use Rattle.scavenger.specs.Starts.{Start, IsYoungCell}
use Rattle.scavenger.proofs.StartReadings.{low_within}
use Rattle.heap_walk.proofs.SlotTargets.{IsUsedAt, kind_to_cell, word_reads, word_found, held_target}
use Rattle.scavenger.proofs.TargetCells.{before_is_young}
use Rattle.scavenger.proofs.EndRuns.{used_is_no_run}
use Rattle.scavenger.proofs.EndWords.{Ending}
use Rattle.scavenger.proofs.EndCopies.{renaming}
use Rattle.scavenger.proofs.EndPlaces.{RefersWell}

module _ {start : Start} {left : ℕ} {fixed : Fixed} {homes : List Home} {rows : List (List Run)} {words now : List ℕ}
    {fill : ℕ} (ending : Ending start left fixed homes rows words now fill) where
  -- the address of a cell is one that a reference may have
  pub cell_fits : {cell : Cell} {body : List ℕ} → HasCell start.heap cell body → cell.at < 2 ^ 32
  cell_fits {cell} has =
      let below = cell_below_roots (used_few ending.begun.whole.rows) has in
      omega (arith, below, (first_of_cell has).below, low_within start.heap.space ending.limits)

  -- a young cell that was reached has a home
  pub reached_home : (at : ℕ) → IsReachable fixed at → (home : Home) × Contains homes home × (home.from ≡ at)
  reached_home at reached = ((renaming ending).survivors at).1 reached

  -- where a young cell stands, one of the cells does
  pub young_is : {at : ℕ} → IsUsedAt start.heap at → eden_start start.heap.space ≤ at → Contains fixed.cells at
  young_is {at} target young =
      (ending.begun.begins.cells at).1 record {
        cell = target.cell;
        words = target.words;
        has = target.has;
        stands = target.stands;
        young = young;
      }

  -- a word is as it was before
  pub word_before : (place word : ℕ) → get_or start.heap.words place 0 ≡ word → get_or fixed.before place 0 ≡ word
  word_before place word reads =
      ap (λ (all : List ℕ). get_or all place 0) ending.begun.begins.before ∙ reads

  -- a word that is the reference to a cell reads as its address
  pub target_reads : {at : ℕ} (place word : ℕ) → IsUsedAt start.heap at → word ≡ reference_word at
      → get_or start.heap.words place 0 ≡ word → RefersToAddress fixed.before place at
  target_reads {at} place word target is reads =
      let fits : at < 2 ^ 32 = subst (λ n. n < 2 ^ 32) target.stands (cell_fits target.has) in
      reference_to (get_or fixed.before place 0) at fits (word_before place word reads ∙ is)

  -- A word refers well where what it refers to is a cell that is not free, and is reached where it is young.
  refers_well : (word : ℕ) → ((at : ℕ) → word ≡ reference_word at → IsUsedAt start.heap at)
      → ((at : ℕ) → word ≡ reference_word at → IsUsedAt start.heap at → eden_start start.heap.space ≤ at
      → IsReachable fixed at)
      → RefersWell start homes word
  refers_well word stands reached = record {
    page = λ at is below. used_is_no_run ending.begun (stands at is);
    young = λ at is young. reached_home at (reached at is (stands at is) young);
  }

  -- what a slot of a cell refers to is a cell that is not free
  pub slot_target : {cell : Cell} {body : List ℕ} (offset word at : ℕ) → HasCell start.heap cell body
      → Contains (scavenge_offsets cell.layout cell.length) offset → HasWord body offset word
      → word ≡ reference_word at → IsUsedAt start.heap at
  slot_target {cell} {body} offset word at has slot stands refers =
      let whole = ending.begun.whole in
      kind_to_cell cell.layout.kind offset word at whole.sized has refl (whole.sound cell body has) slot stands refers

  -- the slots of a cell that has a home are those that were read
  pub slots_read : (home : Home) (offset : ℕ) (is : IsYoungCell start.heap home.from)
      → Contains (scavenge_offsets is.cell.layout is.cell.length) offset → Contains (offsets_of fixed home.from) offset
  slots_read home offset is slot =
      let same : offsets_of fixed home.from ≡ scavenge_offsets is.cell.layout is.cell.length =
      ap offsets_in (before_is_young ending.begun is) in
      subst (λ offsets. Contains offsets offset) (sym same) slot

  -- the word of such a slot
  pub young_word : (home : Home) (offset word : ℕ) (is : IsYoungCell start.heap home.from)
      → HasWord is.words offset word → get_or start.heap.words (home.from + offset) 0 ≡ word
  young_word home offset word is stands =
      ap (λ n. get_or start.heap.words (n + offset) 0) (sym is.stands) ∙ word_reads offset word is.has stands

  -- a slot of a cell that has a home refers well
  pub young_refers_well : (home : Home) (offset word : ℕ) → Contains homes home
      → (is : IsYoungCell start.heap home.from) → Contains (scavenge_offsets is.cell.layout is.cell.length) offset
      → HasWord is.words offset word → RefersWell start homes word
  young_refers_well home offset word there is slot stands =
      let host : IsReachable fixed home.from = ((renaming ending).survivors home.from).0 (home, there, refl) in
      refers_well word (λ at refers. slot_target offset word at is.has slot stands refers)
      (λ at refers target young. IsReachable.by_cell home.from offset at host (slots_read home offset is slot)
      (target_reads (home.from + offset) word target refers (young_word home offset word is stands))
      (young_is target young))

  -- so does a recorded slot of a cell of a page
  pub recorded_refers_well : {cell : Cell} {body : List ℕ} (offset word : ℕ) → HasCell start.heap cell body
      → Contains (scavenge_offsets cell.layout cell.length) offset → HasWord body offset word
      → Contains start.recorded (cell.at + offset) → RefersWell start homes word
  recorded_refers_well {cell} offset word has slot stands recorded =
      let place : ℕ = cell.at + offset in
      refers_well word (λ at refers. slot_target offset word at has slot stands refers)
      (λ at refers target young. IsReachable.by_slot place at ((ending.begun.begins.slots place).1 (inr recorded))
      (target_reads place word target refers (word_reads offset word has stands)) (young_is target young))

  -- and so does a first root word
  pub root_refers_well : (variable word : ℕ) → variable < start.heap.space.variables
      → slice_get start.heap.words (root_at start.heap.space variable) ≡ Some word → RefersWell start homes word
  root_refers_well variable word known there =
      let slot : ℕ = root_at start.heap.space variable in
      let root = ending.begun.whole.roots variable known in
      let among : Contains fixed.slots slot =
      (ending.begun.begins.slots slot).1 (inl record { variable = variable; known = known; stands = refl }) in
      refers_well word
      (λ at refers. held_target start.heap root.held at root.is
      (same_Some _ word (sym root.holds.first ∙ there) ∙ refers))
      (λ at refers target young. IsReachable.by_slot slot at among
      (target_reads slot word target refers (get_or_from_slice_get start.heap.words slot word 0 there))
      (young_is target young))

  -- what is recorded refers to what is young
  pub recorded_is_young : {cell : Cell} {body : List ℕ} (offset word : ℕ) → HasCell start.heap cell body
      → offset < cell.size → HasWord body offset word → Contains start.recorded (cell.at + offset)
      → (at : ℕ) × (word ≡ reference_word at) × (eden_start start.heap.space ≤ at)
  recorded_is_young {cell} offset word has within stands recorded =
      let refers = ((ending.begun.remembered (cell.at + offset)).0 recorded).1 in
      let same : refers.word ≡ word =
      same_Some refers.word word (sym refers.stands ∙ word_found offset word has within stands) in (
        refers.cell,
        sym same ∙ (reference_from refers.word refers.cell refers.refers).1,
        refers.young,
      )

  -- and what refers to that in a page is recorded
  pub young_is_recorded : {cell : Cell} {body : List ℕ} (offset word at : ℕ) → HasCell start.heap cell body
      → cell.at < eden_start start.heap.space → Contains (scavenge_offsets cell.layout cell.length) offset
      → HasWord body offset word → word ≡ reference_word at → eden_start start.heap.space ≤ at
      → Contains start.recorded (cell.at + offset)
  young_is_recorded {cell} {body} offset word at has below slot stands refers young =
      let within = (slots_lie_within start.heap.space start.heap.words cell offset (has_is_cell has) slot).within in
      let target = slot_target offset word at has slot stands refers in
      let fits : at < 2 ^ 32 = subst (λ n. n < 2 ^ 32) target.stands (cell_fits target.has) in
      (ending.begun.remembered (cell.at + offset)).1 (
        record {
          cell = cell;
          words = body;
          has = has;
          of_page = below;
          slot = record { offset = offset; visited = slot; stands = refl };
        },
        record {
          word = word;
          stands = word_found offset word has within stands;
          cell = at;
          refers = reference_to word at fits refers;
          young = young;
        },
      )
