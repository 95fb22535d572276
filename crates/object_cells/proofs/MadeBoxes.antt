-- The box that is made for what a slot comes to hold, if it needs one.
use Rattle.std.proofs.Common.{◌≡◌, ℕ, ◌+◌, ◌≤◌, ◌<◌, length, length-set, Bool, List, [], ◌∷◌}
use Rattle.std.proofs.Common.{Contains, Some, slice_get, refl, sym, ◌∙◌, ap, subst, arith}
use Rattle.std.specs.Prelude.{ℤ, FitsSigned, slice_set}
use Rattle.std.specs.Int.{w64}
use Rattle.std.proofs.lemmas.List.{set_comm}
use Rattle.heap_model.specs.Types.{Value, Rep, Cell}
use Rattle.tagged_word.specs.declared.layout.Kind.TheVariants as kind
use Rattle.tagged_word.specs.Headers.{header_bits}
use Rattle.tagged_word.proofs.Members.{first_in, one_in}
use Rattle.object_graph.specs.Invariants.{IsValue}
use Rattle.object_graph.proofs.Lists.{slice_get-set_same, slice_get-set_other}
use Rattle.cell_layout.specs.Cells.{IsCell, IsRow, none, next}
use Rattle.heap_model.specs.Heaps.{Heap, HasCell, words_of_cell}
use Rattle.heap_model.specs.Slots.{raw_word, reference_word, RefersToBox}
use Rattle.heap_model.specs.Kinds.{HasWord, IsBoxCell}
use Rattle.heap_model.specs.Wholeness.{HasSizes}
use Rattle.heap_model.proofs.BoundHeaps.{none_in}
use Rattle.object_cells.specs.Formats.{box_header}
use Rattle.object_cells.specs.declared.content.SlotContent.{SlotContent}
use Rattle.object_cells.specs.declared.content.SlotContent.TheVariants as content
use Rattle.object_cells.specs.FilledRuns.{HasBoxWords}
use Rattle.object_cells.specs.Made.{content_need, with_content}
use Rattle.object_cells.proofs.HeldContents.{HoldsValue}
use Rattle.object_cells.proofs.NewBoxes.{box_cell, box_is_cell, row_of_box}
use Rattle.object_cells.proofs.RunCells.{AreOfRegion}
use Rattle.object_cells.proofs.SlotsNow.{word_at_offset}

-- the box that is made for it, at an address
abbrev pub made_boxes : SlotContent → ℕ → List Cell
made_boxes (content.Tagged word) at = []
made_boxes (content.Raw word) at = []
made_boxes (content.Boxed v) at = box_cell at ∷ []

-- both words of the box stand in words of one region, if it needs one
pub record BoxStands (heap : Heap) (holds : SlotContent) (box : ℕ) : Type 0 where
  pub header : (v : ℤ) → holds ≡ content.Boxed v → slice_get heap.words box ≡ Some (header_bits box_header)
  pub raw : (v : ℤ) → holds ≡ content.Boxed v → slice_get heap.words (box + 1) ≡ Some (raw_word v)
  pub region : (v : ℤ) → holds ≡ content.Boxed v → AreOfRegion heap.space box (box + 2)

-- no cell is made in no words
pub row_of_none : (heap : Heap) (at : ℕ) → IsRow heap.space heap.words at (at + 0) []
row_of_none heap at =
    let same : at ≡ at + 0 = omega arith in
    subst (λ end. IsRow heap.space heap.words at end []) same (none at)

-- then it is a row
pub made_row : (heap : Heap) (holds : SlotContent) (box : ℕ) → HasSizes heap → BoxStands heap holds box
    → IsRow heap.space heap.words box (box + content_need holds) (made_boxes holds box)
made_row heap (content.Tagged word) box sized stands = row_of_none heap box
made_row heap (content.Raw word) box sized stands = row_of_none heap box
made_row heap (content.Boxed v) box sized stands =
    row_of_box heap box (box + 2)
    (box_is_cell heap box sized (stands.header v refl) (stands.region v refl)) refl

-- A slot comes to hold a box with this integer, and this cell is the box.
pub record IsTheBox (holds : SlotContent) (box : ℕ) (other : Cell) : Type 0 where
  pub integer : ℤ
  pub boxed : holds ≡ content.Boxed integer
  pub same : box_cell box ≡ other

-- each of them is that box
pub the_box : (holds : SlotContent) (box : ℕ) (other : Cell) → Contains (made_boxes holds box) other
    → IsTheBox holds box other
the_box (content.Tagged word) box other there = absurd (none_in other there)
the_box (content.Raw word) box other there = absurd (none_in other there)
the_box (content.Boxed v) box other there =
    record { integer = v; boxed = refl; same = one_in (box_cell box) other there }

-- the box is one of them
pub made_box : (holds : SlotContent) (box : ℕ) (v : ℤ) → holds ≡ content.Boxed v
    → Contains (made_boxes holds box) (box_cell box)
made_box holds box v boxed =
    subst (λ one. Contains (made_boxes one box) (box_cell box)) (sym boxed) (first_in (box_cell box) [])

-- a slot that needs a box holds an integer
pub boxed_integer : {heap : Heap} {own : Bool} {was one : Rep} {what : Value} {holds : SlotContent} (count : ℕ) (v : ℤ)
    → HoldsValue heap own was one what holds → IsValue count what → holds ≡ content.Boxed v → FitsSigned w64 v
boxed_integer count v (HoldsValue.small_integer one w is apart) fits boxed = cc
boxed_integer count v (HoldsValue.raw w own apart) fits boxed = cc
boxed_integer count v (HoldsValue.wide_box w beside apart small) fits boxed =
    let same : w ≡ v = cc in
    subst (FitsSigned w64) same fits
boxed_integer count v (HoldsValue.tagged_box w wide was) fits boxed =
    let same : w ≡ v = cc in
    subst (FitsSigned w64) same fits
boxed_integer count v HoldsValue.undefined fits boxed = cc
boxed_integer count v (HoldsValue.object at number place) fits boxed = cc

-- the integer of the box
box_word : {heap : Heap} (holds : SlotContent) (box : ℕ) (v : ℤ) → holds ≡ content.Boxed v → BoxStands heap holds box
    → HasCell heap (box_cell box) (words_of_cell heap (box_cell box))
    → HasWord (words_of_cell heap (box_cell box)) 1 (raw_word v)
box_word holds box v boxed stands has = word_at_offset 1 has (omega arith) ∙ stands.raw v boxed

-- so it is a box
pub made_is_box : {heap : Heap} (holds : SlotContent) (box : ℕ) (v : ℤ) → holds ≡ content.Boxed v → FitsSigned w64 v
    → BoxStands heap holds box → HasCell heap (box_cell box) (words_of_cell heap (box_cell box))
    → IsBoxCell (box_cell box) (words_of_cell heap (box_cell box))
made_is_box holds box v boxed fits stands has =
    record { no_number = refl; integer = v; fits = fits; holds = box_word holds box v boxed stands has }

-- to which its reference refers
pub refers_to_made : {heap : Heap} (holds : SlotContent) (box : ℕ) (v : ℤ) → holds ≡ content.Boxed v → FitsSigned w64 v
    → BoxStands heap holds box → HasCell heap (box_cell box) (words_of_cell heap (box_cell box))
    → RefersToBox heap (reference_word box) v
refers_to_made {heap} holds box v boxed fits stands has = record {
  cell = box_cell box;
  words = words_of_cell heap (box_cell box);
  target = record { refers = refl; has = has };
  box = refl;
  holds = box_word holds box v boxed stands has;
  fits = fits;
}

-- the cells that are made are boxes
pub made_boxed : (holds : SlotContent) (box : ℕ) (other : Cell) → Contains (made_boxes holds box) other
    → other.layout.kind ≡ kind.Boxed
made_boxed holds box other there =
    let one = the_box holds box other there in
    ap (λ (c : Cell). c.layout.kind) (sym one.same)

-- and sound ones
pub made_sound : {heap old : Heap} {own : Bool} {was one : Rep} {what : Value} {holds : SlotContent} (count box : ℕ)
    (other : Cell) → HoldsValue old own was one what holds → IsValue count what → BoxStands heap holds box
    → HasCell heap other (words_of_cell heap other) → Contains (made_boxes holds box) other
    → IsBoxCell other (words_of_cell heap other)
made_sound {heap} {holds = holds} count box other value fits stands has there =
    let one = the_box holds box other there in
    let box_has = subst (λ (c : Cell). HasCell heap c (words_of_cell heap c)) (sym one.same) has in
    subst (λ (c : Cell). IsBoxCell c (words_of_cell heap c)) one.same
    (made_is_box holds box one.integer one.boxed (boxed_integer count one.integer value fits one.boxed) stands box_has)

-- with a box made there are as many words
pub length-with_content : (words : List ℕ) (holds : SlotContent) (box : ℕ)
    → length (with_content words holds box) ≡ length words
length-with_content words (content.Tagged word) box = refl
length-with_content words (content.Raw word) box = refl
length-with_content words (content.Boxed v) box =
    length-set (slice_set words box (header_bits box_header)) (box + 1) (raw_word v)
    ∙ length-set words box (header_bits box_header)

-- and but for those of the box they are as before
pub with_content_stays : (words : List ℕ) (holds : SlotContent) (box a : ℕ)
    → (box ≤ a → a < box + content_need holds → ⊥) → slice_get (with_content words holds box) a ≡ slice_get words a
with_content_stays words (content.Tagged word) box a beside = refl
with_content_stays words (content.Raw word) box a beside = refl
with_content_stays words (content.Boxed v) box a beside =
    slice_get-set_other (slice_set words box (header_bits box_header)) (box + 1) a (raw_word v)
    (λ same. beside (omega (arith, same)) (omega (arith, same)))
    ∙ slice_get-set_other words box a (header_bits box_header)
    (λ same. beside (omega (arith, same)) (omega (arith, same)))

-- a word that is put beside the box is put before it as well
pub with_content_set : (words : List ℕ) (holds : SlotContent) (box a word : ℕ)
    → (box ≤ a → a < box + content_need holds → ⊥)
    → with_content (slice_set words a word) holds box ≡ slice_set (with_content words holds box) a word
with_content_set words (content.Tagged one) box a word beside = refl
with_content_set words (content.Raw one) box a word beside = refl
with_content_set words (content.Boxed v) box a word beside =
    ap (λ all. slice_set all (box + 1) (raw_word v))
    (set_comm words a box word (header_bits box_header) (λ same. beside (omega (arith, same)) (omega (arith, same))))
    ∙ set_comm (slice_set words box (header_bits box_header)) a (box + 1) word (raw_word v)
    (λ same. beside (omega (arith, same)) (omega (arith, same)))

-- and those are the words of the box
pub with_content_box : (words : List ℕ) (holds : SlotContent) (box : ℕ) (v : ℤ) → holds ≡ content.Boxed v
    → box + 1 < length words → HasBoxWords (with_content words holds box) box v
with_content_box words (content.Tagged word) box v boxed within = cc
with_content_box words (content.Raw word) box v boxed within = cc
with_content_box words (content.Boxed w) box v boxed within =
    let same : w ≡ v = cc in
    let one = slice_set words box (header_bits box_header) in
    record {
      header = slice_get-set_other one (box + 1) box (raw_word w) (λ is. omega (arith, is))
          ∙ slice_get-set_same words box (header_bits box_header) (omega (arith, within));
      raw = slice_get-set_same one (box + 1) (raw_word w)
          (omega (arith, within, length-set words box (header_bits box_header)))
          ∙ ap (λ (n : ℤ). Some (raw_word n)) same;
    }

-- A box that a slot comes to hold stands at an address in words of one region, where those from there on were put for
-- it.
pub put_box : (heap : Heap) (words : List ℕ) (holds : SlotContent) (box : ℕ) → box + content_need holds ≤ length words
    → AreOfRegion heap.space box (box + content_need holds) → ((b : ℕ) → box ≤ b → b < box + content_need holds
    → slice_get heap.words b ≡ slice_get (with_content words holds box) b) → BoxStands heap holds box
put_box heap words holds box within region stands =
    let put = λ (v : ℤ) (is_box : holds ≡ content.Boxed v).
    with_content_box words holds box v is_box (omega (arith, within, ap content_need is_box)) in
    record {
      header = λ v is_box. stands box (omega arith) (omega (arith, ap content_need is_box)) ∙ (put v is_box).header;
      raw = λ v is_box. stands (box + 1) (omega arith) (omega (arith, ap content_need is_box)) ∙ (put v is_box).raw;
      region = λ v is_box. subst (λ n. AreOfRegion heap.space box (box + n)) (ap content_need is_box) region;
    }

-- where the box stands behind another cell that was made, both are the row of their words
pub row_with_box : (heap : Heap) (first : Cell) (holds : SlotContent) (end : ℕ) → IsCell heap.space heap.words first
    → HasSizes heap → BoxStands heap holds (first.at + first.size)
    → first.at + first.size + content_need holds ≡ end
    → IsRow heap.space heap.words first.at end (first ∷ made_boxes holds (first.at + first.size))
row_with_box heap first holds end is sized stands ends =
    let behind : ℕ = first.at + first.size in
    subst (λ to. IsRow heap.space heap.words first.at to (first ∷ made_boxes holds behind)) ends
    (next first (behind + content_need holds) (made_boxes holds behind) is (made_row heap holds behind sized stands))
