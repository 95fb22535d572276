-- A word that shows a value shows it by its class.
use Rattle.std.proofs.Common.{◌≡◌, ℕ, ◌+◌, ◌<◌, ◌^◌, true, false, List, Some, IsTrue, ℤ}
use Rattle.std.proofs.Common.{sym, ◌∙◌, ap, subst, arith}
use Rattle.std.specs.Prelude.{FitsSigned}
use Rattle.std.specs.Int.{w64, cast_signed}
use Rattle.std.proofs.lemmas.Int.{to_z-of_z, ints}
use Rattle.tagged_word.specs.declared.word.Class.TheVariants as of_class
use Rattle.tagged_word.specs.Words.{small}
use Rattle.tagged_word.specs.Odds.{undefined_code}
use Rattle.tagged_word.specs.Readings.{reference_in}
use Rattle.tagged_word.proofs.Readings.{reference_from}
use Rattle.page_space.specs.Extents.{marks_start}
use Rattle.page_space.specs.RegionLaws.{IsSpace}
use Rattle.object_graph.specs.declared.value.Value.TheVariants.{Int, Ref}
use Rattle.heap_model.specs.Types.{Cell, Held}
use Rattle.handle_roots.specs.declared.held.Held.TheVariants as held
use Rattle.handle_roots.specs.Roots.{FitsHeld}
use Rattle.heap_model.specs.Heaps.{Heap, HasCell}
use Rattle.heap_model.specs.Slots.{reference_word, raw_word, RefersToPlace, RefersToBox}
use Rattle.heap_model.specs.Wholeness.{HasSizes}
use Rattle.heap_model.specs.Needs.{word_at, is_box_at}
use Rattle.heap_model.specs.Showing.{ShowsValue, ShowsHeld}
use Rattle.heap_model.proofs.BoxShapes.{told_box, told_object}
use Rattle.heap_model.proofs.ShownBoxes.{cell_before, address_fits}
use Rattle.heap_model.proofs.WordClasses.{same_reference, undefined_refers_not, small_refers_not}
use Rattle.heap_model.proofs.WordsRead.{word_of_cell}
use Rattle.write_barrier.specs.Values.{held_at, held_of_class}
use Rattle.write_barrier.specs.ValueLaws.{ShowsByClass, ShownValuesAreHeld}

-- a small integer has 64 bits
small_fits : (v : ℤ) → IsTrue (small v) → FitsSigned w64 v
small_fits v is = grind (arith, ints)

-- the address of a word that refers to a cell is the cell's
refers_within : {heap : Heap} {cell : Cell} {words : List ℕ} (word at : ℕ) → HasCell heap cell words
    → word ≡ reference_word cell.at → reference_in word ≡ Some at → at + 1 < marks_start heap.space
refers_within {heap} {cell} word at has refers same =
    let here : at ≡ cell.at = same_reference at cell.at (sym (reference_from word at same).1 ∙ refers) in
    omega (arith, here, cell_before has)

-- a reference to an object
object_by_class : (heap : Heap) (word number : ℕ) → IsSpace heap.space → HasSizes heap → RefersToPlace heap word number
    → ShowsByClass heap word (Ref number)
object_by_class heap word number space sized refers =
    let place = refers.place in
    let told : is_box_at heap (Some refers.at) ≡ false =
    ap (λ (at : ℕ). is_box_at heap (Some at)) (sym place.stands) ∙ told_object sized place.has place.object in
    let stands : held.Ref refers.at ≡ held_of_class heap (of_class.Ref refers.at) = ap (held_at heap refers.at)
    (sym told) in
    let fits : refers.at < 2 ^ 32 = subst (λ (at : ℕ). at < 2 ^ 32) place.stands (address_fits space place.has) in
    record {
      class = of_class.Ref refers.at;
      is_class = fits;
      bits = refers.refers;
      fits = subst FitsHeld stands fits;
      shows = subst (λ (one : Held). ShowsHeld heap one (Some (Ref number))) stands
          (ShowsHeld.object refers.at number place);
      within = λ at same. refers_within word at place.has (refers.refers ∙ ap reference_word (sym place.stands)) same;
    }

-- a reference to a box
pub box_by_class : (heap : Heap) (word : ℕ) (v : ℤ) → IsSpace heap.space → HasSizes heap → RefersToBox heap word v
    → ShowsByClass heap word (Int v)
box_by_class heap word v space sized refers =
    let cell = refers.cell in
    let has = refers.target.has in
    let told : is_box_at heap (Some cell.at) ≡ true = told_box sized has refers.box in
    let raw : word_at heap (cell.at + 1) ≡ raw_word v = word_of_cell 1 (raw_word v) has refers.holds in
    let value : held.Int v ≡ held_of_class heap (of_class.Ref cell.at) =
    ap (λ (n : ℤ). held.Int n) (sym (to_z-of_z w64 v refers.fits))
    ∙ ap (λ (n : ℕ). held.Int (cast_signed w64 n)) (sym raw)
    ∙ ap (held_at heap cell.at) (sym told) in
    record {
      class = of_class.Ref cell.at;
      is_class = address_fits space has;
      bits = refers.target.refers;
      fits = subst FitsHeld value refers.fits;
      shows = subst (λ (one : Held). ShowsHeld heap one (Some (Int v))) value (ShowsHeld.integer v);
      within = λ at same. refers_within word at has refers.target.refers same;
    }

-- each value
pub shown_values_are_held : ShownValuesAreHeld
shown_values_are_held heap word value space sized (ShowsValue.small_integer v is same) = record {
  class = of_class.Small v;
  is_class = is;
  bits = same;
  fits = small_fits v is;
  shows = ShowsHeld.integer v;
  within = λ at refers. absurd (small_refers_not v at (sym same ∙ (reference_from word at refers).1));
}
shown_values_are_held heap word value space sized (ShowsValue.undefined same) = record {
  class = of_class.Odd undefined_code;
  is_class = omega arith;
  bits = same;
  fits = tt;
  shows = ShowsHeld.undefined;
  within = λ at refers. absurd (undefined_refers_not at (sym same ∙ (reference_from word at refers).1));
}
shown_values_are_held heap word value space sized (ShowsValue.object number refers) =
    object_by_class heap word number space sized refers
shown_values_are_held heap word value space sized (ShowsValue.boxed v wide refers) =
    box_by_class heap word v space sized refers
