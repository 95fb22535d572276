-- Whether a word refers to a young cell.
use Rattle.std.proofs.Common.{◌≡◌, ℕ, ◌<◌, ◌↔◌, inl, inr, Bool, true, false, not, List, Some, slice_get, IsTrue}
use Rattle.std.proofs.Common.{refl, sym, ◌∙◌, subst, arith}
use Rattle.std.proofs.lemmas.Bool.{false≢true, cases_lt}
use Rattle.std.proofs.lemmas.Option.{same_Some}
use Rattle.tagged_word.specs.Readings.{reference_in}
use Rattle.page_space.specs.Extents.{Space, eden_start, is_page_region, IsInOne}
use Rattle.page_space.proofs.CellAddresses.{pages_are}
use Rattle.heap_model.specs.Remembered.{RefersToYoung}

-- a word that refers to an address refers to a young cell where the address is not of a page
pub young_if_no_page : (space : Space) (words : List ℕ) (at word cell : ℕ) (page : Bool)
    → slice_get words at ≡ Some word → reference_in word ≡ Some cell
    → IsTrue page ↔ IsInOne space is_page_region cell → IsTrue (not page) ↔ RefersToYoung (eden_start space) words at
young_if_no_page space words at word cell true there refers of = (
  λ wrong. absurd (false≢true wrong),
  λ young.
      let same : word ≡ young.word = same_Some word young.word (sym there ∙ young.stands) in
      let one : cell ≡ young.cell =
      same_Some cell young.cell (sym refers ∙ subst (λ w. reference_in w ≡ Some young.cell) (sym same) young.refers) in
      let below : cell < eden_start space = (pages_are space cell).1 (of.0 refl) in
      absurd (omega (arith, below, one, young.young)),
)
young_if_no_page space words at word cell false there refers of = (
  λ yes. record {
    word = word;
    stands = there;
    cell = cell;
    refers = refers;
    young = elim (cases_lt cell (eden_start space)) [
      | inl below ↦ absurd (false≢true (of.1 ((pages_are space cell).0 below)))
      | inr from ↦ from
    ];
  },
  λ young. refl,
)
