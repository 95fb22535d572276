-- The end of copying: where no live slot refers to a cell that is to be copied, all that was reached is renamed.
use Rattle.std.proofs.Common.{ℕ, ◌<◌, ◌+◌, ◌^◌, ◌≡◌, List, length, get_or, Some, arith, refl, sym, ap}
use Rattle.std.proofs.Common.{subst, ◌∙◌}
use Rattle.std.specs.List.{Contains}
use Rattle.std.proofs.lemmas.List.Elements.{Contains-get_or}
use Rattle.tagged_word.specs.declared.word.Class.TheVariants.{Ref}
use Rattle.tagged_word.specs.Words.{bits_of}
use Rattle.tagged_word.specs.Readings.{reference_in}
use Rattle.tagged_word.proofs.Cells.{some_same}
use Rattle.tagged_word.proofs.Readings.{reference_to}
use Rattle.scav_copy.specs.declared.places.Home.{Home}
use Rattle.scav_copy.specs.Places.{Fixed, offsets_of, IsInCopy, IsLaidOut, StoodAt}
use Rattle.scav_copy.specs.Renamings.{RefersToAddress, IsReachable, IsRenamed, HasOneHomeEach}
use Rattle.scav_copy.specs.Copies.{Copying, IsKeptOrRenamed}
use Rattle.scav_copy.specs.CopyLaws.{EndIsRenaming}
use Rattle.scav_copy.proofs.Spots.{cell_within, from_is, home_itself}

-- copying in which no live slot refers to a cell that is to be copied
record Ended (fixed : Fixed) (words : List ℕ) (homes : List Home) : Type 0 where
  laid : IsLaidOut fixed
  copying : Copying fixed words homes
  none : (slot place cell : ℕ) → StoodAt fixed homes slot place → RefersToAddress words slot cell
      → Contains fixed.cells cell
      → ⊥

-- a cell with a home has an address that a reference may have
from_fits : {fixed : Fixed} {words : List ℕ} {homes : List Home} (home : Home) → Ended fixed words homes
    → Contains homes home → home.from < 2 ^ 32
from_fits {fixed} home ended there =
    let is : Contains fixed.cells home.from = from_is home ended.copying there in
    let inside : home.from < length fixed.before = cell_within fixed home.from (ended.laid.cells_are home.from is) in
    omega (arith, inside, ended.laid.addressed)

-- a word that is the reference to a cell with a home refers to it
refers_home : {fixed : Fixed} {words : List ℕ} {homes : List Home} (home : Home) (word : ℕ) → Ended fixed words homes
    → Contains homes home → word ≡ bits_of (Ref home.from) → reference_in word ≡ Some home.from
refers_home home word ended there e = reference_to word home.from (from_fits home ended there) e

-- a cell that a live slot referred to before has a home
has_home : {fixed : Fixed} {words : List ℕ} {homes : List Home} (slot place cell : ℕ) → Ended fixed words homes
    → StoodAt fixed homes slot place → RefersToAddress fixed.before place cell → Contains fixed.cells cell
    → IsKeptOrRenamed homes (get_or fixed.before place 0) (get_or words slot 0)
    → (home : Home) × Contains homes home × (home.from ≡ cell)
has_home slot place cell ended stood refers is (IsKeptOrRenamed.kept same) =
    absurd (ended.none slot place cell stood
    (subst (λ (word : ℕ). reference_in word ≡ Some cell) (sym same) refers) is)
has_home {fixed} slot place cell ended stood refers is (IsKeptOrRenamed.renamed home there was now) =
    (home, there, some_same (refers_home home (get_or fixed.before place 0) ended there was) refers)

-- a cell that a slot of a cell with a home referred to has a home
next_home : {fixed : Fixed} {words : List ℕ} {homes : List Home} (host offset cell : ℕ) (home : Home)
    → Ended fixed words homes → Contains homes home → home.from ≡ host → Contains (offsets_of fixed host) offset
    → RefersToAddress fixed.before (host + offset) cell → Contains fixed.cells cell
    → (home : Home) × Contains homes home × (home.from ≡ cell)
next_home {fixed} {words} {homes} host offset cell home ended there same is refers among =
    let stood : StoodAt fixed homes (home.to + offset) (host + offset) =
    StoodAt.in_cell home offset there (subst (λ (at : ℕ). Contains (offsets_of fixed at) offset) (sym same) is) refl
    (ap (λ (at : ℕ). at + offset) same) in
    has_home (home.to + offset) (host + offset) cell ended stood refers among
    (ended.copying.live (home.to + offset) (host + offset) stood)

-- each cell that was reached has a home
all_moved : {fixed : Fixed} {words : List ℕ} {homes : List Home} → Ended fixed words homes → (cell : ℕ)
    → IsReachable fixed cell → (home : Home) × Contains homes home × (home.from ≡ cell)
all_moved {fixed} {words} {homes} ended _ (IsReachable.by_slot slot cell there refers is) =
    has_home slot slot cell ended (StoodAt.itself there refl) refers is
    (ended.copying.live slot slot (StoodAt.itself there refl))
all_moved {fixed} {words} {homes} ended _ (IsReachable.by_cell host offset cell from there refers is) =
    let found = all_moved ended host from in
    next_home host offset cell found.0 ended found.1 found.2 there refers is

-- a live slot is renamed
renamed : {fixed : Fixed} {words : List ℕ} {homes : List Home} (slot place : ℕ) → Ended fixed words homes
    → StoodAt fixed homes slot place → IsKeptOrRenamed homes (get_or fixed.before place 0) (get_or words slot 0)
    → IsRenamed homes (get_or fixed.before place 0) (get_or words slot 0)
renamed {fixed} {words} slot place ended stood (IsKeptOrRenamed.kept same) =
    IsRenamed.kept (λ home there was. ended.none slot place home.from stood
    (refers_home home (get_or words slot 0) ended there (same ∙ was)) (from_is home ended.copying there)) same
renamed slot place ended stood (IsKeptOrRenamed.renamed home there was is) = IsRenamed.renamed home there was is

-- no cell has two homes, and no address is the home of two
pub one_each : {fixed : Fixed} {words : List ℕ} {homes : List Home} → IsLaidOut fixed → Copying fixed words homes
    → HasOneHomeEach homes
one_each {fixed} {homes = homes} laid copying i j d less within =
    let one : Home = get_or homes i d in
    let other : Home = get_or homes j d in
    let below : one.from < other.from = copying.ascend i j d less within in
    let first : Contains homes one = Contains-get_or homes i d (omega arith) in
    let second : Contains homes other = Contains-get_or homes j d within in (
      λ same. omega arith,
      λ same.
          let equal : one ≡ other = copying.apart one other one.to first second
          (home_itself one laid copying first)
          (subst (IsInCopy fixed other) (sym same) (home_itself other laid copying second)) in
          let from : one.from ≡ other.from = ap (λ (home : Home). home.from) equal in
          omega arith,
    )

-- the end is a renaming, nothing outside changed, and copies have words of a room to themselves
pub end_is_renaming : EndIsRenaming
end_is_renaming fixed words homes laid copying none =
    let ended : Ended fixed words homes = record { laid = laid; copying = copying; none = none } in (
      record {
        one_each = one_each laid copying;
        survivors = λ cell. (
          λ found. subst (IsReachable fixed) found.2 (copying.reached found.0 found.1),
          λ reached. all_moved ended cell reached,
        );
        copied = copying.copied;
        copied_slots = λ home offset there is.
            let stood = StoodAt.in_cell home offset there is refl refl in
            renamed (home.to + offset) (home.from + offset) ended stood
            (copying.live (home.to + offset) (home.from + offset) stood);
        slots = λ slot there.
            renamed slot slot ended (StoodAt.itself there refl) (copying.live slot slot (StoodAt.itself there refl));
      },
      copying.outside,
      copying.housed,
      copying.apart,
    )
