-- A live slot that becomes the reference to a home.
use Rattle.std.proofs.Common.{ℕ, ◌<◌, ◌≡◌, ◌≢◌, List, length, set, get_or, Some}
use Rattle.std.proofs.Common.{arith, ap, subst, ◌∙◌}
use Rattle.std.specs.List.{Contains}
use Rattle.std.proofs.lemmas.List.{get_or-set_same}
use Rattle.tagged_word.specs.declared.word.Class.TheVariants.{Ref}
use Rattle.tagged_word.specs.Words.{bits_of}
use Rattle.tagged_word.specs.Readings.{reference_in}
use Rattle.scav_copy.specs.declared.places.Home.{Home}
use Rattle.scav_copy.specs.Places.{Fixed, IsLaidOut, StoodAt}
use Rattle.scav_copy.specs.Renamings.{RefersToAddress}
use Rattle.scav_copy.specs.Copies.{Copying}
use Rattle.scav_copy.proofs.Redirecting.{as_before, slots_may_be_renamed}
use Rattle.scav_copy.proofs.Spots.{elsewhere, from_is, home_is_no_cell, live_is_there}
use Rattle.scavenger.specs.Following.{RenamingGoesOn}
use Rattle.scavenger.proofs.PagesSlots.{pages_stay_for_slots}
use Rattle.scavenger.proofs.HandedStays.{slot_still_end}

-- a slot that became the reference to a home refers to none of the cells, so another does
pub other_slot : {fixed : Fixed} {words : List ℕ} {homes : List Home} (slot place other cell : ℕ) (home : Home)
    → IsLaidOut fixed → Copying fixed words homes → StoodAt fixed homes slot place → Contains homes home
    → RefersToAddress (set words slot (bits_of (Ref home.to))) other cell → Contains fixed.cells cell → other ≢ slot
other_slot {words = words} slot place other cell home laid copying stood there refers is same =
    let word : ℕ = bits_of (Ref home.to) in
    let now : List ℕ = set words slot word in
    let inside : slot < length words = omega (arith, live_is_there slot place laid copying stood, copying.long) in
    home_is_no_cell home (get_or now other 0) cell laid copying there
    (ap (λ (at : ℕ). get_or now at 0) same ∙ get_or-set_same words slot word 0 inside) refers is

-- where another word became that, a slot refers to what it referred to before
pub refers_before : (words : List ℕ) (slot word other cell : ℕ) → other ≢ slot
    → RefersToAddress (set words slot word) other cell → RefersToAddress words other cell
refers_before words slot word other cell apart refers =
    subst (λ (one : ℕ). reference_in one ≡ Some cell) (elsewhere words slot word other apart) refers

-- a slot that refers to a cell with a home may become the reference to that
renamed_copying : {fixed : Fixed} {words : List ℕ} {homes : List Home} (slot place : ℕ) (home : Home)
    → IsLaidOut fixed → Copying fixed words homes → StoodAt fixed homes slot place
    → RefersToAddress words slot home.from → Contains homes home
    → Copying fixed (set words slot (bits_of (Ref home.to))) homes
renamed_copying {fixed} {words} {homes} slot place home laid copying stood refers there =
    let same = (as_before fixed words homes slot place home.from laid copying stood refers
    (from_is home copying there)).0 in
    slots_may_be_renamed fixed words homes slot place home laid copying stood there
    (subst (λ (word : ℕ). reference_in word ≡ Some home.from) same refers)

-- so a scavenge goes on
pub renaming_goes_on : RenamingGoesOn
renaming_goes_on start left fixed words rows homes todo front home fill slot place begun both filled stood refers
    is_left there =
    let laid = begun.laid in
    record {
      filled = record {
        copying = renamed_copying slot place home laid filled.copying stood refers there;
        stayed = filled.stayed;
        tiles = filled.tiles;
        promoted = filled.promoted;
        in_pages = filled.in_pages;
        handed_by = filled.handed_by;
        handed = filled.handed;
        behind = slot_still_end begun filled slot place (bits_of (Ref home.to)) stood;
        same = filled.same;
        long = filled.long;
        pages = pages_stay_for_slots start fixed words rows homes fill slot place (bits_of (Ref home.to)) begun filled
            stood;
        left = filled.left;
        free = filled.free;
        backs = filled.backs;
        apart = filled.apart;
      };
      others = λ others other origin cell also now is.
          let apart = other_slot slot place other cell home laid filled.copying stood there now is in
          (apart, refers_before words slot (bits_of (Ref home.to)) other cell apart now);
    }
