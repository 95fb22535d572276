-- A scavenge by one goes on from any words and homes that are copying.
use Rattle.std.proofs.Common.{ℕ, ◌≡◌, List, get_or, Some, sym, ap, subst, ◌∙◌}
use Rattle.std.specs.List.{Contains}
use Rattle.tagged_word.specs.Readings.{reference_in}
use Rattle.tagged_word.proofs.Readings.{reference_to}
use Rattle.scav_copy.specs.declared.places.Home.{Home}
use Rattle.scav_copy.specs.Places.{Fixed, IsLaidOut}
use Rattle.scav_copy.specs.Renamings.{RefersToAddress, IsReachable}
use Rattle.scav_copy.specs.Copies.{HasHeader, Copying}
use Rattle.scav_copy.specs.Going.{GoesOn, CopyingGoesOn, IsFollowed, SlotsAreFollowed}
use Rattle.scav_copy.proofs.Ascending.{old_in}
use Rattle.scav_copy.proofs.Ending.{end_is_renaming}
use Rattle.scav_copy.proofs.Filling.{rooms_may_be_filled}
use Rattle.scav_copy.proofs.Moving.{cells_may_move}
use Rattle.scav_copy.proofs.Reading.{header_is_none, unmoved_reads}
use Rattle.scav_copy.proofs.Redirecting.{as_before, slots_may_be_renamed}
use Rattle.scav_copy.proofs.Spots.{home_fits}

-- the steps keep copying
still_copying : {fixed : Fixed} {words : List ℕ} {homes : List Home} {now : List ℕ} {all : List Home} → IsLaidOut fixed
    → Copying fixed words homes → GoesOn fixed words homes now all → Copying fixed now all
still_copying laid copying GoesOn.stays = copying
still_copying {fixed} laid copying (GoesOn.fills now all at word on room free) =
    rooms_may_be_filled fixed now all at word laid (still_copying laid copying on) room free
still_copying {fixed} laid copying (GoesOn.moves now all cell to on reached none stands) =
    cells_may_move fixed now all cell to laid (still_copying laid copying on) reached none stands
still_copying {fixed} laid copying (GoesOn.renames now all slot place home on stood there refers) =
    slots_may_be_renamed fixed now all slot place home laid (still_copying laid copying on) stood there refers

-- and lose no home
still_home : {fixed : Fixed} {words : List ℕ} {homes : List Home} {now : List ℕ} {all : List Home} (home : Home)
    → GoesOn fixed words homes now all → Contains homes home → Contains all home
still_home home GoesOn.stays there = there
still_home home (GoesOn.fills now all at word on room free) there = still_home home on there
still_home home (GoesOn.moves now all cell to on reached none stands) there =
    old_in all (record { from = cell; to = to }) home (still_home home on there)
still_home home (GoesOn.renames now all slot place other on stood among refers) there = still_home home on there

-- a scavenge may go on from any words and homes that are copying
pub copying_goes_on : CopyingGoesOn
copying_goes_on fixed words now homes all laid copying on =
    let next : Copying fixed now all = still_copying laid copying on in
    record {
      copying = next;
      kept = λ home there. still_home home on there;
      end = λ none. end_is_renaming fixed now all laid next none;
    }

-- what is found at a cell to which a live slot refers
followed_by : {fixed : Fixed} {words : List ℕ} {homes : List Home} (place cell : ℕ) → IsLaidOut fixed
    → Copying fixed words homes → Contains fixed.cells cell → IsReachable fixed cell
    → RefersToAddress fixed.before place cell
    → HasHeader fixed words homes cell → IsFollowed fixed words homes place cell
followed_by {fixed} {words} place cell laid copying is reached refers (HasHeader.forwarded home there of word) =
    IsFollowed.has_home home there (reference_to (get_or words cell 0) home.to (home_fits home laid copying there) word)
    (subst (RefersToAddress fixed.before place) (sym of) refers)
followed_by {fixed} {words} {homes} place cell laid copying is reached refers (HasHeader.unmoved none word) =
    IsFollowed.has_none none reached (ap reference_in word ∙ header_is_none fixed cell (laid.cells_are cell is))
    (unmoved_reads fixed words homes cell laid copying is word)

-- each live slot that refers to a cell may be followed
pub slots_are_followed : SlotsAreFollowed
slots_are_followed fixed words homes slot place cell laid copying stood refers is =
    let before = as_before fixed words homes slot place cell laid copying stood refers is in
    followed_by place cell laid copying is before.1
    (subst (λ (word : ℕ). reference_in word ≡ Some cell) before.0 refers) (copying.headers cell is)
