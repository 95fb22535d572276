-- What stays for a worker, whatever event comes.
use Rattle.std.proofs.Common.{ℕ, ◌<◌, ◌+◌, ◌≡◌, ◌≢◌, ◌⊎◌, inl, inr, true, List}
use Rattle.std.proofs.Common.{length, get_or, set, slice_get}
use Rattle.std.proofs.Common.{Some, arith, sym, ap, subst, ◌∙◌}
use Rattle.std.specs.List.{Contains}
use Rattle.std.proofs.lemmas.List.{get_or-set_same, get_or-set_other, length-set}
use Rattle.std.proofs.lemmas.Option.{slice_get-get_or}
use Rattle.tagged_word.specs.declared.word.Class.TheVariants.{Ref}
use Rattle.tagged_word.specs.Words.{bits_of}
use Rattle.tagged_word.proofs.Readings.{reference_from}
use Rattle.scav_copy.specs.declared.places.Home.{Home}
use Rattle.scav_copy.specs.declared.places.Room.{Room}
use Rattle.scav_copy.specs.Places.{IsInRoom, IsInCopies, IsOfCell, StoodAt}
use Rattle.scav_copy.specs.Renamings.{RefersToAddress}
use Rattle.scav_copy.specs.Copies.{IsKeptOrRenamed}
use Rattle.scav_copy.proofs.Ascending.{old_in, one_home}
use Rattle.scav_copy.proofs.Filling.{free_is_not_live}
use Rattle.scav_copy.proofs.Redirecting.{equal_or_not, one_origin}
use Rattle.scav_copy.proofs.Spots.{elsewhere, live_in_no_cell, live_is_there, cell_itself, from_is}
use Rattle.scav_core.specs.declared.event.Event.{Event}
use Rattle.scav_core.specs.declared.workers.WorkerView.{WorkerView}
use Rattle.scav_core.specs.declared.world.World.{World}
use Rattle.scav_core.specs.Worlds.{fixed_of}
use Rattle.scav_core.specs.Steps.{worker_of, after}
use Rattle.scav_core.specs.Underway.{Underway}
use Rattle.scav_core.specs.Possible.{is_possible}
use Rattle.scav_core.specs.WorkerGuarantees.{IsRedirected, StaysFor, EventsStayFor}
use Rattle.scav_core.proofs.Events.{Owes, Comes, comes, events_keep}
use Rattle.scav_core.proofs.Forwarding.{no_home_or, forwarded_by}
use Rattle.scav_core.proofs.Keeping.{IsChange}

-- homes stay
homes_stay : {world : World} {words : List ℕ} {homes : List Home} {worker : ℕ} (home : Home)
    → IsChange world words homes worker → Contains world.homes home → Contains homes home
homes_stay home (IsChange.unchanged e f) there = subst (λ (all : List Home). Contains all home) (sym f) there
homes_stay home (IsChange.storing at word room e f among own inside free) there =
    subst (λ (all : List Home). Contains all home) (sym f) there
homes_stay {world} home (IsChange.moving new room e f is none own lies) there =
    subst (λ (all : List Home). Contains all home) (sym f) (old_in world.homes new home there)
homes_stay home (IsChange.renaming slot place one e f stood refers among) there =
    subst (λ (all : List Home). Contains all home) (sym f) there

-- live slots stay
live_stay : {world : World} {words : List ℕ} {homes : List Home} {worker : ℕ} (slot place : ℕ)
    → IsChange world words homes worker → StoodAt (fixed_of world) world.homes slot place
    → StoodAt (fixed_of world) homes slot place
live_stay slot place change (StoodAt.itself there same) = StoodAt.itself there same
live_stay slot place change (StoodAt.in_cell home offset there is e f) =
    StoodAt.in_cell home offset (homes_stay home change there) is e f

-- a word of the words after a store is that of before, where the store was elsewhere
stored_elsewhere : (words others : List ℕ) (at word other : ℕ) → others ≡ set words at word → other ≢ at
    → get_or others other 0 ≡ get_or words other 0
stored_elsewhere words others at word other e apart =
    ap (λ (all : List ℕ). get_or all other 0) e ∙ elsewhere words at word other apart

-- a live slot that is stored to becomes the reference to the home
redirects : {world : World} (words : List ℕ) (slot place : ℕ) (home : Home) (other origin : ℕ) → Underway world
    → words ≡ set world.words slot (bits_of (Ref home.to)) → StoodAt (fixed_of world) world.homes slot place
    → RefersToAddress world.before place home.from → Contains world.homes home
    → StoodAt (fixed_of world) world.homes other origin
    → IsKeptOrRenamed world.homes (get_or world.before origin 0) (get_or world.words other 0)
    → (other ≡ slot) ⊎ (other ≢ slot)
    → (get_or words other 0 ≡ get_or world.words other 0)
    ⊎ IsRedirected world.homes (get_or world.words other 0) (get_or words other 0)
redirects {world} words slot place home other origin underway e stood refers among also was (inr apart) =
    inl (stored_elsewhere world.words words slot (bits_of (Ref home.to)) other e apart)
redirects {world} words slot place home other origin underway e stood refers among also (IsKeptOrRenamed.kept same)
    (inl here) =
    let there : slot < length world.words =
    subst (λ (long : ℕ). slot < long) (sym underway.copying.long)
    (live_is_there slot place underway.laid underway.copying stood) in
    let origins : origin ≡ place =
    one_origin (fixed_of world) world.words world.homes slot origin place underway.laid underway.copying
    (subst (λ (at : ℕ). StoodAt (fixed_of world) world.homes at origin) here also) stood in
    inr (
      home,
      among,
      same ∙ ap (λ (at : ℕ). get_or world.before at 0) origins
          ∙ (reference_from (get_or world.before place 0) home.from refers).1,
      ap (λ (all : List ℕ). get_or all other 0) e
          ∙ ap (λ (at : ℕ). get_or (set world.words slot (bits_of (Ref home.to))) at 0) here
          ∙ get_or-set_same world.words slot (bits_of (Ref home.to)) 0 there,
    )
redirects {world} words slot place home other origin underway e stood refers among also
    (IsKeptOrRenamed.renamed one there was is) (inl here) =
    let room : slot < length world.words =
    subst (λ (long : ℕ). slot < long) (sym underway.copying.long)
    (live_is_there slot place underway.laid underway.copying stood) in
    let origins : origin ≡ place =
    one_origin (fixed_of world) world.words world.homes slot origin place underway.laid underway.copying
    (subst (λ (at : ℕ). StoodAt (fixed_of world) world.homes at origin) here also) stood in
    let from : bits_of (Ref one.from) ≡ bits_of (Ref home.from) =
    sym was ∙ ap (λ (at : ℕ). get_or world.before at 0) origins
    ∙ (reference_from (get_or world.before place 0) home.from refers).1 in
    let cells : one.from ≡ home.from = omega (arith, from) in
    let to : one.to ≡ home.to = ap (λ (x : Home). x.to)
    (one_home world.homes one home underway.copying.ascend there among cells) in
    inl (ap (λ (all : List ℕ). get_or all other 0) e
    ∙ ap (λ (at : ℕ). get_or (set world.words slot (bits_of (Ref home.to))) at 0) here
    ∙ get_or-set_same world.words slot (bits_of (Ref home.to)) 0 room
    ∙ ap (λ (at : ℕ). bits_of (Ref at)) (sym to) ∙ sym is)

-- a word of a live slot stays, or becomes the reference to the home of its cell
live_words : {world : World} {words : List ℕ} {homes : List Home} {worker : ℕ} (slot place : ℕ) → Underway world
    → IsChange world words homes worker → StoodAt (fixed_of world) world.homes slot place
    → (get_or words slot 0 ≡ get_or world.words slot 0)
    ⊎ IsRedirected world.homes (get_or world.words slot 0) (get_or words slot 0)
live_words slot place underway (IsChange.unchanged e f) stood = inl (ap (λ (all : List ℕ). get_or all slot 0) e)
live_words {world} {words} slot place underway (IsChange.storing at word room e f among own inside free) stood =
    inl (stored_elsewhere world.words words at word slot e
    (free_is_not_live at slot place underway.laid (room, among, inside) free stood))
live_words {world} {words} slot place underway (IsChange.moving new room e f is none own lies) stood =
    inl (stored_elsewhere world.words words new.from (bits_of (Ref new.to)) slot e (λ same.
    live_in_no_cell slot place underway.laid underway.copying stood
    (new.from, is, subst (IsOfCell (fixed_of world) new.from) (sym same) (cell_itself new.from underway.laid is))))
live_words {world} {words} slot place underway (IsChange.renaming one origin home e f stands refers among) stood =
    redirects words one origin home slot place underway e stands refers among stood
    (underway.copying.live slot place stood) (equal_or_not slot one)

-- a word of a cell is no word that is stored, but for the header of one without home
forwarded_stay : {world : World} {words : List ℕ} {homes : List Home} {worker : ℕ} (home : Home) → Underway world
    → IsChange world words homes worker → Contains world.homes home
    → get_or words home.from 0 ≡ get_or world.words home.from 0
forwarded_stay home underway (IsChange.unchanged e f) there = ap (λ (all : List ℕ). get_or all home.from 0) e
forwarded_stay {world} {words} home underway (IsChange.storing at word room e f among own inside free) there =
    let is : Contains world.cells home.from = from_is home underway.copying there in
    stored_elsewhere world.words words at word home.from e (λ same.
    underway.laid.cell_in_no_room at (
      home.from,
      is,
      subst (IsOfCell (fixed_of world) home.from) same (cell_itself home.from underway.laid is),
    ) (room, among, inside))
forwarded_stay {world} {words} home underway (IsChange.moving new room e f is none own lies) there =
    stored_elsewhere world.words words new.from (bits_of (Ref new.to)) home.from e (none home there)
forwarded_stay {world} {words} home underway (IsChange.renaming slot place one e f stood refers among) there =
    let is : Contains world.cells home.from = from_is home underway.copying there in
    stored_elsewhere world.words words slot (bits_of (Ref one.to)) home.from e (λ same.
    live_in_no_cell slot place underway.laid underway.copying stood
    (home.from, is, subst (IsOfCell (fixed_of world) home.from) same (cell_itself home.from underway.laid is)))

-- a word of a room in no home copy changes by the room's worker alone
rooms_stay : {world : World} {words : List ℕ} {homes : List Home} {worker : ℕ} (room : Room) (at : ℕ) → Underway world
    → IsChange world words homes worker → Contains world.rooms room → IsInRoom room at
    → (IsInCopies (fixed_of world) world.homes at → ⊥) → worker ≢ room.worker
    → get_or words at 0 ≡ get_or world.words at 0
rooms_stay room at underway (IsChange.unchanged e f) there inside free other = ap (λ (all : List ℕ). get_or all at 0) e
rooms_stay {world} {words} room at underway
    (IsChange.storing place word own e f among is within clear) there inside free
    other =
    stored_elsewhere world.words words place word at e (λ same.
    let one : room ≡ own = underway.laid.one_room room own place there among
    (subst (IsInRoom room) same inside) within in
    other (sym is ∙ ap (λ (r : Room). r.worker) (sym one)))
rooms_stay {world} {words} room at underway (IsChange.moving new own e f is none of lies) there inside free other =
    stored_elsewhere world.words words new.from (bits_of (Ref new.to)) at e (λ same.
    underway.laid.cell_in_no_room new.from (new.from, is, cell_itself new.from underway.laid is)
    (room, there, subst (IsInRoom room) same inside))
rooms_stay {world} {words} room at underway (IsChange.renaming slot place home e f stood refers among) there inside free
    other =
    stored_elsewhere world.words words slot (bits_of (Ref home.to)) at e (λ same.
    free_is_not_live at slot place underway.laid (room, there, inside) free stood (sym same))

-- the views of others stay
views_stay : (workers : List WorkerView) (worker : ℕ) (new : WorkerView) (other : ℕ) → other < length workers
    → other ≢ worker → slice_get (set workers worker new) other ≡ slice_get workers other
views_stay workers worker new other within apart =
    let there : other < length (set workers worker new) = omega (arith, within, length-set workers worker new) in
    slice_get-get_or (set workers worker new) other new there
    ∙ ap (λ (v : WorkerView). Some v) (get_or-set_other workers worker other new new apart)
    ∙ sym (slice_get-get_or workers other new within)

-- what an event of a worker leaves for others
worker_stays : {world : World} {event : Event} (worker : ℕ) → Underway world → Underway (after world event)
    → is_possible world event ≡ true → worker_of event ≡ Some worker → Owes world (after world event) worker
    → StaysFor world (after world event) event
worker_stays {world} {event} worker underway after_it may of owes =
    let next : World = after world event in
    let change = owes.keeps.change in
    let words : owes.words ≡ next.words = ap (λ (w : World). w.words) (sym owes.is) in
    let homes : owes.homes ≡ next.homes = ap (λ (w : World). w.homes) (sym owes.is) in
    let workers : set world.workers worker owes.new ≡ next.workers = ap (λ (w : World). w.workers) (sym owes.is) in
    record {
      homes_stay = λ home there. subst (λ (all : List Home). Contains all home) homes (homes_stay home change there);
      new_homes = λ home there.
          forwarded_by event worker home may of homes change
          (subst (λ (all : List Home). Contains all home) (sym homes) there) (no_home_or world event);
      live_stay = λ slot place stood.
          subst (λ (all : List Home). StoodAt (fixed_of world) all slot place) homes
          (live_stay slot place change stood);
      live_words = λ slot place stood.
          subst (λ (all : List ℕ). (get_or all slot 0 ≡ get_or world.words slot 0)
          ⊎ IsRedirected world.homes (get_or world.words slot 0) (get_or all slot 0)) words
          (live_words slot place underway change stood);
      forwarded_stay = λ home there.
          subst (λ (all : List ℕ). get_or all home.from 0 ≡ get_or world.words home.from 0) words
          (forwarded_stay home underway change there);
      copies_stay = λ home offset there less no_slot.
          subst (λ (all : List ℕ). get_or all (home.to + offset) 0 ≡ get_or world.words (home.to + offset) 0) words
          (owes.keeps.copying.copied home offset (homes_stay home change there) less no_slot
          ∙ sym (underway.copying.copied home offset there less no_slot));
      rooms_stay = λ room at there inside free other.
          subst (λ (all : List ℕ). get_or all at 0 ≡ get_or world.words at 0) words
          (rooms_stay room at underway change there inside free (λ same. other (of ∙ ap (λ (k : ℕ). Some k) same)));
      views_stay = λ one within other.
          subst (λ (all : List WorkerView). slice_get all one ≡ slice_get world.workers one) workers
          (views_stay world.workers worker owes.new one within
          (λ same. other (of ∙ ap (λ (k : ℕ). Some k) (sym same))));
    }

-- what an event of the main side leaves
main_stays : {world : World} {event : Event} → (after world event).words ≡ world.words
    → (after world event).homes ≡ world.homes
    → ((worker : ℕ) → worker < length world.workers
    → slice_get (after world event).workers worker ≡ slice_get world.workers worker)
    → StaysFor world (after world event) event
main_stays {world} {event} words homes views = record {
  homes_stay = λ home there. subst (λ (all : List Home). Contains all home) (sym homes) there;
  new_homes = λ home there. inl (subst (λ (all : List Home). Contains all home) homes there);
  live_stay = λ slot place stood.
      subst (λ (all : List Home). StoodAt (fixed_of world) all slot place) (sym homes) stood;
  live_words = λ slot place stood. inl (ap (λ (all : List ℕ). get_or all slot 0) words);
  forwarded_stay = λ home there. ap (λ (all : List ℕ). get_or all home.from 0) words;
  copies_stay = λ home offset there less no_slot. ap (λ (all : List ℕ). get_or all (home.to + offset) 0) words;
  rooms_stay = λ room at there inside free other. ap (λ (all : List ℕ). get_or all at 0) words;
  views_stay = λ worker within other. views worker within;
}

-- what an event leaves, by what it comes to
stays_by : {world : World} {event : Event} → Underway world → Underway (after world event)
    → is_possible world event ≡ true → Comes world event → StaysFor world (after world event) event
stays_by underway after_it may (Comes.of_main main words homes under views) = main_stays words homes views
stays_by underway after_it may (Comes.of_worker worker of owes) = worker_stays worker underway after_it may of owes

-- each event that is possible leaves that
pub events_stay : EventsStayFor
events_stay world event underway t =
    stays_by underway (events_keep world event underway t) t (comes world event underway t)
