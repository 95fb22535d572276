-- The reference to a home in the slot of a job.
use Rattle.std.proofs.Common.{ℕ, ◌<◌, ◌≡◌, ◌≢◌, ◌⊎◌, inl, inr, Bool}
use Rattle.std.proofs.Common.{true, List, [], length, get_or}
use Rattle.std.proofs.Common.{set, slice_get, Option, Some, None, nat_lt, arith, refl, sym, ap, subst}
use Rattle.std.proofs.Common.{◌∙◌}
use Rattle.std.specs.List.{Contains}
use Rattle.std.proofs.lemmas.Bool.{and_parts, true≢false}
use Rattle.std.proofs.lemmas.List.{get_or-set_same}
use Rattle.tagged_word.specs.declared.word.Class.TheVariants.{Ref}
use Rattle.tagged_word.specs.Words.{bits_of}
use Rattle.tagged_word.specs.Readings.{reference_in}
use Rattle.tagged_word.proofs.Readings.{reference_from}
use Rattle.core_parts.specs.declared.note.Note.{Note}
use Rattle.scav_copy.specs.declared.places.Home.{Home}
use Rattle.scav_copy.specs.Places.{size_of, StoodAt}
use Rattle.scav_copy.specs.Renamings.{RefersToAddress}
use Rattle.scav_copy.proofs.Redirecting.{slots_may_be_renamed, equal_or_not}
use Rattle.scav_copy.proofs.Spots.{live_is_there, home_is_no_cell}
use Rattle.scav_core.specs.declared.workers.Job.{Job}
use Rattle.scav_core.specs.declared.world.World.{World}
use Rattle.scav_core.specs.Worlds.{fixed_of}
use Rattle.scav_core.specs.Views.{header_or}
use Rattle.scav_core.specs.Possible.{words_wanted, header_is, is_home, may_redirect}
use Rattle.scav_core.specs.Underway.{IsQuiet, HasReadCell, IsJob}
use Rattle.scav_core.specs.Underway.{Underway}
use Rattle.scav_core.proofs.Enabled.{home_found}
use Rattle.scav_core.proofs.Keeping.{IsChange, Keeps, same_work}
use Rattle.scav_core.proofs.Loading.{made, none_wanted}
use Rattle.scav_core.proofs.Moving.{quiet_elsewhere}
use Rattle.scav_core.proofs.Wanted.{IsWanted, wanted}

-- the slot that got the reference to a home refers to no cell
quiet_home : {world : World} (slot place : ℕ) (home : Home) → Underway world
    → StoodAt (fixed_of world) world.homes slot place
    → Contains world.homes home → IsQuiet (fixed_of world) (set world.words slot (bits_of (Ref home.to))) slot
quiet_home {world} slot place home underway stood there cell refers is =
    let word : ℕ = bits_of (Ref home.to) in
    let inside : slot < length world.words =
    subst (λ (long : ℕ). slot < long) (sym underway.copying.long)
    (live_is_there slot place underway.laid underway.copying stood) in
    home_is_no_cell home (get_or (set world.words slot word) slot 0) cell underway.laid underway.copying there
    (get_or-set_same world.words slot word 0 inside) refers is

-- a slot is quiet, be it this one or another
quiet_or_other : {world : World} (slot place : ℕ) (home : Home) (other : ℕ) → Underway world
    → StoodAt (fixed_of world) world.homes slot place → Contains world.homes home
    → (other ≡ slot) ⊎ (IsQuiet (fixed_of world) world.words other) → (other ≡ slot) ⊎ (other ≢ slot)
    → IsQuiet (fixed_of world) (set world.words slot (bits_of (Ref home.to))) other
quiet_or_other {world} slot place home other underway stood there was (inl same) =
    subst (IsQuiet (fixed_of world) (set world.words slot (bits_of (Ref home.to)))) (sym same)
    (quiet_home slot place home underway stood there)
quiet_or_other {world} slot place home other underway stood there (inl same) (inr apart) = absurd (apart same)
quiet_or_other {world} slot place home other underway stood there (inr quiet) (inr apart) =
    quiet_elsewhere (fixed_of world) world.words slot (bits_of (Ref home.to)) other apart quiet

-- the slot of the job gets the reference to the home of its cell
slot_renamed : {world : World} (worker : ℕ) (out : Bool) (job : Job) (todo : List ℕ) (log : List Note) (home : Home)
    → Underway world → slice_get world.workers worker ≡ Some (made out (Some job) todo log)
    → Contains world.workers (made out (Some job) todo log) → IsJob (fixed_of world) world.homes job
    → Contains world.homes home → home.from ≡ job.cell
    → Keeps world (set world.words job.slot (bits_of (Ref home.to))) world.homes world.board worker
    (made out (Some job) todo log) (made out None todo log)
slot_renamed {world} worker out job todo log home underway stood inside has there of =
    let fixed = fixed_of world in
    let words : List ℕ = set world.words job.slot (bits_of (Ref home.to)) in
    let quiet : (slot : ℕ) → (slot ≡ job.slot) ⊎ (IsQuiet fixed world.words slot) → IsQuiet fixed words slot =
    λ slot was. quiet_or_other job.slot has.place home slot underway has.stood there was (equal_or_not slot job.slot) in
    record {
      stood = stood;
      change = IsChange.renaming job.slot has.place home refl refl has.stood
          (subst (λ (cell : ℕ). RefersToAddress world.before has.place cell) (sym of) has.referred) there;
      copying = slots_may_be_renamed fixed world.words world.homes job.slot has.place home underway.laid
          underway.copying
          has.stood there (subst (λ (cell : ℕ). RefersToAddress world.before has.place cell) (sym of) has.referred);
      board_is = underway.board;
      work = same_work world worker (made out (Some job) todo log) (made out None todo log) stood refl underway.work;
      stays = record {
        homes_stay = λ other is. is;
        live = λ slot place live. live;
        quiet = λ slot place live still. quiet slot (inr still);
      };
      logs = λ slot loaded.
          let read = underway.logs (made out (Some job) todo log) inside slot loaded in
          record {
            place = read.place;
            stood = read.stood;
            done = inr (quiet slot (elim read.done [ inl at ↦ inl (sym at) | inr still ↦ inr still ]));
          };
      jobs = λ is. tt;
    }

-- where words are wanted, there is a number of them
none_is_wanted : (wants : Option ℕ) (size : ℕ) → wants ≡ None → IsWanted wants size [] → ⊥
none_is_wanted wants size e (IsWanted.all f) = let g : None ≡ Some size = sym e ∙ f in cc
none_is_wanted wants size e (IsWanted.short f none two) = let g : None ≡ Some 2 = sym e ∙ f in cc

-- a word that is the header of a cell is no reference
pub header_no_reference : {world : World} (cell at : ℕ) → Underway world → Contains world.cells cell
    → reference_in (get_or world.before cell 0) ≡ Some at → ⊥
header_no_reference {world} cell at underway among refers =
    let fixed = fixed_of world in
    let header : ℕ = get_or world.before cell 0 in
    let is : header ≡ bits_of (Ref at) = (reference_from header at refers).1 in
    none_is_wanted (words_wanted world.layouts header []) (size_of fixed cell)
    (ap (λ (word : ℕ). words_wanted world.layouts word []) is ∙ none_wanted world.layouts at [])
    (wanted fixed cell header [] (underway.laid.cells_are cell among) refl (λ k less. absurd (omega arith)))

-- nor one to a home
header_no_home : {world : World} (cell : ℕ) → Underway world → Contains world.cells cell
    → is_home world.homes (reference_in (get_or world.before cell 0)) ≡ true → ⊥
header_no_home {world} cell underway among t =
    let found = home_found world.homes (reference_in (get_or world.before cell 0)) t in
    header_no_reference cell (found.0).to underway among found.2

-- the slot of a job is redirected by what the job has read
redirected_by : {world : World} (worker : ℕ) (out : Bool) (job : Job) (todo : List ℕ) (log : List Note)
    → Underway world → slice_get world.workers worker ≡ Some (made out (Some job) todo log)
    → Contains world.workers (made out (Some job) todo log) → IsJob (fixed_of world) world.homes job
    → header_is job.header (λ header. is_home world.homes (reference_in header)) ≡ true
    → HasReadCell (fixed_of world) world.homes job
    → Keeps world (set world.words job.slot (header_or job.header (get_or world.words job.slot 0))) world.homes
    world.board
    worker (made out (Some job) todo log) (made out None todo log)
redirected_by {world} worker out job todo log underway stood inside has may (HasReadCell.nothing none empty) =
    absurd (true≢false (sym may
    ∙ ap (λ (o : Option ℕ). header_is o (λ header. is_home world.homes (reference_in header))) none))
redirected_by {world} worker out job todo log underway stood inside has may (HasReadCell.some header within same) =
    absurd (header_no_home job.cell underway has.among
    (ap (λ (o : Option ℕ). header_is o (λ head. is_home world.homes (reference_in head))) (sym header) ∙ may))
redirected_by {world} worker out job todo log underway stood inside has may
    (HasReadCell.forwarded home there of header) =
    subst (λ (word : ℕ). Keeps world (set world.words job.slot word) world.homes world.board worker
    (made out (Some job) todo log) (made out None todo log))
    (sym (ap (λ (o : Option ℕ). header_or o (get_or world.words job.slot 0)) header))
    (slot_renamed worker out job todo log home underway stood inside has there of)

-- a slot is redirected
pub redirected : {world : World} (worker : ℕ) (out : Bool) (job : Job) (todo : List ℕ) (log : List Note)
    → Underway world → slice_get world.workers worker ≡ Some (made out (Some job) todo log)
    → Contains world.workers (made out (Some job) todo log) → out ≡ true → may_redirect world job ≡ true
    → Keeps world (set world.words job.slot (header_or job.header (get_or world.words job.slot 0))) world.homes
    world.board
    worker (made out (Some job) todo log) (made out None todo log)
redirected {world} worker out job todo log underway stood inside is may =
    let has : IsJob (fixed_of world) world.homes job = underway.jobs (made out (Some job) todo log) inside is in
    redirected_by worker out job todo log underway stood inside has
    (and_parts (header_is job.header (λ header. is_home world.homes (reference_in header)))
    (nat_lt job.slot (length world.words)) may).0 has.read
