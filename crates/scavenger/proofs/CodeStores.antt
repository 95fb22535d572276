-- What a scavenge comes to where a live slot becomes the reference to a home.
use Rattle.std.proofs.Common.{ℕ, ◌<◌, ◌≡◌, ◌↔◌, inl, inr, List, length, Some}
use Rattle.std.proofs.Common.{arith, refl, sym, ap, subst, ◌∙◌, Bool, length-set}
use Rattle.std.specs.Prelude.{slice_set}
use Rattle.std.specs.List.{Contains}
use Rattle.std.proofs.lemmas.Bool.{cases_lt}
use Rattle.tagged_word.specs.declared.word.Class.TheVariants.{Ref}
use Rattle.tagged_word.specs.Words.{bits_of}
use Rattle.tagged_word.specs.Readings.{reference_in}
use Rattle.tagged_word.proofs.Readings.{reference_to}
use Rattle.page_space.specs.Extents.{eden_start, marks_start}
use Rattle.remembered_set.specs.Recorded.{Recorded}
use Rattle.write_barrier.specs.Seats.{RestStays, heap_words}
use Rattle.write_barrier.proofs.HeapWords.{stays_beside-put}
use Rattle.heap_model.specs.Types.{Run}
use Rattle.write_barrier.specs.MutatorState.{Mutator, MayStore, judged, with_slot}
use Rattle.write_barrier.proofs.JudgedSlots.{judges_one, judged_behind, told_young}
use Rattle.write_barrier.proofs.SlotCycles.{cycle_idle}
use Rattle.scav_copy.specs.declared.places.Home.{Home}
use Rattle.scav_copy.specs.Places.{Fixed, StoodAt}
use Rattle.scav_copy.specs.Renamings.{RefersToAddress}
use Rattle.scav_copy.proofs.Spots.{home_fits}
use Rattle.scavenger.specs.declared.progress.Progress.{Progress}
use Rattle.scavenger.specs.Starts.{SegmentCopies, start_with}
use Rattle.scavenger.specs.Filling.{ChangesWords, Front, CopiesFillRooms}
use Rattle.scavenger.specs.Following.{IsFromSpace, HasRenamed}
use Rattle.scavenger.specs.Walking.{AreKept, HasCopiedMore, HasFollowed, HasMoved, IsWellPlaced, Scavenging}
use Rattle.scavenger.proofs.FollowSlots.{renaming_goes_on}
use Rattle.scavenger.proofs.KeptSlots.{Judges, kept_slot}
use Rattle.scavenger.proofs.CodeChanges.{changes_again}
use Rattle.scavenger.proofs.CodeMoves.{two_halves}

-- whether a new record is right of a slot: what is recorded is others for this slot alone
judged_is : (recorded : Recorded) (slot word to : ℕ) → reference_in word ≡ Some to
    → Judges recorded.bound recorded.slots (judged recorded slot word).slots slot to
judged_is recorded slot word to refers = elim (cases_lt slot recorded.bound) [
  | inl of_page ↦
      let one = judges_one recorded slot word of_page in
      let told = told_young recorded.bound (reference_in word) to refers in
      record {
        here = λ below. (λ there. told.0 (one.here.0 there), λ young. one.here.1 (told.1 young));
        others = one.others;
        beyond = λ above. absurd (omega (arith, above, of_page));
      }
  | inr above ↦
      let same : (judged recorded slot word).slots ≡ recorded.slots =
      ap (λ (all : Recorded). all.slots) (judged_behind recorded slot word above) in
      record {
        here = λ below. absurd (omega (arith, above, below));
        others = λ at apart.
            subst (λ (slots : List ℕ). Contains slots at ↔ Contains recorded.slots at) (sym same)
            (λ there. there, λ there. there);
        beyond = λ from there. subst (λ (slots : List ℕ). Contains slots slot) same there;
      }
]

-- the bound stays
judged_bound : (recorded : Recorded) (slot word : ℕ) → (judged recorded slot word).bound ≡ recorded.bound
judged_bound recorded slot word = elim (cases_lt slot recorded.bound) [
  | inl of_page ↦ (judges_one recorded slot word of_page).bound
  | inr above ↦ ap (λ (all : Recorded). all.bound) (judged_behind recorded slot word above)
]

-- a slot's word that is put before the marks is a change of heap words, while no cycle is open
store_changes : {old new : Mutator} (slot word : ℕ) → MayStore old → new ≡ with_slot old slot word
    → heap_words new.seat ≡ slice_set (heap_words old.seat) slot word → slot < marks_start old.seat.space
    → ChangesWords old new
store_changes {old} {new} slot word quiet is heap below = record {
  seat = subst (λ (main : Mutator). RestStays old.seat main.seat) (sym is) (stays_beside-put old.seat slot word);
  paths = ap (λ (main : Mutator). main.paths) is;
  cycle = ap (λ (main : Mutator). main.cycle) is ∙ cycle_idle old slot _ quiet;
  young = ap (λ (main : Mutator). main.young) is;
  bound = ap (λ (main : Mutator). main.recorded.bound) is ∙ judged_bound old.recorded slot word;
  count = ap length heap ∙ length-set (heap_words old.seat) slot word;
  rows = ap (λ (main : Mutator). length main.free) is;
}

-- nothing has changed, and the scavenge stands where it did
abbrev pub goes_nowhere : {start old : Mutator} {handed : List SegmentCopies} {all : Bool} {before : Progress}
    {todo : List ℕ} {front : Front}
    (state : Scavenging start handed old all before todo front)
    → HasCopiedMore start handed old old all before before todo todo front state
goes_nowhere state = record {
  next = state;
  same = refl;
  kept = λ home there. there;
  grown = record { more = omega arith; grows = omega arith };
}

-- A slot that was live is live where the scavenge went on.
pub still_live : {start old new : Mutator} {handed : List SegmentCopies} {all : Bool} {before after : Progress}
    {todo more : List ℕ} {front : Front}
    {state : Scavenging start handed old all before todo front} (slot place : ℕ)
    → (on : HasCopiedMore start handed old new all before after todo more front state)
    → StoodAt state.fixed state.homes slot place
    → StoodAt on.next.fixed on.next.homes slot place
still_live {state = state} slot place on stood =
    let Live : Fixed → Type 0 = λ fixed. StoodAt fixed on.next.homes slot place in
    let live_by : StoodAt state.fixed state.homes slot place → Live state.fixed = λ live. elim live [
      | StoodAt.itself there same ↦ StoodAt.itself there same
      | StoodAt.in_cell home offset there is e f ↦ StoodAt.in_cell home offset (on.kept home there) is e f
    ] in
    subst Live (sym on.same) (live_by stood)

module _ {start mid new : Mutator} {handed : List SegmentCopies} {all : Bool} {progress : Progress} {todo : List ℕ}
    {front : Front}
    (state : Scavenging start handed mid all progress todo front) (slot place word : ℕ)
    (home : Home) (there : Contains state.homes home) (stood : StoodAt state.fixed state.homes slot place)
    (refers : RefersToAddress (heap_words mid.seat) slot home.from)
    (is_left : IsFromSpace start.seat.space start.young.half home.from) (stored : new ≡ with_slot mid slot word)
    (heap : heap_words new.seat ≡ slice_set (heap_words mid.seat) slot word) (says : word ≡ bits_of (Ref home.to))
    (below : slot < marks_start mid.seat.space) where
  -- the words then
  stored_words : heap_words new.seat ≡ slice_set (heap_words mid.seat) slot (bits_of (Ref home.to))
  stored_words = heap ∙ ap (λ (one : ℕ). slice_set (heap_words mid.seat) slot one) says

  -- the slot is renamed
  renamed : HasRenamed (start_with start handed) state.fixed (heap_words mid.seat)
      (heap_words new.seat) mid.free state.homes
      todo front progress.fill slot
  renamed =
      subst (λ (now : List ℕ). HasRenamed (start_with start handed) state.fixed
      (heap_words mid.seat) now mid.free state.homes
      todo front progress.fill slot) (sym stored_words)
      (renaming_goes_on (start_with start handed) start.young.half state.fixed
      (heap_words mid.seat) mid.free state.homes
      todo front home progress.fill slot place state.begun (two_halves start.young.half state.two) state.filled stood
      refers is_left there)

  -- what is recorded is others for the slot
  judges : Judges (eden_start start.seat.space) mid.recorded.slots new.recorded.slots slot home.to
  judges =
      let bound : mid.recorded.bound ≡ eden_start start.seat.space = state.changes.bound ∙ state.bounded in
      let recorded : new.recorded ≡ judged mid.recorded slot word =
      ap (λ (main : Mutator). main.recorded) stored in
      let to : reference_in word ≡ Some home.to =
      reference_to word home.to (home_fits home state.begun.laid state.filled.copying there) says in
      subst (λ (eden : ℕ). Judges eden mid.recorded.slots new.recorded.slots slot home.to) bound
      (subst (λ (one : Recorded). Judges mid.recorded.bound mid.recorded.slots one.slots slot home.to) (sym recorded)
      (judged_is mid.recorded slot word home.to to))

  -- the scavenge goes on
  next_stored : Scavenging start handed new all progress todo front
  next_stored =
      let free : new.free ≡ mid.free = ap (λ (main : Mutator). main.free) stored in
      let changes : ChangesWords mid new = store_changes slot word state.quiet stored heap below in
      record {
        fixed = state.fixed;
        homes = state.homes;
        two = state.two;
        bounded = state.bounded;
        quiet = λ mark. state.quiet (sym changes.seat.phase ∙ mark);
        begun = state.begun;
        filled = subst (λ (rows : List (List Run)). CopiesFillRooms (start_with start handed) state.fixed
            (heap_words new.seat)
            rows
            state.homes progress.fill) (sym free) renamed.filled;
        copied = state.copied;
        placed = subst (λ (rows : List (List Run)). IsWellPlaced
            (start_with start handed) state.fixed rows state.homes all
            progress.refused) (sym free) state.placed;
        kept = subst
            (λ (now : List ℕ). AreKept (start_with start handed) state.fixed now state.homes new.recorded.slots)
            (sym stored_words)
            (kept_slot state.begun state.filled.copying slot place home stood there judges state.kept);
        listed = state.listed;
        few = state.few;
        others = λ other from cell live points is.
            state.others other from cell live (renamed.others state.others other from cell live points is).1 is;
        changes = changes_again state.changes changes;
      }

  -- and the slot refers to no cell
  pub stored_done : (from cell : ℕ) → StoodAt state.fixed state.homes slot from
      → RefersToAddress (heap_words new.seat) slot cell → Contains state.fixed.cells cell → ⊥
  stored_done from cell live points is = (renamed.others state.others slot from cell live points is).0 refl

  -- so it was followed
  pub stored_follows : HasFollowed start handed mid new all progress progress todo todo front slot state
  unfolding next_stored
  stored_follows = record {
    on = record {
      next = next_stored;
      same = refl;
      kept = λ one among. among;
      grown = record { more = omega arith; grows = omega arith };
    };
    done = stored_done;
  }

-- a slot whose cell had a home, or got one, was followed once it refers to that
pub moved_follows : {start old mid new : Mutator} {handed : List SegmentCopies} {all : Bool}
    {before after : Progress} {todo more : List ℕ}
    {front : Front} {state : Scavenging start handed old all before todo front} (at to word slot place : ℕ)
    → HasMoved start handed old mid all before after todo more front at to state
    → StoodAt state.fixed state.homes slot place → RefersToAddress (heap_words old.seat) slot at
    → IsFromSpace start.seat.space start.young.half at → new ≡ with_slot mid slot word
    → heap_words new.seat ≡ slice_set (heap_words mid.seat) slot word → word ≡ bits_of (Ref to)
    → slot < marks_start mid.seat.space
    → HasFollowed start handed old new all before after todo more front slot state
moved_follows {start} {old} {mid} {new} {state = state} at to word slot place moved stood refers is_left stored heap
    says below =
    let on = moved.on in
    let points : RefersToAddress (heap_words mid.seat) slot moved.home.from =
    subst (RefersToAddress (heap_words mid.seat) slot) (sym moved.from) (moved.live slot place at stood refers) in
    let left : IsFromSpace start.seat.space start.young.half moved.home.from =
    subst (IsFromSpace start.seat.space start.young.half) (sym moved.from) is_left in
    let home_word : word ≡ bits_of (Ref moved.home.to) =
    says ∙ ap (λ (one : ℕ). bits_of (Ref one)) (sym moved.stands) in
    let then = stored_follows on.next slot place word moved.home moved.among (still_live slot place on stood)
    points left stored heap home_word below in
    record {
      on = record {
        next = then.on.next;
        same = then.on.same ∙ on.same;
        kept = λ home there. then.on.kept home (on.kept home there);
        grown = record {
          more = omega (arith, then.on.grown.more, on.grown.more);
          grows = omega (arith, then.on.grown.grows, on.grown.grows);
        };
      };
      done = then.done;
    }
