-- What a scavenge comes to where a cell is copied: to the segment, or to a free run of a page.
use Rattle.std.proofs.Common.{ℕ, ◌+◌, ◌<◌, ◌≤◌, ◌≡◌, inl, inr, List, [], ◌∷◌, ◌++◌, get_or, None, Bool}
use Rattle.std.proofs.Common.{arith, refl, sym, ap, subst, ◌∙◌, length-append}
use Rattle.std.specs.List.{Contains}
use Rattle.std.proofs.lemmas.List.Elements.{Contains-append_left, Contains-append_right, Contains-append_cases}
use Rattle.tagged_word.specs.Readings.{reference_in}
use Rattle.tagged_word.proofs.Members.{first_in, one_in, in_cases}
use Rattle.page_space.specs.Extents.{Space, eden_start}
use Rattle.cell_layout.proofs.OneCell.{cells_have_words}
use Rattle.free_runs.specs.FreeRuns.{TakesFront, FitsNowhere}
use Rattle.nursery.specs.Young.{other_half}
use Rattle.write_barrier.specs.Seats.{heap_words}
use Rattle.heap_model.specs.Types.{Cell, Run}
use Rattle.write_barrier.specs.MutatorState.{Mutator}
use Rattle.scav_copy.specs.declared.places.Home.{Home}
use Rattle.scav_copy.specs.Places.{Fixed, size_of, StoodAt}
use Rattle.scav_copy.specs.Renamings.{RefersToAddress}
use Rattle.scav_copy.specs.Copies.{with_home}
use Rattle.scav_copy.proofs.Ascending.{new_in, old_in}
use Rattle.scavenger.specs.declared.progress.Progress.{Progress}
use Rattle.scavenger.specs.Starts.{Start, SegmentCopies, start_with}
use Rattle.scavenger.specs.Filling.{ChangesWords, Front, CopiesFillRooms, IsToDo, OthersAreDone}
use Rattle.scavenger.specs.Following.{Copies, IsFreeAt, IsFromSpace, moved_words}
use Rattle.scavenger.specs.Walking.{AreKept, CopiesCell, HasMoved, IsWellPlaced, IsToPromote, Places}
use Rattle.scavenger.specs.Walking.{Scavenging, stays_young}
use Rattle.scavenger.specs.Walking.{RefersToRoom, CutsFreeCell}
use Rattle.scavenger.proofs.Sums.{one_home_more}
use Rattle.scavenger.proofs.FollowTiles.{fill_above}
use Rattle.scavenger.proofs.FollowCopies.{home_at}
use Rattle.scavenger.proofs.FollowRunWords.{TakesRoom, takes_room}
use Rattle.scavenger.proofs.FollowFilled.{IsNew, rest_words}
use Rattle.scavenger.proofs.Following.{copying_goes_on}
use Rattle.scavenger.proofs.KeptCopies.{Spares, live_spared, kept_copy}
use Rattle.scavenger.proofs.KeptMoves.{spares_behind, fresh_behind, spares_in_run, fresh_in_run}
use Rattle.scavenger.proofs.KeptMoves.{records_behind, records_in_run}
use Rattle.scavenger.proofs.PlacedCopies.{placed_on, placed_refused, placed_in_page}
use Rattle.scavenger.proofs.CodeChanges.{changes_again}

-- A cell was copied: what became of words, free runs, what is recorded and where copies are.
pub record Copied (start : Mutator) (handed : List SegmentCopies) (old new : Mutator) (all : Bool) (fixed : Fixed)
    (homes : List Home) (before after : Progress) (cell : Cell) (to : ℕ) : Type 0 where
  pub copies : Copies start.seat.space (heap_words old.seat) old.free before.fill cell (heap_words new.seat) new.free
      after.fill to
  pub from : ℕ
  pub end : ℕ
  pub spares : Spares fixed homes (heap_words old.seat) (heap_words new.seat) cell.at from end
  pub kept : AreKept (start_with start handed) fixed (heap_words new.seat) (with_home homes (home_at cell to))
      new.recorded.slots
  pub placed : IsWellPlaced (start_with start handed) fixed new.free
      (with_home homes (home_at cell to)) all after.refused
  pub changes : ChangesWords old new
  pub same : after.copied ≡ before.copied

-- a slot is to do as well where the list has more
to_do_alike : {start : Start} {fixed : Fixed} {homes : List Home} {todo more : List ℕ} {front : Front} {slot : ℕ}
    → ((at : ℕ) → Contains todo at → Contains more at) → IsToDo start fixed homes todo front slot
    → IsToDo start fixed homes more front slot
to_do_alike among (IsToDo.root from) = IsToDo.root from
to_do_alike among (IsToDo.recorded from below there) = IsToDo.recorded from below there
to_do_alike among (IsToDo.at_hand from below) = IsToDo.at_hand from below
to_do_alike among (IsToDo.left there) = IsToDo.left there
to_do_alike among (IsToDo.listed home there is inside) = IsToDo.listed home there (among home.to is) inside

-- what stands first on a list may stand last
last_as_first : (todo : List ℕ) (to at : ℕ) → Contains (to ∷ todo) at → Contains (todo ++ to ∷ []) at
last_as_first todo to at there = elim (in_cases to todo at there) [
  | inl same ↦
      subst (Contains (todo ++ to ∷ [])) same (Contains-append_right todo (to ∷ []) to (first_in to []))
  | inr among ↦ Contains-append_left todo (to ∷ []) at among
]

-- two halves, of which one is the other
pub two_halves : (left : ℕ) → left ≤ 1 → other_half left + left ≡ 1
two_halves left two = omega arith

module _ {start old : Mutator} {handed : List SegmentCopies} {all : Bool} {before : Progress} {todo : List ℕ}
    {front : Front}
    (state : Scavenging start handed old all before todo front) {cell : Cell}
    (is_new : IsNew (start_with start handed) state.fixed (heap_words old.seat) state.homes before.fill cell) where
  -- the bound of what is recorded is where eden begins
  bound_is : old.recorded.bound ≡ eden_start start.seat.space
  bound_is = state.changes.bound ∙ state.bounded

  -- the cell is a young one
  is_young : eden_start start.seat.space ≤ cell.at
  is_young = ((state.begun.begins.cells cell.at).0 is_new.is).young

  -- the segment is young
  segment_young : eden_start start.seat.space ≤ before.fill
  segment_young = omega (arith, fill_above state.filled)

  -- the copy in the segment
  copied_behind : (new : Mutator) (after : Progress) → CopiesCell old new cell before.fill
      → IsWellPlaced (start_with start handed) state.fixed old.free
      (with_home state.homes (home_at cell before.fill)) all
      after.refused
      → after.fill ≡ before.fill + cell.size → after.copied ≡ before.copied
      → Copied start handed old new all state.fixed state.homes before after cell before.fill
  copied_behind new after copies placed behind same =
      let words : List ℕ = heap_words old.seat in
      let spares : Spares state.fixed state.homes words (heap_words new.seat) cell.at before.fill
      (before.fill + cell.size) =
      subst (λ (now : List ℕ). Spares state.fixed state.homes words now cell.at before.fill (before.fill + cell.size))
      (sym copies.words) (spares_behind state.begun state.filled is_new) in
      record {
        copies = subst (λ (end : ℕ). Copies start.seat.space words old.free before.fill cell (heap_words new.seat)
            new.free end before.fill) (sym behind)
            (subst (λ (now : List ℕ). Copies start.seat.space words old.free before.fill cell now new.free
            (before.fill + cell.size) before.fill) (sym copies.words)
            (subst (λ (left : List (List Run)). Copies start.seat.space words old.free before.fill cell
            (moved_words words cell before.fill) left (before.fill + cell.size) before.fill) (sym copies.free)
            Copies.stays));
        from = before.fill;
        end = before.fill + cell.size;
        spares = spares;
        kept = kept_copy state.begun state.filled.copying spares
            (records_behind (eden_start start.seat.space) before.fill bound_is segment_young is_young copies)
            before.fill (fresh_behind state.begun state.filled is_new (heap_words new.seat)) state.kept;
        placed = subst (λ (rows : List (List Run)). IsWellPlaced (start_with start handed) state.fixed rows
            (with_home state.homes (home_at cell before.fill)) all after.refused) (sym copies.free) placed;
        changes = copies.changes;
        same = same;
      }

  -- the copy in a free run
  copied_in_run : {mid : Mutator} (new : Mutator) (run : Run) (free : Cell)
      → IsToPromote start.seat.space all cell.at → TakesFront old.free mid.free cell.size run
      → IsFreeAt start.seat.space (heap_words old.seat) free run.at → CutsFreeCell old mid cell.size run free
      → CopiesCell mid new cell run.at
      → Copied start handed old new all state.fixed state.homes before before cell run.at
  copied_in_run {mid} new run free promote takes is_free taken copies =
      let words : List ℕ = heap_words old.seat in
      let room : TakesRoom (start_with start handed) state.fixed state.homes cell.size free.size run =
      takes_room state.begun state.filled takes is_free in
      let now : List ℕ = moved_words (rest_words words cell free run.at) cell run.at in
      let is : heap_words new.seat ≡ now =
      copies.words ∙ ap (λ (before_copy : List ℕ). moved_words before_copy cell run.at) taken.words in
      let spares : Spares state.fixed state.homes words (heap_words new.seat) cell.at run.at (run.at + free.size) =
      subst (λ (one : List ℕ). Spares state.fixed state.homes words one cell.at run.at (run.at + free.size)) (sym is)
      (spares_in_run state.begun state.filled is_new free room) in
      let some = (cells_have_words start.seat.space words cell is_new.is_cell).0 in
      let below : run.at < eden_start start.seat.space = omega (arith, some, room.enough, room.in_page) in
      record {
        copies = subst (λ (one : List ℕ). Copies start.seat.space words old.free before.fill cell one new.free
            before.fill run.at) (sym is)
            (subst (λ (left : List (List Run)). Copies start.seat.space words old.free before.fill cell now left
            before.fill run.at) (sym copies.free) (Copies.promotes mid.free run free takes is_free));
        from = run.at;
        end = run.at + free.size;
        spares = spares;
        kept = kept_copy state.begun state.filled.copying spares
            (records_in_run (eden_start start.seat.space) bound_is room.in_page room.enough is_young taken copies)
            run.at
            (λ offset visited of_page refers.
            fresh_in_run state.begun state.filled is_new free room offset visited of_page
            (subst (λ (one : List ℕ). RefersToRoom (start_with start handed) one
            (run.at + offset)) is refers)) state.kept;
        placed = subst (λ (rows : List (List Run)). IsWellPlaced (start_with start handed) state.fixed rows
            (with_home state.homes (home_at cell run.at)) all before.refused) (sym copies.free)
            (placed_in_page state.placed cell.at run.at mid.free cell.size run takes below promote);
        changes = changes_again taken.changes copies.changes;
        same = refl;
      }

  -- the same of any copy
  pub copied_by : {mid : Mutator} (new : Mutator) (after : Progress) (to : ℕ)
      → Places old mid all cell.at cell.size before after to → CopiesCell mid new cell to
      → Copied start handed old new all state.fixed state.homes before after cell to
  copied_by new _ _ (Places.stays same not_to) copies =
      let not_at_start : IsToPromote start.seat.space all cell.at → ⊥ = λ promote.
      not_to (subst (λ (space : Space). IsToPromote space all cell.at) (sym state.changes.seat.space) promote) in
      copied_behind new (stays_young before cell.size)
      (subst (λ (main : Mutator). CopiesCell main new cell before.fill) same copies)
      (placed_on state.placed cell.at before.fill segment_young (λ promote. absurd (not_at_start promote))) refl refl
  copied_by new _ _ (Places.passes same promote many) copies =
      copied_behind new (stays_young before cell.size)
      (subst (λ (main : Mutator). CopiesCell main new cell before.fill) same copies)
      (placed_on state.placed cell.at before.fill segment_young (λ is. omega (arith, many, is_new.size))) refl refl
  copied_by new _ _ (Places.refuses same promote less none) copies =
      let size : cell.size ≡ size_of state.fixed cell.at = is_new.size in
      let some = (cells_have_words start.seat.space (heap_words old.seat) cell is_new.is_cell).0 in
      copied_behind new (stays_young (record before { refused = cell.size }) cell.size)
      (subst (λ (main : Mutator). CopiesCell main new cell before.fill) same copies)
      (subst (IsWellPlaced (start_with start handed) state.fixed old.free
      (with_home state.homes (home_at cell before.fill)) all)
      (sym size)
      (placed_refused state.placed cell.at before.fill segment_young (omega (arith, some, size))
      (omega (arith, less, size)) (subst (FitsNowhere old.free) size none))) refl refl
  copied_by new _ _ (Places.promotes run free promote takes is_free taken) copies =
      let space_is = state.changes.seat.space in
      copied_in_run new run free (subst (λ (space : Space). IsToPromote space all cell.at) space_is promote) takes
      (subst (λ (space : Space). IsFreeAt space (heap_words old.seat) free run.at) space_is is_free) taken copies

  module _ {new : Mutator} {after : Progress} {to : ℕ}
      (copied : Copied start handed old new all state.fixed state.homes before after cell to) (slot place : ℕ)
      (stood : StoodAt state.fixed state.homes slot place)
      (refers : RefersToAddress (heap_words old.seat) slot cell.at)
      (is_left : IsFromSpace start.seat.space start.young.half cell.at)
      (head : reference_in (get_or (heap_words old.seat) cell.at 0) ≡ None) where
    -- the homes with that of the copy
    abbrev all_homes : List Home
    all_homes = with_home state.homes (home_at cell to)

    -- the progress with the words of the copy
    abbrev grown : Progress
    grown = record after { copied = after.copied + cell.size }

    -- the scavenge goes on with the copy on the list
    next_scavenging : Scavenging start handed new all grown (todo ++ to ∷ []) front
    next_scavenging =
        let goes_on = copying_goes_on (start_with start handed) start.young.half state.fixed (heap_words old.seat)
        (heap_words new.seat) old.free new.free state.homes todo front cell before.fill after.fill to slot place
        state.begun (two_halves start.young.half state.two) state.filled stood refers is_left head is_new.is_cell
        copied.copies in
        let some = (cells_have_words start.seat.space (heap_words old.seat) cell is_new.is_cell).0 in
        let more = one_home_more (size_of state.fixed) state.homes (home_at cell to) in
        let Done : List Home → List ℕ → Type 0 = λ homes list.
        OthersAreDone (start_with start handed) state.fixed (heap_words new.seat) homes list front in
        let done : Done all_homes (to ∷ todo) =
        subst (λ (homes : List Home). Done homes (to ∷ todo)) goes_on.are (goes_on.others state.others) in
        record {
          fixed = state.fixed;
          homes = all_homes;
          two = state.two;
          bounded = state.bounded;
          quiet = λ mark. state.quiet (sym copied.changes.seat.phase ∙ mark);
          begun = state.begun;
          filled = subst (λ (homes : List Home). CopiesFillRooms (start_with start handed) state.fixed
              (heap_words new.seat)
              new.free
              homes after.fill) goes_on.are goes_on.filled;
          copied = omega (arith, copied.same, state.copied, more, is_new.size);
          placed = copied.placed;
          kept = copied.kept;
          listed = λ at there. elim (Contains-append_cases todo (to ∷ []) at there) [
            | inl among ↦
                let listed = state.listed at among in
                (listed.0, old_in state.homes (home_at cell to) listed.0 listed.1, listed.2)
            | inr last ↦ (home_at cell to, new_in state.homes (home_at cell to), one_in to at last)
          ];
          few = omega (arith, copied.same, some, state.few, length-append todo (to ∷ []));
          others = λ other from one live points is.
              to_do_alike (last_as_first todo to) (done other from one live points is);
          changes = changes_again state.changes copied.changes;
        }

    -- and the cell has its home there
    pub moved_by : HasMoved start handed old new all before grown todo (todo ++ to ∷ []) front cell.at to state
    unfolding next_scavenging
    moved_by =
        let some = (cells_have_words start.seat.space (heap_words old.seat) cell is_new.is_cell).0 in
        record {
          on = record {
            next = next_scavenging;
            same = refl;
            kept = λ home there. old_in state.homes (home_at cell to) home there;
            grown = record {
              more = omega (arith, copied.same);
              grows = omega (arith, copied.same, some, length-append todo (to ∷ []));
            };
          };
          home = home_at cell to;
          among = new_in state.homes (home_at cell to);
          from = refl;
          stands = refl;
          live = λ other from one live points.
              ap reference_in (live_spared state.begun.laid state.filled.copying copied.spares other from live)
              ∙ points;
        }
