-- What stays where nothing changes but what is known of the cycle.
use Rattle.std.proofs.Common.{◌≡◌, ℕ, ◌<◌, inl, inr, Contains, sym, subst}
use Rattle.std.proofs.lemmas.Bool.{cases_lt}
use Rattle.std.proofs.lemmas.List.Elements.{All-contains}
use Rattle.cycle_state.proofs.Claimed.{claims_go_on}
use Rattle.cycle_state.proofs.GoingOn.{goes_on_itself}
use Rattle.heap_table.specs.Phases.{Mark}
use Rattle.mark_laws.proofs.Listing.{some_weaker}
use Rattle.mark_laws.specs.Types.{Kind}
use Rattle.mark_world.specs.Cycles.{Cycle}
use Rattle.mark_world.specs.Pages.{target}
use Rattle.mark_world.specs.Soundness.{AreIn}
use Rattle.page_space.specs.Extents.{eden_start}
use Rattle.write_barrier.specs.MutatorState.{Mutator, cycle_after, world_of}
use Rattle.write_barrier.specs.Storing.{IsReadable, MayChange, MayHold}
use Rattle.write_barrier.proofs.PutWords.{after_behind, after_open}
use Rattle.write_barrier.proofs.SeenWorlds.{SeesOn}

-- the mutator, of whose cycle something else is known
abbrev pub knowing : Mutator → Cycle → Mutator
knowing main cycle = record main { cycle = cycle }

-- where a cycle is open and cells may be read, the world goes on to that of what is known now
abbrev pub MarksOn : Mutator → Cycle → Type 0
MarksOn main cycle = main.seat.phase ≡ Mark → IsReadable main → SeesOn (world_of main) (world_of (knowing main cycle))

module _ {main : Mutator} {cycle : Cycle} where
  -- cells may be read
  pub marked_readable : MarksOn main cycle → main.seat.phase ≡ Mark → IsReadable main
      → IsReadable (knowing main cycle)
  marked_readable marks mark readable = record {
    bounded = readable.bounded;
    layouts = readable.layouts;
    view = (marks mark readable).sound;
  }

  -- cells may be changed that might
  pub may_change_marked : {at size : ℕ} {kind : Kind} → MarksOn main cycle → MayChange main at size kind
      → MayChange (knowing main cycle) at size kind
  may_change_marked {at} {size} {kind} marks may inside mark =
      let own = may inside mark in
      record {
        readable = marked_readable marks mark own.readable;
        claims = claims_go_on (world_of main) (world_of (knowing main cycle)) at size kind
            (marks mark own.readable).goes own.claims;
      }

  -- and a slot may hold the words that it might, as no cell is born no more
  pub may_hold_marked : {word : ℕ} → AreIn cycle.born main.cycle.born → MayHold main word
      → MayHold (knowing main cycle) word
  may_hold_marked {word} born holds mark =
      let held = holds mark in
      record {
        fits = held.fits;
        born = some_weaker (Contains main.cycle.born) (Contains cycle.born)
            (target (eden_start main.seat.space) word)
            (λ to there. All-contains (Contains cycle.born) main.cycle.born to born there) held.born;
      }

-- a step that goes with a cell of a page changes what is known of the cycle, if that goes on
pub step_marks : (main : Mutator) (at : ℕ) (next : Cycle)
    → (at < eden_start main.seat.space → main.seat.phase ≡ Mark → IsReadable main
    → SeesOn (world_of main) (world_of (knowing main next))) → MarksOn main (cycle_after main at next)
step_marks main at next inside mark readable = elim (cases_lt at (eden_start main.seat.space)) [
  | inl of_page ↦ subst (λ (one : Cycle). SeesOn (world_of main) (world_of (knowing main one)))
      (sym (after_open main at next readable of_page mark)) (inside of_page mark readable)
  | inr beyond ↦ subst (λ (one : Cycle). SeesOn (world_of main) (world_of (knowing main one)))
      (sym (after_behind main at next readable beyond))
      (record { sound = readable.view; goes = goes_on_itself (world_of main) })
]
