-- What a command may put in a cell that it may change.
use Rattle.std.proofs.Common.{◌≡◌, ℕ, ◌+◌, ◌-◌, ◌<◌, ◌≤◌, inl, inr, true, false, IsTrue, Contains, Some}
use Rattle.std.proofs.Common.{slice_index, subst, arith}
use Rattle.cell_layout.specs.Cells.{layouts_in}
use Rattle.cycle_state.specs.Claims.{is_head_in}
use Rattle.cycle_state.specs.Cycles.{main_of, words_of_pages}
use Rattle.cycle_state.proofs.Claimed.{claims_allow_cells, claims_allow_headers, claims_allow_owned, claims_allow_slots}
use Rattle.heap_table.specs.Phases.{Mark}
use Rattle.mark_laws.specs.Types.{Kind, Reading}
use Rattle.mark_laws.proofs.Stores.{free_is}
use Rattle.mark_world.specs.Conditions.{AreSureAfter}
use Rattle.mark_world.specs.Coverage.{cell_of}
use Rattle.mark_world.specs.Pages.{is_free, is_quiet}
use Rattle.mark_world.specs.Safety.{IsSafe}
use Rattle.mark_world.specs.declared.event.Event.TheVariants as event
use Rattle.page_space.specs.Extents.{eden_start}
use Rattle.write_barrier.specs.Marking.{MayIn, MayPut, MayPutFree, MayPutHeader}
use Rattle.write_barrier.specs.MutatorState.{Mutator, heap_of, world_of}
use Rattle.write_barrier.specs.Seats.{heap_words}
use Rattle.write_barrier.specs.Storing.{MayChange, MayHold}

-- where a cycle is open this holds, if the address is one of a page
abbrev pub OpenAt : Mutator → ℕ → Type 0 → Type 0
OpenAt main at P = at < eden_start main.seat.space → main.seat.phase ≡ Mark → P

-- the cell at the address is a free start, which helpers may read
abbrev pub IsFreeAt : Mutator → ℕ → Type 0
IsFreeAt main at = IsTrue (is_free (main_of main.cycle) at)

-- the word would change the header at the address safely
abbrev pub ChangesSafely : Mutator → ℕ → ℕ → Type 0
ChangesSafely main at word =
    IsSafe (layouts_in main.seat.space (heap_words main.seat)) (slice_index (words_of_pages (heap_of main)) at) word

-- slots that are tagged only then have no target, or one that the mutator is sure of
abbrev pub HasSureNewSlots : Mutator → ℕ → ℕ → Type 0
HasSureNewSlots main at word =
    AreSureAfter (eden_start main.seat.space) (words_of_pages (heap_of main))
    (layouts_in main.seat.space (heap_words main.seat)) (main_of main.cycle) at word

-- what the mutator made black is no free start
not_free : (main : Mutator) (at : ℕ) → Contains main.cycle.mine at → IsFreeAt main at → ⊥
not_free main at mine free = (free_is (main_of main.cycle) at free).1 mine

module _ {main : Mutator} {at size : ℕ} {kind : Kind} where
  -- a word that slots may hold goes into a slot
  pub may_put_slot : (offset word : ℕ) → MayChange main at size kind → offset < size → is_head_in kind offset ≡ false
      → MayHold main word → MayPut main (at + offset) (event.StoreSlot (at + offset) word)
  may_put_slot offset word may within no_head holds of_page mark =
      let own = may (omega (arith, of_page)) mark in
      let word_holds = holds mark in
      record {
        layouts = own.readable.layouts;
        may = claims_allow_slots (world_of main) at size kind offset word own.claims within no_head word_holds.fits
            word_holds.born;
      }

  -- any word goes where helpers visit by no word
  pub may_put_word : (offset word : ℕ) → MayChange main at size kind → offset < size
      → OpenAt main at (IsFreeAt main at → (cell : Reading) → cell_of (world_of main) at ≡ Some cell
      → is_quiet cell offset ≡ true)
      → MayPut main (at + offset) (event.StoreOwned (at + offset) word)
  may_put_word offset word may within quiet of_page mark =
      let inside : at < eden_start main.seat.space = omega (arith, of_page) in
      let own = may inside mark in
      record {
        layouts = own.readable.layouts;
        may = claims_allow_owned (world_of main) at size kind offset own.claims within (quiet inside mark);
      }

  -- and anywhere in a cell that the mutator made black
  pub may_put_mine : (offset word : ℕ) → MayChange main at size kind → offset < size
      → OpenAt main at (Contains main.cycle.mine at) → MayPut main (at + offset) (event.StoreOwned (at + offset) word)
  may_put_mine offset word may within mine =
      may_put_word offset word may within (λ inside mark free. absurd (not_free main at (mine inside mark) free))

  -- a header changes safely
  pub may_put_header : (word : ℕ) → MayChange main at size kind → 0 < size
      → OpenAt main at (ChangesSafely main at word)
      → OpenAt main at (IsFreeAt main at → HasSureNewSlots main at word) → MayPutHeader main at word
  may_put_header word may some safe sure inside mark =
      let own = may inside mark in
      inl (record {
        layouts = own.readable.layouts;
        may = claims_allow_headers (world_of main) at size kind word own.claims some (safe inside mark)
            (sure inside mark);
      })

  -- that of a cell which the mutator made black changes anyhow
  pub may_put_own_header : (word : ℕ) → MayChange main at size kind → 0 < size
      → OpenAt main at (Contains main.cycle.mine at) → MayPutHeader main at word
  may_put_own_header word may some mine inside mark =
      let own = may inside mark in
      let here : at + 0 ≡ at = omega arith in
      inr (record {
        layouts = own.readable.layouts;
        may = subst (λ (to : ℕ). MayIn (world_of main) (event.StoreOwned to word)) here
            (claims_allow_owned (world_of main) at size kind 0 own.claims some
            (λ free. absurd (not_free main at (mine inside mark) free)));
      })

  -- a born cell is made black
  pub may_put_black : MayChange main at size kind → OpenAt main at (Contains main.cycle.born at)
      → MayPut main at (event.Blacken at)
  may_put_black may is_born inside mark =
      record { layouts = (may inside mark).readable.layouts; may = is_born inside mark }

  -- a new cell begins in a cell that the mutator made black
  pub may_put_new : (offset : ℕ) → MayChange main at size kind → offset < size
      → OpenAt main at (Contains main.cycle.mine at) → MayPut main (at + offset) (event.NewBlack (at + offset))
  may_put_new offset may within mine of_page mark =
      let inside : at < eden_start main.seat.space = omega (arith, of_page) in
      let own = may inside mark in
      record {
        layouts = own.readable.layouts;
        may = claims_allow_cells (world_of main) at size kind offset own.claims within (mine inside mark);
      }

  -- words of it become a free cell
  pub may_put_free : (offset count : ℕ) → MayChange main at size kind → offset + count ≤ size
      → OpenAt main at (Contains main.cycle.mine at) → MayPutFree main (at + offset) count
  may_put_free offset count may within mine of_page mark =
      let inside : at < eden_start main.seat.space = omega (arith, of_page) in
      let own = may inside mark in
      record {
        layouts = own.readable.layouts;
        read = own.readable.view.read;
        may = λ one word from to.
            let there : at + (one - at) ≡ one = omega (arith, from) in
            subst (λ (k : ℕ). MayIn (world_of main) (event.StoreOwned k word)) there
            (claims_allow_owned (world_of main) at size kind (one - at) own.claims (omega (arith, within, from, to))
            (λ free. absurd (not_free main at (mine inside mark) free)));
      }
