-- What is live from cells that are live is live: so a marking may go on from what it marked.
use Rattle.std.proofs.Common.{ℕ, List, [], Contains}
use Rattle.heap_model.specs.Heaps.{Heap}
use Rattle.live_cells.specs.Live.{IsLive, IsStart}
use Rattle.heap_model.proofs.BoundHeaps.{none_in}
use Rattle.ephemeron_mark.specs.Marked.{IsLiveAt, IsLiveFrom}

-- a given cell is live
pub live_at_once : {heap : Heap} {given : List ℕ} (at : ℕ) → Contains given at → IsLiveFrom heap given at
live_at_once at there = IsLive.start at (IsStart.among there)

-- what is live where the starts are, is live where they are live
pub live_through : {heap : Heap} {starts others : ℕ → Type 0} → ((at : ℕ) → starts at → IsLive heap others at)
    → (at : ℕ) → IsLive heap starts at → IsLive heap others at
live_through each at (IsLive.start at' start) = each at start
live_through each at (IsLive.slot from at' live slot) = IsLive.slot from at (live_through each from live) slot
live_through each at (IsLive.entry table key at' live_table live_key entry) =
    IsLive.entry table key at (live_through each table live_table) (live_through each key live_key) entry

-- a start is live, where those that are given are
start_again : {heap : Heap} {given more : List ℕ} → ((at : ℕ) → Contains more at → IsLiveFrom heap given at)
    → (at : ℕ) → IsStart heap more at → IsLiveFrom heap given at
start_again each at (IsStart.root target) = IsLive.start at (IsStart.root target)
start_again each at (IsStart.among there) = each at there

-- with nothing given, a start is what a root word refers to
start_is_root : {heap : Heap} (at : ℕ) → IsStart heap [] at → IsLiveAt heap at
start_is_root at (IsStart.root target) = IsLive.start at target
start_is_root at (IsStart.among there) = absurd (none_in at there)

-- where each of some cells is live from given ones, so is what is live from them
pub live_again : {heap : Heap} {given more : List ℕ} → ((at : ℕ) → Contains more at → IsLiveFrom heap given at)
    → (at : ℕ) → IsLiveFrom heap more at → IsLiveFrom heap given at
live_again {heap} {given} {more} each at live = live_through (start_again each) at live

-- with nothing given, the same is live as from root words
pub live_from_roots : {heap : Heap} (at : ℕ) → IsLiveFrom heap [] at → IsLiveAt heap at
live_from_roots at live = live_through start_is_root at live

pub live_with_none : {heap : Heap} (at : ℕ) → IsLiveAt heap at → IsLiveFrom heap [] at
live_with_none at live = live_through (λ one target. IsLive.start one (IsStart.root target)) at live
