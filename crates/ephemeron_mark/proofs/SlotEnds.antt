-- Where the slots end that marking visits, by the kind of the cell.
use Rattle.std.proofs.Common.{◌≡◌, ◌≢◌, ℕ, ◌+◌, ◌<◌, All, Contains, refl, arith}
use Rattle.std.proofs.lemmas.List.Elements.{All-contains}
use Rattle.tagged_word.specs.declared.layout.Kind.{Kind}
use Rattle.tagged_word.specs.declared.layout.Kind.TheVariants as kind
use Rattle.tagged_word.specs.declared.layout.LayoutWord.{LayoutWord}
use Rattle.tagged_word.specs.Cells.{plain_head, store_slot, scavenge_offsets, tagged_offsets, tagged_offsets_of}
use Rattle.tagged_word.proofs.Members.{one_in}
use Rattle.cell_layout.proofs.NextSlots.{all_below}
use Rattle.live_cells.proofs.Slots.{marking_slots}
use Rattle.heap_walk.proofs.SlotEnds as visited

-- those of a plain cell end behind the in-object ones that are used
pub plain_ends : (layout : LayoutWord) (long : ℕ) → layout.kind ≡ kind.Plain
    → All (λ offset. offset < plain_head + layout.used) (tagged_offsets layout long)
plain_ends layout long plain =
    let end : ℕ = plain_head + layout.used in
    all_below (tagged_offsets layout long) end (λ offset there.
    All-contains (λ one. one < end) (scavenge_offsets layout long) offset (visited.plain_ends layout long plain)
    (marking_slots layout.kind layout long offset there))

-- a cell that is neither plain nor a store has no slot but that for a store or table
other_end : (k : Kind) (layout : LayoutWord) (long offset : ℕ) → k ≢ kind.Plain → k ≢ kind.Store
    → Contains (tagged_offsets_of k layout long) offset → offset < store_slot + 1
other_end kind.Plain layout long offset plain store there = absurd (plain refl)
other_end kind.List layout long offset plain store there = omega (arith, one_in store_slot offset there)
other_end kind.Weak layout long offset plain store there = omega (arith, one_in store_slot offset there)
other_end kind.Store layout long offset plain store there = absurd (store refl)
other_end kind.Table layout long offset plain store there = absurd (omega (arith, there.1))
other_end kind.Boxed layout long offset plain store there = absurd (omega (arith, there.1))
other_end kind.Filler layout long offset plain store there = absurd (omega (arith, there.1))
other_end kind.Gap layout long offset plain store there = absurd (omega (arith, there.1))

-- so they end behind that
pub other_ends : (layout : LayoutWord) (long : ℕ) → layout.kind ≢ kind.Plain → layout.kind ≢ kind.Store
    → All (λ offset. offset < store_slot + 1) (tagged_offsets layout long)
other_ends layout long plain store =
    all_below (tagged_offsets layout long) (store_slot + 1)
    (λ offset there. other_end layout.kind layout long offset plain store there)
