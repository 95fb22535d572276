-- The steps of a trim from the left up to the one that makes the list refer to its store: what stays after each.
use Rattle.std.proofs.Common.{◌≡◌, ℕ, ◌+◌, ◌^◌, ◌<◌, ◌≤◌, arith}
use Rattle.tagged_word.specs.Headers.{header_bits}
use Rattle.tagged_word.specs.Cells.{store_slot}
use Rattle.heap_model.specs.Slots.{reference_word}
use Rattle.write_barrier.specs.Marking.{with_blackened, with_published}
use Rattle.write_barrier.specs.MutatorState.{Mutator, heap_of, with_slot, with_word}
use Rattle.write_barrier.specs.Storing.{MayHold}
use Rattle.write_barrier.proofs.StoresOn.{may_hold_stays}
use Rattle.object_cells.specs.Formats.{store_header}
use Rattle.object_cells.specs.ListObjects.{IsListReady}
use Rattle.object_cells.specs.Made.{IsStoreAt}
use Rattle.object_cells.specs.declared.stores.Store.{Store}
use Rattle.object_cells.proofs.ListCells.{store_has_room}
use Rattle.array_trim.specs.TrimSteps.{MayTrim}
use Rattle.array_trim.proofs.OwnStores.{may_begin}
use Rattle.array_trim.proofs.TrimMoves.{MayBegin, Trims, blackened_trims}
use Rattle.array_trim.proofs.TrimMoves.{link_put_trims}
use Rattle.array_trim.proofs.TrimMoves.{own_put_trims, published_may_hold, published_trims}

-- what the first step may do
pub begins : {main : Mutator} {list count gone : ℕ} (store : Store) → IsListReady main list count
    → IsStoreAt (heap_of main) list store → MayTrim main list → 1 ≤ gone → gone ≤ count
    → MayBegin main list store.at store.capacity
begins store ready is may some few =
    may_begin store ready is (omega (arith, store_has_room store ready is, some, few)) may

-- the trim once the new store is published
pub published_at : {old black begun : Mutator} {list count gone : ℕ} (store : Store) → IsListReady old list count
    → IsStoreAt (heap_of old) list store → MayTrim old list → 1 ≤ gone → gone ≤ count
    → black ≡ with_blackened old store.at → begun ≡ with_published black (store.at + gone)
    → Trims (with_published black (store.at + gone)) begun list store.at store.capacity
published_at {list = list} {gone = gone} store ready is may some few blackens publishes =
    published_trims (blackened_trims list store.at store.capacity (begins store ready is may some few) blackens)
    (store.at + gone) (omega arith) (omega (arith, store_has_room store ready is, few)) publishes

-- once its header is put
pub headed_at : {old black begun headed : Mutator} {list count gone : ℕ} (store : Store) → IsListReady old list count
    → IsStoreAt (heap_of old) list store → MayTrim old list → 1 ≤ gone → gone ≤ count
    → black ≡ with_blackened old store.at → begun ≡ with_published black (store.at + gone)
    → headed ≡ with_word begun (store.at + gone) (header_bits store_header)
    → Trims (with_published black (store.at + gone)) headed list store.at store.capacity
headed_at {gone = gone} store ready is may some few blackens publishes puts =
    own_put_trims (published_at store ready is may some few blackens publishes) (store.at + gone)
    (header_bits store_header) (omega arith) (omega (arith, store_has_room store ready is, few)) puts

-- once its length is put
pub moved_at : {old black begun headed moved : Mutator} {list count gone : ℕ} (store : Store) (length : ℕ)
    → IsListReady old list count → IsStoreAt (heap_of old) list store → MayTrim old list → 1 ≤ gone → gone ≤ count
    → black ≡ with_blackened old store.at → begun ≡ with_published black (store.at + gone)
    → headed ≡ with_word begun (store.at + gone) (header_bits store_header)
    → moved ≡ with_word headed (store.at + gone + 1) length
    → Trims (with_published black (store.at + gone)) moved list store.at store.capacity
moved_at {gone = gone} store length ready is may some few blackens publishes puts_header puts_length =
    own_put_trims (headed_at store ready is may some few blackens publishes puts_header) (store.at + gone + 1) length
    (omega arith) (omega (arith, store_has_room store ready is, few)) puts_length

-- and a slot may hold a reference to it
pub may_link : {old black begun headed moved : Mutator} {list count gone : ℕ} (store : Store) (length : ℕ)
    → IsListReady old list count → IsStoreAt (heap_of old) list store → MayTrim old list → 1 ≤ gone → gone ≤ count
    → black ≡ with_blackened old store.at → begun ≡ with_published black (store.at + gone)
    → headed ≡ with_word begun (store.at + gone) (header_bits store_header)
    → moved ≡ with_word headed (store.at + gone + 1) length → store.at + gone < 2 ^ 32
    → MayHold moved (reference_word (store.at + gone))
may_link {list = list} {gone = gone} store length ready is may some few blackens publishes puts_header puts_length
    fits =
    may_hold_stays (moved_at store length ready is may some few blackens publishes puts_header puts_length).stores
    (published_may_hold (blackened_trims list store.at store.capacity (begins store ready is may some few) blackens)
    (store.at + gone) (omega arith) fits)

-- once the list refers to it
pub linked_at : {old black begun headed moved linked : Mutator} {list count gone : ℕ} (store : Store) (length : ℕ)
    → IsListReady old list count → IsStoreAt (heap_of old) list store → MayTrim old list → 1 ≤ gone → gone ≤ count
    → black ≡ with_blackened old store.at → begun ≡ with_published black (store.at + gone)
    → headed ≡ with_word begun (store.at + gone) (header_bits store_header)
    → moved ≡ with_word headed (store.at + gone + 1) length → store.at + gone < 2 ^ 32
    → linked ≡ with_slot moved (list + store_slot) (reference_word (store.at + gone))
    → Trims (with_published black (store.at + gone)) linked list store.at store.capacity
linked_at {gone = gone} store length ready is may some few blackens publishes puts_header puts_length fits links =
    link_put_trims (moved_at store length ready is may some few blackens publishes puts_header puts_length)
    (reference_word (store.at + gone))
    (may_link store length ready is may some few blackens publishes puts_header puts_length fits) links
