-- Words of an object's cell and of the one store or table that it owns were put, and the box made that a slot came to
-- hold: so words of the object's own cells were written, and it takes the value.
use Rattle.std.proofs.Common.{◌≡◌, ◌≢◌, ℕ, ◌+◌, ◌≤◌, ◌<◌, List, [], ◌∷◌, Contains, false, length, slice_get, refl, ◌∙◌}
use Rattle.std.proofs.Common.{sym, ap, subst, arith, add-zero}
use Rattle.std.proofs.lemmas.Bool.{false≢true}
use Rattle.tagged_word.specs.declared.layout.Kind.TheVariants as kind
use Rattle.tagged_word.specs.Cells.{has_length, store_head, store_slot, is_object_kind}
use Rattle.tagged_word.proofs.Members.{first_in, one_in}
use Rattle.nursery.specs.Young.{HasRoom}
use Rattle.object_graph.specs.declared.value.Rep.TheVariants as rep
use Rattle.object_graph.specs.Invariants.{IsValue}
use Rattle.object_graph.specs.Values.{rep_of}
use Rattle.write_barrier.specs.Seats.{heap_words}
use Rattle.heap_model.specs.Types.{Kind, Value, Cell}
use Rattle.heap_model.specs.Heaps.{HasCell, words_of_cell}
use Rattle.heap_model.specs.Kinds.{HasWord, count_offset}
use Rattle.heap_model.specs.Wholeness.{Whole, NamesFrom, IsOwnedKind}
use Rattle.heap_model.proofs.CellOutcomes.{object_is_no_filler, owned_is_no_filler}
use Rattle.heap_model.proofs.CellsApart.{IsOfCell, cells_apart}
use Rattle.heap_model.proofs.OneOwner.{names_store}
use Rattle.heap_model.proofs.SlotWords.{IsStoreKind}
use Rattle.write_barrier.specs.MutatorState.{Mutator, heap_of, IsTied, reserved}
use Rattle.object_cells.specs.CellWrites.{Owns, WritesOwnCells}
use Rattle.object_cells.specs.Contents.{next_at}
use Rattle.object_cells.specs.Made.{PutsWords, content_need, with_content}
use Rattle.object_cells.specs.declared.content.SlotContent.{SlotContent}
use Rattle.object_cells.proofs.HeldContents.{HoldsValue}
use Rattle.object_cells.proofs.MadeBoxes.{made_boxes, BoxStands, made_row, with_content_stays}
use Rattle.object_cells.proofs.OwnCapacities.{owned_is_store}
use Rattle.object_cells.proofs.OwnPuts.{PutsOwn, own_sized, own_writes, one_owned, box_put}
use Rattle.object_cells.proofs.TakenValues.{TakesValue, IsItsStore, only_store}
use Rattle.object_cells.proofs.UnusedWords.{next_apart}

-- Once the box was made that a slot came to hold, only the count of the object was put, and words behind the head of
-- the cell to which the object's slot for a store or table refers.
pub record PutsBeside (owner owned : Kind) (old new : Mutator) (cell other : Cell) (store : ℕ) (holds : SlotContent)
    (words : List ℕ) : Type 0 where
  pub owns : Owns owner owned
  pub tied : IsTied old
  pub whole : Whole (heap_of old)
  pub has : HasCell (heap_of old) cell (words_of_cell (heap_of old) cell)
  pub of_kind : cell.layout.kind ≡ owner
  pub counts : cell.size ≡ 3
  pub other_has : HasCell (heap_of old) other (words_of_cell (heap_of old) other)
  pub other_long : store_head ≤ other.size
  pub is : IsItsStore owned store other
  pub slot : HasWord (words_of_cell (heap_of old) cell) store_slot store
  pub room : HasRoom old.young (content_need holds)
  pub puts : PutsWords (reserved old (content_need holds)) new words
  pub long : length words ≡ length (heap_words old.seat)
  pub beside : (a : ℕ) → a ≢ cell.at + count_offset → (other.at + store_head ≤ a → a < other.at + other.size → ⊥)
      → slice_get words a ≡ slice_get (with_content (heap_words old.seat) holds (next_at old)) a

module _ {owner owned : Kind} {old new : Mutator} {cell other : Cell} {store : ℕ} {holds : SlotContent} {words : List ℕ}
    (putting : PutsBeside owner owned old new cell other store holds words) where
  -- the object's cell is no filler
  pub own_no_filler : cell.layout.kind ≢ kind.Filler
  own_no_filler =
      object_is_no_filler cell.layout.kind (ap is_object_kind putting.of_kind ∙ putting.owns.object)

  -- nor is the other
  pub other_no_filler : other.layout.kind ≢ kind.Filler
  other_no_filler =
      owned_is_no_filler other.layout.kind (subst IsOwnedKind (sym putting.is.of_kind) putting.owns.belongs)

  -- no word of a cell that is no filler is one of the box
  pub not_made : {one : Cell} {all : List ℕ} (a : ℕ) → one.layout.kind ≢ kind.Filler → HasCell (heap_of old) one all
      → IsOfCell one a → next_at old ≤ a → a < next_at old + content_need holds → ⊥
  not_made a no_filler has of_one from below =
      next_apart (content_need holds) a putting.tied putting.whole.rows putting.room no_filler has of_one from below

  -- no word of the object's cell is one of the other
  pub apart : (a b : ℕ) → IsOfCell cell a → IsOfCell other b → a ≢ b
  apart a b of_cell of_other same =
      let one = cells_apart a putting.whole.rows putting.has putting.other_has of_cell
      (subst (IsOfCell other) (sym same) of_other) in
      false≢true (sym putting.owns.short ∙ sym (ap has_length putting.of_kind)
      ∙ ap (λ (c : Cell). has_length c.layout.kind) one ∙ ap has_length putting.is.of_kind ∙ putting.owns.long)

  -- the count is one of the object's
  of_count : IsOfCell cell (cell.at + count_offset)
  of_count = record { from = omega arith; below = omega (arith, putting.counts) }

  -- so other words of cells that are no fillers stay
  stays : {one : Cell} {all : List ℕ} (a : ℕ) → one.layout.kind ≢ kind.Filler → HasCell (heap_of old) one all
      → IsOfCell one a → a ≢ cell.at + count_offset → (other.at + store_head ≤ a → a < other.at + other.size → ⊥)
      → slice_get (heap_words new.seat) a ≡ slice_get (heap_words old.seat) a
  stays a no_filler has of_one not_count not_slot =
      ap (λ all. slice_get all a) putting.puts.heap ∙ putting.beside a not_count not_slot
      ∙ with_content_stays (heap_words old.seat) holds (next_at old) a (not_made a no_filler has of_one)

  -- and so words of the object's own cells were put
  puts : PutsOwn owner old new cell (other ∷ []) (content_need holds) words
  puts = record {
    tied = putting.tied;
    whole = putting.whole;
    has = putting.has;
    of_kind = putting.of_kind;
    stood = λ one among. subst (λ (c : Cell). HasCell (heap_of old) c (words_of_cell (heap_of old) c))
        (one_in other one among) putting.other_has;
    room = putting.room;
    puts = putting.puts;
    long = putting.long;
    stay = λ a not_cell not_others not_new. putting.beside a
        (λ same. not_cell (record { from = omega (arith, same); below = omega (arith, same, putting.counts) }))
        (λ from below. not_others other (first_in other []) (record { from = omega (arith, from); below = below }))
        ∙ with_content_stays (heap_words old.seat) holds (next_at old) a not_new;
  }

  -- the first words of both cells stay
  own_stays : (k : ℕ) → k < 2
      → slice_get (heap_words new.seat) (cell.at + k) ≡ slice_get (heap_words old.seat) (cell.at + k)
  own_stays k less =
      let of_cell : IsOfCell cell (cell.at + k) =
      record { from = omega arith; below = omega (arith, less, putting.counts) } in
      stays (cell.at + k) own_no_filler putting.has of_cell (λ same. omega (arith, same, less)) (λ from below.
      apart (cell.at + k) (cell.at + k) of_cell (record { from = omega (arith, from); below = below }) refl)

  head_stays : (k : ℕ) → k < 2
      → slice_get (heap_words new.seat) (other.at + k) ≡ slice_get (heap_words old.seat) (other.at + k)
  head_stays k less =
      let of_other : IsOfCell other (other.at + k) =
      record { from = omega arith; below = omega (arith, less, putting.other_long) } in
      stays (other.at + k) other_no_filler putting.other_has of_other
      (λ same. apart (cell.at + count_offset) (other.at + k) of_count of_other (sym same))
      (λ from below. omega (arith, from, less))

  -- the box stands there
  stands : BoxStands (heap_of new) holds (next_at old)
  stands =
      box_put (heap_words old.seat) holds (next_at old) puts refl (omega arith) (omega arith) (λ b from below.
      ap (λ all. slice_get all b) putting.puts.heap
      ∙ putting.beside b (λ same. not_made b own_no_filler putting.has
      (record { from = omega (arith, same); below = omega (arith, same, putting.counts) }) from below)
      (λ low high. not_made b other_no_filler putting.other_has
      (record { from = omega (arith, low); below = high }) from below))

  -- so cells were written
  pub writes : WritesOwnCells owner owned (heap_of old) (heap_of new) cell cell (other ∷ [])
      (made_boxes holds (next_at old))
  writes =
      own_writes (made_boxes holds (next_at old)) puts
      (subst (λ a. slice_get (heap_words new.seat) a ≡ slice_get (heap_words old.seat) a) (add-zero cell.at)
      (own_stays 0 (omega arith)))
      (one_owned putting.other_has putting.is.of_kind head_stays)
      (made_row (heap_of new) holds (next_at old) (own_sized puts) stands)

  -- which belong to the object
  pub belong : (one : Cell) → Contains (other ∷ []) one → (slot : ℕ) × NamesFrom (heap_of old) cell slot one.at
  belong one among = (
    cell.at + store_slot,
    subst (λ (c : Cell). NamesFrom (heap_of old) cell (cell.at + store_slot) c.at) (one_in other one among)
        (names_store store putting.has (ap is_object_kind putting.of_kind ∙ putting.owns.object) putting.slot
        (record { refers = putting.is.refers; has = putting.other_has })
        (subst IsStoreKind (sym putting.is.of_kind) (owned_is_store owned putting.owns.belongs putting.owns.long))),
  )

  -- it refers to the same store or table
  pub slot_stays : slice_get (heap_words new.seat) (cell.at + store_slot)
      ≡ slice_get (heap_words old.seat) (cell.at + store_slot)
  slot_stays = own_stays store_slot (omega arith)

  -- and takes the value that the slot came to hold
  pub takes : {what : Value} (objects : ℕ) → IsValue objects what
      → HoldsValue (heap_of old) false rep.Small (rep_of what) what holds
      → TakesValue owner owned (heap_of old) (heap_of new) cell cell (other ∷ []) [] holds (next_at old) what store
  takes objects fits value = record {
    owns = putting.owns;
    whole = putting.whole;
    writes = writes;
    belong = belong;
    each = only_store putting.is;
    stands = stands;
    objects = objects;
    fits = fits;
    value = value;
  }
