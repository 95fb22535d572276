-- The slots that marking visits, those that a scavenge visits, and what the store of an object is.
use Rattle.std.proofs.Common.{◌≡◌, ℕ, List, drop, Contains, IsTrue, ap, subst, arith}
use Rattle.std.proofs.lemmas.Bool.{false≢true}
use Rattle.tagged_word.specs.declared.layout.Kind.TheVariants as kind
use Rattle.tagged_word.specs.Cells.{tagged_offsets_of, scavenge_offsets_of, store_head, is_object_kind}
use Rattle.heap_model.specs.Types.{Kind, LayoutWord, Cell}
use Rattle.heap_model.specs.Heaps.{Heap, HasCell}
use Rattle.heap_model.specs.Slots.{RefersTo, HoldsStore}
use Rattle.heap_model.specs.Kinds.{Pair, pairs_in, HasTable}
use Rattle.heap_model.proofs.CellsApart.{one_words}
use Rattle.heap_model.proofs.WordClasses.{undefined_refers_not}
use Rattle.heap_model.proofs.SlotWords.{same_target}

-- what a scavenge visits of an object or of a store, marking visits
pub object_slots : (k : Kind) (layout : LayoutWord) (long offset : ℕ) → IsTrue (is_object_kind k)
    → Contains (scavenge_offsets_of k layout long) offset → Contains (tagged_offsets_of k layout long) offset
object_slots kind.Plain layout long offset object there = there
object_slots kind.List layout long offset object there = there
object_slots kind.Weak layout long offset object there = there
object_slots _ layout long offset object there = absurd (false≢true object)

-- what marking visits, a scavenge visits
pub marking_slots : (k : Kind) (layout : LayoutWord) (long offset : ℕ)
    → Contains (tagged_offsets_of k layout long) offset → Contains (scavenge_offsets_of k layout long) offset
marking_slots kind.Plain layout long offset there = there
marking_slots kind.List layout long offset there = there
marking_slots kind.Weak layout long offset there = there
marking_slots kind.Store layout long offset there = there
marking_slots kind.Table layout long offset there = absurd (omega (arith, there.1))
marking_slots kind.Boxed layout long offset there = there
marking_slots kind.Filler layout long offset there = there
marking_slots kind.Gap layout long offset there = there

-- what holds a store refers to one
pub holds_kind : {heap : Heap} {of : Kind} {word : ℕ} {slots : List ℕ} {other : Cell} {others : List ℕ}
    → HoldsStore heap of word slots → RefersTo heap word other others → other.layout.kind ≡ of
holds_kind {other = other} HoldsStore.none refers = absurd (undefined_refers_not other.at refers.refers)
holds_kind {of = of} (HoldsStore.store word cell words target is) refers =
    subst (λ (one : Cell). one.layout.kind ≡ of) (same_target target refers) is

-- what has a table refers to one
pub table_kind : {heap : Heap} {word : ℕ} {pairs : List Pair} {other : Cell} {others : List ℕ}
    → HasTable heap word pairs → RefersTo heap word other others → other.layout.kind ≡ kind.Table
table_kind {other = other} HasTable.none refers = absurd (undefined_refers_not other.at refers.refers)
table_kind (HasTable.table word cell words target is power) refers =
    subst (λ (one : Cell). one.layout.kind ≡ kind.Table) (same_target target refers) is

-- the pairs of a table are those of the cell to which the word refers
pub table_pairs : {heap : Heap} {word : ℕ} {pairs : List Pair} {other : Cell} {others : List ℕ}
    → HasTable heap word pairs → RefersTo heap word other others → pairs ≡ pairs_in (drop store_head others)
table_pairs {other = other} HasTable.none refers = absurd (undefined_refers_not other.at refers.refers)
table_pairs {heap} (HasTable.table word cell words target is power) refers =
    let has = subst (λ (one : Cell). HasCell heap one words) (same_target target refers) target.has in
    ap (λ all. pairs_in (drop store_head all)) (one_words has refers.has)
